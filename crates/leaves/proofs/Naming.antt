-- How many parts name each, and those that none names: what taking leaves off begins with.
-- Assumes nothing.
use Prim.Native.Nat.{ℕ, suc, ◌+◌, ◌≤◌, ◌<◌}
use native.Mathlib.Omega.{arith}
use mathlib.Core.Path.{◌≡◌, refl, sym, ap, ◌∙◌}
use mathlib.Core.Logic.{◌≢◌}
use mathlib.Core.Bool.{Bool, true, false, cond}
use mathlib.Core.List.{List}
use borrow.Author.Tests.{eq-eqb, ne_eqb}
use lib.Dec.{eqb, lit≤}
use lib.ListN.{length, get_or, set}
use lib.Seq.{get_or-set_same, get_or-set_other}
use Rattle.std.specs.Int.{from_bool}
use Rattle.tree.specs.Scan.{count_below}
use Rattle.tree.specs.Tree.{parent}
use Rattle.tree.proofs.Scans.{by_equal, count-pos}
use Rattle.tree.proofs.Differences.{store-either}
use Rattle.leaves.specs.Leaves.{Wooded, names, left_at, Named, Taking}

-- one for true, and none for false
pub one_if : (b : Bool) → from_bool b ≡ cond b 1 0
one_if true = refl
one_if false = refl

pub one-at-most : (b : Bool) → from_bool b ≤ 1
one-at-most true = lit≤ tt
one-at-most false = lit≤ tt

-- the same sheet with as many cells
pub wooded-same : {s w w₀ : List ℕ} → Wooded s w₀ → length w ≡ length w₀ → Wooded s w
wooded-same g same = let room = g.room in record { one = g.one; small = g.small; room = omega arith }

-- an entry is a part
pub entry-part : {s w : List ℕ} → Wooded s w → (v : ℕ) → v < length s → get_or s v 0 < length s
unfolding parent
entry-part g v h = g.one.inside v h

-- ---- counting who names whom

-- none at first
pub named_start : {s w : List ℕ} → ((c : ℕ) → length s ≤ c → c < length s + length s → get_or w c 0 ≡ 0) → Named s w 0
unfolding count_below
named_start {s} zeros = record { counted = λ p h. zeros (length s + p) (omega arith) (omega arith) }

-- one more part
pub named_step : {s w : List ℕ} {v at y : ℕ} → Wooded s w → Named s w v → v < length s → at ≡ length s + get_or s v 0 → y ≡ get_or w at 0 + 1
    → Named s (set w at y) (v + 1)
unfolding count_below parent
named_step {s} {w} {v} {at} {y} g l h there one_more = record {
  counted = λ p b.
      let e : v + 1 ≡ suc v = omega arith in
      let before = l.counted p b in
      let inside = g.one.inside v h in
      let room = g.room in
      rw e (store-either w at y (length s + p) (count_below (names s p) v + cond (names s p v) 1 0) (omega arith)
      (λ q.
      let is : parent s v ≡ p = omega arith in
      let cell : get_or w at 0 ≡ left_at s w p = ap (λ (i : ℕ). get_or w i 0) (sym q) in
      rw (eq-eqb _ _ is) (omega arith))
      (λ q. let other : parent s v ≢ p = λ is. q (omega arith) in rw (ne_eqb _ _ other) (omega arith)));
}

-- ---- the parts that none names

-- of the parts below v, those are in the order, in rising number
pub record Seeding (s w : List ℕ) (v found : ℕ) : Type 0 where
  pub named : Named s w (length s)
  pub within : v ≤ length s
  pub most : found ≤ v
  pub rising : (i j : ℕ) → i < j → j < found → get_or w i 0 < get_or w j 0
  pub below : (i : ℕ) → i < found → get_or w i 0 < v
  pub bare : (i : ℕ) → i < found → left_at s w (get_or w i 0) ≡ 0
  pub listed : (u : ℕ) → u < v → left_at s w u ≡ 0 → (i : ℕ) × (i < found) × (get_or w i 0 ≡ u)

pub seeding-start : {s w : List ℕ} → Named s w (length s) → Seeding s w 0 0
seeding-start l = record {
  named = l;
  within = omega arith;
  most = omega arith;
  rising = λ i j h b. absurd (omega arith);
  below = λ i h. absurd (omega arith);
  bare = λ i h. absurd (omega arith);
  listed = λ u h. absurd (omega arith);
}

-- v is stored behind them, and is one of them where none names it
pub seeding-step : {s w w₀ : List ℕ} {v found more : ℕ} → Wooded s w₀ → length w ≡ length w₀ → Seeding s w v found → v < length s
    → more ≡ cond (eqb (get_or (set w found v) (length s + v) 0) 0) 1 0 → Seeding s (set w found v) (v + 1) (found + more)
seeding-step {s} {w} {w₀} {v} {found} {more} g long l h is =
    let n = length s in
    let w' = set w found v in
    let most = l.most in
    let room = g.room in
    let count : (u : ℕ) → left_at s w' u ≡ left_at s w u = λ u. get_or-set_other w found (n + u) v 0 (λ q. absurd (omega arith)) in
    let old : (i : ℕ) → i < found → get_or w' i 0 ≡ get_or w i 0 = λ i b. get_or-set_other w found i v 0 (λ q. absurd (omega arith)) in
    let new : get_or w' found 0 ≡ v = get_or-set_same w found v 0 (omega arith) in
    let named : Named s w' n = record { counted = λ p b. count p ∙ l.named.counted p b } in
    by_equal (left_at s w' v) 0
    (λ none-names.
    let one : more ≡ 1 = is ∙ (rw (eq-eqb _ _ none-names)) in
    record {
      named = named;
      within = omega arith;
      most = omega arith;
      rising = λ i j a b. by_equal j found
          (λ q. let top = l.below i (omega arith) in rw (old i (omega arith), q, new) top)
          (λ q. let up = l.rising i j a (omega arith) in rw (old i (omega arith), old j (omega arith)) up);
      below = λ i a. by_equal i found (λ q. rw (q, new) (omega arith)) (λ q. let top = l.below i (omega arith) in rw (old i (omega arith)) (omega arith));
      bare = λ i a. by_equal i found (λ q. rw (q, new) none-names) (λ q. rw (old i (omega arith)) (count _ ∙ l.bare i (omega arith)));
      listed = λ u a e. by_equal u v (λ q. (found, omega arith, new ∙ sym q))
          (λ q. let at = l.listed u (omega arith) (sym (count u) ∙ e) in let b = at.1 in (at.0, omega arith, old at.0 b ∙ at.2));
    })
    (λ some-name.
    let none : more ≡ 0 = is ∙ (rw (ne_eqb _ _ some-name)) in
    record {
      named = named;
      within = omega arith;
      most = omega arith;
      rising = λ i j a b. let up = l.rising i j a (omega arith) in rw (old i (omega arith), old j (omega arith)) up;
      below = λ i a. let top = l.below i (omega arith) in rw (old i (omega arith)) (omega arith);
      bare = λ i a. rw (old i (omega arith)) (count _ ∙ l.bare i (omega arith));
      listed = λ u a e. by_equal u v (λ q. absurd (some-name (ap (left_at s w') (sym q) ∙ e)))
          (λ q. let at = l.listed u (omega arith) (sym (count u) ∙ e) in let b = at.1 in (at.0, omega arith, old at.0 b ∙ at.2));
    })

-- all of them: nothing is taken yet
pub seeding-end : {s w : List ℕ} {found : ℕ} → Seeding s w (length s) found → Taking s w 0 found
unfolding count_below
seeding-end {s} {w} {found} l = record {
  within = omega arith;
  part = l.below;
  apart = λ i j h b e. let up = l.rising i j h b in absurd (omega arith);
  shared = λ p h. let all = l.named.counted p h in omega arith;
  bare = l.bare;
  listed = l.listed;
  first = λ i c h b e.
      let none_left = l.bare i h in
      let all = l.named.counted (get_or w i 0) (l.below i h) in
      let some = count-pos (names s (get_or w i 0)) (length s) c b (eq-eqb _ _ e) in
      absurd (omega arith);
  beside = λ i h. absurd (omega arith);
}
