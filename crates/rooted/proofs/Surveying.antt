-- The pass that finds a sheet's one root: how many name themselves, which one does, and the largest entry.
-- Assumes nothing.
use Prim.Native.Nat.{ℕ, suc, ◌+◌, ◌-◌, ◌≤◌, ◌<◌, max, zero-le}
use native.Mathlib.Omega.{arith}
use mathlib.Core.Path.{◌≡◌, refl, sym, ap, ◌∙◌}
use mathlib.Core.Bool.{cond}
use Rattle.std.proofs.Math.Nat.{le-max_left, le-max_right, max-le}
use mathlib.Core.List.{List}
use borrow.Author.Tests.{eq-eqb, ne_eqb}
use lib.Bits.{bit_or, or_zero_l, or_zero_r}
use lib.Dec.{eqb}
use lib.ListN.{length, get_or}
use Rattle.tree.specs.Scan.{count_below}
use Rattle.tree.specs.Tree.{parent, is_root}
use Rattle.tree.specs.BottomUp.{OneRoot}
use Rattle.tree.proofs.Scans.{by_equal, count-pos}
use Rattle.tree.proofs.Roots.{is_root_lem, root_is}
use Rattle.tree.proofs.Pigeonhole.{count-apart, count-cover}

-- of the parts below v: their entries are at most `most`; so many of them name themselves, and where that is one, `root` does
pub record Surveyed (s : List ℕ) (v most roots root : ℕ) : Type 0 where
  pub within : v ≤ length s
  pub entries : (j : ℕ) → j < v → get_or s j 0 ≤ most
  pub lowest : (b : ℕ) → ((j : ℕ) → j < v → get_or s j 0 ≤ b) → most ≤ b
  pub counted : roots ≡ count_below (is_root s) v
  pub none : roots ≡ 0 → root ≡ 0
  pub one : roots ≡ 1 → (root < v) × (get_or s root 0 ≡ root)

pub surveyed-start : (s : List ℕ) → Surveyed s 0 0 0 0
unfolding count_below
surveyed-start s =
    record { within = omega arith; entries = λ j h. absurd (omega arith); lowest = λ b h. zero-le; counted = refl; none = λ _. refl; one = λ e. absurd (omega arith) }

pub surveyed-step : {s : List ℕ} {v most roots root most' more own : ℕ} → Surveyed s v most roots root → v < length s
    → most' ≡ max most (get_or s v 0) → more ≡ cond (eqb (get_or s v 0) v) 1 0 → own ≡ cond (eqb (get_or s v 0) v) v 0
    → Surveyed s (v + 1) most' (roots + more) (bit_or root own)
unfolding count_below is_root parent
surveyed-step {s} {v} {most} {roots} {root} {most'} {more} {own} l h larger count is =
    let grown : most ≤ most' = rw larger (le-max_left most (get_or s v 0)) in
    let here : get_or s v 0 ≤ most' = rw larger (le-max_right most (get_or s v 0)) in
    let either : (m : ℕ) → most ≤ m → get_or s v 0 ≤ m → most' ≤ m = λ m p q. rw larger (max-le p q) in
    let e : v + 1 ≡ suc v = omega arith in
    let before = l.counted in
    let entries : (j : ℕ) → j < v + 1 → get_or s j 0 ≤ most' =
    λ j b. by_equal j v (λ q. rw q here) (λ q. let old = l.entries j (omega arith) in omega arith) in
    let lowest : (b : ℕ) → ((j : ℕ) → j < v + 1 → get_or s j 0 ≤ b) → most' ≤ b =
    λ b all. either b (l.lowest b (λ j h. all j (omega arith))) (all v (omega arith)) in
    by_equal (get_or s v 0) v
    (λ itself.
    let one_more : more ≡ 1 = count ∙ (rw (eq-eqb _ _ itself)) in
    let mine : own ≡ v = is ∙ (rw (eq-eqb _ _ itself)) in
    record {
      within = omega arith;
      entries = entries;
      lowest = lowest;
      counted = rw (e, eq-eqb _ _ itself) (omega arith);
      none = λ z. absurd (omega arith);
      one = λ z.
          let alone : bit_or root own ≡ v = ap (λ (x : ℕ). bit_or x own) (l.none (omega arith)) ∙ or_zero_l own ∙ mine in
          (omega arith, ap (λ (x : ℕ). get_or s x 0) alone ∙ itself ∙ sym alone);
    })
    (λ other.
    let no_more : more ≡ 0 = count ∙ (rw (ne_eqb _ _ other)) in
    let same : bit_or root own ≡ root = ap (bit_or root) (is ∙ (rw (ne_eqb _ _ other))) ∙ or_zero_r root in
    record {
      within = omega arith;
      entries = entries;
      lowest = lowest;
      counted = rw (e, ne_eqb _ _ other) (omega arith);
      none = λ z. same ∙ l.none (omega arith);
      one = λ z.
          let (below, itself) = l.one (omega arith) in
          (omega arith, ap (λ (x : ℕ). get_or s x 0) same ∙ itself ∙ sym same);
    })

-- a part that names itself, counted once
one-counted : (s : List ℕ) (r : ℕ) → get_or s r 0 ≡ r → count_below (λ (i : ℕ). is_root s r) 1 ≡ 1
unfolding count_below is_root parent
one-counted s r e = rw (eq-eqb _ _ e)

-- all parts: where one names itself and all entries are parts, it is the one root
pub surveyed-end : {s : List ℕ} {v most roots root : ℕ} → Surveyed s v most roots root → length s ≤ v → roots ≡ 1 → most < length s → OneRoot s root
unfolding is_root parent
surveyed-end {s} {v} {most} {roots} {root} l all alone fits =
    let within = l.within in
    let (below, itself) = l.one alone in
    let part : root < length s = omega arith in
    let whole : v ≡ length s = omega arith in
    let count : count_below (is_root s) (length s) ≡ 1 = ap (count_below (is_root s)) (sym whole) ∙ sym l.counted ∙ alone in
    record {
      inside = λ u h. let e = l.entries u (omega arith) in omega arith;
      part = part;
      itself = itself;
      only = λ u h e. by_equal u root (λ q. q)
          (λ q.
          let fewer = count-apart (length s) 1 (λ _. root) (is_root s)
          (record { below = λ _ _. part; apart = λ i j a b. absurd (omega arith) }) u h (is_root_lem s u e) (λ _ _ g. q (sym g)) in
          let one-is = one-counted s root itself in
          absurd (omega arith));
    }

-- and where a sheet has one root, that is found
pub surveyed-one : {s : List ℕ} {v most roots root q : ℕ} → Surveyed s v most roots root → length s ≤ v → OneRoot s q → (roots ≡ 1) × (most < length s)
unfolding is_root parent
surveyed-one {s} {v} {most} {roots} {root} {q} l all one =
    let within = l.within in
    let part = one.part in
    let whole : v ≡ length s = omega arith in
    let same = l.counted ∙ ap (count_below (is_root s)) whole in
    let some = count-pos (is_root s) (length s) q part (is_root_lem s q one.itself) in
    let cover = count-cover (length s) 1 (λ _. q) (is_root s) (record { below = λ _ _. part; apart = λ i j a b. absurd (omega arith) })
    (λ c h e. (0, omega arith, sym (one.only c h (root_is s c e)))) in
    let once = one-counted s q one.itself in
    let top = l.lowest (length s - 1) (λ j h. let inside = one.inside j (omega arith) in omega arith) in
    (omega arith, omega arith)
