-- What the order is when no leaf is left: on one rooted tree, and on no other sheet with one root, it has all parts but the root. With it, falling numbers
-- where no part names a later one.
-- Assumes nothing.
use Prim.Native.Nat.{ℕ, zero, suc, ◌+◌, ◌-◌, ◌*◌, ◌≤◌, ◌<◌}
use native.Mathlib.Omega.{arith}
use mathlib.Core.Path.{◌≡◌, refl, sym, ap, ◌∙◌}
use mathlib.Core.Logic.{◌≢◌}
use mathlib.Core.Bool.{Bool, true, not}
use mathlib.Core.List.{List}
use borrow.Author.Tests.{eq-eqb, ne_eqb, eqb-true, eqb-false, not-true}
use lib.Dec.{eqb}
use lib.ListN.{length, get_or, set, length-set}
use lib.Seq.{get_or-set_other}
use Rattle.tree.specs.Scan.{count_below}
use Rattle.tree.specs.Tree.{parent, level, root_of, Tree}
use Rattle.tree.specs.BottomUp.{BottomUp, Edges}
use Rattle.tree.proofs.Scans.{count-one}
use Rattle.tree.proofs.Trees.{level-below, level-parent}
use Rattle.tree.proofs.Differences.{store-either}
use Rattle.tree.proofs.Pigeonhole.{count-apart, count-cover}
use Rattle.tree.proofs.BottomUps.{listing-order}
use Rattle.leaves.specs.Leaves.{Wooded, names, Taking, Falling}
use Rattle.leaves.proofs.Taken.{by-listed, count-all, order-apart, none-itself, found_below}

-- ---- leaves taken off

module _ {s w : List ℕ} {k : ℕ} (g : Wooded s w) (l : Taking s w k k) where
  abbrev r : ℕ
  r = root_of s

  -- every part but the root
  abbrev not_root : ℕ → Bool
  not_root c = not (eqb c r)

  not_root_lem : (c : ℕ) → c ≢ r → not_root c ≡ true
  not_root_lem c q = rw (ne_eqb c r q)

  -- there are n − 1 of them, and all in the order are such
  others : length s ≡ suc (count_below not_root (length s))
  others =
      sym (count-all (λ _. true) (length s) (λ j h. refl))
      ∙ count-one (λ _. true) not_root (length s) r g.one.part (λ j q. not_root_lem j q) refl (rw (eq-eqb r r refl))

  ordered-others : count_below (λ i. not_root (get_or w i 0)) k ≡ k
  ordered-others = count-all (λ i. not_root (get_or w i 0)) k (λ i h. not_root_lem (get_or w i 0) (none-itself l r g.one.part g.one.itself i h))

  -- as many as there are: each is in it
  every : suc k ≡ length s → (v : ℕ) → v < length s → v ≢ r → (i : ℕ) × (i < k) × (get_or w i 0 ≡ v)
  every all v h q =
      by-listed w k v (λ j b e. (j, b, e))
      (λ other.
      let fewer = count-apart (length s) k (λ i. get_or w i 0) not_root (order-apart l) v h (not_root_lem v q) other in
      let there = others in
      let mine = ordered-others in
      absurd (omega arith))

  taken-order : suc k ≡ length s → BottomUp s w
  taken-order all =
      let room = g.room in
      listing-order g.one.inside
      (record {
        room = omega arith;
        part = λ i h. l.part i (omega arith);
        apart = λ i j h b. l.apart i j h (omega arith);
        every = λ v h q.
            let at = every all v h (λ e. q (ap (parent s) e ∙ g.one.itself ∙ sym e)) in
            let b = at.1 in
            (at.0, omega arith, at.2);
        first = λ i c h b e. l.first i c (omega arith) b e;
      })

  pub taken-edges : suc k ≡ length s → Edges s w
  taken-edges all = record { order = taken-order all; entry = λ i h. l.beside i (omega arith) }

  -- on a tree every part but the root comes to be taken, the deepest first
  module _ (t : Tree s) where
    reached : (d v : ℕ) → v < length s → length s ≤ level s v + d → v ≢ r → (i : ℕ) × (i < k) × (get_or w i 0 ≡ v)
    reached zero v h deep q = let b = level-below t v h in absurd (omega arith)
    reached (suc d) v h deep q =
        let deeper = reached d in
        let names-v : (c : ℕ) → c < length s → names s v c ≡ true → (i : ℕ) × (i < k) × (get_or w i 0 ≡ c) =
        λ c b e.
        let of : parent s c ≡ v = eqb-true _ _ e in
        let other : parent s c ≢ c = λ itself. q (sym of ∙ itself ∙ g.one.only c b itself) in
        let down = level-parent t c b other in
        let up : level s (parent s c) ≡ level s v = ap (level s) of in
        deeper c b (omega arith) (λ is. other (ap (parent s) is ∙ g.one.itself ∙ sym is)) in
        let cover = count-cover (length s) k (λ i. get_or w i 0) (names s v) (order-apart l) names-v in
        let share = l.shared v h in
        l.listed v h (omega arith)

    pub taken-all : suc k ≡ length s
    taken-all =
        let cover = count-cover (length s) k (λ i. get_or w i 0) not_root (order-apart l)
        (λ c h e. reached (length s) c h (omega arith) (eqb-false c r (not-true _ e))) in
        let there = others in
        let mine = ordered-others in
        let fewer = found_below l g in
        omega arith

-- ---- falling numbers

-- one cell more, and beside it
pub falling-step : {s w : List ℕ} {i : ℕ} → 3 * length s ≤ length w → i < length s → Falling s w i
    → Falling s (set (set w i (length s - 1 - i)) (2 * length s + i) (get_or s (length s - 1 - i) 0)) (i + 1)
falling-step {s} {w} {i} room h l =
    let n = length s in
    let v = n - 1 - i in
    let w₁ = set w i v in
    let p = get_or s v 0 in
    let cells = length-set w i v in
    record {
      cell = λ j b.
          get_or-set_other w₁ (2 * n + i) j p 0 (λ q. absurd (omega arith))
          ∙ store-either w i v j (n - 1 - j) (omega arith) (λ e. ap (λ (k : ℕ). n - 1 - k) (sym e)) (λ q. l.cell j (omega arith));
      beside = λ j b. store-either w₁ (2 * n + i) p (2 * n + j) (get_or s (n - 1 - j) 0) (omega arith)
          (λ e. let same : i ≡ j = omega arith in ap (λ (k : ℕ). get_or s (n - 1 - k) 0) same)
          (λ q. get_or-set_other w i (2 * n + j) v 0 (λ e. absurd (omega arith)) ∙ l.beside j (omega arith));
    }

falling-order : {s w : List ℕ} → Wooded s w → Falling s w (length s) → ((v : ℕ) → v < length s → get_or s v 0 ≤ v) → BottomUp s w
unfolding parent
falling-order {s} {w} g fall earlier =
    let n = length s in
    let room = g.room in
    let some : 0 < n = omega (arith, g.one.part) in
    let root-zero : 0 ≡ root_of s = let e = earlier 0 some in g.one.only 0 some (omega arith) in
    let other : (v : ℕ) → v < n → 0 < v → get_or s v 0 ≢ v = λ v h pos e. let z = g.one.only v h e in absurd (omega arith) in
    listing-order g.one.inside
    (record {
      room = omega arith;
      part = λ i h. let c = fall.cell i (omega arith) in omega arith;
      apart = λ i j h b e. let a = fall.cell i (omega arith) in let c = fall.cell j (omega arith) in absurd (omega arith);
      every = λ v h q.
          let pos : v ≢ 0 = λ e. q (let z = earlier v h in omega arith) in
          let c = fall.cell (n - 1 - v) (omega arith) in
          (n - 1 - v, omega arith, omega arith);
      first = λ i c h b e.
          let at = fall.cell i (omega arith) in
          let less = earlier c b in
          let q : c ≢ n - 1 - i = λ same. other c b (omega arith) (omega arith) in
          let there = fall.cell (n - 1 - c) (omega arith) in
          (n - 1 - c, omega arith, omega arith);
    })

pub falling-edges : {s w : List ℕ} → Wooded s w → Falling s w (length s) → ((v : ℕ) → v < length s → get_or s v 0 ≤ v) → Edges s w
unfolding parent
falling-edges {s} g fall earlier = record {
  order = falling-order g fall earlier;
  entry = λ i h. fall.beside i (omega arith) ∙ ap (λ (v : ℕ). get_or s v 0) (sym (fall.cell i (omega arith)));
}
