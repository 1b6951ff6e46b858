-- The lift route on a sheet's own tables: its trail is of nodes and ends at the carrier, its lifts are the sum of ones, and it fits its buffer.
-- Assumes nothing.
use Prim.Native.Nat.{ℕ, ◌+◌, ◌-◌, ◌≤◌, ◌<◌, min}
use native.Mathlib.Omega.{arith}
use mathlib.Core.Path.{◌≡◌, refl, sym, ap, ap₂, ◌∙◌}
use mathlib.Core.Bool.{cond}
use mathlib.Core.List.{List, [], ◌∷◌}
use borrow.Author.Tests.{eq-eqb, ne_eqb, lt-ltb}
use lib.Count.{ones}
use lib.Dec.{eqb}
use lib.ListN.{length, length-append}
use Rattle.bits.proofs.Log.{log2-le}
use Rattle.tree.specs.Tree.{level, Tree}
use Rattle.tree.specs.Lca.{Lca, lca}
use Rattle.tree.specs.Tables.{own}
use Rattle.tree.specs.Tests.{limit}
use Rattle.tree.specs.Trail.{Row, last_row, levelled, raised, trail, by_lifts, lifts, ones_sum, lift_count}
use Rattle.tree.proofs.Scans.{by_equal}
use Rattle.tree.proofs.Lcas.{pair_found}
use Rattle.tree.proofs.Falling.{last-append}
use Rattle.tree.proofs.Levelled.{pair, apart, Levelling, pair-carried, one-carried, levelled-ones, levelled-last, levelled-most}
use Rattle.tree.proofs.Raised.{under, two-raising, raised-last, raised-ones, raised-most}

-- the rows after levelling: none where the parts are one
abbrev afterwards : List ℕ → Row → List Row
afterwards s p = cond (eqb p.x p.y) [] (raised (own s) p)

module _ {s : List ℕ} (t : Tree s) where
  -- ---- the whole trail

  -- where the trail begins
  start : (x y : ℕ) → x < length s → y < length s → Levelling s (lca s (x ∷ y ∷ [])) (min (level s x) (level s y)) (pair x y)
  start x y hx hy = record { carried = pair-carried t hx hy; lesser = refl }

  -- from the levelled parts on
  afterwards-gives : {c shallow : ℕ} (g : ℕ) (p : Row) → Levelling s c shallow p → apart s p ≡ 0
      → (last_row p (afterwards s p) ≡ pair c c) × (ones g + length (afterwards s p) ≡ ones_sum g (shallow - level s c))
  unfolding last_row ones_sum
  afterwards-gives {c} {shallow} g p h none =
      let lesser = h.lesser in
      let level-x : level s p.x ≡ shallow = omega arith in
      by_equal p.x p.y
      (λ e.
      let there = one-carried t h.carried e in
      let steps : shallow - level s c ≡ 0 = omega (arith, ap (level s) there) in
      rw (eq-eqb p.x p.y e, steps) (ap₂ pair there (sym e ∙ there), refl))
      (λ e.
      let r = two-raising t h.carried (omega arith) e in
      let below = r.below in
      let some : 0 < shallow - level s c = omega arith in
      let steps : under s c p ≡ shallow - level s c - 1 = omega arith in
      rw (ne_eqb p.x p.y e, lt-ltb 0 (shallow - level s c) some, raised-ones t p r, steps) (raised-last t p r, refl))

  -- the trail ends at the carrier, on both sides, and has as many rows as the sum of ones says
  trail-gives : (x y : ℕ) → x < length s → y < length s
      → (last_row (pair x y) (trail (own s) x y) ≡ pair (lca s (x ∷ y ∷ [])) (lca s (x ∷ y ∷ []))) × (length (trail (own s) x y) ≡ lift_count s x y)
  unfolding trail lift_count
  trail-gives x y hx hy =
      let shallow = min (level s x) (level s y) in
      let first = start x y hx hy in
      let rows = levelled (own s) (pair x y) in
      let rest = afterwards s (last_row (pair x y) rows) in
      let gaps : apart s (pair x y) ≡ (level s x - shallow) + (level s y - shallow) = omega arith in
      let (none, last) = levelled-last t (pair x y) first in
      let (ends, sum) = afterwards-gives ((level s x - shallow) + (level s y - shallow)) (last_row (pair x y) rows) last none in (
        last-append (pair x y) rows rest ∙ ends,
        length-append rows rest ∙ ap (λ (m : ℕ). m + length rest) (levelled-ones t (pair x y) first ∙ ap ones gaps) ∙ sum,
      )

  pub lifts-found : (x y : ℕ) → x < length s → y < length s → by_lifts (own s) x y ≡ lca s (x ∷ y ∷ [])
  unfolding by_lifts
  lifts-found x y hx hy = ap (λ (p : Row). p.x) (trail-gives x y hx hy).0

  -- the route gives the carrier
  pub lifts-lca : (x y : ℕ) → x < length s → y < length s → Lca s (x ∷ y ∷ []) (by_lifts (own s) x y)
  lifts-lca x y hx hy = rw (lifts-found x y hx hy) (pair_found t hx hy)

  -- its lifts are the sum of ones
  pub lifts-count : (x y : ℕ) → x < length s → y < length s → lifts (own s) x y ≡ lift_count s x y
  unfolding lifts
  lifts-count x y hx hy = (trail-gives x y hx hy).1

-- a trail fits its buffer
pub trail_fits_lem : (s : List ℕ) → length s ≤ limit → (x y : ℕ) → length (trail (own s) x y) ≤ 32
unfolding trail
trail_fits_lem s h x y =
    let rows = levelled (own s) (pair x y) in
    let p = last_row (pair x y) rows in
    let small = log2-le (length s) 14 (omega arith) in
    let first = levelled-most s (pair x y) in
    let most = raised-most s p in
    rw (length-append rows (afterwards s p))
    (by_equal p.x p.y (λ e. rw (eq-eqb p.x p.y e) (omega arith)) (λ e. rw (ne_eqb p.x p.y e) (omega arith)))
