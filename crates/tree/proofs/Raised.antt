-- The lift route's second part on a sheet's own tables: two different parts of equal levels are raised by falling powers of two while they
-- stay different, and then by one. It ends at the carrier, and its rows are a sum of ones. Assumes nothing.
use Prim.Native.Nat.{ℕ, suc, ◌+◌, ◌-◌, ◌^◌, ◌≤◌, ◌<◌, zero-le}
use native.Mathlib.Nat.{le_refl, le_of_suc-le-suc}
use native.Mathlib.Omega.{arith}
use mathlib.Core.Path.{◌≡◌, sym, ap, ap₂, ◌∙◌}
use mathlib.Core.Logic.{◌≢◌}
use mathlib.Core.List.{List}
use borrow.Author.Tests.{eq-eqb, ne_eqb, le-leb, lt-leb}
use lib.Count.{ones}
use lib.Dec.{leb}
use lib.ListN.{length, length-append}
use Rattle.bits.specs.Bits.{log2}
use Rattle.tree.specs.Tree.{climb, Ancestor, level, Tree}
use Rattle.tree.specs.Tables.{own}
use Rattle.tree.specs.Trail.{Row, last_row, raise_both, stays_apart, raised}
use Rattle.tree.proofs.Scans.{by_order}
use Rattle.tree.proofs.Climbs.{climb-split, ancestor-refl, ancestor-climb, ancestor-inside}
use Rattle.tree.proofs.Trees.{level-climb, above, same-level}
use Rattle.tree.proofs.Falling.{Descends, falling-most, falling-ones, falling-last, last-append}
use Rattle.tree.proofs.Levelled.{pair, Carried, lift-climbs, level-power, carried-climb}

-- what is kept while both parts are raised: the carrier, equal levels, and that the carrier's is another
pub record Raising (s : List ℕ) (c : ℕ) (p : Row) : Type 0 where
  pub carried : Carried s c p
  pub same : level s p.x ≡ level s p.y
  pub below : level s c < level s p.x

-- the steps that are left until both parts stand right under c
abbrev pub under : List ℕ → ℕ → Row → ℕ
under s c p = level s p.x - suc (level s c)

module _ {s : List ℕ} (t : Tree s) where
  -- different parts of equal levels stand below their carrier
  pub two-raising : {c : ℕ} {p : Row} → Carried s c p → level s p.x ≡ level s p.y → p.x ≢ p.y → Raising s c p
  two-raising {c} {p} carried same e =
      let over = (above t carried.inside-x carried.lca.left).lower in
      by_order (level s p.x) (level s c)
      (λ b.
      let level-x : level s p.x ≡ level s c = omega arith in
      absurd (e
      (same-level t carried.inside-x (ancestor-refl s p.x) carried.lca.left level-x
      ∙ sym (same-level t carried.inside-y (ancestor-refl s p.y) carried.lca.right (sym same ∙ level-x)))))
      (λ b. record { carried = carried; same = same; below = b })

  -- steps past the carrier go on from there
  climb-past : {c v : ℕ} (m : ℕ) → v < length s → level s v ≤ m + level s c → Ancestor s c v
      → climb s m v ≡ climb s (m - (level s v - level s c)) c
  climb-past {c} {v} m h b a =
      let over = above t h a in
      climb-split s (level s v - level s c) (m - (level s v - level s c)) m v (omega arith)
      ∙ ap (climb s (m - (level s v - level s c))) over.there

  -- parts that are raised to the carrier or past it meet
  meet : {c : ℕ} (m : ℕ) (p : Row) → Raising s c p → level s p.x ≤ m + level s c → climb s m p.x ≡ climb s m p.y
  meet {c} m p h b =
      let carried = h.carried in
      climb-past m carried.inside-x b carried.lca.left
      ∙ ap (λ (l : ℕ). climb s (m - (l - level s c)) c) h.same
      ∙ sym (climb-past m carried.inside-y (rw h.same at b) carried.lca.right)

  -- .. and those that stay below it do not: what they met in would be a lower carrier
  differ : {c : ℕ} (m : ℕ) (p : Row) → Raising s c p → m + level s c < level s p.x → climb s m p.x ≢ climb s m p.y
  differ m p h b e =
      let carried = h.carried in
      let up = level-climb t p.x m carried.inside-x (omega arith) in
      let met = carried.lca.lowest (climb s m p.x) (ancestor-climb s m p.x) (rw e (ancestor-climb s m p.y)) in
      let over = (above t (ancestor-inside t.inside carried.inside-x carried.lca.left) met).lower in
      omega arith

  -- ---- both parts are raised

  raise-test : {c : ℕ} (k : ℕ) (p : Row) → k ≤ log2 (length s) → Raising s c p → stays_apart (own s) k p ≡ leb (2 ^ k) (under s c p)
  raise-test {c} k p b h =
      let carried = h.carried in
      let below = h.below in
      rw (lift-climbs s k p.x b carried.inside-x, lift-climbs s k p.y b carried.inside-y)
      (by_order (2 ^ k) (under s c p)
      (λ far. rw (le-leb (2 ^ k) (under s c p) far, ne_eqb _ _ (differ (2 ^ k) p h (omega arith))))
      (λ near. rw (lt-leb (2 ^ k) (under s c p) near, eq-eqb _ _ (meet (2 ^ k) p h (omega arith)))))

  raise-step : {c : ℕ} (k : ℕ) (p : Row) → k ≤ log2 (length s) → Raising s c p → 2 ^ k ≤ under s c p
      → (under s c (raise_both (own s) k p) ≡ under s c p - 2 ^ k) × Raising s c (raise_both (own s) k p)
  raise-step k p b h far =
      let carried = h.carried in
      let same = h.same in
      let below = h.below in
      let up-x = level-climb t p.x (2 ^ k) carried.inside-x (omega arith) in
      let up-y = level-climb t p.y (2 ^ k) carried.inside-y (omega arith) in
      rw (lift-climbs s k p.x b carried.inside-x, lift-climbs s k p.y b carried.inside-y)
      (omega arith, record { carried = carried-climb t (2 ^ k) (2 ^ k) p (omega arith) (omega arith) carried; same = omega arith; below = omega arith })

  pub raising : (c : ℕ) → Descends (stays_apart (own s)) (raise_both (own s)) (under s c) (Raising s c) (suc (log2 (length s)))
  raising c = record {
    tests = λ k p b h. raise-test k p (le_of_suc-le-suc b) h;
    falls = λ k p b h far. (raise-step k p (le_of_suc-le-suc b) h far).0;
    keeps = λ k p b h far. (raise-step k p (le_of_suc-le-suc b) h far).1;
  }

  under-power : {c : ℕ} (p : Row) → Raising s c p → under s c p < 2 ^ suc (log2 (length s))
  under-power p h = omega (arith, level-power t p.x h.carried.inside-x)

  -- ---- and then by one

  -- one step from right under the carrier is the carrier
  one-step : {c v : ℕ} → v < length s → Ancestor s c v → level s v ≡ suc (level s c) → climb s 1 v ≡ c
  one-step {c} {v} h a e =
      let one : 1 ≡ level s v - level s c = omega arith in
      ap (λ (k : ℕ). climb s k v) one ∙ (above t h a).there

  pub last-raise : {c : ℕ} (p : Row) → Raising s c p → under s c p ≡ 0 → raise_both (own s) 0 p ≡ pair c c
  last-raise p h none =
      let carried = h.carried in
      let same = h.same in
      let below = h.below in
      ap₂ pair
      (lift-climbs s 0 p.x zero-le carried.inside-x ∙ one-step carried.inside-x carried.lca.left (omega arith))
      (lift-climbs s 0 p.y zero-le carried.inside-y ∙ one-step carried.inside-y carried.lca.right (omega arith))

  -- the last row is the carrier, twice
  pub raised-last : {c : ℕ} (p : Row) → Raising s c p → last_row p (raised (own s) p) ≡ pair c c
  unfolding raised last_row
  raised-last {c} p h =
      let (none, last) = falling-last (raising c) _ p (le_refl _) h (under-power p h) in
      rw last-append (last-raise _ last none)

  -- the rows are as many as the steps to right under the carrier have ones, and one more
  pub raised-ones : {c : ℕ} (p : Row) → Raising s c p → length (raised (own s) p) ≡ ones (under s c p) + 1
  unfolding raised
  raised-ones {c} p h = rw (length-append, falling-ones (raising c) _ p (le_refl _) h (under-power p h))

-- no more rows than powers, and one more
pub raised-most : (s : List ℕ) (p : Row) → length (raised (own s) p) ≤ log2 (length s) + 2
unfolding raised
raised-most s p = rw length-append (omega (arith, falling-most (stays_apart (own s)) (raise_both (own s)) (suc (log2 (length s))) p))
