-- The lift route's first part on a sheet's own tables: the deeper part is raised by falling powers of two to equal levels, in as many rows
-- as the difference of levels has ones, and the carrier stays. Assumes nothing.
use Prim.Native.Nat.{ℕ, suc, ◌+◌, ◌-◌, ◌^◌, ◌≤◌, ◌<◌, min}
use native.Mathlib.Nat.{le_refl, le_of_suc-le-suc}
use native.Mathlib.Omega.{arith}
use mathlib.Core.Path.{◌≡◌, sym, subst}
use mathlib.Core.List.{List, [], ◌∷◌}
use borrow.Author.Tests.{lt-ltb, le-ltb}
use lib.Count.{ones}
use lib.Dec.{leb}
use lib.ListN.{length}
use Rattle.bits.specs.Bits.{log2}
use Rattle.bits.proofs.Log.{log2-high}
use Rattle.tree.specs.Tree.{climb, Ancestor, level, Tree}
use Rattle.tree.specs.Lca.{lca}
use Rattle.tree.specs.Lifts.{lift}
use Rattle.tree.specs.Tables.{own}
use Rattle.tree.specs.Trail.{Row, last_row, lift_at, gap, raise_deeper, levelled}
use Rattle.tree.proofs.Scans.{by_order}
use Rattle.tree.proofs.Climbs.{climb-inside, ancestor-refl, ancestor-climb, ancestor-trans}
use Rattle.tree.proofs.Lcas.{PairLca, lca-of-pair, pair-only, pair-lca}
use Rattle.tree.proofs.Trees.{level-below, level-climb, above, ancestors-ordered, ancestor-antisym}
use Rattle.tree.proofs.OwnCells.{level_at_lem, lift_at_lem}
use Rattle.tree.proofs.Falling.{Descends, falling-most, falling-ones, falling-last}

-- a row of two nodes
abbrev pub pair : ℕ → ℕ → Row
pair x y = record { x = x; y = y }

-- a row after j steps of its left side and k of its right one
abbrev pub climbed : List ℕ → ℕ → ℕ → Row → Row
climbed s j k p = pair (climb s j p.x) (climb s k p.y)

-- the difference of a row's levels
abbrev pub apart : List ℕ → Row → ℕ
apart s p = (level s p.x - level s p.y) + (level s p.y - level s p.x)

-- a row of nodes, whose carrier is c
pub record Carried (s : List ℕ) (c : ℕ) (p : Row) : Type 0 where
  pub inside-x : p.x < length s
  pub inside-y : p.y < length s
  pub lca : PairLca s p.x p.y c

-- what is kept while the deeper part is raised: the carrier, and the lesser level
pub record Levelling (s : List ℕ) (c shallow : ℕ) (p : Row) : Type 0 where
  pub carried : Carried s c p
  pub lesser : min (level s p.x) (level s p.y) ≡ shallow

-- ---- what the rule reads of two nodes

module _ (s : List ℕ) where
  -- a cell of row k is 2^k steps up
  pub lift-climbs : (k v : ℕ) → k ≤ log2 (length s) → v < length s → lift_at (own s) k v ≡ climb s (2 ^ k) v
  unfolding lift
  lift-climbs k v b h = lift_at_lem s k v b h

  -- the deeper part is the left one
  left-climbs : (k : ℕ) (p : Row) → k ≤ log2 (length s) → p.x < length s → p.y < length s → level s p.y < level s p.x
      → raise_deeper (own s) k p ≡ climbed s (2 ^ k) 0 p
  unfolding climb
  left-climbs k p b hx hy deep =
      rw (level_at_lem s p.x hx, level_at_lem s p.y hy, lt-ltb (level s p.y) (level s p.x) deep, lift-climbs k p.x b hx)

  -- .. or else the right one
  right-climbs : (k : ℕ) (p : Row) → k ≤ log2 (length s) → p.x < length s → p.y < length s → level s p.x ≤ level s p.y
      → raise_deeper (own s) k p ≡ climbed s 0 (2 ^ k) p
  unfolding climb
  right-climbs k p b hx hy deep =
      rw (level_at_lem s p.x hx, level_at_lem s p.y hy, le-ltb (level s p.y) (level s p.x) deep, lift-climbs k p.y b hy)

module _ {s : List ℕ} (t : Tree s) where
  -- a level is below the power after the highest one that is tried
  pub level-power : (v : ℕ) → v < length s → level s v < 2 ^ suc (log2 (length s))
  level-power v h = omega (arith, level-below t v h, log2-high (length s))

  -- ---- the carrier

  -- two nodes, and their carrier
  pub pair-carried : {x y : ℕ} → x < length s → y < length s → Carried s (lca s (x ∷ y ∷ [])) (pair x y)
  pair-carried {x} {y} hx hy = record { inside-x = hx; inside-y = hy; lca = pair-lca t x y hx hy }

  -- a row has no other
  pub carried-only : {c : ℕ} {p : Row} → Carried s c p → lca s (p.x ∷ p.y ∷ []) ≡ c
  carried-only h = sym (pair-only t h.inside-x h.inside-y (lca-of-pair h.lca.left h.lca.right h.lca.lowest))

  -- of a row of one node that is the node
  pub one-carried : {c : ℕ} {p : Row} → Carried s c p → p.x ≡ p.y → p.x ≡ c
  one-carried {c} {p} h e =
      let itself = ancestor-refl s p.x in
      ancestor-antisym t h.inside-x h.lca.part (h.lca.lowest p.x itself (subst (Ancestor s p.x) e itself)) h.lca.left

  -- steps that do not pass what carries v leave it carrying
  carries-climb : {c v : ℕ} (k : ℕ) → v < length s → k + level s c ≤ level s v → Ancestor s c v → Ancestor s c (climb s k v)
  carries-climb {c} {v} k h b a =
      let up = level-climb t v k h (omega arith) in
      ancestors-ordered t h a (ancestor-climb s k v) (omega arith)

  -- .. so that the carrier of a row stays its carrier
  pub carried-climb : {c : ℕ} (j k : ℕ) (p : Row) → j + level s c ≤ level s p.x → k + level s c ≤ level s p.y → Carried s c p
      → Carried s c (climbed s j k p)
  carried-climb j k p bx by h = record {
    inside-x = climb-inside s t.inside j p.x h.inside-x;
    inside-y = climb-inside s t.inside k p.y h.inside-y;
    lca = record {
      part = h.lca.part;
      left = carries-climb j h.inside-x bx h.lca.left;
      right = carries-climb k h.inside-y by h.lca.right;
      lowest = λ d a b. h.lca.lowest d (ancestor-trans a (ancestor-climb s j p.x)) (ancestor-trans b (ancestor-climb s k p.y));
    };
  }

  -- ---- the deeper part is raised

  -- a raise that does not pass the other part's level brings the difference down by as much
  level_step_lem : {c shallow : ℕ} (k : ℕ) (p : Row) → k ≤ log2 (length s) → Levelling s c shallow p → 2 ^ k ≤ apart s p
      → (apart s (raise_deeper (own s) k p) ≡ apart s p - 2 ^ k) × Levelling s c shallow (raise_deeper (own s) k p)
  unfolding climb
  level_step_lem k p b h far =
      let carried = h.carried in
      let hx = carried.inside-x in
      let hy = carried.inside-y in
      let lesser = h.lesser in
      let over-x = (above t hx carried.lca.left).lower in
      let over-y = (above t hy carried.lca.right).lower in
      by_order (level s p.x) (level s p.y)
      (λ deep.
      let room : 2 ^ k + level s p.x ≤ level s p.y = omega arith in
      let up : level s (climb s (2 ^ k) p.y) + 2 ^ k ≡ level s p.y = omega (arith, level-climb t p.y (2 ^ k) hy (omega arith)) in
      rw (right-climbs s k p b hx hy deep)
      (omega arith, record { carried = carried-climb 0 (2 ^ k) p (omega arith) (omega arith) carried; lesser = omega arith }))
      (λ deep.
      let room : 2 ^ k + level s p.y ≤ level s p.x = omega arith in
      let up : level s (climb s (2 ^ k) p.x) + 2 ^ k ≡ level s p.x = omega (arith, level-climb t p.x (2 ^ k) hx (omega arith)) in
      rw (left-climbs s k p b hx hy deep)
      (omega arith, record { carried = carried-climb (2 ^ k) 0 p (omega arith) (omega arith) carried; lesser = omega arith }))

  levelling : (c shallow : ℕ)
      → Descends (λ k q. leb (2 ^ k) (gap (own s) q)) (raise_deeper (own s)) (apart s) (Levelling s c shallow) (suc (log2 (length s)))
  levelling c shallow = record {
    tests = λ k p b h. rw (level_at_lem s p.x h.carried.inside-x, level_at_lem s p.y h.carried.inside-y);
    falls = λ k p b h far. (level_step_lem k p (le_of_suc-le-suc b) h far).0;
    keeps = λ k p b h far. (level_step_lem k p (le_of_suc-le-suc b) h far).1;
  }

  apart-power : {c shallow : ℕ} (p : Row) → Levelling s c shallow p → apart s p < 2 ^ suc (log2 (length s))
  apart-power p h = omega (arith, level-power p.x h.carried.inside-x, level-power p.y h.carried.inside-y)

  -- the rows are as many as the difference has ones
  pub levelled-ones : {c shallow : ℕ} (p : Row) → Levelling s c shallow p → length (levelled (own s) p) ≡ ones (apart s p)
  unfolding levelled
  levelled-ones {c} {shallow} p h = falling-ones (levelling c shallow) _ p (le_refl _) h (apart-power p h)

  -- .. and the last of them has none left
  pub levelled-last : {c shallow : ℕ} (p : Row) → Levelling s c shallow p
      → (apart s (last_row p (levelled (own s) p)) ≡ 0) × Levelling s c shallow (last_row p (levelled (own s) p))
  unfolding levelled
  levelled-last {c} {shallow} p h = falling-last (levelling c shallow) _ p (le_refl _) h (apart-power p h)

-- no more rows than powers
pub levelled-most : (s : List ℕ) (p : Row) → length (levelled (own s) p) ≤ suc (log2 (length s))
unfolding levelled
levelled-most s p = falling-most (λ k q. leb (2 ^ k) (gap (own s) q)) (raise_deeper (own s)) _ p
