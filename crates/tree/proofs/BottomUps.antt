-- Bottom-up orders: what makes one, and that a sheet with one root that has such an order is one rooted tree.
-- Assumes nothing.
use Prim.Native.Nat.{ℕ, zero, suc, ◌-◌, ◌≤◌, ◌<◌}
use native.Mathlib.Omega.{arith}
use mathlib.Core.Path.{◌≡◌, refl, sym, subst}
use mathlib.Core.Logic.{◌≢◌}
use mathlib.Core.Bool.{cond}
use mathlib.Core.List.{List}
use borrow.Author.Tests.{eq-eqb, ne_eqb}
use lib.Dec.{eqb}
use lib.ListN.{length, get_or}
use Rattle.tree.specs.Scan.{position}
use Rattle.tree.specs.Tree.{parent, Ancestor, Tree}
use Rattle.tree.specs.BottomUp.{OneRoot, BottomUp}
use Rattle.tree.proofs.Scans.{by_equal, position_here, position-at-most}
use Rattle.tree.proofs.Climbs.{Inside, ancestor-refl, ancestor-parent, ancestor-trans}

-- ---- a number that falls at each step up

module _ {s : List ℕ} {r : ℕ} (one : OneRoot s r) (f : ℕ → ℕ) (falls : (v : ℕ) → v < length s → v ≢ r → f (parent s v) < f v) where
  climbs : (k v : ℕ) → v < length s → f v < k → Ancestor s r v
  climbs zero v h l = absurd (omega arith)
  climbs (suc k) v h l =
      by_equal v r (λ q. subst (Ancestor s r) (sym q) (ancestor-refl s r))
      (λ q. let less = falls v h q in ancestor-trans (climbs k (parent s v) (one.inside v h) (omega arith)) (ancestor-parent s v))

  -- so no climb goes round
  pub ranked-tree : Tree s
  ranked-tree = record {
    inside = one.inside;
    root = r;
    root-inside = one.part;
    root-itself = one.itself;
    root-only = one.only;
    reach = λ v h. climbs (suc (f v)) v h (omega arith);
  }

-- ---- an order is a tree's

module _ {s o : List ℕ} {r : ℕ} (one : OneRoot s r) (up : BottomUp s o) where
  -- how far a part stands from the end of the order; the root stands behind it
  left : ℕ → ℕ
  left v = cond (eqb v r) 0 (length s - position o v)

  left-root : (v : ℕ) → v ≡ r → left v ≡ 0
  unfolding left
  left-root v e = rw (eq-eqb v r e)

  left_other : (v : ℕ) → v ≢ r → left v ≡ length s - position o v
  unfolding left
  left_other v e = rw (ne_eqb v r e)

  -- a part other than the root does not name itself
  names-other : (v : ℕ) → v < length s → v ≢ r → parent s v ≢ v
  names-other v h q e = q (one.only v h e)

  left-falls : (v : ℕ) → v < length s → v ≢ r → left (parent s v) < left v
  left-falls v h q =
      let p = parent s v in
      let here = left_other v q in
      let within = up.listed v h (names-other v h q) in
      by_equal p r
      (λ e. let none_left = left-root p e in omega arith)
      (λ e.
      let there = left_other p e in
      let first = up.child-first v h (names-other v h q) (names-other p (one.inside v h) e) in
      let last = up.listed p (one.inside v h) (names-other p (one.inside v h) e) in
      omega arith)

  pub bottom-up-tree : Tree s
  bottom-up-tree = ranked-tree one left left-falls

-- ---- what makes an order

-- each part that does not name itself is in one of the first n − 1 cells, and before each stand all that name it
pub record Listing (s o : List ℕ) : Type 0 where
  pub room : length s ≤ length o
  pub part : (i : ℕ) → suc i < length s → get_or o i 0 < length s
  pub apart : (i j : ℕ) → i < j → suc j < length s → get_or o i 0 ≢ get_or o j 0
  pub every : (v : ℕ) → v < length s → parent s v ≢ v → (i : ℕ) × (suc i < length s) × (get_or o i 0 ≡ v)
  pub first : (i c : ℕ) → suc i < length s → c < length s → parent s c ≡ get_or o i 0 → (j : ℕ) × (j < i) × (get_or o j 0 ≡ c)

module _ {s o : List ℕ} (inside : Inside s) (l : Listing s o) where
  once : (i : ℕ) → suc i < length s → position o (get_or o i 0) ≡ i
  once i h =
      let most = position-at-most o (get_or o i 0) i refl in
      let room = l.room in
      by_equal (position o (get_or o i 0)) i (λ e. e)
      (λ e. absurd (l.apart (position o (get_or o i 0)) i (omega arith) h (position_here o (get_or o i 0) (omega arith))))

  listed : (v : ℕ) → v < length s → parent s v ≢ v → suc (position o v) < length s
  listed v h q =
      let at = l.every v h q in
      let within = at.1 in
      let most = position-at-most o v at.0 at.2 in
      omega arith

  pub listing-order : BottomUp s o
  listing-order = record {
    part = l.part;
    other = λ i h e. let at = l.first i (get_or o i 0) h (l.part i h) e in l.apart at.0 i at.1 h at.2;
    once = once;
    listed = listed;
    child-first = λ c h q q'.
        let v = parent s c in
        let room = l.room in
        let within = listed v (inside c h) q' in
        let here = position_here o v (omega arith) in
        let at = l.first (position o v) c within h (sym here) in
        let most = position-at-most o c at.0 at.2 in
        let before = at.1 in
        omega arith;
  }
