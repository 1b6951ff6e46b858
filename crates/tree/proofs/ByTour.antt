-- The tour route's rule gives the lowest common ancestor (Bender and Farach-Colton): between the first visits of two nodes it is the node of
-- least LEVEL, and the two blocks that the rule looks up cover what stands between them. Assumes nothing.
use Prim.Native.Nat.{ℕ, ◌+◌, ◌-◌, ◌*◌, ◌^◌, min, max, ◌≤◌, ◌<◌}
use native.Mathlib.Nat.{le_refl, le_trans, le_antisymm}
use native.Mathlib.Omega.{arith}
use mathlib.Core.Path.{◌≡◌, refl, ap, ◌∙◌}
use mathlib.Core.List.Memᴰ
use mathlib.Core.List.{List, [], ◌∷◌}
use borrow.Author.Tests.{le-leb, lt-leb}
use lib.ListN.{length, get_or}
use lib.Pow.{pow_pos}
use Rattle.bits.specs.Bits.{log2}
use Rattle.bits.proofs.Log.{log2-low, log2-high, log2-le}
use Rattle.tree.specs.Tree.{Ancestor, level, Tree}
use Rattle.tree.specs.Buffers.{visits}
use Rattle.tree.specs.Preorder.{size, tour, first_visit}
use Rattle.tree.specs.Tour.{sparse}
use Rattle.tree.specs.Lca.{Lca, lca}
use Rattle.tree.specs.Tables.{Lent, own}
use Rattle.tree.specs.Routes.{nearer, visit_at, first_at, sparse_at, block_log, last_block, by_blocks, by_tour}
use Rattle.tree.proofs.Scans.{by_order, by_equal}
use Rattle.tree.proofs.Climbs.{ancestor-refl, ancestor-inside}
use Rattle.tree.proofs.Trees.{above, same-level, child-toward}
use Rattle.tree.proofs.Lcas.{each-of_two, pair_found}
use Rattle.tree.proofs.Lists.{swap-lca}
use Rattle.tree.proofs.Sizes.{size-sum}
use Rattle.tree.proofs.Tours.{visit-first, visit-after, visit-part, first-inside, carried_first, carried-end, visit-carried}
use Rattle.tree.proofs.Sparse.{sparse-from, sparse-to, sparse-least}
use Rattle.tree.proofs.OwnCells.{level_at_lem, visit-at, first-at, sparse_at_lem}

-- ---- the two blocks of the greatest power of two that is not longer than i..j

-- they stand in the m cells
pub blocks-fit : (m i j : ℕ) → i ≤ j → j < m
    → (block_log i j ≤ log2 m) × (i + 2 ^ block_log i j ≤ m) × (2 ^ block_log i j ≤ j + 1)
    × (last_block i j + 2 ^ block_log i j ≤ m)
blocks-fit m i j h b =
    let low = log2-low (j - i + 1) (omega arith) in
    let high = log2-high m in
    (log2-le (j - i + 1) (log2 m) (omega arith), omega arith, omega arith, omega arith)

-- neither passes the end of i..j, nor its beginning
pub blocks-within : (i j : ℕ) → i ≤ j → i + 2 ^ block_log i j ≤ j + 1
blocks-within i j h = let low = log2-low (j - i + 1) (omega arith) in omega arith

-- each position i..j is in one of them
pub blocks-cover : {X : Type 0} (i j p : ℕ) → p ≤ j → (p < i + 2 ^ block_log i j → X) → (last_block i j ≤ p → X) → X
blocks-cover i j p h left right =
    let high = log2-high (j - i + 1) in
    by_order (i + 2 ^ block_log i j) p (λ b. right (omega arith)) left

-- ---- the rule

-- the nearer of two nodes is one of them, and deeper than neither
nearer-of : (s : List ℕ) (P : ℕ → Type 0) (x y : ℕ) → x < length s → y < length s → P x → P y
    → P (nearer (own s) x y) × (level s (nearer (own s) x y) ≤ level s x) × (level s (nearer (own s) x y) ≤ level s y)
nearer-of s P x y hx hy px py =
    rw (level_at_lem s x hx, level_at_lem s y hy)
    (by_order (level s x) (level s y) (λ h. rw (le-leb _ _ h) (px, le_refl _, h)) (λ h. rw (lt-leb _ _ h) (py, omega arith, le_refl _)))

-- of first positions i ≤ j
pub by-positions : (t : Lent) (x y : ℕ) {i j : ℕ} → min (first_at t x) (first_at t y) ≡ i → max (first_at t x) (first_at t y) ≡ j → by_tour t x y ≡ by_blocks t i j
unfolding by_tour
by-positions t x y first last = rw (first, last)

module _ {s : List ℕ} (t : Tree s) where
  -- ---- between two first visits

  -- where c carries both nodes, only nodes stand that c carries
  pub between-carried : {c v w p : ℕ} → c < length s → v < length s → w < length s → Ancestor s c v → Ancestor s c w
      → first_visit s v ≤ p → p ≤ first_visit s w → Ancestor s c (get_or (tour s) p 0)
  between-carried {c} {v} {w} {p} hc hv hw cv cw from to =
      let first = carried_first t hv cv in
      let last = carried-end t hw cw in
      let some = size-sum t w hw in
      visit-carried t p hc (omega arith) (omega arith)

  -- .. and the lowest common ancestor of both stands there too. Where it is not v, it stands after the visits of its child toward v: that child
  -- does not carry w, so these end before w's first visit
  pub between-lca : {c v w : ℕ} → v < length s → w < length s → Lca s (v ∷ w ∷ []) c → first_visit s v ≤ first_visit s w
      → (p : ℕ) × (first_visit s v ≤ p) × (p ≤ first_visit s w) × (get_or (tour s) p 0 ≡ c)
  between-lca {c} {v} {w} hv hw l h =
      let cv = l.common v (Memᴰ.head refl) in
      by_equal v c (λ e. (first_visit s v, le_refl _, h, visit-first t v hv ∙ e))
      (λ other.
      let a = child-toward t hv cv other in
      let first = carried_first t hv a.carries in
      let last = carried-end t hv a.carries in
      let some = size-sum t v hv in
      let p = first_visit s a.child + 2 * size s a.child - 1 in
      by_order p (first_visit s w)
      (λ b. (p, omega arith, b, visit-after t a.child a.part a.other ∙ a.of))
      (λ b.
      let aw : Ancestor s a.child w = rw (visit-first t w hw) at (visit-carried t (first_visit s w) a.part (omega arith) (omega arith)) in
      let up = above t (ancestor-inside t.inside hv cv) (l.lowest a.child (each-of_two (Ancestor s a.child) a.carries aw)) in
      let deep = a.deeper in
      absurd (omega arith)))

  -- ---- the rule's answer

  -- the node that a block's cell leads to
  pub block-node : (k i : ℕ) → k ≤ log2 (visits (length s)) → i + 2 ^ k ≤ visits (length s) → visit_at (own s) (sparse_at (own s) k i) ≡ get_or (tour s) (sparse s k i) 0
  block-node k i few fit =
      let some = pow_pos k in
      let to = sparse-to s k i fit in
      ap (visit_at (own s)) (sparse_at_lem t k i few (omega arith)) ∙ visit-at t (sparse s k i) (omega arith)

  -- the lowest common ancestor carries the nearer of both blocks' nodes, which is not deeper than it: they are one
  nearest : {c v w : ℕ} → v < length s → w < length s → Lca s (v ∷ w ∷ []) c → first_visit s v ≤ first_visit s w
      → by_blocks (own s) (first_visit s v) (first_visit s w) ≡ c
  nearest {c} {v} {w} hv hw l h =
      let i = first_visit s v in
      let j = first_visit s w in
      let k = block_log i j in
      let a = last_block i j in
      let end = first-inside t w hw in
      let (few, fit, low, fit') = blocks-fit (visits (length s)) i j h end in
      let within = blocks-within i j h in
      let cv = l.common v (Memᴰ.head refl) in
      let cw = l.common w (Memᴰ.tail (Memᴰ.head refl)) in
      let hc = ancestor-inside t.inside hv cv in
      let node : (p : ℕ) → i ≤ p → p ≤ j → Ancestor s c (get_or (tour s) p 0) × (get_or (tour s) p 0 < length s) = λ p from to.
      (between-carried hc hv hw cv cw from to, visit-part t p (omega arith)) in
      let p = sparse s k i in
      let q = sparse s k a in
      let from = sparse-from s k i fit in
      let to = sparse-to s k i fit in
      let from' = sparse-from s k a fit' in
      let to' = sparse-to s k a fit' in
      let np = node p (omega arith) (omega arith) in
      let nq = node q (omega arith) (omega arith) in
      let r = nearer (own s) (get_or (tour s) p 0) (get_or (tour s) q 0) in
      let ((cr, hr), lp, lq) = nearer-of s (λ u. Ancestor s c u × (u < length s)) (get_or (tour s) p 0) (get_or (tour s) q 0) np.1 nq.1 np nq in
      let (z, after, before, here) = between-lca hv hw l h in
      let least : level s r ≤ level s (get_or (tour s) z 0) =
      blocks-cover i j z before (λ b. le_trans lp (sparse-least s k i z fit after b)) (λ b. le_trans lq (sparse-least s k a z fit' b (omega arith))) in
      let same : level s r ≡ level s c = le_antisymm (rw here at least) (above t hr cr).lower in
      rw (block-node k i few fit, block-node k a few fit') (same-level t hr (ancestor-refl s r) cr same)

  -- the rule gives the lowest common ancestor
  pub tour-lca : (x y : ℕ) → x < length s → y < length s → Lca s (x ∷ y ∷ []) (by_tour (own s) x y)
  tour-lca x y hx hy =
      let c = lca s (x ∷ y ∷ []) in
      let l : Lca s (x ∷ y ∷ []) c = pair_found t hx hy in
      let rx = first-at t x hx in
      let ry = first-at t y hy in
      let is : by_tour (own s) x y ≡ c =
      by_order (first_visit s x) (first_visit s y)
      (λ h. by-positions (own s) x y (omega arith) (omega arith) ∙ nearest hx hy l h)
      (λ h. by-positions (own s) x y (omega arith) (omega arith) ∙ nearest hy hx (swap-lca l) (omega arith)) in
      rw is l
