-- Steps 1 to 3 of the label rule on a sheet's own tables: what the carrier of a pair gives steps 1 and 2, and the head that step 3 reads.
-- Assumes nothing.
use Prim.Native.Nat.{ℕ, ◌+◌, ◌-◌, ◌*◌, ◌≤◌, ◌<◌}
use native.Mathlib.Omega.{arith}
use mathlib.Core.Path.{◌≡◌, sym, ap, ◌∙◌}
use mathlib.Core.Logic.{◌≢◌}
use mathlib.Core.Bool.{cond}
use mathlib.Core.List.{List, [], ◌∷◌}
use borrow.Author.Tests.{eq-eqb, ne_eqb}
use lib.Dec.{eqb}
use lib.ListN.{length, get_or}
use Rattle.bits.specs.Bits.{log2, rightmost_zeros, bits_below, IsBelow}
use Rattle.tree.specs.Tree.{parent}
use Rattle.tree.specs.Lca.{lca}
use Rattle.tree.specs.Labels.{inlabel, head_node, label_table}
use Rattle.tree.specs.Tables.{own}
use Rattle.tree.specs.Tests.{limit}
use Rattle.tree.specs.Nodes.{Small, Pair}
use Rattle.tree.specs.Routes.{head_at, nearer, step1, step2, step3, label_above, by_labels}
use Rattle.tree.proofs.Scans.{by_equal}
use Rattle.tree.proofs.Lcas.{pair-lca}
use Rattle.tree.proofs.Paths.{inlabel-pos, inlabel-most-n, head-part}
use Rattle.tree.proofs.OwnCells.{inlabel_at_lem, ascendant_at_lem, head_at_lem}
use Rattle.tree.proofs.Ascents.{path-label}
use Rattle.tree.proofs.ByLabels.{path-bit, head-below}
use Rattle.rules.specs.Steps.{Toward}
use Rattle.rules.proofs.Cells.{label_at}

-- ---- step 3

-- a cell of HEAD, that of the label k, is a node, and so is the node's parent
pub record HeadCell (s label : List ℕ) (k : ℕ) : Type 0 where
  pub some : 0 < k
  pub most : k ≤ length s
  pub small : length s ≤ limit
  pub cell : get_or label (5 * length s + k - 1) 0 ≡ head_at (own s) k
  pub node : get_or label (5 * length s + k - 1) 0 < length s
  pub above : get_or s (get_or label (5 * length s + k - 1) 0) 0 < length s

head-cell : {s label : List ℕ} (k : ℕ) → Small s → label ≡ label_table s → 0 < k → k ≤ length s → head_node s k < length s → HeadCell s label k
unfolding parent
head-cell {s} {label} k small mine some most h =
    let n = length s in
    let same : 5 * n + k - 1 ≡ 5 * n + (k - 1) = omega arith in
    let cell : get_or label (5 * n + k - 1) 0 ≡ head_at (own s) k = ap (λ (i : ℕ). get_or label i 0) same ∙ label_at s mine (5 * n + (k - 1)) in
    let node : get_or label (5 * n + k - 1) 0 < n = rw (cell ∙ head_at_lem s k some most) h in
    record { some = some; most = most; small = small.most; cell = cell; node = node; above = small.tree.inside _ node }

-- the label of which step 3 reads HEAD: v's own where v is on the path itself
abbrev pub path_read : List ℕ → List ℕ → ℕ → ℕ → ℕ → ℕ
path_read s label v j iz =
    let iv = get_or label (3 * length s + v) 0 in
    cond (eqb iv iz) iv (label_above (log2 (bits_below j (get_or label (4 * length s + v) 0))) iv)

module _ {s label : List ℕ} {v j iz : ℕ} (t : Toward s v j iz) (mine : label ≡ label_table s) where
  inlabel-cell : get_or label (3 * length s + v) 0 ≡ inlabel s v
  inlabel-cell = label_at s mine (3 * length s + v) ∙ inlabel_at_lem s v t.node

  -- its HEAD
  pub path-head : HeadCell s label (path_read s label v j iz)
  path-head =
      let tree = t.small.tree in
      by_equal (get_or label (3 * length s + v) 0) iz
      (λ e.
      rw (eq-eqb _ _ e, inlabel-cell)
      (head-cell (inlabel s v) t.small mine (inlabel-pos tree v t.node) (inlabel-most-n tree v t.node) (head-part tree v t.node)))
      (λ q.
      let b = head-below tree t.node t.carries (λ e. q (inlabel-cell ∙ e ∙ sym t.label_is)) in
      rw (ne_eqb _ _ q, inlabel-cell, label_at s mine (4 * length s + v) ∙ ascendant_at_lem s v t.node, t.place_is)
      (head-cell _ t.small mine b.some b.most b.node))

  -- a node of the path itself
  pub step3-here : get_or label (3 * length s + v) 0 ≡ iz → IsBelow (step3 (own s) j iz v) (length s) v
  unfolding step3
  step3-here e = record {
    is = rw (← label_at s mine (3 * length s + v), eq-eqb _ _ e);
    below = t.node;
  }

  -- any other: the parent of the HEAD
  pub step3-head : get_or label (3 * length s + v) 0 ≢ iz
      → IsBelow (step3 (own s) j iz v) (length s) (get_or s (get_or label (5 * length s + path_read s label v j iz - 1) 0) 0)
  unfolding step3 parent
  step3-head q = record {
    is = rw (path-head.cell, ← label_at s mine (3 * length s + v), ← label_at s mine (4 * length s + v), ne_eqb _ _ q);
    below = path-head.above;
  }

-- ---- steps 1 and 2

-- a pair of nodes whose INLABELs differ, after steps 1 and 2
pub record Steps (s : List ℕ) (x y j iz : ℕ) : Type 0 where
  pub left : Toward s x j iz
  pub right : Toward s y j iz
  pub answer : by_labels (own s) x y ≡ nearer (own s) (step3 (own s) j iz x) (step3 (own s) j iz y)

module _ {s label : List ℕ} {x y : ℕ} (p : Pair s x y) (mine : label ≡ label_table s) where
  -- at equal INLABELs
  pub labels-equal : get_or label (3 * length s + x) 0 ≡ get_or label (3 * length s + y) 0 → by_labels (own s) x y ≡ nearer (own s) x y
  unfolding by_labels
  labels-equal e = rw (← label_at s mine (3 * length s + x), ← label_at s mine (3 * length s + y), eq-eqb _ _ e)

  -- at others
  pub labels-other : get_or label (3 * length s + x) 0 ≢ get_or label (3 * length s + y) 0 → {j : ℕ}
      → j ≡ step2 (step1 (get_or label (3 * length s + x) 0) (get_or label (3 * length s + y) 0)) (get_or label (4 * length s + x) 0) (get_or label (4 * length s + y) 0)
      → Steps s x y j (label_above j (get_or label (3 * length s + x) 0))
  unfolding by_labels
  labels-other q {j} e =
      let n = length s in
      let tree = p.small.tree in
      let at = label_at s mine in
      let ix = at (3 * n + x) ∙ inlabel_at_lem s x p.left in
      let iy = at (3 * n + y) ∙ inlabel_at_lem s y p.right in
      let ax = at (4 * n + x) ∙ ascendant_at_lem s x p.left in
      let ay = at (4 * n + y) ∙ ascendant_at_lem s y p.right in
      let c = lca s (x ∷ y ∷ []) in
      let carrier = pair-lca tree x y p.left p.right in
      let place : j ≡ rightmost_zeros (inlabel s c) = e ∙ rw (ix, iy, ax, ay) (path-bit tree x y p.left p.right) in
      let label : label_above j (get_or label (3 * n + x) 0) ≡ inlabel s c = rw (ix, place) (path-label tree carrier.part p.left carrier.left) in
      record {
        left = record { small = p.small; node = p.left; top = c; top-node = carrier.part; carries = carrier.left; label_is = label; place_is = place };
        right = record { small = p.small; node = p.right; top = c; top-node = carrier.part; carries = carrier.right; label_is = label; place_is = place };
        answer = rw (← at (3 * n + x), ← at (3 * n + y), ← at (4 * n + x), ← at (4 * n + y), ne_eqb _ _ q, e);
      }
