-- What the routes' rules read of a sheet's own tables: each named cell is the number that it is named after.
-- Assumes nothing.
use Prim.Native.Nat.{ℕ, suc, ◌+◌, ◌-◌, ◌*◌, ◌≤◌, ◌<◌}
use native.Mathlib.Nat.{zero-add}
use native.Mathlib.Omega.{arith}
use mathlib.Core.Path.{◌≡◌, ap, ◌∙◌}
use mathlib.Core.List.{List}
use lib.ListN.{length, get_or}
use Rattle.bits.specs.Bits.{log2}
use Rattle.tree.specs.Tree.{level, Tree}
use Rattle.tree.specs.Buffers.{visits}
use Rattle.tree.specs.Preorder.{preorder_number, tour, first_visit}
use Rattle.tree.specs.Labels.{label_column, label_table, inlabel, ascendant, head_node}
use Rattle.tree.specs.Tour.{sparse, tour_table}
use Rattle.tree.specs.Lifts.{lift}
use Rattle.tree.specs.Tables.{own}
use Rattle.tree.specs.Routes.{cell, number_at, level_at, inlabel_at, ascendant_at, head_at, visit_at, first_at, sparse_at}
use Rattle.tree.specs.Trail.{lift_at}
use Rattle.tree.proofs.Cells.{label-cell, tour-cell, first_cell, sparse-cell, lift-cell}
use Rattle.tree.proofs.Tours.{tour-length}

-- ---- the label table

-- cell v of column k
column-at : (s : List ℕ) (k v : ℕ) → k < 6 → v < length s → cell (label_table s) 0 (length s) k v ≡ label_column s k v
column-at s k v a h = rw zero-add (label-cell s k v a h)

module _ (s : List ℕ) (v : ℕ) (h : v < length s) where
  pub number-at : number_at (own s) v ≡ preorder_number s v
  number-at = column-at s 0 v (omega arith) h

  pub level_at_lem : level_at (own s) v ≡ level s v
  level_at_lem = column-at s 2 v (omega arith) h

  pub inlabel_at_lem : inlabel_at (own s) v ≡ inlabel s v
  inlabel_at_lem = column-at s 3 v (omega arith) h

  pub ascendant_at_lem : ascendant_at (own s) v ≡ ascendant s v
  ascendant_at_lem = column-at s 4 v (omega arith) h

-- HEAD of k
pub head_at_lem : (s : List ℕ) (k : ℕ) → 0 < k → k ≤ length s → head_at (own s) k ≡ head_node s k
head_at_lem s k some h =
    let same : suc (k - 1) ≡ k = omega arith in
    column-at s 5 (k - 1) (omega arith) (omega arith) ∙ ap (head_node s) same

-- ---- the tour table

module _ {s : List ℕ} (t : Tree s) where
  pub visit-at : (p : ℕ) → p < visits (length s) → visit_at (own s) p ≡ get_or (tour s) p 0
  visit-at p h = tour-cell s p (tour-length t) h

  pub first-at : (v : ℕ) → v < length s → first_at (own s) v ≡ first_visit s v
  first-at v h = first_cell s v (tour-length t) h

  pub sparse_at_lem : (j i : ℕ) → j ≤ log2 (visits (length s)) → i < visits (length s) → sparse_at (own s) j i ≡ sparse s j i
  sparse_at_lem j i a h =
      let m = visits (length s) in
      let same : m + length s + (j * m + i) ≡ m + length s + j * m + i = omega arith in
      ap (λ (x : ℕ). get_or (tour_table s) x 0) same ∙ sparse-cell s j i (tour-length t) a h

-- ---- the lift table

pub lift_at_lem : (s : List ℕ) (k v : ℕ) → k ≤ log2 (length s) → v < length s → lift_at (own s) k v ≡ lift s k v
lift_at_lem s k v a h = rw zero-add (lift-cell s k v a h)
