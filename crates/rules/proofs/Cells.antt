-- The cells of tables that are a sheet's own, where the code reads them and as the rules name them.
-- Assumes nothing.
use Prim.Native.Nat.{ℕ, suc, ◌+◌, ◌*◌, ◌≤◌, ◌<◌}
use native.Mathlib.Nat.{zero-add}
use native.Mathlib.Omega.{arith}
use mathlib.Core.Path.{◌≡◌, ap, ◌∙◌}
use mathlib.Core.List.{List}
use borrow.Author.Tests.{le-leb, lt-leb}
use lib.ListN.{length, get_or}
use Rattle.bits.specs.Bits.{log2}
use Rattle.tree.specs.Tree.{Tree}
use Rattle.tree.specs.Buffers.{label_cells, visits}
use Rattle.tree.specs.Preorder.{preorder_number, size}
use Rattle.tree.specs.Labels.{label_table}
use Rattle.tree.specs.Tour.{tour_table}
use Rattle.tree.specs.Tables.{own}
use Rattle.tree.specs.Routes.{nearer}
use Rattle.tree.proofs.Cells.{label-length, label-cell, tour-sizes, tour_table-length}
use Rattle.tree.proofs.Tours.{tour-length}
use Rattle.tree.proofs.OwnCells.{number-at}

module _ (s : List ℕ) {label : List ℕ} (mine : label ≡ label_table s) where
  -- six columns of n cells
  pub label_length : length label ≡ label_cells (length s)
  label_length = ap length mine ∙ label-length s

  -- cell i: the rules begin to count at the first column, cell 0
  pub label_at : (i : ℕ) → get_or label i 0 ≡ get_or (label_table s) (0 + i) 0
  label_at i = rw (zero-add, mine)

  -- the nearer of two nodes, by the cells of their LEVELs
  pub nearer-left : (x y : ℕ) → get_or label (2 * length s + x) 0 ≤ get_or label (2 * length s + y) 0 → x ≡ nearer (own s) x y
  nearer-left x y h = rw (← label_at (2 * length s + x), ← label_at (2 * length s + y), le-leb _ _ h)

  pub nearer-right : (x y : ℕ) → get_or label (2 * length s + y) 0 < get_or label (2 * length s + x) 0 → y ≡ nearer (own s) x y
  nearer-right x y h = rw (← label_at (2 * length s + x), ← label_at (2 * length s + y), lt-leb _ _ h)

  -- PREORDER
  pub number-cell : (v : ℕ) → v < length s → get_or label v 0 ≡ preorder_number s v
  number-cell v h =
      let same : v ≡ 0 * length s + v = omega arith in
      ap (λ (i : ℕ). get_or label i 0) same ∙ label_at (0 * length s + v) ∙ number-at s v h

  -- SIZE
  pub size-cell : (v : ℕ) → v < length s → get_or label (length s + v) 0 ≡ size s v
  size-cell v h =
      let same : length s + v ≡ 1 * length s + v = omega arith in
      ap (λ (l : List ℕ). get_or l (length s + v) 0) mine ∙ ap (λ (i : ℕ). get_or (label_table s) i 0) same ∙ label-cell s 1 v (omega arith) h

-- the tour, the first positions, and then rows 0 to log (2n−1)
pub tour_length : {s tour : List ℕ} → Tree s → tour ≡ tour_table s
    → length tour ≡ visits (length s) + length s + suc (log2 (visits (length s))) * visits (length s)
tour_length {s} t mine =
    let m = visits (length s) in
    ap length mine ∙ tour_table-length s (tour-length t) ∙ tour-sizes m (length s) (log2 m)
