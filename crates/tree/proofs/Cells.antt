-- The sizes and cells of a sheet's own tables. That the tour has as many visits as the tour table has room for is shown elsewhere, of trees.
-- Assumes nothing.
use Prim.Native.Nat.{ℕ, suc, ◌+◌, ◌*◌, ◌≤◌, ◌<◌, suc-le-suc}
use native.Mathlib.Nat.{mul_comm, mul-add, suc-mul}
use native.Mathlib.Numerals.{add-one}
use native.Mathlib.Omega.{arith}
use mathlib.Core.Path.{◌≡◌, ap, ◌∙◌}
use mathlib.Core.List.{List, ◌++◌}
use lib.ListN.{length, get_or, length-append, get_or-append}
use lib.Seq.{get_or-append-add}
use Rattle.bits.specs.Bits.{log2}
use Rattle.tree.specs.Scan.{tabulate}
use Rattle.tree.specs.Buffers.{label_cells, visits, tour_cells, lift_cells}
use Rattle.tree.specs.Preorder.{tour, first_visit}
use Rattle.tree.specs.Labels.{label_column, label_table}
use Rattle.tree.specs.Tour.{sparse, sparse_rows, tour_table}
use Rattle.tree.specs.Lifts.{lift, lift_table}
use Rattle.tree.proofs.Rows.{length-tabulate, cell-tabulate, length-rows, cell-rows}

-- ---- the label table

-- six columns of n cells
pub label-length : (s : List ℕ) → length (label_table s) ≡ label_cells (length s)
unfolding label_table
label-length s = length-rows (label_column s) 6 (length s)

-- cell v of column k
pub label-cell : (s : List ℕ) (k v : ℕ) → k < 6 → v < length s → get_or (label_table s) (k * length s + v) 0 ≡ label_column s k v
unfolding label_table
label-cell s k v h b = cell-rows (label_column s) 6 (length s) k v h b

-- ---- the tour table

-- the cells after the tour: cell i of them stands at the tour's length and i
after-tour : (s : List ℕ) (i : ℕ) → length (tour s) ≡ visits (length s)
    → get_or (tour_table s) (visits (length s) + i) 0 ≡ get_or (tabulate (first_visit s) (length s) ++ sparse_rows s) i 0
unfolding tour_table
after-tour s i visited = rw (← visited) (get_or-append-add (tour s) (tabulate (first_visit s) (length s) ++ sparse_rows s) i 0)

-- the tour and the first visits, and then t + 1 rows
pub tour-sizes : (m n t : ℕ) → m * (t + 2) + n ≡ m + n + suc t * m
tour-sizes m n t = omega (arith, suc-mul t m, mul-add m t 2, mul_comm m t)

-- l + 1 rows
pub lift-sizes : (n l : ℕ) → n * (l + 1) ≡ suc l * n
lift-sizes n l = omega (arith, suc-mul l n, mul-add n l 1, mul_comm n l)

-- the tour, the first visits and the sparse rows
pub tour_table-length : (s : List ℕ) → length (tour s) ≡ visits (length s) → length (tour_table s) ≡ tour_cells (length s)
unfolding tour_table sparse_rows
tour_table-length s visited =
    let m = visits (length s) in
    let first : length (tabulate (first_visit s) (length s)) ≡ length s = length-tabulate (first_visit s) (length s) in
    let last : length (sparse_rows s) ≡ suc (log2 m) * m = length-rows (sparse s) (suc (log2 m)) m in
    length-append (tour s) (tabulate (first_visit s) (length s) ++ sparse_rows s)
    ∙ rw (length-append, visited, first, last, tour-sizes m (length s) (log2 m)) (omega arith)

-- cell i of the tour
pub tour-cell : (s : List ℕ) (i : ℕ) → length (tour s) ≡ visits (length s) → i < visits (length s) → get_or (tour_table s) i 0 ≡ get_or (tour s) i 0
unfolding tour_table
tour-cell s i visited h = get_or-append (tour s) (tabulate (first_visit s) (length s) ++ sparse_rows s) 0 i (rw visited h)

-- node v's first visit
pub first_cell : (s : List ℕ) (v : ℕ) → length (tour s) ≡ visits (length s) → v < length s
    → get_or (tour_table s) (visits (length s) + v) 0 ≡ first_visit s v
first_cell s v visited h =
    let first : length (tabulate (first_visit s) (length s)) ≡ length s = length-tabulate (first_visit s) (length s) in
    after-tour s v visited
    ∙ get_or-append (tabulate (first_visit s) (length s)) (sparse_rows s) 0 v (omega arith)
    ∙ cell-tabulate (first_visit s) (length s) v h

-- cell i of sparse row j
pub sparse-cell : (s : List ℕ) (j i : ℕ) → length (tour s) ≡ visits (length s) → j ≤ log2 (visits (length s)) → i < visits (length s)
    → get_or (tour_table s) (visits (length s) + length s + j * visits (length s) + i) 0 ≡ sparse s j i
unfolding sparse_rows
sparse-cell s j i visited h b =
    let m = visits (length s) in
    let row = tabulate (first_visit s) (length s) in
    let first : length row ≡ length s = length-tabulate (first_visit s) (length s) in
    let at : m + length s + j * m + i ≡ m + (length row + (j * m + i)) = omega arith in
    ap (λ (x : ℕ). get_or (tour_table s) x 0) at
    ∙ after-tour s (length row + (j * m + i)) visited
    ∙ get_or-append-add row (sparse_rows s) (j * m + i) 0
    ∙ cell-rows (sparse s) (suc (log2 m)) m j i (suc-le-suc h) b

-- ---- the lift table

-- rows 0 to log n of n cells
pub lift-length : (s : List ℕ) → length (lift_table s) ≡ lift_cells (length s)
unfolding lift_table
lift-length s = length-rows (lift s) (suc (log2 (length s))) (length s) ∙ rw (mul_comm (suc (log2 (length s))) (length s), add-one)

-- cell v of row k
pub lift-cell : (s : List ℕ) (k v : ℕ) → k ≤ log2 (length s) → v < length s → get_or (lift_table s) (k * length s + v) 0 ≡ lift s k v
unfolding lift_table
lift-cell s k v h b = cell-rows (lift s) (suc (log2 (length s))) (length s) k v (suc-le-suc h) b
