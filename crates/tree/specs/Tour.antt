-- The tour table (documents 001 and 01, "Tables"): the tour, the first positions and the sparse rows, from the sheet alone.
-- Assumes nothing.
use Rattle.std.specs.Prelude.{ℕ, suc, ◌+◌, ◌^◌, Bool, cond, List, ◌++◌, leb, length, get_or}
use Rattle.bits.specs.Bits.{log2}
use Rattle.tree.specs.Scan.{tabulate, rows, numbers_from, best}
use Rattle.tree.specs.Buffers.{no_cell, visits}
use Rattle.tree.specs.Preorder.{tour, first_visit}
use Rattle.tree.specs.Labels.{nearer_root}

-- the part visited at position p has lesser LEVEL than that at position q
abbrev pub lesser_level : List ℕ → ℕ → ℕ → Bool
lesser_level s p q = nearer_root s (get_or (tour s) p 0) (get_or (tour s) q 0)

-- "Row j, cell i is the leftmost position of least LEVEL among i..i+2^j−1, or 65535 where that block passes the end"
unfoldable pub sparse : List ℕ → ℕ → ℕ → ℕ
sparse s j i =
    let leftmost = best (lesser_level s) no_cell (numbers_from i (2 ^ j)) in
    cond (leb (i + 2 ^ j) (visits (length s))) leftmost no_cell

-- rows 0 to t of 2n−1 cells, t = log(2n−1)
unfoldable pub sparse_rows : List ℕ → List ℕ
sparse_rows s = rows (sparse s) (suc (log2 (visits (length s)))) (visits (length s))

-- "First the tour E of 2n−1 visits; then R ..; then rows 0 to t"
unfoldable pub tour_table : List ℕ → List ℕ
tour_table s = tour s ++ (tabulate (first_visit s) (length s) ++ sparse_rows s)
