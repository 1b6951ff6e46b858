-- What the rows of the tour table and of the lift table are made from.
-- Assumes nothing.
use Rattle.std.specs.Prelude.{ℕ, ◌+◌, ◌*◌, ◌^◌, ◌≤◌, ◌<◌, ◌-◌, ◌≡◌, ◌⊎◌, cond, List, ltb, length, get_or}
use Rattle.bits.specs.Bits.{log2}
use Rattle.tree.specs.Tree.{level}
use Rattle.tree.specs.Preorder.{tour}
use Rattle.tree.specs.Buffers.{visits, tour_cells, lift_cells}
use Rattle.tree.specs.Tour.{sparse, tour_table}
use Rattle.tree.specs.Lifts.{lift_table}
use Rattle.tree.specs.Sections.{Same}
use Rattle.tree.specs.Ready.{Ready, TourOwn}

-- the cells of work from `from` on hold the levels at the positions of the row whose blocks have `size` cells: the least of each block
pub record RowLevels (s work : List ℕ) (from size : ℕ) : Type 0 where
  pub at_block : (j i : ℕ) → 2 ^ j ≡ size → i + size ≤ visits (length s) → get_or work (from + i) 0 ≡ level s (get_or (tour s) (sparse s j i) 0)

-- the first or the second half of work's 4n cells begins at `from`
abbrev pub Half : ℕ → ℕ → Type 0
Half n from = (from ≡ 0) ⊎ (from ≡ 2 * n)

-- the levels of a row, of blocks of `half` cells, in a half of work; the row is not the last
pub record LevelRow (s : List ℕ) (half from : ℕ) (work : List ℕ) : Type 0 where
  pub ready : Ready s work
  pub some : 0 < half
  pub two : 2 * half ≤ visits (length s)
  pub side : Half (length s) from
  pub levels : RowLevels s work from half

-- with it a tour table that is the sheet's own up to the end of that row, which begins at `at`
pub record SparseRow (s table : List ℕ) (at half from : ℕ) (work : List ℕ) : Type 0 where
  pub level-row : LevelRow s half from work
  pub cells : length table ≡ tour_cells (length s)
  pub row : ℕ
  pub more : row < log2 (visits (length s))
  pub begins : at ≡ visits (length s) + length s + row * visits (length s)
  pub blocks : half ≡ 2 ^ row
  pub own : TourOwn s table (at + visits (length s))

-- the cells of the row after it whose blocks end within the tour are the sheet's own
abbrev pub BlocksOwn : List ℕ → List ℕ → ℕ → ℕ → Type 0
BlocksOwn s table at half = Same table (at + visits (length s)) (tour_table s) (at + visits (length s)) (2 * length s - 2 * half)

-- of the positions of two blocks side by side, from cell i of the row at `at` on, the one of lesser level, the left one at equal levels
abbrev pub chosen : List ℕ → List ℕ → ℕ → ℕ → ℕ → ℕ → ℕ
chosen table work at half from i =
    cond (ltb (get_or work (from + i + half) 0) (get_or work (from + i) 0)) (get_or table (at + i + half) 0) (get_or table (at + i) 0)

-- what is read for it of the row and of the levels; it is the next row's
pub record TwoBlocks (s table work : List ℕ) (at half from i : ℕ) : Type 0 where
  pub right : at + i + half < length table
  pub right-level : from + i + half < length work
  pub lesser : chosen table work at half from i ≡ get_or (tour_table s) (at + visits (length s) + i) 0

-- a lift table whose row that begins at `at` is the sheet's own and is not the last
pub record LiftRow (s table : List ℕ) (at : ℕ) (work : List ℕ) : Type 0 where
  pub ready : Ready s work
  pub cells : length table ≡ lift_cells (length s)
  pub row : ℕ
  pub more : row < log2 (length s)
  pub begins : at ≡ row * length s
  pub own : Same table at (lift_table s) at (length s)
