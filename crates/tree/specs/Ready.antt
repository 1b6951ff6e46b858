-- What the sections of the tables are made from: a sheet that was accepted, work of its exact length, and the sections before. With it, names for
-- what the functions of the table crates promise to each other: that these cells are the sheet's own.
-- Assumes nothing.
use Rattle.std.specs.Prelude.{ℕ, ◌+◌, ◌*◌, ◌≤◌, ◌≡◌, List, length}
use Rattle.tree.specs.Tree.{Tree}
use Rattle.tree.specs.Preorder.{preorder}
use Rattle.tree.specs.Buffers.{label_cells, work_cells}
use Rattle.tree.specs.Tests.{limit}
use Rattle.tree.specs.Labels.{label_table}
use Rattle.tree.specs.Tour.{tour_table}
use Rattle.tree.specs.Lifts.{lift_table}
use Rattle.tree.specs.Sections.{Same}

-- ---- the sheet's own cells, in a table that was lent

-- the first k columns of a label table
abbrev pub ColumnsOwn : List ℕ → List ℕ → ℕ → Type 0
ColumnsOwn s label k = Same label 0 (label_table s) 0 (k * length s)

-- column k of a label table
abbrev pub ColumnOwn : List ℕ → List ℕ → ℕ → Type 0
ColumnOwn s label k = Same label (k * length s) (label_table s) (k * length s) (length s)

-- the first k cells of a tour table
abbrev pub TourOwn : List ℕ → List ℕ → ℕ → Type 0
TourOwn s tour k = Same tour 0 (tour_table s) 0 k

-- the row of a lift table after the one that begins at cell `at`
abbrev pub LiftOwn : List ℕ → List ℕ → ℕ → Type 0
LiftOwn s lift at = Same lift (at + length s) (lift_table s) (at + length s) (length s)

-- ---- the same, made in work

-- the preorder, in the first n cells
abbrev pub OrderIn : List ℕ → List ℕ → Type 0
OrderIn s work = Same work 0 (preorder s) 0 (length s)

-- PREORDER and SIZE, in the 2n cells from 2n on
abbrev pub NumbersIn : List ℕ → List ℕ → Type 0
NumbersIn s work = Same work (2 * length s) (label_table s) 0 (2 * length s)

-- column k of the label table, in the n cells from n on
abbrev pub ColumnIn : List ℕ → List ℕ → ℕ → Type 0
ColumnIn s work k = Same work (length s) (label_table s) (k * length s) (length s)

-- the k cells of the tour table from `from` on, in the first cells
abbrev pub TourIn : List ℕ → List ℕ → ℕ → ℕ → Type 0
TourIn s work from k = Same work 0 (tour_table s) from k

-- the row of the lift table after the one that begins at cell `at`, in the first n cells
abbrev pub LiftIn : List ℕ → List ℕ → ℕ → Type 0
LiftIn s work at = Same work 0 (lift_table s) (at + length s) (length s)

-- ---- what a section is made from

-- a sheet that is one rooted tree of at most 16,384 parts, with work of its exact length
pub record Ready (s work : List ℕ) : Type 0 where
  pub tree : Tree s
  pub small : length s ≤ limit
  pub room : length work ≡ work_cells (length s)

-- with it a label table whose first k columns are the sheet's own
pub record Columns (s label work : List ℕ) (k : ℕ) : Type 0 where
  pub ready : Ready s work
  pub cells : length label ≡ label_cells (length s)
  pub own : ColumnsOwn s label k
