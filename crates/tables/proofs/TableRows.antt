-- The loops over the rows of the lift table and of the tour table: what they start from, and what each next row is made from.
-- Assumes nothing.
use Prim.Native.Nat.{ℕ, suc, ◌+◌, ◌-◌, ◌*◌, ◌≤◌, ◌<◌, zero-le}
use native.Mathlib.Nat.{zero-add, zero-mul, suc-mul, mul-le-mul_right}
use native.Mathlib.Omega.{arith}
use mathlib.Core.Path.{◌≡◌, refl, sym, ap, ◌∙◌}
use mathlib.Core.Logic.{inl, inr, ⊎_elim}
use mathlib.Core.List.{List}
use lib.ListN.{length, get_or}
use Rattle.bits.specs.Bits.{log2}
use Rattle.bits.proofs.Log.{log2-le}
use Rattle.tree.specs.Tree.{parent}
use Rattle.tree.specs.Buffers.{visits, tour_cells, lift_cells}
use Rattle.tree.specs.Lifts.{lift_table}
use Rattle.tree.specs.Tour.{tour_table}
use Rattle.tree.specs.Sections.{Same}
use Rattle.tree.specs.Ready.{Ready, Columns, TourOwn}
use Rattle.tree.specs.Tests.{limit}
use Rattle.tree.proofs.Cells.{tour-sizes, lift-sizes, tour_table-length, lift-length, lift-cell}
use Rattle.tree.proofs.Columns.{ready-kept}
use Rattle.tree.proofs.Doubling.{lift-zero}
use Rattle.tree.proofs.Tours.{tour-length}
use Rattle.rows.specs.Rows.{Half, RowLevels, LevelRow, SparseRow, LiftRow}
use Rattle.tables.proofs.Powers.{Row, row-pos, row-not-last}
use Rattle.tables.proofs.Rowwise.{Rowwise, rowwise-start, rowwise-here, rowwise-small}

-- a tree has a node
pub some-node : {s work : List ℕ} → Ready s work → 0 < length s
some-node r = let h = r.tree.root-inside in omega arith

-- ---- lift rows

abbrev pub LiftRows : List ℕ → List ℕ → ℕ → ℕ → Type 0
LiftRows s table at power = Rowwise (lift_table s) table 0 (length s) (length s) at power

-- there is room for row 0
pub lift-room : (s : List ℕ) → length s ≤ length (lift_table s)
lift-room s = let n = length s in omega (arith, lift-length s, lift-sizes n (log2 n), suc-mul (log2 n) n)

-- row 0 is the sheet
pub lift-first : (s : List ℕ) → Same s 0 (lift_table s) 0 (length s)
unfolding parent
lift-first s = record {
  cell = λ v h.
      ap (λ (i : ℕ). get_or s i 0) (zero-add v) ∙ sym (lift-zero s v) ∙ sym (lift-cell s 0 v zero-le h)
      ∙ ap (λ (i : ℕ). get_or (lift_table s) (i + v) 0) (zero-mul (length s));
}

pub lift-rows-start : {s table work : List ℕ} → Ready s work → length table ≡ lift_cells (length s) → Same table 0 (lift_table s) 0 (0 + length s)
    → LiftRows s table 0 1
lift-rows-start {s} r cells same =
    let n = length s in
    rowwise-start (some-node r) (lift-length s ∙ lift-sizes n (log2 n) ∙ sym (zero-add (suc (log2 n) * n))) (cells ∙ sym (lift-length s)) same

-- what the next row is made from
pub lift-row : {s table work : List ℕ} {at power : ℕ} → LiftRows s table at power → Ready s work → 2 * power ≤ length s → LiftRow s table at work
lift-row {s} {table} {work} {at} {power} l r h = record {
  ready = r;
  cells = l.cells ∙ lift-length s;
  row = l.row.row;
  more = row-not-last l.some l.row h;
  begins = l.row.begins ∙ zero-add (l.row.row * length s);
  own = rowwise-here l;
}

-- ---- sparse rows

abbrev pub SparseRows : List ℕ → List ℕ → ℕ → ℕ → Type 0
SparseRows s table at half = Rowwise (tour_table s) table (visits (length s) + length s) (visits (length s)) (visits (length s)) at half

-- the sheet's own tour table has its exact length
pub own-tour-length : {s work : List ℕ} → Ready s work → length (tour_table s) ≡ tour_cells (length s)
own-tour-length {s} r = tour_table-length s (tour-length r.tree)

-- there is room for the tour, the first visits and row 0
pub tour-room : {s work : List ℕ} → Ready s work → visits (length s) + length s + visits (length s) ≤ length (tour_table s)
tour-room {s} r =
    let n = length s in
    let m = visits n in
    omega (arith, own-tour-length r, tour-sizes m n (log2 m), suc-mul (log2 m) m)

sparse_rows-start : {s table work : List ℕ} → Ready s work → length table ≡ tour_cells (length s)
    → Same table 0 (tour_table s) 0 (visits (length s) + length s + visits (length s)) → SparseRows s table (visits (length s) + length s) 1
sparse_rows-start {s} r cells same =
    let n = length s in
    let some = some-node r in
    rowwise-start (omega arith) (own-tour-length r ∙ tour-sizes (visits n) n (log2 (visits n))) (cells ∙ sym (own-tour-length r)) same

-- what row 0 is made from, where the first visits behind the tour are the sheet's own too
pub sparse-first : {s label table work : List ℕ}
    → Columns s label work 6 × (length table ≡ tour_cells (length s)) × TourOwn s table (visits (length s) + length s)
    → Columns s label work 6 × (length table ≡ tour_cells (length s)) × TourOwn s table (visits (length s))
sparse-first p = (p.0, p.1, record { cell = λ x h. p.2.cell x (omega arith) })

-- the levels change sides with each row
half-begins : (n from : ℕ) → Half n from → from ≤ 2 * n
half-begins n from h = ⊎_elim (λ e. omega arith) (λ e. omega arith) h

half-other : (n from : ℕ) → Half n from → Half n (2 * n - from)
half-other n from h = ⊎_elim (λ e. inr (omega arith)) (λ e. inl (omega arith)) h

-- no row begins past cell 32n
row-begins : {n at half : ℕ} → n ≤ limit → Row (visits n + n) (visits n) (visits n) at half → at ≤ 32 * n
row-begins {n} small r =
    let e = r.begins in
    let last : log2 (visits n) ≤ 14 = log2-le (visits n) 14 (omega arith) in
    let most : r.row * visits n ≤ 14 * visits n = mul-le-mul_right (visits n) (omega (arith, r.most)) in
    omega arith

-- the numbers of a loop over the rows are in bounds
pub record SparseBounds (n at half from : ℕ) : Type 0 where
  pub parts : n ≤ limit
  pub some : 0 < half
  pub most : half ≤ visits n
  pub side : from ≤ 2 * n
  pub begins : at ≤ 32 * n

-- a loop at the row that begins at `at`: the rows up to it are the sheet's own, and the levels at its positions stand in a half of work
pub record SparseLoop (s table work : List ℕ) (at half from : ℕ) : Type 0 where
  pub bounds : SparseBounds (length s) at half from
  pub rows : SparseRows s table at half
  pub ready : Ready s work
  pub side : Half (length s) from
  pub levels : RowLevels s work from half

-- the bounds follow
sparse-loop : {s table work : List ℕ} {at half from : ℕ} → SparseRows s table at half → Ready s work → Half (length s) from → RowLevels s work from half
    → SparseLoop s table work at half from
sparse-loop rows ready side levels = record {
  bounds = record {
    parts = ready.small;
    some = row-pos rows.row;
    most = rowwise-small rows;
    side = half-begins _ _ side;
    begins = row-begins ready.small rows.row;
  };
  rows = rows;
  ready = ready;
  side = side;
  levels = levels;
}

-- it begins at row 0, with the levels in the second half
pub sparse-start : {s table work work' : List ℕ} {at half from : ℕ} → (at ≡ visits (length s) + length s) × (half ≡ 1) × (from ≡ 2 * length s)
    → Ready s work → length work' ≡ length work → RowLevels s work' (2 * length s) 1
    → length table ≡ tour_cells (length s) → Same table 0 (tour_table s) 0 (visits (length s) + length s + visits (length s))
    → SparseLoop s table work' at half from
sparse-start first r kept levels cells same =
    rw (first.0, first.1, first.2) (sparse-loop (sparse_rows-start r cells same) (ready-kept r kept) (inr refl) levels)

-- where the row is not the last
module _ {s table work : List ℕ} {at half from : ℕ} (l : SparseLoop s table work at half from) (h : 2 * half ≤ visits (length s)) where
  -- what the next levels are made from, in work that still holds the row's
  pub sparse-levels : {work' : List ℕ} → length work' ≡ length work → RowLevels s work' from half → LevelRow s half from work'
  sparse-levels kept levels =
      record { ready = ready-kept l.ready kept; some = l.bounds.some; two = h; side = l.side; levels = levels }

  -- what the next row is made from
  pub sparse-row : SparseRow s table at half from work
  sparse-row =
      let rows = l.rows in record {
        level-row = sparse-levels refl l.levels;
        cells = rows.cells ∙ own-tour-length l.ready;
        row = rows.row.row;
        more = row-not-last rows.some rows.row h;
        begins = rows.row.begins;
        blocks = rows.row.blocks;
        own = rows.same;
      }

  -- the loop at the next row, once it is the table's too and its levels stand in the other half
  pub sparse-next : {table' work' : List ℕ} {at' half' from' : ℕ}
      → (at' ≡ at + visits (length s)) × (half' ≡ 2 * half) × (from' ≡ 2 * length s - from)
      → SparseRows s table' (at + visits (length s)) (2 * half) → length work' ≡ length work
      → RowLevels s work' (2 * length s - from) (2 * half) → SparseLoop s table' work' at' half' from'
  sparse-next next rows kept levels =
      rw (next.0, next.1, next.2) (sparse-loop rows (ready-kept l.ready kept) (half-other (length s) from l.side) levels)
