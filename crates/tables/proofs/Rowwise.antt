-- A table filled or compared row by row: its cells are the sheet's own up to the end of the row that the loop is at. The same for sparse rows
-- and for lift rows.
-- Assumes nothing.
use Prim.Native.Nat.{ℕ, suc, ◌+◌, ◌-◌, ◌*◌, ◌≤◌, ◌<◌}
use native.Mathlib.Nat.{zero-add}
use native.Mathlib.Omega.{arith}
use mathlib.Core.Path.{◌≡◌, refl, sym, ◌∙◌}
use mathlib.Core.List.{List}
use lib.ListN.{length}
use Rattle.bits.specs.Bits.{log2}
use Rattle.tree.specs.Sections.{Same, first_difference}
use Rattle.tree.proofs.Differences.{same-all, difference-none}
use Rattle.cells.specs.Cells.{Agree}
use Rattle.tables.proofs.Sections.{agree-all, agree-parts}
use Rattle.tables.proofs.Powers.{Row, row-start, row-pos, row_small, row_next, row_fits, row_last}

-- the rows 0 to log m of some width stand from base on to the end of `own`; `table` is as long, and is `own` up to the end of the row at `at`
pub record Rowwise (own table : List ℕ) (base width m at half : ℕ) : Type 0 where
  pub some : 0 < m
  pub last : length own ≡ base + suc (log2 m) * width
  pub cells : length table ≡ length own
  pub row : Row base width m at half
  pub same : Same table 0 own 0 (at + width)

pub rowwise-start : {own table : List ℕ} {base width m : ℕ} → 0 < m → length own ≡ base + suc (log2 m) * width → length table ≡ length own
    → Same table 0 own 0 (base + width) → Rowwise own table base width m base 1
rowwise-start {own} {table} {base} {width} {m} some last cells same =
    record { some = some; last = last; cells = cells; row = row-start base width m; same = same }

-- a stretch is equal to itself
same_self : {a : List ℕ} {i k : ℕ} → Same a i a i k
same_self = record { cell = λ x h. refl }

module _ {own table : List ℕ} {base width m at half : ℕ} (r : Rowwise own table base width m at half) where
  -- the row itself
  pub rowwise-here : Same table at own at width
  rowwise-here = record { cell = λ x h. let e = r.same.cell (at + x) (omega arith) in rw zero-add at e }

  pub rowwise-small : half ≤ m
  rowwise-small = row_small r.some r.row

  -- a greater power is nearer to m
  pub rowwise-less : 2 * half ≤ m → m - 2 * half < m - half
  rowwise-less h = let pos = row-pos r.row in omega arith

  pub rowwise-room : at + width ≤ length table
  rowwise-room = let e = r.last in let f = r.cells in let fits = row_fits r.some r.row in omega arith

  -- the next row
  pub rowwise-next-room : 2 * half ≤ m → at + width + width ≤ length own
  rowwise-next-room h = let e = r.last in let fits = row_fits r.some (row_next r.some r.row h) in omega arith

  -- .. for which there is room in the table, and in work of k cells
  pub rowwise-next-fits : {k : ℕ} → 2 * half ≤ m → width ≤ k → (at + width + width ≤ length table) × (0 + width ≤ k)
  rowwise-next-fits h b = let e = r.cells in let room = rowwise-next-room h in (omega arith, omega arith)

  -- .. which is made, and is the table's too
  pub rowwise-next : {table' : List ℕ} → 2 * half ≤ m → length table' ≡ length table → Same table' 0 own 0 (at + width + width)
      → Rowwise own table' base width m (at + width) (2 * half)
  rowwise-next h kept same =
      record { some = r.some; last = r.last; cells = kept ∙ r.cells; row = row_next r.some r.row h; same = same }

  -- .. which is compared: all its cells are the sheet's own
  pub rowwise-agreed : {k : ℕ} → 2 * half ≤ m → Agree table (at + width) own (at + width) width k → width ≤ k
      → Rowwise own table base width m (at + width) (2 * half)
  rowwise-agreed h g b = rowwise-next h refl (agree-all r.same g same_self b)

  -- .. or the first difference is among them
  pub rowwise-parts : {k : ℕ} → 2 * half ≤ m → Agree table (at + width) own (at + width) width k → k < width → at + width + k ≡ first_difference table own
  rowwise-parts h g b = agree-parts r.same g same_self (rowwise-next-room h) b

  -- after the last row
  pub rowwise-end : m < 2 * half → at + width ≡ length own
  rowwise-end h = row_last r.some r.row h ∙ sym r.last

  -- .. the table is the sheet's own
  pub rowwise-all : m < 2 * half → table ≡ own
  rowwise-all h = same-all table own r.cells (rw (rowwise-end h) at r.same)

  -- .. and no cell differs
  pub rowwise-none : m < 2 * half → at + width ≡ first_difference table own
  rowwise-none h = let e = rowwise-end h in e ∙ sym (difference-none table own (rw e at r.same))
