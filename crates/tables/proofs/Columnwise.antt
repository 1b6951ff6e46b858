-- A label table filled or compared column by column: its first k columns are the sheet's own.
-- Assumes nothing.
use Prim.Native.Nat.{ℕ, suc, ◌+◌, ◌*◌, ◌≤◌}
use native.Mathlib.Nat.{suc-mul}
use native.Mathlib.Omega.{arith}
use mathlib.Core.Path.{◌≡◌, sym, ◌∙◌}
use mathlib.Core.List.{List}
use lib.ListN.{length}
use Rattle.tree.specs.Buffers.{label_cells}
use Rattle.tree.specs.Labels.{label_table}
use Rattle.tree.specs.Sections.{Same, first_difference}
use Rattle.tree.specs.Ready.{Ready, Columns}
use Rattle.tree.proofs.Cells.{label-length}
use Rattle.tree.proofs.Differences.{difference-none, difference-all}

-- column k too is the sheet's own
pub columns-more : {s table work : List ℕ} {k : ℕ} → Ready s work → length table ≡ label_cells (length s)
    → Same table 0 (label_table s) 0 (k * length s + length s) → Columns s table work (suc k)
columns-more {s} {table} {work} {k} r cells same = record { ready = r; cells = cells; own = rw (suc-mul k (length s)) same }

-- all six are: no cell differs
pub columns-none : {s table work : List ℕ} → Columns s table work 6 → label_cells (length s) ≡ first_difference table (label_table s)
columns-none {s} {table} cs =
    let e = label-length s in
    sym e ∙ sym (difference-none table (label_table s) (rw e cs.own))

-- no cell differs: all six are
pub columns-all : {s table work : List ℕ} {at : ℕ} → Ready s work → length table ≡ label_cells (length s)
    → at ≡ first_difference table (label_table s) → length table ≤ at → Columns s table work 6
columns-all {s} {table} r cells e h =
    let own = label-length s in
    record { ready = r; cells = cells; own = rw own at (difference-all table (label_table s) (omega arith)) }
