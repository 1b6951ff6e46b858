-- What the sections of the tables are made from: work, a column made in it, and a column read from a label table that is the sheet's own so far.
-- Assumes nothing.
use Prim.Native.Nat.{ℕ, ◌+◌, ◌*◌, ◌≤◌, ◌<◌}
use native.Mathlib.Nat.{zero-add, le_trans, mul-le-mul_right}
use mathlib.Core.Path.{◌≡◌, sym, ap, ◌∙◌}
use mathlib.Core.List.{List}
use lib.Arith.{digits_lt}
use lib.ListN.{length, get_or}
use Rattle.tree.specs.Labels.{label_column, label_table}
use Rattle.tree.specs.Sections.{Same}
use Rattle.tree.specs.Ready.{Ready, Columns}
use Rattle.tree.proofs.Cells.{label-length, label-cell}

-- work of the same length
pub ready-kept : {s work work' : List ℕ} → Ready s work → length work' ≡ length work → Ready s work'
ready-kept r e = record { tree = r.tree; small = r.small; room = e ∙ r.room }

pub columns-kept : {s label work work' : List ℕ} {k : ℕ} → Columns s label work k → length work' ≡ length work → Columns s label work' k
columns-kept c e = record { ready = ready-kept c.ready e; cells = c.cells; own = c.own }

-- a stretch of n cells that holds column c is that of the table
pub column-same : (s w : List ℕ) (from c : ℕ) → c < 6 → ((v : ℕ) → v < length s → get_or w (from + v) 0 ≡ label_column s c v)
    → Same w from (label_table s) (c * length s) (length s)
column-same s w from c h cell = record { cell = λ v b. cell v b ∙ sym (label-cell s c v h b) }

-- cell v of column c of a table whose first k columns are the sheet's own
pub column-read : {s label work : List ℕ} {k : ℕ} → Columns s label work k → (c v i : ℕ) → c < k → c < 6 → v < length s → i ≡ c * length s + v
    → get_or label i 0 ≡ label_column s c v
column-read {s} {label} {work} {k} cs c v i h h6 b e =
    let here : get_or label (0 + (c * length s + v)) 0 ≡ get_or (label_table s) (0 + (c * length s + v)) 0 = cs.own.cell (c * length s + v) (digits_lt h b) in
    rw (e, ← label-cell s c v h6 b) (rw zero-add at here)

-- fewer columns
pub columns-fewer : {s label work : List ℕ} {j k : ℕ} → j ≤ k → Columns s label work k → Columns s label work j
columns-fewer {s} {label} {work} {j} {k} h cs = record {
  ready = cs.ready;
  cells = cs.cells;
  own = record { cell = λ x b. cs.own.cell x (le_trans b (mul-le-mul_right (length s) h)) };
}

-- the sheet's own label table has all six
pub own-columns : {s label work : List ℕ} → label ≡ label_table s → Ready s work → Columns s label work 6
own-columns {s} e r =
    record { ready = r; cells = ap length e ∙ label-length s; own = record { cell = λ x _. ap (λ (l : List ℕ). get_or l (0 + x) 0) e } }
