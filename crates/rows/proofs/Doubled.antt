-- A row of the lift table from the one before it.
-- Assumes nothing.
use Prim.Native.Nat.{ℕ, suc, ◌+◌, ◌*◌, ◌≤◌, ◌<◌, zero-le}
use native.Mathlib.Nat.{suc-mul}
use native.Mathlib.Omega.{arith}
use mathlib.Core.Path.{◌≡◌, sym, ap, ◌∙◌}
use mathlib.Core.List.{List}
use lib.ListN.{length, get_or}
use Rattle.bits.specs.Bits.{log2}
use Rattle.tree.specs.Lifts.{lift, lift_table}
use Rattle.tree.proofs.Cells.{lift-cell}
use Rattle.tree.proofs.Doubling.{lift-suc, lift-inside}
use Rattle.tree.specs.Sections.{Same}
use Rattle.cells.specs.Cells.{Filled}
use Rattle.rows.specs.Rows.{LiftRow}
use Rattle.rows.proofs.Stores.{rows_fit}

-- the row after the one at `at`
next-begins : {s table work : List ℕ} {at : ℕ} (r : LiftRow s table at work) → at + length s ≡ suc r.row * length s
next-begins {s} r = omega (arith, r.begins, suc-mul r.row (length s))

-- the row stands in the table
pub row_room : {s table work : List ℕ} {at : ℕ} → LiftRow s table at work → at + length s ≤ length table
row_room {s} r = let n = length s in rw (next-begins r) (omega (arith, r.cells, rows_fit (suc r.row) (log2 n + 1) n (omega (arith, r.more))))

-- .. and so does the next
pub next-room : {s table work : List ℕ} {at : ℕ} → LiftRow s table at work → at + length s + length s ≤ length table
next-room {s} r =
    let n = length s in
    let two : suc (suc r.row) * n ≤ n * (log2 n + 1) = rows_fit (suc (suc r.row)) (log2 n + 1) n (omega (arith, r.more)) in
    omega (arith, next-begins r, r.cells, suc-mul (suc r.row) n)

-- cell v of the row at `at` is a node, whose own cell is cell v of the next row
pub record Doubled (s table : List ℕ) (at v : ℕ) : Type 0 where
  pub room : at + length s ≤ length table
  pub node : get_or table (at + v) 0 < length s
  pub twice : get_or table (at + get_or table (at + v) 0) 0 ≡ get_or (lift_table s) (at + length s + v) 0

pub doubled : {s table work : List ℕ} {at : ℕ} → LiftRow s table at work → (v : ℕ) → v < length s → Doubled s table at v
doubled {s} {table} {work} {at} r v h =
    let n = length s in
    let k = r.row in
    let cell : (x : ℕ) → x < n → get_or table (at + x) 0 ≡ lift s k x = λ x b.
    r.own.cell x b ∙ ap (λ (y : ℕ). get_or (lift_table s) (y + x) 0) r.begins ∙ lift-cell s k x (omega (arith, r.more)) b in
    let inside : lift s k v < n = lift-inside s r.ready.tree.inside k v h in
    record {
      room = row_room r;
      node = rw (cell v h) inside;
      twice = rw (cell v h, cell (lift s k v) inside, next-begins r, lift-cell s (suc k) v r.more h) (sym (lift-suc s k v));
    }

-- where all cells of the row are one node, so are those of the next
pub one-next : {s table work : List ℕ} {at x : ℕ} → LiftRow s table at work → ((v : ℕ) → v < length s → get_or table (at + v) 0 ≡ x)
    → (v : ℕ) → v < length s → get_or (lift_table s) (at + length s + v) 0 ≡ x
one-next {s} {table} {work} {at} r all v h = let d = doubled r v h in sym d.twice ∙ all (get_or table (at + v) 0) d.node

pub one-node : {s table work before after : List ℕ} {at x : ℕ} → LiftRow s table at work → ((v : ℕ) → v < length s → get_or table (at + v) 0 ≡ x)
    → Filled before 0 (length s) x after → Same after 0 (lift_table s) (at + length s) (length s)
one-node r all f = record { cell = λ v h. f.here (0 + v) zero-le (omega arith) ∙ sym (one-next r all v h) }
