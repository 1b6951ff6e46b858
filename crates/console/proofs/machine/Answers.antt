-- `console::machine` meets its contract: the machine line is printed, and the sheet is read into buffers of its exact lengths.
-- Assumes nothing.
use Prim.Native.Nat.{ℕ, ◌≤◌}
use mathlib.Core.List.{List}
use mathlib.Core.Path.{◌≡◌}
use native.Mathlib.Omega.{arith}
use lib.ListN.{length, length-replicate, take}
use lib.Seq.{length-take-le}
use Rattle.std.specs.Prelude.{replicate}
use Rattle.text.proofs.Writing.{has-then, writes_then}
use Rattle.console.proofs.machine.Goals as goal

-- of the cells for the parents as many are lent as the machine has parts
lent : (n : ℕ) → n ≤ 512 → let cells : List ℕ = replicate 512 0 in length (take n cells) ≡ n
lent n h = length-take-le n _ (rw length-replicate h)

pub read_sheet-requires-clause-room : goal.read_sheet-requires-clause-room
read_sheet-requires-clause-room c = rw (lent c.args.n (omega arith)) (has-then c.machine.ensures _ c.requires.room)

pub returns : goal.returns
returns c = writes_then c.machine.ensures _ c.requires.room (rw (lent c.args.n (omega arith)) at c.read_sheet.ensures)
