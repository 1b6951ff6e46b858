-- `console::sheet::part_lines` meets its contract. The loop's invariant: the entries of the parts before v were read and stand in the sheet, and the line
-- of part v comes next. Assumes nothing.
use native.Mathlib.Omega.{arith}
use mathlib.Core.Path.{◌≡◌}
use Prim.Native.Nat.{◌+◌}
use Rattle.std.proofs.lemmas.Result.{err_from_is_err_and}
use Rattle.console.proofs.Entering.{entered_all, entered-broken, entered-more}
use Rattle.console.proofs.sheet.part_lines.Goals as goal

-- the next line is no line of its part
pub returns-in_err-parents : goal.returns-in_err-parents
returns-in_err-parents c =
    let p = err_from_is_err_and c.from_residual.result c.from_residual.ensures.1 in
    let none_read = c.in_err-parents.ensures.ok_part in
    let number : c.in_err-parents.field-0.0 ≡ c.loop-v.v + 2 = let v = rw none_read at c.in_err-parents.ensures.value in cc in
    rw (p.1, p.2, number) (entered-broken c.loop-v.invariant (omega arith) (rw none_read at c.part_line.ensures))

-- it is
pub loop-v-preserved : goal.loop-v-preserved
loop-v-preserved c = entered-more c.loop-v.invariant (omega arith) (rw c.in_ok-parents.ensures.ok_part at c.part_line.ensures)

pub returns : goal.returns
returns c = entered_all c.loop-v.invariant (omega arith)
