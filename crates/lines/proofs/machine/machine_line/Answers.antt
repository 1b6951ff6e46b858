-- `lines::machine::machine_line` meets its contract: the first line is taken as the machine line, and its count is tested.
-- Assumes nothing.
use Rattle.std.proofs.Common.{◌≡◌}
use Rattle.std.proofs.lemmas.Result.{err_from_is_err_and}
use Rattle.tree.specs.declared.Refusal.TheVariants.{MalformedLine}
use Rattle.lines.proofs.Opening.{start_none, start-refused, start-machine}
use Rattle.lines.proofs.machine.machine_line.Goals as goal

-- there is none
pub returns-in_err-n : goal.returns-in_err-n
returns-in_err-n c =
    let p = err_from_is_err_and c.from_residual.result c.from_residual.ensures.1 in
    let none_read = c.in_err-n.ensures.ok_part in
    let why : c.in_err-n.field-0.0 ≡ MalformedLine 1 = let v = rw none_read at c.in_err-n.ensures.value in cc in
    rw (p.1, p.2, why) (start_none _ _ c.new-reader.ensures (rw none_read at c.count.ensures))

-- its count is refused
pub returns-in_err-parts : goal.returns-in_err-parts
returns-in_err-parts c =
    let p = err_from_is_err_and c.from_residual-in_err-parts.result c.from_residual-in_err-parts.ensures.1 in
    rw (p.1, p.2) (start-refused _ _ c.new-reader.ensures (rw c.in_ok-n.ensures.ok_part at c.count.ensures) c.in_err-parts.ensures)

-- a machine line was
pub returns : goal.returns
returns c = start-machine _ _ c.new-reader.ensures (rw c.in_ok-n.ensures.ok_part at c.count.ensures) c.in_ok-parts.ensures
