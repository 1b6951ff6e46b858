-- `lines::form::read` meets its contract: the forms are tried one after the other.
-- Assumes nothing.
use Rattle.std.proofs.Common.{rules}
use Rattle.lines.specs.Read.{part_form, pair_form, many_form}
use Rattle.lines.proofs.ReadingSteps.{reads-long, reads_short, is_either, either_assoc}
use Rattle.lines.proofs.form.read.Goals as goal

-- the line is too long
pub returns-then-line-gt-LONGEST : goal.returns-then-line-gt-LONGEST
returns-then-line-gt-LONGEST c = reads-long _ c.if-line-gt-LONGEST.true

-- it is the first form that it can be
pub returns : goal.returns
returns c =
    let line = c.args.line.now in
    let two = is_either (part_form line) c.machine.result c.or_else.result c.machine.ensures c.or_else.ensures (λ p. search rules) in
    let three = is_either (pair_form line) c.or_else.result c.or_else-2.result two c.or_else-2.ensures (λ p. search rules) in
    let all = is_either (many_form line) c.or_else-2.result c.or_else-3.result three c.or_else-3.ensures (λ p. search rules) in
    reads_short _ _ c.if-line-gt-LONGEST.false (rw (← either_assoc, ← either_assoc) all)
