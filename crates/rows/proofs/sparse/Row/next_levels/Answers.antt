-- `rows::sparse::Row::next_levels` meets its contract: the levels of the next row's first i cells stand in the other half of work, those of the row in theirs.
-- Assumes nothing.
use native.Mathlib.Omega.{arith}
use mathlib.Core.Path.{◌∙◌}
use Rattle.rows.proofs.Heights.{TwoLevels, two-levels, lowered_none, lowered-more, lowered-all}
use Rattle.rows.proofs.sparse.Row.next_levels.Goals as goal
use Rattle.rows.proofs.sparse.Row.next_levels.Goals.{In-loop-i}

facts : (c : In-loop-i) → TwoLevels c.args.parents.now c.loop-i.work c.args.self.half c.args.self.from c.loop-i.i
facts c =
    let two = c.requires.two in
    two-levels c.requires c.loop-i.invariant.old c.loop-i.i (omega arith)

pub loop-i-init : goal.loop-i-init
loop-i-init c = lowered_none c.requires.levels

pub loop-i-preserved : goal.loop-i-preserved
loop-i-preserved c =
    let l = c.loop-i in
    let d = facts (goal.at.loop-i-preserved c).In-loop-i in
    let two = c.requires.two in
    lowered-more c.requires (l.auto.work ∙ c.requires.ready.room) (omega arith) (λ j e. c.min.ensures ∙ d.both j e) l.invariant

pub returns : goal.returns
returns c = lowered-all (omega (arith, c.requires.two)) c.loop-i.invariant
