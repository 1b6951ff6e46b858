-- `rules::by_labels` meets its contract: the steps are the rule's, and those of a pair's carrier.
-- Assumes nothing.
use mathlib.Core.Path.{sym, ◌∙◌}
use Rattle.rules.proofs.Toward.{Steps, labels-equal, labels-other}
use Rattle.rules.proofs.by_labels.Goals as goal
use Rattle.rules.proofs.by_labels.Goals.{After-label_above-iz}

-- the pair after step 2, with the carrier's INLABEL made
paths : (c : After-label_above-iz) → Steps c.args.sheet.now c.args.x c.args.y c.step2-j.result c.label_above-iz.result
paths c =
    rw (c.label_above-iz.ensures, c.len-n.ensures)
    (labels-other c.requires c.label-label.ensures (rw c.len-n.ensures at c.if-ix-iy.false)
    (rw (c.step1-i.ensures.is, c.len-n.ensures) at c.step2-j.ensures.is))

pub returns-then-ix-iy : goal.returns-then-ix-iy
returns-then-ix-iy c =
    let r = c.nearer.ensures in
    record { is = r.is ∙ sym (labels-equal c.requires c.label-label.ensures (rw c.len-n.ensures at c.if-ix-iy.true)); below = r.below }

pub step3-a-requires : goal.step3-a-requires
step3-a-requires c = (paths c).left

pub step3-b-requires : goal.step3-b-requires
step3-b-requires c = (paths (goal.at.step3-b-requires c).After-label_above-iz).right

pub returns : goal.returns
returns c =
    let r = c.nearer-2.ensures in
    record { is = r.is ∙ rw (c.step3-b.ensures.is, c.step3-a.ensures.is) (sym (paths (goal.at.returns c).After-label_above-iz).answer); below = r.below }
