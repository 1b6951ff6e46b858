-- `rules::steps::step3` meets its contract: the cell of HEAD that it reads is that of the label computed, or of v's own.
-- Assumes nothing.
use native.Mathlib.Omega.{arith}
use mathlib.Core.Path.{◌≡◌}
use Rattle.rules.proofs.Cells.{label_length}
use Rattle.rules.proofs.Toward.{HeadCell, path_read, path-head, step3-here, step3-head}
use Rattle.rules.proofs.steps.step3.Goals as goal
use Rattle.rules.proofs.steps.step3.Goals.{After-path_read-path}

-- the label of which HEAD is read
path : (c : After-path_read-path) → c.path_read-path.result ≡ path_read c.args.sheet.now c.label-label.result.now c.args.v c.args.j c.args.iz
path c = rw (c.path_read-path.ensures, c.log2-k.ensures.is, c.bits_below.ensures, c.len-n.ensures)

head : (c : After-path_read-path) → HeadCell c.args.sheet.now c.label-label.result.now c.path_read-path.result
head c = rw (path c) (path-head c.requires c.label-label.ensures)

pub returns-then-iv-iz : goal.returns-then-iv-iz
returns-then-iv-iz c = step3-here c.requires c.label-label.ensures (rw c.len-n.ensures at c.if-iv-iz.true)

pub returns-else-iv-iz : goal.returns-else-iv-iz
returns-else-iv-iz c =
    rw (path (goal.at.returns-else-iv-iz c).After-path_read-path, c.len-n.ensures, c.parents.ensures)
    (step3-head c.requires c.label-label.ensures (rw c.len-n.ensures at c.if-iv-iz.false))

pub bounds-label-n-3 : goal.bounds-label-n-3
bounds-label-n-3 c =
    let d = head (goal.at.bounds-label-n-3 c).After-path_read-path in
    omega (arith, label_length _ c.label-label.ensures)

pub bounds-parents-head : goal.bounds-parents-head
bounds-parents-head c =
    let d = head (goal.at.bounds-parents-head c).After-path_read-path in
    rw (c.len-n.ensures, c.parents.ensures) d.node
