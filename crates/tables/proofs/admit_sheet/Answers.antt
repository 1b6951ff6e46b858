-- `tables::admit_sheet` meets its contract: what was found of the lengths is the lower of work's number and the further one.
-- Assumes nothing.
use mathlib.Core.Path.{ap, ◌∙◌}
use Prim.Native.Nat.{ℕ}
use Rattle.tree.specs.Buffers.{lower_unfit}
use Rattle.tree.specs.Lending.{sheet_unfit}
use Rattle.tables.proofs.Lending.{Found, found-tested, found-room}
use Rattle.tables.proofs.admit_sheet.Goals as goal
use Rattle.tables.proofs.admit_sheet.Goals.{After-lower_unfit-unfit}

-- what was found of the lengths
found : (c : After-lower_unfit-unfit) → Found c.args.parents.now (sheet_unfit c.args.parents.now c.args.work.now c.args.further) c.lower_unfit-unfit.result
found c = λ some small. c.lower_unfit-unfit.ensures ∙ ap (λ (u : ℕ). lower_unfit u c.args.further) c.work_unfit.ensures

pub admit-requires : goal.admit-requires
admit-requires c = found-room c.args.parents.now c.args.work.now c.args.further _ (found (goal.at.admit-requires c).After-lower_unfit-unfit)

pub returns : goal.returns
returns c =
    let s = c.args in
    found-tested s.parents.now (sheet_unfit s.parents.now s.work.now s.further) _ (found (goal.at.returns c).After-lower_unfit-unfit) c.admit.ensures
