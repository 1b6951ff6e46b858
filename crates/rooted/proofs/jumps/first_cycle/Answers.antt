-- `rooted::jumps::first_cycle` meets its contract: every link is as many steps up as have been counted, or more.
-- Assumes nothing.
use Prim.Native.Nat.{◌*◌, zero-le}
use native.Mathlib.Omega.{arith}
use mathlib.Core.Path.{◌∙◌}
use borrow.Author.Rules.{rules}
use Rattle.rooted.specs.Jumps.{Links}
use Rattle.rooted.proofs.Jumping.{links-start, links-twice, links-less, no-cycle}
use Rattle.rooted.proofs.jumps.first_cycle.Goals as goal
use Rattle.rooted.proofs.jumps.first_cycle.Goals.{After-jump_rising}

-- the links after a pass in rising order
risen : (c : After-jump_rising) →
    Links c.args.parents.now c.jump_rising.new.work
    c.args.root (2 * c.loop-steps.steps)
risen c = links-twice c.jump_rising.auto.work c.loop-steps.invariant.2 c.jump_rising.ensures

pub loop-steps-init : goal.loop-steps-init
loop-steps-init c =
    let copy = c.copy in
    (search rules, search rules, links-start copy.auto.to c.requires copy.ensures.here)

pub jump_rising-requires : goal.jump_rising-requires
jump_rising-requires c = links-less zero-le c.loop-steps.invariant.2

pub returns-then-jump_rising : goal.returns-then-jump_rising
returns-then-jump_rising c =
    no-cycle c.loop-steps.invariant.2 c.jump_rising.ensures c.if-jump_rising.true

pub jump_falling-requires : goal.jump_falling-requires
jump_falling-requires c = links-less zero-le (risen (goal.at.jump_falling-requires c).After-jump_rising)

pub returns-then-jump_falling : goal.returns-then-jump_falling
returns-then-jump_falling c =
    no-cycle (risen (goal.at.returns-then-jump_falling c).After-jump_rising) c.jump_falling.ensures c.if-jump_falling.true

pub loop-steps-preserved : goal.loop-steps-preserved
loop-steps-preserved c =
    let down = c.jump_falling in
    let same = down.auto.work in (
      omega arith,
      same ∙ c.jump_rising.auto.work ∙ c.loop-steps.invariant.1,
      links-less (omega arith) (links-twice same (risen (goal.at.loop-steps-preserved c).After-jump_rising) down.ensures),
    )

pub first_unrooted-requires : goal.first_unrooted-requires
first_unrooted-requires c = links-less c.loop-steps-test.false c.loop-steps.invariant.2

pub returns : goal.returns
returns c = c.first_unrooted.ensures
