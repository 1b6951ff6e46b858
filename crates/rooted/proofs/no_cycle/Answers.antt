-- `rooted::no_cycle` meets its contract: the sheet has one root, so the lowest lost part decides.
-- Assumes nothing.
use Prim.Native.Nat.{◌+◌}
use mathlib.Core.Path.{sym, ap, ◌∙◌}
use Rattle.tree.specs.Verdict.{refused}
use Rattle.tree.proofs.Answers.{refused-cycle, accepted-tree_tests}
use Rattle.rooted.proofs.Losing.{one_passes}
use Rattle.rooted.proofs.no_cycle.Goals as goal

pub returns-then-v-parents : goal.returns-then-v-parents
returns-then-v-parents c =
    let p = one_passes c.requires.0.one in
    let shift = c.args.shift in
    let e = c.first_cycle-v.ensures in
    sym (refused-cycle shift _ p.entries p.below p.none (rw e at c.if-v-parents.true) ∙ ap (λ k. refused 7 (shift + k)) (sym e))

pub returns : goal.returns
returns c =
    let p = one_passes c.requires.0.one in
    sym (accepted-tree_tests _ _ p.entries p.below p.none (rw c.first_cycle-v.ensures at c.if-v-parents.false))
