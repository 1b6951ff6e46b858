-- `routes::ask::test_question` meets its contract: on a tree test 11 is never met.
-- Assumes nothing.
use mathlib.Core.Path.{sym, ap, ◌∙◌}
use native.Mathlib.Nat.{zero-add, pos_of_ne-zero}
use Rattle.tree.specs.Verdict.{refused}
use Rattle.tree.proofs.Questions.{refused-nothing, refused-node, accepted-question}
use Rattle.routes.proofs.ask.test_question.Goals as goal

pub returns-then-question-eq0 : goal.returns-then-question-eq0
returns-then-question-eq0 c = sym (refused-nothing c.args.parents.now 0 c.args.question.now c.if-question-eq0.true)

pub returns-then-at-question : goal.returns-then-at-question
returns-then-at-question c =
    let some = pos_of_ne-zero c.if-question-eq0.false in
    sym (refused-node c.args.parents.now 0 c.args.question.now _ some c.first_from-at.ensures c.if-at-question.true ∙ ap (refused 10) (zero-add _))

pub returns : goal.returns
returns c =
    let some = pos_of_ne-zero c.if-question-eq0.false in
    sym (accepted-question c.args.parents.now 0 c.args.question.now _ c.requires.tree some c.first_from-at.ensures c.if-at-question.false)
