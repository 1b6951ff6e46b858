-- `routes::ask::admit` meets its contract: the tests of the sheet and its tables, and where they accept, those of the question.
-- Assumes nothing.
use mathlib.Core.Path.{◌≡◌, sym, ap, ◌∙◌}
use Rattle.std.proofs.Common.{Result}
use Rattle.tree.specs.declared.Refusal.{Refusal}
use Rattle.tree.specs.Verdict.{verdict_of}
use Rattle.tree.specs.Tables.{Lent, lent_in}
use Rattle.tree.proofs.Verdicts.{handed_on}
use Rattle.routes.specs.Answers.{Admitted}
use Rattle.routes.proofs.Asking.{admit-refused, admit-asked, admit-owned}
use Rattle.routes.proofs.ask.admit.Goals as goal
use Rattle.routes.proofs.ask.admit.Goals.{Start, After-test_question}

-- what is lent
abbrev lent : Start → Lent
lent c = lent_in c.args.lent

pub returns-in_err-sheet-clause-gives : goal.returns-in_err-sheet-clause-gives
returns-in_err-sheet-clause-gives c =
    admit-refused (lent (goal.at.returns-in_err-sheet-clause-gives c).Start) c.args.work.now c.args.question.now c.args.unfit c.admit_lent.ensures.gives
    c.in_err-sheet.was (handed_on c.from_residual.result c.from_residual.ensures.1)

pub test_question-requires : goal.test_question-requires
test_question-requires c =
    (admit-owned (lent (goal.at.test_question-requires c).Start) c.args.work.now c.args.question.now c.args.unfit c.admit_lent.ensures.gives c.in_ok-sheet.was).small

-- where the sheet and its tables are accepted, an answer with the question's verdict is the call's
asked : (c : After-test_question) {B : Type 0} {q : Result B Refusal} → verdict_of q ≡ verdict_of c.test_question.result
    → Admitted (lent_in c.args.lent) c.args.work.now c.args.question.now c.args.unfit q c.admit_lent.new.work
asked c e =
    admit-asked (lent_in c.args.lent) c.args.work.now c.args.question.now c.args.unfit c.admit_lent.ensures.gives c.in_ok-sheet.was (e ∙ c.test_question.ensures)

pub returns-in_err-test_question-clause-gives : goal.returns-in_err-test_question-clause-gives
returns-in_err-test_question-clause-gives c =
    let same = handed_on c.from_residual-in_err-test_question.result c.from_residual-in_err-test_question.ensures.1 in
    asked (goal.at.returns-in_err-test_question-clause-gives c).After-test_question (ap verdict_of same ∙ sym (ap verdict_of c.in_err-test_question.was))

pub returns-clause-gives : goal.returns-clause-gives
returns-clause-gives c = asked (goal.at.returns-clause-gives c).After-test_question (sym (ap verdict_of c.in_ok-test_question.was))
