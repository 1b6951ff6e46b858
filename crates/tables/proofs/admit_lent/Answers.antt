-- `tables::admit_lent` meets its contract: tests 1 to 7 decide, and where they accept, the comparison does; the tables that it accepts are the sheet's own.
-- Assumes nothing.
use Prim.Native.Nat.{ℕ}
use mathlib.Core.Path.{◌≡◌, refl, sym, ap, ◌∙◌}
use lib.ListN.{replicate}
use Rattle.std.proofs.Common.{Result}
use Rattle.tree.specs.declared.Refusal.{Refusal}
use Rattle.tree.specs.Verdict.{verdict_of}
use Rattle.tree.specs.Buffers.{lower_unfit}
use Rattle.tree.specs.Tables.{Lent, lent_in}
use Rattle.tree.specs.Lending.{unfit_of}
use Rattle.tree.proofs.Answers.{stale-later}
use Rattle.tree.proofs.Owning.{lent-owned, owned-is}
use Rattle.tree.proofs.Verdicts.{handed_on}
use Rattle.tree.proofs.Stages.{stage-refused, stage-on, stage-yes}
use Rattle.tables.specs.Check.{Tested}
use Rattle.tables.specs.Lend.{LentGives}
use Rattle.tables.proofs.Lending.{Found, found-tested, found-work, tested-fits}
use Rattle.tables.proofs.admit_lent.Goals as goal
use Rattle.tables.proofs.admit_lent.Goals.{Start, After-lower_unfit-unfit, After-admit, After-clear}

-- what is lent, and the lowest buffer that does not fit
abbrev lent : Start → Lent
lent c = lent_in c.args.lent

abbrev unfit : Start → ℕ
unfit c = unfit_of (lent c) c.args.work.now c.args.further

-- what was found of the lengths is the lower of the tables' and work's number and the further one
found : (c : After-lower_unfit-unfit) → Found c.args.lent.parents.now (unfit_of (lent_in c.args.lent) c.args.work.now c.args.further) c.lower_unfit-unfit.result
found c = λ some small. c.lower_unfit-unfit.ensures ∙ ap (λ (u : ℕ). lower_unfit u c.args.further) (c.tables_unfit-own.ensures some small)

-- tests 1 to 7 of what is there
tested : (c : After-admit) → Tested c.args.lent.parents.now (unfit_of (lent_in c.args.lent) c.args.work.now c.args.further) c.args.work.now c.admit.result c.admit.new.work
tested c =
    found-tested c.args.lent.parents.now (unfit_of (lent_in c.args.lent) c.args.work.now c.args.further) c.lower_unfit-unfit.result
    (λ some small. c.lower_unfit-unfit.ensures ∙ ap (λ (u : ℕ). lower_unfit u c.args.further) (c.tables_unfit-own.ensures some small))
    c.admit.ensures

-- .. and 1 to 8, of an answer with the comparison's verdict
compared : (c : After-clear) {A : Type 0} {q : Result A Refusal} → verdict_of q ≡ verdict_of c.tables-found.result
    → LentGives (lent_in c.args.lent) c.args.further c.args.work.now q c.clear.new.buffer
compared c e =
    let same = c.tables-found.auto.work ∙ c.admit.auto.work in
    let passed =
    found-tested c.args.lent.parents.now (unfit_of (lent_in c.args.lent) c.args.work.now c.args.further) c.lower_unfit-unfit.result
    (λ some small. c.lower_unfit-unfit.ensures ∙ ap (λ (u : ℕ). lower_unfit u c.args.further) (c.tables_unfit-own.ensures some small))
    c.admit.ensures in
    stage-on passed _ c.in_ok-admit.was (e ∙ c.tables-found.ensures) (stale-later (lent_in c.args.lent)) (c.clear.ensures ∙ ap (λ k. replicate k 0) same)

pub admit-requires : goal.admit-requires
admit-requires c =
    found-work (lent (goal.at.admit-requires c).Start) c.args.work.now c.args.further _ (found (goal.at.admit-requires c).After-lower_unfit-unfit)

pub returns-in_err-admit-clause-gives : goal.returns-in_err-admit-clause-gives
returns-in_err-admit-clause-gives c =
    stage-refused (tested (goal.at.returns-in_err-admit-clause-gives c).After-admit) _ c.in_err-admit.was
    (handed_on c.from_residual.result c.from_residual.ensures.1)

pub tables-found-requires : goal.tables-found-requires
tables-found-requires c =
    tested-fits (lent (goal.at.tables-found-requires c).Start) _ _ c.args.further _ (found (goal.at.tables-found-requires c).After-lower_unfit-unfit)
    c.admit.ensures c.in_ok-admit.was c.admit.auto.work

pub returns-in_err-found-clause-gives : goal.returns-in_err-found-clause-gives
returns-in_err-found-clause-gives c =
    let same = handed_on c.from_residual-in_err-found.result c.from_residual-in_err-found.ensures.1 in
    compared (goal.at.returns-in_err-found-clause-gives c).After-clear (ap verdict_of same ∙ sym (ap verdict_of c.in_err-found.was))

pub new-requires : goal.new-requires
new-requires c =
    let t = lent (goal.at.new-requires c).Start in
    let given = compared (goal.at.new-requires c).After-clear {q = c.tables-found.result} refl in
    let owned = lent-owned t c.args.work.now c.args.further (stage-yes given c.in_ok-found.was) in
    (owned.small, owned-is t c.args.further owned)

pub returns-clause-gives : goal.returns-clause-gives
returns-clause-gives c =
    compared (goal.at.returns-clause-gives c).After-clear (sym (ap verdict_of c.in_ok-found.was))
