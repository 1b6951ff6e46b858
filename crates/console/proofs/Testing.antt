-- The test of a sheet whose buffers fit: the sheet alone decides, and where it is accepted, questions are asked of it and its own tables.
-- Assumes nothing.
use Prim.Native.Nat.{ℕ}
use mathlib.Core.Path.{◌≡◌, refl, sym, ap, ◌∙◌}
use mathlib.Core.List.{List}
use borrow.Author.Tests.{eq-eqb}
use lib.ListN.{length, length-replicate}
use Rattle.tree.specs.declared.Refusal.{Refusal}
use Rattle.std.proofs.Common.{Ok, Err}
use Rattle.tree.specs.Verdict.{accepted, verdict_of, Outcome}
use Rattle.tree.specs.Tests.{verdict, sheet_tests}
use Rattle.tree.specs.Buffers.{filled}
use Rattle.tree.specs.Tables.{Lent}
use Rattle.tree.specs.Lending.{unfit_of}
use Rattle.tree.proofs.Answers.{filled-own}
use Rattle.tree.proofs.Fits.{fitting-none}
use Rattle.tree.proofs.Stages.{stage-yes, stage-clear}
use Rattle.tables.specs.Lend.{build_verdict, BuildGives}
use Rattle.text.specs.Lines.{Lines}
use Rattle.console.specs.Print.{refusal_line}
use Rattle.console.specs.Run.{part_line, questions, sheet, sheet_run}
use Rattle.console.specs.Gives.{Stands, Sized}
use Rattle.console.proofs.Answering.{given-refused, given-accepted}

module _ {t : Lent} {work label' tour' lift' order' work' : List ℕ} {r : Outcome} (sized : Sized t work)
    (g : BuildGives t work r label' tour' lift' order' work') where
  -- no buffer does not fit
  fits : unfit_of t work 0 ≡ 0
  fits =
      let label = eq-eqb _ _ sized.label_length in
      let tour = eq-eqb _ _ sized.tour_length in
      let lift = eq-eqb _ _ sized.lift_length in
      fitting-none _ (label, (tour, (lift, (eq-eqb _ _ sized.room, (eq-eqb _ _ sized.order_length, tt)))))

  -- so that the sheet alone decides
  sheet-decides : verdict_of r ≡ verdict (sheet_tests t.parents 0)
  sheet-decides = g.answered.outcome ∙ ap (λ (buffer : ℕ). verdict (sheet_tests t.parents buffer)) fits

  -- a refused sheet's line is all that is printed
  pub sheet-refused : {why : Refusal} (rest : Lines) → r ≡ Err why → refusal_line why ≡ sheet_run (sheet t.parents rest)
  unfolding sheet_run
  sheet-refused rest e = given-refused _ (ap verdict_of e) sheet-decides

  module _ (e : r ≡ Ok tt) where
    -- an accepted one's questions are answered
    pub sheet-accepted : (rest : Lines) → questions t.parents (part_line (length t.parents)) rest ≡ sheet_run (sheet t.parents rest)
    unfolding sheet_run
    sheet-accepted rest = given-accepted _ (ap verdict_of e) sheet-decides

    -- of it and the tables that were built
    pub sheet-stands : Stands (record { parents = t.parents; label = label'; tour = tour'; lift = lift'; order = order' }) work'
    sheet-stands =
        let yes : verdict_of r ≡ accepted = ap verdict_of e in
        let v = build_verdict t work in
        let own : (a b : List ℕ) → filled v a b ≡ a = λ a b. sym (filled-own v a b (stage-yes g.answered e)) in
        record {
          accepts = sym sheet-decides ∙ yes;
          tables = rw (g.label ∙ own _ _, g.tour ∙ own _ _, g.lift ∙ own _ _, g.order ∙ own _ _) refl;
          room = ap length (stage-clear g.answered e) ∙ length-replicate _ _ ∙ sized.room;
        }
