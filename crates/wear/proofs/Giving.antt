-- What the call for totals gives, from the tests' answer and from what was added up.
-- Assumes nothing.
use Prim.Native.Nat.{ℕ}
use mathlib.Core.Path.{◌≡◌, sym, ap, ◌∙◌}
use mathlib.Core.List.{List}
use lib.ListN.{length, get_or, replicate}
use Rattle.tree.specs.declared.Refusal.{Refusal}
use Rattle.std.proofs.Common.{Ok, Err}
use Rattle.tree.specs.Tree.{root_of}
use Rattle.tree.specs.Verdict.{accepted, verdict_of, Outcome}
use Rattle.tree.specs.Buffers.{wear_fits, first_unfit}
use Rattle.tree.specs.Ready.{Ready}
use Rattle.tree.proofs.Verdicts.{not-both}
use Rattle.tree.proofs.Answers.{filled-own, filled-kept, work-accepted}
use Rattle.tree.proofs.Fits.{wear-fit}
use Rattle.tree.proofs.Owning.{sheet-ready}
use Rattle.tree.proofs.Rows.{cell-tabulate}
use Rattle.tree.proofs.Trees.{root-found}
use Rattle.tables.specs.Check.{OrderGives}
use Rattle.wear.specs.Sums.{sum_of}
use Rattle.wear.specs.Totals.{total, totals_of, totals_verdict, TotalsGive}
use Rattle.wear.proofs.Weights.{total-root}

-- an accepted sheet, with counts and totals that fit
pub record Granted (s work counts totals : List ℕ) : Type 0 where
  pub ready : Ready s work
  pub count_length : length counts ≡ length s
  pub total_length : length totals ≡ length s

pub granted : (s work counts totals : List ℕ) → totals_verdict s work counts totals ≡ accepted → Granted s work counts totals
granted s work counts totals e =
    let (ready, none) = sheet-ready s work (first_unfit (wear_fits (length s) (length counts) (length totals))) e in
    let (count_length, total_length) = wear-fit (length s) (length counts) (length totals) none in
    record { ready = ready; count_length = count_length; total_length = total_length }

-- the root's cell holds the sum of the list
pub whole-root : {s work counts totals : List ℕ} → Granted s work counts totals → get_or (totals_of s counts) (root_of s) 0 ≡ sum_of counts
unfolding totals_of
whole-root {s} {work} {counts} g =
    let t = g.ready.tree in
    ap (λ (r : ℕ). get_or (totals_of s counts) r 0) (sym (root-found t))
    ∙ cell-tabulate (total s counts) (length s) t.root t.root-inside
    ∙ total-root t counts g.count_length

module _ (s before counts totals : List ℕ) {r : Outcome} {after : List ℕ}
    (tested : OrderGives s (first_unfit (wear_fits (length s) (length counts) (length totals))) before r after) where
  -- a refused call leaves the totals as they were
  pub totals-refused : {why : Refusal} {q : Outcome} → r ≡ Err why → q ≡ Err why → TotalsGive s before counts totals q totals after
  totals-refused e same =
      let v = totals_verdict s before counts totals in
      let refuses = sym tested.outcome ∙ ap verdict_of e in
      record {
        answered = record { outcome = ap verdict_of (same ∙ sym e) ∙ tested.outcome; work = tested.refusal _ _ refuses };
        cells = filled-kept v _ _ _ _ refuses;
        whole = λ accepts. absurd (not-both accepts refuses);
      }

  pub totals-granted : r ≡ Ok tt → Granted s before counts totals
  totals-granted e = granted s before counts totals (sym tested.outcome ∙ ap verdict_of e)

  -- an accepted one fills them
  pub totals-filled : {totals' after' : List ℕ} → r ≡ Ok tt → totals' ≡ totals_of s counts → after' ≡ replicate (length before) 0
      → TotalsGive s before counts totals (Ok tt) totals' after'
  totals-filled {totals'} e own clear =
      let v = totals_verdict s before counts totals in
      let accepts : v ≡ accepted = sym tested.outcome ∙ ap verdict_of e in
      record {
        answered = record { outcome = sym accepts; work = clear ∙ sym (work-accepted v before accepts) };
        cells = own ∙ filled-own v _ _ accepts;
        whole = λ _. ap (λ (l : List ℕ). get_or l (root_of s) 0) own ∙ whole-root (totals-granted e);
      }
