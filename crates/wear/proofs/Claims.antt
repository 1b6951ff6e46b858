-- What is shown of the call for totals, in document 02's words, from its contract alone; and a worked case, by computation.
-- Assumes nothing.
use Prim.Native.Nat.{ℕ, ◌≤◌, ◌<◌}
use native.Mathlib.Omega.{arith}
use mathlib.Core.Path.{◌≡◌, refl, sym, ap, ◌∙◌}
use mathlib.Core.Logic.{◌↔◌}
use mathlib.Core.List.{List, [], ◌∷◌}
use lib.ListN.{length, get_or}
use Rattle.tree.specs.declared.Refusal.{Refusal}
use Rattle.std.proofs.Common.{Ok, Err}
use Rattle.tree.specs.Scan.{least_from, least, tabulate_from, tabulate}
use Rattle.tree.specs.Tree.{parent, climb, is_ancestor, root_of, Tree}
use Rattle.tree.specs.Tests.{verdict, limit, sheet_tests}
use Rattle.tree.specs.Verdict.{Verdict, Outcome, verdict_of}
use Rattle.tree.proofs.Answers.{filled-own, filled-kept}
use Rattle.tree.proofs.Rows.{cell-tabulate}
use Rattle.tree.proofs.Verdicts.{accepted-case}
use Rattle.tree.proofs.Stages.{stage-no, stage-yes}
use Rattle.tree.proofs.Claims.{accepted-exactly}
use Rattle.wear.specs.Sums.{sum_where, sum_of}
use Rattle.wear.specs.Totals.{count_at, count_limit, total, totals_of, totals_unfit, totals_verdict, TotalsGive}
use Rattle.wear.proofs.Weights.{total-most}

module _ {s before counts totals : List ℕ} {r : Outcome} {totals' after : List ℕ} (g : TotalsGive s before counts totals r totals' after) where
  abbrev v : Verdict
  v = totals_verdict s before counts totals

  -- with buffers that fit, a sheet is accepted exactly if it is one rooted tree of 1 to 16,384 parts
  pub totals-accepts : totals_unfit s before counts totals ≡ 0 → (r ≡ Ok tt) ↔ (Tree s × (length s ≤ limit))
  totals-accepts fits =
      let same : verdict_of r ≡ verdict (sheet_tests s 0) = g.answered.outcome ∙ ap (λ (b : ℕ). verdict (sheet_tests s b)) fits in
      (λ e. (accepted-exactly s).0 (sym same ∙ ap verdict_of e), λ t. accepted-case r (same ∙ (accepted-exactly s).1 t))

  -- "Fill buffer 10 with 64-bit totals, one per part: the sum of counts over all parts it carries. The root's total is the sum of the list"
  pub totals-fill : r ≡ Ok tt
      → ((u : ℕ) → u < length s → get_or totals' u 0 ≡ sum_where (is_ancestor s u) (count_at counts) (length s)) × (get_or totals' (root_of s) 0 ≡ sum_of counts)
  unfolding total totals_of
  totals-fill e =
      let accepts = stage-yes g.answered e in
      let own : totals' ≡ totals_of s counts = g.cells ∙ sym (filled-own v _ _ accepts) in
      (λ u h. ap (λ (l : List ℕ). get_or l u 0) own ∙ cell-tabulate (total s counts) (length s) u h, g.whole accepts)

  -- "No refusal alters another buffer"
  pub totals-keep : {why : Refusal} → r ≡ Err why → totals' ≡ totals
  totals-keep e = g.cells ∙ sym (filled-kept v _ _ _ _ (stage-no g.answered e))

-- no total of an accepted sheet passes 64 bits, whatever the counts of 32 bits are
pub totals_fit_lem : (s counts : List ℕ) (u : ℕ) → length s ≤ limit → ((i : ℕ) → i < length s → count_at counts i ≤ count_limit) → total s counts u < 18446744073709551616
totals_fit_lem s counts u small most = let bound = total-most s counts u most in omega arith

-- document 01's sheet of seven parts, with counts that show in each total which parts it has
pub known-totals : totals_of (0 ∷ 0 ∷ 0 ∷ 1 ∷ 1 ∷ 2 ∷ 5 ∷ []) (1 ∷ 2 ∷ 4 ∷ 8 ∷ 16 ∷ 32 ∷ 64 ∷ []) ≡ (127 ∷ 26 ∷ 100 ∷ 8 ∷ 16 ∷ 96 ∷ 64 ∷ [])
unfolding totals_of total sum_where tabulate tabulate_from is_ancestor climb parent least least_from
known-totals = refl

-- the largest counts, past 32 bits
pub known-large : totals_of (0 ∷ 0 ∷ 1 ∷ []) (4294967295 ∷ 4294967295 ∷ 4294967295 ∷ []) ≡ (12884901885 ∷ 8589934590 ∷ 4294967295 ∷ [])
unfolding totals_of total sum_where tabulate tabulate_from is_ancestor climb parent least least_from
known-large = refl
