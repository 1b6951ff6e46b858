-- What is shown of the calls of this crate, in document 01's words, from their contracts alone.
-- Assumes nothing.
use Prim.Native.Nat.{ℕ, ◌≤◌, ◌<◌}
use mathlib.Core.Path.{◌≡◌, sym, ap, ◌∙◌}
use mathlib.Core.Logic.{◌≢◌, ◌↔◌}
use mathlib.Core.List.{List, [], ◌∷◌}
use native.Mathlib.Nat.{zero-add}
use native.Mathlib.Omega.{arith}
use borrow.Author.Tests.{eq-eqb}
use lib.ListN.{length, get_or}
use Rattle.std.proofs.Common.{Ok}
use Rattle.tree.specs.Tree.{Tree}
use Rattle.tree.specs.Verdict.{accepted, refused, verdict_of, Outcome}
use Rattle.tree.specs.Tests.{verdict, limit, sheet_tests, stale_table}
use Rattle.tree.specs.Tests as tests
use Rattle.tree.specs.Buffers.{work_cells, sheet_fits}
use Rattle.tree.specs.Labels.{label_table}
use Rattle.tree.specs.Tour.{tour_table}
use Rattle.tree.specs.Lifts.{lift_table}
use Rattle.tree.specs.Preorder.{preorder}
use Rattle.tree.specs.Tables.{Lent, own, end_to_end}
use Rattle.tree.specs.Sections.{first_difference}
use Rattle.tree.specs.Lending.{unfit_of}
use Rattle.tree.proofs.Answers.{filled-own, filled-kept, stale-refused, stale-accepted}
use Rattle.tree.proofs.Scans.{by_order}
use Rattle.tree.proofs.Verdicts.{not-both, accepted-on, accepted-case}
use Rattle.tree.proofs.Fits.{fitting-none}
use Rattle.tree.proofs.Stages.{stage-yes}
use Rattle.tree.proofs.Differences.{difference-same, difference-here, difference-all}
use Rattle.tree.proofs.Claims.{accepted-exactly}
use Rattle.tables.specs.Check.{CheckGives}
use Rattle.tables.specs.Lend.{build_verdict, BuildGives, LentGives}

-- ---- checking

-- tests 1 to 7 where the buffers fit
accepts : (s : List ℕ) {r : Outcome} (buffer : ℕ) → verdict_of r ≡ verdict (sheet_tests s buffer) → buffer ≡ 0 → (r ≡ Ok tt) ↔ (Tree s × (length s ≤ limit))
accepts s {r} buffer e fits =
    let same : verdict_of r ≡ verdict (sheet_tests s 0) = e ∙ ap (λ (b : ℕ). verdict (sheet_tests s b)) fits in
    (λ a. (accepted-exactly s).0 (sym same ∙ ap verdict_of a), λ t. accepted-case r (same ∙ (accepted-exactly s).1 t))

-- "With buffers that fit, a sheet of 1 to 16,384 parts is accepted exactly if it is one rooted tree"
pub check-accepts : (s before : List ℕ) {r : Outcome} {after : List ℕ} → CheckGives s before r after → length before ≡ work_cells (length s)
    → (r ≡ Ok tt) ↔ (Tree s × (length s ≤ limit))
check-accepts s before g fits = accepts s _ g.outcome (fitting-none (sheet_fits (work_cells (length s)) (length before)) (eq-eqb _ _ fits, tt))

-- ---- building

module _ {t : Lent} {before label' tour' lift' order' after : List ℕ} {r : Outcome} (g : BuildGives t before r label' tour' lift' order' after) where
  -- the same of the call that builds
  pub build-accepts : unfit_of t before 0 ≡ 0 → (r ≡ Ok tt) ↔ (Tree t.parents × (length t.parents ≤ limit))
  build-accepts fits = accepts t.parents _ g.answered.outcome fits

  -- "Every table cell is what Schieber-Vishkin, Bender/Farach-Colton or the doubling rule define", and the fourth table "holds the parts in preorder"
  pub build-fills : r ≡ Ok tt
      → (label' ≡ label_table t.parents) × (tour' ≡ tour_table t.parents) × (lift' ≡ lift_table t.parents) × (order' ≡ preorder t.parents)
  build-fills e =
      let v = build_verdict t before in
      let accepting : v ≡ accepted = stage-yes g.answered e in (
        g.label ∙ sym (filled-own v _ _ accepting),
        g.tour ∙ sym (filled-own v _ _ accepting),
        g.lift ∙ sym (filled-own v _ _ accepting),
        g.order ∙ sym (filled-own v _ _ accepting),
      )

  -- "A refusal .. changes no table"
  pub build-keeps : {number place : ℕ} → verdict_of r ≡ refused number place
      → (label' ≡ t.label) × (tour' ≡ t.tour) × (lift' ≡ t.lift) × (order' ≡ t.order)
  build-keeps e =
      let v = build_verdict t before in
      let refusing : v ≡ refused _ _ = sym g.answered.outcome ∙ e in (
        g.label ∙ sym (filled-kept v _ _ _ _ refusing),
        g.tour ∙ sym (filled-kept v _ _ _ _ refusing),
        g.lift ∙ sym (filled-kept v _ _ _ _ refusing),
        g.order ∙ sym (filled-kept v _ _ _ _ refusing),
      )

-- ---- comparing

-- the sheet's own tables end to end
abbrev mine : Lent → List ℕ
mine t = end_to_end (own t.parents)

module _ (t : Lent) {before after : List ℕ} {r : Outcome} (g : LentGives t 0 before r after) (a : tests.Accepted t.parents) (fits : unfit_of t before 0 ≡ 0) where
  -- the comparison decides
  decided : verdict_of r ≡ verdict (stale_table t ∷ [])
  decided =
      g.outcome
      ∙ accepted-on (sheet_tests t.parents (unfit_of t before 0)) (stale_table t ∷ [])
      (ap (λ (buffer : ℕ). verdict (sheet_tests t.parents buffer)) fits ∙ a)

  -- no cell differs, or one does first
  fresh : length (mine t) ≤ first_difference (end_to_end t) (mine t) → verdict_of r ≡ accepted
  fresh h = decided ∙ stale-accepted t h

  stale-at : first_difference (end_to_end t) (mine t) < length (mine t) → verdict_of r ≡ refused 8 (first_difference (end_to_end t) (mine t))
  stale-at h = decided ∙ stale-refused t h

  -- "For an accepted sheet and buffers that fit, tables are called stale exactly if a cell differs from that sheet's own"
  pub stale-exactly : ((place : ℕ) × (verdict_of r ≡ refused 8 place)) ↔ ((i : ℕ) × (i < length (mine t)) × (get_or (end_to_end t) i 0 ≢ get_or (mine t) i 0))
  stale-exactly =
      let d = first_difference (end_to_end t) (mine t) in (
        λ stale. by_order (length (mine t)) d (λ h. absurd (not-both (fresh h) stale.1)) (λ h. (d, h, difference-here (end_to_end t) (mine t) h)),
        λ cell. by_order (length (mine t)) d
            (λ h. absurd (cell.2 (rw zero-add at ((difference-all (end_to_end t) (mine t) h).cell cell.0 cell.1))))
            (λ h. (d, stale-at h)),
      )

  -- "first such cell from 0": the cell named differs, and none before it
  pub stale-first : (place : ℕ) → verdict_of r ≡ refused 8 place
      → (place < length (mine t)) × (get_or (end_to_end t) place 0 ≢ get_or (mine t) place 0) × ((i : ℕ) → i < place → get_or (end_to_end t) i 0 ≡ get_or (mine t) i 0)
  stale-first place e =
      let d = first_difference (end_to_end t) (mine t) in
      by_order (length (mine t)) d (λ l. absurd (not-both (fresh l) e))
      (λ l.
      let both : refused 8 d ≡ refused 8 place = sym (stale-at l) ∙ e in
      let same : d ≡ place = cc in
      let here = difference-here (end_to_end t) (mine t) l in
      (omega arith, rw same at here, λ i h. rw zero-add at ((difference-same (end_to_end t) (mine t)).cell i (omega arith))))

  -- else they are accepted
  pub compare-accepts : (r ≡ Ok tt) ↔ ((i : ℕ) → i < length (mine t) → get_or (end_to_end t) i 0 ≡ get_or (mine t) i 0)
  compare-accepts =
      let d = first_difference (end_to_end t) (mine t) in (
        λ e i h. by_order (length (mine t)) d (λ l. rw zero-add at ((difference-all (end_to_end t) (mine t) l).cell i h))
            (λ l. absurd (not-both (ap verdict_of e) (stale-at l))),
        λ same. by_order (length (mine t)) d (λ l. accepted-case r (fresh l)) (λ l. absurd (difference-here (end_to_end t) (mine t) l (same d l))),
      )
