-- What the calls that are lent the tables give, from their inputs alone: the one that fills them, and the one that compares them.
-- Assumes nothing.
use Rattle.std.specs.Prelude.{ℕ, ◌≡◌, List, Result}
use Rattle.tree.specs.declared.Refusal.{Refusal}
use Rattle.tree.specs.Verdict.{Verdict, Outcome}
use Rattle.tree.specs.Tests.{verdict, sheet_tests, lent_tests}
use Rattle.tree.specs.Buffers.{filled}
use Rattle.tree.specs.Labels.{label_table}
use Rattle.tree.specs.Tour.{tour_table}
use Rattle.tree.specs.Lifts.{lift_table}
use Rattle.tree.specs.Preorder.{preorder}
use Rattle.tree.specs.Tables.{Lent}
use Rattle.tree.specs.Lending.{unfit_of}
use Rattle.tree.specs.Answered.{Answered}
use Rattle.tables.specs.Check.{Tested}

-- the verdict of tests 1 to 7, where the tables are lent to be filled
abbrev pub build_verdict : Lent → List ℕ → Verdict
build_verdict t work = verdict (sheet_tests t.parents (unfit_of t work 0))

-- building: an accepted call fills the tables with the sheet's own, a refused one leaves them as they were
pub record BuildGives (t : Lent) (before : List ℕ) (r : Outcome) (label' tour' lift' order' after : List ℕ) : Type 0 where
  pub answered : Tested t.parents (unfit_of t before 0) before r after
  pub label : label' ≡ filled (build_verdict t before) (label_table t.parents) t.label
  pub tour : tour' ≡ filled (build_verdict t before) (tour_table t.parents) t.tour
  pub lift : lift' ≡ filled (build_verdict t before) (lift_table t.parents) t.lift
  pub order : order' ≡ filled (build_verdict t before) (preorder t.parents) t.order

-- comparing: what every call answers first that is lent tables to read, of a call whose lowest further buffer that does not fit is `further`, or 0
abbrev pub LentGives : {A : Type 0} → Lent → ℕ → List ℕ → Result A Refusal → List ℕ → Type 0
LentGives t further before = Answered (lent_tests t (unfit_of t before further)) before
