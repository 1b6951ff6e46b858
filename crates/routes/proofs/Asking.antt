-- A question that is asked: how its tests follow those of the sheet and its tables, and what is known of one that is accepted.
-- Assumes nothing.
use Prim.Native.Nat.{ℕ}
use mathlib.Core.Path.{◌≡◌, subst}
use mathlib.Core.List.{List}
use Rattle.tree.specs.declared.Refusal.{Refusal}
use Rattle.std.proofs.Common.{Result, Ok, Err}
use Rattle.tree.specs.Verdict.{accepted, verdict_of}
use Rattle.tree.specs.Tests.{verdict, lent_tests, question_tests}
use Rattle.tree.specs.Tables.{Lent}
use Rattle.tree.specs.Nodes.{Listed}
use Rattle.tree.specs.Lending.{unfit_of, asked_verdict}
use Rattle.tree.proofs.Verdicts.{accepted-both}
use Rattle.tree.proofs.Stages.{stage-yes, stage-refused, stage-clear, stage-on}
use Rattle.tree.proofs.Questions.{question-accepted, question-later}
use Rattle.tree.proofs.Owning.{Owned, lent-owned}
use Rattle.tables.specs.Lend.{LentGives}
use Rattle.routes.specs.Answers.{Admitted, Asked}

-- ---- the tests

module _ {A : Type 0} (t : Lent) (work question : List ℕ) (further : ℕ) {r : Result A Refusal} {after : List ℕ} (given : LentGives t further work r after) where
  -- a sheet or tables that are refused are refused whatever is asked
  pub admit-refused : {B : Type 0} {why : Refusal} {q : Result B Refusal} → r ≡ Err why → q ≡ Err why → Admitted t work question further q after
  admit-refused = stage-refused given (question_tests t.parents 0 question)

  -- where they are accepted, the question decides
  pub admit-asked : {B : Type 0} {asked : Result B Refusal} {sheet : A} → r ≡ Ok sheet → verdict_of asked ≡ verdict (question_tests t.parents 0 question)
      → Admitted t work question further asked after
  admit-asked e answered = stage-on given (question_tests t.parents 0 question) e answered (question-later t.parents 0 question) (stage-clear given e)

  -- and the tables are the sheet's own
  pub admit-owned : {sheet : A} → r ≡ Ok sheet → Owned t further
  admit-owned e = lent-owned t work further (stage-yes given e)

-- what was found of the lengths is what is there
pub admitted-as : {A : Type 0} (a : Asked) {unfit further : ℕ} {r : Result A Refusal} {after : List ℕ} → unfit ≡ further
    → Admitted a.lent a.work a.question unfit r after → Admitted a.lent a.work a.question further r after
admitted-as a {r = r} {after = after} e = subst (λ (buffer : ℕ). Admitted a.lent a.work a.question buffer r after) e

-- ---- what is known of an accepted question

-- parts of an accepted sheet are listed, with its own tables, and no further buffer does not fit
pub record Answerable (t : Lent) (question : List ℕ) (further : ℕ) : Type 0 where
  pub owned : Owned t further
  pub listed : Listed t.parents question

pub answerable : (t : Lent) (work question : List ℕ) (further : ℕ) → asked_verdict t work question further ≡ accepted → Answerable t question further
answerable t work question further e =
    let (lent, asked) = accepted-both (lent_tests t (unfit_of t work further)) (question_tests t.parents 0 question) e in
    let owned = lent-owned t work further lent in
    let (some, part) = question-accepted t.parents 0 question asked in
    record { owned = owned; listed = record { small = owned.small; some = some; part = part } }

-- the same of a call that was admitted
pub admitted-answerable : {A : Type 0} (a : Asked) (further : ℕ) {r : Result A Refusal} {sheet : A} {after : List ℕ} → Admitted a.lent a.work a.question further r after
    → r ≡ Ok sheet → Answerable a.lent a.question further
admitted-answerable a further given e = answerable a.lent a.work a.question further (stage-yes given e)
