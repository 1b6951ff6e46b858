-- A call's tests in stages: a refusal stands whatever tests are left, and where the tests so far accept, those after them decide. So a call is a list of tests cut
-- into stages, and each stage has a law here.
-- Assumes nothing.
use Prim.Native.Nat.{ℕ}
use mathlib.Core.Path.{◌≡◌, sym, ap, ◌∙◌}
use mathlib.Core.List.{List, ◌++◌}
use lib.ListN.{length, replicate}
use Rattle.tree.specs.declared.Refusal.{Refusal}
use Rattle.std.proofs.Common.{Result, Ok, Err}
use Rattle.tree.specs.Verdict.{Verdict, accepted, refused, number_of, place_of, verdict_of}
use Rattle.tree.specs.Tests.{Test, verdict}
use Rattle.tree.specs.Buffers.{work_after}
use Rattle.tree.specs.Answered.{Answered}
use Rattle.tree.proofs.Verdicts.{accepted-on, refused-on}
use Rattle.tree.proofs.Answers.{Early, Later, work-early, work-accepted, work-zero}

-- tests of the same verdict answer alike
pub answered-as : {tests others : List Test} {before after : List ℕ} {A : Type 0} {r : Result A Refusal} → verdict tests ≡ verdict others → Answered tests before r after
    → Answered others before r after
answered-as {before = before} e a = record { outcome = a.outcome ∙ e; work = a.work ∙ ap (λ (v : Verdict). work_after v before) e }

-- an answer that is another
pub answered-by : {A : Type 0} {tests : List Test} {before after : List ℕ} {r q : Result A Refusal} → Answered tests before r after → q ≡ r
    → Answered tests before q after
answered-by a e = record { outcome = ap verdict_of e ∙ a.outcome; work = a.work }

-- a refusal by one of the first three tests, before which work is not touched
pub stage-early : {tests : List Test} {A : Type 0} {r : Result A Refusal} {why : Refusal} (before : List ℕ) → Early tests → verdict_of r ≡ verdict tests → r ≡ Err why
    → Answered tests before r before
stage-early {tests} before early told e =
    record { outcome = told; work = work-early tests _ _ before early (sym told ∙ ap verdict_of e) }

module _ {A : Type 0} {tests : List Test} {before after : List ℕ} {r : Result A Refusal} (a : Answered tests before r after) where
  -- the verdict of a refusal, and of an acceptance
  pub stage-no : {why : Refusal} → r ≡ Err why → verdict tests ≡ refused (number_of why) (place_of why)
  stage-no e = sym a.outcome ∙ ap verdict_of e

  pub stage-yes : {given : A} → r ≡ Ok given → verdict tests ≡ accepted
  stage-yes e = sym a.outcome ∙ ap verdict_of e

  -- a refusal stands
  pub stage-refused : {B : Type 0} {q : Result B Refusal} {why : Refusal} (more : List Test) → r ≡ Err why → q ≡ Err why → Answered (tests ++ more) before q after
  stage-refused more e same =
      let on : verdict (tests ++ more) ≡ verdict tests = refused-on tests more _ _ (stage-no e) ∙ sym (stage-no e) in
      record { outcome = ap verdict_of same ∙ sym (ap verdict_of e) ∙ a.outcome ∙ sym on; work = a.work ∙ ap (λ (v : Verdict). work_after v before) (sym on) }

  -- accepted, work is all zero
  pub stage-clear : {given : A} → r ≡ Ok given → after ≡ replicate (length before) 0
  stage-clear e = a.work ∙ work-accepted (verdict tests) before (stage-yes e)

  -- and the tests after the third that follow decide, where work is all zero afterwards
  pub stage-on : {B : Type 0} {q : Result B Refusal} {after' : List ℕ} {given : A} (more : List Test) → r ≡ Ok given → verdict_of q ≡ verdict more → Later more
      → after' ≡ replicate (length before) 0 → Answered (tests ++ more) before q after'
  stage-on more e decided later clear =
      let on : verdict (tests ++ more) ≡ verdict more = accepted-on tests more (stage-yes e) in
      record { outcome = decided ∙ sym on; work = clear ∙ sym (work-zero (verdict (tests ++ more)) more before on later) }
