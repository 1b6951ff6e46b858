-- The first test that fails: a list of tests accepts exactly if each passes, and else gives the number and place of the first that does not.
-- Assumes nothing.
use Prim.Native.Nat.{ℕ}
use mathlib.Core.Path.{◌≡◌, refl, sym, ap, ◌∙◌}
use mathlib.Core.Bool.{true, false, true≢false}
use mathlib.Core.List.{List, [], ◌∷◌, ◌++◌}
use native.Mathlib.Omega.{arith}
use Rattle.std.specs.Result.{IsErrAnd, is_err}
use Rattle.std.proofs.Common.{Result, Ok, Err}
use Rattle.std.proofs.lemmas.Result.{err_from_is_err_and}
use Rattle.tree.specs.declared.Refusal.{Refusal}
use Rattle.tree.specs.Verdict.{Verdict, accepted, refused, Outcome, verdict_of}
use Rattle.tree.specs.Tests.{Test, test_number, test_place, verdict}
use Rattle.tree.proofs.Scans.{by-test}

-- each test of a list passes
abbrev pub Passed : List Test → Type 0
Passed [] = Unit {0}
Passed (t ∷ ts) = (t.passes ≡ true) × Passed ts

verdict-pass : (t : Test) (ts : List Test) → t.passes ≡ true → verdict (t ∷ ts) ≡ verdict ts
unfolding verdict
verdict-pass t ts e = rw e

verdict-fail : (t : Test) (ts : List Test) → t.passes ≡ false → verdict (t ∷ ts) ≡ refused (test_number t) (test_place t)
unfolding verdict
verdict-fail t ts e = rw e

-- a verdict accepts or refuses
pub by-verdict : {A : Type 0} (v : Verdict) → (v ≡ accepted → A) → ((number place : ℕ) → v ≡ refused number place → A) → A
by-verdict accepted f g = f refl
by-verdict (refused number place) f g = g number place refl

-- no verdict accepts and refuses
pub not-both : {v : Verdict} {number place : ℕ} → v ≡ accepted → v ≡ refused number place → ⊥
not-both {number = number} {place = place} e f =
    let both : accepted ≡ refused number place = sym e ∙ f in let z : ◌≡◌ {A = ℕ} 0 1 = cc in omega arith

pub passed-accepted : (ts : List Test) → Passed ts → verdict ts ≡ accepted
unfolding verdict
passed-accepted [] p = refl
passed-accepted (t ∷ ts) p = verdict-pass t ts p.0 ∙ passed-accepted ts p.1

-- a verdict that accepts was given by tests that pass
pub accepted-passed : (ts : List Test) → verdict ts ≡ accepted → Passed ts
accepted-passed [] e = tt
accepted-passed (t ∷ ts) e =
    let rest = accepted-passed ts in
    by-test t.passes (λ p. (p, rest (sym (verdict-pass t ts p) ∙ e)))
    (λ p. absurd (not-both e (verdict-fail t ts p)))

-- tests that pass leave the verdict to those after them
pub passed_on : (before after : List Test) → Passed before → verdict (before ++ after) ≡ verdict after
passed_on [] after p = refl
passed_on (t ∷ before) after p = verdict-pass t (before ++ after) p.0 ∙ passed_on before after p.1

-- the first test that fails, after others that pass, refuses
pub first-refused : (before : List Test) (t : Test) (after : List Test) → Passed before → t.passes ≡ false
    → verdict (before ++ t ∷ after) ≡ refused (test_number t) (test_place t)
first-refused before t after p e = passed_on before (t ∷ after) p ∙ verdict-fail t after e

-- tests that accept leave it to those after them, and a refusal stands
pub accepted-on : (before after : List Test) → verdict before ≡ accepted → verdict (before ++ after) ≡ verdict after
accepted-on before after e = passed_on before after (accepted-passed before e)

pub refused-on : (before after : List Test) (number place : ℕ) → verdict before ≡ refused number place → verdict (before ++ after) ≡ refused number place
unfolding verdict
refused-on [] after number place e = absurd (not-both refl e)
refused-on (t ∷ before) after number place e =
    let rest = refused-on before after number place in
    by-test t.passes (λ p. verdict-pass t (before ++ after) p ∙ rest (sym (verdict-pass t before p) ∙ e))
    (λ p. verdict-fail t (before ++ after) p ∙ sym (verdict-fail t before p) ∙ e)

-- tests that accept end to end accept apart
pub accepted-both : (before after : List Test) → verdict (before ++ after) ≡ accepted → (verdict before ≡ accepted) × (verdict after ≡ accepted)
unfolding verdict
accepted-both [] after e = (refl, e)
accepted-both (t ∷ before) after e =
    let rest = accepted-both before after in
    let (passes, _) = accepted-passed (t ∷ before ++ after) e in
    let (first, last) = rest (sym (verdict-pass t (before ++ after) passes) ∙ e) in
    (verdict-pass t before passes ∙ first, last)

-- an outcome whose verdict accepts is the case that says so
pub accepted-case : (r : Outcome) → verdict_of r ≡ accepted → r ≡ Ok tt
accepted-case (Ok tt) e = refl
accepted-case (Err why) e = absurd (not-both e refl)

-- a refusal that `?` hands on is the one that came
pub handed_on : {A : Type 0} {why : Refusal} (r : Result A Refusal) → IsErrAnd r (λ given. given ≡ why) → r ≡ Err why
handed_on r e = let (given, is, same) = err_from_is_err_and r e in is ∙ ap Err same

-- an answer that is an error has a reason, and one that is none accepts
pub error_of : {A : Type 0} (r : Result A Refusal) → is_err r ≡ true → (why : Refusal) × (r ≡ Err why)
error_of (Ok given) e = absurd (true≢false (sym e))
error_of (Err why) e = (why, refl)

pub no_error : {A : Type 0} (r : Result A Refusal) → is_err r ≡ false → verdict_of r ≡ accepted
no_error (Ok given) e = refl
no_error (Err why) e = absurd (true≢false e)
