-- What a call of the library gives through C: a number that is returned, and a value that is stored.
-- Assumes nothing.
use Rattle.std.specs.Prelude.{ℕ, ◌≡◌, Result}
use Rattle.tree.specs.declared.Refusal.{Refusal}
use Rattle.tree.specs.declared.Located.{Located}
use Rattle.tree.specs.Verdict.{Verdict, accepted, refused, Outcome, verdict_of, located_of}

-- the number that is returned: the refusal's, 0 for an accepted call
abbrev pub number_in : Verdict → ℕ
number_in accepted = 0
number_in (refused number place) = number

-- the value: the refusal's place, or what an accepted call counts
abbrev pub value_in : Verdict → ℕ → ℕ
value_in accepted count = count
value_in (refused number place) count = place

-- an outcome's verdict; an accepted call counts nothing
abbrev pub outcome_of : Outcome → Verdict × ℕ
outcome_of r = (verdict_of r, 0)

-- a subtree's verdict, and the count of its parts
abbrev pub located_count : Result Located Refusal → Verdict × ℕ
located_count r = let (verdict, start, count) = located_of r in (verdict, count)

-- a call of the library gave an answer of which its contract `Gives` holds, and these are the answer's number and value; `read` is the
-- library's own definition of the verdict and the count that such an answer is
pub record Returned {A : Type 0} (read : A → Verdict × ℕ) (Gives : A → Type 0) (number value : ℕ) : Type 0 where
  pub answer : A
  pub gives : Gives answer
  pub number_is : number ≡ number_in (read answer).0
  pub value-is : value ≡ value_in (read answer).0 (read answer).1
