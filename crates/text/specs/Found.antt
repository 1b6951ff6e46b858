-- What the functions that read give, as the definitions have it.
-- Assumes nothing.
use Rattle.std.specs.Prelude.{ℕ, ◌≡◌, List, ◌∷◌, ◌++◌, Option, Some, None, MatchOption}
use Rattle.std.specs.Borrow.{Bor}
use Rattle.std.proofs.Math.Option as maybe
use Rattle.text.specs.Bytes.{lf}
use Rattle.text.specs.Lines.{tail, line, lines}

-- what an Option of `src/` holds, as the definitions have it
abbrev pub found_as : {A B : Type 0} → (A → B) → Option A → maybe.Option B
found_as f (Some a) = maybe.some (f a)
found_as f None = maybe.none

-- a number that was found, and the bytes behind it
abbrev pub value_of : Option (ℕ × Bor (List ℕ)) → maybe.Option (ℕ × List ℕ)
value_of r = found_as (λ found. (found.0, found.1.now)) r

-- the first line of a text ends at an LF, and others follow
pub record Ends (text first rest : List ℕ) : Type 0 where
  pub is : text ≡ first ++ (lf ∷ rest)
  pub ended : lines text ≡ line first (lines rest)

-- it was taken, or no LF ends it
abbrev pub FirstLine : List ℕ → Option (Bor (List ℕ) × Bor (List ℕ)) → Type 0
FirstLine text r = MatchOption r (lines text ≡ tail text) (λ found. Ends text found.0.now found.1.now)
