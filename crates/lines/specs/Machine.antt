-- The machine line, with which an input begins, by the tests of its count. What a program does with the machine is its own.
-- Assumes nothing.
use Rattle.std.specs.Prelude.{ℕ, List, [], ◌∷◌}
use Rattle.std.proofs.Math.Option.{Option-elim}
use Rattle.tree.specs.declared.Refusal.TheVariants.{MalformedLine}
use Rattle.tree.specs.Verdict.{Verdict, accepted, refused, number_of, place_of}
use Rattle.tree.specs.Tests.{Test, verdict, empty, too_large}
use Rattle.text.specs.Lines.{Lines}
use Rattle.lines.specs.Read.{machine_count, next_as}

-- "1 to 512 in the program"
abbrev pub most : ℕ
most = 512

-- the tests of a machine's count
abbrev pub count_tests : ℕ → List Test
count_tests n = empty n ∷ too_large most n ∷ []

-- how an input begins: with a machine of so many parts, and the lines after its line; or so that it is turned away, with a number and a place
pub data Opening : Type 0 where
  machine_of : ℕ → Lines → Opening
  turned_away : ℕ → ℕ → Opening

-- "A machine count that meets 1 or 2 is refused before its part lines"
unfoldable pub by_count : Verdict → ℕ → Lines → Opening
by_count accepted n rest = machine_of n rest
by_count (refused number place) n rest = turned_away number place

-- any other line in its place, or no line, is illegible at line 1
abbrev pub no_machine : Opening
no_machine = turned_away (number_of (MalformedLine 1)) (place_of (MalformedLine 1))

-- "First the machine line"
unfoldable pub opening : Lines → Opening
opening ls = Option-elim (next_as machine_count ls) no_machine λ found. by_count (verdict (count_tests found.0)) found.0 found.1
