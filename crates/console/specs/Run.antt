-- The run of the program: what it prints, from the input's bytes alone. "First the machine line, then n part lines in order, then questions."
-- Assumes nothing.
use Rattle.std.specs.Prelude.{ℕ, zero, suc, ◌+◌, cond, List, [], ◌∷◌, ◌++◌, leb, length}
use Rattle.std.proofs.Math.Option.{Option-elim, bind}
use Rattle.tree.specs.declared.Refusal.TheVariants.{MalformedLine}
use Rattle.tree.specs.Tests.{verdict, sheet_tests, question_tests}
use Rattle.tree.specs.Lca.{lca}
use Rattle.tree.specs.Branch.{pair_answer}
use Rattle.tree.specs.Trail.{lift_count}
use Rattle.text.specs.Lines.{Lines, tail, line, lines}
use Rattle.lines.specs.Forms.{Query, pair, many}
use Rattle.lines.specs.Read.{read, entry, query, next_as}
use Rattle.lines.specs.Machine.{Opening, machine_of, turned_away, opening}
use Rattle.console.specs.Print.{refusal, refusal_line, machine_line, pair_line, many_line, given}

-- the line of an illegible line, at the line's number
abbrev pub illegible : ℕ → List ℕ
illegible number = refusal_line (MalformedLine number)

-- ---- questions

-- the parts that a question lists
abbrev pub parts_of : Query → List ℕ
parts_of (pair x y) = x ∷ y ∷ []
parts_of (many xs) = xs

-- the line that answers it: its carrier and, for a pair, the branches and its lifts
abbrev pub answer_line : List ℕ → Query → List ℕ
answer_line s (pair x y) = pair_line x y (pair_answer s x y) (lift_count s x y)
answer_line s (many xs) = many_line xs (lca s xs)

-- what is printed for a question to an accepted sheet: "A refused question prints that line"
unfoldable pub answer : List ℕ → Query → List ℕ
answer s q = given (verdict (question_tests s 0 (parts_of q))) (answer_line s q)

-- what stands after the last LF: nothing, or "bytes after the last LF", which are illegible as the line that they would be
unfoldable pub leftover : ℕ → List ℕ → List ℕ
leftover number [] = []
leftover number (x ∷ b) = illegible number

-- the questions, one by one, the first of which is line `number`: "the next line is read" after each, and an illegible line ends the run
unfoldable pub questions : List ℕ → ℕ → Lines → List ℕ
questions s number (tail b) = leftover number b
questions s number (line b rest) =
    let later = questions s (suc number) rest in
    Option-elim (bind (read b) query) (illegible number) λ q. answer s q ++ later

-- ---- the sheet

-- a sheet that was read, and the lines after it; or the number of the line at which it broke off
pub data Sheet : Type 0 where
  sheet : List ℕ → Lines → Sheet
  broken : ℕ → Sheet

-- an entry before the others
abbrev pub first : ℕ → Sheet → Sheet
first p (sheet ps rest) = sheet (p ∷ ps) rest
first p (broken number) = broken number

-- the line of part v: the machine line is line 1
abbrev pub part_line : ℕ → ℕ
part_line v = v + 2

-- "n part lines in order": those of k parts from part v on
unfoldable pub parts : ℕ → ℕ → Lines → Sheet
parts zero v ls = sheet [] ls
parts (suc k) v ls = Option-elim (next_as (entry v) ls) (broken (part_line v)) λ found. first found.0 (parts k (suc v) found.1)

-- "the sheet is tested after its last part line, before any question is read", and a refused sheet ends the run
unfoldable pub sheet_run : Sheet → List ℕ
sheet_run (sheet s rest) = given (verdict (sheet_tests s 0)) (questions s (part_line (length s)) rest)
sheet_run (broken number) = illegible number

-- ---- the machine

-- a machine's count that passed tests 1 and 2 is repeated, "whatever follows"; an input that is turned away prints its refusal alone
unfoldable pub machine_run : Opening → List ℕ
machine_run (machine_of n rest) = machine_line n ++ sheet_run (parts n 0 rest)
machine_run (turned_away number place) = refusal number place

unfoldable pub run : Lines → List ℕ
run ls = machine_run (opening ls)

-- the most bytes of an input
abbrev pub most_bytes : ℕ
most_bytes = 65536

-- "Input above 65,536 bytes is illegible at line 1, with no other output"
unfoldable pub output : List ℕ → List ℕ
output input = let text = run (lines input) in cond (leb (length input) most_bytes) text (illegible 1)
