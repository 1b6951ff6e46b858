-- What the functions of the program give, as the definitions have it.
-- Assumes nothing.
use Rattle.std.specs.Prelude.{ℕ, ◌≤◌, ◌<◌, ◌≡◌, List, [], ◌∷◌, length, Option, Result, Ok, Err}
use Rattle.tree.specs.Verdict.{accepted}
use Rattle.tree.specs.Tests.{verdict, question_tests, Accepted}
use Rattle.tree.specs.Buffers.{label_cells, tour_cells, lift_cells, order_cells, work_cells}
use Rattle.tree.specs.Tables.{Lent, own}
use Rattle.tree.specs.Branch.{Answer, pair_answer}
use Rattle.text.specs.Lines.{Lines}
use Rattle.lines.specs.Read.{entry, query, next_as}
use Rattle.lines.specs.Machine.{most}
use Rattle.lines.specs.Gives.{query_of, rest_of, Takes}
use Rattle.lines.specs.declared.form.Question.{Question}
use Rattle.lines.specs.declared.reader.Reader.{Reader}
use Rattle.console.specs.Run.{Sheet, sheet, broken, parts}
use Rattle.console.specs.declared.print.PairAnswer.{PairAnswer}

-- ---- the part lines

-- the entry of part v
abbrev pub EntryGives : ℕ → Reader → Reader → Option ℕ → Type 0
EntryGives v before after r = Takes (λ p. p) (next_as (entry v) (rest_of before)) before after r

-- the sheet, and the lines after it, or the number of the line at which it broke off
abbrev pub sheet_of : Lines → List ℕ → Result Unit ℕ → Sheet
sheet_of rest s (Ok all) = sheet s rest
sheet_of rest s (Err number) = broken number

abbrev pub EntriesGive : Reader → Reader → List ℕ → Result Unit ℕ → Type 0
EntriesGive before after s r = sheet_of (rest_of after) s r ≡ parts (length s) 0 (rest_of before)

-- ---- the questions

-- a question
abbrev pub AsksGive : Reader → Reader → Option Question → Type 0
AsksGive before after r = Takes query_of (next_as query (rest_of before)) before after r

-- what questions are asked of: an accepted sheet with its own tables, and work of its exact length
pub record Stands (t : Lent) (work : List ℕ) : Type 0 where
  pub accepts : Accepted t.parents
  pub tables : t ≡ own t.parents
  pub room : length work ≡ work_cells (length t.parents)

-- a route's answer to a pair, as the definitions have it
abbrev pub answer_of : PairAnswer → Answer
answer_of a = record { carrier = a.carrier; left = a.left; right = a.right }

-- it is that of an accepted pair: the carrier, and the branches towards x and y
pub record Found (s : List ℕ) (x y : ℕ) (a : PairAnswer) : Type 0 where
  pub yes : verdict (question_tests s 0 (x ∷ y ∷ [])) ≡ accepted
  pub is : answer_of a ≡ pair_answer s x y

-- ---- buffers

-- tables and work have the exact lengths of a sheet that the program takes
pub record Sized (t : Lent) (work : List ℕ) : Type 0 where
  pub some : 0 < length t.parents
  pub small : length t.parents ≤ most
  pub label_length : length t.label ≡ label_cells (length t.parents)
  pub tour_length : length t.tour ≡ tour_cells (length t.parents)
  pub lift_length : length t.lift ≡ lift_cells (length t.parents)
  pub order_length : length t.order ≡ order_cells (length t.parents)
  pub room : length work ≡ work_cells (length t.parents)
