-- The lines that the program prints. "Each output line ends in one LF."
-- Assumes nothing.
use Rattle.std.specs.Prelude.{ℕ, List, ◌++◌}
use Rattle.text.specs.Bytes.{bytes, word_number}
use Rattle.tree.specs.declared.Refusal.{Refusal}
use Rattle.tree.specs.Verdict.{Verdict, accepted, refused, number_of, place_of}
use Rattle.tree.specs.Branch.{Answer}
use Rattle.lines.specs.Forms.{list_text}

-- "prints `(refused N (at P))`"
unfoldable pub refusal : ℕ → ℕ → List ℕ
refusal number place = word_number (bytes "(refused ") number ++ (word_number (bytes " (at ") place ++ bytes "))\n")

-- the line of a case of the enum, with the number and place that it has
abbrev pub refusal_line : Refusal → List ℕ
refusal_line why = refusal (number_of why) (place_of why)

-- "The first line repeats the machine count"
unfoldable pub machine_line : ℕ → List ℕ
machine_line n = word_number (bytes "(machine ") n ++ bytes ")\n"

-- "Each question repeats its numbers, then gives its carrier"; of a pair "The program prints `(by A B)` after the carrier"
unfoldable pub answer_text : Answer → List ℕ
answer_text a = word_number (bytes " (carrier ") a.carrier ++ (word_number (bytes ") (by ") a.left ++ word_number (bytes " ") a.right)

-- "and, for a pair, its lifts"
unfoldable pub pair_line : ℕ → ℕ → Answer → ℕ → List ℕ
pair_line x y a lifts =
    word_number (bytes "(pair ") x ++ (word_number (bytes " ") y ++ (answer_text a ++ (word_number (bytes ") (lifts ") lifts ++ bytes "))\n")))

unfoldable pub many_line : List ℕ → ℕ → List ℕ
many_line xs carrier = bytes "(many" ++ (list_text xs ++ (word_number (bytes " (carrier ") carrier ++ bytes "))\n"))

-- what an accepted input prints, or the line of its refusal
unfoldable pub given : Verdict → List ℕ → List ℕ
given accepted text = text
given (refused number place) text = refusal number place
