-- The forms of a line (document 01, "The program"), and their text.
-- Assumes nothing.
use Rattle.std.specs.Prelude.{ℕ, ◌≤◌, List, [], ◌∷◌, ◌++◌, length}
use Rattle.text.specs.Bytes.{bytes, word_number}
use Rattle.text.specs.Fields.{highest}

-- a question: a pair, or a list
pub data Query : Type 0 where
  pair : ℕ → ℕ → Query
  many : List ℕ → Query

-- "A line is a machine, part, pair or many form"
pub data Form : Type 0 where
  machine : ℕ → Form
  part : ℕ → ℕ → Form
  asked : Query → Form

-- the numbers of a list, each behind a space
unfoldable pub list_text : List ℕ → List ℕ
list_text [] = []
list_text (x ∷ xs) = word_number (bytes " ") x ++ list_text xs

-- the text of each form, before its LF
unfoldable pub text : Form → List ℕ
text (machine n) = word_number (bytes "(machine ") n ++ bytes ")"
text (part v p) = word_number (bytes "(part ") v ++ (word_number (bytes " (in ") p ++ bytes "))")
text (asked (pair x y)) = word_number (bytes "(pair ") x ++ (word_number (bytes " ") y ++ bytes ")")
text (asked (many xs)) = bytes "(many" ++ (list_text xs ++ bytes ")")

-- "A many line has 0 to 32 numbers"
abbrev pub most_listed : ℕ
most_listed = 32

-- "values at most 65535", of each number of a list
abbrev pub Values : List ℕ → Type 0
Values [] = Unit {0}
Values (x ∷ xs) = (x ≤ highest) × Values xs

-- the forms that a line can be
abbrev pub Legal : Form → Type 0
Legal (machine n) = n ≤ highest
Legal (part v p) = (v ≤ highest) × (p ≤ highest)
Legal (asked (pair x y)) = (x ≤ highest) × (y ≤ highest)
Legal (asked (many xs)) = (length xs ≤ most_listed) × Values xs
