-- Reading a line: the form that its bytes are, or nothing where they break the forms. `Legible.antt` of proofs/ shows that a line is read as a form
-- exactly if its bytes are that form's text.
-- Assumes nothing.
use Rattle.std.specs.Prelude.{ℕ, zero, suc, cond, List, [], ◌∷◌, leb, eqb, length}
use Rattle.std.proofs.Math.Option.{Option, none, some, Option-elim, bind as ◌>>=◌}
use Rattle.text.specs.Bytes.{bytes}
use Rattle.text.specs.Fields.{after, number, number_then, whole, either}
use Rattle.text.specs.Lines.{Lines, tail, line}
use Rattle.lines.specs.Forms.{Query, pair, many, Form, machine, part, asked, most_listed}

unfoldable pub machine_form : List ℕ → Option Form
machine_form b = do
  b₁ ← after (bytes "(machine ") b
  (n, b₂) ← number_then (bytes ")") b₁
  whole b₂ (machine n)

-- two numbers between three words, which are all of the bytes
unfoldable pub two_numbers : List ℕ → List ℕ → List ℕ → List ℕ → Option (ℕ × ℕ)
two_numbers first middle last b = do
  b₁ ← after first b
  (x, b₂) ← number_then middle b₁
  (y, b₃) ← number_then last b₂
  whole b₃ (x, y)

unfoldable pub part_form : List ℕ → Option Form
part_form b = do
  (v, p) ← two_numbers (bytes "(part ") (bytes " (in ") (bytes "))") b
  some (part v p)

unfoldable pub pair_form : List ℕ → Option Form
pair_form b = do
  (x, y) ← two_numbers (bytes "(pair ") (bytes " ") (bytes ")") b
  some (asked (pair x y))

-- at most k numbers, each behind a space, and the bytes behind them
unfoldable pub listed : ℕ → List ℕ → Option (List ℕ × List ℕ)
listed zero b = some ([], b)
listed (suc k) b =
    Option-elim (after (bytes " ") b) (some ([], b)) λ b₁. do
      (x, b₂) ← number b₁
      (xs, b₃) ← listed k b₂
      some (x ∷ xs, b₃)

unfoldable pub many_form : List ℕ → Option Form
many_form b = do
  b₁ ← after (bytes "(many") b
  (xs, b₂) ← listed most_listed b₁
  b₃ ← after (bytes ")") b₂
  whole b₃ (asked (many xs))

-- the most bytes of a line, before its LF
abbrev pub longest : ℕ
longest = 200

-- "Over 200 bytes before LF .. are illegible"
unfoldable pub read : List ℕ → Option Form
read b = cond (leb (length b) longest) (either (machine_form b) (either (part_form b) (either (pair_form b) (many_form b)))) none

-- the line that comes next, and the lines after it. There is none where it is illegible, where there are only bytes after the last LF, or where it is missing
unfoldable pub next : Lines → Option (Form × Lines)
next (tail b) = none
next (line b rest) = do
  f ← read b
  some (f, rest)

-- ---- what a place takes: "a line of another kind than its place takes" is illegible

-- the machine line's count
unfoldable pub machine_count : Form → Option ℕ
machine_count (machine n) = some n
machine_count (part v p) = none
machine_count (asked q) = none

-- the entry of part v; "a part line out of order" is illegible
unfoldable pub entry : ℕ → Form → Option ℕ
entry v (machine n) = none
entry v (part w p) = cond (eqb w v) (some p) none
entry v (asked q) = none

-- a question
unfoldable pub query : Form → Option Query
query (machine n) = none
query (part v p) = none
query (asked q) = some q

-- the next line, as a place takes it
unfoldable pub next_as : {A : Type 0} → (Form → Option A) → Lines → Option (A × Lines)
next_as take ls = do
  (f, rest) ← next ls
  a ← take f
  some (a, rest)
