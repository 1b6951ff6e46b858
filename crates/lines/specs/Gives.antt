-- What the functions of this crate give, as the definitions have it.
-- Assumes nothing.
use Rattle.std.specs.Prelude.{ℕ, ◌≤◌, ◌<◌, ◌≡◌, List, [], ◌++◌, length, take, drop, Option, Result, Ok, Err, IfSome, IfOk}
use Rattle.std.specs.Borrow.{Bor}
use Rattle.std.proofs.Math.Option as maybe
use Rattle.tree.specs.declared.Refusal.{Refusal}
use Rattle.tree.specs.Verdict.{number_of, place_of}
use Rattle.tree.specs.Tests.{verdict}
use Rattle.text.specs.Lines.{Lines, tail, line, lines}
use Rattle.text.specs.Found.{found_as}
use Rattle.lines.specs.Forms.{Query, pair, many, Form, machine, part, asked}
use Rattle.lines.specs.Read.{next}
use Rattle.lines.specs.Machine.{most, count_tests, Opening, machine_of, turned_away, by_count, opening}
use Rattle.lines.specs.declared.list.Numbers.{Numbers}
use Rattle.lines.specs.declared.form.Question.{Question}
use Rattle.lines.specs.declared.form.Question.TheVariants.{Pair, Many}
use Rattle.lines.specs.declared.form.Line.{Line}
use Rattle.lines.specs.declared.form.Line.TheVariants.{Machine, Part, Asked}
use Rattle.lines.specs.declared.reader.Reader.{Reader}

-- ---- a line

-- the numbers of a many line
abbrev pub numbers_of : Numbers → List ℕ
numbers_of n = take n.count n.cells

abbrev pub query_of : Question → Query
query_of (Pair x y) = pair x y
query_of (Many n) = many (numbers_of n)

abbrev pub form_of : Line → Form
form_of (Machine n) = machine n
form_of (Part v p) = part v p
form_of (Asked q) = asked (query_of q)

-- two numbers that stand between words
abbrev pub two_of : Option (ℕ × ℕ) → maybe.Option (ℕ × ℕ)
two_of r = found_as (λ two. two) r

-- the numbers of a many line, and the bytes behind them
abbrev pub list_of : Option (Numbers × Bor (List ℕ)) → maybe.Option (List ℕ × List ℕ)
list_of r = found_as (λ found. (numbers_of found.0, found.1.now)) r

-- what a line's bytes say
abbrev pub reading_of : Option Line → maybe.Option Form
reading_of r = found_as form_of r

-- ---- the next line

-- the bytes that a reader has before it
abbrev pub bytes_of : Reader → List ℕ
bytes_of reader = drop reader.at reader.input.now

-- the lines that they are
abbrev pub rest_of : Reader → Lines
rest_of reader = lines (bytes_of reader)

-- how many they are
abbrev pub left_by : Reader → ℕ
left_by reader = length (bytes_of reader)

-- some bytes are what is left of others
abbrev pub LeftOf : List ℕ → List ℕ → Type 0
LeftOf all rest = (taken : List ℕ) × (all ≡ taken ++ rest)

-- a reader took what it gives, and stands behind it in the same input, if anything was there
pub record Takes {A B : Type 0} (of : B → A) (there : maybe.Option (A × Lines)) (before after : Reader) (r : Option B) : Type 0 where
  pub is : found_as (λ b. (of b, rest_of after)) r ≡ there
  pub further : IfSome r (λ b. left_by after < left_by before)
  pub left : LeftOf (bytes_of before) (bytes_of after)
  pub same : after.input ≡ before.input

-- the lines behind the first: none where no LF ends it
abbrev pub behind_first : Lines → Lines
behind_first (tail b) = tail []
behind_first (line b rest) = rest

-- the next line; the reader stands behind it, whatever it says
pub record NextGives (before after : Reader) (r : Option Line) : Type 0 where
  pub takes : Takes form_of (next (rest_of before)) before after r
  pub behind : rest_of after ≡ behind_first (rest_of before)

-- ---- the machine line

-- the opening of an input, by what its machine line gave
abbrev pub opening_of : Result (ℕ × Reader) Refusal → Opening
opening_of (Ok (n, reader)) = machine_of n (rest_of reader)
opening_of (Err why) = turned_away (number_of why) (place_of why)

-- the same by what its count gave, before some lines
abbrev pub opening_before : Lines → Result ℕ Refusal → Opening
opening_before ls (Ok n) = machine_of n ls
opening_before ls (Err why) = turned_away (number_of why) (place_of why)

-- a machine of so many parts
pub record AdmitGives (n : ℕ) (r : Result ℕ Refusal) : Type 0 where
  pub is : (ls : Lines) → opening_before ls r ≡ by_count (verdict (count_tests n)) n ls
  pub within : IfOk r (λ m. (0 < m) × (m ≤ most))

-- the machine line of an input: the reader that is handed on reads that input
pub record StartGives (input : Bor (List ℕ)) (r : Result (ℕ × Reader) Refusal) : Type 0 where
  pub is : opening_of r ≡ opening (lines input.now)
  pub within : IfOk r (λ start. (0 < start.0) × (start.0 ≤ most) × LeftOf input.now (bytes_of start.1))
  pub same : IfOk r (λ start. start.1.input ≡ input)
