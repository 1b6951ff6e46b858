-- What a run of the whole program gives, from the input and the length of the buffer alone.
-- Assumes nothing.
use Rattle.std.specs.Prelude.{ℕ, ◌+◌, ◌*◌, ◌≤◌, min, ◌≡◌, Bool, true, false, cond, List, ◌++◌, leb, length, drop, Result, Ok, Err}
use Rattle.console.specs.Run.{most_bytes, output}
use Rattle.console.specs.declared.Short.{Short}

-- what each case of the answer says: whether the buffer has the text, and a count of bytes, those of the text or those that the buffer must have
abbrev pub written_of : Result ℕ Short → Bool × ℕ
written_of (Ok bytes) = (true, bytes)
written_of (Err short) = (false, short.needed)

-- how many bytes are printed at most for each byte of an input
abbrev pub per_byte : ℕ
per_byte = 5

-- how many bytes are printed at most besides
abbrev pub besides : ℕ
besides = 64

-- how many bytes hold whatever is printed for an input of so many bytes
abbrev pub room : ℕ → ℕ
room bytes = per_byte * min bytes most_bytes + besides

-- and for any input
abbrev pub most_room : ℕ
most_room = per_byte * most_bytes + besides

-- a buffer has them
abbrev pub holds : List ℕ → List ℕ → Bool
holds input out = leb (room (length input)) (length out)

-- a buffer that holds whatever is printed has the text at its start, and is as it was after it. A shorter one is as it was, and the answer says how many bytes it must have
pub record RunGives (input out : List ℕ) (r : Result ℕ Short) (out' : List ℕ) : Type 0 where
  pub outcome : (written_of r).0 ≡ holds input out
  pub count : (written_of r).1 ≡ cond (holds input out) (length (output input)) (room (length input))
  pub buffer : out' ≡ cond (holds input out) (output input ++ drop (length (output input)) out) out
  pub bound : length (output input) ≤ room (length input)
