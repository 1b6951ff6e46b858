-- Writing into a buffer from a place on.
-- Assumes nothing.
use Rattle.std.specs.Prelude.{ℕ, ◌+◌, ◌≤◌, ◌≡◌, List, ◌++◌, length, take, drop}

-- a buffer with some bytes laid over it from a place on: all others are as they were
unfoldable pub over : List ℕ → ℕ → List ℕ → List ℕ
over buffer at new = take at buffer ++ (new ++ drop (at + length new) buffer)

-- there is room for them
abbrev pub Room : List ℕ → ℕ → List ℕ → Type 0
Room buffer at new = at + length new ≤ length buffer

-- some bytes were written from a place on, and the place after them is known
pub record Puts (buffer : List ℕ) (at : ℕ) (new buffer' : List ℕ) (next : ℕ) : Type 0 where
  pub written : buffer' ≡ over buffer at new
  pub place : next ≡ at + length new
