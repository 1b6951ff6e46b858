-- Text as lines, each "ended by one LF".
-- Assumes nothing.
use Rattle.std.specs.Prelude.{ℕ, cond, List, [], ◌∷◌, eqb}
use Rattle.text.specs.Bytes.{lf}

-- the lines of a text, one by one: the bytes of a line before its LF and the lines after it, or the bytes after the last LF
pub data Lines : Type 0 where
  tail : List ℕ → Lines
  line : List ℕ → Lines → Lines

-- a byte before the first of these lines
abbrev pub before : ℕ → Lines → Lines
before x (tail b) = tail (x ∷ b)
before x (line b rest) = line (x ∷ b) rest

unfoldable pub lines : List ℕ → Lines
lines [] = tail []
lines (x ∷ b) = let rest = lines b in cond (eqb x lf) (line [] rest) (before x rest)
