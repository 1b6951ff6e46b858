-- What raising a pair gives: its rows stored one after the other, where they end and how many there are.
-- Assumes nothing.
use Rattle.std.specs.Prelude.{ℕ, suc, ◌+◌, ◌*◌, ◌≡◌, List, [], ◌∷◌, length, set}
use Rattle.tree.specs.Nodes.{Pair}
use Rattle.tree.specs.Trail.{Row, last_row}
use Rattle.lifting.specs.declared.Sides.{Sides}
use Rattle.lifting.specs.declared.Raised.{Raised}

-- two parts as a row
abbrev pub row : ℕ → ℕ → Row
row x y = record { x = x; y = y }

abbrev pub row_of : Sides → Row
row_of p = row p.x p.y

-- a row stored as row `at` of a trail's cells: "x's side, then y's side"
abbrev pub stored_row : List ℕ → ℕ → Row → List ℕ
stored_row cells at p = set (set cells (2 * at) p.x) (2 * at + 1) p.y

-- rows stored one after the other, from row `at` on
unfoldable pub stored : List ℕ → ℕ → List Row → List ℕ
stored cells at [] = cells
stored cells at (p ∷ ps) = stored (stored_row cells at p) (suc at) ps

-- from the pair p of a sheet s, with `at` rows stored before, these rows were stored; the last of them is of parts of s
pub record Raises (s : List ℕ) (rows : List Row) (p : Row) (at : ℕ) (before : List ℕ) (r : Raised) (after : List ℕ) : Type 0 where
  pub ends : row r.x r.y ≡ last_row p rows
  pub count : r.lifts ≡ at + length rows
  pub cells : after ≡ stored before at rows
  pub pair : Pair s r.x r.y
