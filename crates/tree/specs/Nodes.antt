-- Parts of an accepted sheet: what the rules are asked of.
-- Assumes nothing.
use Rattle.std.specs.Prelude.{ℕ, ◌≤◌, ◌<◌, List, length, get_or}
use Rattle.tree.specs.Tree.{Tree}
use Rattle.tree.specs.Tests.{limit}

-- a sheet that is one rooted tree of at most 16,384 parts
pub record Small (s : List ℕ) : Type 0 where
  pub tree : Tree s
  pub most : length s ≤ limit

-- two of its parts
pub record Pair (s : List ℕ) (x y : ℕ) : Type 0 where
  pub small : Small s
  pub left : x < length s
  pub right : y < length s

-- one or more of its parts, by their positions in a question
pub record Listed (s question : List ℕ) : Type 0 where
  pub small : Small s
  pub some : 0 < length question
  pub part : (i : ℕ) → i < length question → get_or question i 0 < length s
