-- The lowest common ancestor of a list of parts: document 01's "carrier". By its property, and found by a plain climber.
-- A pair's is that of the list of its two parts. Assumes nothing.
use Rattle.std.specs.Prelude.{ℕ, ◌<◌, Bool, length}
use mathlib.Core.List.{List, [], ◌∷◌, Memᴰ}
use Rattle.tree.specs.Scan.{least, every}
use Rattle.tree.specs.Tree.{climb, Ancestor, is_ancestor}

-- a list of parts: each number listed is below n
abbrev pub Parts : List ℕ → List ℕ → Type 0
Parts s xs = (x : ℕ) → Memᴰ x xs → x < length s

-- c carries each part of the list
abbrev pub Common : List ℕ → List ℕ → ℕ → Type 0
Common s xs c = (x : ℕ) → Memᴰ x xs → Ancestor s c x

-- "The carrier of two parts, or of a list, is the common carrier that all other common carriers carry"
pub record Lca (s xs : List ℕ) (c : ℕ) : Type 0 where
  pub common : Common s xs c
  pub lowest : (d : ℕ) → Common s xs d → Ancestor s d c

-- the test of `Common`
unfoldable pub is_common : List ℕ → List ℕ → ℕ → Bool
is_common s xs c = every (is_ancestor s c) xs

-- The plain climber: from the first part of the list up to the first part that carries all of them. A list of no parts has no
-- carrier, and gives 0
unfoldable pub lca : List ℕ → List ℕ → ℕ
lca s [] = 0
lca s (x ∷ xs) = climb s (least (λ k. is_common s (x ∷ xs) (climb s k x)) (length s)) x
