-- Lists of parts side by side: the same parts in another order or number, and a list shared out into groups (document 01, "The sheet and
-- its words", and demand 3). Assumes nothing.
use Rattle.std.specs.Prelude.{ℕ, ◌<◌, ◌≡◌, ◌↔◌, ltb, eqb, length, get_or}
use mathlib.Core.List.{List, map, Memᴰ}
use Rattle.tree.specs.Scan.{numbers_from, keep, best}
use Rattle.tree.specs.Preorder.{preorder_number}

-- both lists name exactly the same parts
abbrev pub SameParts : List ℕ → List ℕ → Type 0
SameParts xs ys = (x : ℕ) → Memᴰ x xs ↔ Memᴰ x ys

-- "Sharing a list out gives each of its positions to exactly one group, and no group is empty": position i of xs goes to group `group i`,
-- of m groups
pub record SharedOut (xs : List ℕ) (m : ℕ) (group : ℕ → ℕ) : Type 0 where
  pub given : (i : ℕ) → i < length xs → group i < m
  pub nonempty : (g : ℕ) → g < m → (i : ℕ) × (i < length xs) × (group i ≡ g)

-- the parts at the positions of group g
unfoldable pub members : List ℕ → (ℕ → ℕ) → ℕ → List ℕ
members xs group g = map (λ i. get_or xs i 0) (keep (λ i. eqb (group i) g) (numbers_from 0 (length xs)))

-- the first and the last of a list's parts in preorder
unfoldable pub first_in_preorder : List ℕ → List ℕ → ℕ
first_in_preorder s xs = best (λ x y. ltb (preorder_number s x) (preorder_number s y)) 0 xs

unfoldable pub last_in_preorder : List ℕ → List ℕ → ℕ
last_in_preorder s xs = best (λ x y. ltb (preorder_number s y) (preorder_number s x)) 0 xs
