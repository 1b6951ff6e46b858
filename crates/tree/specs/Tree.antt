-- A sheet and its words (document 01, "The sheet and its words"), over the list of its entries alone.
-- Assumes nothing.
use Rattle.std.specs.Prelude.{ℕ, zero, suc, ◌-◌, ◌<◌, ◌≡◌, Bool, true, List, eqb, ltb, length, get_or}
use Rattle.tree.specs.Scan.{least_from, least}

-- "Entry v is the part into which part v is bolted. Parts are numbered from 0": a sheet s is the list of its entries
unfoldable pub parent : List ℕ → ℕ → ℕ
parent s v = get_or s v 0

-- k steps from part to entry, from v on
unfoldable pub climb : List ℕ → ℕ → ℕ → ℕ
climb s zero v = v
climb s (suc k) v = climb s k (parent s v)

-- "Carries means reached by zero or more steps from part to entry, so a part carries itself": a carries v
pub record Ancestor (s : List ℕ) (a v : ℕ) : Type 0 where
  pub steps : ℕ
  pub reaches : climb s steps v ≡ a

-- the same as a test: fewer than n steps are enough
unfoldable pub is_ancestor : List ℕ → ℕ → ℕ → Bool
is_ancestor s a v = ltb (least (λ k. eqb (climb s k v) a) (length s)) (length s)

-- "The root names itself"
unfoldable pub is_root : List ℕ → ℕ → Bool
is_root s v = eqb (parent s v) v

-- the lowest part from `from` on that names itself; n where there is none
unfoldable pub next_root : List ℕ → ℕ → ℕ
next_root s from = least_from (is_root s) from (length s - from)

-- the lowest part that names itself
unfoldable pub root_of : List ℕ → ℕ
root_of s = next_root s 0

-- a climb from v meets the root
pub record MeetsRoot (s : List ℕ) (v : ℕ) : Type 0 where
  pub steps : ℕ
  pub meets : is_root s (climb s steps v) ≡ true

-- "LEVEL is the number of steps to the root"; n where fewer than n steps do not meet it
unfoldable pub level : List ℕ → ℕ → ℕ
level s v = least (λ k. is_root s (climb s k v)) (length s)

-- "A sheet is one rooted tree when every entry is below n, exactly one part names itself and every part reaches that one by steps"
pub record Tree (s : List ℕ) : Type 0 where
  pub inside : (v : ℕ) → v < length s → parent s v < length s
  pub root : ℕ
  pub root-inside : root < length s
  pub root-itself : parent s root ≡ root
  pub root-only : (v : ℕ) → v < length s → parent s v ≡ v → v ≡ root
  pub reach : (v : ℕ) → v < length s → Ancestor s root v
