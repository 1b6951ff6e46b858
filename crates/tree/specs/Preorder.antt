-- Preorder (document 01, "The sheet and its words"): by its three sentences, and as the list that meets them. With it the numbers
-- that the tables take from the order: PREORDER, SIZE, and the tour E with its first positions R. Assumes nothing.
use Rattle.std.specs.Prelude.{ℕ, zero, suc, ◌+◌, ◌<◌, ◌≡◌, ◌≢◌, Bool, cond, not, ◌&&◌, List, [], ◌∷◌, ◌++◌, eqb, length, get_or}
use Rattle.tree.specs.Scan.{count_below, keep, position}
use Rattle.tree.specs.Tree.{parent, Ancestor, is_ancestor, root_of}

-- in the order o, x stands before y
abbrev pub Before : List ℕ → ℕ → ℕ → Type 0
Before o x y = position o x < position o y

-- o is the sheet s in preorder: it lists each part once, and
pub record Preorder (s o : List ℕ) : Type 0 where
  pub part : (i : ℕ) → i < length o → get_or o i 0 < length s
  pub listed : (v : ℕ) → v < length s → position o v < length o
  pub once : (i : ℕ) → i < length o → position o (get_or o i 0) ≡ i
  -- "Preorder begins with the root"
  pub root-first : parent s (get_or o 0 0) ≡ get_or o 0 0
  -- "A part stands before all else that it carries"
  pub ancestor-first : (a v : ℕ) → a < length s → v < length s → Ancestor s a v → v ≢ a → Before o a v
  -- "Of two parts with the same entry, the root apart, the lower number with all it carries stands before the other with all it carries"
  pub lower-first : (a b x y : ℕ) → a < length s → b < length s → parent s a ≡ parent s b → parent s a ≢ a → parent s b ≢ b → a < b
      → x < length s → Ancestor s a x → y < length s → Ancestor s b y → Before o x y

-- c is bolted into v; the root is not bolted into itself
unfoldable pub is_child : List ℕ → ℕ → ℕ → Bool
is_child s v c = eqb (parent s c) v && not (eqb c v)

-- what `visit` gives for each child of v below i, in rising number, end to end
unfoldable pub each_child : List ℕ → ℕ → (ℕ → List ℕ) → ℕ → List ℕ
each_child s v visit zero = []
each_child s v visit (suc i) = let here = visit i in each_child s v visit i ++ cond (is_child s v i) here []

-- the sum of f over the children of v below i
unfoldable pub child_sum : List ℕ → ℕ → (ℕ → ℕ) → ℕ → ℕ
child_sum s v f zero = 0
child_sum s v f (suc i) = child_sum s v f i + cond (is_child s v i) (f i) 0

-- v, and then its children with all that they carry, through at most f levels
unfoldable pub preorder_in : List ℕ → ℕ → ℕ → List ℕ
preorder_in s zero v = []
preorder_in s (suc f) v = v ∷ each_child s v (preorder_in s f) (length s)

-- the parts in preorder. A tree has no more than n levels
unfoldable pub preorder : List ℕ → List ℕ
preorder s = preorder_in s (length s) (root_of s)

-- "PREORDER from 1"
unfoldable pub preorder_number : List ℕ → ℕ → ℕ
preorder_number s v = suc (position (preorder s) v)

-- "SIZE, the parts carried"
unfoldable pub size : List ℕ → ℕ → ℕ
size s v = count_below (is_ancestor s v) (length s)

-- "every part it carries and no other", in preorder
unfoldable pub subtree : List ℕ → ℕ → List ℕ
subtree s v = keep (is_ancestor s v) (preorder s)

-- the visits of v and of all that it carries: v, and v again after each child's visits
unfoldable pub tour_in : List ℕ → ℕ → ℕ → List ℕ
tour_in s zero v = []
tour_in s (suc f) v = v ∷ each_child s v (λ c. tour_in s f c ++ (v ∷ [])) (length s)

-- "the tour E of 2n−1 visits"
unfoldable pub tour : List ℕ → List ℕ
tour s = tour_in s (length s) (root_of s)

-- "R, each part's first position in E, from 0"
unfoldable pub first_visit : List ℕ → ℕ → ℕ
first_visit s v = position (tour s) v
