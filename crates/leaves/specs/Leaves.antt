-- Leaves that are taken off a sheet: what work holds meanwhile. Its first n cells are the order so far, the second n say of each part how many name it that are
-- not yet taken, and in the third n stand the entries of those that are, each beside its part.
-- Assumes nothing.
use Rattle.std.specs.Prelude.{ℕ, ◌+◌, ◌-◌, ◌*◌, ◌≤◌, ◌<◌, ◌≡◌, ◌≢◌, Bool, List, eqb, length, get_or}
use Rattle.tree.specs.Scan.{count_below}
use Rattle.tree.specs.Tree.{parent, root_of}
use Rattle.tree.specs.Tests.{limit}
use Rattle.tree.specs.BottomUp.{OneRoot}

-- a sheet that has passed tests 4 to 6 and is not too large, with three cells for each part
pub record Wooded (s w : List ℕ) : Type 0 where
  pub one : OneRoot s (root_of s)
  pub small : length s ≤ limit
  pub room : 3 * length s ≤ length w

-- c names p
abbrev pub names : List ℕ → ℕ → ℕ → Bool
names s p c = eqb (parent s c) p

-- how many are left to be taken that name p, as work has it
abbrev pub left_at : List ℕ → List ℕ → ℕ → ℕ
left_at s w p = get_or w (length s + p) 0

-- of the parts below k, as many as name each are counted
pub record Named (s w : List ℕ) (k : ℕ) : Type 0 where
  pub counted : (p : ℕ) → p < length s → left_at s w p ≡ count_below (names s p) k

-- `found` parts are in the order, of which the first `taken` are taken
pub record Taking (s w : List ℕ) (taken found : ℕ) : Type 0 where
  pub within : taken ≤ found
  pub part : (i : ℕ) → i < found → get_or w i 0 < length s
  pub apart : (i j : ℕ) → i < j → j < found → get_or w i 0 ≢ get_or w j 0
  -- those that name p are taken, or left
  pub shared : (p : ℕ) → p < length s → left_at s w p + count_below (λ i. names s p (get_or w i 0)) taken ≡ count_below (names s p) (length s)
  -- the parts in the order are those of which none is left that names them
  pub bare : (i : ℕ) → i < found → left_at s w (get_or w i 0) ≡ 0
  pub listed : (v : ℕ) → v < length s → left_at s w v ≡ 0 → (i : ℕ) × (i < found) × (get_or w i 0 ≡ v)
  -- before each stand all that name it
  pub first : (i c : ℕ) → i < found → c < length s → parent s c ≡ get_or w i 0 → (j : ℕ) × (j < i) × (get_or w j 0 ≡ c)
  -- beside each that is taken stands its entry
  pub beside : (i : ℕ) → i < taken → get_or w (2 * length s + i) 0 ≡ parent s (get_or w i 0)

-- k parts more wait to be taken
pub record Waiting (s w : List ℕ) (at k found : ℕ) : Type 0 where
  pub wooded : Wooded s w
  pub taking : Taking s w at found
  pub wait : at + k ≤ found

-- the entry of the part at a place of the order
abbrev pub entry_at : List ℕ → List ℕ → ℕ → ℕ
entry_at s w at = get_or s (get_or w at 0) 0

-- they are taken, so that r parts are in the order; those that were in it stand where they stood
pub record Took (s w : List ℕ) (at k found : ℕ) (w' : List ℕ) (r : ℕ) : Type 0 where
  pub taking : Taking s w' (at + k) r
  pub kept : (i : ℕ) → i < found → get_or w' i 0 ≡ get_or w i 0
  pub grown : found ≤ r
  pub cells : length w' ≡ length w

-- the numbers from n − 1 down in the first k cells, and beside each its entry
pub record Falling (s w : List ℕ) (k : ℕ) : Type 0 where
  pub cell : (i : ℕ) → i < k → get_or w i 0 ≡ length s - 1 - i
  pub beside : (i : ℕ) → i < k → get_or w (2 * length s + i) 0 ≡ get_or s (length s - 1 - i) 0
