-- Stretches of cells, by which tables are filled and compared section by section.
-- Assumes nothing.
use Rattle.std.specs.Prelude.{ℕ, ◌+◌, ◌<◌, ◌≡◌, Bool, not, List, eqb, length, get_or}
use Rattle.tree.specs.Scan.{least}

-- the k cells of a from i on are those of b from j on
pub record Same (a : List ℕ) (i : ℕ) (b : List ℕ) (j k : ℕ) : Type 0 where
  pub cell : (x : ℕ) → x < k → get_or a (i + x) 0 ≡ get_or b (j + x) 0

-- two lists differ in cell i
abbrev pub differ_at : List ℕ → List ℕ → ℕ → Bool
differ_at a b i = not (eqb (get_or a i 0) (get_or b i 0))

-- the first cell in which a differs from b; the length of b where there is none
unfoldable pub first_difference : List ℕ → List ℕ → ℕ
first_difference a b = least (differ_at a b) (length b)
