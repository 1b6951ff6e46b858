-- What filling, copying and comparing a stretch of cells gives.
-- Assumes nothing.
use Rattle.std.specs.Prelude.{ℕ, ◌+◌, ◌≤◌, ◌<◌, ◌≡◌, ◌≢◌, List, get_or}
use Rattle.tree.specs.Sections.{Same}

-- the k cells from i on hold x, and all others what they held
pub record Filled (before : List ℕ) (i k x : ℕ) (after : List ℕ) : Type 0 where
  pub here : (c : ℕ) → i ≤ c → c < i + k → get_or after c 0 ≡ x
  pub below : (c : ℕ) → c < i → get_or after c 0 ≡ get_or before c 0
  pub above : (c : ℕ) → i + k ≤ c → get_or after c 0 ≡ get_or before c 0

-- the k cells from i on hold those of another list from j on, and all before them what they held
pub record Copied (before : List ℕ) (i : ℕ) (from : List ℕ) (j k : ℕ) (after : List ℕ) : Type 0 where
  pub here : Same after i from j k
  pub below : (c : ℕ) → c < i → get_or after c 0 ≡ get_or before c 0

-- two stretches of k cells are equal in the first r, and no further
pub record Agree (a : List ℕ) (i : ℕ) (b : List ℕ) (j k r : ℕ) : Type 0 where
  pub most : r ≤ k
  pub same : Same a i b j r
  pub parts : r < k → get_or a (i + r) 0 ≢ get_or b (j + r) 0

-- the k cells of a table from i on are equal in the first r to those of the sheet's own that stand there, and no further
abbrev pub AgreeAt : List ℕ → List ℕ → ℕ → ℕ → ℕ → Type 0
AgreeAt table own i k r = Agree table i own i k r
