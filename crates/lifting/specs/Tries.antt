-- What a try of a power of two gives.
-- Assumes nothing.
use Rattle.std.specs.Prelude.{ℕ, ◌≡◌, Bool, true, false, List, Option, None, Some}
use Rattle.tree.specs.Nodes.{Pair}
use Rattle.tree.specs.Trail.{Row}
use Rattle.lifting.specs.declared.Sides.{Sides}
use Rattle.lifting.specs.Stored.{row_of}

-- nothing, where the power does not pass; where it does, the pair raised by it, of parts of s
abbrev pub Tried : List ℕ → Bool → Row → Option Sides → Type 0
Tried s passes up None = passes ≡ false
Tried s passes up (Some p) = (passes ≡ true) × (row_of p ≡ up) × Pair s p.x p.y
