-- The columns of the label table after PREORDER and SIZE.
-- Assumes nothing.
use Rattle.std.specs.Prelude.{ℕ, List, [], ◌∷◌}
use Rattle.labels.specs.declared.Column.{Column}
use Rattle.labels.specs.declared.Column.TheVariants.{Level, Inlabel, Ascendant, Head}

-- in the table's order
abbrev pub in_order : List Column
in_order = Level ∷ Inlabel ∷ Ascendant ∷ Head ∷ []

-- a column's place in the table
abbrev pub place_of : Column → ℕ
place_of Level = 2
place_of Inlabel = 3
place_of Ascendant = 4
place_of Head = 5
