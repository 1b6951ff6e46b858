-- A sheet with the tables that are lent with it, and a sheet's own tables.
-- Assumes nothing.
use Rattle.std.specs.Prelude.{ℕ, List, ◌++◌}
use Rattle.tree.specs.Labels.{label_table}
use Rattle.tree.specs.Tour.{tour_table}
use Rattle.tree.specs.Lifts.{lift_table}
use Rattle.tree.specs.Preorder.{preorder}
use Rattle.tree.specs.declared.Lent as refs

-- "Every call that is lent tables is lent all four": the fourth, `order`, "holds the parts in preorder"
pub record Lent : Type 0 where
  pub parents : List ℕ
  pub label : List ℕ
  pub tour : List ℕ
  pub lift : List ℕ
  pub order : List ℕ

-- what a call is lent to read, from the cells behind its references
abbrev pub lent_in : refs.Lent → Lent
lent_in l =
    record { parents = l.parents.now; label = l.label.now; tour = l.tour.now; lift = l.lift.now; order = l.order.now }

-- what a call is lent, from the cells behind its references
abbrev pub lent_by : (parents label tour lift order : List ℕ) → Lent
lent_by parents label tour lift order =
    record { parents = parents; label = label; tour = tour; lift = lift; order = order }

-- "Its own tables hold in every cell what is defined .. from that sheet"
abbrev pub own : List ℕ → Lent
own s = record { parents = s; label = label_table s; tour = tour_table s; lift = lift_table s; order = preorder s }

-- "the lent tables end to end in buffer order"; the fourth stands "after the lift table in the comparison for staleness"
abbrev pub end_to_end : Lent → List ℕ
end_to_end t = t.label ++ (t.tour ++ (t.lift ++ t.order))
