-- What the tables of an accepted sheet are filled and compared from.
-- Assumes nothing.
use Rattle.std.specs.Prelude.{◌≡◌, List, ℕ, length, replicate}
use Rattle.tree.specs.Buffers.{label_cells, tour_cells, lift_cells, order_cells, work_cells}
use Rattle.tree.specs.Labels.{label_table}
use Rattle.tree.specs.Tour.{tour_table}
use Rattle.tree.specs.Lifts.{lift_table}
use Rattle.tree.specs.Preorder.{preorder}
use Rattle.tree.specs.Tables.{Lent}
use Rattle.tree.specs.Ready.{Ready}

-- an accepted sheet with tables and work of their exact lengths
pub record Fits (t : Lent) (work : List ℕ) : Type 0 where
  pub ready : Ready t.parents work
  pub label_length : length t.label ≡ label_cells (length t.parents)
  pub tour_length : length t.tour ≡ tour_cells (length t.parents)
  pub lift_length : length t.lift ≡ lift_cells (length t.parents)
  pub order_length : length t.order ≡ order_cells (length t.parents)

-- the sheet's own tables, and work cleared
pub record Built (s label' tour' lift' order' work' : List ℕ) : Type 0 where
  pub label : label' ≡ label_table s
  pub tour : tour' ≡ tour_table s
  pub lift : lift' ≡ lift_table s
  pub order : order' ≡ preorder s
  pub work : work' ≡ replicate (work_cells (length s)) 0
