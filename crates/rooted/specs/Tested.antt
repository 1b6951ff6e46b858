-- What tests 4 to 7 give by taking leaves off.
-- Assumes nothing.
use Rattle.std.specs.Prelude.{ℕ, ◌≡◌, List}
use Rattle.tree.specs.Verdict.{accepted, Outcome, verdict_of}
use Rattle.tree.specs.Tests.{verdict, tree_tests}
use Rattle.tree.specs.BottomUp.{Edges}

-- the answer to tests 4 to 7, the parts counted from `shift` on; and, of a sheet that is accepted, its edges in w
pub record TreeTested (s : List ℕ) (shift : ℕ) (r : Outcome) (w : List ℕ) : Type 0 where
  pub outcome : verdict_of r ≡ verdict (tree_tests shift s)
  pub edges : verdict (tree_tests shift s) ≡ accepted → Edges s w
