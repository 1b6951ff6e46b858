-- The rule of each route, and where an answer is stored.
-- Assumes nothing.
use Rattle.std.specs.Prelude.{ℕ, ◌+◌, List, set}
use Rattle.tree.specs.Tables.{Lent}
use Rattle.tree.specs.Routes.{by_labels, by_tour}
use Rattle.tree.specs.Trail.{by_lifts}
use Rattle.tree.specs.Branch.{Answer}
use Rattle.routes.specs.declared.Route.{Route}
use Rattle.routes.specs.declared.Route.TheVariants.{Labels, Tour, Lifts}

-- over the lent tables' cells, LEVEL and the sheet's entries
abbrev pub rule_of : Route → Lent → ℕ → ℕ → ℕ
rule_of Labels = by_labels
rule_of Tour = by_tour
rule_of Lifts = by_lifts

-- an answer stored in the three cells from `at` on: "carrier, x's branch, y's branch"
abbrev pub stored_answer : List ℕ → ℕ → Answer → List ℕ
stored_answer cells at a = set (set (set cells at a.carrier) (at + 1) a.left) (at + 2) a.right
