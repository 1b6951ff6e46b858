-- `cells::first_from` meets its contract: the largest cell is below the bound, or the first that is not is looked for.
-- Assumes nothing.
use Rattle.std.proofs.Common.{arith}
use native.Mathlib.Nat.{le_refl}
use Rattle.tree.proofs.Places.{first-from}
use Rattle.cells.proofs.Stretches.{position-least}
use Rattle.cells.proofs.first_from.Goals as goal

pub returns-then-largest-bound : goal.returns-then-largest-bound
returns-then-largest-bound c =
    let s = c.args in
    first-from s.cells.now s.bound _ (le_refl _) (λ j h. let most = c.largest.ensures j h in omega arith) (λ h. absurd (omega arith))

pub returns : goal.returns
returns c = rw (c.unwrap_or.ensures, c.position_from.ensures) (position-least _ c.args.cells.now)
