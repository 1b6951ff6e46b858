-- `routes::answer::pairs` meets its contract: the cells stored are the route's answers to the pairs passed.
-- Assumes nothing.
use Prim.Native.Nat.{◌-◌, ◌*◌, ◌/◌, ◌≤◌}
use mathlib.Core.Path.{◌≡◌}
use lib.ListN.{length}
use Rattle.tree.specs.Buffers.{answer_width, answer_cells}
use Rattle.tree.specs.Tables.{own}
use Rattle.tree.specs.Sections.{Same}
use Rattle.tree.specs.Branch.{answer_by}
use Rattle.tree.specs.Pairs.{each_answer}
use Rattle.routes.specs.Rules.{rule_of}
use Rattle.routes.proofs.answer.pairs.Given as goal

abbrev pub invariant-loop-i : goal.invariant-loop-i
invariant-loop-i l =
    (l.i ≤ length l.question / 2) × (length l.answer ≡ answer_cells (length l.question))
    × Same l.answer 0 (each_answer (answer_by (rule_of l.route) (own l.sheet)) l.question) 0 (l.i * answer_width)
