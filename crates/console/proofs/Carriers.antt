-- The carrier of an accepted question is a part.
-- Assumes nothing.
use Prim.Native.Nat.{ℕ, ◌<◌}
use native.Mathlib.Nat.{lt_of_lt_of_le}
use mathlib.Core.Path.{◌≡◌}
use mathlib.Core.List.{List}
use Rattle.tree.specs.Lca.{Lca}
use Rattle.tree.specs.Verdict.{accepted}
use Rattle.tree.specs.Tests.{verdict, limit, question_tests, Accepted}
use Rattle.tree.proofs.Orders.{member-at}
use Rattle.tree.proofs.Climbs.{ancestor-inside}
use Rattle.tree.proofs.Acceptance.{accepted-tree}
use Rattle.tree.proofs.Questions.{question-accepted}

-- so it is below the library's limit
pub carrier-small : (s : List ℕ) → Accepted s → (question : List ℕ) → verdict (question_tests s 0 question) ≡ accepted → (c : ℕ) → Lca s question c → c < limit
carrier-small s a question e c l =
    let (tree, small) = accepted-tree s a in
    let (some, inside) = question-accepted s 0 question e in
    lt_of_lt_of_le (ancestor-inside tree.inside (inside 0 some) (l.common _ (member-at question 0 some))) small
