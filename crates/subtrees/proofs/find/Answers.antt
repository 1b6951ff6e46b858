-- `subtrees::find` meets its contract: the part is tested, and PREORDER and SIZE are read.
-- Assumes nothing.
use native.Mathlib.Omega.{arith}
use borrow.Author.Tests.{true-ltb, false-ltb}
use Rattle.subtrees.proofs.Locating.{OwnNumbers, own-numbers, find-refused, find-found}
use Rattle.subtrees.proofs.find.Goals as goal
use Rattle.subtrees.proofs.find.Goals.{After-label-label}

-- what is read of the part
here : (c : After-label-label) → OwnNumbers c.args.sheet.now c.label-label.result.now c.args.part
here c = own-numbers c.has_part.ensures.small c.label-label.ensures (true-ltb _ _ c.if-not-has_part.ensures.value)

pub returns-then-not-has_part : goal.returns-then-not-has_part
returns-then-not-has_part c = find-refused _ _ (false-ltb _ _ c.if-not-has_part.ensures.value)

pub bounds-label-part : goal.bounds-label-part
bounds-label-part c =
    let f = here (goal.at.bounds-label-part c).After-label-label in
    let inside = true-ltb _ _ c.if-not-has_part.ensures.value in
    omega arith

pub overflow_sub-result : goal.overflow_sub-result
overflow_sub-result c = let f = here (goal.at.overflow_sub-result c).After-label-label in omega arith

pub bounds-label-n : goal.bounds-label-n
bounds-label-n c =
    let f = here (goal.at.bounds-label-n c).After-label-label in
    let inside = true-ltb _ _ c.if-not-has_part.ensures.value in
    omega arith

pub returns : goal.returns
returns c =
    let inside = true-ltb _ _ c.if-not-has_part.ensures.value in
    rw c.len-n.ensures (find-found c.args.part inside (here (goal.at.returns c).After-label-label))
