-- What a call answers: the operator's number and place, as document 01 says of each of a refusal's cases; and what an accepted call gives besides.
-- Assumes nothing.
use Rattle.std.specs.Prelude.{ℕ, Result, Ok, Err}
use Rattle.tree.specs.declared.Refusal.{Refusal}
use Rattle.tree.specs.declared.Refusal.TheVariants.{Empty, TooLarge, WrongLength, ParentOutOfRange, NoRoot, SecondRoot, Cycle, StaleTable, NothingListed, NodeOutOfRange, NoCommonAncestor, MalformedLine}
use Rattle.tree.specs.declared.Located.{Located}

-- "A refusal carries a number and a place"
pub data Verdict : Type 0 where
  accepted : Verdict
  refused : ℕ → ℕ → Verdict

-- the number and the place of each refusal, as the operator's table has them
abbrev pub numbered : Refusal → ℕ × ℕ
numbered Empty = (1, 0)
numbered TooLarge = (2, 0)
numbered (WrongLength buffer) = (3, buffer)
numbered (ParentOutOfRange part) = (4, part)
numbered NoRoot = (5, 0)
numbered (SecondRoot part) = (6, part)
numbered (Cycle part) = (7, part)
numbered (StaleTable cell) = (8, cell)
numbered NothingListed = (9, 0)
numbered (NodeOutOfRange position) = (10, position)
numbered NoCommonAncestor = (11, 0)
numbered (MalformedLine line) = (12, line)

abbrev pub number_of : Refusal → ℕ
number_of r = (numbered r).0

abbrev pub place_of : Refusal → ℕ
place_of r = (numbered r).1

-- what a call answers that gives nothing besides: `Ok`, or `Err` of why it is refused
abbrev pub Outcome : Type 0
Outcome = Result (Unit {0}) Refusal

-- a call that was accepted, or the number and the place of its refusal
abbrev pub verdict_of : {A : Type 0} → Result A Refusal → Verdict
verdict_of (Ok given) = accepted
verdict_of (Err why) = refused (number_of why) (place_of why)

-- the count of a trail's lifts; a refusal counts none
abbrev pub lifts_of : Result ℕ Refusal → ℕ
lifts_of (Ok count) = count
lifts_of (Err why) = 0

-- both: a pair that was traced, with the count of its lifts, or the number and the place of its refusal, which counts none
abbrev pub traced_of : Result ℕ Refusal → Verdict × ℕ
traced_of r = (verdict_of r, lifts_of r)

-- where a subtree begins, and how many cells it has; a refusal has none, from the table's first on
abbrev pub start_of : Result Located Refusal → ℕ
start_of (Ok found) = found.start
start_of (Err why) = 0

abbrev pub count_of : Result Located Refusal → ℕ
count_of (Ok found) = found.count
count_of (Err why) = 0

-- all of it: a subtree that was located, with its start and its count, or the number and the place of the refusal
abbrev pub located_of : Result Located Refusal → Verdict × ℕ × ℕ
located_of r = (verdict_of r, start_of r, count_of r)
