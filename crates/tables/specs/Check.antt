-- What the calls that are lent a sheet without tables give, from their inputs alone.
-- Assumes nothing.
use Rattle.std.specs.Prelude.{ℕ, ◌≡◌, List}
use Rattle.tree.specs.Verdict.{accepted, refused, verdict_of, Outcome}
use Rattle.tree.specs.Tests.{verdict, sheet_tests}
use Rattle.tree.specs.Buffers.{work_after}
use Rattle.tree.specs.BottomUp.{Edges}
use Rattle.tree.specs.Lending.{sheet_unfit}
use Rattle.tree.specs.Answered.{Answered}

-- the answer to tests 1 to 7 of the sheet s, and work afterwards, of a call whose lowest buffer that does not fit is `buffer`, or 0
abbrev pub Tested : List ℕ → ℕ → List ℕ → Outcome → List ℕ → Type 0
Tested s buffer = Answered (sheet_tests s buffer)

-- a call that is lent work, and further buffers, of which `further` is the lowest that does not fit, or 0
abbrev pub SheetGives : List ℕ → ℕ → List ℕ → Outcome → List ℕ → Type 0
SheetGives s further before = Tested s (sheet_unfit s before further) before

-- checking is lent work alone
abbrev pub CheckGives : List ℕ → List ℕ → Outcome → List ℕ → Type 0
CheckGives s = SheetGives s 0

-- the same of a call that sums over what parts carry: where it is accepted, work holds the sheet's edges, from the leaves up
pub record OrderGives (s : List ℕ) (further : ℕ) (before : List ℕ) (r : Outcome) (after : List ℕ) : Type 0 where
  pub outcome : verdict_of r ≡ verdict (sheet_tests s (sheet_unfit s before further))
  pub refusal : (number place : ℕ) → verdict (sheet_tests s (sheet_unfit s before further)) ≡ refused number place
      → after ≡ work_after (verdict (sheet_tests s (sheet_unfit s before further))) before
  pub edges : verdict (sheet_tests s (sheet_unfit s before further)) ≡ accepted → Edges s after
