-- What a call answers and leaves in work, by the tests that it has run: the one record behind what every call gives.
-- Assumes nothing.
use Rattle.std.specs.Prelude.{ℕ, ◌≡◌, List, Result}
use Rattle.tree.specs.declared.Refusal.{Refusal}
use Rattle.tree.specs.Verdict.{verdict_of}
use Rattle.tree.specs.Tests.{Test, verdict}
use Rattle.tree.specs.Buffers.{work_after}

-- the answer is the verdict of these tests, and work is what that verdict leaves of it
pub record Answered {A : Type 0} (tests : List Test) (before : List ℕ) (r : Result A Refusal) (after : List ℕ) : Type 0 where
  pub outcome : verdict_of r ≡ verdict tests
  pub work : after ≡ work_after (verdict tests) before
