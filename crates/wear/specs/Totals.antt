-- Wear by assembly (document 02, 2026-02): the total of a part, from the counts and the sheet alone, and what the call gives from its inputs alone.
-- Assumes nothing.
use Rattle.std.specs.Prelude.{ℕ, ◌≡◌, List, length, get_or}
use Rattle.tree.specs.Verdict.{Verdict, accepted, Outcome}
use Rattle.tree.specs.Scan.{tabulate}
use Rattle.tree.specs.Tree.{is_ancestor, root_of}
use Rattle.tree.specs.Tests.{Test, verdict, sheet_tests}
use Rattle.tree.specs.Buffers.{wear_fits, first_unfit, filled}
use Rattle.tree.specs.Lending.{sheet_unfit}
use Rattle.tree.specs.Answered.{Answered}
use Rattle.wear.specs.Sums.{sum_where, sum_of}

-- "Each part has an unsigned 32-bit count"
abbrev pub count_at : List ℕ → ℕ → ℕ
count_at counts v = get_or counts v 0

-- the largest count
abbrev pub count_limit : ℕ
count_limit = 4294967295

-- "the sum of counts over all parts it carries"
unfoldable pub total : List ℕ → List ℕ → ℕ → ℕ
total s counts v = sum_where (is_ancestor s v) (count_at counts) (length s)

-- "Fill buffer 10 with 64-bit totals, one per part"
unfoldable pub totals_of : List ℕ → List ℕ → List ℕ
totals_of s counts = tabulate (total s counts) (length s)

-- the lowest buffer that does not fit, of work, counts and totals; 0 where all fit
abbrev pub totals_unfit : List ℕ → List ℕ → List ℕ → List ℕ → ℕ
totals_unfit s work counts totals = sheet_unfit s work (first_unfit (wear_fits (length s) (length counts) (length totals)))

-- the tests of the call, 1 to 7: "This call is lent no tables"
abbrev pub totals_tests : List ℕ → List ℕ → List ℕ → List ℕ → List Test
totals_tests s work counts totals = sheet_tests s (totals_unfit s work counts totals)

abbrev pub totals_verdict : List ℕ → List ℕ → List ℕ → List ℕ → Verdict
totals_verdict s work counts totals = verdict (totals_tests s work counts totals)

-- what the call gives: an accepted one fills every cell, a refused one leaves them as they were
pub record TotalsGive (s before counts totals : List ℕ) (r : Outcome) (totals' after : List ℕ) : Type 0 where
  pub answered : Answered (totals_tests s before counts totals) before r after
  pub cells : totals' ≡ filled (totals_verdict s before counts totals) (totals_of s counts) totals
  -- "The root's total is the sum of the list"
  pub whole : totals_verdict s before counts totals ≡ accepted → get_or totals' (root_of s) 0 ≡ sum_of counts
