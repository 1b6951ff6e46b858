-- What a call is lent, and the tests that follow from it: of the lengths, the sheet, its tables and the question. A call's own buffers are known here by one
-- number, `further`: the lowest of them that does not fit, or 0.
-- Assumes nothing.
use Rattle.std.specs.Prelude.{ℕ, List, length}
use Rattle.tree.specs.Verdict.{Verdict}
use Rattle.tree.specs.Buffers.{work_cells, sheet_fits, tables_fits, first_unfit, lower_unfit}
use Rattle.tree.specs.Tables.{Lent}
use Rattle.tree.specs.Tests.{verdict, lent_tests, asked_tests, part_tests}

-- the lowest buffer that does not fit, of work, four cells for each part, and the call's own; 0 where all fit
abbrev pub sheet_unfit : List ℕ → List ℕ → ℕ → ℕ
sheet_unfit s work further = lower_unfit (first_unfit (sheet_fits (work_cells (length s)) (length work))) further

-- the same of the tables, work and the call's own
abbrev pub unfit_of : Lent → List ℕ → ℕ → ℕ
unfit_of t work further =
    let n = length t.parents in
    lower_unfit
    (first_unfit (tables_fits n (length t.label) (length t.tour) (length t.lift) (length t.order) (work_cells n) (length work)))
    further

-- the verdict of tests 1 to 8, where the tables are lent to be read
abbrev pub lent_verdict : Lent → List ℕ → ℕ → Verdict
lent_verdict t work further = verdict (lent_tests t (unfit_of t work further))

-- the verdict of tests 1 to 11 of a call that answers a question
abbrev pub asked_verdict : Lent → List ℕ → List ℕ → ℕ → Verdict
asked_verdict t work question further = verdict (asked_tests t (unfit_of t work further) question)

-- the verdict of tests 1 to 8 and 10 of a call that names one part, and is lent no buffer of its own
abbrev pub part_verdict : Lent → List ℕ → ℕ → Verdict
part_verdict t work part = verdict (part_tests t (unfit_of t work 0) part)
