-- The lent buffers (document 01, "Numbers on the operator's screen", and document 02): their numbers, their exact lengths, and what a call leaves in them.
-- n is the number of parts. Assumes nothing.
use Rattle.std.specs.Prelude.{ℕ, ◌+◌, ◌-◌, ◌*◌, ◌%◌, ◌/◌, Bool, cond, List, [], ◌∷◌, leb, ltb, eqb, length, replicate}
use Rattle.bits.specs.Bits.{log2}
use Rattle.tree.specs.Verdict.{Verdict, accepted, refused}
-- a lent buffer's number, and whether the buffer has its exact length
pub use Rattle.tree.specs.declared.fit.Fit.{Fit}

-- "Every cell is an unsigned 16-bit number; 65535 means no cell"
abbrev pub no_cell : ℕ
no_cell = 65535

-- ---- exact lengths, in cells

-- label: six columns of n
abbrev pub label_cells : ℕ → ℕ
label_cells n = 6 * n

-- the tour's visits
abbrev pub visits : ℕ → ℕ
visits n = 2 * n - 1

-- tour: E, R and rows 0 to t, t = log(2n−1)
abbrev pub tour_cells : ℕ → ℕ
tour_cells n = visits n * (log2 (visits n) + 2) + n

-- lift: rows 0 to l, l = log n
abbrev pub lift_cells : ℕ → ℕ
lift_cells n = n * (log2 n + 1)

-- order: a cell for each part
abbrev pub order_cells : ℕ → ℕ
order_cells n = n

-- work
abbrev pub work_cells : ℕ → ℕ
work_cells n = 4 * n

-- trail: 32 rows of two cells
abbrev pub trail_cells : ℕ
trail_cells = 64

-- a pair's answer: "Answer cells are three per pair from now on: carrier, x's branch, y's branch"
abbrev pub answer_width : ℕ
answer_width = 3

-- the answer to the pairs of a question of so many cells
abbrev pub answer_cells : ℕ → ℕ
answer_cells question = question / 2 * answer_width

-- counts, and the totals of them: a cell for each part
abbrev pub count_cells : ℕ → ℕ
count_cells n = n

abbrev pub total_cells : ℕ → ℕ
total_cells n = n

-- ---- fit

-- the buffer of this number is to have `want` cells, and has `cells`
abbrev pub exact_fit : ℕ → ℕ → ℕ → Fit
exact_fit buffer want cells = record { buffer = buffer; fits = eqb cells want }

-- 1 label, 2 tour, 3 lift, of a sheet of n parts
abbrev pub label_fit : ℕ → ℕ → Fit
label_fit n = exact_fit 1 (label_cells n)

abbrev pub tour_fit : ℕ → ℕ → Fit
tour_fit n = exact_fit 2 (tour_cells n)

abbrev pub lift_fit : ℕ → ℕ → Fit
lift_fit n = exact_fit 3 (lift_cells n)

-- 4 work, of the length that the call wants
abbrev pub work_fit : ℕ → ℕ → Fit
work_fit want = exact_fit 4 want

-- 5 question: "an even count for pairs; exactly two cells for a trail; free for a list"
abbrev pub pairs_question_fit : ℕ → Fit
pairs_question_fit cells = record { buffer = 5; fits = eqb (cells % 2) 0 }

abbrev pub trail_question_fit : ℕ → Fit
trail_question_fit = exact_fit 5 2

-- 6 answer: "three per pair .. a trail or list keeps its one cell"
abbrev pub pairs_answer_fit : ℕ → ℕ → Fit
pairs_answer_fit question = exact_fit 6 (answer_cells question)

abbrev pub answer_fit : ℕ → Fit
answer_fit = exact_fit 6 1

-- 7 trail
abbrev pub trail_fit : ℕ → Fit
trail_fit = exact_fit 7 trail_cells

-- 8 order, of a sheet of n parts: "Misfit calls the new table buffer 8"
abbrev pub order_fit : ℕ → ℕ → Fit
order_fit n = exact_fit 8 (order_cells n)

-- 9 counts, of 32 bits each, and 10 totals, of 64, of a sheet of n parts: "Both buffers have n cells"
abbrev pub counts_fit : ℕ → ℕ → Fit
counts_fit n = exact_fit 9 (count_cells n)

abbrev pub totals_fit : ℕ → ℕ → Fit
totals_fit n = exact_fit 10 (total_cells n)

-- the first of the lent buffers, listed by rising number, that does not fit; 0 where all fit
unfoldable pub first_unfit : List Fit → ℕ
first_unfit [] = 0
first_unfit (b ∷ bs) = cond b.fits (first_unfit bs) b.buffer

-- of two lists' first the lower number, whichever list it is of; 0 where neither has one
abbrev pub lower_unfit : ℕ → ℕ → ℕ
lower_unfit a b = cond (eqb b 0) a (cond (eqb a 0) b (cond (ltb b a) b a))

-- ---- what a call is lent, by its lengths: each buffer in rising number

-- a sheet without tables: work, of the length that the call wants
abbrev pub sheet_fits : ℕ → ℕ → List Fit
sheet_fits want work = work_fit want work ∷ []

-- a sheet of n parts with its tables, and work
abbrev pub tables_fits : (n label tour lift order want work : ℕ) → List Fit
tables_fits n label tour lift order want work =
    label_fit n label ∷ tour_fit n tour ∷ lift_fit n lift ∷ work_fit want work ∷ order_fit n order ∷ []

-- a question of pairs
abbrev pub pairs_fits : ℕ → ℕ → List Fit
pairs_fits question answer = pairs_question_fit question ∷ pairs_answer_fit question answer ∷ []

-- a pair that is traced
abbrev pub trail_fits : ℕ → ℕ → ℕ → List Fit
trail_fits question answer rows = trail_question_fit question ∷ answer_fit answer ∷ trail_fit rows ∷ []

-- a list of parts
abbrev pub list_fits : ℕ → List Fit
list_fits answer = answer_fit answer ∷ []

-- counts and totals of a sheet of n parts
abbrev pub wear_fits : ℕ → ℕ → ℕ → List Fit
wear_fits n counts totals = counts_fit n counts ∷ totals_fit n totals ∷ []

-- ---- afterwards

-- "Work is all zero after a call, except that refusals 1 to 3 leave it unchanged"
unfoldable pub work_after : Verdict → List ℕ → List ℕ
work_after accepted work = replicate (length work) 0
work_after (refused number place) work = cond (leb number 3) work (replicate (length work) 0)

-- "No refusal alters another buffer, and an accepted call alters only work and what it was lent to fill": a buffer lent to be
-- filled, which an accepted call fills with `own`; in the same way a number that an accepted call gives
unfoldable pub filled {ℓ} : {A : Type ℓ} → Verdict → A → A → A
filled accepted own before = own
filled (refused number place) own before = before
