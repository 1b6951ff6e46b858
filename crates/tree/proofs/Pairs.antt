-- What is given for each pair of a question: how many cells there are, and which is which.
-- Assumes nothing.
use Prim.Native.Nat.{ℕ, ◌+◌, ◌*◌, ◌/◌, ◌%◌, ◌<◌}
use native.Mathlib.Omega.{arith}
use mathlib.Core.Path.{◌≡◌, sym, ap, ◌∙◌}
use mathlib.Core.List.{List}
use lib.ListN.{length, get_or}
use lib.Seq.{ext_get_or}
use Rattle.tree.specs.Buffers.{answer_width}
use Rattle.tree.specs.Branch.{Answer, answer_cell}
use Rattle.tree.specs.Nodes.{Pair, Listed}
use Rattle.tree.specs.Pairs.{left_of, right_of, pairs, each_pair_row, each_answer, answer_at}
use Rattle.tree.proofs.Rows.{length-rows, cell-rows}

-- a pair of a question of parts is two parts
pub question-pair : {s question : List ℕ} → Listed s question → (i : ℕ) → 2 * i + 1 < length question → Pair s (left_of question i) (right_of question i)
question-pair listed i h = record { small = listed.small; left = listed.part _ (omega arith); right = listed.part _ h }

-- w cells for each pair
pub each-row-length : (f : ℕ → ℕ → ℕ → ℕ) (w : ℕ) (question : List ℕ) → length (each_pair_row f w question) ≡ pairs question * w
unfolding each_pair_row
each-row-length f w question = length-rows _ (pairs question) w

pub each-row_cell : (f : ℕ → ℕ → ℕ → ℕ) (w : ℕ) (question : List ℕ) (i k : ℕ) → i < pairs question → k < w
    → get_or (each_pair_row f w question) (i * w + k) 0 ≡ f (left_of question i) (right_of question i) k
unfolding each_pair_row
each-row_cell f w question i k h b = cell-rows _ (pairs question) w i k h b

-- ---- answers, of three cells each

-- pair i's cells are its answer
pub answer_at_lem : (f : ℕ → ℕ → Answer) (question : List ℕ) (i : ℕ) → i < pairs question
    → answer_at (each_answer f question) i ≡ f (left_of question i) (right_of question i)
answer_at_lem f question i h =
    let cell : (k : ℕ) → k < answer_width → get_or (each_answer f question) (i * answer_width + k) 0 ≡ answer_cell (f (left_of question i) (right_of question i)) k =
    λ k b. each-row_cell (λ x y. answer_cell (f x y)) answer_width question i k h b in
    rw (cell 0 (omega arith), cell 1 (omega arith), cell 2 (omega arith))

-- the same answer to each pair is the same cells
pub answers-same : (f g : ℕ → ℕ → Answer) (question : List ℕ)
    → ((i : ℕ) → i < pairs question → f (left_of question i) (right_of question i) ≡ g (left_of question i) (right_of question i))
    → each_answer f question ≡ each_answer g question
answers-same f g question same =
    let row : (ℕ → ℕ → Answer) → ℕ → ℕ → ℕ → ℕ = λ a x y. answer_cell (a x y) in
    let long = each-row-length (row f) answer_width question in
    ext_get_or 0 _ _ (long ∙ sym (each-row-length (row g) answer_width question))
    (λ j h.
    let i = j / answer_width in
    let k = j % answer_width in
    let at : j ≡ i * answer_width + k = omega arith in
    let inside : i < pairs question = omega arith in
    let few : k < answer_width = omega arith in
    rw at
    (each-row_cell (row f) answer_width question i k inside few
    ∙ ap (λ (a : Answer). answer_cell a k) (same i inside)
    ∙ sym (each-row_cell (row g) answer_width question i k inside few)))
