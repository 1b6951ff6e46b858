-- A question of pairs, and what is given for each pair: some cells, of which its answer has three.
-- Assumes nothing.
use Rattle.std.specs.Prelude.{ℕ, ◌+◌, ◌*◌, ◌/◌, List, [], ◌∷◌, length, get_or}
use Rattle.tree.specs.Scan.{rows}
use Rattle.tree.specs.Buffers.{answer_width}
use Rattle.tree.specs.Branch.{Answer, answer_cell}

-- pair i of a question: x is its cell 2i and y its cell 2i + 1
abbrev pub left_of : List ℕ → ℕ → ℕ
left_of question i = get_or question (2 * i) 0

abbrev pub right_of : List ℕ → ℕ → ℕ
right_of question i = get_or question (2 * i + 1) 0

abbrev pub pair_at : List ℕ → ℕ → List ℕ
pair_at question i = left_of question i ∷ right_of question i ∷ []

-- the number of pairs
abbrev pub pairs : List ℕ → ℕ
pairs question = length question / 2

-- the w cells f 0, .., f (w - 1) of each pair, end to end in the question's order
unfoldable pub each_pair_row : (ℕ → ℕ → ℕ → ℕ) → ℕ → List ℕ → List ℕ
each_pair_row f w question = rows (λ i. f (left_of question i) (right_of question i)) (pairs question) w

-- the cells of each pair's answer
abbrev pub each_answer : (ℕ → ℕ → Answer) → List ℕ → List ℕ
each_answer f = each_pair_row (λ x y. answer_cell (f x y)) answer_width

-- the answer that stands in pair i's cells
abbrev pub answer_at : List ℕ → ℕ → Answer
answer_at cells i =
    let at = i * answer_width in
    record { carrier = get_or cells (at + 0) 0; left = get_or cells (at + 1) 0; right = get_or cells (at + 2) 0 }
