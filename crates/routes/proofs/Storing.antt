-- Answers stored one behind the other: the cells after one more.
-- Assumes nothing.
use Prim.Native.Nat.{ℕ, ◌+◌, ◌*◌, ◌<◌}
use native.Mathlib.Nat.{zero-add}
use native.Mathlib.Omega.{arith}
use mathlib.Core.Path.{◌≡◌, sym, ap, ◌∙◌, subst}
use mathlib.Core.List.{List}
use lib.ListN.{length, get_or, set, length-set}
use Rattle.tree.specs.Sections.{Same}
use Rattle.tree.specs.Buffers.{answer_width, answer_cells}
use Rattle.tree.specs.Tables.{Lent}
use Rattle.tree.specs.Branch.{Answer, answer_cell, branch_at, answer_by}
use Rattle.tree.specs.Pairs.{left_of, right_of, pairs, each_answer}
use Rattle.tree.proofs.Differences.{store-either}
use Rattle.tree.proofs.Pairs.{each-row_cell}
use Rattle.routes.specs.Rules.{stored_answer}

-- no cell is lost or added
pub stored-length : (cells : List ℕ) (at : ℕ) (a : Answer) → length (stored_answer cells at a) ≡ length cells
stored-length cells at a = simp length-set

-- a carrier by a rule, stored with its branches, is what the route answers
pub stored-by : (rule : Lent → ℕ → ℕ → ℕ) (t : Lent) (x y : ℕ) (cells : List ℕ) (at c left right : ℕ) → c ≡ rule t x y → left ≡ branch_at t c x → right ≡ branch_at t c y
    → set (set (set cells at c) (at + 1) left) (at + 2) right ≡ stored_answer cells at (answer_by rule t x y)
unfolding answer_by
stored-by rule t x y cells at c left right carrier towards-x towards-y = rw (towards-y, towards-x, carrier)

-- the first k cells of a list, and behind them the three of an answer, which are its next
answer-store : {w b : List ℕ} {k : ℕ} (a : Answer) → k + 2 < length w → Same w 0 b 0 k → ((j : ℕ) → j < answer_width → answer_cell a j ≡ get_or b (k + j) 0)
    → Same (stored_answer w k a) 0 b 0 (k + answer_width)
answer-store {w} {b} {k} a room before is = record {
  cell = λ x h.
      let one = set w k a.carrier in
      let two = set one (k + 1) a.left in
      let long : length one ≡ length w = length-set w k a.carrier in
      let wide : length two ≡ length w = length-set one (k + 1) a.left ∙ long in
      let next : (j : ℕ) → j < answer_width → x ≡ k + j → answer_cell a j ≡ get_or b x 0 = λ j l q. is j l ∙ ap (λ (i : ℕ). get_or b i 0) (sym q) in
      rw zero-add
      (store-either two (k + 2) a.right x (get_or b x 0) (omega arith) (next 2 (omega arith))
      (λ q. store-either one (k + 1) a.left x (get_or b x 0) (omega arith) (next 1 (omega arith))
      (λ r. store-either w k a.carrier x (get_or b x 0) (omega arith) (λ e. next 0 (omega arith) (omega arith))
      (λ e. rw zero-add at (before.cell x (omega arith))))));
}

-- the answers to the pairs before pair i, and that to pair i
pub pair-store : (f : ℕ → ℕ → Answer) (question answer : List ℕ) (i : ℕ) → i < pairs question → length answer ≡ answer_cells (length question)
    → Same answer 0 (each_answer f question) 0 (i * answer_width)
    → Same (stored_answer answer (i * answer_width) (f (left_of question i) (right_of question i))) 0 (each_answer f question) 0 ((i + 1) * answer_width)
pair-store f question answer i h long before =
    let own = f (left_of question i) (right_of question i) in
    let next : i * answer_width + answer_width ≡ (i + 1) * answer_width = omega arith in
    subst (Same (stored_answer answer (i * answer_width) own) 0 (each_answer f question) 0) next
    (answer-store own (omega arith) before (λ j l. sym (each-row_cell (λ x y. answer_cell (f x y)) answer_width question i j h l)))
