-- What demand 3 is about: calls that are lent an accepted sheet's own tables and buffers that fit, and asked of its parts.
-- Assumes nothing.
use Rattle.std.specs.Prelude.{ℕ, ◌<◌, ◌≡◌, List, length}
use Rattle.tree.specs.Lca.{Parts}
use Rattle.tree.specs.Buffers.{work_cells}
use Rattle.tree.specs.Tables.{own}
use Rattle.routes.specs.Answers.{Asked}

-- one or more parts of the sheet s are listed
pub record Some (s xs : List ℕ) : Type 0 where
  pub listed : 0 < length xs
  pub parts : Parts s xs

-- a call is lent the sheet s "with its own tables and buffers that fit", and asked this question; the answer has so many cells
pub record Lends (s question : List ℕ) (cells : ℕ) (a : Asked) : Type 0 where
  pub tables : a.lent ≡ own s
  pub work-fits : length a.work ≡ work_cells (length s)
  pub asks : a.question ≡ question
  pub answer-fits : length a.answer ≡ cells
