-- HEAD: where a node is stored.
-- Assumes nothing.
use Rattle.std.specs.Prelude.{ℕ, ◌+◌, ◌-◌, cond, eqb}

-- the cell of work for a node of INLABEL k whose parent's is upper: that of HEAD k in the n cells from n on; cell 0 where the node is no head
abbrev pub head_place : ℕ → ℕ → ℕ → ℕ
head_place n k upper = cond (eqb k upper) 0 (n - 1 + k)
