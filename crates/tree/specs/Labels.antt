-- The label table (documents 000 and 01, "Tables"): six columns of n cells, from the sheet alone.
-- Assumes nothing.
use Rattle.std.specs.Prelude.{ℕ, zero, suc, ◌+◌, ◌-◌, ◌^◌, Bool, cond, List, [], ◌∷◌, ltb, eqb, length, get_or}
use Rattle.std.specs.Int.Bits.{bit_xor}
use Rattle.bits.specs.Bits.{log2, rightmost_zeros, lowest_one, clear_below}
use Rattle.tree.specs.Scan.{rows, numbers_from, keep, best}
use Rattle.tree.specs.Tree.{parent, is_root, level}
use Rattle.tree.specs.Buffers.{no_cell}
use Rattle.tree.specs.Preorder.{preorder_number, size}

-- m has more rightmost zero bits than b
abbrev pub more_zeros : ℕ → ℕ → Bool
more_zeros m b = ltb (rightmost_zeros b) (rightmost_zeros m)

-- of the k numbers from a on, the one with most rightmost zero bits
unfoldable pub most_zeros : ℕ → ℕ → ℕ
most_zeros a k = best more_zeros 0 (numbers_from a k)

-- INLABEL: "the number in PREORDER..PREORDER+SIZE−1 with most rightmost zero bits"
unfoldable pub inlabel : List ℕ → ℕ → ℕ
inlabel s v = most_zeros (preorder_number s v) (size s v)

-- "With i = log((PREORDER−1) xor (PREORDER+SIZE−1)) it is 2^i times the whole part of (PREORDER+SIZE−1)/2^i": the same for the k
-- numbers from a on
unfoldable pub topmost : ℕ → ℕ → ℕ
topmost a k = clear_below (log2 (bit_xor (a - 1) (a + k - 1))) (a + k - 1)

-- ASCENDANT through at most f levels
unfoldable pub ascendant_in : List ℕ → ℕ → ℕ → ℕ
ascendant_in s zero v = 0
ascendant_in s (suc f) v =
    let above = ascendant_in s f (parent s v) in
    let here = cond (eqb (inlabel s v) (inlabel s (parent s v))) above (above + lowest_one (inlabel s v)) in
    cond (is_root s v) (2 ^ log2 (length s)) here

-- "ASCENDANT: 2^l at the root, l = log n. A part whose INLABEL equals its entry's copies the entry's; any other adds the lowest one bit
-- of its own INLABEL"
unfoldable pub ascendant : List ℕ → ℕ → ℕ
ascendant s v = ascendant_in s (length s) v

-- u stands nearer the root than v
abbrev pub nearer_root : List ℕ → ℕ → ℕ → Bool
nearer_root s u v = ltb (level s u) (level s v)

-- HEAD: "the part nearest the root with INLABEL k, or 65535"
unfoldable pub head_node : List ℕ → ℕ → ℕ
head_node s k = best (nearer_root s) no_cell (keep (λ v. eqb (inlabel s v) k) (numbers_from 0 (length s)))

-- the six columns, each a number for cell 0 to n−1. "HEAD, cell k−1 for k from 1 to n"
abbrev pub label_columns : List ℕ → List (ℕ → ℕ)
label_columns s = preorder_number s ∷ size s ∷ level s ∷ inlabel s ∷ ascendant s ∷ (λ i. head_node s (suc i)) ∷ []

-- column k, from 0
abbrev pub label_column : List ℕ → ℕ → ℕ → ℕ
label_column s k = get_or (label_columns s) k (λ _. no_cell)

-- "Label table, 6n cells, six columns of n"
unfoldable pub label_table : List ℕ → List ℕ
label_table s = rows (label_column s) 6 (length s)
