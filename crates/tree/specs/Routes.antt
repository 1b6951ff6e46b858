-- The rules of the label and the tour route (document 01, "Tables"; 000, section 4; 001): what each answers for a pair, over its
-- table's cells, LEVEL and, for 000's father, the sheet's entries. No rule knows the carrier.
-- On cells that are no sheet's own a rule has the value that it computes, with 0 for what is read past a table's end.
-- Assumes nothing.
use Rattle.std.specs.Prelude.{ℕ, suc, ◌+◌, ◌-◌, ◌*◌, ◌^◌, min, max, cond, List, leb, eqb, length, get_or}
use Rattle.std.specs.Int.Bits.{bit_and, bit_xor}
use Rattle.bits.specs.Bits.{log2, lowest_one, clear_below, bits_below}
use Rattle.tree.specs.Tree.{parent}
use Rattle.tree.specs.Buffers.{visits}
use Rattle.tree.specs.Tables.{Lent}

-- cell i of row k of a table of rows of w cells, the first of which begins at `from`
abbrev pub cell : List ℕ → ℕ → ℕ → ℕ → ℕ → ℕ
cell table from w k i = get_or table (from + (k * w + i)) 0

-- the number of parts
abbrev pub parts : Lent → ℕ
parts t = length t.parents

-- ---- the label table's columns

-- PREORDER
abbrev pub number_at : Lent → ℕ → ℕ
number_at t v = cell t.label 0 (parts t) 0 v

abbrev pub level_at : Lent → ℕ → ℕ
level_at t v = cell t.label 0 (parts t) 2 v

abbrev pub inlabel_at : Lent → ℕ → ℕ
inlabel_at t v = cell t.label 0 (parts t) 3 v

abbrev pub ascendant_at : Lent → ℕ → ℕ
ascendant_at t v = cell t.label 0 (parts t) 4 v

-- HEAD's cell k − 1
abbrev pub head_at : Lent → ℕ → ℕ
head_at t k = cell t.label 0 (parts t) 5 (k - 1)

-- ---- by labels

-- the part of lesser LEVEL; x at equal LEVELs
abbrev pub nearer : Lent → ℕ → ℕ → ℕ
nearer t x y = cond (leb (level_at t x) (level_at t y)) x y

-- 000's step 1: i is the greatest of the places of the lowest ones of both INLABELs and of the highest bit in which they differ
unfoldable pub step1 : ℕ → ℕ → ℕ
step1 ix iy = max (max (log2 (lowest_one ix)) (log2 (lowest_one iy))) (log2 (bit_xor ix iy))

-- 000's step 2: j is the place of the lowest one that both ASCENDANTs have at or above place i
unfoldable pub step2 : ℕ → ℕ → ℕ → ℕ
step2 i ax ay = log2 (lowest_one (clear_below i (bit_and ax ay)))

-- the INLABEL with the bits of ix above place j, a one there and zeros below it
unfoldable pub label_above : ℕ → ℕ → ℕ
label_above j ix = clear_below (suc j) ix + 2 ^ j

-- 000's step 3: the lowest part at or above x whose INLABEL is iz. Where x's own is another, k is the place of the highest one of
-- ASCENDANT(x) below place j, and the part is the father of the HEAD of the INLABEL that k gives
unfoldable pub step3 : Lent → ℕ → ℕ → ℕ → ℕ
step3 t j iz x =
    let k = log2 (bits_below j (ascendant_at t x)) in
    let above = parent t.parents (head_at t (label_above k (inlabel_at t x))) in
    cond (eqb (inlabel_at t x) iz) x above

-- "With equal INLABELs a label answer is the part of lesser LEVEL; otherwise it follows steps 1 to 4 of 000"
unfoldable pub by_labels : Lent → ℕ → ℕ → ℕ
by_labels t x y =
    let i = step1 (inlabel_at t x) (inlabel_at t y) in
    let j = step2 i (ascendant_at t x) (ascendant_at t y) in
    let iz = label_above j (inlabel_at t x) in
    let steps = nearer t (step3 t j iz x) (step3 t j iz y) in
    cond (eqb (inlabel_at t x) (inlabel_at t y)) (nearer t x y) steps

-- ---- by tour

-- the tour table's E, R and rows
abbrev pub visit_at : Lent → ℕ → ℕ
visit_at t p = get_or t.tour p 0

abbrev pub first_at : Lent → ℕ → ℕ
first_at t v = get_or t.tour (visits (parts t) + v) 0

abbrev pub sparse_at : Lent → ℕ → ℕ → ℕ
sparse_at t j i = cell t.tour (visits (parts t) + parts t) (visits (parts t)) j i

-- "two blocks of length 2^k, k = log(j−i+1), over first positions i ≤ j: one begins at i, the other ends at j"
abbrev pub block_log : ℕ → ℕ → ℕ
block_log i j = log2 (j - i + 1)

abbrev pub last_block : ℕ → ℕ → ℕ
last_block i j = j + 1 - 2 ^ block_log i j

-- "Of the two positions that their cells give, the answer is the part visited at the one of lesser LEVEL, the left one at equal LEVELs"
abbrev pub by_blocks : Lent → ℕ → ℕ → ℕ
by_blocks t i j = nearer t (visit_at t (sparse_at t (block_log i j) i)) (visit_at t (sparse_at t (block_log i j) (last_block i j)))

-- "A tour answer takes" them over the first positions of both parts
unfoldable pub by_tour : Lent → ℕ → ℕ → ℕ
by_tour t x y = by_blocks t (min (first_at t x) (first_at t y)) (max (first_at t x) (first_at t y))
