-- Lists of values, and rows of values end to end: their lengths and cells.
-- Assumes nothing.
use Prim.Native.Nat.{ℕ, zero, suc, ◌+◌, ◌*◌, ◌<◌}
use native.Mathlib.Nat.{not-suc-le-zero, le_of_suc-le-suc, add-zero, zero-mul, zero-add, suc-mul, suc-add, add-suc}
use native.Mathlib.Omega.{arith}
use mathlib.Core.Path.{◌≡◌, sym, ap, ◌∙◌}
use mathlib.Core.List.{List, flatten}
use lib.ListN.{length, get_or, length-append, get_or-append}
use lib.Seq.{get_or-append-add}
use Rattle.tree.specs.Scan.{tabulate_from, tabulate, rows}
use Rattle.tree.proofs.Scans.{length-tabulate-from}

-- ---- lists of values

-- a list of n values has n cells
pub length-tabulate {ℓ} : {A : Type ℓ} (f : ℕ → A) (n : ℕ) → length (tabulate f n) ≡ n
unfolding tabulate
length-tabulate f n = length-tabulate-from f 0 n

cell-tabulate_from : (f : ℕ → ℕ) (i k x : ℕ) → x < k → get_or (tabulate_from f i k) x 0 ≡ f (i + x)
unfolding tabulate_from
cell-tabulate_from f i zero x h = absurd (not-suc-le-zero h)
cell-tabulate_from f i (suc k) zero h = ap f (sym (add-zero i))
cell-tabulate_from f i (suc k) (suc x) h = cell-tabulate_from f (suc i) k x (le_of_suc-le-suc h) ∙ ap f (omega arith)

-- cell i of a list of values is the value at i
pub cell-tabulate : (f : ℕ → ℕ) (n i : ℕ) → i < n → get_or (tabulate f n) i 0 ≡ f i
unfolding tabulate
cell-tabulate f n i h = cell-tabulate_from f 0 n i h ∙ ap f (zero-add i)

-- ---- rows end to end

-- the k rows from row i on
rows_from : (ℕ → ℕ → ℕ) → ℕ → ℕ → ℕ → List ℕ
rows_from f w i k = flatten (tabulate_from (λ j. tabulate (f j) w) i k)

length-rows-from : (f : ℕ → ℕ → ℕ) (w i k : ℕ) → length (rows_from f w i k) ≡ k * w
unfolding rows_from tabulate_from flatten
length-rows-from f w i zero = sym (zero-mul w)
length-rows-from f w i (suc k) =
    let first : length (tabulate (f i) w) ≡ w = length-tabulate (f i) w in
    let later : length (rows_from f w (suc i) k) ≡ k * w = length-rows-from f w (suc i) k in
    length-append (tabulate (f i) w) (rows_from f w (suc i) k) ∙ omega (arith, suc-mul k w)

-- k rows of w cells have k * w cells
pub length-rows : (f : ℕ → ℕ → ℕ) (k w : ℕ) → length (rows f k w) ≡ k * w
unfolding rows tabulate rows_from
length-rows f k w = length-rows-from f w 0 k

cell-rows-from : (f : ℕ → ℕ → ℕ) (w i k j x : ℕ) → j < k → x < w → get_or (rows_from f w i k) (j * w + x) 0 ≡ f (i + j) x
unfolding rows_from tabulate_from flatten
cell-rows-from f w i zero j x h b = absurd (not-suc-le-zero h)
cell-rows-from f w i (suc k) zero x h b =
    let first : length (tabulate (f i) w) ≡ w = length-tabulate (f i) w in
    let here : x < length (tabulate (f i) w) = omega arith in
    rw (zero-mul, zero-add, add-zero, get_or-append (tabulate (f i) w) (rows_from f w (suc i) k) 0 x here) (cell-tabulate (f i) w x b)
cell-rows-from f w i (suc k) (suc j) x h b =
    let first : length (tabulate (f i) w) ≡ w = length-tabulate (f i) w in
    let at : suc j * w + x ≡ length (tabulate (f i) w) + (j * w + x) = omega (arith, suc-mul j w) in
    rw (at, get_or-append-add, cell-rows-from f w (suc i) k j x (le_of_suc-le-suc h) b, add-suc, suc-add)

-- cell i of row j is the value at j and i
pub cell-rows : (f : ℕ → ℕ → ℕ) (k w j i : ℕ) → j < k → i < w → get_or (rows f k w) (j * w + i) 0 ≡ f j i
unfolding rows tabulate rows_from
cell-rows f k w j i h b = rw zero-add at (cell-rows-from f w 0 k j i h b)
