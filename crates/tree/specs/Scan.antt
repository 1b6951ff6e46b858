-- Searching, counting and listing: the small recursions that the definitions of this crate are made of.
-- Each computes. A branch that is not taken stands behind a `let`, so that it is not computed.
-- Assumes nothing.
use Rattle.std.specs.Prelude.{ℕ, zero, suc, ◌+◌, Bool, true, cond, ◌&&◌, eqb, length, get_or}
use mathlib.Core.List.{List, [], ◌∷◌, flatten}

-- the least number for which p holds, of the k numbers from i on; where there is none, the number after them
unfoldable pub least_from : (ℕ → Bool) → ℕ → ℕ → ℕ
least_from p i zero = i
least_from p i (suc k) = let later = least_from p (suc i) k in cond (p i) i later

-- the least number below n for which p holds; where there is none, n
unfoldable pub least : (ℕ → Bool) → ℕ → ℕ
least p n = least_from p 0 n

-- how many numbers below n there are for which p holds
unfoldable pub count_below : (ℕ → Bool) → ℕ → ℕ
count_below p zero = 0
count_below p (suc n) = count_below p n + cond (p n) 1 0

-- f i, f (i + 1) and so on: k of them
unfoldable pub tabulate_from {ℓ} : {A : Type ℓ} → (ℕ → A) → ℕ → ℕ → List A
tabulate_from f i zero = []
tabulate_from f i (suc k) = f i ∷ tabulate_from f (suc i) k

-- f 0, .., f (n - 1)
unfoldable pub tabulate {ℓ} : {A : Type ℓ} → (ℕ → A) → ℕ → List A
tabulate f n = tabulate_from f 0 n

-- the rows f 0, .., f (k - 1) of w cells each, end to end
unfoldable pub rows : (ℕ → ℕ → ℕ) → ℕ → ℕ → List ℕ
rows f k w = flatten (tabulate (λ j. tabulate (f j) w) k)

-- the k numbers from i on
unfoldable pub numbers_from : ℕ → ℕ → List ℕ
numbers_from i k = tabulate_from (λ j. j) i k

-- those members of a list for which p holds, in the list's order
unfoldable pub keep : (ℕ → Bool) → List ℕ → List ℕ
keep p [] = []
keep p (x ∷ xs) = let rest = keep p xs in cond (p x) (x ∷ rest) rest

-- p holds for each member of a list
unfoldable pub every : (ℕ → Bool) → List ℕ → Bool
every p [] = true
every p (x ∷ xs) = p x && every p xs

-- b, or the first member of a list that is better than all before it and b, and than which none is better
unfoldable pub best_from : (ℕ → ℕ → Bool) → ℕ → List ℕ → ℕ
best_from better b [] = b
best_from better b (x ∷ xs) = best_from better (cond (better x b) x b) xs

-- the first member of a list than which no other is better; d for the empty list
unfoldable pub best : (ℕ → ℕ → Bool) → ℕ → List ℕ → ℕ
best better d [] = d
best better d (x ∷ xs) = best_from better x xs

-- the first position at which v stands in a list; the list's length where it does not
unfoldable pub position : List ℕ → ℕ → ℕ
position l v = least (λ i. eqb (get_or l i 0) v) (length l)
