-- Sums: over the numbers below n for which a test holds, and over a list.
-- Assumes nothing.
use Rattle.std.specs.Prelude.{ℕ, zero, suc, ◌+◌, Bool, cond, List, [], ◌∷◌}

-- the sum of f over the numbers below n for which p holds
unfoldable pub sum_where : (ℕ → Bool) → (ℕ → ℕ) → ℕ → ℕ
sum_where p f zero = 0
sum_where p f (suc n) = sum_where p f n + cond (p n) (f n) 0

-- the sum of f over the members of a list
unfoldable pub sum_over : (ℕ → ℕ) → List ℕ → ℕ
sum_over f [] = 0
sum_over f (x ∷ xs) = f x + sum_over f xs

-- "the sum of the list"
abbrev pub sum_of : List ℕ → ℕ
sum_of = sum_over (λ x. x)
