-- Laws of `decimal` of `specs/Bytes.antt`: its last digit and the digits before it, and how many there are.
-- Assumes nothing.
use Prim.Native.Nat.{ℕ, zero, suc, ◌+◌, ◌^◌, ◌/◌, ◌%◌, ◌≤◌, ◌<◌}
use native.Mathlib.Nat.{not-suc-le-zero, lt_of_not-le, mod-eq_of_lt}
use native.Mathlib.Omega.{arith}
use native.Mathlib.Decide.{dec_le}
use mathlib.Core.Path.{◌≡◌, ap, ◌∙◌}
use mathlib.Core.List.{List, [], ◌∷◌, ◌++◌}
use borrow.Author.Tests.{lt-ltb, le-ltb}
use lib.ListN.{length, length-append}
use Rattle.text.specs.Bytes.{decimal_in, decimal}

-- one digit, or more
pub by_digits {ℓ} : {X : Type ℓ} (n : ℕ) → (n < 10 → X) → (9 < n → X) → X
by_digits n f g = elim (dec_le 10 n) [ yes h ↦ g h | no h ↦ f (lt_of_not-le h) ]

-- room for more digits than n has changes nothing
enough : (j k n : ℕ) → n < j → n < k → decimal_in j n ≡ decimal_in k n
unfolding decimal_in
enough zero k n a b = absurd (not-suc-le-zero a)
enough (suc j) zero n a b = absurd (not-suc-le-zero b)
enough (suc j) (suc k) n a b =
    let more = enough j k (n / 10) in
    by_digits n
    (λ h. rw (lt-ltb n 10 h))
    (λ h. let same : decimal_in j (n / 10) ≡ decimal_in k (n / 10) = more (omega arith) (omega arith) in rw (le-ltb n 10 h, same))

-- a number below 10 is its digit
pub decimal-small : (n : ℕ) → n < 10 → decimal n ≡ ((48 + n) ∷ [])
unfolding decimal decimal_in
decimal-small n h = rw (lt-ltb n 10 h, mod-eq_of_lt h)

-- any other is the number of tens, and the last digit behind it
pub decimal_step : (n : ℕ) → 9 < n → decimal n ≡ decimal (n / 10) ++ ((48 + n % 10) ∷ [])
unfolding decimal
decimal_step n h = more ∙ ap (λ (l : List ℕ). l ++ ((48 + n % 10) ∷ [])) (enough n (suc (n / 10)) (n / 10) (omega arith) (omega arith))
  where
    more : decimal_in (suc n) n ≡ decimal_in n (n / 10) ++ ((48 + n % 10) ∷ [])
    more = unfold decimal_in in rw (le-ltb n 10 h)

-- a number below 10 ^ (k + 1) has no more than k + 1 digits
pub decimal-length : (k n : ℕ) → n < 10 ^ suc k → length (decimal n) ≤ suc k
decimal-length zero n h = rw (decimal-small n h) (omega arith)
decimal-length (suc k) n h =
    let fewer = decimal-length k (n / 10) in
    by_digits n
    (λ small. rw (decimal-small n small) (omega arith))
    (λ big. let l : length (decimal (n / 10)) ≤ suc k = fewer (omega arith) in rw (decimal_step n big, length-append) (omega arith))

-- each number has a digit
pub decimal-some : (n : ℕ) → 0 < length (decimal n)
decimal-some n =
    by_digits n
    (λ small. rw (decimal-small n small) (omega arith))
    (λ big. rw (decimal_step n big, length-append) (omega arith))
