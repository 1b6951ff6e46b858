-- Numbers as rows of binary digits: the definitions that the contracts of this crate cite.
-- Xor, and and the count of ones are the toolchain's own: `bit_xor` and `bit_and` of `lib.Bits`, `ones` of `lib.Count`.
-- Assumes nothing.
use Rattle.std.specs.Prelude.{ℕ, zero, suc, ◌*◌, ◌/◌, ◌%◌, ◌^◌, ◌<◌, ◌≡◌, cond, ltb, eqb}
use Rattle.std.specs.Int.Count.{count_trailing_zeros}

-- log2 of n with at most d halvings
unfoldable pub log2_in : ℕ → ℕ → ℕ
log2_in zero n = 0
log2_in (suc d) n = let more = suc (log2_in d (n / 2)) in cond (ltb n 2) 0 more

-- log n to base 2, rounded down: the place of n's highest one bit. It is 0 for 0. Fewer than n halvings bring n to 1
unfoldable pub log2 : ℕ → ℕ
log2 n = log2_in n n

-- how many zero bits stand right of n's lowest one bit. n has no more than n digits
unfoldable pub rightmost_zeros : ℕ → ℕ
rightmost_zeros n = count_trailing_zeros n n

-- n's lowest one bit, as a number; 0 has none, and gives 0
unfoldable pub lowest_one : ℕ → ℕ
lowest_one n = cond (eqb n 0) 0 (2 ^ rightmost_zeros n)

-- x with the bits below place i cleared: 2^i times the whole part of x / 2^i
unfoldable pub clear_below : ℕ → ℕ → ℕ
clear_below i x = x / 2 ^ i * 2 ^ i

-- the bits of x below place i
unfoldable pub bits_below : ℕ → ℕ → ℕ
bits_below i x = x % 2 ^ i

-- what a function returns is a definition's value, and below a bound
pub record IsBelow (value bound r : ℕ) : Type 0 where
  pub is : r ≡ value
  pub below : r < bound
