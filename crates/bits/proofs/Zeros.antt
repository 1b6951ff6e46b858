-- The zeros below a number's lowest one bit: a number that is not 0 is an odd number shifted up by them, and in no other way.
-- From that, what is left of a number less its digits in common with its predecessor. Assumes nothing.
use mathlib.Core.Path.{◌≡◌, refl, ap, ◌∙◌}
use Prim.Native.Nat.{ℕ, zero, suc, ◌+◌, ◌-◌, ◌*◌, ◌/◌, ◌%◌, ◌^◌, ◌≤◌, ◌<◌}
use native.Mathlib.Nat.{le_refl, le_of_suc-le-suc, add-zero, suc-mul, one-mul, mul-one, mul-pos, mul_left_comm, pow-succ', min-zero}
use native.Mathlib.Nat.{div-one, div-div-eq-div-mul}
use native.Mathlib.Decide.{ℕ_discrete}
use native.Mathlib.Omega.{arith}
use lib.Arith.{half_le}
use lib.Pow.{pow_pos, ones_lt}
use lib.Bits.{bit_and, and_step, and_self, and_block, shifted_half, shifted_even}
use lib.Count.{count_trailing_zeros}
use Rattle.bits.specs.Bits.{rightmost_zeros}

-- an odd number shifted up by i places has i zeros below, if as many digits are looked at
in-of : (d q i : ℕ) → q % 2 ≡ 1 → q * 2 ^ i ≤ d → count_trailing_zeros d (q * 2 ^ i) ≡ i
unfolding count_trailing_zeros
in-of zero q i o h = let l : 0 < q * 2 ^ i = mul-pos (omega arith) (pow_pos i) in omega arith
in-of (suc d) q zero o h = rw (mul-one, o)
in-of (suc d) q (suc i) o h = rw (shifted_even, shifted_half) (ap suc (in-of d q i o (rw shifted_half at (half_le h))))

-- however many digits are looked at, the number is a multiple of each power up to the zeros found
in-divide : (d n i : ℕ) → i ≤ count_trailing_zeros d n → n / 2 ^ i * 2 ^ i ≡ n
unfolding count_trailing_zeros
in-divide d n zero h = rw (div-one, mul-one)
in-divide zero n (suc i) h = omega arith
in-divide (suc d) n (suc i) h = elim (ℕ_discrete (n % 2) 0) [
  | yes e ↦
      rw (pow-succ', ← div-div-eq-div-mul, mul_left_comm, in-divide d (n / 2) i (le_of_suc-le-suc (rw e at h))) (omega arith)
  | no f ↦ let e : n % 2 ≡ 1 = omega arith in let l : suc i ≤ 0 = rw e at h in omega arith
]

-- the digit above the zeros is a one
in-odd : (d n : ℕ) → 0 < n → n ≤ d → n / 2 ^ count_trailing_zeros d n % 2 ≡ 1
unfolding count_trailing_zeros
in-odd zero n p h = omega arith
in-odd (suc d) n p h = elim (ℕ_discrete (n % 2) 0) [
  | yes e ↦ rw (e, pow-succ', ← div-div-eq-div-mul) (in-odd d (n / 2) (omega arith) (half_le h))
  | no f ↦ let e : n % 2 ≡ 1 = omega arith in rw (e, div-one) e
]

-- an odd number shifted up by i places has i zeros below its lowest one bit
pub zeros_of : (q i : ℕ) → q % 2 ≡ 1 → rightmost_zeros (q * 2 ^ i) ≡ i
unfolding rightmost_zeros
zeros_of q i o = in-of (q * 2 ^ i) q i o (le_refl (q * 2 ^ i))

-- .. so a power of two has as many as its place
pub power-zeros : (i : ℕ) → rightmost_zeros (2 ^ i) ≡ i
power-zeros i = rw one-mul at (zeros_of 1 i refl)

-- a number is a multiple of each power of two up to its zeros
pub zeros-divide : (n i : ℕ) → i ≤ rightmost_zeros n → n / 2 ^ i * 2 ^ i ≡ n
unfolding rightmost_zeros
zeros-divide n = in-divide n n

-- above the zeros stands an odd number
pub zeros-odd : (n : ℕ) → 0 < n → n / 2 ^ rightmost_zeros n % 2 ≡ 1
unfolding rightmost_zeros
zeros-odd n h = in-odd n n h (le_refl n)

-- an even number has all its digits in common with its successor
even-common : (p : ℕ) → p % 2 ≡ 0 → bit_and (suc p) p ≡ p
even-common p e =
    let h : suc p / 2 ≡ p / 2 = omega arith in
    and_step (suc p) p ∙ rw (h, e, and_self, min-zero) (omega arith)

-- an odd number that is shifted up has all digits but its lowest one in common with its predecessor
common : (p i : ℕ) → p % 2 ≡ 0 → bit_and (suc p * 2 ^ i) (suc p * 2 ^ i - 1) ≡ p * 2 ^ i
common p i e =
    let l : suc p * 2 ^ i - 1 ≡ p * 2 ^ i + (2 ^ i - 1) = omega (arith, suc-mul p (2 ^ i), pow_pos i) in
    cc (and_block i (suc p) p 0 (2 ^ i - 1) (pow_pos i) (ones_lt i), even-common p e, add-zero (suc p * 2 ^ i), add-zero (p * 2 ^ i))

-- so a number less those digits is its lowest one bit
pub lowest : (n : ℕ) → 0 < n → n - bit_and n (n - 1) ≡ 2 ^ rightmost_zeros n
lowest n h =
    let z = rightmost_zeros n in
    let p = n / 2 ^ z - 1 in
    let o : n / 2 ^ z % 2 ≡ 1 = zeros-odd n h in
    let q : suc p ≡ n / 2 ^ z = omega arith in
    let e : suc p * 2 ^ z ≡ n = rw q (zeros-divide n z (le_refl z)) in
    let c : bit_and n (n - 1) ≡ p * 2 ^ z = rw e at (common p z (omega arith)) in
    rw c (omega (arith, suc-mul p (2 ^ z)))
