-- `log2`, by what it is: 2 ^ log2 n is the greatest power of two that is at most n.
-- Assumes nothing.
use mathlib.Core.Path.{◌≡◌}
use Prim.Native.Nat.{ℕ, zero, suc, ◌/◌, ◌^◌, ◌≤◌, ◌<◌, zero-le}
use native.Mathlib.Nat.{le_refl, le_antisymm, lt_of_le_of_lt, lt_of_lt_of_le, zero-lt-suc, pow-suc}
use native.Mathlib.Decide.{dec_le}
use native.Mathlib.Omega.{arith}
use lib.Arith.{half_le}
use lib.Pow.{pow_pos, pow_mono}
use borrow.Author.Tests.{lt-ltb, le-ltb}
use Rattle.bits.specs.Bits.{log2_in, log2}

-- however few halvings are made, the power is at most n
in-low : (d n : ℕ) → 0 < n → 2 ^ log2_in d n ≤ n
unfolding log2_in
in-low zero n h = h
in-low (suc d) n h = elim (dec_le 2 n) [
  | yes p ↦ rw (le-ltb n 2 p, pow-suc) (let i : 2 ^ log2_in d (n / 2) ≤ n / 2 = in-low d (n / 2) (omega arith) in omega arith)
  | no q ↦ let l : n < 2 = omega arith in rw (lt-ltb n 2 l) h
]

-- where n halvings or more are made, the next power is above n
in-high : (d n : ℕ) → n ≤ d → n < 2 ^ suc (log2_in d n)
unfolding log2_in
in-high zero n h = omega arith
in-high (suc d) n h = elim (dec_le 2 n) [
  | yes p ↦ rw (le-ltb n 2 p, pow-suc) (let i : n / 2 < 2 ^ suc (log2_in d (n / 2)) = in-high d (n / 2) (half_le h) in omega arith)
  | no q ↦ let l : n < 2 = omega arith in rw (lt-ltb n 2 l) l
]

-- the power of two at log2 n is at most n
pub log2-low : (n : ℕ) → 0 < n → 2 ^ log2 n ≤ n
unfolding log2
log2-low n = in-low n n

-- the next power of two is above n
pub log2-high : (n : ℕ) → n < 2 ^ suc (log2 n)
unfolding log2
log2-high n = in-high n n (le_refl n)

-- of two places, the one whose power n reaches is at most the one whose next power n does not reach
place-le : (n i j : ℕ) → 2 ^ i ≤ n → n < 2 ^ suc j → i ≤ j
place-le n i j l h = elim (dec_le i j) [
  | yes p ↦ p
  | no q ↦ let m : 2 ^ suc j ≤ 2 ^ i = pow_mono (omega arith) in omega arith
]

-- no other place has both
pub log2-unique : (n i : ℕ) → 2 ^ i ≤ n → n < 2 ^ suc i → log2 n ≡ i
log2-unique n i l h =
    le_antisymm (place-le n (log2 n) i (log2-low n (lt_of_lt_of_le (pow_pos i) l)) h) (place-le n i (log2 n) l (log2-high n))

-- a number of at most j + 1 digits has its highest one bit at place j or below
pub log2-le : (n j : ℕ) → n < 2 ^ suc j → log2 n ≤ j
unfolding log2 log2_in
log2-le zero j h = zero-le
log2-le (suc n) j h = place-le (suc n) (log2 (suc n)) j (log2-low (suc n) (zero-lt-suc n)) h

-- a greater number has it no lower
pub log2-mono : (m n : ℕ) → m ≤ n → log2 m ≤ log2 n
log2-mono m n h = log2-le m (log2 n) (lt_of_le_of_lt h (log2-high n))
