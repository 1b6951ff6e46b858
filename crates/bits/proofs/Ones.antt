-- One bits: where a number's lowest and highest stand, how many there are, what two numbers have in common, and above which place they agree.
-- Assumes nothing.
use mathlib.Core.Path.{◌≡◌, sym, ap, ◌∙◌, subst}
use mathlib.Core.Logic.{◌≢◌}
use Prim.Native.Nat.{ℕ, suc, ◌+◌, ◌-◌, ◌*◌, ◌/◌, ◌%◌, ◌^◌, min, max, ◌≤◌, ◌<◌, suc-le-suc}
use native.Mathlib.Nat.{le_refl, le_antisymm, lt_of_lt_of_le, one-mul, mul_assoc, pow-suc, pow-succ', pos_of_ne-zero, zero-mul, mul-pos, zero-div}
use native.Mathlib.Nat.{div-div-eq-div-mul, div-eq_of_lt, div-lt_iff_lt-mul}
use native.Mathlib.Decide.{dec_le}
use native.Mathlib.Omega.{arith}
use lib.Bits.{bit_and, bit_or, bit_xor, and_step, and_shr, and_le_l, and_le_r, or_step, or_zero_r, or_lt, or_add_and, xor_add_and, xor_shr, xor_self}
use lib.Count.{ones, ones_cat, ones-ones}
use lib.Dec.{lit<}
use lib.Pow.{pow_pos, pow_mono, pow-lt, pow-add, shl_exact, shl-shr, shr_lt, shr-shr, high, low}
use borrow.Author.Tests.{ne_eqb}
use Rattle.bits.specs.Bits.{log2, rightmost_zeros, lowest_one, clear_below, bits_below}
use Rattle.bits.proofs.Log.{log2-high, log2-unique, log2-le, log2-mono}
use Rattle.bits.proofs.Zeros.{zeros_of, zeros-divide, zeros-odd}

-- a one shifted up to place i, of w places: nothing is shifted out
pub one_shifted : (w i : ℕ) → i < w → 1 * 2 ^ i % 2 ^ w ≡ 2 ^ i
one_shifted w i h = shl_exact 1 i w (lit< tt) (omega arith) ∙ one-mul (2 ^ i)

-- n has a one bit at place b
abbrev pub One : ℕ → ℕ → Type 0
One n b = n / 2 ^ b % 2 ≡ 1

-- ---- the digits from a place on

-- numbers that agree from place i on agree from each later place on
pub shift_same : (x y i j : ℕ) → i ≤ j → x / 2 ^ i ≡ y / 2 ^ i → x / 2 ^ j ≡ y / 2 ^ j
shift_same x y i j h e = shifted x ∙ ap (λ (m : ℕ). m / 2 ^ (j - i)) e ∙ sym (shifted y)
  where
    shifted : (n : ℕ) → n / 2 ^ j ≡ n / 2 ^ i / 2 ^ (j - i)
    shifted n = let split : j ≡ i + (j - i) = omega arith in ap (λ (k : ℕ). n / 2 ^ k) split ∙ sym (shr-shr n i (j - i))

-- one place more is one halving more
pub shift_suc : (n i : ℕ) → n / 2 ^ suc i ≡ n / 2 ^ i / 2
shift_suc n i = rw (pow-suc, div-div-eq-div-mul)

-- ---- the lowest one bit

twice : (w i : ℕ) → w * 2 ^ suc i ≡ w * 2 * 2 ^ i
twice w i = rw (pow-succ', mul_assoc)

pub lowest-power : (m : ℕ) → 0 < m → lowest_one m ≡ 2 ^ rightmost_zeros m
unfolding lowest_one
lowest-power m h = let some : m ≢ 0 = omega arith in rw (ne_eqb m 0 some)

-- its place
pub lowest-place : (m : ℕ) → 0 < m → log2 (lowest_one m) ≡ rightmost_zeros m
lowest-place m h = let z = rightmost_zeros m in rw (lowest-power m h) (log2-unique (2 ^ z) z (le_refl (2 ^ z)) (pow-lt (le_refl (suc z))))

-- no digit below it is a one
pub below-lowest : (n b : ℕ) → b < rightmost_zeros n → n / 2 ^ b % 2 ≡ 0
below-lowest n b h =
    let w = n / 2 ^ suc b in
    let whole : n ≡ w * 2 * 2 ^ b = sym (zeros-divide n (suc b) h) ∙ twice w b in
    let digits : n / 2 ^ b ≡ w * 2 = ap (λ (m : ℕ). m / 2 ^ b) whole ∙ shl-shr (w * 2) b in
    omega arith

-- a number other than 0 that is shifted up by i places has its lowest one bit at place i or above
pub shifted-zeros : (p i : ℕ) → 0 < p → i ≤ rightmost_zeros (p * 2 ^ i)
shifted-zeros p i h =
    let z = rightmost_zeros p in
    let q = p / 2 ^ z in
    let whole : q * 2 ^ (z + i) ≡ p * 2 ^ i = rw (pow-add, ← mul_assoc, zeros-divide p z (le_refl z)) in
    let zeros : rightmost_zeros (p * 2 ^ i) ≡ z + i = ap rightmost_zeros (sym whole) ∙ zeros_of q (z + i) (zeros-odd p h) in
    omega arith

-- a number is its digits above the lowest one bit, and that bit
pub above-lowest : (m : ℕ) → 0 < m → m / 2 ^ suc (rightmost_zeros m) * 2 ^ suc (rightmost_zeros m) + 2 ^ rightmost_zeros m ≡ m
above-lowest m h =
    let z = rightmost_zeros m in
    let w = m / 2 ^ z in
    let odd : w % 2 ≡ 1 = zeros-odd m h in
    let split : w ≡ w / 2 * 2 + 1 = omega arith in
    let whole : w * 2 ^ z ≡ m = zeros-divide m z (le_refl z) in
    let parts : w * 2 ^ z ≡ (w / 2 * 2 + 1) * 2 ^ z = ap (λ (k : ℕ). k * 2 ^ z) split in
    rw (shift_suc m z, pow-succ') (omega arith)

-- the digits above place i, and a one bit there
pub one-above : (x i : ℕ) → bit_or (x / 2 ^ i) 1 * 2 ^ i ≡ x / 2 ^ suc i * 2 ^ suc i + 2 ^ i
one-above x i =
    let w = x / 2 ^ i in
    let odd : bit_or w 1 ≡ w / 2 * 2 + 1 = omega (arith, or_step w 1, or_zero_r (w / 2)) in
    rw (odd, shift_suc x i, pow-succ') (omega arith)

-- .. are of w digits, as x was
pub one-above-fits : (w x i : ℕ) → i < w → x < 2 ^ w → bit_or (x / 2 ^ i) 1 * 2 ^ i % 2 ^ w ≡ bit_or (x / 2 ^ i) 1 * 2 ^ i
one-above-fits w x i b h =
    let whole : w ≡ w - i + i = omega arith in
    let some : 0 < w - i = omega arith in
    shl_exact (w - i) i w (or_lt (w - i) (x / 2 ^ i) 1 (shr_lt (w - i) i (subst (λ (n : ℕ). x < 2 ^ n) whole h)) (pow-lt some)) (omega arith)

-- a one bit added below the lowest: it is the lowest then
pub added-zeros : (n i : ℕ) → i < rightmost_zeros n → rightmost_zeros (n + 2 ^ i) ≡ i
added-zeros n i h =
    let w = n / 2 ^ suc i in
    let whole : w * 2 ^ suc i ≡ n = zeros-divide n (suc i) h in
    let odd : (w * 2 + 1) * 2 ^ i ≡ n + 2 ^ i = omega (arith, twice w i) in
    ap rightmost_zeros (sym odd) ∙ zeros_of (w * 2 + 1) i (omega arith)

-- .. and the digits above it are as they were
pub added-above : (n i : ℕ) → i < rightmost_zeros n → (n + 2 ^ i) / 2 ^ suc i ≡ n / 2 ^ suc i
added-above n i h =
    let w = n / 2 ^ suc i in
    let whole : n ≡ w * 2 ^ suc i = sym (zeros-divide n (suc i) h) in
    ap (λ (m : ℕ). (m + 2 ^ i) / 2 ^ suc i) whole ∙ high w (suc i) (pow-lt (le_refl (suc i)))

-- ---- the highest one bit below a place

-- where a multiple of 2^k, a one bit at place i below k and what is below place i are added up, it is at place i
pub highest-below : (q k i r : ℕ) → i < k → r < 2 ^ i → log2 (bits_below k (q * 2 ^ k + (2 ^ i + r))) ≡ i
unfolding bits_below
highest-below q k i r h b =
    let next : 2 ^ i + r < 2 ^ suc i = omega (arith, pow-suc 2 i) in
    rw (low q k (lt_of_lt_of_le next (pow_mono h))) (log2-unique (2 ^ i + r) i (omega arith) next)

-- ---- the count of ones

-- a number whose top bit is at place k has one more one bit than what is left without it
pub ones-top : (k n : ℕ) → 2 ^ k ≤ n → n < 2 ^ suc k → ones n ≡ suc (ones (n - 2 ^ k))
ones-top k n l h =
    let low : n - 2 ^ k < 2 ^ k = omega arith in
    let whole : 1 * 2 ^ k + (n - 2 ^ k) ≡ n = omega arith in
    omega (arith, ap ones whole, ones_cat k 1 (n - 2 ^ k) low, ones-ones 1)

-- ---- two numbers

-- numbers that differ in no bit are equal
pub xor-zero : (x y : ℕ) → bit_xor x y ≡ 0 → x ≡ y
xor-zero x y e = omega (arith, xor_add_and x y, and_le_l x y, and_le_r x y)

-- above the highest bit in which they differ two numbers agree
pub agree-above : (x y b : ℕ) → log2 (bit_xor x y) ≤ b → x / 2 ^ suc b ≡ y / 2 ^ suc b
agree-above x y b h =
    let below : bit_xor x y < 2 ^ suc b = lt_of_lt_of_le (log2-high (bit_xor x y)) (pow_mono (suc-le-suc h)) in
    xor-zero (x / 2 ^ suc b) (y / 2 ^ suc b) (sym (xor_shr x y (suc b)) ∙ div-eq_of_lt below)

-- .. and where they agree above a place that bit is not above it
pub differ-below : (x y j : ℕ) → x / 2 ^ suc j ≡ y / 2 ^ suc j → log2 (bit_xor x y) ≤ j
differ-below x y j e =
    let p = 2 ^ suc j in
    let none : bit_xor x y / p ≡ 0 = xor_shr x y (suc j) ∙ ap (bit_xor (x / p)) (sym e) ∙ xor_self (x / p) in
    let small : bit_xor x y / p < 1 = omega arith in
    log2-le (bit_xor x y) j (rw one-mul at ((div-lt_iff_lt-mul (pow_pos (suc j))).0 small))

-- the highest one bit of the bits of two numbers together is the higher of theirs
pub log2-or : (a b : ℕ) → log2 (bit_or a b) ≡ max (log2 a) (log2 b)
log2-or a b =
    let m = max (log2 a) (log2 b) in
    let sum = or_add_and a b in
    let left = and_le_l a b in
    let right = and_le_r a b in
    let within : (n : ℕ) → log2 n ≤ m → n < 2 ^ suc m = λ n h. lt_of_lt_of_le (log2-high n) (pow_mono (suc-le-suc h)) in
    let most : log2 (bit_or a b) ≤ m = log2-le (bit_or a b) m (or_lt (suc m) a b (within a (omega arith)) (within b (omega arith))) in
    omega (arith, log2-mono a (bit_or a b) (omega arith), log2-mono b (bit_or a b) (omega arith))

-- a digit of two numbers' common bits is the lesser of theirs
common-digit : (a b j : ℕ) → bit_and a b / 2 ^ j % 2 ≡ min (a / 2 ^ j % 2) (b / 2 ^ j % 2)
common-digit a b j =
    let p = a / 2 ^ j in
    let q = b / 2 ^ j in
    let step = and_step p q in
    let lesser : bit_and p q % 2 ≡ min (p % 2) (q % 2) = omega arith in
    ap (λ (m : ℕ). m % 2) (and_shr a b j) ∙ lesser

-- the lowest one bit at place i or above that two numbers have in common is at place j, if both have one there and at no place between
pub lowest-common : (a b i j : ℕ) → i ≤ j → One a j → One b j → ((k : ℕ) → i ≤ k → k < j → One a k → One b k → ⊥)
    → log2 (lowest_one (clear_below i (bit_and a b))) ≡ j
unfolding clear_below
lowest-common a b i j h p q free =
    let n = bit_and a b in
    let w = n / 2 ^ i in
    let m = w * 2 ^ i in
    let z = rightmost_zeros m in
    let kept : (k : ℕ) → i ≤ k → m / 2 ^ k ≡ n / 2 ^ k = λ k l. shift_same m n i k l (shl-shr w i) in
    let digit : (k : ℕ) → i ≤ k → m / 2 ^ k % 2 ≡ min (a / 2 ^ k % 2) (b / 2 ^ k % 2) = λ k l.
    ap (λ (r : ℕ). r % 2) (kept k l) ∙ common-digit a b k in
    let here = digit j h in
    let one : One m j = omega arith in
    let some : 0 < w =
    pos_of_ne-zero (λ e. let none : m / 2 ^ j ≡ 0 = ap (λ (r : ℕ). r * 2 ^ i / 2 ^ j) e ∙ rw (zero-mul, zero-div) in omega arith) in
    let pos : 0 < m = mul-pos some (pow_pos i) in
    let from : i ≤ z = shifted-zeros w i some in
    let most : z ≤ j = elim (dec_le z j) [ yes l ↦ l | no l ↦ let zero = below-lowest m j (omega arith) in absurd (omega arith) ] in
    let least : j ≤ z = elim (dec_le j z) [
      | yes l ↦ l
      | no l ↦
          let odd : One m z = zeros-odd m pos in
          let both = digit z from in
          absurd (free z from (omega arith) (omega arith) (omega arith))
    ] in
    lowest-place m pos ∙ le_antisymm most least
