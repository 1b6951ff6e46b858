-- The bits below a number's highest one, set by copying it down: over 1 place, then over 2, 4 and 8. A number without its bits below a place.
-- Assumes nothing.
use Prim.Native.Nat.{ℕ, zero, suc, ◌+◌, ◌-◌, ◌/◌, ◌%◌, ◌^◌, max, ◌≤◌, ◌<◌}
use native.Mathlib.Nat.{lt_of_le_of_lt, one-mul, div-le_self, le-div_iff_mul-le, div-lt_iff_lt-mul, max-le, le-max_left, le-max_right, pow-suc, div-add-mod'}
use native.Mathlib.Omega.{arith}
use mathlib.Core.Path.{◌≡◌, ap, ◌∙◌}
use mathlib.Core.Logic.{◌⊎◌, inl, inr, ⊎_elim}
use lib.Bits.{bit_and, bit_or, and_mask, or_step, or_shr, or_lt}
use lib.Pow.{pow_pos, shr-shr}
use Rattle.bits.specs.Bits.{log2_in, log2, clear_below}
use Rattle.bits.proofs.Log.{log2-low, log2-high, log2-le}
use Rattle.bits.proofs.Ones.{One}
use Rattle.tree.proofs.Scans.{by_order, by_equal}

-- a lowest one bit of either is one of both together
or-digit : (a b : ℕ) → (a % 2 ≡ 1) ⊎ (b % 2 ≡ 1) → bit_or a b % 2 ≡ 1
or-digit a b k =
    let step = or_step a b in
    let most : max (a % 2) (b % 2) ≤ 1 = max-le (omega arith) (omega arith) in
    let left = le-max_left (a % 2) (b % 2) in
    let right = le-max_right (a % 2) (b % 2) in
    ⊎_elim (λ e. omega arith) (λ e. omega arith) k

-- .. and so is a one bit at any place
or-one : (a b j : ℕ) → One a j ⊎ One b j → One (bit_or a b) j
or-one a b j k = rw (or_shr a b j) (or-digit (a / 2 ^ j) (b / 2 ^ j) k)

-- the highest one bit of y is at place t, and those of the w places down from there are all one
record Smeared (t w y : ℕ) : Type 0 where
  below : y < 2 ^ suc t
  ones : (j : ℕ) → j ≤ t → t < j + w → One y j

-- the highest alone
smeared-start : (x : ℕ) → 0 < x → Smeared (log2 x) 1 x
smeared-start x h = record {
  below = log2-high x;
  ones = λ j b e.
      let t = log2 x in
      let same : j ≡ t = omega arith in
      let double = pow-suc 2 t in
      let high = log2-high x in
      let some : 1 ≤ x / 2 ^ t = (le-div_iff_mul-le (pow_pos t)).1 (rw one-mul (log2-low x h)) in
      let less : x / 2 ^ t < 2 = (div-lt_iff_lt-mul (pow_pos t)).1 (omega arith) in
      let one : x / 2 ^ t ≡ 1 = omega arith in
      rw (same, one);
}

-- copied down over w places, twice as many
smeared-step : {t w y : ℕ} → Smeared t w y → Smeared t (w + w) (bit_or y (y / 2 ^ w))
smeared-step {t} {w} {y} m = record {
  below = or_lt (suc t) y (y / 2 ^ w) m.below (lt_of_le_of_lt (div-le_self y (2 ^ w)) m.below);
  ones = λ j b e.
      or-one y (y / 2 ^ w) j
      (by_order (j + w) t (λ far. inr (rw (shr-shr y w j) (m.ones (w + j) (omega arith) (omega arith)))) (λ near. inl (m.ones j b near)));
}

-- all of them
all_ones : (t y : ℕ) → y < 2 ^ t → ((j : ℕ) → j < t → One y j) → y ≡ 2 ^ t - 1
all_ones zero y h ones = omega arith
all_ones (suc t) y h ones =
    let double = pow-suc 2 t in
    let rest : y / 2 ≡ 2 ^ t - 1 = all_ones t (y / 2) (omega arith) (λ j b. ap (λ (m : ℕ). m % 2) (shr-shr y 1 j) ∙ ones (1 + j) (omega arith)) in
    let first : y % 2 ≡ 1 = let one = ones 0 (omega arith) in omega arith in
    let pos = pow_pos t in
    omega arith

-- after four times, of a number of 16 places
pub smeared : (x : ℕ) → x < 65536 → let two = bit_or x (x / 2) in let four = bit_or two (two / 4) in let eight = bit_or four (four / 16) in
    bit_or eight (eight / 256) / 2 ≡ 2 ^ log2 x - 1
unfolding log2 log2_in
smeared x h =
    by_equal x 0 (λ e. rw e)
    (λ q.
    let t = log2 x in
    let m = smeared-step (smeared-step (smeared-step (smeared-step (smeared-start x (omega arith))))) in
    let most = log2-le x 15 h in
    let all = all_ones (suc t) _ m.below (λ j b. m.ones j (omega arith) (omega arith)) in
    let double = pow-suc 2 t in
    let pos = pow_pos t in
    omega arith)

-- a number less its bits below a place
pub cleared : (i n : ℕ) → n - bit_and n (2 ^ i - 1) ≡ clear_below i n
unfolding clear_below
cleared i n = rw (and_mask n i) (let e = div-add-mod' n (2 ^ i) in omega arith)
