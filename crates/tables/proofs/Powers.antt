-- Rows of powers of two: which row a loop is at whose power doubles, and that it ends behind the last.
-- Assumes nothing.
use Prim.Native.Nat.{ℕ, suc, ◌+◌, ◌*◌, ◌^◌, ◌≤◌, ◌<◌, zero-le}
use native.Mathlib.Nat.{zero-mul, suc-mul, mul_comm, pow-suc, pow-zero, le_trans, le_antisymm, mul-le-mul_right}
use native.Mathlib.Omega.{arith}
use mathlib.Core.Path.{◌≡◌, sym, ap}
use lib.Pow.{pow_pos, pow_mono}
use Rattle.bits.specs.Bits.{log2}
use Rattle.bits.proofs.Log.{log2-low, log2-high}
use Rattle.tree.proofs.Scans.{by_order}

-- the row of power half begins at `at`, where rows 0 to log m of some width stand end to end from base on
pub record Row (base width m at half : ℕ) : Type 0 where
  pub row : ℕ
  pub most : row ≤ log2 m
  pub begins : at ≡ base + row * width
  pub blocks : half ≡ 2 ^ row

pub row-start : (base width m : ℕ) → Row base width m base 1
row-start base width m = record { row = 0; most = zero-le; begins = sym (rw (zero-mul width) (omega arith)); blocks = sym (pow-zero 2) }

-- the power is not 0
pub row-pos : {base width m at half : ℕ} → Row base width m at half → 0 < half
row-pos r = rw r.blocks (pow_pos r.row)

module _ {base width m at half : ℕ} (some : 0 < m) (r : Row base width m at half) where
  -- the power is no greater than m
  pub row_small : half ≤ m
  row_small = rw r.blocks (le_trans (pow_mono r.most) (log2-low m some))

  double : 2 * half ≡ 2 ^ suc r.row
  double = rw (r.blocks, pow-suc) (mul_comm 2 (2 ^ r.row))

  -- where the next power is no greater either, there is a next row
  pub row-not-last : 2 * half ≤ m → r.row < log2 m
  row-not-last h =
      by_order (log2 m) r.row
      (λ b. let up : 2 ^ suc (log2 m) ≤ 2 ^ suc r.row = pow_mono (omega arith) in let e = double in let high = log2-high m in absurd (omega arith))
      (λ b. b)

  pub row_next : 2 * half ≤ m → Row base width m (at + width) (2 * half)
  row_next h =
      let e = r.begins in
      let one : suc r.row * width ≡ r.row * width + width = suc-mul r.row width in
      record { row = suc r.row; most = row-not-last h; begins = omega arith; blocks = double }

  -- every row ends no later than the last
  pub row_fits : at + width ≤ base + suc (log2 m) * width
  row_fits =
      let e = r.begins in
      let one : suc r.row * width ≡ r.row * width + width = suc-mul r.row width in
      let most : suc r.row * width ≤ suc (log2 m) * width = mul-le-mul_right width (omega (arith, r.most)) in
      omega arith

  -- where the next power is greater, this row is the last
  pub row_last : m < 2 * half → at + width ≡ base + suc (log2 m) * width
  row_last h =
      let e = r.begins in
      let last : r.row ≡ log2 m =
      by_order (log2 m) r.row (λ b. le_antisymm r.most b)
      (λ b. let up : 2 ^ suc r.row ≤ 2 ^ log2 m = pow_mono b in let d = double in let low = log2-low m some in absurd (omega arith)) in
      let one : suc r.row * width ≡ r.row * width + width = suc-mul r.row width in
      let all : suc r.row * width ≡ suc (log2 m) * width = ap (λ (k : ℕ). suc k * width) last in
      omega arith
