-- The cells of the tour and lift tables of the most parts that the program takes.
-- Assumes nothing.
use Prim.Native.Nat.{ℕ, ◌+◌, ◌≤◌}
use native.Mathlib.Nat.{mul-le-mul}
use native.Mathlib.Omega.{arith}
use Rattle.bits.specs.Bits.{log2}
use Rattle.bits.proofs.Log.{log2-le}
use Rattle.tree.specs.Buffers.{visits, tour_cells, lift_cells}
use Rattle.lines.specs.Machine.{most}

-- 1,023 visits, in 11 rows, and a cell for each part
pub tour-small : (n : ℕ) → n ≤ most → tour_cells n ≤ 11765
tour-small n h =
    let few : visits n ≤ 1023 = omega arith in
    let rows : log2 (visits n) ≤ 9 = log2-le (visits n) 9 (omega arith) in
    let high : log2 (visits n) + 2 ≤ 11 = omega arith in
    omega (arith, mul-le-mul few high)

-- 512 parts, in 10 rows
pub lift-small : (n : ℕ) → n ≤ most → lift_cells n ≤ 5120
lift-small n h =
    let rows : log2 n ≤ 9 = log2-le n 9 (omega arith) in
    let high : log2 n + 1 ≤ 10 = omega arith in
    omega (arith, mul-le-mul h high)
