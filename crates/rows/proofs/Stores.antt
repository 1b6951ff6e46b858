-- The room of a table's rows.
-- Assumes nothing.
use Prim.Native.Nat.{ℕ, ◌*◌, ◌≤◌}
use native.Mathlib.Nat.{mul_comm, mul-le-mul_right}

-- k rows of m cells fit where there are l
pub rows_fit : (k l m : ℕ) → k ≤ l → k * m ≤ m * l
rows_fit k l m h = rw (mul_comm m l) (mul-le-mul_right m h)
