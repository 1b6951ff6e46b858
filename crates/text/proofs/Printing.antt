-- A number as `decimal` writes it: first the digits before the last, of which there may be none, and then the last.
-- Assumes nothing.
use Prim.Native.Nat.{ℕ, ◌+◌, ◌/◌, ◌%◌, ◌≤◌, ◌<◌}
use native.Mathlib.Nat.{mod-eq_of_lt}
use native.Mathlib.Omega.{arith}
use mathlib.Core.Path.{◌≡◌, refl}
use mathlib.Core.List.{List, [], ◌∷◌, ◌++◌}
use lib.ListN.{length, set}
use Rattle.text.specs.Bytes.{decimal}
use Rattle.text.specs.Puts.{Puts}
use Rattle.text.specs.Writes.{HasRoom, Writes}
use Rattle.text.specs.declared.write.Writer.{Writer}
use Rattle.text.proofs.Decimals.{decimal-small, decimal_step}
use Rattle.text.proofs.Putting.{puts_none, puts_one, puts_then, room-first, room-then}

-- the digits of n before the last were written by `a`, and the last goes where `b` stands
pub record Begun (a : Writer) (n : ℕ) (b : Writer) : Type 0 where
  pub digits : List ℕ
  pub split : decimal n ≡ digits ++ ((48 + n % 10) ∷ [])
  pub writes : Writes a digits b

-- where there is room for a number, there is for the number of tens
pub room-tens : {long : ℕ} (at n : ℕ) → 9 < n → at + length (decimal n) ≤ long → at + length (decimal (n / 10)) ≤ long
room-tens at n h r = room-first at (decimal (n / 10)) _ (rw (decimal_step n h) at r)

-- one digit has none before it
pub begun-none : (a : Writer) (n : ℕ) → n ≤ 9 → HasRoom a (decimal n) → Begun a n a
begun-none a n h r =
    let small : n < 10 = omega arith in
    let last : n % 10 ≡ n = mod-eq_of_lt small in
    record { digits = []; split = rw last (decimal-small n small); writes = record { puts = puts_none (omega arith); same = refl } }

-- any others are those of the number of tens
pub begun-tens : {a b : Writer} (n : ℕ) → 9 < n → Writes a (decimal (n / 10)) b → Begun a n b
begun-tens n h w = record { digits = decimal (n / 10); split = decimal_step n h; writes = w }

module _ (a b : Writer) {n : ℕ} (r : HasRoom a (decimal n)) (d : Begun a n b) where
  room-last : HasRoom a (d.digits ++ ((48 + n % 10) ∷ []))
  room-last = rw d.split at r

  -- there is room for the last
  pub begun-room : b.at < length b.out.now
  begun-room = omega (arith, room-then _ ((48 + n % 10) ∷ []) room-last d.writes.puts)

  -- and with it all are written
  pub begun-end : Puts a.out.now a.at (decimal n) (set b.out.now b.at (48 + n % 10)) (b.at + 1)
  begun-end = rw d.split (puts_then _ _ room-last d.writes.puts (puts_one _ begun-room))
