-- `text::write::Writer::decimal` meets its contract: where the branches meet, the digits before the last are written.
-- Assumes nothing.
use Rattle.std.proofs.Common.{ℕ, arith}
use Rattle.text.proofs.Printing.{Begun, room-tens, begun-none, begun-tens, begun-room, begun-end}
use Rattle.text.proofs.write.Writer.+decimal.Goals as goal
use Rattle.text.proofs.write.Writer.+decimal.Goals.{Joined-n-gt9, then-n-gt9, else-n-gt9}

-- there is room for the number of tens, which is the smaller number
pub decimal-requires : goal.decimal-requires
decimal-requires t c = (omega arith, room-tens _ _ c.if-n-gt9.true c.requires)

-- where the branches meet, the digits before the last are written
begun : (t : ℕ) (c : Joined-n-gt9 t) → Begun c.args.self.now c.args.n c.if-n-gt9.self
begun t c = elim c.if-n-gt9.branch [
  | then-n-gt9 w ↦ rw w.self-is (begun-tens _ w.if-n-gt9.true w.decimal.ensures)
  | else-n-gt9 w ↦ rw w.self-is (begun-none _ _ w.if-n-gt9.false c.requires)
]

-- so there is room for the last digit
pub bounds-self-self : goal.bounds-self-self
bounds-self-self t c = begun-room _ _ c.requires (begun t (goal.at.bounds-self-self t c).Joined-n-gt9)

-- whose place is one of the buffer
pub overflow_add-self-2 : goal.overflow_add-self-2
overflow_add-self-2 t c = omega (arith, begun-room _ _ c.requires (begun t (goal.at.overflow_add-self-2 t c).Joined-n-gt9))

-- and with it all are written
pub returns : goal.returns
returns t c =
    let b = begun t (goal.at.returns t c).Joined-n-gt9 in
    record { puts = begun-end _ _ c.requires b; same = b.writes.same }
