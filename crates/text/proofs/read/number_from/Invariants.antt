-- `text::read::number_from` meets its contract: the digits that were read make v, and the others are read from there on.
-- Assumes nothing.
use Rattle.std.proofs.Common.{◌≡◌, length}
use Rattle.text.specs.Fields.{number_from}
use Rattle.text.proofs.read.number_from.Given as goal

-- what the bytes that are left make behind v is what all make behind `first`
abbrev pub invariant-loop-rest : goal.invariant-loop-rest
invariant-loop-rest l = number_from l.v l.rest ≡ number_from l.first l.bytes

-- the bytes that are left
abbrev pub decreases-loop-rest : goal.decreases-loop-rest
decreases-loop-rest l = length l.rest
