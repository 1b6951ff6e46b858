-- `lines::form::listed` meets its contract: the numbers read so far are in `numbers`.
-- Assumes nothing.
use Rattle.std.proofs.Common.{◌-◌, length}
use Rattle.lines.specs.Forms.{most_listed}
use Rattle.lines.specs.Gives.{numbers_of}
use Rattle.lines.proofs.Listing.{Listing}
use Rattle.lines.proofs.form.listed.Given as goal

-- the bytes behind them are left
abbrev pub invariant-loop-rest : goal.invariant-loop-rest
invariant-loop-rest l = Listing l.bytes most_listed (numbers_of l.numbers) l.rest

-- more can follow
abbrev pub decreases-loop-rest : goal.decreases-loop-rest
decreases-loop-rest l = most_listed - length (numbers_of l.numbers)
