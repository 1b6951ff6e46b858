-- `text::write::Writer::decimal` ends: the measure is the number that is written, and a call writes the number of tens.
-- Assumes nothing.
use Rattle.text.proofs.write.Writer.+decimal.Given as goal

-- the number that is written
abbrev pub decreases-decimal : goal.decreases-decimal
decreases-decimal l = l.n
