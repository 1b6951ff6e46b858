-- `tables::test_sizes` meets its contract: each answer is that of the first of the three tests that fails.
-- Assumes nothing.
use native.Mathlib.Nat.{pos_of_ne-zero}
use mathlib.Core.Path.{sym}
use Rattle.tree.proofs.Answers.{refused-empty, refused-too_large, refused-wrong_length, accepted-sizes}
use Rattle.tables.proofs.test_sizes.Goals as goal

pub returns-then-n-eq0 : goal.returns-then-n-eq0
returns-then-n-eq0 c = sym (refused-empty _ _ c.if-n-eq0.true)

pub returns-then-n-gt-LIMIT : goal.returns-then-n-gt-LIMIT
returns-then-n-gt-LIMIT c = sym (refused-too_large _ _ (pos_of_ne-zero c.if-n-eq0.false) c.if-n-gt-LIMIT.true)

pub returns-then-unfit-ne0 : goal.returns-then-unfit-ne0
returns-then-unfit-ne0 c = sym (refused-wrong_length _ _ (pos_of_ne-zero c.if-n-eq0.false) c.if-n-gt-LIMIT.false c.if-unfit-ne0.true)

pub returns : goal.returns
returns c = sym (accepted-sizes _ _ (pos_of_ne-zero c.if-n-eq0.false) c.if-n-gt-LIMIT.false c.if-unfit-ne0.false)
