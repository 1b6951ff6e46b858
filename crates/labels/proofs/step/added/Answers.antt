-- `labels::step::added` meets its contract: the bit is masked with all bits or with none.
-- Assumes nothing.
use native.Mathlib.Omega.{arith}
use native.Mathlib.Nat.{mod-eq_of_lt}
use mathlib.Core.Path.{◌∙◌}
use borrow.Author.Tests.{eq-eqb, ne_eqb}
use lib.Bits.{and_zero_r, and_mask}
use Rattle.tree.proofs.Scans.{by_equal}
use Rattle.labels.proofs.step.added.Goals as goal

pub returns : goal.returns
returns c =
    let a = c.args in
    let bit = c.lowest_one in
    let mask = c.differ_mask.ensures in
    by_equal a.inlabel a.upper
    (λ e. rw (mask, eq-eqb _ _ e) (and_zero_r bit.result))
    (λ q. rw (mask, ne_eqb _ _ q) (and_mask bit.result 16 ∙ mod-eq_of_lt (omega arith) ∙ bit.ensures))
