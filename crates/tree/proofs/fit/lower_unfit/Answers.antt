-- `tree::fit::lower_unfit` meets its contract, case by case.
-- Assumes nothing.
use Prim.Native.Nat.{ℕ, min}
use native.Mathlib.Nat.{le_of_lt}
use mathlib.Core.Path.{◌≡◌, sym, ◌∙◌}
use mathlib.Core.Logic.{◌≢◌}
use borrow.Author.Tests.{eq-eqb, ne_eqb, lt-ltb, le-ltb}
use Rattle.std.proofs.Math.Nat.{min-eq_left, min-eq_right}
use Rattle.tree.proofs.Scans.{by_order}
use Rattle.tree.specs.Buffers.{lower_unfit}
use Rattle.tree.proofs.fit.lower_unfit.Goals as goal

-- of two numbers that are not 0 the lower is the one that `min` gives
lower_min : (a b : ℕ) → b ≢ 0 → a ≢ 0 → min a b ≡ lower_unfit a b
lower_min a b q p =
    by_order a b
    (λ h. min-eq_left h ∙ sym (rw (ne_eqb b 0 q, ne_eqb a 0 p, le-ltb b a h)))
    (λ h. min-eq_right (le_of_lt h) ∙ sym (rw (ne_eqb b 0 q, ne_eqb a 0 p, lt-ltb b a h)))

pub returns-then-b-eq0 : goal.returns-then-b-eq0
returns-then-b-eq0 c = rw (eq-eqb _ _ c.if-b-eq0.true)

pub returns-then-a-eq0 : goal.returns-then-a-eq0
returns-then-a-eq0 c = rw (ne_eqb _ _ c.if-b-eq0.false, eq-eqb _ _ c.if-a-eq0.true)

pub returns : goal.returns
returns c = c.min.ensures ∙ lower_min _ _ c.if-b-eq0.false c.if-a-eq0.false
