-- `labels::step::differ_mask` meets its contract: no bit differs, or the difference is above 0.
-- Assumes nothing.
use Prim.Native.Nat.{ℕ, ◌+◌, ◌*◌, ◌/◌, ◌%◌, ◌<◌}
use native.Mathlib.Nat.{mod-eq_of_lt}
use native.Mathlib.Omega.{arith}
use mathlib.Core.Path.{◌≡◌, sym, ◌∙◌}
use mathlib.Core.Logic.{◌≢◌}
use borrow.Author.Tests.{eq-eqb, ne_eqb}
use lib.Bits.{xor_self}
use Rattle.bits.proofs.Ones.{xor-zero}
use Rattle.tree.proofs.Scans.{by_equal}
use Rattle.labels.proofs.step.differ_mask.Goals as goal

-- a one that is shifted up by 16 places is not shifted out of 32
not-lost : (x : ℕ) → x < 65536 → (x + 65535) / 65536 * 65536 % 4294967296 ≡ (x + 65535) / 65536 * 65536
not-lost x h = mod-eq_of_lt (omega arith)

pub returns : goal.returns
returns c =
    let is = c.xor.ensures in
    let kept = not-lost c.xor.result (omega arith) in
    by_equal c.args.a c.args.b
    (λ e. let none : c.xor.result ≡ 0 = rw e at is ∙ xor_self c.args.b in rw (kept, eq-eqb _ _ e) (omega arith))
    (λ q. let some : c.xor.result ≢ 0 = λ z. q (xor-zero _ _ (sym is ∙ z)) in rw (kept, ne_eqb _ _ q) (omega arith))
