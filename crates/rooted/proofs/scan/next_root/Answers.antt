-- `rooted::scan::next_root` meets its contract: no part passed names itself.
-- Assumes nothing.
use Prim.Native.Nat.{◌≤◌}
use native.Mathlib.Omega.{arith}
use borrow.Author.Count.{below_more}
use borrow.Author.Rules.{rules}
use mathlib.Core.Path.{◌≡◌}
use lib.ListN.{length}
use Rattle.tree.proofs.Places.{next_root-place}
use Rattle.rooted.proofs.scan.next_root.Goals as goal

pub loop-v-init : goal.loop-v-init
loop-v-init c = (search rules, search rules, λ j h b. absurd (omega arith))

pub returns-then-parents-v : goal.returns-then-parents-v
returns-then-parents-v c =
    let l = c.loop-v.invariant in
    next_root-place _ _ _ c.requires l.0 l.1 l.2 (λ _. c.if-parents-v.true)

pub loop-v-preserved : goal.loop-v-preserved
loop-v-preserved c =
    let l = c.loop-v.invariant in
    (search rules, search rules, λ j h b. below_more (λ i. _ ≤ i → _) _ (λ i m g. l.2 i g m) (λ _. c.if-parents-v.false) j b h)

pub returns : goal.returns
returns c =
    let l = c.loop-v in
    let e : l.v ≡ length c.args.parents.now = omega arith in
    rw e at (next_root-place _ _ _ c.requires l.invariant.0 l.invariant.1 l.invariant.2 (λ h. absurd (omega arith)))
