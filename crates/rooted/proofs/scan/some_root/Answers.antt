-- `rooted::scan::some_root` meets its contract: while none is found, no part passed names itself.
-- Assumes nothing.
use native.Mathlib.Omega.{arith}
use mathlib.Core.Bool.{true≢false}
use mathlib.Core.Path.{sym, ◌∙◌}
use borrow.Author.Count.{below_more}
use Rattle.rooted.proofs.scan.some_root.Goals as goal
use Rattle.rooted.proofs.scan.some_root.Goals.{then-parents-v, else-parents-v}

pub loop-v-init : goal.loop-v-init
loop-v-init c = λ _ j b h. absurd (omega arith)

pub loop-v-preserved : goal.loop-v-preserved
loop-v-preserved c = λ z.
    elim c.if-parents-v.branch [
      | then-parents-v w ↦ absurd (true≢false (sym w.found-is ∙ z))
      | else-parents-v w ↦ below_more _ _ (c.loop-v.invariant (sym w.found-is ∙ z))
          (λ _. w.if-parents-v.false)
    ]

pub returns : goal.returns
returns c = λ z j b. c.loop-v.invariant z j (omega arith)
