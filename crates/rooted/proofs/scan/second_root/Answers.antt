-- `rooted::scan::second_root` meets its contract: no part after the root names itself, or the next is looked for.
-- Assumes nothing.
use native.Mathlib.Nat.{le_refl}
use native.Mathlib.Numerals.{add-one}
use native.Mathlib.Omega.{arith}
use Rattle.tree.proofs.Places.{next_root-place}
use Rattle.rooted.proofs.scan.second_root.Goals as goal

pub returns-then-some_root : goal.returns-then-some_root
returns-then-some_root c = rw (← add-one) c.next_root.ensures

pub returns : goal.returns
returns c =
    let root = c.requires.0 in
    next_root-place _ _ _ root root (le_refl _) (λ v h b. c.some_root.ensures c.if-some_root.false v b (rw add-one h)) (λ h. absurd (omega arith))
