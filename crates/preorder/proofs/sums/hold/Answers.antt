-- `preorder::sums::hold` meets its contract: the sums go over the nodes below the root and over those above it.
-- Assumes nothing.
use native.Mathlib.Omega.{arith}
use borrow.Author.Tests.{eqb-true}
use Prim.Native.Nat.{ℕ, ◌+◌, zero-le}
use native.Mathlib.Nat.{zero-add}
use native.Mathlib.Numerals.{add-one}
use mathlib.Core.Path.{◌≡◌, sym, ◌∙◌}
use mathlib.Core.Bool.{true, false≢true}
use mathlib.Core.List.{List}
use lib.ListN.{length, get_or}
use Rattle.tree.proofs.Columns.{ready-kept}
use Rattle.preorder.specs.Sums.{Sums, Numbered}
use Rattle.preorder.proofs.Summing.{sums_none, sums-root, numbers-own}
use Rattle.preorder.proofs.Parents.{the-root}
use Rattle.preorder.proofs.sums.hold.Goals as goal
use Rattle.preorder.proofs.sums.hold.Goals.{Joined-label-root-eq1, Joined-add, then-label-root-eq1, else-label-root-eq1, then-add, else-add}

pub offset_bounds-label-root : goal.offset_bounds-label-root
offset_bounds-label-root c = let r = the-root c.requires.0.tree c.requires.1 in omega (arith, r.node)

pub bounds-label-root : goal.bounds-label-root
bounds-label-root c = let r = the-root c.requires.0.tree c.requires.1 in omega (arith, r.node)

pub add-requires : goal.add-requires
add-requires c =
    let r = the-root c.requires.0.tree c.requires.1 in
    let f = c.fill in
    record {
      ready = ready-kept c.requires.0 f.auto.cells;
      cells = c.requires.2;
      ordered = zero-le;
      most = omega (arith, r.node);
      child = λ v a b. r.only v (omega (arith, r.node)) (λ e. absurd (omega arith));
      sums = sums_none f.ensures;
    }

-- PREORDER 1 at the root, and the sums over the nodes below it
record Low (s label work : List ℕ) (root : ℕ) : Type 0 where
  first : get_or label root 0 ≡ 1
  sums : Sums s label work root
  numbered : Numbered s label 0 root

low : (c : Joined-label-root-eq1) → c.if-label-root-eq1.value ≡ true → Low c.args.parents.now c.args.label.now c.if-label-root-eq1.work c.args.root
low c e =
    elim c.if-label-root-eq1.branch [
      | then-label-root-eq1 w ↦
          let g = w.add.ensures (sym w.value-is ∙ e) in
          record { first = w.if-label-root-eq1.true; sums = rw w.work-is g.0; numbered = g.1 }
      | else-label-root-eq1 w ↦ absurd (w.if-label-root-eq1.false (eqb-true _ _ (sym w.value-is ∙ e)))
    ]

pub add-requires-then-add : goal.add-requires-then-add
add-requires-then-add c =
    let r = the-root c.requires.0.tree c.requires.1 in
    let j = (goal.at.add-requires-then-add c).Joined-label-root-eq1 in
    record {
      ready = ready-kept c.requires.0 (c.if-label-root-eq1.auto.work ∙ c.fill.auto.cells);
      cells = c.requires.2;
      ordered = omega (arith, r.node);
      most = omega arith;
      child = λ v p b. r.only v b (λ e. absurd (omega arith));
      sums = rw add-one (sums-root r.itself (low j c.if-add.true).sums);
    }

-- the sums over all nodes, too
high : (c : Joined-add) → c.if-add.value ≡ true
    → (c.if-label-root-eq1.value ≡ true) × Sums c.args.parents.now c.args.label.now c.if-add.work (length c.args.parents.now)
    × Numbered c.args.parents.now c.args.label.now (c.args.root + 1) (length c.args.parents.now)
high c e =
    elim c.if-add.branch [
      | then-add w ↦
          let g = w.add-then-add.ensures (sym w.value-is ∙ e) in
          (w.if-add.true, rw w.work-is g.0, g.1)
      | else-add w ↦ absurd (false≢true (sym w.if-add.false ∙ sym w.value-is ∙ e))
    ]

pub returns-then-add-2 : goal.returns-then-add-2
returns-then-add-2 c =
    λ e.
    let up = high (goal.at.returns-then-add-2 c).Joined-add c.if-add-2.true in
    let down = low (goal.at.returns-then-add-2 c).Joined-label-root-eq1 up.0 in
    let g = c.agree.ensures in
    let all : c.agree.result ≡ length c.args.parents.now = eqb-true _ _ e in
    numbers-own c.requires.0.tree c.args.label.now c.requires.1 down.first down.numbered up.2
    (λ v h. (rw zero-add at (g.same.cell v (omega arith))) ∙ up.1.sum v h)
