-- `routes::answer::pairs` meets its contract: the cells stored are the route's answers to the pairs passed.
-- Assumes nothing.
use native.Mathlib.Omega.{arith}
use borrow.Author.Rules.{rules}
use Prim.Native.Nat.{ℕ, ◌+◌, ◌*◌}
use mathlib.Core.Path.{◌≡◌, sym, ap, ◌∙◌, subst}
use mathlib.Core.List.{List}
use lib.ListN.{length}
use Rattle.tree.specs.Buffers.{answer_width}
use Rattle.tree.specs.Tables.{own}
use Rattle.tree.specs.Sections.{Same}
use Rattle.tree.specs.Branch.{answer_cell, answer_by}
use Rattle.tree.specs.Pairs.{each_answer}
use Rattle.tree.proofs.Differences.{same_none, same-all}
use Rattle.tree.proofs.Pairs.{each-row-length}
use Rattle.routes.specs.Rules.{rule_of}
use Rattle.routes.proofs.Storing.{stored-length, pair-store}
use Rattle.routes.proofs.answer.pairs.Goals as goal

pub loop-i-init : goal.loop-i-init
loop-i-init c = (search rules, c.requires.1, same_none _ _ _ _)

pub pair-requires : goal.pair-requires
pair-requires c =
    let listed = c.requires.0 in (
      record {
        small = listed.small;
        left = rw c.node-x.ensures (listed.part _ (omega arith));
        right = rw c.node-y.ensures (listed.part _ (omega arith));
      },
      omega arith,
    )

pub loop-i-preserved : goal.loop-i-preserved
loop-i-preserved c =
    let l = c.loop-i in
    let a = c.args in
    let f = answer_by (rule_of a.route) (own a.sheet.now) in
    let stored = rw (c.node-x.ensures, c.node-y.ensures) at c.pair.ensures in (
      omega arith,
      ap length stored ∙ stored-length l.answer (l.i * answer_width) _ ∙ l.invariant.1,
      subst (λ (cells : List ℕ). Same cells 0 (each_answer f a.question.now) 0 ((l.i + 1) * answer_width)) (sym stored)
          (pair-store f a.question.now l.answer l.i (omega arith) l.invariant.1 l.invariant.2),
    )

pub returns : goal.returns
returns c =
    let l = c.loop-i in
    let a = c.args in
    let f = answer_by (rule_of a.route) (own a.sheet.now) in
    let all = each-row-length (λ x y. answer_cell (f x y)) answer_width a.question.now in
    let long = l.invariant.1 in
    let end : l.i * answer_width ≡ length (each_answer f a.question.now) = omega arith in
    same-all _ (each_answer f a.question.now) (omega arith) (subst (Same l.answer 0 (each_answer f a.question.now) 0) end l.invariant.2)
