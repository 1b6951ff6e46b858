-- `labels::inlabels` meets its contract: the nodes below v have their INLABEL.
-- Assumes nothing.
use native.Mathlib.Omega.{arith}
use mathlib.Core.Path.{refl, ◌∙◌}
use mathlib.Core.Logic.{inl, inr}
use lib.Dec.{lit<}
use Rattle.tree.proofs.Scans.{by_equal}
use Rattle.tree.proofs.Columns.{column-same}
use Rattle.labels.proofs.Labelled.{interval-fits, interval-inlabel}
use Rattle.preorder.proofs.Filling.{filling-store}
use Rattle.labels.proofs.inlabels.Goals as goal

pub loop-v-init : goal.loop-v-init
loop-v-init c = record { room = c.requires.ready.room; cell = λ x h k. absurd (omega arith) }

pub inlabel-requires : goal.inlabel-requires
inlabel-requires c = interval-fits c.loop-v-test.true c.requires

pub loop-v-preserved : goal.loop-v-preserved
loop-v-preserved c =
    let l = c.loop-v in
    let e = interval-inlabel c.loop-v-test.true c.requires in
    filling-store l.invariant l.v refl (omega arith) (c.inlabel.ensures ∙ e) (λ x h k. by_equal x l.v inl (λ q. inr (omega arith)))

pub returns : goal.returns
returns c =
    let l = c.loop-v in
    column-same _ _ _ 3 (lit< tt) (λ v h. l.invariant.cell v h (omega arith))
