-- `rules::ends` meets its contract: the first and the last of the members passed stand, and what is left of the list decides.
-- Assumes nothing.
use native.Mathlib.Omega.{arith}
use Prim.Native.Nat.{◌+◌, ◌<◌}
use mathlib.Core.Path.{◌≡◌, ◌∙◌}
use mathlib.Core.Bool.{cond}
use borrow.Author.Tests.{lt-ltb, le-ltb}
use lib.Dec.{ltb}
use lib.ListN.{length, get_or}
use Rattle.rules.proofs.Cells.{label_length}
use Rattle.rules.proofs.Scanned.{Member, member, scanned-start, scanned-step, scanned-end}
use Rattle.rules.proofs.ends.Goals as goal
use Rattle.rules.proofs.ends.Goals.{In-loop-part, then-label-v, then-label-last, else-label-v, else-label-last}

-- the member that is compared
here : (c : In-loop-part) → Member c.args.question.now c.loop-part.part-index
here c = member _ _ c.loop-part-test.true

pub loop-part-init : goal.loop-part-init
loop-part-init c = scanned-start c.requires

-- `first-is`: the first of the members passed and of it
-- `last-is`: .. and the last
pub loop-part-preserved : goal.loop-part-preserved
loop-part-preserved c =
    let m = here (goal.at.loop-part-preserved c).In-loop-part in
    let v = get_or c.args.question.now (c.loop-part.part-index + 1) 0 in
    let label = c.label-label.result.now in
    let a = get_or label v 0 in
    let first-is : c.if-label-v.first ≡ cond (ltb a (get_or label c.loop-part.first 0)) v c.loop-part.first =
    (let b = get_or label c.loop-part.first 0 in
    elim c.if-label-v.branch [
      | then-label-v w ↦ let h = rw m.is at w.if-label-v.true in rw (lt-ltb a b (omega arith)) (w.first-is ∙ m.is)
      | else-label-v w ↦ let h = rw m.is at w.if-label-v.false in rw (le-ltb a b (omega arith)) w.first-is
    ]) in
    let last-is : c.if-label-last.last ≡ cond (ltb (get_or label c.loop-part.last 0) a) v c.loop-part.last =
    (let b = get_or label c.loop-part.last 0 in
    elim c.if-label-last.branch [
      | then-label-last w ↦ let h = rw m.is at w.if-label-last.true in rw (lt-ltb b a (omega arith)) (w.last-is ∙ m.is)
      | else-label-last w ↦ let h = rw m.is at w.if-label-last.false in rw (le-ltb b a (omega arith)) w.last-is
    ]) in
    scanned-step c.requires c.label-label.ensures m.inside c.loop-part.invariant first-is last-is

pub returns : goal.returns
returns c = scanned-end c.loop-part.invariant (omega arith)

-- it is a node
node : (c : In-loop-part) → get_or c.args.question.now (c.loop-part.part-index + 1) 0 < length c.args.sheet.now
node c = c.requires.part _ (here c).inside

pub bounds-label-v : goal.bounds-label-v
bounds-label-v c =
    let at = (goal.at.bounds-label-v c).In-loop-part in
    rw (here at).is (omega (arith, node at, label_length _ c.label-label.ensures))

pub bounds-label-v-in-loop-part : goal.bounds-label-v-in-loop-part
bounds-label-v-in-loop-part c =
    let at = (goal.at.bounds-label-v-in-loop-part c).In-loop-part in
    rw (here at).is (omega (arith, node at, label_length _ c.label-label.ensures))
