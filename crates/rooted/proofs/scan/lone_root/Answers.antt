-- `rooted::scan::lone_root` meets its contract: where one part was found that names itself, and no entry too large, it is the one root.
-- Assumes nothing.
use native.Mathlib.Omega.{arith}
use lib.Dec.{lit<}
use Rattle.tree.specs.Tree.{is_root}
use Rattle.tree.proofs.Scans.{count_most}
use Rattle.rooted.proofs.Surveying.{surveyed-start, surveyed-step, surveyed-end, surveyed-one}
use Rattle.rooted.proofs.scan.lone_root.Goals as goal

pub loop-v-init : goal.loop-v-init
loop-v-init c = (surveyed-start _, lit< tt)

pub loop-v-preserved : goal.loop-v-preserved
loop-v-preserved c =
    let l = c.loop-v in
    let larger = c.max-most in (
      surveyed-step l.invariant.0 c.loop-v-test.true larger.ensures
          c.if_equal-roots.ensures.0 c.if_equal-root.ensures.0,
      let ok = larger.type_inv in omega arith,
    )

pub returns-then-roots-ne1 : goal.returns-then-roots-ne1
returns-then-roots-ne1 c = λ q one. c.if-roots-ne1.true (surveyed-one c.loop-v.invariant.0 c.loop-v-test.false one).0

pub returns-then-n-most : goal.returns-then-n-most
returns-then-n-most c = λ q one.
    let top = (surveyed-one c.loop-v.invariant.0 c.loop-v-test.false one).1 in
    absurd (omega (arith, c.if-n-most.true))

pub returns : goal.returns
returns c =
    surveyed-end c.loop-v.invariant.0 c.loop-v-test.false c.if-roots-ne1.false c.if-n-most.false

pub overflow_add-roots : goal.overflow_add-roots
overflow_add-roots c =
    let l = c.loop-v in
    let counted = l.invariant.0.counted in
    let most = count_most (is_root c.args.parents.now) l.v in
    let one = c.if_equal-roots.ensures.1 in
    let small = c.requires in
    omega arith
