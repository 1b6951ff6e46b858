-- `rows::visits` meets its contract: the tour's cells of the nodes below v stand, and every cell is a node's.
-- Assumes nothing.
use native.Mathlib.Omega.{arith}
use mathlib.Core.Path.{◌≡◌, refl, ◌∙◌}
use lib.ListN.{length, length-set}
use Rattle.tree.specs.Tree.{parent}
use Rattle.rows.proofs.Visited.{Node, node-read, visited-none, visited-more, visited-all}
use Rattle.rows.proofs.visits.Goals as goal
use Rattle.rows.proofs.visits.Goals.{In-loop-v}

facts : (c : In-loop-v) → Node c.args.parents.now c.args.label.now c.loop-v.v
facts c = node-read c.requires c.loop-v.v c.loop-v-test.true

pub loop-v-init : goal.loop-v-init
loop-v-init c = visited-none _ _

pub first_visit-first-requires : goal.first_visit-first-requires
first_visit-first-requires c = let d = facts (goal.at.first_visit-first-requires c).In-loop-v in (d.number, d.rest)

pub loop-v-preserved : goal.loop-v-preserved
unfolding parent
loop-v-preserved c =
    let t = c.requires.ready.tree in
    let l = c.loop-v in
    let h = c.loop-v-test.true in
    let d = facts (goal.at.loop-v-preserved c).In-loop-v in
    let p = c.first_visit-first.ensures ∙ d.is in
    visited-more t d h (omega arith) p (omega arith) refl l.invariant

pub returns : goal.returns
returns c =
    let l = c.loop-v in
    let e : l.v ≡ length c.args.parents.now = omega arith in
    visited-all c.requires.ready.tree (rw e at l.invariant)

pub bounds-work-first : goal.bounds-work-first
bounds-work-first c = let d = facts (goal.at.bounds-work-first c).In-loop-v in omega arith

pub overflow_sub-work : goal.overflow_sub-work
overflow_sub-work c = let d = facts (goal.at.overflow_sub-work c).In-loop-v in omega arith

pub bounds-work-first-in-loop-v : goal.bounds-work-first-in-loop-v
bounds-work-first-in-loop-v c = let d = facts (goal.at.bounds-work-first-in-loop-v c).In-loop-v in simp length-set (omega arith)
