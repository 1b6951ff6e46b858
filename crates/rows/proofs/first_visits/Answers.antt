-- `rows::first_visits` meets its contract: the first v cells of work are the first positions of the nodes below v.
-- Assumes nothing.
use native.Mathlib.Omega.{arith}
use mathlib.Core.Path.{◌≡◌, sym, ◌∙◌}
use lib.ListN.{length}
use Rattle.tree.proofs.Cells.{first_cell}
use Rattle.tree.proofs.Differences.{same_none, same_store}
use Rattle.tree.proofs.Tours.{tour-length}
use Rattle.rows.proofs.Visited.{Node, node-read}
use Rattle.rows.proofs.first_visits.Goals as goal
use Rattle.rows.proofs.first_visits.Goals.{In-loop-v}

facts : (c : In-loop-v) → Node c.args.parents.now c.args.label.now c.loop-v.v
facts c = node-read c.requires c.loop-v.v c.loop-v-test.true

pub loop-v-init : goal.loop-v-init
loop-v-init c = same_none _ _ _ _

pub first_visit-requires : goal.first_visit-requires
first_visit-requires c = let d = facts (goal.at.first_visit-requires c).In-loop-v in (d.number, d.rest)

pub loop-v-preserved : goal.loop-v-preserved
loop-v-preserved c =
    let t = c.requires.ready.tree in
    let l = c.loop-v in
    let h = c.loop-v-test.true in
    let d = facts (goal.at.loop-v-preserved c).In-loop-v in
    same_store (omega arith) l.invariant (c.first_visit.ensures ∙ d.is ∙ sym (first_cell _ l.v (tour-length t) h))

pub returns : goal.returns
returns c =
    let l = c.loop-v in
    let e : l.v ≡ length c.args.parents.now = omega arith in
    rw e at l.invariant

pub overflow_cast-work : goal.overflow_cast-work
overflow_cast-work c = let d = facts (goal.at.overflow_cast-work c).In-loop-v in omega arith
