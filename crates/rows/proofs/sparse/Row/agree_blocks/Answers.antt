-- `rows::sparse::Row::agree_blocks` meets its contract: the i cells passed are the sheet's own.
-- Assumes nothing.
use native.Mathlib.Omega.{arith}
use native.Mathlib.Nat.{le_refl}
use native.Mathlib.Numerals.{add-one}
use Prim.Native.Nat.{◌-◌, ◌*◌}
use lib.ListN.{length}
use mathlib.Core.Path.{◌≡◌, refl, sym, ◌∙◌}
use Rattle.tree.proofs.Differences.{same_none, same_more}
use Rattle.rows.specs.Rows.{TwoBlocks}
use Rattle.rows.proofs.Halves.{two_blocks}
use Rattle.rows.proofs.sparse.Row.agree_blocks.Goals as goal
use Rattle.rows.proofs.sparse.Row.agree_blocks.Goals.{In-loop-i}

pub returns-then-blocks_hold : goal.returns-then-blocks_hold
returns-then-blocks_hold c = record { most = le_refl _; same = c.blocks_hold.ensures c.if-blocks_hold.true; parts = λ h. absurd (omega arith) }

pub loop-i-init : goal.loop-i-init
loop-i-init c = same_none _ _ _ _

-- the two blocks of cell i
blocks : (c : In-loop-i) → TwoBlocks c.args.parents.now c.args.table.now c.args.work.now c.args.self.at c.args.self.half c.args.self.from c.loop-i.i
blocks c =
    let two = c.requires.level-row.two in
    two_blocks c.requires refl c.requires.own c.loop-i.i (omega arith)

pub chosen-own-requires : goal.chosen-own-requires
chosen-own-requires c =
    let b = blocks (goal.at.chosen-own-requires c).In-loop-i in
    record { row = b.right; levels = b.right-level }

pub returns-then-table-next : goal.returns-then-table-next
returns-then-table-next c =
    let own = c.chosen-own.ensures ∙ (blocks (goal.at.returns-then-table-next c).In-loop-i).lesser in
    record { most = omega arith; same = c.loop-i.invariant; parts = λ h e. c.if-table-next.true (e ∙ sym own) }

pub loop-i-preserved : goal.loop-i-preserved
loop-i-preserved c =
    let own = c.chosen-own.ensures ∙ (blocks (goal.at.loop-i-preserved c).In-loop-i).lesser in
    rw add-one (same_more c.loop-i.invariant (c.if-table-next.false ∙ own))

pub returns : goal.returns
returns c =
    let l = c.loop-i in
    let e : l.i ≡ 2 * length c.args.parents.now - 2 * c.args.self.half = omega arith in
    record { most = le_refl _; same = rw e at l.invariant; parts = λ h. absurd (omega arith) }
