-- `rows::sparse::Row::blocks_hold` meets its contract: where no bit is gathered, the first i cells are the sheet's own.
-- Assumes nothing.
use native.Mathlib.Omega.{arith}
use borrow.Author.Tests.{eqb-true}
use Prim.Native.Nat.{◌-◌, ◌*◌}
use native.Mathlib.Numerals.{add-one}
use mathlib.Core.Path.{◌≡◌, refl, ◌∙◌}
use lib.ListN.{length}
use Rattle.tree.proofs.Differences.{same_none, same_more}
use Rattle.cells.proofs.Stretches.{no_bits}
use Rattle.rows.specs.Rows.{TwoBlocks}
use Rattle.rows.proofs.Halves.{two_blocks}
use Rattle.rows.proofs.sparse.Row.blocks_hold.Goals as goal
use Rattle.rows.proofs.sparse.Row.blocks_hold.Goals.{In-loop-i}

pub loop-i-init : goal.loop-i-init
loop-i-init c = λ e. same_none _ _ _ _

-- the two blocks of cell i
blocks : (c : In-loop-i) → TwoBlocks c.args.parents.now c.args.table.now c.args.work.now c.args.self.at c.args.self.half c.args.self.from c.loop-i.i
blocks c =
    let two = c.requires.level-row.two in
    two_blocks c.requires refl c.requires.own c.loop-i.i (omega arith)

pub chosen-own-requires : goal.chosen-own-requires
chosen-own-requires c =
    let b = blocks (goal.at.chosen-own-requires c).In-loop-i in
    record { row = b.right; levels = b.right-level }

pub loop-i-preserved : goal.loop-i-preserved
loop-i-preserved c =
    let l = c.loop-i in
    let own = c.chosen-own.ensures ∙ (blocks (goal.at.loop-i-preserved c).In-loop-i).lesser in
    λ z. let none = no_bits _ _ _ z in rw add-one (same_more (l.invariant none.0) (none.1 ∙ own))

pub returns : goal.returns
returns c =
    λ z.
    let l = c.loop-i in
    let end : l.i ≡ 2 * length c.args.parents.now - 2 * c.args.self.half = omega arith in
    rw end at (l.invariant (eqb-true _ _ z))
