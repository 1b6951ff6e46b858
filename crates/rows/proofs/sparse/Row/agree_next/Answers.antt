-- `rows::sparse::Row::agree_next` meets its contract: the blocks that pass the end are compared with filled cells of work, beside the levels.
-- Assumes nothing.
use native.Mathlib.Omega.{arith}
use Prim.Native.Nat.{◌-◌, ◌*◌}
use Rattle.rows.proofs.Heights.{inside, levels-filled}
use Rattle.rows.proofs.Halves.{next-room, agree-before, agree_after}
use Rattle.rows.proofs.sparse.Row.agree_next.Goals as goal

pub returns-then-same-end : goal.returns-then-same-end
returns-then-same-end c =
    (c.requires.level-row.levels, agree-before c.requires c.if-same-end.true c.agree_blocks-same.ensures)

pub fill-requires : goal.fill-requires
fill-requires c =
    let p = c.requires.level-row in
    let b = inside {k = 2 * c.args.self.half - 1} p.side (omega (arith, p.two, p.some)) in
    omega (arith, p.ready.room)

pub agree-requires : goal.agree-requires
agree-requires c =
    let p = c.requires in
    let room = next-room p in
    let two = p.level-row.two in
    let some = p.level-row.some in
    let kept = c.fill.auto.cells in
    let b = inside {k = 2 * c.args.self.half - 1} p.level-row.side (omega arith) in
    let cells = p.level-row.ready.room in
    (omega arith, omega arith)

pub returns : goal.returns
returns c =
    let f = c.fill.ensures in
    let two = c.requires.level-row.two in
    (levels-filled c.requires.level-row (omega arith) f, agree_after c.requires c.agree_blocks-same.ensures c.if-same-end.false f c.agree.ensures)
