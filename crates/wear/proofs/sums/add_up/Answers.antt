-- `wear::sums::add_up` meets its contract: each part's total is whole when it is added to its entry's.
-- Assumes nothing.
use native.Mathlib.Omega.{arith}
use Prim.Native.Nat.{ℕ, suc, ◌+◌, ◌*◌, ◌≤◌, ◌<◌}
use mathlib.Core.Path.{sym, subst}
use mathlib.Core.List.{List}
use lib.ListN.{length}
use Rattle.tree.specs.Tests.{limit}
use Rattle.wear.proofs.Climbing.{Adds, Adding, Next, adding-start, next, adding-step, adding-end}
use Rattle.wear.proofs.sums.add_up.Goals as goal
use Rattle.wear.proofs.sums.add_up.Goals.{Start, In-loop-i}

-- what the totals are added up from
adds : (c : Start) → Adds c.args.parents.now c.args.edges.now c.args.totals.now
adds c = record { small = c.requires.0; edges = c.requires.1; room = c.requires.2; most = c.requires.4 }

-- the next cell of the order is one of the first n − 1
more : (c : In-loop-i) → suc c.loop-i.i < length c.args.parents.now
more c = let test = c.loop-i-test.true in omega arith

-- the sheet is small, and the buffer of the edges large enough
few : (c : In-loop-i) → (length c.args.parents.now ≤ limit) × (3 * length c.args.parents.now ≤ length c.args.edges.now)
few c = (c.requires.0.most, c.requires.2)

-- the part that is read, its entry, and what is added
here : (c : In-loop-i) → Next c.args.parents.now c.args.edges.now c.args.totals.now c.loop-i.totals c.loop-i.i
here c =
    let adds : Adds c.args.parents.now c.args.edges.now c.args.totals.now =
    record { small = c.requires.0; edges = c.requires.1; room = c.requires.2; most = c.requires.4 } in
    next (adds) c.loop-i.invariant (more c)

pub loop-i-init : goal.loop-i-init
loop-i-init c = adding-start (adds (goal.at.loop-i-init c).Start) c.requires.3

pub add-requires : goal.add-requires
add-requires c =
    let b = few (goal.at.add-requires c).In-loop-i in
    let f = here (goal.at.add-requires c).In-loop-i in
    let cells = c.loop-i.invariant.cells in
    (omega arith, omega arith, omega arith)

pub loop-i-preserved : goal.loop-i-preserved
loop-i-preserved c =
    let l = c.loop-i in
    let a = c.args in
    subst (λ (t : List ℕ). Adding a.parents.now a.edges.now a.totals.now t (l.i + 1)) (sym c.add.ensures)
    (adding-step (adds (goal.at.loop-i-preserved c).Start) l.invariant (more (goal.at.loop-i-preserved c).In-loop-i))

pub returns : goal.returns
returns c = adding-end (adds (goal.at.returns c).Start) c.loop-i.invariant (let last = c.loop-i-test.false in omega arith)
