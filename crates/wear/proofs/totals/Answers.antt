-- `wear::totals` meets its contract: the tests' answer, and on an accepted sheet what was added up along its order.
-- Assumes nothing.
use Prim.Native.Nat.{ℕ, ◌≤◌}
use native.Mathlib.Omega.{arith}
use mathlib.Core.Path.{sym, ap, ◌∙◌, subst}
use mathlib.Core.List.{List}
use lib.ListN.{length, get_or, replicate}
use Rattle.tree.specs.Buffers.{wear_fits, first_unfit}
use Rattle.tree.specs.Verdict.{verdict_of}
use Rattle.tree.proofs.Verdicts.{handed_on}
use Rattle.tables.specs.Check.{OrderGives}
use Rattle.wear.specs.Totals.{count_limit, totals_of}
use Rattle.wear.proofs.Giving.{Granted, totals-refused, totals-granted, totals-filled}
use Rattle.wear.proofs.totals.Goals as goal
use Rattle.wear.proofs.totals.Goals.{In_ok-admit_bottom_up, After-admit_bottom_up}

-- the answer to the tests, of the call's own buffers
tested : (c : After-admit_bottom_up) →
    OrderGives c.args.parents.now (first_unfit (wear_fits (length c.args.parents.now) (length c.args.counts.now) (length c.args.totals.now)))
    c.args.work.now
    c.admit_bottom_up.result c.admit_bottom_up.new.work
tested c =
    let a = c.args in
    subst (λ (u : ℕ). OrderGives a.parents.now u a.work.now c.admit_bottom_up.result c.admit_bottom_up.new.work)
    (rw (c.exact.ensures, c.exact-2.ensures) at c.first_unfit-unfit.ensures) c.admit_bottom_up.ensures

-- what is known of an accepted call
grants : (c : In_ok-admit_bottom_up) → Granted c.args.parents.now c.args.work.now c.args.counts.now c.args.totals.now
grants c =
    let tested :
    (OrderGives c.args.parents.now (first_unfit (wear_fits (length c.args.parents.now) (length c.args.counts.now) (length c.args.totals.now)))
    c.args.work.now
    c.admit_bottom_up.result c.admit_bottom_up.new.work) =
    (subst (λ (u : ℕ). OrderGives c.args.parents.now u c.args.work.now c.admit_bottom_up.result c.admit_bottom_up.new.work)
    (rw (c.exact.ensures, c.exact-2.ensures) at c.first_unfit-unfit.ensures) c.admit_bottom_up.ensures) in
    let a = c.args in
    totals-granted a.parents.now a.work.now a.counts.now a.totals.now tested c.in_ok-admit_bottom_up.was

pub returns-in_err-admit_bottom_up : goal.returns-in_err-admit_bottom_up
returns-in_err-admit_bottom_up c =
    let a = c.args in
    totals-refused a.parents.now a.work.now a.counts.now a.totals.now (tested (goal.at.returns-in_err-admit_bottom_up c).After-admit_bottom_up) c.in_err-admit_bottom_up.was
    (handed_on c.from_residual.result c.from_residual.ensures.1)

pub widen-requires : goal.widen-requires
widen-requires c = let g = grants (goal.at.widen-requires c).In_ok-admit_bottom_up in omega arith

pub add_up-requires : goal.add_up-requires
add_up-requires c =
    let g = grants (goal.at.add_up-requires c).In_ok-admit_bottom_up in
    let same = c.admit_bottom_up.auto.work in
    let wide = c.widen.ensures in
    let edges =
    (tested (goal.at.add_up-requires c).After-admit_bottom_up).edges
    (sym (tested (goal.at.add_up-requires c).After-admit_bottom_up).outcome ∙ ap verdict_of c.in_ok-admit_bottom_up.was) in
    let ready = g.ready in
    let counted = g.count_length in (
      record { tree = ready.tree; most = ready.small },
      edges,
      omega arith,
      ap length wide.0 ∙ counted,
      λ v h. subst (λ (l : List ℕ). get_or l v 0 ≤ count_limit) (sym wide.0) (wide.1 v (omega arith)),
    )

pub returns : goal.returns
returns c =
    let a = c.args in
    let same = c.admit_bottom_up.auto.work in
    totals-filled a.parents.now a.work.now a.counts.now a.totals.now (tested (goal.at.returns c).After-admit_bottom_up) c.in_ok-admit_bottom_up.was
    (c.add_up.ensures ∙ ap (totals_of a.parents.now) c.widen.ensures.0) (c.clear.ensures ∙ ap (λ k. replicate k 0) same)
