-- `wear::sums::widen` meets its contract: the cells passed hold the counts.
-- Assumes nothing.
use native.Mathlib.Omega.{arith}
use Prim.Native.Nat.{ℕ, ◌≤◌}
use mathlib.Core.Path.{refl, sym, ap, ◌∙◌}
use lib.ListN.{get_or, length-set}
use lib.Seq.{ext_get_or}
use Rattle.tree.proofs.Scans.{by_equal}
use Rattle.tree.proofs.Differences.{store-either}
use Rattle.wear.specs.Totals.{count_limit}
use Rattle.wear.proofs.sums.widen.Goals as goal
use Rattle.wear.proofs.sums.widen.Goals.{After-shared_slice_known-1}

-- a count has 32 bits
count_fits : (c : After-shared_slice_known-1) → get_or c.args.counts.now c.loop-v.v 0 ≤ count_limit
count_fits c = omega (arith, c.type_inv.counts c.loop-v.v)

pub loop-v-init : goal.loop-v-init
loop-v-init c = (omega arith, refl, λ j b. absurd (omega arith))

pub loop-v-preserved : goal.loop-v-preserved
loop-v-preserved c =
    let l = c.loop-v in
    let counts = c.args.counts.now in
    let same = c.requires in
    let kept = l.invariant.1 in
    let x = get_or counts l.v 0 in (
      omega arith,
      length-set l.totals l.v x ∙ l.invariant.1,
      λ j b. (
        store-either l.totals l.v x j (get_or counts j 0) (omega arith) (λ e. ap (λ (i : ℕ). get_or counts i 0) (sym e))
            (λ q. (l.invariant.2 j (omega arith)).0),
        by_equal j l.v (λ e. let f = count_fits c in rw e f) (λ q. (l.invariant.2 j (omega arith)).1),
      ),
    )

pub returns : goal.returns
returns c =
    let l = c.loop-v in
    let same = c.requires in
    let kept = l.invariant.1 in (
      ext_get_or 0 l.totals c.args.counts.now (kept ∙ same) (λ v h. (l.invariant.2 v (omega arith)).0),
      λ v h. (l.invariant.2 v (omega arith)).1,
    )
