-- `rooted::refuse_root` meets its contract: each refusal is that of the first test whose place was found. Where the first two pass, there is a second root,
-- since the sheet has not one.
-- Assumes nothing.
use Prim.Native.Nat.{ℕ, suc, ◌+◌, ◌≤◌, ◌<◌}
use native.Mathlib.Omega.{arith}
use mathlib.Core.Path.{◌≡◌, sym, ap, ◌∙◌}
use mathlib.Core.List.{List}
use lib.ListN.{length}
use Rattle.tree.specs.Tree.{next_root, root_of}
use Rattle.tree.specs.Verdict.{refused}
use Rattle.tree.specs.Tests.{first_outside}
use Rattle.tree.proofs.Scans.{by_order}
use Rattle.tree.proofs.Places.{out-of-range-place}
use Rattle.tree.proofs.Answers.{refused-out-of-range, refused-no_root, refused-second_root}
use Rattle.rooted.proofs.Jumping.{one-root}
use Rattle.rooted.proofs.refuse_root.Goals as goal
use Rattle.rooted.proofs.refuse_root.Goals.{Start, Else-off-n, Else-n-root, After-second_root-second, After-root-root, After-first_from-off}

-- the sheet
abbrev sheet : Start → List ℕ
sheet c = c.args.parents.now

-- the place of its lowest entry that is no part
off : (c : After-first_from-off) → c.first_from-off.result ≡ first_outside c.args.parents.now
off c = out-of-range-place c.args.parents.now _ c.first_from-off.ensures

-- no entry is off it
entries : (c : Else-off-n) → length c.args.parents.now ≤ first_outside c.args.parents.now
entries c =
    let off : c.first_from-off.result ≡ first_outside c.args.parents.now = out-of-range-place c.args.parents.now _ c.first_from-off.ensures in
    rw off at c.if-off-n.false

-- root is its lowest part that names itself
root : (c : After-root-root) → c.root-root.result ≡ root_of c.args.parents.now
root c = c.root-root.ensures

below : (c : Else-n-root) → root_of c.args.parents.now < length c.args.parents.now
below c = rw c.root-root.ensures at c.if-n-root.false

-- second is the next
second : (c : After-second_root-second) → c.second_root-second.result ≡ next_root c.args.parents.now (suc (root_of c.args.parents.now))
second c = c.second_root-second.ensures ∙ ap (next_root _) (ap suc c.root-root.ensures)

-- and there is one
some : (c : After-second_root-second) → next_root c.args.parents.now (suc (root_of c.args.parents.now)) < length c.args.parents.now
some c =
    let off : c.first_from-off.result ≡ first_outside c.args.parents.now = out-of-range-place c.args.parents.now _ c.first_from-off.ensures in
    let entries : length c.args.parents.now ≤ first_outside c.args.parents.now = rw off at c.if-off-n.false in
    let below : root_of c.args.parents.now < length c.args.parents.now = rw c.root-root.ensures at c.if-n-root.false in
    let s = c.args.parents.now in
    by_order (length s) (next_root s (suc (root_of s)))
    (λ none. absurd (c.requires.2 _ (one-root s entries below none)))
    (λ h. h)

pub returns-then-off-n : goal.returns-then-off-n
returns-then-off-n c =
    let shift = c.args.shift in
    let e = off (goal.at.returns-then-off-n c).After-first_from-off in
    refused-out-of-range shift _ (rw e at c.if-off-n.true) ∙ ap (λ k. refused 4 (shift + k)) (sym e)

pub returns-then-n-root : goal.returns-then-n-root
returns-then-n-root c =
    refused-no_root _ _ (entries (goal.at.returns-then-n-root c).Else-off-n)
    (rw c.root-root.ensures at c.if-n-root.true)

pub returns : goal.returns
returns c =
    let shift = c.args.shift in
    refused-second_root shift _ (entries (goal.at.returns c).Else-off-n) (below (goal.at.returns c).Else-n-root) (some c)
    ∙ ap (λ k. refused 6 (shift + k)) (sym (second c))

pub overflow_add-result-2 : goal.overflow_add-result-2
overflow_add-result-2 c =
    let few = some c in
    omega (arith, c.requires.0, c.requires.1, second c)
