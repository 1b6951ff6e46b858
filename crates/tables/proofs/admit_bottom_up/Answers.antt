-- `tables::admit_bottom_up` meets its contract: what was found of the lengths is the lower of work's number and the further one; then the tests follow each other.
-- Assumes nothing.
use Prim.Native.Nat.{ℕ}
use native.Mathlib.Omega.{arith}
use mathlib.Core.Path.{◌≡◌, sym, ap, ◌∙◌}
use lib.Dec.{lit≤}
use lib.ListN.{length, replicate}
use Rattle.tree.specs.Verdict.{verdict_of}
use Rattle.tree.specs.Buffers.{lower_unfit}
use Rattle.tree.specs.Tests.{verdict, size_tests}
use Rattle.tree.specs.Lending.{sheet_unfit}
use Rattle.tree.proofs.Verdicts.{not-both, handed_on, error_of, no_error}
use Rattle.tree.proofs.Owning.{sheet-exact}
use Rattle.tables.proofs.Lending.{sizes-refuse, sizes-hold, tree-decides, tree-tested, order-refused}
use Rattle.tables.proofs.admit_bottom_up.Goals as goal
use Rattle.tables.proofs.admit_bottom_up.Goals.{After-test_sizes}

abbrev unfit : After-test_sizes → ℕ
unfit c = sheet_unfit c.args.parents.now c.args.work.now c.args.further

-- the answer to tests 1 to 3
told : (c : After-test_sizes) → verdict_of c.test_sizes.result ≡ verdict (size_tests (length c.args.parents.now) (unfit c))
told c =
    let found = c.lower_unfit-unfit.ensures ∙ ap (λ (u : ℕ). lower_unfit u c.args.further) c.work_unfit.ensures in
    c.test_sizes.ensures ∙ ap (λ (u : ℕ). verdict (size_tests (length c.args.parents.now) u)) found

pub returns-in_err-test_sizes : goal.returns-in_err-test_sizes
returns-in_err-test_sizes c =
    let no = c.in_err-test_sizes.was in
    let same = handed_on c.from_residual.result c.from_residual.ensures.1 in
    order-refused (sizes-refuse c.args.parents.now (unfit (goal.at.returns-in_err-test_sizes c).After-test_sizes)
    (told (goal.at.returns-in_err-test_sizes c).After-test_sizes) c.args.work.now no same) (ap verdict_of same)

pub test_tree_bottom_up-r-requires : goal.test_tree_bottom_up-r-requires
test_tree_bottom_up-r-requires c =
    let s = c.args in
    let (some, small, fits) =
    sizes-hold c.args.parents.now (unfit (goal.at.test_tree_bottom_up-r-requires c).After-test_sizes)
    (told (goal.at.test_tree_bottom_up-r-requires c).After-test_sizes) c.in_ok-test_sizes.was in
    let (room, _) = sheet-exact c.args.parents.now s.work.now s.further fits in
    (record { small = small; room = omega arith }, lit≤ tt)

pub returns-then-is_err : goal.returns-then-is_err
returns-then-is_err c =
    let same = c.test_tree_bottom_up-r.auto.work in
    let tested =
    tree-tested c.args.parents.now (unfit (goal.at.returns-then-is_err c).After-test_sizes)
    (told (goal.at.returns-then-is_err c).After-test_sizes) c.in_ok-test_sizes.was c.test_tree_bottom_up-r.ensures.outcome
    (c.clear.ensures ∙ ap (λ k. replicate k 0) same) in
    let (why, is) = error_of c.test_tree_bottom_up-r.result (sym c.if-is_err.ensures.value) in
    order-refused tested (ap verdict_of is)

pub returns-else-is_err : goal.returns-else-is_err
returns-else-is_err c =
    let decides =
    tree-decides c.args.parents.now (unfit (goal.at.returns-else-is_err c).After-test_sizes) (told (goal.at.returns-else-is_err c).After-test_sizes)
    c.in_ok-test_sizes.was in
    let accepts = sym c.test_tree_bottom_up-r.ensures.outcome ∙ no_error c.test_tree_bottom_up-r.result (sym c.if-is_err.ensures.value) in
    record {
      outcome = c.test_tree_bottom_up-r.ensures.outcome ∙ sym decides;
      refusal = λ number place no. absurd (not-both (decides ∙ accepts) no);
      edges = λ _. c.test_tree_bottom_up-r.ensures.edges accepts;
    }
