-- A sheet with one root: it passes tests 4 to 6, and has no lost part, and so passes test 7, exactly if it is one rooted tree.
-- Assumes nothing.
use Prim.Native.Nat.{ℕ, suc, ◌≤◌, ◌<◌, zero-le}
use native.Mathlib.Nat.{le_refl, le_of_eq, lt_of_lt_of_le}
use native.Mathlib.Omega.{arith}
use mathlib.Core.Path.{◌≡◌, sym, ap, ◌∙◌}
use mathlib.Core.List.{List}
use borrow.Author.Tests.{not-false, lt-leb}
use lib.ListN.{length}
use Rattle.tree.specs.Tree.{parent, climb, is_root, next_root, root_of, Tree}
use Rattle.tree.specs.Verdict.{accepted}
use Rattle.tree.specs.Tests.{verdict, tree_tests, outside, lost, first_outside, first_lost}
use Rattle.tree.specs.BottomUp.{OneRoot}
use Rattle.tree.proofs.Scans.{by_order, least-before, least-none}
use Rattle.tree.proofs.Climbs.{climb-inside}
use Rattle.tree.proofs.Roots.{is_root_lem, root_is, root_of_lem, second_none, meets-by-n}
use Rattle.tree.proofs.Places.{cycle-place}
use Rattle.tree.proofs.Verdicts.{not-both}
use Rattle.tree.proofs.Answers.{refused-cycle, accepted-tree_tests}

-- a sheet with one root passes tests 4 to 6
pub record Passes (s : List ℕ) (r : ℕ) : Type 0 where
  pub is : r ≡ root_of s
  pub entries : length s ≤ first_outside s
  pub below : root_of s < length s
  pub none : length s ≤ next_root s (suc (root_of s))

pub one_passes : {s : List ℕ} {r : ℕ} → OneRoot s r → Passes s r
one_passes {s} {r} one =
    let lowest = root_of_lem s in
    let below : root_of s < length s = by_order (root_of s) r (λ h. omega (arith, one.part)) (λ h. absurd (lowest.before r zero-le h one.itself)) in
    let is : r ≡ root_of s = sym (one.only (root_of s) below (lowest.here below)) in
    record {
      is = is;
      entries = le_of_eq (sym (least-none (outside s) (length s) (λ v h. lt-leb (length s) (parent s v) (one.inside v h))));
      below = below;
      none = second_none s below (λ v h e. one.only v h e ∙ is);
    }

-- on a tree none is lost
pub none-lost : {s : List ℕ} → Tree s → length s ≡ first_lost s
none-lost {s} t =
    cycle-place s (length s) (le_refl _)
    (λ v h.
    let up = t.reach v h in
    meets-by-n s t.inside v h (record { steps = up.steps; meets = ap (is_root s) up.reaches ∙ is_root_lem s t.root t.root-itself }))
    (λ h. absurd (omega arith))

-- and where none is, the sheet is a tree
pub lost-none : {s : List ℕ} {r : ℕ} → OneRoot s r → length s ≤ first_lost s → Tree s
lost-none {s} {r} one none_is = record {
  inside = one.inside;
  root = r;
  root-inside = one.part;
  root-itself = one.itself;
  root-only = one.only;
  reach = λ v h.
      let u = climb s (length s) v in
      let met = not-false (is_root s u) (least-before (lost s) (length s) v (lt_of_lt_of_le h none_is)) in
      record { steps = length s; reaches = one.only u (climb-inside s one.inside (length s) v h) (root_is s u met) };
}

-- so a tree passes tests 4 to 7
pub tree-passes : {s : List ℕ} {r : ℕ} (shift : ℕ) → OneRoot s r → Tree s → verdict (tree_tests shift s) ≡ accepted
tree-passes {s} shift one t =
    let p = one_passes one in
    accepted-tree_tests shift s p.entries p.below p.none (le_of_eq (none-lost t))

-- and a sheet with one root that passes them is a tree
pub passed-tree : {s : List ℕ} {r : ℕ} (shift : ℕ) → OneRoot s r → verdict (tree_tests shift s) ≡ accepted → Tree s
passed-tree {s} shift one accepts =
    let p = one_passes one in
    lost-none one
    (by_order (length s) (first_lost s) (λ h. h) (λ b. absurd (not-both accepts (refused-cycle shift s p.entries p.below p.none b))))
