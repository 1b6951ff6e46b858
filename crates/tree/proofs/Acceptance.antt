-- A sheet that is accepted is one rooted tree, and one rooted tree of at most 16,384 parts is accepted.
-- Assumes nothing.
use Prim.Native.Nat.{ℕ, ◌≤◌, ◌<◌}
use native.Mathlib.Nat.{le_of_eq}
use native.Mathlib.Omega.{arith}
use mathlib.Core.Path.{◌≡◌, refl, sym, ap, ◌∙◌}
use mathlib.Core.Bool.{Bool, true, false, not}
use mathlib.Core.List.{List}
use borrow.Author.Tests.{lt-ltb, le-leb, lt-leb, eq-eqb, ltb-true, leb-true, eqb-true, not-false}
use lib.Dec.{eqb}
use lib.ListN.{length}
use Rattle.tree.specs.Scan.{least}
use Rattle.tree.specs.Tree.{parent, climb, is_root, root_of, MeetsRoot, Tree}
use Rattle.tree.specs.Tests.{empty, too_large, wrong_length, parent_out_of_range, no_root, second_root, cycle, limit, sheet_tests, Accepted}
use Rattle.tree.proofs.Scans.{least-before, least-none}
use Rattle.tree.proofs.Climbs.{Inside, climb-inside}
use Rattle.tree.proofs.Roots.{is_root_lem, root_is, root_of_lem, no_second, second_none, meets-by-n}
use Rattle.tree.proofs.Places.{entries-inside-place}
use Rattle.tree.proofs.Trees.{root-found}
use Rattle.tree.proofs.Verdicts.{passed-accepted, accepted-passed}

-- ---- a test for the lowest bad number passes exactly if no number is bad

none-bad : (bad : ℕ → Bool) (n : ℕ) → ((i : ℕ) → i < n → bad i ≡ false) → eqb (least bad n) n ≡ true
none-bad bad n h = eq-eqb _ _ (least-none bad n h)

no-bad : (bad : ℕ → Bool) (n : ℕ) → eqb (least bad n) n ≡ true → (i : ℕ) → i < n → bad i ≡ false
no-bad bad n e i h = let all : least bad n ≡ n = eqb-true _ _ e in least-before bad n i (omega arith)

-- ---- climbs that meet the root

-- on a tree every climb does
tree-meets : {s : List ℕ} (t : Tree s) (v : ℕ) → v < length s → MeetsRoot s v
tree-meets {s} t v h =
    let up = t.reach v h in
    record { steps = up.steps; meets = ap (is_root s) up.reaches ∙ is_root_lem s t.root t.root-itself }

-- ---- what each test of a sheet says where it passes

-- 4: every entry is below n
entries-inside : (s : List ℕ) → (parent_out_of_range 0 s).passes ≡ true → Inside s
unfolding parent_out_of_range
entries-inside s e = entries-inside-place s (le_of_eq (sym (eqb-true _ _ e)))

inside-passes : (s : List ℕ) → Inside s → (parent_out_of_range 0 s).passes ≡ true
unfolding parent_out_of_range
inside-passes s inside = none-bad _ (length s) (λ v h. lt-leb (length s) (parent s v) (inside v h))

-- 5: some part names itself
root_below : (s : List ℕ) → (no_root s).passes ≡ true → root_of s < length s
unfolding no_root
root_below s e = ltb-true _ _ e

-- 6: no other part does
root-alone : (s : List ℕ) → root_of s < length s → (second_root 0 s).passes ≡ true → (v : ℕ) → v < length s → parent s v ≡ v → v ≡ root_of s
unfolding second_root
root-alone s below e = no_second s below (leb-true _ _ e)

-- 7: every climb meets the root
all_meet : (s : List ℕ) → (cycle 0 s).passes ≡ true → (v : ℕ) → v < length s → MeetsRoot s v
unfolding cycle
all_meet s e v h = record { steps = length s; meets = not-false _ (no-bad _ (length s) e v h) }

meet-passes : (s : List ℕ) → Inside s → ((v : ℕ) → v < length s → MeetsRoot s v) → (cycle 0 s).passes ≡ true
unfolding cycle
meet-passes s inside all = none-bad _ (length s) (λ v h. ap not (meets-by-n s inside v h (all v h)))

-- ---- accepted exactly if it is one rooted tree

tree_of : (s : List ℕ) → Inside s → root_of s < length s → ((v : ℕ) → v < length s → parent s v ≡ v → v ≡ root_of s)
    → ((v : ℕ) → v < length s → MeetsRoot s v) → Tree s
tree_of s inside below only meet = record {
  inside = inside;
  root = root_of s;
  root-inside = below;
  root-itself = (root_of_lem s).here below;
  root-only = only;
  reach = λ v h.
      let m = meet v h in
      let u = climb s m.steps v in
      record { steps = m.steps; reaches = only u (climb-inside s inside m.steps v h) (root_is s u m.meets) };
}

pub accepted-tree : (s : List ℕ) → Accepted s → Tree s × (length s ≤ limit)
unfolding too_large
accepted-tree s e =
    let (_, (small, (_, (inside, (some, (alone, (meet, _))))))) = accepted-passed (sheet_tests s 0) e in
    let below = root_below s some in
    (tree_of s (entries-inside s inside) below (root-alone s below alone) (all_meet s meet), leb-true _ _ small)

pub tree-accepted : (s : List ℕ) → Tree s → length s ≤ limit → Accepted s
unfolding empty too_large wrong_length no_root second_root
tree-accepted s t h =
    let some : 0 < length s = omega (arith, t.root-inside) in
    let root : root_of s < length s = rw (root-found t) at t.root-inside in
    let alone = second_none s root (λ v b e. t.root-only v b e ∙ root-found t) in
    let meet = meet-passes s t.inside (tree-meets t) in
    passed-accepted (sheet_tests s 0)
    (lt-ltb _ _ some, (le-leb _ _ h, (refl, (inside-passes s t.inside, (lt-ltb _ _ root, (le-leb _ _ alone, (meet, tt)))))))
