-- The links, made from the last node down: each node's lowest child so far, and the next sibling of each node passed.
-- Assumes nothing.
use Prim.Native.Nat.{ℕ, suc, ◌+◌, ◌-◌, ◌*◌, ◌≤◌, ◌<◌, zero-le}
use native.Mathlib.Nat.{sub_self}
use native.Mathlib.Omega.{arith}
use mathlib.Core.Path.{◌≡◌, sym, ap, ◌∙◌}
use mathlib.Core.Logic.{◌≢◌}
use mathlib.Core.Bool.{Bool, true, false, cond}
use mathlib.Core.List.{List}
use lib.ListN.{length, get_or, set, length-set}
use lib.Seq.{get_or-set_other}
use Rattle.tree.specs.Scan.{least_from}
use Rattle.tree.specs.Tree.{parent, is_root}
use Rattle.tree.specs.Preorder.{is_child}
use Rattle.tree.specs.Ready.{Ready}
use Rattle.tree.proofs.Scans.{by_equal, by-test}
use Rattle.tree.proofs.Roots.{is_root_lem, root_is}
use Rattle.tree.proofs.PreorderList.{child-test}
use Rattle.tree.proofs.Columns.{ready-kept}
use Rattle.tree.proofs.Differences.{store-here}
use Rattle.cells.specs.Cells.{Filled}
use Rattle.preorder.specs.Walk.{lowest_child, next_sibling, Links}
use Rattle.preorder.proofs.Parents.{own-child, other-child, root-child}

-- the links once the nodes from i on have been passed: a node that has not been passed has no next sibling yet
pub record Linking (s work : List ℕ) (i : ℕ) : Type 0 where
  pub ready : Ready s work
  pub child : (v : ℕ) → v < length s → get_or work v 0 ≡ lowest_child s v i
  pub next : (v : ℕ) → i ≤ v → v < length s → get_or work (length s + v) 0 ≡ next_sibling s v
  pub blank : (v : ℕ) → v < i → v < length s → get_or work (length s + v) 0 ≡ length s

-- ---- the lowest child, one node earlier

first_of : (p : ℕ → Bool) (i k m : ℕ) → m ≡ suc k → p i ≡ true → least_from p i m ≡ i
unfolding least_from
first_of p i k m e h = rw (e, h)

later_of : (p : ℕ → Bool) (i k m : ℕ) → m ≡ suc k → p i ≡ false → least_from p i m ≡ least_from p (suc i) k
unfolding least_from
later_of p i k m e h = rw (e, h)

-- no node is left
lowest-none : (s : List ℕ) (v : ℕ) → lowest_child s v (length s) ≡ length s
unfolding least_from
lowest-none s v = rw (sub_self (length s))

lowest-here : (s : List ℕ) (v i : ℕ) → i < length s → is_child s v i ≡ true → lowest_child s v i ≡ i
lowest-here s v i h e = first_of (is_child s v) i (length s - suc i) (length s - i) (omega arith) e

lowest-later : (s : List ℕ) (v i : ℕ) → i < length s → is_child s v i ≡ false → lowest_child s v i ≡ lowest_child s v (suc i)
lowest-later s v i h e = later_of (is_child s v) i (length s - suc i) (length s - i) (omega arith) e

-- ---- the loop

-- all cells hold n
pub linking-start : {s before work : List ℕ} → Ready s work → Filled before 0 (2 * length s) (length s) work → Linking s work (length s)
linking-start {s} {before} {work} r f = record {
  ready = r;
  child = λ v h. f.here v zero-le (omega arith) ∙ sym (lowest-none s v);
  next = λ v h b. absurd (omega arith);
  blank = λ v h b. f.here (length s + v) zero-le (omega arith);
}

-- the root is no child
pub linking-root : {s work : List ℕ} {i : ℕ} → i < length s → parent s i ≡ i → Linking s work (suc i) → Linking s work i
linking-root {s} {work} {i} h e l = record {
  ready = l.ready;
  child = λ v b.
      l.child v b ∙ sym (lowest-later s v i h (root-child s v i e));
  next = λ v a b.
      by_equal v i
      (λ q.
      l.blank v (omega arith) b
      ∙ ap (λ (r : Bool). cond r (length s) (lowest_child s (parent s v) (suc v))) (sym (is_root_lem s v (ap (parent s) q ∙ e ∙ sym q))))
      (λ q. l.next v (omega arith) b);
  blank = λ v a b. l.blank v (omega arith) b;
}

-- another node is its parent's lowest child so far, and the one that was is its next sibling
pub linking-child : {s work : List ℕ} {i : ℕ} → i < length s → parent s i < length s → parent s i ≢ i → Linking s work (suc i)
    → Linking s (set (set work (length s + i) (get_or work (parent s i) 0)) (parent s i) i) i
linking-child {s} {work} {i} h hp e l =
    let p = parent s i in
    let first = set work (length s + i) (get_or work p 0) in
    let room = l.ready.room in
    let in-work : length s + i < length work = omega arith in
    let in-first : p < length first = rw length-set (omega arith) in
    let not_root_lem : is_root s i ≡ false = by-test (is_root s i) (λ r. absurd (e (root_is s i r))) (λ r. r) in
    let is : is_child s p i ≡ true = child-test (own-child e) in
    record {
      ready = ready-kept l.ready (length-set first p i ∙ length-set work (length s + i) _);
      child = λ v b.
          by_equal v p
          (λ q. store-here first p i v _ in-first q (sym (lowest-here s v i h (ap (λ (u : ℕ). is_child s u i) q ∙ is))))
          (λ q.
          get_or-set_other first p v i 0 q ∙ get_or-set_other work (length s + i) v _ 0 (λ g. absurd (omega arith)) ∙ l.child v b
          ∙ sym (lowest-later s v i h (other-child s v i q)));
      next = λ v a b.
          get_or-set_other first p (length s + v) i 0 (λ g. absurd (omega arith))
          ∙ by_equal v i
          (λ q.
          store-here work (length s + i) _ (length s + v) _ in-work (ap (λ (u : ℕ). length s + u) q)
          (l.child p hp ∙ sym (rw q (ap (λ (r : Bool). cond r (length s) (lowest_child s p (suc i))) not_root_lem))))
          (λ q. get_or-set_other work (length s + i) (length s + v) _ 0 (λ g. absurd (omega arith)) ∙ l.next v (omega arith) b);
      blank = λ v a b.
          get_or-set_other first p (length s + v) i 0 (λ g. absurd (omega arith))
          ∙ get_or-set_other work (length s + i) (length s + v) _ 0 (λ g. absurd (omega arith)) ∙ l.blank v (omega arith) b;
    }

pub linking-end : {s work : List ℕ} → Linking s work 0 → Links s work
linking-end l = record { child = l.child; next = λ v h. l.next v zero-le h }
