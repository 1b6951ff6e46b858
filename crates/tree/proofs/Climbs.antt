-- Climbing on any sheet whose entries are all parts: steps add up, and what a climb meets at all it meets in fewer than n steps.
-- Assumes nothing.
use Prim.Native.Nat.{ℕ, zero, suc, ◌+◌, ◌-◌, ◌≤◌, ◌<◌}
use native.Mathlib.Nat.{zero-add, suc-add}
use native.Mathlib.Omega.{arith}
use mathlib.Core.Path.{◌≡◌, refl, sym, ap, ◌∙◌, subst}
use mathlib.Core.Logic.{◌≢◌}
use mathlib.Core.Bool.{Bool, true, false, true≢false}
use mathlib.Core.List.{List}
use borrow.Author.Tests.{eq-eqb, eqb-true, lt-ltb, ltb-true}
use lib.Dec.{eqb}
use lib.ListN.{length}
use Rattle.tree.specs.Scan.{least}
use Rattle.tree.specs.Tree.{parent, climb, Ancestor, is_ancestor}
use Rattle.tree.proofs.Scans.{least-here, least-before, least-at-most}
use Rattle.tree.proofs.Pigeonhole.{pigeonhole}

-- each entry is a part
abbrev pub Inside : List ℕ → Type 0
Inside s = (v : ℕ) → v < length s → parent s v < length s

pub climb-zero : (s : List ℕ) (v : ℕ) → climb s 0 v ≡ v
unfolding climb
climb-zero s v = refl

pub climb-one : (s : List ℕ) (v : ℕ) → climb s 1 v ≡ parent s v
unfolding climb
climb-one s v = refl

-- j steps and then k
pub climb-add : (s : List ℕ) (j k v : ℕ) → climb s (j + k) v ≡ climb s k (climb s j v)
unfolding climb
climb-add s zero k v = ap (λ (m : ℕ). climb s m v) (zero-add k)
climb-add s (suc j) k v = ap (λ (m : ℕ). climb s m v) (suc-add j k) ∙ climb-add s j k (parent s v)

-- the last step of a climb
pub climb-suc : (s : List ℕ) (k v : ℕ) → climb s (suc k) v ≡ parent s (climb s k v)
climb-suc s k v = ap (λ (m : ℕ). climb s m v) (omega arith) ∙ climb-add s k 1 v ∙ climb-one s (climb s k v)

-- the same number of steps in two parts
pub climb-split : (s : List ℕ) (j k m v : ℕ) → j + k ≡ m → climb s m v ≡ climb s k (climb s j v)
climb-split s j k m v e = ap (λ (i : ℕ). climb s i v) (sym e) ∙ climb-add s j k v

pub climb-inside : (s : List ℕ) → Inside s → (k v : ℕ) → v < length s → climb s k v < length s
unfolding climb
climb-inside s inside zero v h = h
climb-inside s inside (suc k) v h = climb-inside s inside k _ (inside v h)

-- a part that names itself is never left
pub climb-stays : (s : List ℕ) (k v : ℕ) → parent s v ≡ v → climb s k v ≡ v
unfolding climb
climb-stays s zero v e = refl
climb-stays s (suc k) v e = ap (climb s k) e ∙ climb-stays s k v e

-- ---- "carries"

pub ancestor-refl : (s : List ℕ) (v : ℕ) → Ancestor s v v
ancestor-refl s v = record { steps = 0; reaches = climb-zero s v }

pub ancestor-parent : (s : List ℕ) (v : ℕ) → Ancestor s (parent s v) v
ancestor-parent s v = record { steps = 1; reaches = climb-one s v }

pub ancestor-climb : (s : List ℕ) (k v : ℕ) → Ancestor s (climb s k v) v
ancestor-climb s k v = record { steps = k; reaches = refl }

pub ancestor-trans : {s : List ℕ} {a b c : ℕ} → Ancestor s a b → Ancestor s b c → Ancestor s a c
ancestor-trans {s} {a} {b} {c} p q = record {
  steps = q.steps + p.steps;
  reaches = climb-add s q.steps p.steps c ∙ ap (climb s p.steps) q.reaches ∙ p.reaches;
}

-- what carries v and is another node carries v's parent
pub ancestor-above : {s : List ℕ} {a v : ℕ} → Ancestor s a v → a ≢ v → Ancestor s a (parent s v)
ancestor-above {s} {a} {v} p q = from p.steps p.reaches
  where
    from : (k : ℕ) → climb s k v ≡ a → Ancestor s a (parent s v)
    from zero e = absurd (q (sym e ∙ climb-zero s v))
    from (suc k) e = record { steps = k; reaches = ap (climb s k) (sym (climb-one s v)) ∙ sym (climb-split s 1 k (suc k) v (omega arith)) ∙ e }

-- a part that names itself is carried by no other
pub ancestor-root : {s : List ℕ} {a v : ℕ} → parent s v ≡ v → Ancestor s a v → a ≡ v
ancestor-root {s} {a} {v} e p = sym p.reaches ∙ climb-stays s p.steps v e

pub ancestor-inside : {s : List ℕ} {a v : ℕ} → Inside s → v < length s → Ancestor s a v → a < length s
ancestor-inside {s} {a} {v} inside h p = subst (λ (x : ℕ). x < length s) p.reaches (climb-inside s inside p.steps v h)

-- ---- fewer than n steps

-- if q holds first after m steps, the parts met until then differ, so that they are at most n
first-met : (s : List ℕ) → Inside s → (q : ℕ → Bool) (v m : ℕ) → v < length s → q (climb s m v) ≡ true
    → ((j : ℕ) → j < m → q (climb s j v) ≡ false) → m < length s
first-met s inside q v m h here before =
    pigeonhole (length s) (suc m) (λ i. climb s i v) (λ i _. climb-inside s inside i v h) apart
  where
    -- a part met twice, at i and at j, leads to the end from i already
    apart : (i j : ℕ) → i < j → j < suc m → climb s i v ≢ climb s j v
    apart i j a b e =
        let there : climb s (i + (m - j)) v ≡ climb s m v = climb-add s i (m - j) v ∙ ap (climb s (m - j)) e ∙ sym (climb-split s j (m - j) m v (omega arith)) in
        true≢false (sym (ap q there ∙ here) ∙ before (i + (m - j)) (omega arith))

-- what a climb meets at all it meets in fewer than n steps
pub met-soon : (s : List ℕ) → Inside s → (q : ℕ → Bool) (v k : ℕ) → v < length s → q (climb s k v) ≡ true
    → least (λ j. q (climb s j v)) (length s) < length s
met-soon s inside q v k h here =
    let p : ℕ → Bool = λ j. q (climb s j v) in
    let m : ℕ = least p (suc k) in
    let to : m ≤ k = least-at-most p (suc k) k here in
    let met : p m ≡ true = least-here p (suc k) (omega arith) in
    let soon : m < length s = first-met s inside q v m h met (least-before p (suc k)) in
    let found : least p (length s) ≤ m = least-at-most p (length s) m met in
    omega arith

-- "carries" and its test
pub ancestor-test : {s : List ℕ} {a v : ℕ} → Inside s → v < length s → Ancestor s a v → is_ancestor s a v ≡ true
unfolding is_ancestor
ancestor-test {s} {a} {v} inside h p = lt-ltb _ _ (met-soon s inside (λ u. eqb u a) v p.steps h (eq-eqb _ _ p.reaches))

pub test-ancestor : (s : List ℕ) (a v : ℕ) → is_ancestor s a v ≡ true → Ancestor s a v
unfolding is_ancestor
test-ancestor s a v e =
    let p : ℕ → Bool = λ k. eqb (climb s k v) a in
    record { steps = least p (length s); reaches = eqb-true _ _ (least-here p (length s) (ltb-true _ _ e)) }
