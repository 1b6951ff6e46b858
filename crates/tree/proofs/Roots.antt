-- The parts that name themselves: what `next_root` finds, and the climbs that meet them.
-- Assumes nothing.
use Prim.Native.Nat.{ℕ, suc, ◌-◌, ◌≤◌, ◌<◌, zero-le}
use native.Mathlib.Omega.{arith}
use mathlib.Core.Path.{◌≡◌, refl, sym, ap, ◌∙◌}
use mathlib.Core.Logic.{◌≢◌}
use mathlib.Core.Bool.{Bool, true}
use mathlib.Core.List.{List}
use borrow.Author.Tests.{eq-eqb, ne_eqb, eqb-true, eqb-false}
use lib.ListN.{length}
use Rattle.tree.specs.Scan.{least}
use Rattle.tree.specs.Tree.{parent, climb, is_root, next_root, root_of, MeetsRoot}
use Rattle.tree.proofs.Scans.{by_equal, by_order, least_from_lem, least-unique, least-here}
use Rattle.tree.proofs.Climbs.{Inside, climb-split, climb-stays, met-soon}

pub is_root_lem : (s : List ℕ) (v : ℕ) → parent s v ≡ v → is_root s v ≡ true
unfolding is_root
is_root_lem s v e = eq-eqb _ _ e

pub root_is : (s : List ℕ) (v : ℕ) → is_root s v ≡ true → parent s v ≡ v
unfolding is_root
root_is s v e = eqb-true _ _ e

-- r is the lowest part from `first` on that names itself, or n where there is none
pub record NextRoot (s : List ℕ) (first r : ℕ) : Type 0 where
  pub from : first ≤ r
  pub to : r ≤ length s
  pub before : (j : ℕ) → first ≤ j → j < r → parent s j ≢ j
  pub here : r < length s → parent s r ≡ r

pub next_root_lem : (s : List ℕ) (first : ℕ) → first ≤ length s → NextRoot s first (next_root s first)
unfolding next_root is_root
next_root_lem s first h =
    let l = least_from_lem (is_root s) first (length s - first) in
    record {
      from = l.from;
      to = omega (arith, l.to);
      before = λ j a b. eqb-false (parent s j) j (l.before j a b);
      here = λ b. eqb-true _ _ (l.here (omega arith));
    }

-- a loop that stops there has found it
pub next_root-found : {s : List ℕ} {first r : ℕ} → first ≤ length s → NextRoot s first r → r ≡ next_root s first
unfolding next_root is_root
next_root-found {s} {first} {r} h g =
    let a = g.from in
    let b = g.to in
    least-unique (is_root s) first (length s - first) r _
    (record {
      from = a;
      to = omega arith;
      before = λ j l m. ne_eqb _ _ (g.before j l m);
      here = λ l. eq-eqb _ _ (g.here (omega arith));
    })
    (least_from_lem (is_root s) first (length s - first))

-- the root
pub root_of-next : (s : List ℕ) → root_of s ≡ next_root s 0
unfolding root_of
root_of-next s = refl

pub root_of_lem : (s : List ℕ) → NextRoot s 0 (root_of s)
unfolding root_of
root_of_lem s = next_root_lem s 0 zero-le

pub root_of-found : {s : List ℕ} {r : ℕ} → NextRoot s 0 r → r ≡ root_of s
unfolding root_of
root_of-found g = next_root-found zero-le g

-- no part after the root names itself exactly if no other part does
pub no_second : (s : List ℕ) → root_of s < length s → length s ≤ next_root s (suc (root_of s)) → (v : ℕ) → v < length s → parent s v ≡ v → v ≡ root_of s
no_second s below none v h self =
    by_equal v (root_of s) (λ e. e)
    (λ e. by_order v (root_of s)
    (λ l. absurd ((root_of_lem s).before v zero-le (omega arith) self))
    (λ l. absurd ((next_root_lem s (suc (root_of s)) below).before v l (omega arith) self)))

pub second_none : (s : List ℕ) → root_of s < length s → ((v : ℕ) → v < length s → parent s v ≡ v → v ≡ root_of s) → length s ≤ next_root s (suc (root_of s))
second_none s below only =
    let g = next_root_lem s (suc (root_of s)) below in
    by_order (length s) (next_root s (suc (root_of s))) (λ l. l)
    (λ l. let same = only (next_root s (suc (root_of s))) l (g.here l) in let after = g.from in absurd (omega arith))

-- ---- "a part's climb never meets the root"

-- a climb that meets the root has met it after n steps
pub meets-by-n : (s : List ℕ) → Inside s → (v : ℕ) → v < length s → MeetsRoot s v → is_root s (climb s (length s) v) ≡ true
meets-by-n s inside v h m =
    let p : ℕ → Bool = λ k. is_root s (climb s k v) in
    let soon : least p (length s) < length s = met-soon s inside (is_root s) v m.steps h m.meets in
    let k : ℕ = least p (length s) in
    let there : parent s (climb s k v) ≡ climb s k v = root_is s (climb s k v) (least-here p (length s) soon) in
    let same : climb s (length s) v ≡ climb s k v =
    climb-split s k (length s - k) (length s) v (omega arith) ∙ climb-stays s (length s - k) (climb s k v) there in
    is_root_lem s (climb s (length s) v) (ap (parent s) same ∙ there ∙ sym same)
