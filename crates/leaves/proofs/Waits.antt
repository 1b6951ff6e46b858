-- Parts that wait to be taken: one, and several one behind another.
-- Assumes nothing.
use Prim.Native.Nat.{ℕ, ◌+◌, ◌-◌, ◌*◌, ◌≤◌, ◌<◌}
use native.Mathlib.Omega.{arith}
use mathlib.Core.Path.{◌≡◌, refl, sym, ap, ◌∙◌, subst}
use mathlib.Core.Bool.{cond}
use mathlib.Core.List.{List}
use borrow.Author.Tests.{lt-ltb, le-ltb}
use lib.Dec.{eqb, ltb}
use lib.ListN.{length, get_or, set}
use Rattle.tree.specs.Tree.{parent}
use Rattle.tree.specs.Tests.{limit}
use Rattle.tree.proofs.Scans.{by_order}
use Rattle.leaves.specs.Leaves.{Taking, Waiting, entry_at, Took}
use Rattle.leaves.proofs.Naming.{wooded-same}
use Rattle.leaves.proofs.Taken.{found_below, next, new, took_one}

-- ---- a part that waits, by the cells

module _ {s w : List ℕ} {at found p : ℕ} (g : Waiting s w at 1 found) (is : p ≡ entry_at s w at) where
  waits : at < found
  waits = let wait = g.wait in omega arith

  -- its entry is a part, one is left that names it, and there is room for it
  pub waiting-entry : (p < length s) × (0 < get_or w (length s + p) 0) × (found < length s)
  unfolding parent
  waiting-entry =
      let f = next g.wooded g.taking waits in
      (rw is f.above, rw is f.some, f.room)

  -- it is taken, and its entry stands behind those that are in the order, whether it is one of them or not
  pub took-entry : {left more : ℕ} → left ≡ get_or w (length s + p) 0 - 1 → more ≡ cond (eqb left 0) 1 0
      → let w' = set (set (set w (length s + p) left) found p) (2 * length s + at) p in Took s w at 1 found w' (found + more) × (get_or w' found 0 ≡ p)
  unfolding parent
  took-entry {left} {more} less one-if =
      subst (λ (q : ℕ).
      let w' = set (set (set w (length s + q) left) found q) (2 * length s + at) q in
      Took s w at 1 found w' (found + more) × (get_or w' found 0 ≡ q)) (sym is) (
        took_one left g.wooded g.taking waits (less ∙ ap (λ (q : ℕ). get_or w (length s + q) 0 - 1) is) one-if,
        new left g.wooded g.taking waits,
      )

-- ---- several, one behind another

-- those that wait are parts, in cells of work, and few
pub waiting-part : {s w : List ℕ} {at k found : ℕ} → Waiting s w at k found → (i : ℕ) → i < at + k
    → (i < length w) × (get_or w i 0 < length s) × (found < length s) × (length s ≤ limit)
waiting-part g i h =
    let wait = g.wait in
    let few = found_below g.taking g.wooded in
    let room = g.wooded.room in
    (omega arith, g.taking.part i (omega arith), few, g.wooded.small)

-- the first of those that wait, and the others
pub waiting-first : {s w : List ℕ} {at k found : ℕ} (j : ℕ) → j ≤ k → Waiting s w at k found → Waiting s w at j found
waiting-first j h g = let wait = g.wait in record { wooded = g.wooded; taking = g.taking; wait = omega arith }

pub waiting-later : {s w w' : List ℕ} {at j k found r : ℕ} → Waiting s w at (j + k) found → Took s w at j found w' r → Waiting s w' (at + j) k r
waiting-later g t =
    let wait = g.wait in
    let grown = t.grown in
    record { wooded = wooded-same g.wooded t.cells; taking = t.taking; wait = omega arith }

-- an entry is read the same after others were taken
pub entry_kept : {s w w' : List ℕ} {at j found r p : ℕ} (i : ℕ) → Took s w at j found w' r → i < found → p ≡ entry_at s w i → p ≡ entry_at s w' i
entry_kept {s} i t h e = e ∙ ap (λ (v : ℕ). get_or s v 0) (sym (t.kept i h))

-- taken one after the other, they are taken
pub took-both : {s w w' w'' : List ℕ} {at j k found r q : ℕ} → Took s w at j found w' r → Took s w' (at + j) k r w'' q → Took s w at (j + k) found w'' q
took-both {s} {w'' = w''} {at} {j} {k} {q = q} a b =
    let first = a.grown in
    let later = b.grown in
    let e : at + j + k ≡ at + (j + k) = omega arith in
    record {
      taking = subst (λ (x : ℕ). Taking s w'' x q) e b.taking;
      kept = λ i h. b.kept i (omega arith) ∙ a.kept i h;
      grown = omega arith;
      cells = b.cells ∙ a.cells;
    }

-- none is taken
pub took-none : {s w : List ℕ} {at found : ℕ} → Taking s w at found → Took s w at 0 found w found
took-none {s} {w} {at} {found} l =
    let e : at + 0 ≡ at = omega arith in
    record { taking = rw e l; kept = λ i h. refl; grown = omega arith; cells = refl }

-- ---- one by one, the part after the next read beforehand

-- v is the part that is to be taken next, where one waits
abbrev pub NextIs : List ℕ → ℕ → ℕ → ℕ → Type 0
NextIs w at found v = at < found → v ≡ get_or w at 0

-- after it, the part that was read behind it, or else the entry that was put there
pub next-is : {s w w' : List ℕ} {at found r p v : ℕ} → Took s w at 1 found w' r → get_or w' found 0 ≡ p → at < found
    → v ≡ cond (ltb (at + 1) found) (get_or w (at + 1) 0) p → NextIs w' (at + 1) r v
next-is {s} {w} {w'} {at} {found} {r} {p} {v} t behind h is more =
    by_order found (at + 1)
    (λ last.
    let here : at + 1 ≡ found = omega arith in
    is ∙ (rw (le-ltb (at + 1) found last)) ∙ sym behind ∙ ap (λ (i : ℕ). get_or w' i 0) (sym here))
    (λ waits-too. is ∙ (rw (lt-ltb (at + 1) found waits-too)) ∙ sym (t.kept (at + 1) waits-too))
