-- Stretches of equal cells, the first difference of two lists, and the cells of a list after a store: what a loop that fills or compares
-- tables keeps and finds. Assumes nothing.
use Prim.Native.Nat.{ℕ, suc, ◌+◌, ◌-◌, ◌≤◌, ◌<◌}
use native.Mathlib.Nat.{le_refl, zero-add}
use native.Mathlib.Omega.{arith}
use mathlib.Core.Path.{◌≡◌, refl, sym, ap, ◌∙◌}
use mathlib.Core.Logic.{◌≢◌}
use mathlib.Core.List.{List, ◌++◌}
use borrow.Author.Tests.{eq-eqb, ne_eqb, eqb-true, eqb-false, not-true, not-false}
use lib.ListN.{length, get_or, set, length-append, get_or-append}
use lib.Seq.{ext_get_or, get_or-append-add, get_or-set_same, get_or-set_other}
use Rattle.tree.specs.Sections.{Same, differ_at, first_difference}
use Rattle.tree.specs.Tables.{Lent, own, end_to_end}
use Rattle.tree.specs.Tests.{test_place, stale_table}
use Rattle.tree.proofs.Scans.{by_equal, by_order, least-found, least-le, least-here, least-before}

-- ---- stretches of equal cells

-- no cell
pub same_none : (a b : List ℕ) (i j : ℕ) → Same a i b j 0
same_none a b i j = record { cell = λ x h. absurd (omega arith) }

-- two stretches, one after the other
pub same-join : {a b : List ℕ} {i j k m : ℕ} → Same a i b j k → Same a (i + k) b (j + k) m → Same a i b j (k + m)
same-join {a} {b} {i} {j} {k} {m} p q = record {
  cell = λ x h.
      by_order k x
      (λ l.
      let ea : i + x ≡ i + k + (x - k) = omega arith in
      let eb : j + x ≡ j + k + (x - k) = omega arith in
      rw (ea, eb) (q.cell (x - k) (omega arith)))
      (λ l. p.cell x l);
}

-- one more cell
pub same_more : {a b : List ℕ} {i j k : ℕ} → Same a i b j k → get_or a (i + k) 0 ≡ get_or b (j + k) 0 → Same a i b j (suc k)
same_more {a} {b} {i} {j} {k} p e = record { cell = λ x h. by_equal x k (λ q. rw q e) (λ q. p.cell x (omega arith)) }

-- what equals the same stretch is equal
pub same-trans : {a b c : List ℕ} {i j l k : ℕ} → Same a i b j k → Same b j c l k → Same a i c l k
same-trans p q = record { cell = λ x h. p.cell x h ∙ q.cell x h }

-- every cell: the lists are one
pub same-all : (a b : List ℕ) → length a ≡ length b → Same a 0 b 0 (length b) → a ≡ b
same-all a b e p = ext_get_or 0 a b e (λ i h. rw zero-add at (p.cell i (omega arith)))

-- ---- the first difference

-- r is the first cell in which a differs from b, or the length of b where there is none
difference-is : (a b : List ℕ) (r : ℕ) → r ≤ length b → Same a 0 b 0 r → (r < length b → get_or a r 0 ≢ get_or b r 0) → first_difference a b ≡ r
unfolding first_difference
difference-is a b r h p here =
    sym
    (least-found (differ_at a b) (length b) r h
    (λ x l. let e : get_or a x 0 ≡ get_or b x 0 = rw zero-add at (p.cell x l) in rw (eq-eqb _ _ e))
    (λ l. rw (ne_eqb _ _ (here l))))

-- the cells before the first that differs, and that one
pub difference-same : (a b : List ℕ) → Same a 0 b 0 (first_difference a b)
unfolding first_difference
difference-same a b = record { cell = λ x l. rw zero-add (eqb-true _ _ (not-false _ (least-before (differ_at a b) (length b) x l))) }

pub difference-here : (a b : List ℕ) → first_difference a b < length b → get_or a (first_difference a b) 0 ≢ get_or b (first_difference a b) 0
unfolding first_difference
difference-here a b h = eqb-false _ _ (not-true _ (least-here (differ_at a b) (length b) h))

difference-le : (a b : List ℕ) → first_difference a b ≤ length b
unfolding first_difference
difference-le a b = least-le (differ_at a b) (length b)

-- m cells are equal, then d more, and the next differ
pub difference-at : (a b : List ℕ) (m d : ℕ) → Same a 0 b 0 m → m + d < length b → ((x : ℕ) → x < d → get_or a (m + x) 0 ≡ get_or b (m + x) 0)
    → get_or a (m + d) 0 ≢ get_or b (m + d) 0 → first_difference a b ≡ m + d
difference-at a b m d p h more other =
    difference-is a b (m + d) (omega arith) (same-join p (record { cell = λ x l. rw zero-add (more x l) })) (λ _. other)

-- all cells are equal
pub difference-none : (a b : List ℕ) → Same a 0 b 0 (length b) → first_difference a b ≡ length b
difference-none a b p = difference-is a b (length b) (le_refl (length b)) p (λ l. absurd (omega arith))

-- no cell differs
pub difference-all : (a b : List ℕ) → length b ≤ first_difference a b → Same a 0 b 0 (length b)
difference-all a b h = record { cell = λ x l. (difference-same a b).cell x (omega arith) }

module _ (a b a' b' : List ℕ) (equal : length a ≡ length b) where
  -- cells of a and b that are equal are so with a' and b' after them
  before : (k : ℕ) → k ≤ length b → Same a 0 b 0 k → Same (a ++ a') 0 (b ++ b') 0 k
  before k h p = record {
    cell = λ x l.
        get_or-append a a' 0 (0 + x) (omega arith) ∙ p.cell x l ∙ sym (get_or-append b b' 0 (0 + x) (omega arith));
  }

  -- the cells of a' and b'
  after-a : (x : ℕ) → get_or (a ++ a') (length b + x) 0 ≡ get_or a' x 0
  after-a x = rw (← equal) (get_or-append-add a a' x 0)

  after-b : (x : ℕ) → get_or (b ++ b') (length b + x) 0 ≡ get_or b' x 0
  after-b x = get_or-append-add b b' x 0

  -- of two lists end to end, the first holds the difference
  pub difference-left : first_difference a b < length b → first_difference (a ++ a') (b ++ b') ≡ first_difference a b
  difference-left h =
      let d = first_difference a b in
      let longer : length (b ++ b') ≡ length b + length b' = length-append b b' in
      let ea : get_or (a ++ a') d 0 ≡ get_or a d 0 = get_or-append a a' 0 d (omega arith) in
      let eb : get_or (b ++ b') d 0 ≡ get_or b d 0 = get_or-append b b' 0 d h in
      difference-is (a ++ a') (b ++ b') d (omega arith) (before d (omega arith) (difference-same a b)) (λ _ q. difference-here a b h (sym ea ∙ q ∙ eb))

  -- .. or does not
  pub difference-right : length b ≤ first_difference a b → first_difference (a ++ a') (b ++ b') ≡ length b + first_difference a' b'
  difference-right h =
      let longer : length (b ++ b') ≡ length b + length b' = length-append b b' in
      let d = first_difference a' b' in
      let first = before (length b) (le_refl (length b)) (difference-all a b h) in
      let second : Same (a ++ a') (0 + length b) (b ++ b') (0 + length b) d = record {
        cell = λ x l. rw zero-add (after-a x ∙ (rw zero-add at ((difference-same a' b').cell x l)) ∙ sym (after-b x));
      } in
      difference-is (a ++ a') (b ++ b') (length b + d) (omega (arith, difference-le a' b')) (same-join first second)
      (λ l q. difference-here a' b' (omega arith) (sym (after-a d) ∙ q ∙ after-b d))

-- test 8 fails at the first difference of the lent tables from the sheet's own
pub stale-place : (t : Lent) → test_place (stale_table t) ≡ first_difference (end_to_end t) (end_to_end (own t.parents))
unfolding stale_table first_difference
stale-place t = refl

-- ---- the cells after a store

-- the cell that is stored
pub store-here : (w : List ℕ) (p y i x : ℕ) → p < length w → i ≡ p → y ≡ x → get_or (set w p y) i 0 ≡ x
store-here w p y i x h q e = rw q (get_or-set_same w p y 0 h ∙ e)

-- a cell that the store leaves holding x, whether it is the one stored to or another
pub store-either : (w : List ℕ) (p y i x : ℕ) → p < length w → (i ≡ p → y ≡ x) → (i ≢ p → get_or w i 0 ≡ x) → get_or (set w p y) i 0 ≡ x
store-either w p y i x h here other = by_equal i p (λ q. store-here w p y i x h q (here q)) (λ q. get_or-set_other w p i y 0 q ∙ other q)

-- a stretch from cell 0 on, and the next cell stored
pub same_store : {w b : List ℕ} {j k y : ℕ} → k < length w → Same w 0 b j k → y ≡ get_or b (j + k) 0 → Same (set w k y) 0 b j (k + 1)
same_store {w} {b} {j} {k} {y} h p e = record {
  cell = λ x l.
      rw zero-add
      (store-either w k y x (get_or b (j + x) 0) h (λ q. e ∙ ap (λ (z : ℕ). get_or b (j + z) 0) (sym q)) (λ q. rw zero-add at (p.cell x (omega arith))));
}
