-- The sums by which a lent label table's PREORDER and SIZE are told to be the sheet's own.
-- Assumes nothing.
use Prim.Native.Nat.{ℕ, zero, suc, ◌+◌, ◌*◌, ◌≤◌, ◌<◌, zero-le}
use native.Mathlib.Nat.{zero-add, le-suc}
use native.Mathlib.Omega.{arith}
use mathlib.Core.Path.{◌≡◌, sym, ap, ◌∙◌}
use mathlib.Core.Logic.{◌≢◌}
use mathlib.Core.Bool.{false}
use mathlib.Core.List.{List}
use lib.ListN.{length, get_or, set}
use Rattle.tree.specs.Tree.{Tree, parent, level, root_of}
use Rattle.tree.specs.Preorder.{is_child, child_sum, preorder_number, size}
use Rattle.tree.specs.Labels.{label_table}
use Rattle.tree.specs.Sections.{Same}
use Rattle.tree.proofs.Scans.{by_equal}
use Rattle.tree.proofs.Trees.{level-below, level-parent}
use Rattle.tree.proofs.PreorderList.{Child, child-test}
use Rattle.tree.proofs.Sums.{sum-child, sum-gap, sum-zero, sum_same}
use Rattle.tree.proofs.Sizes.{size-sum, preorder-root, preorder-child}
use Rattle.tree.proofs.Differences.{store-either}
use Rattle.cells.specs.Cells.{Filled}
use Rattle.preorder.specs.Sums.{size_in, sum_in, Sums, Numbered}
use Rattle.preorder.proofs.Numbering.{two-columns}
use Rattle.preorder.proofs.Parents.{not_itself, own-child, other-child, root-child, root-down}

-- ---- the sums, node by node

pub sums_none : {s label before after : List ℕ} → Filled before 0 (length s) 1 after → Sums s label after 0
sums_none {s} {label} f = record {
  sum = λ p h. f.here p zero-le (omega arith) ∙ sym (ap (λ (k : ℕ). 1 + k) (sum-zero s p (size_in s label)));
}

-- the sum over children stays where i is no child of p
sum-stays : (s label : List ℕ) (p i : ℕ) → is_child s p i ≡ false → sum_in s label p (suc i) ≡ sum_in s label p i
sum-stays s label p i e =
    ap (λ (k : ℕ). 1 + k)
    (sum-gap s p (size_in s label) i (suc i) (le-suc i) (λ c a b. let here : c ≡ i = omega arith in rw here e))

-- .. as the root is of none
pub sums-root : {s label work : List ℕ} {r : ℕ} → parent s r ≡ r → Sums s label work r → Sums s label work (suc r)
sums-root {s} {label} {work} {r} e w = record { sum = λ p h. w.sum p h ∙ sym (sum-stays s label p r (root-child s p r e)) }

pub sums-more : {s label work : List ℕ} {v : ℕ} → length s ≤ length work → parent s v < length s → parent s v ≢ v → Sums s label work v
    → Sums s label (set work (parent s v) (get_or work (parent s v) 0 + size_in s label v)) (suc v)
sums-more {s} {label} {work} {v} room inside q w = record {
  sum = λ p h.
      store-either work (parent s v) _ p (sum_in s label p (suc v)) (omega arith)
      (λ e. rw e grown)
      (λ e. w.sum p h ∙ sym (sum-stays s label p v (other-child s p v e)));
}
  where
    grown : get_or work (parent s v) 0 + size_in s label v ≡ sum_in s label (parent s v) (suc v)
    grown =
        let u = parent s v in
        let f = size_in s label in
        let step : child_sum s u f (suc v) ≡ child_sum s u f v + f v = sum-child s u f v (child-test (own-child q)) in
        omega (arith, w.sum u inside)

-- PREORDER follows them, one node further
pub numbered-none : (s label : List ℕ) (first : ℕ) → Numbered s label first first
numbered-none s label first = record { number = λ v a b. absurd (omega arith) }

pub numbered_more : {s label : List ℕ} {first v : ℕ} → Numbered s label first v → get_or label v 0 ≡ get_or label (parent s v) 0 + sum_in s label (parent s v) v
    → Numbered s label first (suc v)
numbered_more {s} {label} {first} {v} l e = record { number = λ u a b. by_equal u v (λ q. rw q e) (λ q. l.number u a (omega arith)) }

-- ---- what they tell

module _ {s : List ℕ} (t : Tree s) (label : List ℕ) where
  -- the sum where SIZEs are the sheet's own
  sum-own : (p i : ℕ) → i ≤ length s → ((c : ℕ) → c < length s → Child s p c → size_in s label c ≡ size s c)
      → sum_in s label p i ≡ suc (child_sum s p (size s) i)
  sum-own p i b own = let same = sum_same s p (size_in s label) (size s) i (λ c below is. own c (omega arith) is) in omega arith

  -- where each SIZE is the sum over the children, it is the sheet's own: from the lowest level up
  sizes-up : ((v : ℕ) → v < length s → size_in s label v ≡ sum_in s label v (length s))
      → (d v : ℕ) → v < length s → length s ≤ d + level s v → size_in s label v ≡ size s v
  sizes-up each zero v h b = absurd (let low = level-below t v h in omega arith)
  sizes-up each (suc d) v h b =
      let earlier = sizes-up each d in
      let children : (c : ℕ) → c < length s → Child s v c → size_in s label c ≡ size s c = λ c below is.
      let deeper = level-parent t c below (not_itself is) in
      let above : level s (parent s c) ≡ level s v = ap (level s) is.of in
      earlier c below (omega arith) in
      each v h ∙ sum-own v (length s) (omega arith) children ∙ sym (size-sum t v h)

  -- where PREORDER follows the sums too, both columns are the sheet's own
  pub numbers-own : {r : ℕ} → r ≡ root_of s → get_or label r 0 ≡ 1 → Numbered s label 0 r → Numbered s label (r + 1) (length s)
      → ((v : ℕ) → v < length s → size_in s label v ≡ sum_in s label v (length s)) → Same label 0 (label_table s) 0 (2 * length s)
  numbers-own {r} e first low high each =
      let n = length s in
      let sizes : (v : ℕ) → v < n → size_in s label v ≡ size s v = λ v h. sizes-up each n v h (omega arith) in
      let numbers : (v : ℕ) → v < n → get_or label v 0 ≡ preorder_number s v =
      root-down t e (λ v. get_or label v 0) (preorder_number s) (λ v. sum_in s label (parent s v) v)
      (first ∙ sym (preorder-root t)) low.number high.number
      (λ v h q.
      let sum = sum-own (parent s v) v (omega arith) (λ c below _. sizes c below) in
      let own = preorder-child t v h q in
      omega arith) in
      two-columns s label 0 n (omega arith) (λ v h. rw zero-add (numbers v h)) sizes
