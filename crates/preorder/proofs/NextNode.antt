-- Which node comes after which in the preorder: its lowest child, its next sibling, or what comes after its parent.
-- Assumes nothing.
use Prim.Native.Nat.{ℕ, zero, suc, ◌+◌, ◌-◌, ◌≤◌, ◌<◌, zero-le}
use native.Mathlib.Nat.{le_refl, not-suc-le-zero, le_of_suc-le-suc}
use native.Mathlib.Omega.{arith}
use mathlib.Core.Path.{◌≡◌, refl, sym, ap, ◌∙◌, subst}
use mathlib.Core.Bool.{Bool, true≢false, false, cond}
use mathlib.Core.List.{List, [], ◌∷◌}
use borrow.Author.Tests.{lt-ltb, le-ltb}
use lib.ListN.{length, get_or, get_or-eq_default}
use Rattle.tree.specs.Tree.{parent, is_root, Tree}
use Rattle.tree.specs.Preorder.{is_child, preorder, preorder_number, size, child_sum}
use Rattle.tree.proofs.Scans.{by_order, by-test, least_from_lem}
use Rattle.tree.proofs.Roots.{root_is, is_root_lem}
use Rattle.tree.proofs.PreorderList.{Child, child-test, test-child}
use Rattle.tree.proofs.Sums.{sum-zero, sum-child, sum-gap}
use Rattle.tree.proofs.Sizes.{size-sum, preorder-child, preorder-most, preorder-pos, preorder-length, preorder-at, preorder-part, preorder_number-at}
use Rattle.preorder.specs.Walk.{lowest_child, next_sibling, first_of, node_at, node_after}
use Rattle.preorder.proofs.Parents.{not_itself, own-child}
use Rattle.preorder.proofs.Numbering.{At}

-- the first is there, or is none
first_some : {n : ℕ} (a b : ℕ) → a < n → first_of n a b ≡ a
first_some {n} a b h = ap (λ (t : Bool). cond t a b) (lt-ltb a n h)

first-none : {n : ℕ} (a b : ℕ) → n ≤ a → first_of n a b ≡ b
first-none {n} a b h = ap (λ (t : Bool). cond t a b) (le-ltb a n h)

-- what stands in a list does not depend on what stands beyond it
inside-default : (l : List ℕ) (i a b : ℕ) → i < length l → get_or l i a ≡ get_or l i b
inside-default [] i a b h = absurd (not-suc-le-zero h)
inside-default (x ∷ xs) zero a b h = refl
inside-default (x ∷ xs) (suc i) a b h = inside-default xs i a b (le_of_suc-le-suc h)

-- a child with none before it, or none at all
record Lowest (s : List ℕ) (v i c : ℕ) : Type 0 where
  node : c < length s
  from : i ≤ c
  is : Child s v c
  gap : (j : ℕ) → i ≤ j → j < c → is_child s v j ≡ false

lowest_child_lem : (s : List ℕ) (v i : ℕ) → i ≤ length s → lowest_child s v i < length s → Lowest s v i (lowest_child s v i)
lowest_child_lem s v i h b =
    let l = least_from_lem (is_child s v) i (length s - i) in
    record { node = b; from = l.from; is = test-child s v _ (l.here (omega arith)); gap = l.before }

lowest-none : (s : List ℕ) (v i : ℕ) → i ≤ length s → length s ≤ lowest_child s v i → (j : ℕ) → i ≤ j → j < length s → is_child s v j ≡ false
lowest-none s v i h b j a e = (least_from_lem (is_child s v) i (length s - i)).before j a (omega arith)

-- ---- the numbers of a node's child and next sibling

module _ {s : List ℕ} (t : Tree s) where
  child-number : {v c : ℕ} → Child s v c → c < length s → preorder_number s c ≡ preorder_number s v + suc (child_sum s v (size s) c)
  child-number {v} {c} k h =
      subst (λ (u : ℕ). preorder_number s c ≡ preorder_number s u + suc (child_sum s u (size s) c)) k.of (preorder-child t c h (not_itself k))

  -- the lowest child comes directly after its parent
  first-number : {v c : ℕ} → Lowest s v 0 c → preorder_number s c ≡ suc (preorder_number s v)
  first-number {v} {c} l =
      let e = child-number l.is l.node in
      let none : child_sum s v (size s) c ≡ 0 = sum-gap s v (size s) 0 c zero-le l.gap ∙ sum-zero s v (size s) in
      omega arith

  -- a node without a child carries itself alone
  childless-size : (v : ℕ) → v < length s → length s ≤ lowest_child s v 0 → size s v ≡ 1
  childless-size v h b =
      size-sum t v h ∙ ap suc (sum-gap s v (size s) 0 (length s) zero-le (lowest-none s v 0 zero-le b) ∙ sum-zero s v (size s))

  -- the sum over the children after v and before i
  past : {p v : ℕ} (i : ℕ) → Child s p v → v < i → ((j : ℕ) → suc v ≤ j → j < i → is_child s p j ≡ false)
      → child_sum s p (size s) i ≡ child_sum s p (size s) v + size s v
  past {p} {v} i k h gap = sum-gap s p (size s) (suc v) i h gap ∙ sum-child s p (size s) v (child-test k)

  -- the next sibling comes directly after all that v carries
  sibling-number : {p v w : ℕ} → v < length s → Child s p v → Lowest s p (suc v) w → preorder_number s w ≡ preorder_number s v + size s v
  sibling-number {p} {v} {w} h k l =
      let e = child-number l.is l.node in
      let f = child-number k h in
      let g = past w k l.from l.gap in
      omega arith

  -- a last child ends where its parent does
  last-ends : {p v : ℕ} → p < length s → v < length s → Child s p v → length s ≤ lowest_child s p (suc v)
      → preorder_number s p + size s p ≡ preorder_number s v + size s v
  last-ends {p} {v} hp h k b =
      let e = size-sum t p hp in
      let f = child-number k h in
      let g = past (length s) k h (lowest-none s p (suc v) h b) in
      omega arith

  -- ---- the next node

  -- a node stands where its number says
  pub at-number : (v k : ℕ) → v < length s → preorder_number s v ≡ suc k → node_at s k ≡ v
  at-number v k h e =
      let most = preorder-most t v h in
      let long = preorder-length t in
      let here : preorder_number s v - 1 ≡ k = omega arith in
      inside-default (preorder s) k (length s) 0 (omega arith) ∙ ap (λ (i : ℕ). get_or (preorder s) i 0) (sym here) ∙ preorder-at t v h

  -- a place below n has a node, of the number that is one more
  pub at-node : (k : ℕ) → k < length s → At s (node_at s k) k
  at-node k h =
      let long = preorder-length t in
      let same : node_at s k ≡ get_or (preorder s) k 0 = inside-default (preorder s) k (length s) 0 (omega arith) in
      record { node = rw same (preorder-part t k h); number = rw same (preorder_number-at t k h) }

  -- no other has
  pub at_none : (k : ℕ) → length s ≤ k → node_at s k ≡ length s
  at_none k h = let long = preorder-length t in get_or-eq_default (preorder s) (length s) (omega arith)

  -- after all that v carries comes its next sibling, or else what comes after its parent
  pub after_is : (v : ℕ) → v < length s → first_of (length s) (next_sibling s v) (node_after s (parent s v)) ≡ node_after s v
  after_is v h =
      let p = parent s v in
      by-test (is_root s v)
      (λ r. rw r (first-none (length s) _ (le_refl _) ∙ ap (node_after s) (root_is s v r)))
      (λ r. rw r (
      let k : Child s p v = own-child (λ e. absurd (true≢false (sym (is_root_lem s v e) ∙ r))) in
      let w = lowest_child s p (suc v) in
      by_order (length s) w
      (λ b.
      let last = last-ends (t.inside v h) h k b in
      let pv = preorder-pos s v in
      let pp = preorder-pos s p in
      let same : preorder_number s p - 1 + size s p ≡ preorder_number s v - 1 + size s v = omega arith in
      first-none w _ b ∙ ap (node_at s) same)
      (λ b.
      let number = sibling-number h k (lowest_child_lem s p (suc v) h b) in
      let pv = preorder-pos s v in
      first_some w _ b ∙ sym (at-number w (preorder_number s v - 1 + size s v) b (omega arith)))))

  -- after v comes its lowest child, or else what comes after all that it carries
  pub next-is : (v : ℕ) → v < length s → first_of (length s) (lowest_child s v 0) (node_after s v) ≡ node_at s (preorder_number s v)
  next-is v h =
      let c = lowest_child s v 0 in
      by_order (length s) c
      (λ b.
      let one = childless-size v h b in
      let pv = preorder-pos s v in
      let same : preorder_number s v - 1 + size s v ≡ preorder_number s v = omega arith in
      first-none c _ b ∙ ap (node_at s) same)
      (λ b. first_some c _ b ∙ sym (at-number c (preorder_number s v) b (first-number (lowest_child_lem s v 0 zero-le b))))
