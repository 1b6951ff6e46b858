-- What a node carries is the interval PREORDER..PREORDER+SIZE−1 of the numbers.
-- Assumes nothing.
use Prim.Native.Nat.{ℕ, zero, suc, ◌+◌, ◌-◌, ◌≤◌, ◌<◌}
use native.Mathlib.Nat.{le_refl, le_trans}
use native.Mathlib.Omega.{arith}
use mathlib.Core.Path.{◌≡◌, refl, sym, ap, ◌∙◌, subst}
use mathlib.Core.List.{List}
use lib.ListN.{length, get_or}
use Rattle.tree.specs.Tree.{parent, climb, Ancestor, level, Tree}
use Rattle.tree.specs.Preorder.{preorder_in, preorder, preorder_number, size, child_sum}
use Rattle.tree.proofs.Scans.{by_equal}
use Rattle.tree.proofs.Orders.{member-at}
use Rattle.tree.proofs.Trees.{level-below}
use Rattle.tree.proofs.PreorderList.{member-carried}
use Rattle.tree.proofs.Sums.{sum-within}
use Rattle.tree.proofs.Blocks.{stands_at}
use Rattle.tree.proofs.Sizes.{size-sum, in-length, preorder-pos, preorder-at, preorder-block, preorder-child}

-- the numbers of v and of all that it carries are among those of a
record Within (s : List ℕ) (a v : ℕ) : Type 0 where
  from : preorder_number s a ≤ preorder_number s v
  to : preorder_number s v + size s v ≤ preorder_number s a + size s a

module _ {s : List ℕ} (t : Tree s) where
  parent-within : (v : ℕ) → v < length s → Within s (parent s v) v
  parent-within v h =
      by_equal (parent s v) v
      (λ e. rw e (record { from = le_refl _; to = le_refl _ }))
      (λ q.
      let p = parent s v in
      let number = preorder-child t v h q in
      let whole = size-sum t p (t.inside v h) in
      let part : child_sum s p (size s) v + size s v ≤ child_sum s p (size s) (length s) =
      sum-within s p (size s) (length s) v h (record { of = refl; other = λ e. q (sym e) }) in
      record { from = omega arith; to = omega arith })

  climb-within : (k v : ℕ) → v < length s → Within s (climb s k v) v
  unfolding climb
  climb-within zero v h = record { from = le_refl _; to = le_refl _ }
  climb-within (suc k) v h =
      let up = parent-within v h in
      let on = climb-within k (parent s v) (t.inside v h) in
      record { from = le_trans on.from up.from; to = le_trans up.to on.to }

  carried-within : {a v : ℕ} → v < length s → Ancestor s a v → Within s a v
  carried-within {a} {v} h p = subst (λ (u : ℕ). Within s u v) p.reaches (climb-within p.steps v h)

  -- what a carries is numbered from a's number on
  pub carried_from : {a v : ℕ} → v < length s → Ancestor s a v → preorder_number s a ≤ preorder_number s v
  carried_from h p = (carried-within h p).from

  -- .. to the end of a's interval
  pub carried-to : {a v : ℕ} → v < length s → Ancestor s a v → preorder_number s v + size s v ≤ preorder_number s a + size s a
  carried-to h p = (carried-within h p).to

  -- a carries whatever is numbered within its interval
  pub interval-carried : {a v : ℕ} → a < length s → v < length s → preorder_number s a ≤ preorder_number s v
      → preorder_number s v < preorder_number s a + size s a → Ancestor s a v
  unfolding preorder
  interval-carried {a} {v} ha hv from to =
      let f = length s - level s a in
      let deep = level-below t a ha in
      let long : length (preorder_in s f a) ≡ size s a = in-length t f a ha (omega arith) in
      let pos = preorder-pos s a in
      let k = preorder_number s v - preorder_number s a in
      let below : k < length (preorder_in s f a) = omega arith in
      let e : preorder_number s a - 1 + k ≡ preorder_number s v - 1 = omega arith in
      let cell : get_or (preorder s) (preorder_number s a - 1 + k) 0 ≡ get_or (preorder_in s f a) k 0 = stands_at (preorder-block t a ha) k below in
      let here : get_or (preorder_in s f a) k 0 ≡ v = sym cell ∙ ap (λ (i : ℕ). get_or (preorder s) i 0) e ∙ preorder-at t v hv in
      subst (Ancestor s a) here (member-carried t f a _ ha (member-at (preorder_in s f a) k below)).0
