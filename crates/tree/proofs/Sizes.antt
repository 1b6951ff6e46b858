-- SIZE and PREORDER by the recurrences that number a tree, and PREORDER as the place of a node in the list.
-- Assumes nothing.
use Prim.Native.Nat.{ℕ, suc, ◌+◌, ◌-◌, ◌≤◌, ◌<◌}
use native.Mathlib.Nat.{zero-lt-suc, mul-one}
use native.Mathlib.Omega.{arith}
use mathlib.Core.Path.{◌≡◌, refl, sym, ap, ◌∙◌, subst, fun_ext}
use mathlib.Core.Logic.{◌≢◌}
use mathlib.Core.Bool.{true}
use mathlib.Core.List.{List, [], ◌∷◌, append-nil}
use lib.ListN.{length, get_or}
use Rattle.tree.specs.Scan.{position}
use Rattle.tree.specs.Tree.{parent, is_ancestor, root_of, level, Tree}
use Rattle.tree.specs.Preorder.{each_child, preorder_in, preorder, preorder_number, size, child_sum}
use Rattle.tree.proofs.Scans.{position_here, count-constant}
use Rattle.tree.proofs.Orders.{ordered-count}
use Rattle.tree.proofs.Climbs.{ancestor-test, test-ancestor}
use Rattle.tree.proofs.Trees.{root-found}
use Rattle.tree.proofs.Precedes.{Precedes, precedes-irrefl}
use Rattle.tree.proofs.PreorderList.{member-carried, carried-member, preorder-ordered}
use Rattle.tree.proofs.Preorders.{preorder-meets}
use Rattle.tree.proofs.Sums.{each-length, sum_same}
use Rattle.tree.proofs.Blocks.{Stands, stands_at, stands-within, stands-left, Visiting, Block, block-opens, block-child, block}

-- the place in the list is one less
number-place : (s : List ℕ) (v : ℕ) → preorder_number s v ≡ suc (position (preorder s) v)
unfolding preorder_number
number-place s v = refl

-- PREORDER counts from 1
pub preorder-pos : (s : List ℕ) (v : ℕ) → 0 < preorder_number s v
preorder-pos s v = let place = number-place s v in omega arith

module _ {s : List ℕ} (t : Tree s) where
  -- ---- SIZE

  -- the list of a node is as long as its SIZE, where the levels allowed are enough
  pub in-length : (f v : ℕ) → v < length s → length s ≤ f + level s v → length (preorder_in s f v) ≡ size s v
  unfolding size
  in-length f v h enough =
      ordered-count (Precedes s) (length s) (λ x b p. precedes-irrefl t b p) (is_ancestor s v) (preorder_in s f v) (preorder-ordered t f v h)
      (λ x m. let (p, b) = member-carried t f v x h m in (b, ancestor-test t.inside b p))
      (λ x b e. carried-member t f v x h b enough (test-ancestor s v x e))

  -- SIZE is one more than the children's together
  pub size-sum : (v : ℕ) → v < length s → size s v ≡ suc (child_sum s v (size s) (length s))
  unfolding preorder_in
  size-sum v h =
      let n = length s in
      sym (in-length (suc n) v h (omega arith))
      ∙ ap suc (each-length s v (preorder_in s n) n ∙ sum_same s v (λ c. length (preorder_in s n c)) (size s) n (λ c b _. in-length n c b (omega arith)))

  -- the root carries every node
  pub size-root : size s t.root ≡ length s
  unfolding size
  size-root = count-constant (is_ancestor s t.root) true (length s) (λ v h. ancestor-test t.inside h (t.reach v h)) ∙ mul-one (length s)

  -- ---- the list

  -- it lists n nodes
  pub preorder-length : length (preorder s) ≡ length s
  unfolding preorder
  preorder-length =
      let root : root_of s < length s = rw (root-found t) at t.root-inside in
      in-length (length s) (root_of s) root (omega arith) ∙ ap (size s) (sym (root-found t)) ∙ size-root

  -- where a node stands in the list is its place
  pub preorder-at : (v : ℕ) → v < length s → get_or (preorder s) (preorder_number s v - 1) 0 ≡ v
  preorder-at v h =
      let e : preorder_number s v - 1 ≡ position (preorder s) v = let p = number-place s v in omega arith in
      rw e (position_here (preorder s) v ((preorder-meets t).listed v h))

  -- PREORDER is at most n
  pub preorder-most : (v : ℕ) → v < length s → preorder_number s v ≤ length s
  preorder-most v h =
      let below = (preorder-meets t).listed v h in
      let long = preorder-length in
      let place = number-place s v in
      omega arith

  -- each place has its node
  pub preorder_number-at : (i : ℕ) → i < length s → preorder_number s (get_or (preorder s) i 0) ≡ suc i
  preorder_number-at i h =
      let long = preorder-length in
      number-place s (get_or (preorder s) i 0) ∙ ap suc ((preorder-meets t).once i (omega arith))

  -- .. which is one of the tree's
  pub preorder-part : (i : ℕ) → i < length s → get_or (preorder s) i 0 < length s
  preorder-part i h = let long = preorder-length in (preorder-meets t).part i (omega arith)

  -- different nodes have different numbers
  pub preorder-injective : (u v : ℕ) → u < length s → v < length s → preorder_number s u ≡ preorder_number s v → u ≡ v
  preorder-injective u v hu hv e = sym (preorder-at u hu) ∙ ap (λ (k : ℕ). get_or (preorder s) (k - 1) 0) e ∙ preorder-at v hv

  -- ---- PREORDER

  -- preorder is made of a node and its children's lists, with nothing after them
  made : Visiting s (preorder_in s) (λ _. []) (size s)
  unfolding preorder_in
  made = record {
    opens = λ f v. ap (λ (visit : ℕ → List ℕ). v ∷ each_child s v visit (length s)) (fun_ext (λ c. sym (append-nil (preorder_in s f c))));
    wide = λ f v c h enough. ap length (append-nil (preorder_in s f c)) ∙ in-length f c h enough;
  }

  -- where a node's list stands, the node stands
  block-number : (v a : ℕ) → v < length s → Block s (preorder_in s) v a → preorder_number s v ≡ suc a
  unfolding preorder
  block-number v a h stands =
      let opened = subst (Stands (preorder s) a) (block-opens t made v h) stands in
      let here : get_or (preorder s) (a + 0) 0 ≡ v = stands_at opened 0 (zero-lt-suc _) in
      let e : a + 0 ≡ a = omega arith in
      let within = stands-within opened in
      let long = preorder-length in
      ap (preorder_number s) (sym (rw e at here)) ∙ preorder_number-at a (omega arith)

  -- the root has number 1
  pub preorder-root : preorder_number s t.root ≡ 1
  preorder-root =
      let some : 0 < length s = omega (arith, t.root-inside) in
      let first = t.root-only (get_or (preorder s) 0 0) (preorder-part 0 some) (preorder-meets t).root-first in
      ap (preorder_number s) (sym first) ∙ preorder_number-at 0 some

  -- a child's number, from where its parent's list stands
  block-step : (v : ℕ) → v < length s → parent s v ≢ v → Block s (preorder_in s) (parent s v) (preorder_number s (parent s v) - 1)
      → preorder_number s v ≡ preorder_number s (parent s v) + suc (child_sum s (parent s v) (size s) v)
  block-step v h q above =
      let pos = preorder-pos s (parent s v) in
      let stands = block-child t made v (preorder_number s (parent s v) - 1) h q above in
      let number = block-number v _ h (stands-left (preorder_in s (length s - level s v) v) [] stands) in
      omega arith

  -- the list of a node begins at its place
  pub preorder-block : (v : ℕ) → v < length s → Block s (preorder_in s) v (preorder_number s v - 1)
  preorder-block =
      block t made (λ v. preorder_number s v - 1) (let first = preorder-root in omega arith)
      (λ v h q above. let number = block-step v h q above in let pos = preorder-pos s (parent s v) in omega arith)

  -- a child's number is one more than its parent's and the sizes of the lower children
  pub preorder-child : (v : ℕ) → v < length s → parent s v ≢ v
      → preorder_number s v ≡ preorder_number s (parent s v) + suc (child_sum s (parent s v) (size s) v)
  preorder-child v h q = block-step v h q (preorder-block (parent s v) (t.inside v h))

  -- a parent is numbered before its child
  pub preorder-parent : (v : ℕ) → v < length s → parent s v ≢ v → preorder_number s (parent s v) < preorder_number s v
  preorder-parent v h q = let e = preorder-child v h q in omega arith
