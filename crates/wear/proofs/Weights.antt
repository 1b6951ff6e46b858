-- The total of a part by those of its children, as SIZE by theirs; that of the root; and the most that a total can be.
-- Assumes nothing.
use Prim.Native.Nat.{ℕ, zero, suc, ◌+◌, ◌*◌, ◌≤◌, ◌<◌}
use native.Mathlib.Omega.{arith}
use mathlib.Core.Path.{◌≡◌, refl, sym, ap, ◌∙◌}
use mathlib.Core.Bool.{true}
use mathlib.Core.List.{List, []}
use lib.ListN.{length}
use Rattle.tree.specs.Tree.{Tree, is_ancestor, level}
use Rattle.tree.specs.Preorder.{is_child, each_child, child_sum, preorder_in}
use Rattle.tree.proofs.Scans.{by-test}
use Rattle.tree.proofs.Climbs.{ancestor-test, test-ancestor}
use Rattle.tree.proofs.Precedes.{Precedes, precedes-irrefl}
use Rattle.tree.proofs.PreorderList.{member-carried, carried-member, preorder-ordered}
use Rattle.tree.proofs.Sums.{sum_same}
use Rattle.wear.specs.Sums.{sum_where, sum_over, sum_of}
use Rattle.wear.specs.Totals.{count_at, count_limit, total}
use Rattle.wear.proofs.Adding.{where-same, where-most, over-append, ordered-sum, list-sum}

-- the children's lists have together the sum of their sums
each-sum : (f : ℕ → ℕ) (s : List ℕ) (v : ℕ) (visit : ℕ → List ℕ) (i : ℕ) → sum_over f (each_child s v visit i) ≡ child_sum s v (λ c. sum_over f (visit c)) i
unfolding each_child child_sum sum_over
each-sum f s v visit zero = refl
each-sum f s v visit (suc i) =
    let earlier = each-sum f s v visit i in
    by-test (is_child s v i)
    (λ e. rw e (over-append f (each_child s v visit i) (visit i) ∙ ap (λ (k : ℕ). k + sum_over f (visit i)) earlier))
    (λ e. rw e (over-append f (each_child s v visit i) [] ∙ ap (λ (k : ℕ). k + 0) earlier))

-- the sum over children is one over the numbers that are children
child-where : (s : List ℕ) (v : ℕ) (f : ℕ → ℕ) (i : ℕ) → child_sum s v f i ≡ sum_where (is_child s v) f i
unfolding child_sum sum_where
child-where s v f zero = refl
child-where s v f (suc i) = let earlier = child-where s v f i in omega arith

module _ {s : List ℕ} (t : Tree s) (counts : List ℕ) where
  -- the list of a node has its total, where the levels allowed are enough
  in-total : (k v : ℕ) → v < length s → length s ≤ k + level s v → sum_over (count_at counts) (preorder_in s k v) ≡ total s counts v
  unfolding total
  in-total k v h enough =
      ordered-sum (Precedes s) (length s) (λ x b p. precedes-irrefl t b p) (count_at counts) (is_ancestor s v) (preorder_in s k v) (preorder-ordered t k v h)
      (λ x m. let (p, b) = member-carried t k v x h m in (b, ancestor-test t.inside b p))
      (λ x b e. carried-member t k v x h b enough (test-ancestor s v x e))

  -- a total is the part's own count and the children's totals
  pub total-children : (v : ℕ) → v < length s → total s counts v ≡ count_at counts v + sum_where (is_child s v) (total s counts) (length s)
  unfolding preorder_in sum_over
  total-children v h =
      let n = length s in
      let f = count_at counts in
      sym (in-total (suc n) v h (omega arith))
      ∙ ap (λ (j : ℕ). f v + j)
      (each-sum f s v (preorder_in s n) n ∙ sum_same s v (λ c. sum_over f (preorder_in s n c)) (total s counts) n (λ c b _. in-total n c b (omega arith))
      ∙ child-where s v (total s counts) n)

  -- the root carries every part, so its total is the sum of the list
  pub total-root : length counts ≡ length s → total s counts t.root ≡ sum_of counts
  unfolding total
  total-root fits =
      where-same (λ _. true) (is_ancestor s t.root) (count_at counts) (count_at counts) (length s)
      (λ v h. ancestor-test t.inside h (t.reach v h)) (λ j b. refl)
      ∙ ap (sum_where (λ _. true) (count_at counts)) (sym fits) ∙ sym (list-sum counts)

-- no total passes n times the largest count
pub total-most : (s counts : List ℕ) (v : ℕ) → ((u : ℕ) → u < length s → count_at counts u ≤ count_limit) → total s counts v ≤ length s * count_limit
unfolding total
total-most s counts v most = where-most (is_ancestor s v) (count_at counts) (length s) count_limit most
