-- Sums over the children of a node.
-- Assumes nothing.
use Prim.Native.Nat.{ℕ, zero, suc, ◌+◌, ◌*◌, ◌≤◌, ◌<◌}
use native.Mathlib.Nat.{not-suc-le-zero, lt-suc_self, add-zero}
use native.Mathlib.Omega.{arith}
use mathlib.Core.Path.{◌≡◌, refl, sym, ap, ◌∙◌, subst}
use mathlib.Core.Bool.{true, false}
use mathlib.Core.List.{List, []}
use lib.ListN.{length, length-append}
use Rattle.tree.specs.Preorder.{is_child, each_child, child_sum}
use Rattle.tree.proofs.Scans.{by-test, by_equal, by_order}
use Rattle.tree.proofs.PreorderList.{Child, child-test, test-child}

-- the child of v below i in whose summand the number k falls
pub record Summand (s : List ℕ) (v : ℕ) (f : ℕ → ℕ) (i k : ℕ) : Type 0 where
  pub child : ℕ
  pub below : child < i
  pub is : Child s v child
  pub from : child_sum s v f child ≤ k
  pub to : k < child_sum s v f child + f child

module _ (s : List ℕ) (v : ℕ) where
  -- the children's lists are together as long as the sum of their lengths
  pub each-length : (visit : ℕ → List ℕ) (i : ℕ) → length (each_child s v visit i) ≡ child_sum s v (λ c. length (visit c)) i
  unfolding each_child child_sum
  each-length visit zero = refl
  each-length visit (suc i) =
      let earlier = each-length visit i in
      by-test (is_child s v i)
      (λ e. rw e (length-append (each_child s v visit i) (visit i) ∙ ap (λ (k : ℕ). k + length (visit i)) earlier))
      (λ e. rw e (length-append (each_child s v visit i) [] ∙ ap (λ (k : ℕ). k + 0) earlier))

  -- one more child, or none
  pub sum-child : (f : ℕ → ℕ) (i : ℕ) → is_child s v i ≡ true → child_sum s v f (suc i) ≡ child_sum s v f i + f i
  unfolding child_sum
  sum-child f i e = rw e

  sum-other : (f : ℕ → ℕ) (i : ℕ) → is_child s v i ≡ false → child_sum s v f (suc i) ≡ child_sum s v f i
  unfolding child_sum
  sum-other f i e = rw e (add-zero (child_sum s v f i))

  -- the sum below 0 is 0, and it stays where there is no child
  pub sum-zero : (f : ℕ → ℕ) → child_sum s v f 0 ≡ 0
  unfolding child_sum
  sum-zero f = refl

  pub sum-gap : (f : ℕ → ℕ) (i j : ℕ) → i ≤ j → ((c : ℕ) → i ≤ c → c < j → is_child s v c ≡ false) → child_sum s v f j ≡ child_sum s v f i
  sum-gap f i zero h gap = ap (child_sum s v f) (omega arith)
  sum-gap f i (suc j) h gap =
      let earlier = sum-gap f i j in
      by_equal i (suc j) (λ e. ap (child_sum s v f) (sym e))
      (λ e. sum-other f j (gap j (omega arith) (lt-suc_self j)) ∙ earlier (omega arith) (λ c a b. gap c a (omega arith)))

  -- what is the same for each child has the same sum
  pub sum_same : (f g : ℕ → ℕ) (i : ℕ) → ((c : ℕ) → c < i → Child s v c → f c ≡ g c) → child_sum s v f i ≡ child_sum s v g i
  unfolding child_sum
  sum_same f g zero h = refl
  sum_same f g (suc i) h =
      let earlier = sum_same f g i (λ c b. h c (omega arith)) in
      by-test (is_child s v i) (λ e. rw (e, earlier, h i (lt-suc_self i) (test-child s v i e))) (λ e. rw (e, earlier))

  -- the sum of doubles is the double of the sum
  pub sum-double : (f : ℕ → ℕ) (i : ℕ) → child_sum s v (λ c. 2 * f c) i ≡ 2 * child_sum s v f i
  unfolding child_sum
  sum-double f zero = refl
  sum-double f (suc i) =
      let earlier = sum-double f i in
      by-test (is_child s v i) (λ e. rw e (omega arith)) (λ e. rw e (omega arith))

  -- the sum up to a child and that child's summand are within the whole sum
  pub sum-within : (f : ℕ → ℕ) (i c : ℕ) → c < i → Child s v c → child_sum s v f c + f c ≤ child_sum s v f i
  sum-within f zero c h is = absurd (not-suc-le-zero h)
  sum-within f (suc i) c h is =
      let earlier = sum-within f i c in
      by_equal c i
      (λ e.
      let here : child_sum s v f (suc c) ≡ child_sum s v f c + f c = sum-child f c (child-test is) in
      subst (λ (j : ℕ). child_sum s v f c + f c ≤ child_sum s v f (suc j)) e (omega arith))
      (λ e.
      let b : child_sum s v f c + f c ≤ child_sum s v f i = earlier (omega arith) is in
      by-test (is_child s v i)
      (λ k. let more = sum-child f i k in omega arith)
      (λ k. let more = sum-other f i k in omega arith))

  -- each number below the sum falls in a child's summand
  pub summand : (f : ℕ → ℕ) (i k : ℕ) → k < child_sum s v f i → Summand s v f i k
  unfolding child_sum
  summand f zero k h = absurd (not-suc-le-zero h)
  summand f (suc i) k h =
      let earlier = summand f i k in
      let wider : k < child_sum s v f i → Summand s v f (suc i) k = λ b.
      let r = earlier b in
      record { child = r.child; below = omega (arith, r.below); is = r.is; from = r.from; to = r.to } in
      by_order (child_sum s v f i) k
      (λ b. by-test (is_child s v i)
      (λ e. record { child = i; below = lt-suc_self i; is = test-child s v i e; from = b; to = rw e at h })
      (λ e. let none : k < child_sum s v f i + 0 = rw e at h in absurd (omega arith)))
      wider
