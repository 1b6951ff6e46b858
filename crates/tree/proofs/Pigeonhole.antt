-- Different numbers below n are at most n many, and a test is counted along them as below n.
-- Assumes nothing.
use Prim.Native.Nat.{ℕ, zero, suc, ◌≤◌, ◌<◌, zero-le, suc-le-suc}
use native.Mathlib.Nat.{not-suc-le-zero, zero-lt-suc, lt-suc_self, le_of_eq, mul-zero}
use native.Mathlib.Omega.{arith}
use mathlib.Core.Path.{◌≡◌, refl, sym, ap, ◌∙◌}
use mathlib.Core.Logic.{◌≢◌}
use mathlib.Core.Bool.{Bool, true, false, cond, not, ◌&&◌, and-true, and-false, and-eq-true_iff, true≢false}
use borrow.Author.Tests.{eq-eqb, ne_eqb, eqb-false, not-true}
use lib.Dec.{eqb}
use Rattle.tree.specs.Scan.{count_below}
use Rattle.tree.proofs.Scans.{by-test, by_equal, count-pos, count_same, count-constant, count-one}

-- f with its value at m in the place of the value n
moved : (ℕ → ℕ) → ℕ → ℕ → ℕ → ℕ
moved f n m i = cond (eqb (f i) n) (f m) (f i)

moved-hit : (f : ℕ → ℕ) (n m i : ℕ) → f i ≡ n → moved f n m i ≡ f m
unfolding moved
moved-hit f n m i e = rw (eq-eqb (f i) n e)

moved-miss : (f : ℕ → ℕ) (n m i : ℕ) → f i ≢ n → moved f n m i ≡ f i
unfolding moved
moved-miss f n m i e = rw (ne_eqb (f i) n e)

pub pigeonhole : (n m : ℕ) (f : ℕ → ℕ) → ((i : ℕ) → i < m → f i < n) → ((i j : ℕ) → i < j → j < m → f i ≢ f j) → m ≤ n
pigeonhole zero zero f below apart = zero-le
pigeonhole zero (suc m) f below apart = absurd (not-suc-le-zero (below zero (zero-lt-suc m)))
pigeonhole (suc n) zero f below apart = zero-le
pigeonhole (suc n) (suc m) f below apart = suc-le-suc (pigeonhole n m (moved f n m) below' apart')
  where
    below' : (i : ℕ) → i < m → moved f n m i < n
    below' i h =
        let bi : f i < suc n = below i (omega arith) in
        let bm : f m < suc n = below m (lt-suc_self m) in
        by_equal (f i) n
        (λ e. let q : f m ≢ n = λ g. apart i m h (lt-suc_self m) (e ∙ sym g) in rw (moved-hit f n m i e) (omega arith))
        (λ e. rw (moved-miss f n m i e) (omega arith))

    apart' : (i j : ℕ) → i < j → j < m → moved f n m i ≢ moved f n m j
    apart' i j h g e =
        by_equal (f i) n
        (λ p. by_equal (f j) n
        (λ q. apart i j h (omega arith) (p ∙ sym q))
        (λ q. apart j m g (lt-suc_self m) (sym (moved-miss f n m j q) ∙ sym e ∙ moved-hit f n m i p)))
        (λ p. by_equal (f j) n
        (λ q. apart i m (omega arith) (lt-suc_self m) (sym (moved-miss f n m i p) ∙ e ∙ moved-hit f n m j q))
        (λ q. apart i j h (omega arith) (sym (moved-miss f n m i p) ∙ e ∙ moved-miss f n m j q)))

-- ---- a test counted along different numbers

-- f 0 to f (k − 1) are different numbers below n
pub record Apart (n : ℕ) (f : ℕ → ℕ) (k : ℕ) : Type 0 where
  pub below : (i : ℕ) → i < k → f i < n
  pub apart : (i j : ℕ) → i < j → j < k → f i ≢ f j

-- so are the first of them
apart-fewer : {n k : ℕ} {f : ℕ → ℕ} → Apart n f (suc k) → Apart n f k
apart-fewer a = record { below = λ i h. a.below i (omega arith); apart = λ i j h b. a.apart i j h (omega arith) }

-- the test q, but for one number
but : (ℕ → Bool) → ℕ → ℕ → Bool
but q x j = q j && not (eqb j x)

but-here : (q : ℕ → Bool) (x : ℕ) → but q x x ≡ false
unfolding but
but-here q x = rw (eq-eqb x x refl) (and-false (q x))

but-other : (q : ℕ → Bool) (x j : ℕ) → j ≢ x → but q x j ≡ q j
unfolding but
but-other q x j e = rw (ne_eqb j x e) (and-true (q j))

but-true : (q : ℕ → Bool) (x j : ℕ) → but q x j ≡ true → (q j ≡ true) × (j ≢ x)
unfolding but
but-true q x j e = let (yes-q, no-x) = (and-eq-true_iff _ _).0 e in (yes-q, eqb-false j x (not-true _ no-x))

-- without the last of the numbers, of which q holds: below n it counts one less, and along the others as much
but_last : {n k : ℕ} {f : ℕ → ℕ} (q : ℕ → Bool) → Apart n f (suc k) → q (f k) ≡ true
    → (count_below q n ≡ suc (count_below (but q (f k)) n)) × (count_below (λ i. but q (f k) (f i)) k ≡ count_below (λ i. q (f i)) k)
but_last {n} {k} {f} q a yes-q = (
  count-one q (but q (f k)) n (f k) (a.below k (lt-suc_self k)) (λ j e. but-other q (f k) j e) yes-q (but-here q (f k)),
  count_same (λ i. q (f i)) (λ i. but q (f k) (f i)) k (λ j b. but-other q (f k) (f j) (a.apart j k b (lt-suc_self k))),
)

-- where q holds of a number that is none of them, it counts less along them than below n
pub count-apart : (n k : ℕ) (f : ℕ → ℕ) (q : ℕ → Bool) → Apart n f k → (c : ℕ) → c < n → q c ≡ true → ((i : ℕ) → i < k → f i ≢ c)
    → count_below (λ i. q (f i)) k < count_below q n
unfolding count_below
count-apart n zero f q a c h e none_is = count-pos q n c h e
count-apart n (suc k) f q a c h e none_is =
    let rest : (r : ℕ → Bool) → r c ≡ true → count_below (λ i. r (f i)) k < count_below r n =
    λ r yes-r. count-apart n k f r (apart-fewer a) c h yes-r (λ i b. none_is i (omega arith)) in
    by-test (q (f k))
    (λ yes-q.
    let (one_less, same) = but_last q a yes-q in
    let ih = rest (but q (f k)) (but-other q (f k) c (λ g. none_is k (lt-suc_self k) (sym g)) ∙ e) in
    rw yes-q (omega arith))
    (λ no-q. let ih = rest q e in rw no-q (omega arith))

-- where every number of which q holds is one of them, it counts no more below n than along them
pub count-cover : (n k : ℕ) (f : ℕ → ℕ) (q : ℕ → Bool) → Apart n f k → ((c : ℕ) → c < n → q c ≡ true → (i : ℕ) × (i < k) × (f i ≡ c))
    → count_below q n ≤ count_below (λ i. q (f i)) k
unfolding count_below
count-cover n zero f q a is =
    le_of_eq (count-constant q false n (λ j h. by-test (q j) (λ e. absurd (not-suc-le-zero (is j h e).1)) (λ e. e)) ∙ mul-zero n)
count-cover n (suc k) f q a is =
    let rest : (r : ℕ → Bool) → ((c : ℕ) → c < n → r c ≡ true → (q c ≡ true) × (c ≢ f k)) → count_below r n ≤ count_below (λ i. r (f i)) k =
    λ r less. count-cover n k f r (apart-fewer a)
    (λ c h e.
    let (yes-q, other) = less c h e in
    let at = is c h yes-q in
    (at.0, by_equal at.0 k (λ g. absurd (other (sym at.2 ∙ ap f g))) (λ g. let b = at.1 in omega arith), at.2)) in
    by-test (q (f k))
    (λ yes-q.
    let (one_less, same) = but_last q a yes-q in
    let ih = rest (but q (f k)) (λ c h e. but-true q (f k) c e) in
    rw yes-q (omega arith))
    (λ no-q. let ih = rest q (λ c h e. (e, λ g. absurd (true≢false (sym e ∙ ap q g ∙ no-q)))) in rw no-q (omega arith))
