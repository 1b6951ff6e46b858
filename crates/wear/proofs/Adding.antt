-- Sums: over the numbers for which a test holds, and over lists.
-- Assumes nothing.
use Prim.Native.Nat.{ℕ, zero, suc, ◌+◌, ◌*◌, ◌≤◌, ◌<◌}
use native.Mathlib.Nat.{not-suc-le-zero, lt-suc_self, le_of_eq, zero-add, suc-mul}
use native.Mathlib.Omega.{arith}
use mathlib.Core.Path.{◌≡◌, refl, sym, ap, ◌∙◌, subst}
use mathlib.Core.Logic.{◌≢◌, ⊎_elim}
use mathlib.Core.Bool.{Bool, true, false, not, ◌&&◌, and-true, and-false, and-eq-true_iff}
use mathlib.Core.List.Memᴰ
use mathlib.Core.List.{List, [], ◌∷◌, ◌++◌, Memᴰ}
use borrow.Author.Tests.{eq-eqb, ne_eqb, eqb-false, not-true}
use lib.Dec.{eqb}
use lib.ListN.{length, get_or}
use Rattle.tree.proofs.Scans.{by-test, by_equal}
use Rattle.tree.proofs.Orders.{Ordered}
use Rattle.wear.specs.Sums.{sum_where, sum_over, sum_of}

-- ---- over numbers

-- tests and values that agree below n
pub where-same : (p q : ℕ → Bool) (f g : ℕ → ℕ) (n : ℕ) → ((j : ℕ) → j < n → q j ≡ p j) → ((j : ℕ) → j < n → g j ≡ f j) → sum_where q g n ≡ sum_where p f n
unfolding sum_where
where-same p q f g zero h e = refl
where-same p q f g (suc n) h e =
    rw (h n (lt-suc_self n), e n (lt-suc_self n), where-same p q f g n (λ j b. h j (omega arith)) (λ j b. e j (omega arith)))

-- no number
pub where-none : (p : ℕ → Bool) (f : ℕ → ℕ) (n : ℕ) → ((j : ℕ) → j < n → p j ≡ false) → sum_where p f n ≡ 0
unfolding sum_where
where-none p f zero h = refl
where-none p f (suc n) h = rw (h n (lt-suc_self n), where-none p f n (λ j b. h j (omega arith)))

-- tests that differ in one number
pub where-one : (p q : ℕ → Bool) (f : ℕ → ℕ) (n i : ℕ) → i < n → ((j : ℕ) → j ≢ i → q j ≡ p j) → p i ≡ true → q i ≡ false
    → sum_where p f n ≡ f i + sum_where q f n
unfolding sum_where
where-one p q f zero i h same yes-p no-q = absurd (not-suc-le-zero h)
where-one p q f (suc n) i h same yes-p no-q =
    let earlier = where-one p q f n i in
    by_equal i n
    (λ e.
    let yes-n : p n ≡ true = ap p (sym e) ∙ yes-p in
    let no-n : q n ≡ false = ap q (sym e) ∙ no-q in
    let below : sum_where q f n ≡ sum_where p f n = where-same p q f f n (λ j b. same j (λ g. absurd (omega arith))) (λ j b. refl) in
    let here : f i ≡ f n = ap f e in
    rw (yes-n, no-n, below) (omega arith))
    (λ e.
    let at_n : q n ≡ p n = same n (λ g. e (sym g)) in
    let ih : sum_where p f n ≡ f i + sum_where q f n = earlier (omega arith) same yes-p no-q in
    rw at_n (omega arith))

-- a test that holds of fewer numbers
pub where-fewer : (p q : ℕ → Bool) (f : ℕ → ℕ) (n : ℕ) → ((j : ℕ) → j < n → q j ≡ true → p j ≡ true) → sum_where q f n ≤ sum_where p f n
unfolding sum_where
where-fewer p q f zero h = le_of_eq refl
where-fewer p q f (suc n) h =
    let earlier = where-fewer p q f n (λ j b. h j (omega arith)) in
    by-test (q n) (λ e. rw (e, h n (lt-suc_self n) e) (omega arith)) (λ e. rw e (omega arith))

-- values of at most m
pub where-most : (p : ℕ → Bool) (f : ℕ → ℕ) (n m : ℕ) → ((j : ℕ) → j < n → f j ≤ m) → sum_where p f n ≤ n * m
unfolding sum_where
where-most p f zero m h = omega arith
where-most p f (suc n) m h =
    let earlier = where-most p f n m (λ j b. h j (omega arith)) in
    let one = h n (lt-suc_self n) in
    let more = suc-mul n m in
    by-test (p n) (λ e. rw e (omega arith)) (λ e. rw e (omega arith))

-- ---- over lists

pub over-append : (f : ℕ → ℕ) (xs ys : List ℕ) → sum_over f (xs ++ ys) ≡ sum_over f xs + sum_over f ys
unfolding sum_over
over-append f [] ys = sym (zero-add (sum_over f ys))
over-append f (x ∷ xs) ys = let rest = over-append f xs ys in omega arith

-- different numbers, namely those below n for which p holds, have the sum over these
pub ordered-sum : (R : ℕ → ℕ → Type 0) (n : ℕ) → ((x : ℕ) → x < n → R x x → ⊥) → (f : ℕ → ℕ) (p : ℕ → Bool) (l : List ℕ) → Ordered R l
    → ((x : ℕ) → Memᴰ x l → (x < n) × (p x ≡ true)) → ((x : ℕ) → x < n → p x ≡ true → Memᴰ x l) → sum_over f l ≡ sum_where p f n
unfolding sum_over
ordered-sum R n irrefl f p [] ordered member listed =
    sym (where-none p f n (λ j h. by-test (p j) (λ e. absurd (Memᴰ.not-nil (listed j h e))) (λ e. e)))
ordered-sum R n irrefl f p (x ∷ xs) ordered member listed =
    let q : ℕ → Bool = λ j. p j && not (eqb j x) in
    let here = member x (Memᴰ.head refl) in
    let one : sum_where p f n ≡ f x + sum_where q f n =
    where-one p q f n x here.0 (λ j g. rw (ne_eqb j x g) (and-true (p j))) here.1 (rw (eq-eqb x x refl) (and-false (p x))) in
    let rest : sum_over f xs ≡ sum_where q f n =
    ordered-sum R n irrefl f q xs ordered.1
    (λ y m.
    let there = member y (Memᴰ.tail m) in
    let other : y ≢ x = λ e. irrefl x here.0 (subst (R x) e (ordered.0 y m)) in
    (there.0, rw (there.1, ne_eqb y x other)))
    (λ y h e.
    let (a, b) = (and-eq-true_iff _ _).0 e in
    ⊎_elim (λ g. absurd (eqb-false y x (not-true _ b) g)) (λ m. m) (Memᴰ.cases_cons (listed y h a))) in
    omega arith

-- the sum of all, the first number apart
where-front : (f : ℕ → ℕ) (n : ℕ) → sum_where (λ _. true) f (suc n) ≡ f 0 + sum_where (λ _. true) (λ i. f (suc i)) n
unfolding sum_where
where-front f zero = omega arith
where-front f (suc n) = let earlier = where-front f n in omega arith

-- the sum of a list is that of its cells
pub list-sum : (l : List ℕ) → sum_of l ≡ sum_where (λ _. true) (λ i. get_or l i 0) (length l)
unfolding sum_over sum_where
list-sum [] = refl
list-sum (x ∷ xs) =
    let rest = list-sum xs in
    let front = where-front (λ i. get_or (x ∷ xs) i 0) (length xs) in
    ap (λ (k : ℕ). x + k) rest ∙ sym front
