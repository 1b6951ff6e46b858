-- Laws of `specs/Scan.antt`: what a search finds, and what a count, a list of values and a best member are.
-- Assumes nothing.
use Prim.Native.Nat.{ℕ, zero, suc, ◌+◌, ◌*◌, ◌≤◌, ◌<◌}
use native.Mathlib.Nat.{le_refl, le_antisymm, not-suc-le-zero, lt_of_not-le, lt-suc_self, zero-mul, suc-mul}
use native.Mathlib.Omega.{arith}
use native.Mathlib.Decide.{dec_le, ℕ_discrete}
use mathlib.Core.Path.{◌≡◌, refl, sym, ap, ◌∙◌}
use mathlib.Core.Logic.{◌≢◌, ⊎_elim}
use mathlib.Core.Bool.{Bool, true, false, cond, true≢false, false≢true}
use mathlib.Core.List.Memᴰ
use mathlib.Core.List.{List, [], ◌∷◌, Memᴰ}
use borrow.Author.Tests.{eqb-true, eq-eqb}
use lib.ListN.{length, get_or}
use Rattle.tree.specs.Scan.{least_from, least, count_below, tabulate_from, every, position}

-- a test passes or fails
pub by-test {ℓ} : {X : Type ℓ} (b : Bool) → (b ≡ true → X) → (b ≡ false → X) → X
by-test true f g = f refl
by-test false f g = g refl

-- one number is below the other, or not
pub by_order {ℓ} : {X : Type ℓ} (a b : ℕ) → (a ≤ b → X) → (b < a → X) → X
by_order a b f g = elim (dec_le a b) [ yes h ↦ f h | no h ↦ g (lt_of_not-le h) ]

-- two numbers are equal, or not
pub by_equal {ℓ} : {X : Type ℓ} (a b : ℕ) → (a ≡ b → X) → (a ≢ b → X) → X
by_equal a b f g = elim (ℕ_discrete a b) [ yes h ↦ f h | no h ↦ g h ]

-- ---- the least number

-- r is the least of the k numbers from i on for which p holds, or i + k where there is none
pub record Least (p : ℕ → Bool) (i k r : ℕ) : Type 0 where
  pub from : i ≤ r
  pub to : r ≤ i + k
  pub before : (j : ℕ) → i ≤ j → j < r → p j ≡ false
  pub here : r < i + k → p r ≡ true

-- the first of them, or a later one
least-now : (p : ℕ → Bool) (i k : ℕ) → p i ≡ true → Least p i (suc k) i
least-now p i k e = record { from = le_refl i; to = omega arith; before = λ j a b. absurd (omega arith); here = λ h. e }

least-later : (p : ℕ → Bool) (i k r : ℕ) → p i ≡ false → Least p (suc i) k r → Least p i (suc k) r
least-later p i k r e l = record {
  from = omega arith;
  to = omega arith;
  before = λ j a b. by_equal i j (λ q. ap p (sym q) ∙ e) (λ q. l.before j (omega arith) b);
  here = λ h. l.here (omega arith);
}

pub least_from_lem : (p : ℕ → Bool) (i k : ℕ) → Least p i k (least_from p i k)
unfolding least_from
least_from_lem p i zero = record { from = le_refl i; to = omega arith; before = λ j a b. absurd (omega arith); here = λ h. absurd (omega arith) }
least_from_lem p i (suc k) =
    let later = least_from_lem p (suc i) k in
    by-test (p i) (λ e. rw e (least-now p i k e)) (λ e. rw e (least-later p i k (least_from p (suc i) k) e later))

pub least-is-least : (p : ℕ → Bool) (n : ℕ) → Least p 0 n (least p n)
unfolding least
least-is-least p n = least_from_lem p 0 n

-- there is one least number
pub least-unique : (p : ℕ → Bool) (i k r q : ℕ) → Least p i k r → Least p i k q → r ≡ q
least-unique p i k r q a b =
    by_order r q
    (λ h. by_order q r (λ g. le_antisymm h g) (λ g. absurd (true≢false (sym (a.here (omega arith)) ∙ b.before r (omega arith) g))))
    (λ h. absurd (true≢false (sym (b.here (omega arith)) ∙ a.before q (omega arith) h)))

-- a loop that has passed only failures, and stopped at a success or at the end, has found it
pub least-found : (p : ℕ → Bool) (n r : ℕ) → r ≤ n → ((j : ℕ) → j < r → p j ≡ false) → (r < n → p r ≡ true) → r ≡ least p n
least-found p n r h before here =
    least-unique p 0 n r (least p n)
    (record { from = omega arith; to = omega arith; before = λ j _ b. before j b; here = λ b. here (omega arith) })
    (least-is-least p n)

pub least-le : (p : ℕ → Bool) (n : ℕ) → least p n ≤ n
least-le p n = let l = least-is-least p n in omega arith

pub least-here : (p : ℕ → Bool) (n : ℕ) → least p n < n → p (least p n) ≡ true
least-here p n h = (least-is-least p n).here (omega arith)

pub least-before : (p : ℕ → Bool) (n j : ℕ) → j < least p n → p j ≡ false
least-before p n j h = (least-is-least p n).before j (omega arith) h

-- some number below n is one for which p holds: the least is no greater
pub least-at-most : (p : ℕ → Bool) (n j : ℕ) → p j ≡ true → least p n ≤ j
least-at-most p n j e = by_order (least p n) j (λ h. h) (λ h. absurd (true≢false (sym e ∙ least-before p n j h)))

-- none is: the search comes to n
pub least-none : (p : ℕ → Bool) (n : ℕ) → ((j : ℕ) → j < n → p j ≡ false) → least p n ≡ n
least-none p n h = sym (least-found p n n (le_refl n) h (λ b. absurd (omega arith)))

-- ---- a position in a list

-- what stands there is the number that was looked for
pub position_here : (l : List ℕ) (v : ℕ) → position l v < length l → get_or l (position l v) 0 ≡ v
unfolding position
position_here l v h = eqb-true _ _ (least-here _ (length l) h)

-- a number that stands in the list is found no later than there
pub position-at-most : (l : List ℕ) (v i : ℕ) → get_or l i 0 ≡ v → position l v ≤ i
unfolding position
position-at-most l v i e = least-at-most _ (length l) i (eq-eqb _ _ e)

-- ---- counting

-- one number for which p holds makes the count positive
pub count-pos : (p : ℕ → Bool) (n v : ℕ) → v < n → p v ≡ true → 0 < count_below p n
unfolding count_below
count-pos p zero v h e = absurd (not-suc-le-zero h)
count-pos p (suc n) v h e =
    by_equal v n
    (λ q. let here : p n ≡ true = ap p (sym q) ∙ e in rw here (omega arith))
    (λ q. let ih : 0 < count_below p n = count-pos p n v (omega arith) e in omega arith)

-- no more are counted than there are
pub count_most : (p : ℕ → Bool) (n : ℕ) → count_below p n ≤ n
unfolding count_below
count_most p zero = le_refl 0
count_most p (suc n) = let earlier = count_most p n in by-test (p n) (λ e. rw e (omega arith)) (λ e. rw e (omega arith))

-- tests that agree below n count the same
pub count_same : (p q : ℕ → Bool) (n : ℕ) → ((j : ℕ) → j < n → q j ≡ p j) → count_below q n ≡ count_below p n
unfolding count_below
count_same p q zero h = refl
count_same p q (suc n) h = rw (h n (lt-suc_self n), count_same p q n (λ j b. h j (omega arith)))

-- a test that is the same below n counts all numbers or none
pub count-constant : (p : ℕ → Bool) (b : Bool) (n : ℕ) → ((j : ℕ) → j < n → p j ≡ b) → count_below p n ≡ n * cond b 1 0
unfolding count_below
count-constant p b zero h = sym (zero-mul (cond b 1 0))
count-constant p b (suc n) h = rw (h n (lt-suc_self n), count-constant p b n (λ j g. h j (omega arith)), suc-mul n (cond b 1 0))

-- tests that differ in one number below n count one apart
pub count-one : (p q : ℕ → Bool) (n i : ℕ) → i < n → ((j : ℕ) → j ≢ i → q j ≡ p j) → p i ≡ true → q i ≡ false → count_below p n ≡ suc (count_below q n)
unfolding count_below
count-one p q zero i h same yes-p no-q = absurd (not-suc-le-zero h)
count-one p q (suc n) i h same yes-p no-q =
    let earlier = count-one p q n i in
    by_equal i n
    (λ e.
    let yes-n : p n ≡ true = ap p (sym e) ∙ yes-p in
    let no-n : q n ≡ false = ap q (sym e) ∙ no-q in
    let below : count_below q n ≡ count_below p n = count_same p q n (λ j b. same j (λ g. absurd (omega arith))) in
    rw (yes-n, no-n, below) (omega arith))
    (λ e.
    let at_n : q n ≡ p n = same n (λ g. e (sym g)) in
    let ih : count_below p n ≡ suc (count_below q n) = earlier (omega arith) same yes-p no-q in
    rw at_n (omega arith))

-- ---- a test of every member

pub every_true : (p : ℕ → Bool) (xs : List ℕ) → ((x : ℕ) → Memᴰ x xs → p x ≡ true) → every p xs ≡ true
unfolding every
every_true p [] h = refl
every_true p (x ∷ xs) h = rw (h x (Memᴰ.head refl)) (every_true p xs (λ y m. h y (Memᴰ.tail m)))

pub true-every : (p : ℕ → Bool) (xs : List ℕ) → every p xs ≡ true → (x : ℕ) → Memᴰ x xs → p x ≡ true
unfolding every
true-every p [] e x m = absurd (Memᴰ.not-nil m)
true-every p (y ∷ ys) e x m =
    let rest = true-every p ys in
    by-test (p y)
    (λ here. ⊎_elim (λ q. ap p q ∙ here) (λ n. rest (rw here at e) x n) (Memᴰ.cases_cons m))
    (λ none. absurd (false≢true (rw none at e)))

-- ---- lists of values

pub length-tabulate-from {ℓ} : {A : Type ℓ} (f : ℕ → A) (i k : ℕ) → length (tabulate_from f i k) ≡ k
unfolding tabulate_from
length-tabulate-from f i zero = refl
length-tabulate-from f i (suc k) = ap suc (length-tabulate-from f (suc i) k)
