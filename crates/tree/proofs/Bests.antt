-- The best member of a list: it is a member, and none is better. With it, the members of a range and those that a test keeps.
-- Assumes nothing.
use Prim.Native.Nat.{ℕ, zero, suc, ◌+◌, ◌≤◌, ◌<◌}
use native.Mathlib.Nat.{not-suc-le-zero, le_trans, le_of_lt, add-zero, zero-add, add-suc, suc-add}
use native.Mathlib.Omega.{arith}
use mathlib.Core.Path.{◌≡◌, refl, sym, ap, ◌∙◌, subst}
use mathlib.Core.Bool.{Bool, true, false, cond, true≢false}
use mathlib.Core.Logic.{⊎_elim}
use mathlib.Core.List.{List, [], ◌∷◌, ◌++◌, Memᴰ}
use borrow.Author.Tests.{le-ltb, ltb-true, ltb-false}
use lib.Dec.{ltb}
use lib.ListN.{length}
use Rattle.tree.specs.Scan.{tabulate_from, numbers_from, keep, best_from, best}
use Rattle.tree.proofs.Scans.{by-test, by_equal, length-tabulate-from}

-- ---- "less" of two numbers, as a "better": it goes one way only, and what is no less than something no less is no less

pub ltb-asym : (a b : ℕ) → ltb a b ≡ true → ltb b a ≡ false
ltb-asym a b e = le-ltb b a (le_of_lt (ltb-true a b e))

pub ltb-trans : (a b c : ℕ) → ltb a b ≡ false → ltb b c ≡ false → ltb a c ≡ false
ltb-trans a b c e f = le-ltb a c (le_trans (ltb-false b c f) (ltb-false a b e))

-- ---- the best member

-- r is a member of a list than which no member is better
pub record Best (better : ℕ → ℕ → Bool) (xs : List ℕ) (r : ℕ) : Type 0 where
  pub member : Memᴰ r xs
  pub wins : (y : ℕ) → Memᴰ y xs → better y r ≡ false

module _ (better : ℕ → ℕ → Bool) (asym : (x y : ℕ) → better x y ≡ true → better y x ≡ false)
    (trans : (x y z : ℕ) → better x y ≡ false → better y z ≡ false → better x z ≡ false) where
  not_itself : (x : ℕ) → better x x ≡ false
  not_itself x = by-test (better x x) (asym x x) (λ e. e)

  -- x is better than b: b can be left out
  new-best : (b x : ℕ) (xs : List ℕ) (r : ℕ) → better x b ≡ true → Best better (x ∷ xs) r → Best better (b ∷ x ∷ xs) r
  new-best b x xs r e h = record {
    member = mathlib.Core.List.Memᴰ.tail h.member;
    wins = λ y m.
        ⊎_elim (λ q. subst (λ (z : ℕ). better z r ≡ false) (sym q) (trans b x r (asym x b e) (h.wins x (mathlib.Core.List.Memᴰ.head refl)))) (h.wins y)
        (mathlib.Core.List.Memᴰ.cases_cons m);
  }

  -- it is not: x can be left out
  old-best : (b x : ℕ) (xs : List ℕ) (r : ℕ) → better x b ≡ false → Best better (b ∷ xs) r → Best better (b ∷ x ∷ xs) r
  old-best b x xs r e h = record {
    member = ⊎_elim (λ q. mathlib.Core.List.Memᴰ.head q) (λ n. mathlib.Core.List.Memᴰ.tail (mathlib.Core.List.Memᴰ.tail n)) (mathlib.Core.List.Memᴰ.cases_cons h.member);
    wins = λ y m.
        ⊎_elim (λ q. h.wins y (mathlib.Core.List.Memᴰ.head q))
        (λ n.
        ⊎_elim (λ q. subst (λ (z : ℕ). better z r ≡ false) (sym q) (trans x b r e (h.wins b (mathlib.Core.List.Memᴰ.head refl)))) (λ k. h.wins y (mathlib.Core.List.Memᴰ.tail k))
        (mathlib.Core.List.Memᴰ.cases_cons n))
        (mathlib.Core.List.Memᴰ.cases_cons m);
  }

  best_from_lem : (b : ℕ) (xs : List ℕ) → Best better (b ∷ xs) (best_from better b xs)
  unfolding best_from
  best_from_lem b [] = record {
    member = mathlib.Core.List.Memᴰ.head refl;
    wins = λ y m.
        ⊎_elim (λ q. subst (λ (z : ℕ). better z b ≡ false) (sym q) (not_itself b)) (λ n. absurd (mathlib.Core.List.Memᴰ.not-nil n)) (mathlib.Core.List.Memᴰ.cases_cons m);
  }
  best_from_lem b (x ∷ xs) =
      let switched = best_from_lem x xs in
      let stayed = best_from_lem b xs in
      by-test (better x b) (λ e. rw e (new-best b x xs (best_from better x xs) e switched)) (λ e. rw e (old-best b x xs (best_from better b xs) e stayed))

  -- the best of a list that is not empty
  pub best-is : (d : ℕ) (xs : List ℕ) → 0 < length xs → Best better xs (best better d xs)
  unfolding best
  best-is d [] h = absurd (not-suc-le-zero h)
  best-is d (x ∷ xs) h = best_from_lem x xs

  -- ---- the best of two lists

  -- x if it is better than b, else b
  abbrev of_two : ℕ → ℕ → ℕ
  of_two b x = cond (better x b) x b

  -- of three it does not matter which two are compared first
  of_three : (b y r : ℕ) → of_two (of_two b y) r ≡ of_two b (of_two y r)
  of_three b y r =
      by-test (better y b)
      (λ e. by-test (better r y)
      (λ f.
      let past : better r b ≡ true = by-test (better r b) (λ g. g) (λ g. absurd (true≢false (sym e ∙ trans y r b (asym r y f) g))) in
      rw (e, f, past))
      (λ f. rw (e, f, e)))
      (λ e. by-test (better r y) (λ f. rw (e, f)) (λ f. rw (e, f, e, trans r y b f e)))

  best_from-two : (b y : ℕ) (ys : List ℕ) → best_from better (of_two b y) ys ≡ of_two b (best_from better y ys)
  unfolding best_from
  best_from-two b y [] = refl
  best_from-two b y (z ∷ zs) =
      best_from-two (of_two b y) z zs ∙ of_three b y (best_from better z zs) ∙ ap (of_two b) (sym (best_from-two y z zs))

  best_from-append : (b : ℕ) (xs ys : List ℕ) → best_from better b (xs ++ ys) ≡ best_from better (best_from better b xs) ys
  unfolding best_from
  best_from-append b [] ys = refl
  best_from-append b (x ∷ xs) ys = best_from-append (of_two b x) xs ys

  -- the best of two lists end to end is the better of their best members, and the first's where neither is better
  pub best-append : (d : ℕ) (xs ys : List ℕ) → 0 < length xs → 0 < length ys
      → best better d (xs ++ ys) ≡ cond (better (best better d ys) (best better d xs)) (best better d ys) (best better d xs)
  unfolding best best_from
  best-append d [] ys h g = absurd (not-suc-le-zero h)
  best-append d (x ∷ xs) [] h g = absurd (not-suc-le-zero g)
  best-append d (x ∷ xs) (y ∷ ys) h g = best_from-append x xs (y ∷ ys) ∙ best_from-two (best_from better x xs) y ys

-- ---- ranges

pub numbers-length : (i k : ℕ) → length (numbers_from i k) ≡ k
unfolding numbers_from
numbers-length i k = length-tabulate-from (λ j. j) i k

-- a range in two parts
pub numbers-append : (i k l : ℕ) → numbers_from i (k + l) ≡ numbers_from i k ++ numbers_from (i + k) l
unfolding numbers_from tabulate_from
numbers-append i zero l = rw (zero-add, add-zero)
numbers-append i (suc k) l = rw (suc-add, numbers-append (suc i) k l, suc-add, add-suc)

pub numbers-member : (i k x : ℕ) → Memᴰ x (numbers_from i k) → (i ≤ x) × (x < i + k)
unfolding numbers_from tabulate_from
numbers-member i zero x m = absurd (mathlib.Core.List.Memᴰ.not-nil m)
numbers-member i (suc k) x m =
    let later = numbers-member (suc i) k x in
    ⊎_elim (λ e. (omega arith, omega arith)) (λ n. let r = later n in (omega arith, omega arith)) (mathlib.Core.List.Memᴰ.cases_cons m)

pub member-numbers : (i k x : ℕ) → i ≤ x → x < i + k → Memᴰ x (numbers_from i k)
unfolding numbers_from tabulate_from
member-numbers i zero x h b = absurd (omega arith)
member-numbers i (suc k) x h b =
    let later = member-numbers (suc i) k x in
    by_equal x i (λ e. mathlib.Core.List.Memᴰ.head e) (λ e. mathlib.Core.List.Memᴰ.tail (later (omega arith) (omega arith)))

-- ---- the members for which a test holds

-- a member that is kept is a member, and the test holds for it
pub keep-member : (p : ℕ → Bool) (xs : List ℕ) (x : ℕ) → Memᴰ x (keep p xs) → Memᴰ x xs × (p x ≡ true)
unfolding keep
keep-member p [] x m = absurd (mathlib.Core.List.Memᴰ.not-nil m)
keep-member p (y ∷ ys) x m =
    let later : Memᴰ x (keep p ys) → Memᴰ x (y ∷ ys) × (p x ≡ true) = λ n.
    let r = keep-member p ys x n in
    (mathlib.Core.List.Memᴰ.tail r.0, r.1) in
    by-test (p y)
    (λ e. ⊎_elim (λ q. (mathlib.Core.List.Memᴰ.head q, ap p q ∙ e)) later (mathlib.Core.List.Memᴰ.cases_cons (rw e at m)))
    (λ e. later (rw e at m))

-- a member for which the test holds is kept
pub member-keep : (p : ℕ → Bool) (xs : List ℕ) (x : ℕ) → Memᴰ x xs → p x ≡ true → Memᴰ x (keep p xs)
unfolding keep
member-keep p [] x m e = absurd (mathlib.Core.List.Memᴰ.not-nil m)
member-keep p (y ∷ ys) x m e =
    let later = member-keep p ys x in
    ⊎_elim
    (λ q. let here : p y ≡ true = ap p (sym q) ∙ e in rw here (mathlib.Core.List.Memᴰ.head q))
    (λ n. by-test (p y) (λ f. rw f (mathlib.Core.List.Memᴰ.tail (later n e))) (λ f. rw f (later n e)))
    (mathlib.Core.List.Memᴰ.cases_cons m)
