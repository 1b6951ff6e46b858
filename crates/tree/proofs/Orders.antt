-- Lists in order: each member stands in a relation to all after it. With it, positions and membership.
-- Assumes nothing.
use Prim.Native.Nat.{ℕ, zero, suc, ◌<◌, suc-le-suc}
use native.Mathlib.Nat.{not-suc-le-zero, le_of_suc-le-suc, lt_of_le_of_lt, zero-lt-suc, mul-zero}
use native.Mathlib.Omega.{arith}
use mathlib.Core.Path.{◌≡◌, refl, sym, subst, ◌∙◌}
use mathlib.Core.Logic.{◌≢◌, ⊎_elim}
use mathlib.Core.Bool.{Bool, true, false, not, ◌&&◌, and-true, and-false, and-eq-true_iff}
use mathlib.Core.List.Memᴰ
use mathlib.Core.List.{List, [], ◌∷◌, ◌++◌, Memᴰ}
use borrow.Author.Tests.{eq-eqb, ne_eqb, eqb-false, not-true}
use lib.Dec.{eqb}
use lib.ListN.{length, get_or}
use Rattle.tree.specs.Scan.{count_below, position}
use Rattle.tree.proofs.Scans.{by-test, position-at-most, count-constant, count-one}

-- ---- membership and positions

-- what stands at a position is a member
pub member-at : (l : List ℕ) (i : ℕ) → i < length l → Memᴰ (get_or l i 0) l
member-at [] i h = absurd (not-suc-le-zero h)
member-at (x ∷ xs) zero h = Memᴰ.head refl
member-at (x ∷ xs) (suc i) h = Memᴰ.tail (member-at xs i (le_of_suc-le-suc h))

-- a member stands at some position
index_of : (v : ℕ) (l : List ℕ) → Memᴰ v l → (i : ℕ) × (i < length l) × (get_or l i 0 ≡ v)
index_of v l (Memᴰ.head {xs = xs} e) = (0, zero-lt-suc (length xs), sym e)
index_of v l (Memᴰ.tail {xs = xs} m) = let r = index_of v xs m in (suc r.0, suc-le-suc r.1, r.2)

pub member-position : (l : List ℕ) (v : ℕ) → Memᴰ v l → position l v < length l
member-position l v m = let r = index_of v l m in lt_of_le_of_lt (position-at-most l v r.0 r.2) r.1

-- ---- lists in order

module _ (R : ℕ → ℕ → Type 0) where
  -- each member is in R to each after it
  abbrev pub Ordered : List ℕ → Type 0
  Ordered [] = Unit {0}
  Ordered (x ∷ xs) = ((y : ℕ) → Memᴰ y xs → R x y) × Ordered xs

  pub ordered-append : (xs ys : List ℕ) → Ordered xs → Ordered ys → ((x y : ℕ) → Memᴰ x xs → Memᴰ y ys → R x y) → Ordered (xs ++ ys)
  ordered-append [] ys p q across = q
  ordered-append (x ∷ xs) ys p q across = (
    λ y m. ⊎_elim (p.0 y) (across x y (Memᴰ.head refl)) (Memᴰ.append_cases xs m),
    ordered-append xs ys p.1 q (λ z y m n. across z y (Memᴰ.tail m) n),
  )

  pub ordered_at : (l : List ℕ) → Ordered l → (i j : ℕ) → i < j → j < length l → R (get_or l i 0) (get_or l j 0)
  ordered_at [] p i j h b = absurd (not-suc-le-zero b)
  ordered_at (x ∷ xs) p i zero h b = absurd (not-suc-le-zero h)
  ordered_at (x ∷ xs) p zero (suc j) h b = p.0 (get_or xs j 0) (member-at xs j (le_of_suc-le-suc b))
  ordered_at (x ∷ xs) p (suc i) (suc j) h b = ordered_at xs p.1 i j (le_of_suc-le-suc h) (le_of_suc-le-suc b)

  -- different numbers, namely those below n for which p holds, are as many as are counted
  pub ordered-count : (n : ℕ) → ((x : ℕ) → x < n → R x x → ⊥) → (p : ℕ → Bool) (l : List ℕ) → Ordered l
      → ((x : ℕ) → Memᴰ x l → (x < n) × (p x ≡ true)) → ((x : ℕ) → x < n → p x ≡ true → Memᴰ x l) → length l ≡ count_below p n
  ordered-count n irrefl p [] ordered member listed =
      sym (count-constant p false n (λ j h. by-test (p j) (λ e. absurd (Memᴰ.not-nil (listed j h e))) (λ e. e)) ∙ mul-zero n)
  ordered-count n irrefl p (x ∷ xs) ordered member listed =
      let q : ℕ → Bool = λ j. p j && not (eqb j x) in
      let here = member x (Memᴰ.head refl) in
      let one : count_below p n ≡ suc (count_below q n) =
      count-one p q n x here.0 (λ j g. rw (ne_eqb j x g) (and-true (p j))) here.1 (rw (eq-eqb x x refl) (and-false (p x))) in
      let rest : length xs ≡ count_below q n =
      ordered-count n irrefl q xs ordered.1
      (λ y m.
      let there = member y (Memᴰ.tail m) in
      let other : y ≢ x = λ e. irrefl x here.0 (subst (R x) e (ordered.0 y m)) in
      (there.0, rw (there.1, ne_eqb y x other)))
      (λ y h e.
      let (a, b) = (and-eq-true_iff _ _).0 e in
      ⊎_elim (λ g. absurd (eqb-false y x (not-true _ b) g)) (λ m. m) (Memᴰ.cases_cons (listed y h a))) in
      omega arith
