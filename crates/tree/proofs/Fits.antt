-- The lowest buffer that does not fit: of one list, of two, and of the buffers of each kind of call.
-- Assumes nothing.
use Prim.Native.Nat.{ℕ, suc, ◌+◌, ◌%◌, ◌≤◌, ◌<◌}
use native.Mathlib.Nat.{le_refl, le_of_eq, le_of_lt, lt_trans, pos_of_ne-zero}
use native.Mathlib.Omega.{arith}
use mathlib.Core.Path.{◌≡◌, refl, sym, ap, ◌∙◌, subst}
use mathlib.Core.Logic.{⊎_elim}
use mathlib.Core.Bool.{true, false, true≢false}
use mathlib.Core.List.Memᴰ
use mathlib.Core.List.{List, [], ◌∷◌, Memᴰ}
use borrow.Author.Tests.{eq-eqb, ne_eqb, eqb-true, ltb-true, ltb-false}
use lib.Dec.{lit<, ltb}
use lib.ListN.{length, get_or, drop}
use native.Mathlib.Numerals.{add-one}
use Rattle.std.proofs.Math.Seq.{drop-cons}
use Rattle.std.proofs.lemmas.List.{drop_all}
use Rattle.tree.specs.Buffers.{trail_cells, answer_cells, count_cells, total_cells, Fit, first_unfit, lower_unfit, pairs_fits, trail_fits, list_fits, wear_fits}
use Rattle.tree.proofs.Scans.{by-test, by_equal}

-- ---- one list

-- a buffer that does not fit is the lowest
pub unfit-here : (b : Fit) (bs : List Fit) → b.fits ≡ false → first_unfit (b ∷ bs) ≡ b.buffer
unfolding first_unfit
unfit-here b bs e = rw e

-- one that fits leaves it to those after it
pub unfit-later : (b : Fit) (bs : List Fit) → b.fits ≡ true → first_unfit (b ∷ bs) ≡ first_unfit bs
unfolding first_unfit
unfit-later b bs e = rw e

-- the last one that fits leaves none
pub unfit-last : (b : Fit) → b.fits ≡ true → first_unfit (b ∷ []) ≡ 0
unfolding first_unfit
unfit-last b e = rw e

-- going along a list, where all before place i fit: one that does not fit is the lowest, and one that does leaves it to those after it
module _ (bs : List Fit) (i : ℕ) (h : i < length bs) (before : first_unfit (drop i bs) ≡ first_unfit bs) where
  abbrev here : Fit
  here = get_or bs i (record { buffer = 0; fits = false })

  pub unfit-at : here.fits ≡ false → here.buffer ≡ first_unfit bs
  unfit-at e = sym (unfit-here here (drop (suc i) bs) e) ∙ ap first_unfit (sym (drop-cons bs i _ h)) ∙ before

  pub unfit-after : here.fits ≡ true → first_unfit (drop (i + 1) bs) ≡ first_unfit bs
  unfit-after e = rw add-one (sym (unfit-later here (drop (suc i) bs) e) ∙ ap first_unfit (sym (drop-cons bs i _ h)) ∙ before)

-- .. and behind the last place none is named
pub unfit-none : (bs : List Fit) (i : ℕ) → length bs ≤ i → first_unfit (drop i bs) ≡ first_unfit bs → 0 ≡ first_unfit bs
unfolding first_unfit
unfit-none bs i h before = sym (ap first_unfit (drop_all i bs h)) ∙ before

-- each buffer of a list fits
abbrev pub Fitting : List Fit → Type 0
Fitting [] = Unit {0}
Fitting (b ∷ bs) = (b.fits ≡ true) × Fitting bs

-- where each fits, none is named
pub fitting-none : (bs : List Fit) → Fitting bs → first_unfit bs ≡ 0
unfolding first_unfit
fitting-none [] f = refl
fitting-none (b ∷ bs) f = unfit-later b bs f.0 ∙ fitting-none bs f.1

-- a list's buffers stand in rising number, the first above k
abbrev pub Rising : ℕ → List Fit → Type 0
Rising k [] = Unit {0}
Rising k (b ∷ bs) = (k < b.buffer) × Rising b.buffer bs

-- so all are above k
rising-above : (k : ℕ) (bs : List Fit) → Rising k bs → (b : Fit) → Memᴰ b bs → k < b.buffer
rising-above k [] r b m = absurd (Memᴰ.not-nil m)
rising-above k (c ∷ cs) r b m =
    let later = rising-above c.buffer cs r.1 b in
    ⊎_elim (λ e. subst (λ (x : Fit). k < x.buffer) (sym e) r.0) (λ n. lt_trans r.0 (later n)) (Memᴰ.cases_cons m)

-- and where one does not fit, that or a lower one is named
pub unfit-lowest : (k : ℕ) (bs : List Fit) → Rising k bs → (b : Fit) → Memᴰ b bs → b.fits ≡ false → (k < first_unfit bs) × (first_unfit bs ≤ b.buffer)
unfit-lowest k [] r b m e = absurd (Memᴰ.not-nil m)
unfit-lowest k (c ∷ cs) r b m e =
    let later = unfit-lowest c.buffer cs r.1 b in
    by-test c.fits
    (λ fits.
    let same = sym (unfit-later c cs fits) in
    ⊎_elim (λ q. absurd (true≢false (sym (ap (λ (x : Fit). x.fits) q ∙ fits) ∙ e)))
    (λ n. let (above, most) = later n e in (subst (λ (x : ℕ). k < x) same (lt_trans r.0 above), subst (λ (x : ℕ). x ≤ b.buffer) same most))
    (Memᴰ.cases_cons m))
    (λ fits.
    let here = sym (unfit-here c cs fits) in (
      subst (λ (x : ℕ). k < x) here r.0,
      subst (λ (x : ℕ). x ≤ b.buffer) here
          (⊎_elim (λ q. le_of_eq (ap (λ (x : Fit). x.buffer) (sym q))) (λ n. le_of_lt (rising-above c.buffer cs r.1 b n)) (Memᴰ.cases_cons m)),
    ))

-- so where none is named, each fits
pub none-fitting : (k : ℕ) (bs : List Fit) → Rising k bs → first_unfit bs ≡ 0 → Fitting bs
none-fitting k [] r e = tt
none-fitting k (b ∷ bs) r e =
    let rest = none-fitting b.buffer bs r.1 in
    by-test b.fits (λ fits. (fits, rest (sym (unfit-later b bs fits) ∙ e)))
    (λ fits. let zero : b.buffer ≡ 0 = sym (unfit-here b bs fits) ∙ e in absurd (omega (arith, r.0)))

-- ---- two lists

-- where the first names none, the second decides
pub lower-second : (a b : ℕ) → a ≡ 0 → lower_unfit a b ≡ b
lower-second a b e = by_equal b 0 (λ q. rw (eq-eqb b 0 q) (e ∙ sym q)) (λ q. rw (ne_eqb b 0 q, eq-eqb a 0 e))

-- what is named is no more than either names
pub lower-first : (a b : ℕ) → 0 < a → (0 < lower_unfit a b) × (lower_unfit a b ≤ a)
lower-first a b h =
    by_equal b 0 (λ q. rw (eq-eqb b 0 q) (h, le_refl a))
    (λ q.
    let some = ne_eqb a 0 (λ e. absurd (omega arith)) in
    by-test (ltb b a) (λ l. rw (ne_eqb b 0 q, some, l) (pos_of_ne-zero q, le_of_lt (ltb-true b a l))) (λ l. rw (ne_eqb b 0 q, some, l) (h, le_refl a)))

pub lower-further : (a b : ℕ) → 0 < b → (0 < lower_unfit a b) × (lower_unfit a b ≤ b)
lower-further a b h =
    let some = ne_eqb b 0 (λ e. absurd (omega arith)) in
    by_equal a 0 (λ q. rw (some, eq-eqb a 0 q) (h, le_refl b))
    (λ q. by-test (ltb b a) (λ l. rw (some, ne_eqb a 0 q, l) (h, le_refl b)) (λ l. rw (some, ne_eqb a 0 q, l) (pos_of_ne-zero q, ltb-false b a l)))

-- where none is named, neither names one
pub lower-none : (a b : ℕ) → lower_unfit a b ≡ 0 → (a ≡ 0) × (b ≡ 0)
lower-none a b h = (
  by_equal a 0 (λ e. e) (λ q. let named = (lower-first a b (pos_of_ne-zero q)).0 in absurd (omega arith)),
  by_equal b 0 (λ e. e) (λ q. let named = (lower-further a b (pos_of_ne-zero q)).0 in absurd (omega arith)),
)

-- ---- the buffers of each kind of call

-- pairs: twice as many cells in the question as there are pairs
pub pairs-fit : (question answer : ℕ) → first_unfit (pairs_fits question answer) ≡ 0 → (question % 2 ≡ 0) × (answer ≡ answer_cells question)
pairs-fit question answer e =
    let (even, (cells, _)) = none-fitting 0 (pairs_fits question answer) (lit< tt, (lit< tt, tt)) e in
    (eqb-true _ _ even, eqb-true _ _ cells)

pub pairs-fitting : (question answer : ℕ) → question % 2 ≡ 0 → answer ≡ answer_cells question → first_unfit (pairs_fits question answer) ≡ 0
pairs-fitting question answer even cells = fitting-none (pairs_fits question answer) (eq-eqb _ _ even, (eq-eqb _ _ cells, tt))

-- a trail
pub trail_fit_lem : (question answer rows : ℕ) → first_unfit (trail_fits question answer rows) ≡ 0 → (question ≡ 2) × (answer ≡ 1) × (rows ≡ trail_cells)
trail_fit_lem question answer rows e =
    let (two, (one, (whole, _))) = none-fitting 0 (trail_fits question answer rows) (lit< tt, (lit< tt, (lit< tt, tt))) e in
    (eqb-true _ _ two, eqb-true _ _ one, eqb-true _ _ whole)

pub trail-fitting : (question answer rows : ℕ) → question ≡ 2 → answer ≡ 1 → rows ≡ trail_cells → first_unfit (trail_fits question answer rows) ≡ 0
trail-fitting question answer rows two one whole =
    fitting-none (trail_fits question answer rows) (eq-eqb _ _ two, (eq-eqb _ _ one, (eq-eqb _ _ whole, tt)))

-- a list
pub list-fit : (answer : ℕ) → first_unfit (list_fits answer) ≡ 0 → answer ≡ 1
list-fit answer e = let (one, _) = none-fitting 0 (list_fits answer) (lit< tt, tt) e in eqb-true _ _ one

pub list-fitting : (answer : ℕ) → answer ≡ 1 → first_unfit (list_fits answer) ≡ 0
list-fitting answer one = fitting-none (list_fits answer) (eq-eqb _ _ one, tt)

-- counts and totals
pub wear-fit : (n counts totals : ℕ) → first_unfit (wear_fits n counts totals) ≡ 0 → (counts ≡ count_cells n) × (totals ≡ total_cells n)
wear-fit n counts totals e =
    let (one_each, (filled, _)) = none-fitting 0 (wear_fits n counts totals) (lit< tt, (lit< tt, tt)) e in
    (eqb-true _ _ one_each, eqb-true _ _ filled)

pub wear-fitting : (n counts totals : ℕ) → counts ≡ count_cells n → totals ≡ total_cells n → first_unfit (wear_fits n counts totals) ≡ 0
wear-fitting n counts totals one_each filled = fitting-none (wear_fits n counts totals) (eq-eqb _ _ one_each, (eq-eqb _ _ filled, tt))
