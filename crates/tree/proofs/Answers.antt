-- What tests 1 to 8 answer, from what a call has found: the sizes, the lowest entry off the sheet, the root and the next root, the lowest
-- part whose climb does not meet the root, and the first cell of the lent tables that is not the sheet's own. A place is n or more where
-- there is none, and the cell the tables' length. With it, what becomes of work.
-- Assumes nothing.
use Prim.Native.Nat.{ℕ, suc, ◌+◌, ◌≤◌, ◌<◌}
use native.Mathlib.Nat.{le_antisymm, le_of_eq, ne_of_lt, pos_of_ne-zero}
use mathlib.Core.Path.{◌≡◌, refl, sym, ap, ◌∙◌}
use mathlib.Core.Logic.{◌≢◌}
use mathlib.Core.Bool.{Bool, true, false}
use mathlib.Core.List.{List, [], ◌∷◌}
use borrow.Author.Tests.{eq-eqb, ne_eqb, eqb-true, lt-ltb, le-ltb, le-leb, lt-leb, ltb-true, leb-true}
use lib.Dec.{lit<, lit≤, eqb}
use lib.ListN.{length, replicate}
use Rattle.tree.specs.Scan.{least}
use Rattle.tree.specs.Tree.{next_root, root_of}
use Rattle.tree.specs.Verdict.{Verdict, accepted, refused}
use Rattle.tree.specs.Tests.{Test, test_number, verdict, first_outside, first_lost, empty, too_large, wrong_length, parent_out_of_range, no_root, second_root, cycle, stale_table, limit, size_tests, tree_tests, sheet_tests}
use Rattle.tree.specs.Tables.{Lent, own, end_to_end}
use Rattle.tree.specs.Sections.{first_difference}
use Rattle.tree.specs.Buffers.{work_after, filled}
use Rattle.tree.proofs.Scans.{by-test, by_equal, by_order, least-le}
use Rattle.tree.proofs.Differences.{stale-place}
use Rattle.tree.proofs.Verdicts.{Passed, not-both, passed-accepted, accepted-passed, accepted-both, refused-on, first-refused}

-- a test for the lowest bad number passes where that is n, and fails where it is below
pub bad-passes : (bad : ℕ → Bool) (n : ℕ) → n ≤ least bad n → eqb (least bad n) n ≡ true
bad-passes bad n h = eq-eqb _ _ (le_antisymm (least-le bad n) h)

pub bad-fails : (bad : ℕ → Bool) (n : ℕ) → least bad n < n → eqb (least bad n) n ≡ false
bad-fails bad n h = ne_eqb _ _ (ne_of_lt h)

module _ (shift : ℕ) (s : List ℕ) where
  -- no entry is off the sheet; one part names itself; no other does
  entries-pass : length s ≤ first_outside s → Passed (parent_out_of_range shift s ∷ [])
  unfolding parent_out_of_range
  entries-pass h = (bad-passes _ (length s) h, tt)

  root-passes : length s ≤ first_outside s → root_of s < length s → Passed (parent_out_of_range shift s ∷ no_root s ∷ [])
  unfolding no_root
  root-passes h r = ((entries-pass h).0, (lt-ltb _ _ r, tt))

  alone-passes : length s ≤ first_outside s → root_of s < length s → length s ≤ next_root s (suc (root_of s))
      → Passed (parent_out_of_range shift s ∷ no_root s ∷ second_root shift s ∷ [])
  unfolding second_root
  alone-passes h r a = ((entries-pass h).0, ((root-passes h r).1.0, (le-leb _ _ a, tt)))

  pub refused-out-of-range : first_outside s < length s → verdict (tree_tests shift s) ≡ refused 4 (shift + first_outside s)
  unfolding parent_out_of_range
  refused-out-of-range h = first-refused [] (parent_out_of_range shift s) _ tt (bad-fails _ (length s) h)

  pub refused-no_root : length s ≤ first_outside s → length s ≤ root_of s → verdict (tree_tests shift s) ≡ refused 5 0
  unfolding no_root
  refused-no_root h r = first-refused (parent_out_of_range shift s ∷ []) (no_root s) _ (entries-pass h) (le-ltb _ _ r)

  pub refused-second_root : length s ≤ first_outside s → root_of s < length s → next_root s (suc (root_of s)) < length s
      → verdict (tree_tests shift s) ≡ refused 6 (shift + next_root s (suc (root_of s)))
  unfolding second_root
  refused-second_root h r b = first-refused (parent_out_of_range shift s ∷ no_root s ∷ []) (second_root shift s) _ (root-passes h r) (lt-leb _ _ b)

  pub refused-cycle : length s ≤ first_outside s → root_of s < length s → length s ≤ next_root s (suc (root_of s)) → first_lost s < length s
      → verdict (tree_tests shift s) ≡ refused 7 (shift + first_lost s)
  unfolding cycle
  refused-cycle h r a b =
      first-refused (parent_out_of_range shift s ∷ no_root s ∷ second_root shift s ∷ []) (cycle shift s) [] (alone-passes h r a) (bad-fails _ (length s) b)

  pub accepted-tree_tests : length s ≤ first_outside s → root_of s < length s → length s ≤ next_root s (suc (root_of s)) → length s ≤ first_lost s
      → verdict (tree_tests shift s) ≡ accepted
  unfolding cycle
  accepted-tree_tests h r a c =
      let (p₄, (p₅, (p₆, _))) = alone-passes h r a in
      passed-accepted (tree_tests shift s) (p₄, (p₅, (p₆, (bad-passes _ (length s) c, tt))))

-- ---- tests 1 to 3

module _ (n : ℕ) where
  pub refused-empty : (buffer : ℕ) → n ≡ 0 → verdict (size_tests n buffer) ≡ refused 1 0
  unfolding empty
  refused-empty buffer h = first-refused [] (empty n) _ tt (le-ltb _ _ (le_of_eq h))

  pub refused-too_large : (buffer : ℕ) → 0 < n → limit < n → verdict (size_tests n buffer) ≡ refused 2 0
  unfolding empty too_large
  refused-too_large buffer h l = first-refused (empty n ∷ []) (too_large limit n) _ (lt-ltb _ _ h, tt) (lt-leb _ _ l)

  sizes-pass : 0 < n → n ≤ limit → Passed (empty n ∷ too_large limit n ∷ [])
  unfolding empty too_large
  sizes-pass h l = (lt-ltb _ _ h, (le-leb _ _ l, tt))

  pub refused-wrong_length : (buffer : ℕ) → 0 < n → n ≤ limit → buffer ≢ 0 → verdict (size_tests n buffer) ≡ refused 3 buffer
  unfolding wrong_length
  refused-wrong_length buffer h l q = first-refused (empty n ∷ too_large limit n ∷ []) (wrong_length buffer) [] (sizes-pass h l) (ne_eqb _ _ q)

  pub accepted-sizes : (buffer : ℕ) → 0 < n → n ≤ limit → buffer ≡ 0 → verdict (size_tests n buffer) ≡ accepted
  unfolding wrong_length
  accepted-sizes buffer h l e = let (a, (b, _)) = sizes-pass h l in passed-accepted (size_tests n buffer) (a, (b, (eq-eqb _ _ e, tt)))

  -- and the other way round
  pub sizes-accepted : (buffer : ℕ) → verdict (size_tests n buffer) ≡ accepted → (0 < n) × (n ≤ limit) × (buffer ≡ 0)
  unfolding empty too_large wrong_length
  sizes-accepted buffer e =
      let (some, (most, (fits, _))) = accepted-passed (size_tests n buffer) e in
      (ltb-true _ _ some, leb-true _ _ most, eqb-true _ _ fits)

module _ (s : List ℕ) where
  -- a sheet of no part or of too many is refused whatever its buffers
  pub same-verdict : (a b : ℕ) → (0 < length s → length s ≤ limit → a ≡ b) → verdict (sheet_tests s a) ≡ verdict (sheet_tests s b)
  same-verdict a b e =
      let n = length s in
      let alike : (number place : ℕ) → ((buffer : ℕ) → verdict (size_tests n buffer) ≡ refused number place)
      → verdict (sheet_tests s a) ≡ verdict (sheet_tests s b) =
      λ number place no.
      refused-on (size_tests n a) (tree_tests 0 s) number place (no a) ∙ sym (refused-on (size_tests n b) (tree_tests 0 s) number place (no b)) in
      by_equal n 0 (λ h. alike 1 0 (λ buffer. refused-empty n buffer h))
      (λ h.
      let some = pos_of_ne-zero h in
      by_order n limit (λ l. ap (λ (buffer : ℕ). verdict (sheet_tests s buffer)) (e some l)) (λ l. alike 2 0 (λ buffer. refused-too_large n buffer some l)))

  -- an accepted call has buffers that fit
  pub accepted-fits : (buffer : ℕ) → verdict (sheet_tests s buffer) ≡ accepted → buffer ≡ 0
  accepted-fits buffer e =
      let (sizes, _) = accepted-both (size_tests (length s) buffer) (tree_tests 0 s) e in
      let (_, _, fits) = sizes-accepted (length s) buffer sizes in
      fits

-- ---- test 8

module _ (t : Lent) where
  pub stale-refused : first_difference (end_to_end t) (end_to_end (own t.parents)) < length (end_to_end (own t.parents))
      → verdict (stale_table t ∷ []) ≡ refused 8 (first_difference (end_to_end t) (end_to_end (own t.parents)))
  unfolding stale_table
  stale-refused h = rw (← stale-place t) (first-refused [] (stale_table t) [] tt (bad-fails _ _ (rw (stale-place t) h)))

  pub stale-accepted : length (end_to_end (own t.parents)) ≤ first_difference (end_to_end t) (end_to_end (own t.parents))
      → verdict (stale_table t ∷ []) ≡ accepted
  unfolding stale_table
  stale-accepted h = passed-accepted (stale_table t ∷ []) (bad-passes _ _ (rw (stale-place t) h), tt)

-- ---- the other buffers

-- what is lent to be filled: an accepted call fills it, a refused one leaves it
pub filled-own {ℓ} : {A : Type ℓ} (v : Verdict) (own before : A) → v ≡ accepted → own ≡ filled v own before
unfolding filled
filled-own v own before e = rw e

pub filled-kept {ℓ} : {A : Type ℓ} (v : Verdict) (number place : ℕ) (own before : A) → v ≡ refused number place → before ≡ filled v own before
unfolding filled
filled-kept v number place own before e = rw e

-- ---- work

-- an accepted call leaves it all zero
pub work-accepted : (v : Verdict) (work : List ℕ) → v ≡ accepted → work_after v work ≡ replicate (length work) 0
unfolding work_after
work-accepted v work e = rw e

-- the tests of a list are all of the first three
abbrev pub Early : List Test → Type 0
Early [] = Unit {0}
Early (t ∷ ts) = (test_number t ≤ 3) × Early ts

-- so where one of them refuses, work is left as it was
pub work-early : (ts : List Test) (number place : ℕ) (work : List ℕ) → Early ts → verdict ts ≡ refused number place → work ≡ work_after (verdict ts) work
unfolding work_after verdict
work-early [] number place work l e = absurd (not-both refl e)
work-early (t ∷ ts) number place work l e =
    let rest = work-early ts number place work l.1 in
    by-test t.passes (λ p. rw p (rest (rw p at e))) (λ p. rw (p, le-leb (test_number t) 3 l.0))

pub sizes-early : (n buffer : ℕ) → Early (size_tests n buffer)
unfolding empty too_large wrong_length
sizes-early n buffer = (lit≤ tt, (lit≤ tt, (lit≤ tt, tt)))

-- the tests of a list are all after the third
abbrev pub Later : List Test → Type 0
Later [] = Unit {0}
Later (t ∷ ts) = (3 < test_number t) × Later ts

-- whatever they answer, work is all zero
work-cleared : (ts : List Test) (work : List ℕ) → Later ts → work_after (verdict ts) work ≡ replicate (length work) 0
unfolding work_after verdict
work-cleared [] work l = refl
work-cleared (t ∷ ts) work l =
    let rest = work-cleared ts work l.1 in
    by-test t.passes (λ e. rw e rest) (λ e. rw (e, lt-leb (test_number t) 3 l.0))

pub work-zero : (v : Verdict) (ts : List Test) (work : List ℕ) → v ≡ verdict ts → Later ts → work_after v work ≡ replicate (length work) 0
work-zero v ts work e l = rw e (work-cleared ts work l)

pub tree-later : (shift : ℕ) (s : List ℕ) → Later (tree_tests shift s)
unfolding parent_out_of_range no_root second_root cycle
tree-later shift s = (lit< tt, (lit< tt, (lit< tt, (lit< tt, tt))))

pub stale-later : (t : Lent) → Later (stale_table t ∷ [])
unfolding stale_table
stale-later t = (lit< tt, tt)
