-- The operator's table (document 01, "Numbers on the operator's screen"): its rows 1 to 11 as data, and the first that fails.
-- Row 12, "illegible", is about lines of text, and stands with the program's forms.
-- Assumes nothing.
use Rattle.std.specs.Prelude.{ℕ, suc, ◌+◌, ◌≡◌, Bool, cond, not, List, [], ◌∷◌, ◌++◌, leb, ltb, eqb, length, get_or}
use Rattle.tree.specs.declared.Refusal.{Refusal}
use Rattle.tree.specs.declared.Refusal.TheVariants.{Empty, TooLarge, WrongLength, ParentOutOfRange, NoRoot, SecondRoot, Cycle, StaleTable, NothingListed, NodeOutOfRange, NoCommonAncestor}
use Rattle.tree.specs.Scan.{least}
use Rattle.tree.specs.Tree.{parent, climb, is_root, next_root, root_of}
use Rattle.tree.specs.Lca.{is_common}
use Rattle.tree.specs.Verdict.{Verdict, accepted, refused, number_of, place_of}
use Rattle.tree.specs.Tables.{Lent, own, end_to_end}
use Rattle.tree.specs.Sections.{differ_at}

-- a row of the table: whether the call's input passes, and the refusal where it does not
pub record Test : Type 0 where
  pub passes : Bool
  pub why : Refusal

-- its number and the refusal's place, as `numbered` has them
abbrev pub test_number : Test → ℕ
test_number t = number_of t.why

abbrev pub test_place : Test → ℕ
test_place t = place_of t.why

-- "Tests run in this order .. and each is given only on its condition": the first that fails refuses
unfoldable pub verdict : List Test → Verdict
verdict [] = accepted
verdict (t ∷ ts) = let later = verdict ts in cond t.passes later (refused (test_number t) (test_place t))

-- a test that fails where some number below n is bad, with the refusal at the lowest
abbrev pub lowest_bad : (ℕ → Refusal) → (ℕ → Bool) → ℕ → Test
lowest_bad refusal_at bad n = record { passes = eqb (least bad n) n; why = refusal_at (least bad n) }

-- 1 "bare": n is 0
unfoldable pub empty : ℕ → Test
empty n = record { passes = ltb 0 n; why = Empty }

-- 2 "oversize": n above the limit
unfoldable pub too_large : ℕ → ℕ → Test
too_large limit n = record { passes = leb n limit; why = TooLarge }

-- 3 "misfit": a lent buffer hasn't its exact length, at the lowest buffer. 0 says that all fit
unfoldable pub wrong_length : ℕ → Test
wrong_length buffer = record { passes = eqb buffer 0; why = WrongLength buffer }

-- the entry of part v is n or more
abbrev pub outside : List ℕ → ℕ → Bool
outside s v = leb (length s) (parent s v)

-- the climb from part v never meets the root: one that has not met it after n steps never does
abbrev pub lost : List ℕ → ℕ → Bool
lost s v = not (is_root s (climb s (length s) v))

-- the lowest such part; n where there is none
abbrev pub first_outside : List ℕ → ℕ
first_outside s = least (outside s) (length s)

abbrev pub first_lost : List ℕ → ℕ
first_lost s = least (lost s) (length s)

-- 4 "off sheet": an entry is n or more, at the lowest such part. A call may count a sheet's parts from `shift` on; others do from 0
unfoldable pub parent_out_of_range : ℕ → List ℕ → Test
parent_out_of_range shift s = lowest_bad (λ v. ParentOutOfRange (shift + v)) (outside s) (length s)

-- 5 "rootless": no part names itself
unfoldable pub no_root : List ℕ → Test
no_root s = record { passes = ltb (root_of s) (length s); why = NoRoot }

-- 6 "second root": two or more name themselves, at the second lowest of them
unfoldable pub second_root : ℕ → List ℕ → Test
second_root shift s =
    let second = next_root s (suc (root_of s)) in
    record { passes = leb (length s) second; why = SecondRoot (shift + second) }

-- 7 "loop": a part's climb never meets the root, at the lowest such part
unfoldable pub cycle : ℕ → List ℕ → Test
cycle shift s = lowest_bad (λ v. Cycle (shift + v)) (lost s) (length s)

-- 8 "stale": a cell of a lent table isn't this sheet's, at the first such cell from 0, the lent tables end to end
unfoldable pub stale_table : Lent → Test
stale_table t =
    let mine = end_to_end (own t.parents) in
    lowest_bad StaleTable (differ_at (end_to_end t) mine) (length mine)

-- 9 "nothing listed": no pair or part given
unfoldable pub nothing_listed : List ℕ → Test
nothing_listed question = record { passes = ltb 0 (length question); why = NothingListed }

-- the number at position i of a question is n or more
abbrev pub off_sheet : List ℕ → List ℕ → ℕ → Bool
off_sheet s question i = leb (length s) (get_or question i 0)

-- 10 "no such part": a listed number is n or more, at the first such position, from 0. A call that lists other numbers before its question counts the
-- question's positions from `first` on; others do from 0
unfoldable pub node_out_of_range : List ℕ → ℕ → List ℕ → Test
node_out_of_range s first question = lowest_bad (λ i. NodeOutOfRange (first + i)) (off_sheet s question) (length question)

-- 11 "adrift": listed parts have no common carrier
unfoldable pub no_common_ancestor : List ℕ → List ℕ → Test
no_common_ancestor s question = record { passes = ltb (least (is_common s question) (length s)) (length s); why = NoCommonAncestor }

-- "n is 1 to 16,384 in the library"
abbrev pub limit : ℕ
limit = 16384

-- the tests of sizes, 1 to 3, of a sheet of n parts and a call whose lowest buffer that does not fit is `buffer`
abbrev pub size_tests : ℕ → ℕ → List Test
size_tests n buffer = empty n ∷ too_large limit n ∷ wrong_length buffer ∷ []

-- the tests that a sheet is one rooted tree, 4 to 7, its parts counted from `shift` on
abbrev pub tree_tests : ℕ → List ℕ → List Test
tree_tests shift s = parent_out_of_range shift s ∷ no_root s ∷ second_root shift s ∷ cycle shift s ∷ []

-- the tests of a sheet, 1 to 7, of a call whose lowest buffer that does not fit is `buffer`
abbrev pub sheet_tests : List ℕ → ℕ → List Test
sheet_tests s buffer = size_tests (length s) buffer ++ tree_tests 0 s

-- the tests of a sheet with lent tables, 1 to 8
abbrev pub lent_tests : Lent → ℕ → List Test
lent_tests t buffer = sheet_tests t.parents buffer ++ (stale_table t ∷ [])

-- the tests of a question, 9 to 11, its positions counted from `first` on
abbrev pub question_tests : List ℕ → ℕ → List ℕ → List Test
question_tests s first question = nothing_listed question ∷ node_out_of_range s first question ∷ no_common_ancestor s question ∷ []

-- the tests of a call that answers a question, 1 to 11
abbrev pub asked_tests : Lent → ℕ → List ℕ → List Test
asked_tests t buffer question = lent_tests t buffer ++ question_tests t.parents 0 question

-- the tests of a call that names one part, 1 to 8 and 10: "a part (position 0 in test 10)"
abbrev pub part_tests : Lent → ℕ → ℕ → List Test
part_tests t buffer part = lent_tests t buffer ++ (node_out_of_range t.parents 0 (part ∷ []) ∷ [])

-- a sheet that is accepted where the buffers fit
abbrev pub Accepted : List ℕ → Type 0
Accepted s = verdict (sheet_tests s 0) ≡ accepted
