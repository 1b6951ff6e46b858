-- What tests 9 to 11 answer, from what a call has found of a question on a tree: how many numbers it lists, and the first that is no part. With it, test 10 of a
-- call that names one part.
-- Assumes nothing.
use Prim.Native.Nat.{ℕ, ◌+◌, ◌≤◌, ◌<◌}
use native.Mathlib.Nat.{le_refl, le_of_eq, lt_of_lt_of_le, lt_of_le_of_lt}
use mathlib.Core.Path.{◌≡◌, refl, sym, subst}
use mathlib.Core.Bool.{true}
use mathlib.Core.List.{List, [], ◌∷◌}
use borrow.Author.Tests.{lt-ltb, le-ltb, ltb-true, le-leb, lt-leb, leb-false, eqb-true}
use lib.Dec.{lit<}
use lib.ListN.{length, get_or}
use Rattle.tree.specs.Scan.{least, least_from, position}
use Rattle.tree.specs.Tree.{Tree}
use Rattle.tree.specs.Lca.{Parts, is_common}
use Rattle.tree.specs.Verdict.{accepted, refused}
use Rattle.tree.specs.Tests.{verdict, off_sheet, nothing_listed, node_out_of_range, no_common_ancestor, question_tests}
use Rattle.tree.proofs.Scans.{by_order, least-at-most, least-before, least-none, position_here}
use Rattle.tree.proofs.Verdicts.{Passed, not-both, first-refused, passed-accepted, accepted-passed}
use Rattle.tree.proofs.Answers.{bad-passes, bad-fails, Later}
use Rattle.tree.proofs.Orders.{member-at, member-position}
use Rattle.tree.proofs.Lcas.{common-test}

module _ (s question : List ℕ) where
  -- a question of which each number is a part lists parts
  pub question-parts : ((i : ℕ) → i < length question → get_or question i 0 < length s) → Parts s question
  question-parts part x m =
      let h = member-position question x m in
      subst (λ (y : ℕ). y < length s) (position_here question x h) (part (position question x) h)

  -- where no number is off the sheet, each is a part
  nodes-inside : length question ≤ least (off_sheet s question) (length question) → (i : ℕ) → i < length question → get_or question i 0 < length s
  nodes-inside h i b = leb-false _ _ (least-before _ (length question) i (lt_of_lt_of_le b h))

  some-passes : 0 < length question → Passed (nothing_listed question ∷ [])
  unfolding nothing_listed
  some-passes h = (lt-ltb _ _ h, tt)

  -- 11 is never given: the root carries every part
  never-adrift : Tree s → Parts s question → (no_common_ancestor s question).passes ≡ true
  unfolding no_common_ancestor
  never-adrift t parts =
      let root = t.root in
      let common = common-test t question root parts (λ x m. t.reach x (parts x m)) in
      lt-ltb _ _ (lt_of_le_of_lt (least-at-most (is_common s question) (length s) root common) t.root-inside)

module _ (s : List ℕ) (first : ℕ) (question : List ℕ) where
  -- 9
  pub refused-nothing : length question ≡ 0 → verdict (question_tests s first question) ≡ refused 9 0
  unfolding nothing_listed
  refused-nothing e = first-refused [] (nothing_listed question) _ tt (le-ltb _ _ (le_of_eq e))

  -- 10, at the first number that is no part
  pub refused-node : (r : ℕ) → 0 < length question → r ≡ least (off_sheet s question) (length question) → r < length question
      → verdict (question_tests s first question) ≡ refused 10 (first + r)
  unfolding node_out_of_range
  refused-node r h e b =
      rw e (first-refused (nothing_listed question ∷ []) (node_out_of_range s first question) _ (some-passes s question h) (bad-fails _ _ (rw e at b)))

  -- a question of parts is accepted
  pub accepted-question : (r : ℕ) → Tree s → 0 < length question → r ≡ least (off_sheet s question) (length question) → length question ≤ r
      → verdict (question_tests s first question) ≡ accepted
  unfolding node_out_of_range
  accepted-question r t h e b =
      let none = rw e at b in
      let parts = question-parts s question (nodes-inside s question none) in
      passed-accepted (question_tests s first question) ((some-passes s question h).0, (bad-passes _ _ none, (never-adrift s question t parts, tt)))

  pub parts-accepted : Tree s → 0 < length question → Parts s question → verdict (question_tests s first question) ≡ accepted
  parts-accepted t h parts =
      let none = least-none _ (length question) (λ i b. lt-leb (length s) (get_or question i 0) (parts _ (member-at question i b))) in
      accepted-question (length question) t h (sym none) (le_refl (length question))

  -- and one that is accepted is a question of parts
  pub question-accepted : verdict (question_tests s first question) ≡ accepted
      → (0 < length question) × ((i : ℕ) → i < length question → get_or question i 0 < length s)
  unfolding nothing_listed node_out_of_range
  question-accepted e =
      let (some, (none, _)) = accepted-passed (question_tests s first question) e in
      (ltb-true _ _ some, nodes-inside s question (le_of_eq (sym (eqb-true _ _ none))))

  -- these tests are after the third
  pub question-later : Later (question_tests s first question)
  unfolding nothing_listed node_out_of_range no_common_ancestor
  question-later = (lit< tt, (lit< tt, (lit< tt, tt)))

-- ---- test 10 of a call that names one part

module _ (s : List ℕ) (part : ℕ) where
  -- 10, at position 0, where it is none of the sheet's
  pub refused-part : length s ≤ part → verdict (node_out_of_range s 0 (part ∷ []) ∷ []) ≡ refused 10 0
  unfolding node_out_of_range least least_from verdict
  refused-part h = rw (le-leb (length s) part h) refl

  -- a part is accepted
  pub accepted-part : part < length s → verdict (node_out_of_range s 0 (part ∷ []) ∷ []) ≡ accepted
  unfolding node_out_of_range least least_from verdict
  accepted-part h = rw (lt-leb (length s) part h) refl

  -- and what is accepted is a part
  pub part-accepted : verdict (node_out_of_range s 0 (part ∷ []) ∷ []) ≡ accepted → part < length s
  part-accepted e = by_order (length s) part (λ h. absurd (not-both e (refused-part h))) (λ h. h)

  -- this test is after the third
  pub part-later : Later (node_out_of_range s 0 (part ∷ []) ∷ [])
  unfolding node_out_of_range
  part-later = (lit< tt, tt)
