-- How long the lines are that a run prints: refusals, and the answers to questions.
-- Assumes nothing.
use Prim.Native.Nat.{ℕ, suc, ◌-◌, ◌*◌, ◌≤◌, ◌<◌}
use native.Mathlib.Nat.{le_trans, lt_trans}
use native.Mathlib.Omega.{arith}
use mathlib.Core.Path.{◌≡◌, refl}
use mathlib.Core.List.{List, [], ◌∷◌}
use borrow.Table.Steps.{cases}
use lib.Dec.{lit<}
use lib.ListN.{length, length-append}
use Rattle.tree.specs.Lca.{lca}
use Rattle.tree.specs.Tree.{is_root, next_root, root_of}
use Rattle.tree.specs.Branch.{Answer, pair_answer}
use Rattle.tree.specs.Trail.{lift_count}
use Rattle.tree.specs.Verdict.{accepted}
use Rattle.tree.specs.Tests.{Test, test_number, test_place, verdict, sheet_tests, question_tests, Accepted, outside, lost, off_sheet}
use Rattle.tree.specs.Tests.{empty, too_large, wrong_length, parent_out_of_range, no_root, second_root, cycle, nothing_listed, node_out_of_range, no_common_ancestor}
use Rattle.tree.proofs.Scans.{least-le, least_from_lem}
use Rattle.tree.proofs.Roots.{root_of_lem}
use Rattle.tree.proofs.Lcas.{lca-found}
use Rattle.tree.proofs.ByLifts.{trail_fits_lem}
use Rattle.tree.proofs.Branches.{answer-found, answer-inside}
use Rattle.tree.proofs.Acceptance.{accepted-tree}
use Rattle.tree.proofs.Questions.{question-parts, question-accepted}
use Rattle.tree.proofs.Claims.{trail-rows}
use Rattle.text.specs.Bytes.{bytes, decimal, word_number}
use Rattle.text.proofs.Decimals.{decimal-length, decimal-some}
use Rattle.lines.specs.Forms.{Query, pair, many, asked, text, most_listed, Legal}
use Rattle.lines.specs.Machine.{most, count_tests}
use Rattle.lines.proofs.Legible.{five-digits}
use Rattle.console.specs.Print.{refusal, answer_text, pair_line, many_line, given}
use Rattle.console.specs.Run.{answer}
use Rattle.console.specs.Whole.{per_byte}
use Rattle.console.proofs.Carriers.{carrier-small}

-- ---- numbers and refusals

-- a number of at most five digits
abbrev pub Short : ℕ → Type 0
Short n = n < 100000

-- a part that the program takes has at most three
three-digits : (n : ℕ) → n < most → length (decimal n) ≤ 3
three-digits n h = decimal-length 2 n (lt_trans h (lit< tt))

-- the line of a refusal
pub refusal-length : (number place : ℕ) → Short number → Short place → length (refusal number place) ≤ 27
unfolding refusal word_number bytes
refusal-length number place h k =
    let left = five-digits number h in
    let right = five-digits place k in
    simp length-append (omega arith)

-- the numbers and places of some tests
abbrev pub Shorts : List Test → Type 0
Shorts [] = Unit {0}
Shorts (t ∷ ts) = Short (test_number t) × Short (test_place t) × Shorts ts

-- what is printed by a verdict: a refusal, or the text of what is accepted
pub given-length : (ts : List Test) (b : List ℕ) (m : ℕ) → Shorts ts → 27 ≤ m → (verdict ts ≡ accepted → length b ≤ m) → length (given (verdict ts) b) ≤ m
unfolding verdict given
given-length [] b m h low fits = fits refl
given-length (t ∷ ts) b m h low fits =
    let rest = given-length ts b m h.2 low in
    cases t.passes
    (λ e. rw e (rest (rw e at fits)))
    (λ e. rw e (le_trans (refusal-length (test_number t) (test_place t) h.0 h.1) low))

-- those of the tests of a machine's count
pub count-shorts : (n : ℕ) → Shorts (count_tests n)
unfolding empty too_large
count-shorts n = omega arith

-- of a sheet: each place is a part's number, or one above
pub sheet-shorts : (s : List ℕ) → length s ≤ most → Shorts (sheet_tests s 0)
unfolding empty too_large wrong_length parent_out_of_range no_root second_root cycle next_root
sheet-shorts s h =
    let off = least-le (outside s) (length s) in
    let root = (root_of_lem s).to in
    let second = (least_from_lem (is_root s) (suc (root_of s)) (length s - suc (root_of s))).to in
    let loop = least-le (lost s) (length s) in
    omega arith

-- of a question: each place is one of its positions, or its length
question-shorts : (s question : List ℕ) → length question ≤ most_listed → Shorts (question_tests s 0 question)
unfolding nothing_listed node_out_of_range no_common_ancestor
question-shorts s question h = let off = least-le (off_sheet s question) (length question) in omega arith

-- ---- answers

-- the bytes that are printed at most for a question's line, with its LF
abbrev pub worth : Query → ℕ
worth q = per_byte * suc (length (text (asked q)))

-- a refusal is no longer
refusal-fits : (q : Query) → 27 ≤ worth q
unfolding text word_number bytes
refusal-fits (pair x y) = simp length-append (omega arith)
refusal-fits (many xs) = simp length-append (omega arith)

-- nor is a pair's answer, of parts that the program takes
pair_fits : (x y : ℕ) (a : Answer) (lifts : ℕ) → a.carrier < most → a.left < most → a.right < most → Short lifts
    → length (pair_line x y a lifts) ≤ worth (pair x y)
unfolding pair_line answer_text text word_number bytes
pair_fits x y a lifts carrier left right short =
    let some-x = decimal-some x in
    let some-y = decimal-some y in
    let digits = three-digits a.carrier carrier in
    let digits-left = three-digits a.left left in
    let digits-right = three-digits a.right right in
    let counted = five-digits lifts short in
    simp length-append (omega arith)

-- nor a list's
many-fits : (xs : List ℕ) (carrier : ℕ) → Short carrier → length (many_line xs carrier) ≤ worth (many xs)
unfolding many_line text word_number bytes
many-fits xs carrier h = let digits = five-digits carrier h in simp length-append (omega arith)

module _ (s : List ℕ) (a : Accepted s) (few : length s ≤ most) where
  -- the carrier of a question that is accepted is a part
  carrier-short : (question : List ℕ) → verdict (question_tests s 0 question) ≡ accepted → Short (lca s question)
  carrier-short question e =
      let (t, _) = accepted-tree s a in
      let (one, inside) = question-accepted s 0 question e in
      let below = carrier-small s a question e _ (lca-found t question one (question-parts s question inside)) in
      omega arith

  -- so are a pair's branches, and it has at most 32 lifts
  pair-length : (x y : ℕ) → verdict (question_tests s 0 (x ∷ y ∷ [])) ≡ accepted → length (pair_line x y (pair_answer s x y) (lift_count s x y)) ≤ worth (pair x y)
  pair-length x y e =
      let (t, small) = accepted-tree s a in
      let (_, inside) = question-accepted s 0 (x ∷ y ∷ []) e in
      let hx = inside 0 (omega arith) in
      let hy = inside 1 (omega arith) in
      let (carrier, left, right) = answer-inside t hx hy (answer-found t hx hy) in
      let rows = trail-rows s a x y hx hy in
      let lifted = trail_fits_lem s small x y in
      pair_fits x y (pair_answer s x y) (lift_count s x y) (omega arith) (omega arith) (omega arith) (omega arith)

  -- an answer has at most `per_byte` bytes for each byte of its line
  pub answer-length : (q : Query) → Legal (asked q) → length (answer s q) ≤ worth q
  unfolding answer
  answer-length (pair x y) h =
      given-length (question_tests s 0 (x ∷ y ∷ [])) _ (worth (pair x y)) (question-shorts s (x ∷ y ∷ []) (omega arith)) (refusal-fits (pair x y)) (pair-length x y)
  answer-length (many xs) h =
      given-length (question_tests s 0 xs) _ (worth (many xs)) (question-shorts s xs h.0) (refusal-fits (many xs))
      (λ e. many-fits xs _ (carrier-short xs e))
