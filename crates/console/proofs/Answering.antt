-- What is printed of a question: where the tables are the sheet's own and the buffers fit, the question alone decides, and the calls give its carrier,
-- its branches and its lifts.
-- Assumes nothing.
use Prim.Native.Nat.{ℕ}
use native.Mathlib.Omega.{arith}
use mathlib.Core.Path.{◌≡◌, refl, sym, ap, ap₂, ◌∙◌}
use mathlib.Core.List.{List, [], ◌∷◌}
use lib.ListN.{length, get_or}
use Rattle.tree.specs.declared.Refusal.{Refusal}
use Rattle.std.proofs.Common.{Result, Ok, Err}
use Rattle.tree.specs.Verdict.{Verdict, accepted, refused, Outcome, verdict_of, lifts_of}
use Rattle.tree.specs.Tests.{verdict, question_tests}
use Rattle.tree.specs.Buffers.{answer_width, trail_cells}
use Rattle.tree.specs.Lca.{Lca, lca}
use Rattle.tree.specs.Tables.{Lent}
use Rattle.tree.specs.Trail.{lift_count}
use Rattle.tree.specs.Lending.{asked_verdict}
use Rattle.tree.proofs.Fits.{pairs-fitting, trail-fitting, list-fitting}
use Rattle.tree.proofs.Questions.{question-parts, question-accepted}
use Rattle.tree.proofs.Claims.{one-carrier, one_answer}
use Rattle.tree.proofs.Owning.{question-decides}
use Rattle.routes.specs.Answers.{Asked, PairsGive, TrailGives, ListGives}
use Rattle.lines.specs.Forms.{pair, many}
use Rattle.console.specs.Print.{refusal, refusal_line, pair_line, many_line, given}
use Rattle.console.specs.Run.{answer}
use Rattle.console.specs.Gives.{Stands, answer_of, Found}
use Rattle.console.specs.declared.print.PairAnswer.{PairAnswer}

-- a verdict that refuses prints its line, whatever would be printed else
pub given-refused : {v u : Verdict} {number place : ℕ} (text : List ℕ) → v ≡ refused number place → v ≡ u → refusal number place ≡ given u text
unfolding given
given-refused text e same = rw (← same, e) refl

-- one that accepts prints the text
pub given-accepted : {v u : Verdict} (text : List ℕ) → v ≡ accepted → v ≡ u → text ≡ given u text
unfolding given
given-accepted text e same = rw (← same, e) refl

-- what a call is lent
abbrev lending : Lent → List ℕ → List ℕ → List ℕ → Asked
lending t work question cells = record { lent = t; work = work; question = question; answer = cells }

module _ {t : Lent} {work : List ℕ} (stands : Stands t work) where
  -- the question alone decides
  decides : (question : List ℕ) (further : ℕ) → further ≡ 0 → asked_verdict t work question further ≡ verdict (question_tests t.parents 0 question)
  decides question further fits =
      ap (λ (u : Lent). asked_verdict u work question further) stands.tables
      ∙ question-decides t.parents stands.accepts work question further stands.room fits

  -- a carrier of an accepted question is the one that the climber finds
  carrier-is : (question : List ℕ) (c : ℕ) → verdict (question_tests t.parents 0 question) ≡ accepted → Lca t.parents question c → c ≡ lca t.parents question
  carrier-is question c e l =
      let (some, inside) = question-accepted t.parents 0 question e in
      (one-carrier t.parents stands.accepts question some (question-parts t.parents question inside)).1 c l

  -- ---- a pair by a route

  module _ {rule : Lent → ℕ → ℕ → ℕ} {x y : ℕ} {cells work' cells' : List ℕ} {r : Outcome}
      (g : PairsGive rule (lending t work (x ∷ y ∷ []) cells) r work' cells') (three : length cells ≡ answer_width) where
    -- its verdict is that of its two numbers
    pair-decides : verdict_of r ≡ verdict (question_tests t.parents 0 (x ∷ y ∷ []))
    pair-decides = g.answered.outcome ∙ decides (x ∷ y ∷ []) _ (pairs-fitting 2 (length cells) refl three)

    -- refused
    pub pair-refused : {why : Refusal} → r ≡ Err why → refusal_line why ≡ answer t.parents (pair x y)
    unfolding answer
    pair-refused e = given-refused _ (ap verdict_of e) pair-decides

    -- answered: its carrier and both branches are found
    pub pair_found : r ≡ Ok tt → Found t.parents x y (record { carrier = get_or cells' 0 0; left = get_or cells' 1 0; right = get_or cells' 2 0 })
    pair_found e =
        let yes = sym pair-decides ∙ ap verdict_of e in
        let (_, inside) = question-accepted t.parents 0 (x ∷ y ∷ []) yes in
        let one = one_answer t.parents stands.accepts x y (inside 0 (omega arith)) (inside 1 (omega arith)) in
        record { yes = yes; is = one.1 _ (g.answers (sym g.answered.outcome ∙ ap verdict_of e) 0 (omega arith)) }

  -- ---- the trail of a pair

  module _ {x y : ℕ} {cells rows work' cells' rows' : List ℕ} {r : Result ℕ Refusal} (g : TrailGives (lending t work (x ∷ y ∷ []) cells) rows r work' cells' rows')
      (one : length cells ≡ 1) (whole : length rows ≡ trail_cells) where
    -- its verdict is that of its two numbers
    trail-decides : verdict_of r ≡ verdict (question_tests t.parents 0 (x ∷ y ∷ []))
    trail-decides =
        g.answered.outcome ∙ decides (x ∷ y ∷ []) _ (trail-fitting 2 (length cells) (length rows) refl one whole)

    -- refused
    pub trail-refused : {why : Refusal} → r ≡ Err why → refusal_line why ≡ answer t.parents (pair x y)
    unfolding answer
    trail-refused e = given-refused _ (ap verdict_of e) trail-decides

    -- traced: with the carrier and the branches that were found, its line is known
    pub pair-answered : {lifts : ℕ} {a : PairAnswer} → r ≡ Ok lifts → Found t.parents x y a
        → pair_line x y (answer_of a) lifts ≡ answer t.parents (pair x y)
    unfolding answer
    pair-answered {lifts} e found =
        let yes : verdict_of r ≡ accepted = ap verdict_of e in
        let count : lifts ≡ lift_count t.parents x y = ap lifts_of (sym e) ∙ g.ones (sym g.answered.outcome ∙ yes) in
        ap₂ (pair_line x y) found.is count ∙ given-accepted _ yes trail-decides

  -- ---- a list

  module _ {question cells work' cells' : List ℕ} {r : Outcome} (g : ListGives (lending t work question cells) r work' cells') (one : length cells ≡ 1) where
    -- its verdict is that of its numbers
    list-decides : verdict_of r ≡ verdict (question_tests t.parents 0 question)
    list-decides = g.answered.outcome ∙ decides question _ (list-fitting (length cells) one)

    -- refused
    pub many-refused : {why : Refusal} → r ≡ Err why → refusal_line why ≡ answer t.parents (many question)
    unfolding answer
    many-refused e = given-refused _ (ap verdict_of e) list-decides

    module _ (e : r ≡ Ok tt) where
      -- it is accepted, and its carrier is known
      list-yes : verdict_of r ≡ accepted
      list-yes = ap verdict_of e

      list-carrier : get_or cells' 0 0 ≡ lca t.parents question
      list-carrier = carrier-is _ _ (sym list-decides ∙ list-yes) (g.carrier (sym g.answered.outcome ∙ list-yes))

      -- answered
      pub many-answered : many_line question (get_or cells' 0 0) ≡ answer t.parents (many question)
      unfolding answer
      many-answered = rw list-carrier (given-accepted _ list-yes list-decides)
