-- What the calls give that are lent an accepted sheet's own tables and buffers that fit, and asked of its parts: none is refused, and each answer
-- is its definition's.
-- Assumes nothing.
use Prim.Native.Nat.{ℕ, ◌%◌}
use mathlib.Core.Path.{◌≡◌, refl, sym, ap, ◌∙◌, subst}
use mathlib.Core.List.{List, [], ◌∷◌}
use lib.ListN.{length}
use Rattle.std.proofs.Common.{Result, Ok, Err}
use Rattle.tree.specs.declared.Refusal.{Refusal}
use Rattle.tree.specs.Verdict.{accepted, Outcome, verdict_of, lifts_of}
use Rattle.tree.specs.Tests as tests
use Rattle.tree.specs.Buffers.{work_cells, trail_cells, answer_cells}
use Rattle.tree.specs.Lca.{lca}
use Rattle.tree.specs.Tables.{Lent, own}
use Rattle.tree.specs.Lending.{asked_verdict}
use Rattle.tree.specs.Branch.{answer_by}
use Rattle.tree.specs.Pairs.{each_answer}
use Rattle.tree.specs.Trail.{trail, by_lifts, lifts, trail_buffer}
use Rattle.tree.proofs.Verdicts.{not-both, accepted-case}
use Rattle.tree.proofs.Answers.{filled-own}
use Rattle.tree.proofs.Fits.{pairs-fitting, trail-fitting, list-fitting}
use Rattle.tree.proofs.Acceptance.{accepted-tree}
use Rattle.tree.proofs.Questions.{parts-accepted}
use Rattle.tree.proofs.Owning.{question-decides}
use Rattle.routes.specs.Answers.{Asked, pairs_unfit, PairsGive, trail_unfit, TrailGives, list_unfit, ListGives}
use Rattle.routes.specs.Lends.{Some, Lends}

-- what a call is lent, written out
abbrev lending : List ℕ → List ℕ → Asked → Asked
lending s question a = record { lent = own s; work = a.work; question = question; answer = a.answer }

lends-is : {s question : List ℕ} {cells : ℕ} (a : Asked) → Lends s question cells a → a ≡ lending s question a
lends-is {s} {question} a l =
    ap (λ (t : Lent). record { lent = t; work = a.work; question = a.question; answer = a.answer }) l.tables
    ∙ ap (λ (q : List ℕ). record { lent = own s; work = a.work; question = q; answer = a.answer }) l.asks

-- the further buffers of a call that is lent so fit: of pairs, of a list, of a trail
pub pairs-lent-fit : {s question : List ℕ} {a : Asked} → Lends s question (answer_cells (length question)) a → length question % 2 ≡ 0
    → pairs_unfit (lending s question a) ≡ 0
pairs-lent-fit l even = pairs-fitting _ _ even l.answer-fits

pub list-lent-fit : {s question : List ℕ} {a : Asked} → Lends s question 1 a → list_unfit (lending s question a) ≡ 0
list-lent-fit l = list-fitting _ l.answer-fits

pub trail-lent-fit : {s : List ℕ} {x y : ℕ} {a : Asked} (rows : List ℕ) → Lends s (x ∷ y ∷ []) 1 a → length rows ≡ trail_cells
    → trail_unfit (lending s (x ∷ y ∷ []) a) rows ≡ 0
trail-lent-fit rows l whole = trail-fitting _ _ _ refl l.answer-fits whole

-- a trail's answer that counts lifts is the case that says so
lifts-case : (r : Result ℕ Refusal) (count : ℕ) → verdict_of r ≡ accepted → lifts_of r ≡ count → r ≡ Ok count
lifts-case (Ok n) count e c = ap Ok c
lifts-case (Err why) count e c = absurd (not-both e refl)

module _ (s : List ℕ) (accepts : tests.Accepted s) where
  -- a question of its parts is accepted
  pub granted : (work question : List ℕ) (further : ℕ) → length work ≡ work_cells (length s) → further ≡ 0 → Some s question
      → asked_verdict (own s) work question further ≡ accepted
  granted work question further room fits some =
      question-decides s accepts work question further room fits ∙ parts-accepted s 0 question (accepted-tree s accepts).0 some.listed some.parts

  -- pairs by a rule
  pub pairs-granted : {rule : Lent → ℕ → ℕ → ℕ} {question : List ℕ} {a : Asked} {r : Outcome} {work' answer' : List ℕ} → Some s question → length question % 2 ≡ 0
      → Lends s question (answer_cells (length question)) a → PairsGive rule a r work' answer' → (r ≡ Ok tt) × (answer' ≡ each_answer (answer_by rule (own s)) question)
  pairs-granted {rule} {question} {a} {r} {work'} {answer'} some even l given =
      let g = subst (λ (b : Asked). PairsGive rule b r work' answer') (lends-is a l) given in
      let yes = granted a.work question _ l.work-fits (pairs-lent-fit l even) some in
      (accepted-case r (g.answered.outcome ∙ yes), g.answer ∙ sym (filled-own _ _ _ yes))

  -- a list
  pub list-granted : {question : List ℕ} {a : Asked} {r : Outcome} {work' answer' : List ℕ} → Some s question → Lends s question 1 a
      → ListGives a r work' answer' → (r ≡ Ok tt) × (answer' ≡ lca s question ∷ [])
  list-granted {question} {a} {r} {work'} {answer'} some l given =
      let g = subst (λ (b : Asked). ListGives b r work' answer') (lends-is a l) given in
      let yes = granted a.work question _ l.work-fits (list-lent-fit l) some in
      (accepted-case r (g.answered.outcome ∙ yes), g.answer ∙ sym (filled-own _ _ _ yes))

  -- a trail
  pub trail-granted : {x y : ℕ} {a : Asked} {rows : List ℕ} {r : Result ℕ Refusal} {work' answer' rows' : List ℕ} → Some s (x ∷ y ∷ []) → Lends s (x ∷ y ∷ []) 1 a
      → length rows ≡ trail_cells → TrailGives a rows r work' answer' rows'
      → (r ≡ Ok (lifts (own s) x y)) × (answer' ≡ by_lifts (own s) x y ∷ []) × (rows' ≡ trail_buffer (trail (own s) x y))
  trail-granted {x} {y} {a} {rows} {r} {work'} {answer'} {rows'} some l whole given =
      let g = subst (λ (b : Asked). TrailGives b rows r work' answer' rows') (lends-is a l) given in
      let yes = granted a.work (x ∷ y ∷ []) _ l.work-fits (trail-lent-fit rows l whole) some in (
        lifts-case r _ (g.answered.outcome ∙ yes) (g.count ∙ sym (filled-own _ _ _ yes)),
        g.answer ∙ sym (filled-own _ _ _ yes),
        g.trail ∙ sym (filled-own _ _ _ yes),
      )
