-- What each call gives, from its tests and, where they accept, from the answers that were stored.
-- Assumes nothing.
use Prim.Native.Nat.{ℕ, ◌<◌}
use native.Mathlib.Omega.{arith}
use mathlib.Core.Path.{◌≡◌, refl, sym, ap, ◌∙◌, subst}
use mathlib.Core.List.Memᴰ
use mathlib.Core.List.{List, [], ◌∷◌}
use lib.ListN.{length, get_or, set, length-set}
use lib.Seq.{ext_get_or, get_or-set_same}
use Rattle.tree.specs.declared.Refusal.{Refusal}
use Rattle.std.proofs.Common.{Result, Ok, Err}
use Rattle.tree.specs.Verdict.{accepted, refused, Outcome, number_of, place_of, verdict_of, lifts_of}
use Rattle.tree.specs.Tree.{Ancestor, Tree}
use Rattle.tree.specs.Lca.{Lca, lca}
use Rattle.tree.specs.Tables.{Lent, own}
use Rattle.tree.specs.Routes.{by_tour}
use Rattle.tree.specs.Sharing.{first_in_preorder, last_in_preorder}
use Rattle.tree.specs.Trail.{trail, by_lifts, lifts, trail_buffer}
use Rattle.tree.specs.Nodes.{Pair, Listed}
use Rattle.tree.specs.Branch.{IsAnswer, answer_by}
use Rattle.tree.specs.Pairs.{left_of, right_of, pairs, each_answer, answer_at}
use Rattle.tree.proofs.Verdicts.{not-both}
use Rattle.tree.proofs.Lcas.{lca-found, lca-only}
use Rattle.tree.proofs.Lists.{ends-listed, ends-lca}
use Rattle.tree.proofs.Answers.{filled-own, filled-kept}
use Rattle.tree.proofs.Questions.{question-parts}
use Rattle.tree.proofs.Stages.{stage-no, stage-yes}
use Rattle.tree.proofs.Pairs.{question-pair, answer_at_lem}
use Rattle.tree.proofs.Owning.{owned-is}
use Rattle.tree.proofs.ByLabels.{labels-lca}
use Rattle.tree.proofs.ByTour.{tour-lca}
use Rattle.tree.proofs.ByLifts.{lifts-lca, lifts-count}
use Rattle.tree.proofs.Branches.{rule-answer}
use Rattle.routes.specs.declared.Route.{Route}
use Rattle.routes.specs.declared.Route.TheVariants.{Labels, Tour, Lifts}
use Rattle.routes.specs.Rules.{rule_of}
use Rattle.routes.specs.Answers.{Admitted, Asked, pairs_unfit, pairs_verdict, AnswersPair, PairsGive, trail_unfit, trail_verdict, TrailGives, list_unfit, list_verdict, ListGives}
use Rattle.routes.proofs.Asking.{answerable}

-- ---- a question of pairs

-- each rule gives the carrier of two parts
pub rule-lca : (route : Route) {s : List ℕ} → Tree s → (x y : ℕ) → x < length s → y < length s → Lca s (x ∷ y ∷ []) (rule_of route (own s) x y)
rule-lca Labels t = labels-lca t
rule-lca Tour t = tour-lca t
rule-lca Lifts t = lifts-lca t

-- which carries both
pub rule-carries : (route : Route) {s : List ℕ} {x y c : ℕ} → Pair s x y → c ≡ rule_of route (own s) x y → Ancestor s c x × Ancestor s c y
rule-carries route {s} {x} {y} pair e =
    let l = rule-lca route pair.small.tree x y pair.left pair.right in
    rw e (l.common x (Memᴰ.head refl), l.common y (Memᴰ.tail (Memᴰ.head refl)))

-- so what a route answers to the pairs of a question is the answer to each
pub pair-answered : (route : Route) {s cells : List ℕ} (question : List ℕ) {i : ℕ} → Pair s (left_of question i) (right_of question i) → i < pairs question
    → cells ≡ each_answer (answer_by (rule_of route) (own s)) question → AnswersPair s question cells i
pair-answered route {s} {cells} question {i} pair h stored =
    let t = pair.small.tree in
    let is : answer_at cells i ≡ answer_by (rule_of route) (own s) (left_of question i) (right_of question i) =
    ap (λ (l : List ℕ). answer_at l i) stored ∙ answer_at_lem (answer_by (rule_of route) (own s)) question i h in
    subst (IsAnswer s (left_of question i) (right_of question i)) (sym is)
    (rule-answer t (rule_of route) pair.left pair.right (rule-lca route t _ _ pair.left pair.right))

module _ {A : Type 0} (route : Route) (a : Asked) {r : Result A Refusal} {after : List ℕ} (given : Admitted a.lent a.work a.question (pairs_unfit a) r after) where
  -- a refused call leaves the answer as it was
  pub pairs-refused : {why : Refusal} {q : Outcome} → r ≡ Err why → q ≡ Err why → PairsGive (rule_of route) a q after a.answer
  pairs-refused {why} e same =
      let no : pairs_verdict a ≡ refused (number_of why) (place_of why) = stage-no given e in
      record {
        answered = record { outcome = ap verdict_of same ∙ sym (ap verdict_of e) ∙ given.outcome; work = given.work };
        answer = filled-kept (pairs_verdict a) _ _ _ _ no;
        answers = λ yes. absurd (not-both yes no);
      }

  -- an accepted one gives each pair's
  pub pairs-answered : {sheet : A} {answer' : List ℕ} → r ≡ Ok sheet → answer' ≡ each_answer (answer_by (rule_of route) (own a.lent.parents)) a.question
      → PairsGive (rule_of route) a (Ok tt) after answer'
  pairs-answered {answer' = answer'} e stored =
      let yes : pairs_verdict a ≡ accepted = stage-yes given e in
      let ready = answerable a.lent a.work a.question (pairs_unfit a) yes in
      let same = owned-is a.lent (pairs_unfit a) ready.owned in
      record {
        answered = record { outcome = sym (ap verdict_of e) ∙ given.outcome; work = given.work };
        answer = stored ∙ ap (λ (t : Lent). each_answer (answer_by (rule_of route) t) a.question) (sym same) ∙ filled-own (pairs_verdict a) _ _ yes;
        answers = λ _ i h. pair-answered route a.question (question-pair ready.listed i (omega arith)) h stored;
      }

-- ---- a trail

module _ {A : Type 0} (a : Asked) (rows : List ℕ) {r : Result A Refusal} {after : List ℕ} (given : Admitted a.lent a.work a.question (trail_unfit a rows) r after) where
  -- a refused call leaves the answer and the trail as they were
  pub trail-refused : {why : Refusal} {q : Result ℕ Refusal} → r ≡ Err why → q ≡ Err why → TrailGives a rows q after a.answer rows
  trail-refused {why} {q} e is =
      let same : refused (number_of why) (place_of why) ≡ trail_verdict a rows = sym (ap verdict_of e) ∙ given.outcome in
      record {
        answered = record { outcome = ap verdict_of is ∙ same; work = given.work };
        count = ap lifts_of is ∙ filled-kept (trail_verdict a rows) _ _ _ _ (sym same);
        answer = filled-kept (trail_verdict a rows) _ _ _ _ (sym same);
        trail = filled-kept (trail_verdict a rows) _ _ _ _ (sym same);
        carrier = λ yes. absurd (not-both yes (sym same));
        ones = λ yes. absurd (not-both yes (sym same));
      }

  -- an accepted one gives the trail of the question's pair
  pub trail-answered : {count : ℕ} {sheet : A} {answer' rows' : List ℕ} → r ≡ Ok sheet
      → count ≡ lifts (own a.lent.parents) (left_of a.question 0) (right_of a.question 0)
      → answer' ≡ by_lifts (own a.lent.parents) (left_of a.question 0) (right_of a.question 0) ∷ []
      → rows' ≡ trail_buffer (trail (own a.lent.parents) (left_of a.question 0) (right_of a.question 0))
      → length a.question ≡ 2
      → TrailGives a rows (Ok count) after answer' rows'
  trail-answered {answer' = answer'} e lifted answered stored two =
      let s = a.lent.parents in
      let u = left_of a.question 0 in
      let w = right_of a.question 0 in
      let same : accepted ≡ trail_verdict a rows = sym (ap verdict_of e) ∙ given.outcome in
      let ready = answerable a.lent a.work a.question (trail_unfit a rows) (sym same) in
      let mine = owned-is a.lent (trail_unfit a rows) ready.owned in
      let pair = question-pair ready.listed 0 (omega arith) in
      let is : get_or answer' 0 0 ≡ by_lifts (own s) u w = ap (λ (l : List ℕ). get_or l 0 0) answered in
      record {
        answered = record { outcome = same; work = given.work };
        count = lifted ∙ ap (λ (t : Lent). lifts t u w) (sym mine) ∙ filled-own (trail_verdict a rows) _ _ (sym same);
        answer = answered ∙ ap (λ (t : Lent). by_lifts t u w ∷ []) (sym mine) ∙ filled-own (trail_verdict a rows) _ _ (sym same);
        trail = stored ∙ ap (λ (t : Lent). trail_buffer (trail t u w)) (sym mine) ∙ filled-own (trail_verdict a rows) _ _ (sym same);
        carrier = λ _. subst (Lca s (u ∷ w ∷ [])) (sym is) (lifts-lca pair.small.tree u w pair.left pair.right);
        ones = λ _. lifted ∙ lifts-count pair.small.tree u w pair.left pair.right;
      }

-- ---- a list

-- the one cell of a buffer, stored
pub one-stored : (l : List ℕ) (x : ℕ) → length l ≡ 1 → set l 0 x ≡ x ∷ []
one-stored l x e = ext_get_or 0 (set l 0 x) (x ∷ []) (simp length-set e)
    (λ i h. let long : length (set l 0 x) ≡ 1 = simp length-set e in let first : i ≡ 0 = omega arith in rw first (get_or-set_same l 0 x 0 (omega arith)))

-- the first and the last in preorder are two parts
pub ends-pair : {s question : List ℕ} → Listed s question → Pair s (first_in_preorder s question) (last_in_preorder s question)
ends-pair {s} {question} listed =
    let parts = question-parts s question listed.part in
    let (first, last) = ends-listed s question listed.some in
    record { small = listed.small; left = parts _ first; right = parts _ last }

-- .. and by the tour they give the list's carrier
pub ends-carrier : {s question : List ℕ} → Listed s question → by_tour (own s) (first_in_preorder s question) (last_in_preorder s question) ≡ lca s question
ends-carrier {s} {question} listed =
    let t = listed.small.tree in
    let parts = question-parts s question listed.part in
    let pair = ends-pair listed in
    lca-only t question _ listed.some parts (ends-lca t question _ listed.some parts (tour-lca t _ _ pair.left pair.right))

module _ {A : Type 0} (a : Asked) {r : Result A Refusal} {after : List ℕ} (given : Admitted a.lent a.work a.question (list_unfit a) r after) where
  pub list-refused : {why : Refusal} {q : Outcome} → r ≡ Err why → q ≡ Err why → ListGives a q after a.answer
  list-refused {why} e same =
      let no : list_verdict a ≡ refused (number_of why) (place_of why) = stage-no given e in
      record {
        answered = record { outcome = ap verdict_of same ∙ sym (ap verdict_of e) ∙ given.outcome; work = given.work };
        answer = filled-kept (list_verdict a) _ _ _ _ no;
        carrier = λ yes. absurd (not-both yes no);
      }

  pub list-answered : {sheet : A} {answer' : List ℕ} → r ≡ Ok sheet → answer' ≡ lca a.lent.parents a.question ∷ [] → ListGives a (Ok tt) after answer'
  list-answered {answer' = answer'} e stored =
      let s = a.lent.parents in
      let yes : list_verdict a ≡ accepted = stage-yes given e in
      let listed = (answerable a.lent a.work a.question (list_unfit a) yes).listed in
      let is : get_or answer' 0 0 ≡ lca s a.question = ap (λ (l : List ℕ). get_or l 0 0) stored in
      record {
        answered = record { outcome = sym (ap verdict_of e) ∙ given.outcome; work = given.work };
        answer = stored ∙ filled-own (list_verdict a) _ _ yes;
        carrier = λ _. subst (Lca s a.question) (sym is)
            (lca-found listed.small.tree a.question listed.some (question-parts s a.question listed.part));
      }
