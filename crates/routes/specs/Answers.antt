-- What the calls that answer give, from their inputs alone: pairs by a route, the trail of a pair, and the carrier of a list.
-- Assumes nothing.
use Rattle.std.specs.Prelude.{ℕ, ◌<◌, ◌≡◌, List, [], ◌∷◌, length, get_or, Result}
use Rattle.tree.specs.declared.Refusal.{Refusal}
use Rattle.tree.specs.Verdict.{Verdict, accepted, Outcome, lifts_of}
use Rattle.tree.specs.Tests.{asked_tests}
use Rattle.tree.specs.Buffers.{pairs_fits, trail_fits, list_fits, first_unfit, filled}
use Rattle.tree.specs.Lca.{Lca, lca}
use Rattle.tree.specs.Tables.{Lent}
use Rattle.tree.specs.Trail.{trail, by_lifts, lifts, trail_buffer, lift_count}
use Rattle.tree.specs.Lending.{unfit_of, asked_verdict}
use Rattle.tree.specs.Answered.{Answered}
use Rattle.tree.specs.Branch.{IsAnswer, answer_by}
use Rattle.tree.specs.Pairs.{left_of, right_of, pair_at, pairs, each_answer, answer_at}

-- the answer to tests 1 to 11, and work afterwards; `further` is the lowest of the question, the answer and the trail that does not fit, or 0
abbrev pub Admitted : {A : Type 0} → Lent → List ℕ → List ℕ → ℕ → Result A Refusal → List ℕ → Type 0
Admitted t before question further = Answered (asked_tests t (unfit_of t before further) question) before

-- what a call that answers is lent: a sheet with its tables, work, the question and the answer's cells
pub record Asked : Type 0 where
  pub lent : Lent
  pub work : List ℕ
  pub question : List ℕ
  pub answer : List ℕ

-- the same, from the cells behind the references to the others
abbrev pub asked_by : Lent → (work question answer : List ℕ) → Asked
asked_by lent work question answer = record { lent = lent; work = work; question = question; answer = answer }

-- ---- pairs

abbrev pub pairs_unfit : Asked → ℕ
pairs_unfit a = first_unfit (pairs_fits (length a.question) (length a.answer))

abbrev pub pairs_verdict : Asked → Verdict
pairs_verdict a = asked_verdict a.lent a.work a.question (pairs_unfit a)

-- pair i's cells are its answer: its carrier, and the branches towards x and y
abbrev pub AnswersPair : List ℕ → List ℕ → List ℕ → ℕ → Type 0
AnswersPair s question cells i = IsAnswer s (left_of question i) (right_of question i) (answer_at cells i)

-- an accepted call fills the answer with what the route answers to each pair, by its rule, and each is the pair's answer
pub record PairsGive (rule : Lent → ℕ → ℕ → ℕ) (a : Asked) (r : Outcome) (work' answer' : List ℕ) : Type 0 where
  pub answered : Admitted a.lent a.work a.question (pairs_unfit a) r work'
  pub answer : answer' ≡ filled (pairs_verdict a) (each_answer (answer_by rule a.lent) a.question) a.answer
  pub answers : pairs_verdict a ≡ accepted → (i : ℕ) → i < pairs a.question → AnswersPair a.lent.parents a.question answer' i

-- ---- the trail of a pair

abbrev pub trail_unfit : Asked → List ℕ → ℕ
trail_unfit a rows = first_unfit (trail_fits (length a.question) (length a.answer) (length rows))

abbrev pub trail_verdict : Asked → List ℕ → Verdict
trail_verdict a rows = asked_verdict a.lent a.work a.question (trail_unfit a rows)

-- an accepted call fills the answer with the lift route's, and the trail with its rows. It gives the count of the lifts, which is the sum of ones
pub record TrailGives (a : Asked) (rows : List ℕ) (r : Result ℕ Refusal) (work' answer' rows' : List ℕ) : Type 0 where
  pub answered : Admitted a.lent a.work a.question (trail_unfit a rows) r work'
  pub count : lifts_of r ≡ filled (trail_verdict a rows) (lifts a.lent (left_of a.question 0) (right_of a.question 0)) 0
  pub answer : answer' ≡ filled (trail_verdict a rows) (by_lifts a.lent (left_of a.question 0) (right_of a.question 0) ∷ []) a.answer
  pub trail : rows' ≡ filled (trail_verdict a rows) (trail_buffer (trail a.lent (left_of a.question 0) (right_of a.question 0))) rows
  pub carrier : trail_verdict a rows ≡ accepted → Lca a.lent.parents (pair_at a.question 0) (get_or answer' 0 0)
  pub ones : trail_verdict a rows ≡ accepted → lifts_of r ≡ lift_count a.lent.parents (left_of a.question 0) (right_of a.question 0)

-- ---- a list

abbrev pub list_unfit : Asked → ℕ
list_unfit a = first_unfit (list_fits (length a.answer))

abbrev pub list_verdict : Asked → Verdict
list_verdict a = asked_verdict a.lent a.work a.question (list_unfit a)

-- an accepted call fills the answer with the list's carrier
pub record ListGives (a : Asked) (r : Outcome) (work' answer' : List ℕ) : Type 0 where
  pub answered : Admitted a.lent a.work a.question (list_unfit a) r work'
  pub answer : answer' ≡ filled (list_verdict a) (lca a.lent.parents a.question ∷ []) a.answer
  pub carrier : list_verdict a ≡ accepted → Lca a.lent.parents a.question (get_or answer' 0 0)
