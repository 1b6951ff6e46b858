-- Runs of the calls: what was passed, what came back, and the call's own contract, as the checker reads it, held of them. Whatever a caller sees of
-- a call is such a run.
-- Assumes nothing.
use Prim.Native.Nat.{ℕ}
use mathlib.Core.List.{List}
use contract.Lifetimes.{Lfts}
use denote.Triple.Clauses.{AtExit}
use borrow.Fn.Kinds.{Out, Dens, ended_of}
use Rattle.std.proofs.Common.{Result}
use Rattle.tree.specs.declared.Refusal.{Refusal}
use Rattle.tree.specs.Verdict.{Outcome}
use Rattle.tree.specs.Tables.{lent_in}
use Rattle.routes.specs.Answers.{Asked, asked_by}
use Rattle.routes.proofs.pairs_by_labels.Reads as by-labels
use Rattle.routes.proofs.pairs_by_tour.Reads as by-tour
use Rattle.routes.proofs.pairs_by_lifts.Reads as by-lifts
use Rattle.routes.proofs.list.Kinds as list
use Rattle.routes.proofs.list.Reads as by-list
use Rattle.routes.proofs.trail.Kinds as trail
use Rattle.routes.proofs.trail.Reads as by-trail

-- ---- the calls that are lent a sheet, four tables, work, a question and an answer: pairs by each route, and a list

-- a run of the call that promises this
pub record Run (promises : Out 5 list.ps list.r) : Type 0 where
  pub lifetimes : Lfts 5
  pub passed : Dens lifetimes list.ps
  pub result : Outcome
  pub left : AtExit (ended_of 5 list.ps list.r) lifetimes
  pub kept : promises lifetimes passed result left

module _ {promises : Out 5 list.ps list.r} (run : Run promises) where
  -- what it was lent
  abbrev pub asked : Asked
  asked =
      let a = run.passed in
      asked_by (lent_in a.0) a.1.0.now a.1.1.0.now a.1.1.1.0.now

  -- the answer's cells afterwards
  abbrev pub answers : List ℕ
  answers = run.left.1.1.1.0.now

-- runs of `pairs_by_labels`, `pairs_by_tour`, `pairs_by_lifts` and `list`
abbrev pub LabelsRun : Type 0
LabelsRun = Run by-labels.Learnt

abbrev pub TourRun : Type 0
TourRun = Run by-tour.Learnt

abbrev pub LiftsRun : Type 0
LiftsRun = Run by-lifts.Learnt

abbrev pub ListRun : Type 0
ListRun = Run by-list.Learnt

-- ---- the call for a trail, which is lent the trail's cells too

-- a run of `trail`
pub record TrailRun : Type 0 where
  pub lifetimes : Lfts 6
  pub passed : Dens lifetimes trail.ps
  pub result : Result ℕ Refusal
  pub left : AtExit (ended_of 6 trail.ps trail.r) lifetimes
  pub kept : by-trail.Learnt lifetimes passed result left

module _ (run : TrailRun) where
  -- what it was lent, but for the trail's cells
  abbrev pub traced : Asked
  traced =
      let a = run.passed in
      asked_by (lent_in a.0) a.1.0.now a.1.1.0.now a.1.1.1.0.now

  -- the trail's cells before and afterwards
  abbrev pub rows_before : List ℕ
  rows_before = run.passed.1.1.1.1.0.now

  abbrev pub rows_after : List ℕ
  rows_after = run.left.1.1.1.1.0.now

  -- the answer's cell afterwards
  abbrev pub carrier_cell : List ℕ
  carrier_cell = run.left.1.1.1.0.now
