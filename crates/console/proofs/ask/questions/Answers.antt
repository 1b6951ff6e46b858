-- `console::ask::questions` meets its contract. The loop's invariant: the questions up to the reader's position are answered, and the number of the line there
-- has grown by no more than the reader moved.
-- Assumes nothing.
use native.Mathlib.Omega.{arith}
use borrow.Author.Rules.{rules}
use Rattle.console.proofs.Asking.{answered-none, answered-all, question-room, question-answered, illegible-room, illegible-last}
use Rattle.console.proofs.ask.questions.Goals as goal

pub loop-reader-init : goal.loop-reader-init
loop-reader-init c = record { answered = answered-none _ _ _ c.args.to.now (omega arith); numbered = search rules }

pub refusal-requires : goal.refusal-requires
refusal-requires c = illegible-room c.args.to.now c.loop-reader.to c.requires.room c.loop-reader.reader c.loop-reader.invariant.answered c.loop-reader-test.ensures c.in_default.ensures

pub returns-in_default : goal.returns-in_default
returns-in_default c =
    illegible-last c.args.to.now c.loop-reader.to c.requires.room c.loop-reader.reader c.loop-reader.invariant.answered c.loop-reader-test.ensures c.in_default.ensures c.refusal.ensures

pub answer-requires-clause-room : goal.answer-requires-clause-room
answer-requires-clause-room c =
    question-room c.args.to.now c.loop-reader.to c.requires.room c.loop-reader.reader c.loop-reader.invariant.answered c.loop-reader-test.ensures c.in-Some.ensures

pub loop-reader-preserved : goal.loop-reader-preserved
loop-reader-preserved c = record {
  answered = question-answered c.args.to.now c.loop-reader.to c.requires.room c.loop-reader.reader c.loop-reader.invariant.answered c.loop-reader-test.ensures c.in-Some.ensures c.answer.ensures;
  numbered = omega (arith, c.in-Some.ensures.further);
}

pub returns : goal.returns
returns c = answered-all c.args.to.now c.loop-reader.to c.requires.room c.loop-reader.reader c.loop-reader.invariant.answered c.loop-reader-test.ensures
