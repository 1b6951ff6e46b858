-- `console::ask::questions` meets its contract. The loop's invariant: the questions up to the reader's position are answered, and the number of the line there
-- has grown by no more than the reader moved. The measure is what is left of the input.
-- Assumes nothing.
use Prim.Native.Nat.{◌+◌, ◌≤◌}
use Rattle.lines.specs.Gives.{rest_of, left_by}
use Rattle.console.proofs.Asking.{AnsweredUpto}
use Rattle.console.proofs.ask.questions.Given as goal

abbrev pub invariant-loop-reader : goal.invariant-loop-reader
invariant-loop-reader l = record {
  answered : AnsweredUpto (rest_of l.initial.reader) l.first l.lent.parents.now l.initial.to l.to (rest_of l.reader) l.number;
  numbered : l.number + left_by l.reader ≤ l.first + left_by l.initial.reader;
}

abbrev pub decreases-loop-reader : goal.decreases-loop-reader
decreases-loop-reader l = left_by l.reader
