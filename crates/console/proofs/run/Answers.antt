-- `console::run` meets its contract: a buffer that holds whatever is printed is given the text, and a shorter one is left as it was.
-- Assumes nothing.
use Rattle.std.proofs.Common.{sym, ◌∙◌, rules}
use Rattle.console.proofs.Ending.{run_short, run_room, run-text}
use Rattle.console.proofs.run.Goals as goal

pub returns-then-out-needed : goal.returns-then-out-needed
returns-then-out-needed c = run_short c.room-needed.ensures c.if-out-needed.true

pub text-requires : goal.text-requires
text-requires c = run_room c.args.input.now c.room-needed.ensures c.if-out-needed.false _ c.new-to.ensures

pub returns : goal.returns
returns c =
    let same = sym (c.text.ensures.same ∙ c.new-to.ensures.same) in
    rw c.count.ensures (run-text c.args.input.now c.room-needed.ensures c.if-out-needed.false _ c.new-to.ensures c.text.ensures (search (rules, same)))
