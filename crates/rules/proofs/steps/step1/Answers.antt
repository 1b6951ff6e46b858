-- `rules::steps::step1` meets its contract: the highest of several bits together is the greatest of their places.
-- Assumes nothing.
use Rattle.bits.proofs.Ones.{log2-or}
use Rattle.tree.specs.Routes.{step1}
use Rattle.rules.proofs.steps.step1.Goals as goal

pub returns : goal.returns
unfolding step1
returns c =
    record {
      is = rw (
        c.log2.ensures.is,
        log2-or,
        log2-or,
        c.lowest_one.ensures,
        c.lowest_one-2.ensures,
        c.xor.ensures,
      );
      below = c.log2.ensures.below;
    }
