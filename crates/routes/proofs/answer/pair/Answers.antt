-- `routes::answer::pair` meets its contract: the carrier that the route gives carries both parts, so it has a branch towards each.
-- Assumes nothing.
use Rattle.tree.specs.Tree.{Ancestor}
use Rattle.tree.specs.Tables.{own}
use Rattle.routes.specs.Rules.{rule_of}
use Rattle.routes.proofs.Giving.{rule-carries}
use Rattle.routes.proofs.Storing.{stored-by}
use Rattle.routes.proofs.answer.pair.Goals as goal
use Rattle.routes.proofs.answer.pair.Goals.{After-carrier-c}

-- the carrier carries x and y
carries : (c : After-carrier-c) → Ancestor c.args.sheet.now c.carrier-c.result c.args.x × Ancestor c.args.sheet.now c.carrier-c.result c.args.y
carries c = rule-carries c.args.route c.requires.0 c.carrier-c.ensures.is

pub branch-left-requires : goal.branch-left-requires
branch-left-requires c = let p = c.requires in (p.0.small, p.0.left, (carries c).0)

pub branch-right-requires : goal.branch-right-requires
branch-right-requires c = let p = c.requires in (p.0.small, p.0.right, (carries (goal.at.branch-right-requires c).After-carrier-c).1)

pub returns : goal.returns
returns c =
    let a = c.args in
    stored-by (rule_of a.route) (own a.sheet.now) a.x a.y a.answer.now a.at _ _ _ c.carrier-c.ensures.is c.branch-left.ensures.is
    c.branch-right.ensures.is
