-- `routes::answer::list` meets its contract: the carrier of the first and the last in preorder is the list's.
-- Assumes nothing.
use native.Mathlib.Omega.{arith}
use mathlib.Core.Path.{◌≡◌, ap, ◌∙◌}
use mathlib.Core.List.{[], ◌∷◌}
use Rattle.tree.specs.Lca.{lca}
use Rattle.tree.specs.Tables.{own}
use Rattle.tree.specs.Routes.{by_tour}
use Rattle.routes.proofs.Giving.{one-stored, ends-pair, ends-carrier}
use Rattle.routes.proofs.answer.list.Goals as goal

pub by_tour-requires : goal.by_tour-requires
by_tour-requires c =
    let listed = c.requires.0 in
    let pair = ends-pair listed in
    let (first, last) = c.ends-ends.ensures in
    record {
      small = listed.small;
      left = omega (arith, first, last, pair.left, pair.right);
      right = omega (arith, first, last, pair.left, pair.right);
    }

pub returns : goal.returns
returns c =
    let ends = c.ends-ends in
    let both : by_tour (own c.args.sheet.now) ends.result.first ends.result.last ≡ lca c.args.sheet.now c.args.question.now =
    rw (ends.ensures.0, ends.ensures.1) (ends-carrier c.requires.0) in
    one-stored c.args.answer.now _ c.requires.1 ∙ ap (λ x. x ∷ []) (c.by_tour.ensures.is ∙ both)
