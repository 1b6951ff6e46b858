-- Lists that name one or more parts of a sheet: a pair; from one such list another that names the same parts, the groups of a sharing out, and the list
-- of the groups' carriers.
-- Assumes nothing.
use Prim.Native.Nat.{ℕ, ◌<◌}
use native.Mathlib.Omega.{arith}
use mathlib.Core.Path.{◌≡◌, subst}
use mathlib.Core.List.{List, [], ◌∷◌}
use lib.Dec.{lit<}
use lib.ListN.{length, get_or}
use Rattle.tree.specs.Scan.{position}
use Rattle.tree.specs.Tree.{Tree}
use Rattle.tree.specs.Lca.{Lca}
use Rattle.tree.specs.Sharing.{SameParts, SharedOut, members}
use Rattle.tree.proofs.Scans.{position_here}
use Rattle.tree.proofs.Orders.{member-at, member-position}
use Rattle.tree.proofs.Climbs.{ancestor-inside}
use Rattle.tree.proofs.Lcas.{each-of_two}
use Rattle.tree.proofs.Lists.{ends-listed, members-some, members-listed}
use Rattle.routes.specs.Lends.{Some}

-- two parts
pub pair-some : {s : List ℕ} {x y : ℕ} → x < length s → y < length s → Some s (x ∷ y ∷ [])
pair-some {s} hx hy = record { listed = lit< tt; parts = each-of_two (λ v. v < length s) hx hy }

-- another list of the same parts
pub other-some : {s listed other : List ℕ} → Some s listed → SameParts listed other → Some s other
other-some {s} {listed} some same =
    let (first, _) = ends-listed s listed some.listed in
    record { listed = omega (arith, member-position _ _ ((same _).0 first)); parts = λ v m. some.parts v ((same v).1 m) }

module _ {s listed : List ℕ} {groups : ℕ} {group : ℕ → ℕ} (some : Some s listed) (shared : SharedOut listed groups group) where
  -- each group
  pub group-some : (g : ℕ) → g < groups → Some s (members listed group g)
  group-some g h = record { listed = members-some _ _ _ shared g h; parts = λ v m. some.parts v (members-listed _ _ g v m) }

  -- the list of the groups' carriers
  pub carriers-some : {carriers : List ℕ} → Tree s → length carriers ≡ groups
      → ((g : ℕ) → g < groups → Lca s (members listed group g) (get_or carriers g 0)) → Some s carriers
  carriers-some {carriers} tree long each =
      let first = shared.given 0 some.listed in
      record {
        listed = omega arith;
        parts = λ v m.
            let at = position carriers v in
            let h = member-position carriers v m in
            let b : at < groups = omega arith in
            let named = group-some at b in
            let member = member-at _ 0 named.listed in
            subst (λ (w : ℕ). w < length s) (position_here carriers v h)
            (ancestor-inside tree.inside (named.parts _ member) ((each at b).common _ member));
      }
