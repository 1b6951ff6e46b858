-- Lists of nodes side by side: what decides their lowest common ancestor. The nodes that are listed, the first and the last of them in
-- preorder, and the groups of a list that is shared out. Assumes nothing.
use Prim.Native.Nat.{ℕ, ◌≤◌, ◌<◌}
use native.Mathlib.Omega.{arith}
use mathlib.Core.Path.{◌≡◌, refl, subst}
use mathlib.Core.Logic.{◌↔◌}
use mathlib.Core.List.{List, [], ◌∷◌, Memᴰ}
use borrow.Author.Tests.{eq-eqb, ltb-false}
use lib.Dec.{ltb, eqb}
use lib.ListN.{length, get_or}
use Rattle.tree.specs.Scan.{numbers_from, keep, position}
use Rattle.tree.specs.Tree.{Ancestor, Tree}
use Rattle.tree.specs.Preorder.{preorder_number}
use Rattle.tree.specs.Lca.{Parts, Common, Lca}
use Rattle.tree.specs.Sharing.{SameParts, SharedOut, members, first_in_preorder, last_in_preorder}
use Rattle.tree.proofs.Scans.{position_here}
use Rattle.tree.proofs.Bests.{Best, ltb-asym, ltb-trans, best-is, numbers-member, member-numbers, keep-member, member-keep}
use Rattle.tree.proofs.Orders.{member-at, member-position}
use Rattle.tree.proofs.Climbs.{ancestor-inside, ancestor-trans}
use Rattle.tree.proofs.Lcas.{each-of_two}
use Rattle.tree.proofs.Intervals.{carried_from, carried-to, interval-carried}
use Rattle.tree.proofs.Inlabels.{size-pos}

-- lists with the same common ancestors have the same lowest
common-lca : {s xs ys : List ℕ} {c : ℕ} → ((d : ℕ) → Common s xs d ↔ Common s ys d) → Lca s xs c → Lca s ys c
common-lca {c = c} same l = record { common = (same c).0 l.common; lowest = λ d h. l.lowest d ((same d).1 h) }

-- the carrier depends on which nodes are listed alone
pub same-lca : {s xs ys : List ℕ} {c : ℕ} → SameParts xs ys → Lca s xs c → Lca s ys c
same-lca same = common-lca (λ d. (λ h x m. h x ((same x).1 m), λ h x m. h x ((same x).0 m)))

-- .. and so not on their order
pub swap-lca : {s : List ℕ} {x y c : ℕ} → Lca s (x ∷ y ∷ []) c → Lca s (y ∷ x ∷ []) c
swap-lca {x = x} {y = y} = same-lca (λ z. (swapped x y z, swapped y x z))
  where
    swapped : (v w z : ℕ) → Memᴰ z (v ∷ w ∷ []) → Memᴰ z (w ∷ v ∷ [])
    swapped v w = each-of_two (λ u. Memᴰ u (w ∷ v ∷ [])) (mathlib.Core.List.Memᴰ.tail (mathlib.Core.List.Memᴰ.head refl)) (mathlib.Core.List.Memᴰ.head refl)

-- ---- the first and the last in preorder

module _ (s xs : List ℕ) (some : 0 < length xs) where
  first-best : Best (λ x y. ltb (preorder_number s x) (preorder_number s y)) xs (first_in_preorder s xs)
  unfolding first_in_preorder
  first-best =
      best-is _ (λ x y. ltb-asym (preorder_number s x) (preorder_number s y))
      (λ x y z. ltb-trans (preorder_number s x) (preorder_number s y) (preorder_number s z)) 0 xs some

  last-best : Best (λ x y. ltb (preorder_number s y) (preorder_number s x)) xs (last_in_preorder s xs)
  unfolding last_in_preorder
  last-best =
      best-is _ (λ x y. ltb-asym (preorder_number s y) (preorder_number s x))
      (λ x y z e f. ltb-trans (preorder_number s z) (preorder_number s y) (preorder_number s x) f e) 0 xs some

  -- both are listed
  pub ends-listed : Memᴰ (first_in_preorder s xs) xs × Memᴰ (last_in_preorder s xs) xs
  ends-listed = (first-best.member, last-best.member)

module _ {s : List ℕ} (t : Tree s) where
  -- what carries both carries all that is numbered between them
  ends-common : (xs : List ℕ) → 0 < length xs → Parts s xs → (d : ℕ) → Common s (first_in_preorder s xs ∷ last_in_preorder s xs ∷ []) d → Common s xs d
  ends-common xs some parts d both x m =
      let first = first-best s xs some in
      let last = last-best s xs some in
      let hf = parts (first_in_preorder s xs) first.member in
      let hl = parts (last_in_preorder s xs) last.member in
      let cf = both (first_in_preorder s xs) (mathlib.Core.List.Memᴰ.head refl) in
      let cl = both (last_in_preorder s xs) (mathlib.Core.List.Memᴰ.tail (mathlib.Core.List.Memᴰ.head refl)) in
      let from = carried_from t hf cf in
      let to = carried-to t hl cl in
      let low : preorder_number s (first_in_preorder s xs) ≤ preorder_number s x = ltb-false _ _ (first.wins x m) in
      let high : preorder_number s x ≤ preorder_number s (last_in_preorder s xs) = ltb-false _ _ (last.wins x m) in
      let pos = size-pos t (last_in_preorder s xs) hl in
      interval-carried t (ancestor-inside t.inside hf cf) (parts x m) (omega arith) (omega arith)

  -- the carrier of the first and the last in preorder is the list's
  pub ends-lca : (xs : List ℕ) (c : ℕ) → 0 < length xs → Parts s xs → Lca s (first_in_preorder s xs ∷ last_in_preorder s xs ∷ []) c → Lca s xs c
  ends-lca xs c some parts =
      let (first, last) = ends-listed s xs some in
      common-lca (λ d. (ends-common xs some parts d, λ h. each-of_two (Ancestor s d) (h _ first) (h _ last)))

-- ---- a list shared out

-- the node at a position of a group is in the group
position-member : (xs : List ℕ) (group : ℕ → ℕ) (i : ℕ) → i < length xs → Memᴰ (get_or xs i 0) (members xs group (group i))
unfolding members
position-member xs group i h =
    mathlib.Core.List.Memᴰ.map (λ (j : ℕ). get_or xs j 0)
    (member-keep (λ j. eqb (group j) (group i)) (numbers_from 0 (length xs)) i (member-numbers 0 (length xs) i (omega arith) (omega arith))
    (eq-eqb (group i) (group i) refl))

-- no group is empty
pub members-some : (xs : List ℕ) (m : ℕ) (group : ℕ → ℕ) → SharedOut xs m group → (g : ℕ) → g < m → 0 < length (members xs group g)
members-some xs m group shared g h =
    let (i, b, e) = shared.nonempty g h in
    let here : Memᴰ (get_or xs i 0) (members xs group g) = rw e at (position-member xs group i b) in
    omega (arith, member-position (members xs group g) (get_or xs i 0) here)

-- the members of a group are listed
pub members-listed : (xs : List ℕ) (group : ℕ → ℕ) (g x : ℕ) → Memᴰ x (members xs group g) → Memᴰ x xs
unfolding members
members-listed xs group g x m =
    let (i, kept, e) = mathlib.Core.List.Memᴰ.of_map (λ (j : ℕ). get_or xs j 0) (keep (λ j. eqb (group j) g) (numbers_from 0 (length xs))) m in
    let (_, below) = numbers-member 0 (length xs) i (keep-member (λ j. eqb (group j) g) (numbers_from 0 (length xs)) i kept).0 in
    subst (λ (y : ℕ). Memᴰ y xs) e (member-at xs i (omega arith))

-- what is listed is in one of the groups
pub listed-member : (xs : List ℕ) (m : ℕ) (group : ℕ → ℕ) → SharedOut xs m group → (x : ℕ) → Memᴰ x xs
    → (g : ℕ) × (g < m) × Memᴰ x (members xs group g)
listed-member xs m group shared x listed =
    let i = position xs x in
    let h = member-position xs x listed in
    (group i, shared.given i h, rw (position_here xs x h) at (position-member xs group i h))

-- the groups' carriers have the common ancestors of the list
shared-common : {s xs cs : List ℕ} {m : ℕ} {group : ℕ → ℕ} → SharedOut xs m group → length cs ≡ m
    → ((g : ℕ) → g < m → Lca s (members xs group g) (get_or cs g 0)) → (d : ℕ) → Common s cs d ↔ Common s xs d
shared-common {s} {xs} {cs} {m} {group} shared long each d = (
  λ h x listed.
      let (g, b, member) = listed-member xs m group shared x listed in
      ancestor-trans (h (get_or cs g 0) (member-at cs g (omega arith))) ((each g b).common x member),
  λ h y listed.
      let g = position cs y in
      let b = member-position cs y listed in
      subst (Ancestor s d) (position_here cs y b) ((each g (omega arith)).lowest d (λ x member. h x (members-listed xs group g x member))),
)

-- the carrier of the groups' carriers is the list's
pub shared-lca : {s xs cs : List ℕ} {m : ℕ} {group : ℕ → ℕ} {c : ℕ} → SharedOut xs m group → length cs ≡ m
    → ((g : ℕ) → g < m → Lca s (members xs group g) (get_or cs g 0)) → Lca s cs c → Lca s xs c
shared-lca shared long each = common-lca (shared-common shared long each)
