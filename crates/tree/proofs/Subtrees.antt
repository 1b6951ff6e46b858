-- The subtree of a node: the nodes that it carries stand in preorder one behind the other, from PREORDER − 1 on, as many as SIZE. The node itself is the first.
-- Assumes nothing.
use Prim.Native.Nat.{ℕ, zero, suc, ◌+◌, ◌-◌, ◌≤◌, ◌<◌}
use native.Mathlib.Nat.{zero-lt-suc, add-zero}
use native.Mathlib.Omega.{arith}
use mathlib.Core.Path.{◌≡◌, refl, ap, ◌∙◌, subst}
use mathlib.Core.Logic.{◌↔◌}
use mathlib.Core.Bool.{Bool, true}
use mathlib.Core.List.{List, [], ◌∷◌, Memᴰ}
use lib.ListN.{length, get_or, take, drop, length-drop}
use lib.Seq.{length-take-le, get_or-take, get_or-drop}
use Rattle.tree.specs.Scan.{keep, position}
use Rattle.tree.specs.Tree.{Tree, Ancestor, is_ancestor}
use Rattle.tree.specs.Preorder.{preorder, preorder_number, size, subtree}
use Rattle.tree.proofs.Scans.{by-test, position_here}
use Rattle.tree.proofs.Bests.{keep-member, member-keep}
use Rattle.tree.proofs.Climbs.{ancestor-test, test-ancestor}
use Rattle.tree.proofs.Orders.{member-at, member-position}
use Rattle.tree.proofs.Sizes.{size-root, preorder-pos, preorder-length, preorder-at, preorder-most, preorder_number-at, preorder-part, preorder-root}
use Rattle.tree.proofs.Intervals.{carried_from, carried-to, interval-carried}
use Rattle.tree.proofs.Inlabels.{size-pos}

-- ---- the members that a test keeps, where they stand one behind the other

-- p holds for the k members from a on, and for no other
abbrev Between : (ℕ → Bool) → List ℕ → ℕ → ℕ → Type 0
Between p l a k = (i : ℕ) → i < length l → (p (get_or l i 0) ≡ true) ↔ ((a ≤ i) × (i < a + k))

-- so these are kept
between-kept : (p : ℕ → Bool) (l : List ℕ) (a k : ℕ) → Between p l a k → keep p l ≡ take k (drop a l)
unfolding keep
between-kept p [] zero zero b = refl
between-kept p [] zero (suc k) b = refl
between-kept p [] (suc a) zero b = refl
between-kept p [] (suc a) (suc k) b = refl
between-kept p (x ∷ xs) zero zero b =
    let rest = between-kept p xs zero zero (λ i h. (λ e. let (from, to) = (b (suc i) (omega arith)).0 e in absurd (omega arith), λ q. absurd (omega arith))) in
    by-test (p x) (λ e. let (from, to) = (b 0 (zero-lt-suc _)).0 e in absurd (omega arith)) (λ e. rw e rest)
between-kept p (x ∷ xs) zero (suc k) b =
    let here : p x ≡ true = (b 0 (zero-lt-suc _)).1 (omega arith, omega arith) in
    let rest = between-kept p xs zero k (λ i h.
    let here = b (suc i) (omega arith) in (λ e. let (from, to) = here.0 e in (omega arith, omega arith), λ q. here.1 (omega arith, omega arith))) in
    rw here (ap (λ (l : List ℕ). x ∷ l) rest)
between-kept p (x ∷ xs) (suc a) k b =
    let rest = between-kept p xs a k (λ i h.
    let here = b (suc i) (omega arith) in (λ e. let (from, to) = here.0 e in (omega arith, omega arith), λ q. here.1 (omega arith, omega arith))) in
    by-test (p x) (λ e. let (from, to) = (b 0 (zero-lt-suc _)).0 e in absurd (omega arith)) (λ e. rw e rest)

-- ---- the subtree

module _ {s : List ℕ} (t : Tree s) (v : ℕ) (h : v < length s) where
  -- where it begins in preorder, and that it ends within the parts
  abbrev start : ℕ
  start = preorder_number s v - 1

  pub subtree-within : start + size s v ≤ length s
  subtree-within =
      let pos = preorder-pos s v in
      let to = carried-to t h (t.reach v h) in
      let whole = size-root t in
      let first = preorder-root t in
      omega arith

  -- the node at position i of the preorder is carried exactly if i is one of the SIZE positions from there on
  carried-between : Between (is_ancestor s v) (preorder s) start (size s v)
  carried-between i b =
      let inside : i < length s = omega (arith, preorder-length t) in
      let u = get_or (preorder s) i 0 in
      let part : u < length s = preorder-part t i inside in
      let is = preorder_number-at t i inside in
      let pos = preorder-pos s v in (
        λ e.
            let carries = test-ancestor s v u e in
            let from = carried_from t part carries in
            let to = carried-to t part carries in
            let some = size-pos t u part in
            (omega arith, omega arith),
        λ q. let (from, to) = q in ancestor-test t.inside part (interval-carried t h part (omega arith) (omega arith)),
      )

  -- so the subtree is one slice of the preorder
  pub subtree-slice : subtree s v ≡ take (size s v) (drop start (preorder s))
  unfolding subtree
  subtree-slice = between-kept (is_ancestor s v) (preorder s) start (size s v) carried-between

  -- of SIZE nodes
  pub subtree-length : length (subtree s v) ≡ size s v
  subtree-length =
      let long = preorder-length t in
      let left : length (drop start (preorder s)) ≡ length (preorder s) - start = length-drop start (preorder s) in
      let within = subtree-within in
      ap length subtree-slice ∙ length-take-le (size s v) (drop start (preorder s)) (omega arith)

  -- v first
  pub subtree-first : get_or (subtree s v) 0 0 ≡ v
  subtree-first =
      ap (λ (l : List ℕ). get_or l 0 0) subtree-slice
      ∙ get_or-take (size s v) (drop start (preorder s)) 0 0 (size-pos t v h)
      ∙ get_or-drop start (preorder s) 0 0
      ∙ ap (λ (i : ℕ). get_or (preorder s) i 0) (add-zero start)
      ∙ preorder-at t v h

  -- its members are the nodes that v carries
  pub subtree-member : (u : ℕ) → Memᴰ u (subtree s v) ↔ ((u < length s) × Ancestor s v u)
  unfolding subtree
  subtree-member u = (
    λ m. let (listed, carries) = keep-member (is_ancestor s v) (preorder s) u m in (member-part listed, test-ancestor s v u carries),
    λ q. member-keep (is_ancestor s v) (preorder s) u (part-member q.0) (ancestor-test t.inside q.0 q.1),
  )
    where
      part-member : {u : ℕ} → u < length s → Memᴰ u (preorder s)
      part-member {u} b =
          let most = preorder-most t u b in
          let pos = preorder-pos s u in
          let long = preorder-length t in
          subst (λ (x : ℕ). Memᴰ x (preorder s)) (preorder-at t u b) (member-at (preorder s) (preorder_number s u - 1) (omega arith))

      member-part : {u : ℕ} → Memᴰ u (preorder s) → u < length s
      member-part {u} m =
          let b = member-position (preorder s) u m in
          let long = preorder-length t in
          subst (λ (x : ℕ). x < length s) (position_here (preorder s) u b) (preorder-part t (position (preorder s) u) (omega arith))
