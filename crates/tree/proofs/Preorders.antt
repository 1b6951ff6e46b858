-- The preorder list of a tree is document 01's order: it meets the three sentences, and no other list does.
-- Assumes nothing.
use Prim.Native.Nat.{ℕ, zero, suc, ◌≤◌, ◌<◌}
use native.Mathlib.Nat.{not-suc-le-zero, le_antisymm}
use native.Mathlib.Omega.{arith}
use mathlib.Core.Path.{◌≡◌, refl, sym, ap, ◌∙◌, subst}
use mathlib.Core.Logic.{⊎_elim}
use mathlib.Core.List.{List}
use lib.ListN.{length, get_or}
use lib.Seq.{ext_get_or}
use Rattle.tree.specs.Scan.{position}
use Rattle.tree.specs.Tree.{parent, Ancestor, root_of, level, Tree}
use Rattle.tree.specs.Preorder.{Before, Preorder, preorder_in, preorder}
use Rattle.tree.proofs.Scans.{by_order, by_equal, position_here, position-at-most}
use Rattle.tree.proofs.Trees.{root-found, level-root}
use Rattle.tree.proofs.Precedes.{Precedes, carries, beside, precedes-asym, precedes-irrefl, precedes-total}
use Rattle.tree.proofs.Orders.{member-at, member-position, Ordered, ordered_at}
use Rattle.tree.proofs.PreorderList.{member-carried, carried-member, preorder-ordered}

-- the list begins with the part that it was made for
preorder-first : (s : List ℕ) (f v : ℕ) → 0 < f → get_or (preorder_in s f v) 0 0 ≡ v
unfolding preorder_in
preorder-first s zero v h = absurd (not-suc-le-zero h)
preorder-first s (suc f) v h = refl

module _ {s : List ℕ} (t : Tree s) where
  -- ---- any list of the parts in the order of `Precedes`

  module _ (o : List ℕ) (part : (i : ℕ) → i < length o → get_or o i 0 < length s) (ordered : Ordered (Precedes s) o) where
    -- no part stands twice
    stands-once : (i : ℕ) → i < length o → position o (get_or o i 0) ≡ i
    stands-once i h =
        let j = position o (get_or o i 0) in
        let most : j ≤ i = position-at-most o (get_or o i 0) i refl in
        by_equal j i (λ e. e)
        (λ e.
        let b : j < i = omega arith in
        let same : get_or o j 0 ≡ get_or o i 0 = position_here o (get_or o i 0) (omega arith) in
        absurd (precedes-irrefl t (part i h) (subst (λ (x : ℕ). Precedes s x (get_or o i 0)) same (ordered_at (Precedes s) o ordered j i b h))))

    -- of two parts, the one that precedes the other stands before it
    stands-before : (x y : ℕ) → x < length s → y < length s → position o x < length o → position o y < length o → Precedes s x y → Before o x y
    stands-before x y hx hy bx by p =
        let ex = position_here o x bx in
        let ey = position_here o y by in
        by_order (position o y) (position o x)
        (λ h. by_equal (position o y) (position o x)
        (λ e. absurd (precedes-irrefl t hx (subst (Precedes s x) (sym ey ∙ ap (λ (i : ℕ). get_or o i 0) e ∙ ex) p)))
        (λ e.
        let back : Precedes s (get_or o (position o y) 0) (get_or o (position o x) 0) =
        ordered_at (Precedes s) o ordered (position o y) (position o x) (omega arith) bx in
        absurd (precedes-asym t hx hy p (subst (λ (u : ℕ). Precedes s u x) ey (subst (Precedes s (get_or o (position o y) 0)) ex back)))))
        (λ h. h)

  -- ---- the list meets the sentences

  pub preorder-meets : Preorder s (preorder s)
  unfolding preorder
  preorder-meets =
      let o = preorder_in s (length s) (root_of s) in
      let root : root_of s < length s = subst (λ (r : ℕ). r < length s) (root-found t) t.root-inside in
      let top : level s (root_of s) ≡ 0 = ap (level s) (sym (root-found t)) ∙ level-root t in
      let part : (i : ℕ) → i < length o → get_or o i 0 < length s =
      λ i h. (member-carried t (length s) (root_of s) (get_or o i 0) root (member-at o i h)).1 in
      let listed : (v : ℕ) → v < length s → position o v < length o = λ v h.
      member-position o v (carried-member t (length s) (root_of s) v root h (omega arith) (subst (λ (r : ℕ). Ancestor s r v) (root-found t) (t.reach v h))) in
      let ordered = preorder-ordered t (length s) (root_of s) root in
      let before = stands-before o part ordered in
      let first : get_or o 0 0 ≡ t.root = preorder-first s (length s) (root_of s) (omega arith) ∙ sym (root-found t) in
      record {
        part = part;
        listed = listed;
        once = stands-once o part ordered;
        root-first = ap (parent s) first ∙ t.root-itself ∙ sym first;
        ancestor-first = λ a v ha hv p q. before a v ha hv (listed a ha) (listed v hv) (carries p q);
        lower-first = λ a b x y ha hb e na nb l hx p hy q.
            before x y hx hy (listed x hx) (listed y hy)
            (beside a b (record { part-a = ha; part-b = hb; same = e; other-a = na; other_b = nb; lower = l }) p q);
      }

  -- ---- and no other list does

  -- the sentences put one part before another where it precedes it
  sentences : (o : List ℕ) → Preorder s o → {x y : ℕ} → x < length s → y < length s → Precedes s x y → Before o x y
  sentences o r hx hy (carries p q) = r.ancestor-first _ _ hx hy p q
  sentences o r hx hy (beside a b g ax by) =
      r.lower-first a b _ _ g.part-a g.part-b g.same g.other-a g.other_b g.lower hx ax hy by

  -- two orders that agree below i do not begin to differ there
  clash : (o q : List ℕ) → Preorder s o → Preorder s q → (i : ℕ) → i < length o → i < length q
      → ((j : ℕ) → j < i → get_or o j 0 ≡ get_or q j 0) → Precedes s (get_or o i 0) (get_or q i 0) → ⊥
  clash o q r u i ho hq agree p =
      let x = get_or o i 0 in
      let sooner : position q x < position q (get_or q i 0) = sentences q u (r.part i ho) (u.part i hq) p in
      let there : position q (get_or q i 0) ≡ i = u.once i hq in
      let j = position q x in
      let b : j < i = omega arith in
      let same : get_or o j 0 ≡ x = agree j b ∙ position_here q x (omega arith) in
      let most : position o x ≤ j = position-at-most o x j same in
      let here : position o x ≡ i = r.once i ho in
      omega arith

  agree-below : (o q : List ℕ) → Preorder s o → Preorder s q → (i j : ℕ) → j < i → j < length o → j < length q → get_or o j 0 ≡ get_or q j 0
  agree-below o q r u zero j h ho hq = absurd (not-suc-le-zero h)
  agree-below o q r u (suc i) j h ho hq =
      let earlier = agree-below o q r u i in
      let agree : (k : ℕ) → k < j → get_or o k 0 ≡ get_or q k 0 = λ k b. earlier k (omega arith) (omega arith) (omega arith) in
      by_equal (get_or o j 0) (get_or q j 0) (λ e. e)
      (λ e. absurd (⊎_elim (clash o q r u j ho hq agree) (clash q o u r j hq ho (λ k b. sym (agree k b)))
      (precedes-total t (r.part j ho) (u.part j hq) e)))

  -- .. and none is longer than the other
  no_longer : (o q : List ℕ) → Preorder s o → Preorder s q → length o < length q → ⊥
  no_longer o q r u h =
      let y = get_or q (length o) 0 in
      let j = position o y in
      let b : j < length o = r.listed y (u.part (length o) h) in
      let same : get_or q j 0 ≡ y = sym (agree-below o q r u (length o) j b b (omega arith)) ∙ position_here o y b in
      let most : position q y ≤ j = position-at-most q y j same in
      let there : position q y ≡ length o = u.once (length o) h in
      omega arith

  pub preorder-only : (o : List ℕ) → Preorder s o → o ≡ preorder s
  preorder-only o r =
      let u = preorder-meets in
      let same : length o ≡ length (preorder s) =
      by_order (length o) (length (preorder s))
      (λ h. by_order (length (preorder s)) (length o) (λ g. le_antisymm h g) (λ g. absurd (no_longer o (preorder s) r u g)))
      (λ h. absurd (no_longer (preorder s) o u r h)) in
      ext_get_or 0 o (preorder s) same (λ i h. agree-below o (preorder s) r u (length o) i h h (omega arith))
