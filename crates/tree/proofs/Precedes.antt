-- The order that document 01's sentences on preorder state of two parts: it is strict, and of two different parts one precedes the other.
-- Assumes nothing.
use Prim.Native.Nat.{ℕ, suc, ◌≤◌, ◌<◌}
use native.Mathlib.Nat.{le_antisymm}
use native.Mathlib.Omega.{arith}
use mathlib.Core.Path.{◌≡◌, refl, sym, ap, ◌∙◌}
use mathlib.Core.Logic.{◌≢◌, ◌⊎◌, inl, inr}
use mathlib.Core.List.Memᴰ
use mathlib.Core.List.{List, [], ◌∷◌}
use lib.ListN.{length}
use Rattle.tree.specs.Tree.{parent, Ancestor, level, Tree}
use Rattle.tree.specs.Lca.{Common, lca}
use Rattle.tree.proofs.Scans.{by_order, by_equal}
use Rattle.tree.proofs.Climbs.{ancestor-parent, ancestor-refl, ancestor-trans, ancestor-inside}
use Rattle.tree.proofs.Trees.{level-parent, above, ancestors-ordered, same-level, ancestor-antisym, ChildToward, child-toward}
use Rattle.tree.proofs.Lcas.{each-of_two, pair_found}

-- "two parts with the same entry, the root apart", a the lower number
pub record Siblings (s : List ℕ) (a b : ℕ) : Type 0 where
  pub part-a : a < length s
  pub part-b : b < length s
  pub same : parent s a ≡ parent s b
  pub other-a : parent s a ≢ a
  pub other_b : parent s b ≢ b
  pub lower : a < b

-- x carries y, or a lower sibling carries x where a higher one carries y
pub data Precedes (s : List ℕ) (x y : ℕ) : Type 0 where
  carries : Ancestor s x y → y ≢ x → Precedes s x y
  beside : (a b : ℕ) → Siblings s a b → Ancestor s a x → Ancestor s b y → Precedes s x y

module _ {s : List ℕ} (t : Tree s) where
  siblings-level : {a b : ℕ} → Siblings s a b → level s a ≡ level s b
  siblings-level {a} {b} g =
      level-parent t a g.part-a g.other-a ∙ ap (λ (p : ℕ). suc (level s p)) g.same ∙ sym (level-parent t b g.part-b g.other_b)

  -- no part carries what two siblings carry apart, once it is as deep as they are
  apart : {a b c x y : ℕ} → x < length s → y < length s → Siblings s a b → Ancestor s a x → Ancestor s b y → Ancestor s c x → Ancestor s c y
      → level s a ≤ level s c → ⊥
  apart {a} {b} {c} {x} {y} hx hy g ax by cx cy l =
      let e = siblings-level g in
      let ac = ancestors-ordered t hx ax cx l in
      let bc = ancestors-ordered t hy by cy (omega arith) in
      let same : a ≡ b = same-level t (ancestor-inside t.inside hx cx) ac bc e in
      let lower = g.lower in
      omega arith

  -- the father of two siblings carries what either carries
  father : {a b x y : ℕ} → Siblings s a b → Ancestor s a x → Ancestor s b y → Ancestor s (parent s a) x × Ancestor s (parent s a) y
  father {a} {b} g ax by = (ancestor-trans (ancestor-parent s a) ax, rw g.same (ancestor-trans (ancestor-parent s b) by))

  -- two pairs of siblings cannot carry x and y crosswise
  crosswise : {a b a' b' x y : ℕ} → x < length s → y < length s → Siblings s a b → Ancestor s a x → Ancestor s b y
      → Siblings s a' b' → Ancestor s a' y → Ancestor s b' x → level s a < level s a' → ⊥
  crosswise {a' = a'} hx hy g ax by g' a'y b'x l =
      let (fy, fx) = father g' a'y b'x in
      let up = level-parent t a' g'.part-a g'.other-a in
      apart hx hy g ax by fx fy (omega arith)

  pub precedes-asym : {x y : ℕ} → x < length s → y < length s → Precedes s x y → Precedes s y x → ⊥
  precedes-asym hx hy (carries p q) (carries p' q') = q (ancestor-antisym t hy hx p' p)
  precedes-asym {x} {y} hx hy (carries p q) (beside a b g ay bx) =
      apart hy hy g ay (ancestor-trans bx p) (ancestor-refl s y) (ancestor-refl s y) (above t hy ay).lower
  precedes-asym {x} {y} hx hy (beside a b g ax by) (carries p q) =
      apart hx hx g ax (ancestor-trans by p) (ancestor-refl s x) (ancestor-refl s x) (above t hx ax).lower
  precedes-asym {x} {y} hx hy (beside a b g ax by) (beside a' b' g' a'y b'x) =
      by_order (level s a) (level s a')
      (λ l. by_order (level s a') (level s a)
      (λ m.
      let e : level s a ≡ level s b' = le_antisymm l m ∙ siblings-level g' in
      let e' : level s b ≡ level s a' = sym (siblings-level g) ∙ le_antisymm l m in
      let one : a ≡ b' = same-level t hx ax b'x e in
      let two : b ≡ a' = same-level t hy by a'y e' in
      let low = g.lower in
      let low' = g'.lower in
      omega arith)
      (λ m. crosswise hx hy g ax by g' a'y b'x m))
      (λ l. crosswise hy hx g' a'y b'x g ax by l)

  pub precedes-irrefl : {x : ℕ} → x < length s → Precedes s x x → ⊥
  precedes-irrefl h p = precedes-asym h h p p

  -- below the lowest common ancestor c the ways to x and to y part
  fork : {c x y : ℕ} → x < length s → y < length s → ((d : ℕ) → Common s (x ∷ y ∷ []) d → Ancestor s d c)
      → ChildToward s c x → ChildToward s c y → Precedes s x y ⊎ Precedes s y x
  fork {c} {x} {y} hx hy lowest p q =
      let a = p.child in
      let b = q.child in
      let same : parent s a ≡ parent s b = p.of ∙ sym q.of in
      by_order a b
      (λ l. by_equal a b
      (λ e.
      let both = each-of_two (Ancestor s a) p.carries (rw e q.carries) in
      let deep = p.deeper in
      let up = above t (ancestor-inside t.inside hx (ancestor-trans (rw p.of at (ancestor-parent s a)) p.carries)) (lowest a both) in
      absurd (omega arith))
      (λ e. inl (beside a b (record { part-a = p.part; part-b = q.part; same = same; other-a = p.other; other_b = q.other; lower = omega arith }) p.carries q.carries)))
      (λ l. inr (beside b a (record { part-a = q.part; part-b = p.part; same = sym same; other-a = q.other; other_b = p.other; lower = l }) q.carries p.carries))

  pub precedes-total : {x y : ℕ} → x < length s → y < length s → x ≢ y → Precedes s x y ⊎ Precedes s y x
  precedes-total {x} {y} hx hy q =
      let l = pair_found t hx hy in
      let c = lca s (x ∷ y ∷ []) in
      let cx = l.common x (Memᴰ.head refl) in
      let cy = l.common y (Memᴰ.tail (Memᴰ.head refl)) in
      by_equal x c (λ e. inl (carries (rw e cy) (λ g. q (sym g))))
      (λ nx. by_equal y c (λ e. inr (carries (rw e cx) q))
      (λ ny. fork hx hy l.lowest (child-toward t hx cx nx) (child-toward t hy cy ny)))
