-- The preorder list: its members are the parts carried, each once, and it is in the order of `Precedes`.
-- Assumes nothing.
use Prim.Native.Nat.{ℕ, zero, suc, ◌+◌, ◌≤◌, ◌<◌}
use native.Mathlib.Nat.{not-suc-le-zero, lt-suc_self, le_refl}
use native.Mathlib.Omega.{arith}
use mathlib.Core.Path.{◌≡◌, sym, ap, ◌∙◌, subst}
use mathlib.Core.Logic.{◌≢◌, ⊎_elim}
use mathlib.Core.Bool.{true, false, and-eq-true_iff}
use mathlib.Core.List.Memᴰ
use mathlib.Core.List.{List, ◌++◌, Memᴰ, append-nil}
use borrow.Author.Tests.{eq-eqb, ne_eqb, eqb-true, eqb-false, not-true}
use lib.ListN.{length}
use Rattle.tree.specs.Tree.{parent, Ancestor, level, Tree}
use Rattle.tree.specs.Preorder.{is_child, each_child, preorder_in}
use Rattle.tree.proofs.Scans.{by-test, by_equal}
use Rattle.tree.proofs.Climbs.{ancestor-refl, ancestor-parent, ancestor-trans}
use Rattle.tree.proofs.Trees.{level-below, level-parent, above, child-toward}
use Rattle.tree.proofs.Precedes.{Siblings, Precedes, carries, beside}
use Rattle.tree.proofs.Orders.{Ordered, ordered-append}

-- ---- children

-- a child: its entry is v, and it is another part
pub record Child (s : List ℕ) (v c : ℕ) : Type 0 where
  pub of : parent s c ≡ v
  pub other : c ≢ v

pub child-test : {s : List ℕ} {v c : ℕ} → Child s v c → is_child s v c ≡ true
unfolding is_child
child-test {s} {v} {c} h = rw (eq-eqb _ _ h.of, ne_eqb _ _ h.other)

pub test-child : (s : List ℕ) (v c : ℕ) → is_child s v c ≡ true → Child s v c
unfolding is_child
test-child s v c e =
    let (a, b) = (and-eq-true_iff _ _).0 e in
    record { of = eqb-true _ _ a; other = eqb-false c v (not-true _ b) }

-- one more child, or none
pub each_child_lem : (s : List ℕ) (v : ℕ) (visit : ℕ → List ℕ) (i : ℕ) → is_child s v i ≡ true → each_child s v visit (suc i) ≡ each_child s v visit i ++ visit i
unfolding each_child
each_child_lem s v visit i e = rw e

pub each-other : (s : List ℕ) (v : ℕ) (visit : ℕ → List ℕ) (i : ℕ) → is_child s v i ≡ false → each_child s v visit (suc i) ≡ each_child s v visit i
unfolding each_child
each-other s v visit i e = rw e (append-nil _)

-- a member of what the children give is a member of what one child gives
pub record FromChild (s : List ℕ) (v : ℕ) (visit : ℕ → List ℕ) (i x : ℕ) : Type 0 where
  pub child : ℕ
  pub below : child < i
  pub is : Child s v child
  pub member : Memᴰ x (visit child)

from-child : (s : List ℕ) (v : ℕ) (visit : ℕ → List ℕ) (i x : ℕ) → Memᴰ x (each_child s v visit i) → FromChild s v visit i x
unfolding each_child
from-child s v visit zero x m = absurd (Memᴰ.not-nil m)
from-child s v visit (suc i) x m =
    let earlier = from-child s v visit i x in
    let wider : FromChild s v visit i x → FromChild s v visit (suc i) x =
    λ r. record { child = r.child; below = omega (arith, r.below); is = r.is; member = r.member } in
    by-test (is_child s v i)
    (λ e. ⊎_elim (λ n. wider (earlier n)) (λ n. record { child = i; below = lt-suc_self i; is = test-child s v i e; member = n })
    (Memᴰ.append_cases (each_child s v visit i) (subst (Memᴰ x) (each_child_lem s v visit i e) m)))
    (λ e. wider (earlier (subst (Memᴰ x) (each-other s v visit i e) m)))

-- .. and the other way round
to-child : (s : List ℕ) (v : ℕ) (visit : ℕ → List ℕ) (i x : ℕ) → FromChild s v visit i x → Memᴰ x (each_child s v visit i)
to-child s v visit zero x r = absurd (not-suc-le-zero r.below)
to-child s v visit (suc i) x r =
    let earlier = to-child s v visit i x in
    let b = r.below in
    by_equal r.child i
    (λ e. subst (Memᴰ x) (sym (each_child_lem s v visit i (rw e at (child-test r.is)))) (Memᴰ.append_right (each_child s v visit i) (rw e at r.member)))
    (λ e.
    let m = earlier (record { child = r.child; below = omega arith; is = r.is; member = r.member }) in
    by-test (is_child s v i)
    (λ c. subst (Memᴰ x) (sym (each_child_lem s v visit i c)) (Memᴰ.append_left (visit i) m))
    (λ c. subst (Memᴰ x) (sym (each-other s v visit i c)) m))

-- ---- the list below a part

module _ {s : List ℕ} (t : Tree s) where
  child-carried : {v c : ℕ} → Child s v c → Ancestor s v c
  child-carried {v} {c} h = rw h.of at (ancestor-parent s c)

  pub child-deeper : {v c : ℕ} → c < length s → Child s v c → level s c ≡ suc (level s v)
  child-deeper {v} {c} h k = level-parent t c h (λ e. k.other (sym e ∙ k.of)) ∙ ap (λ (u : ℕ). suc (level s u)) k.of

  -- each member is carried
  pub member-carried : (f v x : ℕ) → v < length s → Memᴰ x (preorder_in s f v) → Ancestor s v x × (x < length s)
  unfolding preorder_in
  member-carried zero v x h m = absurd (Memᴰ.not-nil m)
  member-carried (suc f) v x h m =
      let deeper = member-carried f in
      ⊎_elim (λ e. (subst (Ancestor s v) (sym e) (ancestor-refl s v), subst (λ (u : ℕ). u < length s) (sym e) h))
      (λ n.
      let r = from-child s v (preorder_in s f) (length s) x n in
      let q = deeper r.child x r.below r.member in
      (ancestor-trans (child-carried r.is) q.0, q.1))
      (Memᴰ.cases_cons m)

  -- each part carried is a member, where the levels allowed are enough
  pub carried-member : (f v x : ℕ) → v < length s → x < length s → length s ≤ f + level s v → Ancestor s v x → Memᴰ x (preorder_in s f v)
  unfolding preorder_in
  carried-member zero v x h hx enough p = let b = level-below t v h in absurd (omega arith)
  carried-member (suc f) v x h hx enough p =
      let deeper = carried-member f in
      by_equal x v (λ e. Memᴰ.head e)
      (λ e.
      let c = child-toward t hx p e in
      let down = c.deeper in
      let is : Child s v c.child = record { of = c.of; other = λ g. c.other (c.of ∙ sym g) } in
      let m = deeper c.child x c.part hx (omega arith) c.carries in
      Memᴰ.tail (to-child s v (preorder_in s f) (length s) x (record { child = c.child; below = c.part; is = is; member = m })))

  -- what the lower children give precedes what a child gives
  across : (f v i x y : ℕ) → i < length s → Child s v i → Memᴰ x (each_child s v (preorder_in s f) i) → Memᴰ y (preorder_in s f i) → Precedes s x y
  across f v i x y h is m n =
      let r = from-child s v (preorder_in s f) i x m in
      let b = r.below in
      let siblings : Siblings s r.child i = record {
        part-a = omega arith;
        part-b = h;
        same = r.is.of ∙ sym is.of;
        other-a = λ e. r.is.other (sym e ∙ r.is.of);
        other_b = λ e. is.other (sym e ∙ is.of);
        lower = b;
      } in
      beside r.child i siblings (member-carried f r.child x (omega arith) r.member).0 (member-carried f i y h n).0

  children-ordered : (f v i : ℕ) → ((c : ℕ) → c < length s → Ordered (Precedes s) (preorder_in s f c)) → i ≤ length s
      → Ordered (Precedes s) (each_child s v (preorder_in s f) i)
  unfolding each_child
  children-ordered f v zero each h = tt
  children-ordered f v (suc i) each h =
      let earlier = children-ordered f v i each (omega arith) in
      by-test (is_child s v i)
      (λ e. subst (Ordered (Precedes s)) (sym (each_child_lem s v (preorder_in s f) i e))
      (ordered-append (Precedes s) (each_child s v (preorder_in s f) i) (preorder_in s f i) earlier (each i h)
      (λ x y m n. across f v i x y h (test-child s v i e) m n)))
      (λ e. subst (Ordered (Precedes s)) (sym (each-other s v (preorder_in s f) i e)) earlier)

  -- v precedes all else that it carries
  first-precedes : (f v y : ℕ) → v < length s → Memᴰ y (each_child s v (preorder_in s f) (length s)) → Precedes s v y
  first-precedes f v y h m =
      let r = from-child s v (preorder_in s f) (length s) y m in
      let q = member-carried f r.child y r.below r.member in
      let deep = child-deeper r.below r.is in
      let up = above t q.1 q.0 in
      carries (ancestor-trans (child-carried r.is) q.0) (λ e. let same : level s y ≡ level s v = ap (level s) e in absurd (omega arith))

  pub preorder-ordered : (f v : ℕ) → v < length s → Ordered (Precedes s) (preorder_in s f v)
  unfolding preorder_in
  preorder-ordered zero v h = tt
  preorder-ordered (suc f) v h = (λ y m. first-precedes f v y h m, children-ordered f v (length s) (λ c b. preorder-ordered f c b) (le_refl (length s)))
