-- The nodes of one INLABEL lie on one path. HEAD is the path's top node, and ASCENDANT adds one bit for each path on the way down.
-- Assumes nothing.
use Prim.Native.Nat.{ℕ, zero, suc, ◌+◌, ◌-◌, ◌/◌, ◌%◌, ◌^◌, ◌≤◌, ◌<◌}
use native.Mathlib.Nat.{le_trans, lt_of_lt_of_le, pow-suc, one-mul, le-div_iff_mul-le, not-suc-le-zero, zero-lt-suc}
use native.Mathlib.Omega.{arith}
use mathlib.Core.Path.{◌≡◌, refl, sym, ap, ◌∙◌}
use mathlib.Core.Logic.{◌≢◌, ◌⊎◌, inl, inr, ⊎_elim}
use mathlib.Core.Bool.{Bool, cond}
use mathlib.Core.List.Memᴰ
use mathlib.Core.List.{List, [], ◌∷◌, Memᴰ}
use borrow.Author.Tests.{eq-eqb, ne_eqb, eqb-true, ltb-false}
use lib.Dec.{eqb}
use lib.ListN.{length, get_or}
use lib.Pow.{pow_pos, pow_mono}
use Rattle.bits.specs.Bits.{log2, rightmost_zeros, lowest_one}
use Rattle.bits.proofs.Log.{log2-low, log2-high}
use Rattle.bits.proofs.Zeros.{power-zeros, zeros-odd}
use Rattle.bits.proofs.Ones.{lowest-power}
use Rattle.tree.specs.Scan.{numbers_from, keep, best}
use Rattle.tree.specs.Tree.{parent, Ancestor, is_root, level, Tree}
use Rattle.tree.specs.Buffers.{no_cell}
use Rattle.tree.specs.Preorder.{preorder, preorder_number, size}
use Rattle.tree.specs.Labels.{inlabel, ascendant_in, ascendant, nearer_root, head_node}
use Rattle.tree.proofs.Scans.{by_order, by_equal}
use Rattle.tree.proofs.Bests.{ltb-asym, ltb-trans, best-is, numbers-member, member-numbers, keep-member, member-keep}
use Rattle.tree.proofs.Climbs.{ancestor-above, ancestor-root, ancestor-parent}
use Rattle.tree.proofs.Roots.{is_root_lem}
use Rattle.tree.proofs.Trees.{level-below, level-parent, ancestors-ordered}
use Rattle.tree.proofs.Sizes.{size-root, preorder-pos, preorder-root, preorder_number-at, preorder-part}
use Rattle.tree.proofs.Intervals.{carried_from, carried-to, interval-carried}
use Rattle.tree.proofs.Inlabels.{inlabel-most}

-- ---- the lowest one bit of a number that is not 0

lowest-most : (m : ℕ) → 0 < m → 2 ^ rightmost_zeros m ≤ m
lowest-most m h =
    let z = rightmost_zeros m in
    let odd : m / 2 ^ z % 2 ≡ 1 = zeros-odd m h in
    let some : 1 ≤ m / 2 ^ z = omega arith in
    rw one-mul at ((le-div_iff_mul-le (pow_pos z)).0 some)

-- v is the root, or its INLABEL is not its parent's
abbrev pub Top : List ℕ → ℕ → Type 0
Top s v = (parent s v ≡ v) ⊎ (inlabel s v ≢ inlabel s (parent s v))

-- what HEAD holds for k: 65535 where no node has INLABEL k, and else the top node of those that have
pub data HeadOf (s : List ℕ) (k : ℕ) : Type 0 where
  no_node : ((v : ℕ) → v < length s → inlabel s v ≢ k) → head_node s k ≡ no_cell → HeadOf s k
  top-node : (v : ℕ) → v < length s → inlabel s v ≡ k → Top s v → head_node s k ≡ v → HeadOf s k

module _ {s : List ℕ} (t : Tree s) where
  -- ---- INLABEL

  -- a node's INLABEL is in its interval: not before it
  pub inlabel-low : (v : ℕ) → v < length s → preorder_number s v ≤ inlabel s v
  inlabel-low v h = (inlabel-most t v h).from

  -- .. nor after it
  pub inlabel-high : (v : ℕ) → v < length s → inlabel s v < preorder_number s v + size s v
  inlabel-high v h = (inlabel-most t v h).to

  -- .. nor above n
  pub inlabel-most-n : (v : ℕ) → v < length s → inlabel s v ≤ length s
  inlabel-most-n v h =
      let high = inlabel-high v h in
      let inside = carried-to t h (t.reach v h) in
      let first = preorder-root t in
      let all = size-root t in
      omega arith

  pub inlabel-pos : (v : ℕ) → v < length s → 0 < inlabel s v
  inlabel-pos v h = lt_of_lt_of_le (preorder-pos s v) (inlabel-low v h)

  -- the INLABEL of what a node carries is in the node's interval
  pub inlabel-carried : {a v : ℕ} → v < length s → Ancestor s a v
      → (preorder_number s a ≤ inlabel s v) × (inlabel s v < preorder_number s a + size s a)
  inlabel-carried {a} {v} hv p = (le_trans (carried_from t hv p) (inlabel-low v hv), lt_of_lt_of_le (inlabel-high v hv) (carried-to t hv p))

  -- .. so where it differs from the node's own it has fewer rightmost zeros
  pub fewer-zeros : {a v : ℕ} → a < length s → v < length s → Ancestor s a v → inlabel s v ≢ inlabel s a
      → rightmost_zeros (inlabel s v) < rightmost_zeros (inlabel s a)
  fewer-zeros {a} {v} ha hv p q =
      let (from, to) = inlabel-carried hv p in
      (inlabel-most t a ha).most (inlabel s v) from to q

  -- ---- the nodes of one INLABEL

  -- each carries the node whose number it is, so one carries the other
  pub one-path : (u v : ℕ) → u < length s → v < length s → inlabel s u ≡ inlabel s v → level s u ≤ level s v → Ancestor s u v
  one-path u v hu hv e l =
      let m = inlabel s v in
      let some : 0 < m = inlabel-pos v hv in
      let most : m ≤ length s = inlabel-most-n v hv in
      let i = m - 1 in
      let w = get_or (preorder s) i 0 in
      let hw : w < length s = preorder-part t i (omega arith) in
      let number : preorder_number s w ≡ suc i = preorder_number-at t i (omega arith) in
      let carries : (x : ℕ) → x < length s → inlabel s x ≡ m → Ancestor s x w = λ x hx q.
      let low = inlabel-low x hx in
      let high = inlabel-high x hx in
      interval-carried t hx hw (omega arith) (omega arith) in
      ancestors-ordered t hw (carries u hu e) (carries v hv refl) l

  -- of two nodes on a path, the lower one's parent is on the path too
  parent-on-path : {u v : ℕ} → u < length s → v < length s → Ancestor s u v → u ≢ v → inlabel s u ≡ inlabel s v → inlabel s v ≡ inlabel s (parent s v)
  parent-on-path {u} {v} hu hv p q e =
      let pv = parent s v in
      let hp = t.inside v hv in
      by_equal pv v (λ g. ap (inlabel s) (sym g))
      (λ other.
      let between : Ancestor s u pv = ancestor-above p q in
      by_equal (inlabel s v) (inlabel s pv) (λ g. g)
      (λ g.
      let more = fewer-zeros hp hv (ancestor-parent s v) g in
      let less = fewer-zeros hu hp between (λ f. g (sym e ∙ sym f)) in
      let same : rightmost_zeros (inlabel s u) ≡ rightmost_zeros (inlabel s v) = ap rightmost_zeros e in
      absurd (omega arith)))

  -- so no other node of the path is above a top node
  top-only : {u v : ℕ} → u < length s → v < length s → inlabel s u ≡ inlabel s v → level s u ≤ level s v → Top s v → u ≡ v
  top-only {u} {v} hu hv e l top =
      let p = one-path u v hu hv e l in
      by_equal u v (λ q. q)
      (λ q. ⊎_elim (λ root. ancestor-root root p) (λ other. absurd (other (parent-on-path hu hv p q e))) top)

  -- ---- HEAD

  -- HEAD of k is the best of a list of the nodes whose INLABEL is k
  head_of : (k : ℕ) (l : List ℕ) → ((v : ℕ) → Memᴰ v l → (v < length s) × (inlabel s v ≡ k))
      → ((v : ℕ) → v < length s → inlabel s v ≡ k → Memᴰ v l) → head_node s k ≡ best (nearer_root s) no_cell l → HeadOf s k
  unfolding best
  head_of k [] node listed e = no_node (λ v h q. Memᴰ.not-nil (listed v h q)) e
  head_of k (x ∷ xs) node listed e =
      let r = best (nearer_root s) no_cell (x ∷ xs) in
      let b =
      best-is (nearer_root s) (λ u v. ltb-asym (level s u) (level s v)) (λ u v w. ltb-trans (level s u) (level s v) (level s w)) no_cell (x ∷ xs)
      (zero-lt-suc (length xs)) in
      let (h, label) = node r b.member in
      let top : Top s r =
      by_equal (parent s r) r inl
      (λ other. inr (λ same.
      let step = level-parent t r h other in
      let nearest : level s r ≤ level s (parent s r) =
      ltb-false (level s (parent s r)) (level s r) (b.wins (parent s r) (listed (parent s r) (t.inside r h) (sym same ∙ label))) in
      omega arith)) in
      top-node r h label top e

  -- each cell of HEAD: no node, or the top node
  pub head-cases : (k : ℕ) → HeadOf s k
  unfolding head_node
  head-cases k =
      let p : ℕ → Bool = λ v. eqb (inlabel s v) k in
      let all = numbers_from 0 (length s) in
      head_of k (keep p all)
      (λ v m.
      let r = keep-member p all v m in
      let inside = numbers-member 0 (length s) v r.0 in
      (omega arith, eqb-true _ _ r.1))
      (λ v h e. member-keep p all v (member-numbers 0 (length s) v (omega arith) (omega arith)) (eq-eqb _ _ e))
      refl

  -- HEAD of a node's INLABEL is a node
  pub head-part : (v : ℕ) → v < length s → head_node s (inlabel s v) < length s
  head-part v h = elim (head-cases (inlabel s v)) [
    | no_node unused _ ↦ absurd (unused v h refl)
    | top-node u hu _ _ found ↦ rw found hu
  ]

  -- HEAD of a top node's INLABEL is the node
  pub head-top : (v : ℕ) → v < length s → Top s v → head_node s (inlabel s v) ≡ v
  head-top v h top = elim (head-cases (inlabel s v)) [
    | no_node unused _ ↦ absurd (unused v h refl)
    | top-node u hu same other found ↦
        found
        ∙ by_order (level s u) (level s v)
        (λ l. top-only hu h same l top)
        (λ l. sym (top-only h hu (sym same) (omega arith) other))
  ]

  -- ---- ASCENDANT

  -- more levels than a node has do not matter
  enough : (f g v : ℕ) → v < length s → level s v < f → level s v < g → ascendant_in s f v ≡ ascendant_in s g v
  unfolding ascendant_in
  enough zero g v h a b = absurd (not-suc-le-zero a)
  enough (suc f) zero v h a b = absurd (not-suc-le-zero b)
  enough (suc f) (suc g) v h a b =
      let earlier = enough f g (parent s v) (t.inside v h) in
      by_equal (parent s v) v
      (λ e. rw (is_root_lem s v e))
      (λ q.
      let step = level-parent t v h q in
      rw (earlier (omega arith) (omega arith)))

  one_more : (v : ℕ) → v < length s → ascendant s v ≡ ascendant_in s (suc (length s)) v
  unfolding ascendant
  one_more v h = let deep = level-below t v h in enough (length s) (suc (length s)) v h deep (omega arith)

  -- at the root
  pub ascendant-root : ascendant s t.root ≡ 2 ^ log2 (length s)
  unfolding ascendant_in
  ascendant-root = one_more t.root t.root-inside ∙ rw (is_root_lem s t.root t.root-itself)

  -- below it
  pub ascendant_step_lem : (v : ℕ) → v < length s → parent s v ≢ v
      → ascendant s v
      ≡ cond (eqb (inlabel s v) (inlabel s (parent s v))) (ascendant s (parent s v)) (ascendant s (parent s v) + lowest_one (inlabel s v))
  unfolding ascendant_in ascendant is_root
  ascendant_step_lem v h q = one_more v h ∙ rw (ne_eqb _ _ q)

  -- the root's INLABEL has its lowest one bit where ASCENDANT has its one
  pub root-zeros : rightmost_zeros (inlabel s t.root) ≡ log2 (length s)
  root-zeros =
      let l = log2 (length s) in
      let h = t.root-inside in
      let m = inlabel s t.root in
      let low = lowest-most m (inlabel-pos t.root h) in
      let most = inlabel-most-n t.root h in
      let high = log2-high (length s) in
      let at_most : rightmost_zeros m ≤ l =
      by_order (rightmost_zeros m) l (λ a. a) (λ a. let more : 2 ^ suc l ≤ 2 ^ rightmost_zeros m = pow_mono a in absurd (omega arith)) in
      let zeros = power-zeros l in
      let first = preorder-root t in
      let all = size-root t in
      let from : 1 ≤ 2 ^ l = pow_pos l in
      let to : 2 ^ l ≤ length s = log2-low (length s) (omega arith) in
      by_equal (2 ^ l) m
      (λ e. ap rightmost_zeros (sym e) ∙ zeros)
      (λ q. let more = (inlabel-most t t.root h).most (2 ^ l) (omega arith) (omega arith) q in absurd (omega arith))

  root_below : ascendant s t.root + lowest_one (inlabel s t.root) ≤ 2 ^ suc (log2 (length s))
  root_below =
      rw (ascendant-root, lowest-power (inlabel s t.root) (inlabel-pos t.root t.root-inside), root-zeros) (omega arith)

  below_in : (f v : ℕ) → v < length s → level s v < f → ascendant s v + lowest_one (inlabel s v) ≤ 2 ^ suc (log2 (length s))
  below_in zero v h a = absurd (not-suc-le-zero a)
  below_in (suc f) v h a =
      let pv = parent s v in
      let hp = t.inside v h in
      let earlier = below_in f pv hp in
      by_equal pv v
      (λ e. rw (t.root-only v h e) root_below)
      (λ q.
      let step = level-parent t v h q in
      let up : ascendant s pv + lowest_one (inlabel s pv) ≤ 2 ^ suc (log2 (length s)) = earlier (omega arith) in
      by_equal (inlabel s v) (inlabel s pv)
      (λ e. rw (ascendant_step_lem v h q, eq-eqb _ _ e, e) up)
      (λ e.
      let fewer : rightmost_zeros (inlabel s v) < rightmost_zeros (inlabel s pv) = fewer-zeros hp h (ancestor-parent s v) e in
      let twice : 2 ^ suc (rightmost_zeros (inlabel s v)) ≤ 2 ^ rightmost_zeros (inlabel s pv) = pow_mono fewer in
      let here = lowest-power (inlabel s v) (inlabel-pos v h) in
      let there = lowest-power (inlabel s pv) (inlabel-pos pv hp) in
      rw (ascendant_step_lem v h q, ne_eqb _ _ e) (omega (arith, pow-suc 2 (rightmost_zeros (inlabel s v))))))

  -- ASCENDANT with the lowest one bit of INLABEL added is at most 2^(l+1), l = log n, so that each path below has room for its bit
  pub ascendant-below : (v : ℕ) → v < length s → ascendant s v + lowest_one (inlabel s v) ≤ 2 ^ suc (log2 (length s))
  ascendant-below v h = below_in (length s) v h (level-below t v h)
