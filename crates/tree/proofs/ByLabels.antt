-- The theorem of Schieber and Vishkin: on a sheet's own tables the label route's rule gives the lowest common ancestor of a pair.
-- Assumes nothing.
use Prim.Native.Nat.{ℕ, suc, ◌+◌, ◌*◌, ◌/◌, ◌%◌, ◌^◌, ◌≤◌, ◌<◌}
use native.Mathlib.Nat.{le_of_lt, mod-lt}
use native.Mathlib.Omega.{arith}
use mathlib.Core.Path.{◌≡◌, sym, ap, ◌∙◌}
use mathlib.Core.Logic.{◌≢◌, inr}
use mathlib.Core.List.{List, [], ◌∷◌}
use borrow.Author.Tests.{eq-eqb, ne_eqb, le-leb, lt-leb}
use lib.ListN.{length}
use lib.Pow.{pow_pos, split}
use Rattle.bits.specs.Bits.{log2, rightmost_zeros, clear_below, bits_below}
use Rattle.bits.proofs.Zeros.{zeros-divide}
use Rattle.bits.proofs.Ones.{One, lowest-place, highest-below, agree-above, differ-below, lowest-common}
use Rattle.tree.specs.Tree.{parent, Ancestor, level, Tree}
use Rattle.tree.specs.Lca.{Lca, lca}
use Rattle.tree.specs.Labels.{inlabel, ascendant, head_node}
use Rattle.tree.specs.Tables.{own}
use Rattle.tree.specs.Routes.{nearer, step1, step2, label_above, step3, by_labels}
use Rattle.tree.proofs.Scans.{by_order, by_equal}
use Rattle.tree.proofs.Climbs.{ancestor-root, ancestor-refl, ancestor-parent, ancestor-above, ancestor-trans}
use Rattle.tree.proofs.Trees.{from-root}
use Rattle.tree.proofs.Lcas.{PairLca, lca-of-pair, pair-lca}
use Rattle.tree.proofs.Paths.{inlabel-pos, inlabel-most-n, fewer-zeros, one-path, head-top}
use Rattle.tree.proofs.OwnCells.{level_at_lem, inlabel_at_lem, ascendant_at_lem, head_at_lem}
use Rattle.tree.proofs.Ascents.{place, PathAt, place-most, prefix, path-label, ascendant-off, ascendant-zeros, ascendant-above, ascendant-one, path-at}

-- step 3's cell of HEAD, k the label that step 3 computes: a node, whose parent is carried by a, carries v and has a's INLABEL
pub record HeadBelow (s : List ℕ) (a v k : ℕ) : Type 0 where
  pub some : 0 < k
  pub most : k ≤ length s
  pub node : head_node s k < length s
  pub above : Ancestor s (parent s (head_node s k)) v
  pub below : Ancestor s a (parent s (head_node s k))
  pub on-path : inlabel s (parent s (head_node s k)) ≡ inlabel s a

-- where the climb from v to a comes to a's path: the last node that is not on it
record Turn (s : List ℕ) (a v : ℕ) : Type 0 where
  node : ℕ
  part : node < length s
  carries : Ancestor s node v
  other : inlabel s node ≢ inlabel s (parent s node)
  below : Ancestor s a (parent s node)
  on-path : inlabel s (parent s node) ≡ inlabel s a

-- r is a node of c's path, between c and v
record Between (s : List ℕ) (c v r : ℕ) : Type 0 where
  part : r < length s
  above : Ancestor s r v
  below : Ancestor s c r
  on-path : inlabel s r ≡ inlabel s c

module _ {s : List ℕ} (t : Tree s) where
  -- ---- step 3

  -- a climb to a from a node that is not on a's path has such a node
  turn : {a v : ℕ} → v < length s → Ancestor s a v → inlabel s v ≢ inlabel s a → Turn s a v
  turn {a} {v} hv =
      from-root t (λ u. Ancestor s a u → inlabel s u ≢ inlabel s a → Turn s a u)
      (λ p q. absurd (q (ap (inlabel s) (sym (ancestor-root t.root-itself p)))))
      (λ u h _ up p q.
      let on = ancestor-above p (λ e. q (ap (inlabel s) (sym e))) in
      by_equal (inlabel s (parent s u)) (inlabel s a)
      (λ e. record { node = u; part = h; carries = ancestor-refl s u; other = λ f. q (f ∙ e); below = on; on-path = e })
      (λ g.
      let r = up on g in
      record {
        node = r.node;
        part = r.part;
        carries = ancestor-trans r.carries (ancestor-parent s u);
        other = r.other;
        below = r.below;
        on-path = r.on-path;
      }))
      v hv

  -- its place is that of the highest one of ASCENDANT(v) below a's
  turn-place : {a v : ℕ} → v < length s → (r : Turn s a v) → log2 (bits_below (place s a) (ascendant s v)) ≡ place s r.node
  turn-place {a} {v} hv r =
      let h = r.node in
      let p = parent s h in
      let hp = t.inside h r.part in
      let i = place s h in
      let k = place s a in
      let low = fewer-zeros t hp r.part (ancestor-parent s h) r.other in
      let same : place s p ≡ k = ap rightmost_zeros r.on-path in
      let q = ascendant s p / 2 ^ k in
      let rest = ascendant s v % 2 ^ i in
      let zeros-p = ascendant-zeros t p hp in
      let zeros-h = ascendant-zeros t h r.part in
      let whole-p : q * 2 ^ k ≡ ascendant s p = zeros-divide (ascendant s p) k (omega arith) in
      let whole-h : ascendant s h / 2 ^ i * 2 ^ i ≡ ascendant s h = zeros-divide (ascendant s h) i (omega arith) in
      let digits : ascendant s v / 2 ^ i * 2 ^ i ≡ ascendant s h / 2 ^ i * 2 ^ i =
      ap (λ (m : ℕ). m * 2 ^ i) (ascendant-above t r.part hv r.carries) in
      let parts : ascendant s v / 2 ^ i * 2 ^ i + rest ≡ ascendant s v = split (ascendant s v) i in
      let added = ascendant-off t h r.part r.other in
      let whole : ascendant s v ≡ q * 2 ^ k + (2 ^ i + rest) = omega arith in
      rw whole (highest-below q k i rest (omega arith) (mod-lt (ascendant s v) (pow_pos i)))

  -- so the label that step 3 computes is that node's, and HEAD holds the node
  pub head-below : {a v : ℕ} → v < length s → Ancestor s a v → inlabel s v ≢ inlabel s a
      → HeadBelow s a v (label_above (log2 (bits_below (rightmost_zeros (inlabel s a)) (ascendant s v))) (inlabel s v))
  head-below {a} {v} hv p q =
      let r = turn hv p q in
      let h = r.node in
      let label : label_above (log2 (bits_below (place s a) (ascendant s v))) (inlabel s v) ≡ inlabel s h =
      ap (λ (k : ℕ). label_above k (inlabel s v)) (turn-place hv r) ∙ path-label t r.part hv r.carries in
      let top : head_node s (inlabel s h) ≡ h = head-top t h r.part (inr r.other) in
      rw label
      (record {
        some = inlabel-pos t h r.part;
        most = inlabel-most-n t h r.part;
        node = rw top r.part;
        above = rw top (ancestor-trans (ancestor-parent s h) r.carries);
        below = rw top r.below;
        on-path = rw top r.on-path;
      })

  -- with c's place and INLABEL step 3 comes to a node of c's path
  step3-between : {c v : ℕ} → v < length s → Ancestor s c v → Between s c v (step3 (own s) (place s c) (inlabel s c) v)
  unfolding step3
  step3-between {c} {v} hv p =
      by_equal (inlabel s v) (inlabel s c)
      (λ e. rw (inlabel_at_lem s v hv, eq-eqb _ _ e) (record { part = hv; above = ancestor-refl s v; below = p; on-path = e }))
      (λ q.
      let b = head-below hv p q in
      rw (inlabel_at_lem s v hv, ne_eqb _ _ q, ascendant_at_lem s v hv, head_at_lem s _ b.some b.most)
      (record { part = t.inside _ b.node; above = b.above; below = b.below; on-path = b.on-path }))

  -- ---- steps 1 and 2

  -- the INLABEL of a node above v, from v's and from its place
  label_at : {v b : ℕ} → v < length s → (r : PathAt s v b) → inlabel s r.node ≡ label_above b (inlabel s v)
  label_at hv r = sym (rw r.at at (path-label t r.part hv r.carries))

  -- a one bit that both ASCENDANTs have, and above which the INLABELs agree, is at the place of a node that carries both, so not below the carrier's
  common-one : {x y c : ℕ} → x < length s → y < length s → PairLca s x y c → (b : ℕ) → inlabel s x / 2 ^ suc b ≡ inlabel s y / 2 ^ suc b
      → One (ascendant s x) b → One (ascendant s y) b → place s c ≤ b
  unfolding label_above clear_below
  common-one {x} {y} {c} hx hy carrier b agree p q =
      let u = path-at t x hx b p in
      let w = path-at t y hy b q in
      let same : inlabel s u.node ≡ inlabel s w.node =
      label_at hx u ∙ ap (λ (m : ℕ). m * 2 ^ suc b + 2 ^ b) agree ∙ sym (label_at hy w) in
      let least : (r : ℕ) → r < length s → place s r ≡ b → Ancestor s r x → Ancestor s r y → place s c ≤ b = λ r h e f g.
      rw e at (place-most t h carrier.part (carrier.lowest r f g)) in
      by_order (level s u.node) (level s w.node)
      (λ l.
      least u.node u.part u.at u.carries (ancestor-trans (one-path t u.node w.node u.part w.part same l) w.carries))
      (λ l.
      least w.node w.part w.at
      (ancestor-trans (one-path t w.node u.node w.part u.part (sym same) (le_of_lt l)) u.carries) w.carries)

  -- steps 1 and 2 find the place of the lowest one bit of the carrier's INLABEL
  pub path-bit : (x y : ℕ) → x < length s → y < length s
      → step2 (step1 (inlabel s x) (inlabel s y)) (ascendant s x) (ascendant s y) ≡ rightmost_zeros (inlabel s (lca s (x ∷ y ∷ [])))
  unfolding step1 step2
  path-bit x y hx hy =
      let c = lca s (x ∷ y ∷ []) in
      let carrier = pair-lca t x y hx hy in
      let hc = carrier.part in
      let p = carrier.left in
      let q = carrier.right in
      let lx = place-most t hc hx p in
      let ly = place-most t hc hy q in
      let ex = lowest-place (inlabel s x) (inlabel-pos t x hx) in
      let ey = lowest-place (inlabel s y) (inlabel-pos t y hy) in
      let differ = differ-below (inlabel s x) (inlabel s y) (place s c) (prefix t hc hx p ∙ sym (prefix t hc hy q)) in
      lowest-common (ascendant s x) (ascendant s y) (step1 (inlabel s x) (inlabel s y)) (place s c) (omega arith)
      (ascendant-one t hc hx p) (ascendant-one t hc hy q)
      (λ b from to f g.
      let least = common-one hx hy carrier b (agree-above (inlabel s x) (inlabel s y) b (omega arith)) f g in
      omega arith)

  -- ---- step 4

  -- of two nodes of one path that carry x and y, and that all that carries both carries, the nearer one is the carrier
  nearer-lca : {x y u w : ℕ} → u < length s → w < length s → inlabel s u ≡ inlabel s w → Ancestor s u x → Ancestor s w y
      → ((d : ℕ) → Ancestor s d x → Ancestor s d y → Ancestor s d u × Ancestor s d w) → Lca s (x ∷ y ∷ []) (nearer (own s) u w)
  nearer-lca {x} {y} {u} {w} hu hw e p q under =
      by_order (level s u) (level s w)
      (λ l.
      rw (level_at_lem s u hu, level_at_lem s w hw, le-leb _ _ l)
      (lca-of-pair p (ancestor-trans (one-path t u w hu hw e l) q) (λ d f g. (under d f g).0)))
      (λ l.
      rw (level_at_lem s u hu, level_at_lem s w hw, lt-leb _ _ l)
      (lca-of-pair (ancestor-trans (one-path t w u hw hu (sym e) (le_of_lt l)) p) q (λ d f g. (under d f g).1)))

  -- the rule gives the carrier
  pub labels-lca : (x y : ℕ) → x < length s → y < length s → Lca s (x ∷ y ∷ []) (by_labels (own s) x y)
  unfolding by_labels
  labels-lca x y hx hy =
      by_equal (inlabel s x) (inlabel s y)
      (λ e.
      rw (inlabel_at_lem s x hx, inlabel_at_lem s y hy, eq-eqb _ _ e)
      (nearer-lca hx hy e (ancestor-refl s x) (ancestor-refl s y) (λ d f g. (f, g))))
      (λ other.
      let carrier = pair-lca t x y hx hy in
      let hc = carrier.part in
      let p = step3-between hx carrier.left in
      let q = step3-between hy carrier.right in
      rw (inlabel_at_lem s x hx, inlabel_at_lem s y hy, ascendant_at_lem s x hx, ascendant_at_lem s y hy, ne_eqb _ _ other)
      (rw (path-bit x y hx hy, path-label t hc hx carrier.left)
      (nearer-lca p.part q.part (p.on-path ∙ sym q.on-path) p.above q.above
      (λ d f g. let up = carrier.lowest d f g in (ancestor-trans up p.below, ancestor-trans up q.below)))))
