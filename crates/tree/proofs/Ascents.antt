-- What a climb leaves of the labels: above the place of a carrying node's lowest one bit INLABEL keeps its bits, and ASCENDANT has a one bit at
-- exactly the places of the nodes above. Assumes nothing.
use Prim.Native.Nat.{ℕ, suc, ◌+◌, ◌/◌, ◌^◌, ◌≤◌, ◌<◌}
use native.Mathlib.Nat.{le_of_eq, le_of_lt, le_trans, div-eq_of_lt}
use native.Mathlib.Omega.{arith}
use mathlib.Core.Path.{◌≡◌, sym, ap, ◌∙◌}
use mathlib.Core.Logic.{◌≢◌}
use mathlib.Core.List.{List}
use borrow.Author.Tests.{eq-eqb, ne_eqb}
use lib.ListN.{length}
use lib.Pow.{pow_pos, pow-lt}
use Rattle.bits.specs.Bits.{log2, rightmost_zeros, clear_below}
use Rattle.bits.proofs.Zeros.{power-zeros, zeros-odd}
use Rattle.bits.proofs.Ones.{One, shift_same, lowest-power, below-lowest, above-lowest, added-zeros, added-above}
use Rattle.tree.specs.Tree.{parent, Ancestor, Tree}
use Rattle.tree.specs.Labels.{inlabel, ascendant}
use Rattle.tree.specs.Routes.{label_above}
use Rattle.tree.proofs.Scans.{by_order, by_equal}
use Rattle.tree.proofs.Climbs.{ancestor-root, ancestor-refl, ancestor-parent, ancestor-above, ancestor-trans}
use Rattle.tree.proofs.Trees.{from-root}
use Rattle.tree.proofs.Inlabels.{inlabel-above}
use Rattle.tree.proofs.Paths.{inlabel-pos, inlabel-carried, fewer-zeros, root-zeros, ascendant-root, ascendant_step_lem}

-- the place of the lowest one bit of a node's INLABEL
abbrev pub place : List ℕ → ℕ → ℕ
place s v = rightmost_zeros (inlabel s v)

-- a step down goes along a path, or turns off it
data Step (s : List ℕ) (v : ℕ) : Type 0 where
  along : inlabel s v ≡ inlabel s (parent s v) → ascendant s v ≡ ascendant s (parent s v) → Step s v
  off : place s v < place s (parent s v) → ascendant s v ≡ ascendant s (parent s v) + 2 ^ place s v → Step s v

-- a node that carries v and has its place at b
pub record PathAt (s : List ℕ) (v b : ℕ) : Type 0 where
  pub node : ℕ
  pub part : node < length s
  pub carries : Ancestor s node v
  pub at : place s node ≡ b

module _ {s : List ℕ} (t : Tree s) where
  -- ---- INLABEL

  -- the place is no lower further up
  pub place-most : {a v : ℕ} → a < length s → v < length s → Ancestor s a v → place s v ≤ place s a
  place-most {a} {v} ha hv p =
      by_equal (inlabel s v) (inlabel s a) (λ e. le_of_eq (ap rightmost_zeros e)) (λ q. le_of_lt (fewer-zeros t ha hv p q))

  -- above a's place the INLABEL of a node that a carries is a's
  pub prefix : {a v : ℕ} → a < length s → v < length s → Ancestor s a v → inlabel s v / 2 ^ suc (place s a) ≡ inlabel s a / 2 ^ suc (place s a)
  prefix {a} {v} ha hv p = let (from, to) = inlabel-carried t hv p in inlabel-above t a (inlabel s v) ha from to

  -- the INLABEL of a node that carries v, from v's and from the place of its lowest one bit
  pub path-label : {a v : ℕ} → a < length s → v < length s → Ancestor s a v → label_above (rightmost_zeros (inlabel s a)) (inlabel s v) ≡ inlabel s a
  unfolding label_above clear_below
  path-label {a} {v} ha hv p = rw (prefix ha hv p) (above-lowest (inlabel s a) (inlabel-pos t a ha))

  -- ---- ASCENDANT, step by step

  -- a node whose INLABEL is not its parent's adds the one bit at its place
  pub ascendant-off : (v : ℕ) → v < length s → inlabel s v ≢ inlabel s (parent s v) → ascendant s v ≡ ascendant s (parent s v) + 2 ^ place s v
  ascendant-off v h q =
      ascendant_step_lem t v h (λ e. q (ap (inlabel s) (sym e))) ∙ rw (ne_eqb _ _ q, lowest-power (inlabel s v) (inlabel-pos t v h))

  step : (v : ℕ) → v < length s → parent s v ≢ v → Step s v
  step v h q =
      by_equal (inlabel s v) (inlabel s (parent s v))
      (λ e. along e (ascendant_step_lem t v h q ∙ rw (eq-eqb _ _ e)))
      (λ e. off (fewer-zeros t (t.inside v h) h (ancestor-parent s v) e) (ascendant-off v h e))

  -- the lowest one bit of ASCENDANT is INLABEL's
  lowest : (v : ℕ) → v < length s → (0 < ascendant s v) × (rightmost_zeros (ascendant s v) ≡ place s v)
  lowest =
      from-root t (λ v. (0 < ascendant s v) × (rightmost_zeros (ascendant s v) ≡ place s v))
      (let l = log2 (length s) in rw (ascendant-root t, root-zeros t) (pow_pos l, power-zeros l))
      (λ v h q up. elim (step v h q) [
        | along e f ↦ rw (f, e) up
        | off low e ↦ rw e (omega arith, added-zeros (ascendant s (parent s v)) (place s v) (omega arith))
      ])

  pub ascendant-zeros : (v : ℕ) → v < length s → rightmost_zeros (ascendant s v) ≡ place s v
  ascendant-zeros v h = (lowest v h).1

  -- a step off a path adds a bit below, and leaves those above it
  off-above : (v : ℕ) → v < length s → place s v < place s (parent s v) → ascendant s v ≡ ascendant s (parent s v) + 2 ^ place s v
      → ascendant s v / 2 ^ suc (place s v) ≡ ascendant s (parent s v) / 2 ^ suc (place s v)
  off-above v h low e =
      let zeros = ascendant-zeros (parent s v) (t.inside v h) in
      rw e (added-above (ascendant s (parent s v)) (place s v) (omega arith))

  -- ---- ASCENDANT along a climb

  -- from a's place on ASCENDANT of a node that a carries is a's
  pub ascendant-above : {a v : ℕ} → a < length s → v < length s → Ancestor s a v → ascendant s v / 2 ^ place s a ≡ ascendant s a / 2 ^ place s a
  ascendant-above {a} {v} ha hv =
      from-root t (λ u. Ancestor s a u → ascendant s u / 2 ^ place s a ≡ ascendant s a / 2 ^ place s a)
      (λ p. ap (λ (u : ℕ). ascendant s u / 2 ^ place s a) (sym (ancestor-root t.root-itself p)))
      (λ u h q up p.
      by_equal a u
      (λ e. ap (λ (w : ℕ). ascendant s w / 2 ^ place s a) (sym e))
      (λ other.
      let on = ancestor-above p other in
      elim (step u h q) [
        | along e f ↦ rw f (up on)
        | off low e ↦
            shift_same (ascendant s u) (ascendant s (parent s u)) (suc (place s u)) (place s a)
            (le_trans low (place-most ha (t.inside u h) on)) (off-above u h low e)
            ∙ up on
      ]))
      v hv

  -- so it has a one bit at a's place
  pub ascendant-one : {a v : ℕ} → a < length s → v < length s → Ancestor s a v → One (ascendant s v) (place s a)
  ascendant-one {a} {v} ha hv p =
      let (some, zeros) = lowest a ha in
      let odd : One (ascendant s a) (rightmost_zeros (ascendant s a)) = zeros-odd (ascendant s a) some in
      rw (ascendant-above ha hv p) (rw zeros at odd)

  -- no one bit of ASCENDANT is below INLABEL's lowest
  one_from : (v b : ℕ) → v < length s → One (ascendant s v) b → place s v ≤ b
  one_from v b h o =
      by_order (place s v) b (λ l. l)
      (λ l.
      let zeros = ascendant-zeros v h in
      let none = below-lowest (ascendant s v) b (omega arith) in
      absurd (omega arith))

  -- each one bit of ASCENDANT is at the place of a node above
  pub path-at : (v : ℕ) → v < length s → (b : ℕ) → One (ascendant s v) b → PathAt s v b
  path-at =
      from-root t (λ v. (b : ℕ) → One (ascendant s v) b → PathAt s v b)
      (λ b o.
      let r = t.root in
      let h = t.root-inside in
      let from = one_from r b h o in
      by_equal (place s r) b (λ e. record { node = r; part = h; carries = ancestor-refl s r; at = e })
      (λ other.
      let top = root-zeros t in
      let none : ascendant s r / 2 ^ b ≡ 0 = rw (ascendant-root t) (div-eq_of_lt (pow-lt (omega arith))) in
      absurd (omega arith)))
      (λ v h q up b o.
      let from = one_from v b h o in
      by_equal (place s v) b (λ e. record { node = v; part = h; carries = ancestor-refl s v; at = e })
      (λ other.
      let further : One (ascendant s (parent s v)) b → PathAt s v b = λ g.
      let r = up b g in
      record { node = r.node; part = r.part; carries = ancestor-trans r.carries (ancestor-parent s v); at = r.at } in
      elim (step v h q) [
        | along e f ↦ further (rw f at o)
        | off low e ↦
            further (rw (shift_same (ascendant s v) (ascendant s (parent s v)) (suc (place s v)) b (omega arith) (off-above v h low e)) at o)
      ]))
