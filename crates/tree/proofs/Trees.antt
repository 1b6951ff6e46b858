-- Trees: LEVEL, and which part carries which, by steps and levels. Each law holds of a sheet that is one rooted tree.
-- Assumes nothing.
use Prim.Native.Nat.{ℕ, zero, suc, ◌+◌, ◌-◌, ◌≤◌, ◌<◌, zero-le}
use native.Mathlib.Omega.{arith}
use mathlib.Core.Path.{◌≡◌, refl, sym, ap, ◌∙◌, subst}
use mathlib.Core.Logic.{◌≢◌}
use mathlib.Core.Bool.{true}
use mathlib.Core.List.{List}
use lib.ListN.{length}
use Rattle.tree.specs.Tree.{parent, climb, Ancestor, is_root, root_of, level, Tree}
use Rattle.tree.proofs.Scans.{by_order, least-here, least-at-most}
use Rattle.tree.proofs.Roots.{is_root_lem, root_is, root_of-found}
use Rattle.tree.proofs.Climbs.{climb-zero, climb-one, climb-add, climb-suc, climb-split, climb-inside, climb-stays, ancestor-climb, met-soon}

level-here : (s : List ℕ) (v : ℕ) → level s v < length s → is_root s (climb s (level s v) v) ≡ true
unfolding level
level-here s v h = least-here (λ k. is_root s (climb s k v)) (length s) h

-- a stands above v by the difference of their levels
pub record Above (s : List ℕ) (a v : ℕ) : Type 0 where
  pub lower : level s a ≤ level s v
  pub there : climb s (level s v - level s a) v ≡ a

-- a child of a that carries v
pub record ChildToward (s : List ℕ) (a v : ℕ) : Type 0 where
  pub child : ℕ
  pub part : child < length s
  pub of : parent s child ≡ a
  pub other : parent s child ≢ child
  pub deeper : level s child ≡ suc (level s a)
  pub carries : Ancestor s child v

module _ {s : List ℕ} (t : Tree s) where
  -- ---- the root

  pub root-climb : (k : ℕ) → climb s k t.root ≡ t.root
  root-climb k = climb-stays s k t.root t.root-itself

  pub root-test : (v : ℕ) → v < length s → is_root s v ≡ true → v ≡ t.root
  root-test v h e = t.root-only v h (root_is s v e)

  pub root-found : t.root ≡ root_of s
  root-found = root_of-found (record {
    from = zero-le;
    to = omega (arith, t.root-inside);
    before = λ j _ b e. let same = t.root-only j (omega (arith, t.root-inside)) e in omega arith;
    here = λ _. t.root-itself;
  })

  -- ---- LEVEL

  -- a climb meets the root in fewer than n steps
  pub level-below : (v : ℕ) → v < length s → level s v < length s
  unfolding level
  level-below v h =
      let up = t.reach v h in
      met-soon s t.inside (is_root s) v up.steps h (ap (is_root s) up.reaches ∙ is_root_lem s t.root t.root-itself)

  -- .. after LEVEL steps
  pub climb-level : (v : ℕ) → v < length s → climb s (level s v) v ≡ t.root
  climb-level v h = root-test (climb s (level s v) v) (climb-inside s t.inside (level s v) v h) (level-here s v (level-below v h))

  -- .. and not before
  pub level_at-most : (v k : ℕ) → climb s k v ≡ t.root → level s v ≤ k
  unfolding level
  level_at-most v k e = least-at-most (λ j. is_root s (climb s j v)) (length s) k (ap (is_root s) e ∙ is_root_lem s t.root t.root-itself)

  pub level-root : level s t.root ≡ 0
  level-root = let h = level_at-most t.root 0 (climb-zero s t.root) in omega arith

  pub level-zero : (v : ℕ) → v < length s → level s v ≡ 0 → v ≡ t.root
  level-zero v h e = sym (climb-zero s v) ∙ ap (λ (k : ℕ). climb s k v) (sym e) ∙ climb-level v h

  -- each step that does not pass the root brings LEVEL down by one
  pub level-climb : (v k : ℕ) → v < length s → k ≤ level s v → level s (climb s k v) ≡ level s v - k
  level-climb v k h b =
      let up = climb s k v in
      let inside = climb-inside s t.inside k v h in
      let most : level s up ≤ level s v - k =
      level_at-most up (level s v - k) (sym (climb-split s k (level s v - k) (level s v) v (omega arith)) ∙ climb-level v h) in
      let least : level s v ≤ k + level s up = level_at-most v (k + level s up) (climb-add s k (level s up) v ∙ climb-level up inside) in
      omega arith

  pub level-parent : (v : ℕ) → v < length s → parent s v ≢ v → level s v ≡ suc (level s (parent s v))
  level-parent v h q =
      let pos : level s v ≢ 0 = λ e. q (ap (parent s) (level-zero v h e) ∙ t.root-itself ∙ sym (level-zero v h e)) in
      let up : level s (climb s 1 v) ≡ level s v - 1 = level-climb v 1 h (omega arith) in
      let one : level s (climb s 1 v) ≡ level s (parent s v) = ap (level s) (climb-one s v) in
      omega arith

  -- what holds of the root, and of each node whose parent it holds of, holds of every node
  pub from-root : (P : ℕ → Type 0) → P t.root → ((v : ℕ) → v < length s → parent s v ≢ v → P (parent s v) → P v) → (v : ℕ) → v < length s → P v
  from-root P root child v h = from-level (level s v) v h refl
    where
      from-level : (k u : ℕ) → u < length s → level s u ≡ k → P u
      from-level zero u b e = subst P (sym (level-zero u b e)) root
      from-level (suc k) u b e =
          let other : parent s u ≢ u = λ g. let top : level s u ≡ 0 = ap (level s) (t.root-only u b g) ∙ level-root in absurd (omega arith) in
          let down = level-parent u b other in
          child u b other (from-level k (parent s u) (t.inside u b) (omega arith))

  -- ---- "carries", by levels

  -- a part that carries v is such a part
  pub above : {a v : ℕ} → v < length s → Ancestor s a v → Above s a v
  above {a} {v} h p =
      by_order p.steps (level s v)
      (λ b.
      let la : level s a ≡ level s v - p.steps = ap (level s) (sym p.reaches) ∙ level-climb v p.steps h b in
      let e : level s v - level s a ≡ p.steps = omega arith in
      record { lower = omega arith; there = ap (λ (k : ℕ). climb s k v) e ∙ p.reaches })
      (λ b.
      let at-root : a ≡ t.root =
      sym p.reaches ∙ climb-split s (level s v) (p.steps - level s v) p.steps v (omega arith)
      ∙ ap (climb s (p.steps - level s v)) (climb-level v h) ∙ root-climb (p.steps - level s v) in
      let la : level s a ≡ 0 = ap (level s) at-root ∙ level-root in
      let e : level s v - level s a ≡ level s v = omega arith in
      record { lower = omega arith; there = ap (λ (k : ℕ). climb s k v) e ∙ climb-level v h ∙ sym at-root })

  -- of two parts that carry v, the one of lesser or equal LEVEL carries the other
  pub ancestors-ordered : {a b v : ℕ} → v < length s → Ancestor s a v → Ancestor s b v → level s a ≤ level s b → Ancestor s a b
  ancestors-ordered {a} {b} {v} h p q l =
      let pa = above h p in
      let qb = above h q in
      record {
        steps = level s b - level s a;
        reaches =
            ap (climb s (level s b - level s a)) (sym qb.there)
            ∙ sym (climb-split s (level s v - level s b) (level s b - level s a) (level s v - level s a) v (omega arith)) ∙ pa.there;
      }

  -- .. and at equal LEVELs they are one
  pub same-level : {a b v : ℕ} → v < length s → Ancestor s a v → Ancestor s b v → level s a ≡ level s b → a ≡ b
  same-level {a} {b} {v} h p q e = sym (above h p).there ∙ ap (λ (k : ℕ). climb s (level s v - k) v) e ∙ (above h q).there

  -- two parts that carry each other are one
  pub ancestor-antisym : {a b : ℕ} → a < length s → b < length s → Ancestor s a b → Ancestor s b a → a ≡ b
  ancestor-antisym {a} {b} ha hb p q =
      let pa = above hb p in
      let qb = above ha q in
      let e : level s b - level s a ≡ 0 = omega arith in
      sym pa.there ∙ ap (λ (k : ℕ). climb s k b) e ∙ climb-zero s b

  -- where a carries v and is another part, it has such a child
  pub child-toward : {a v : ℕ} → v < length s → Ancestor s a v → v ≢ a → ChildToward s a v
  child-toward {a} {v} h p q =
      let pa = above h p in
      let k = level s v - level s a in
      let pos : k ≢ 0 = λ e. q (sym (climb-zero s v) ∙ ap (λ (j : ℕ). climb s j v) (sym e) ∙ pa.there) in
      let c = climb s (k - 1) v in
      let up : parent s c ≡ a = sym (climb-suc s (k - 1) v) ∙ ap (λ (j : ℕ). climb s j v) (omega arith) ∙ pa.there in
      let lc : level s c ≡ level s v - (k - 1) = level-climb v (k - 1) h (omega arith) in
      let la : suc (level s a) ≡ level s v - (k - 1) = omega arith in
      record {
        child = c;
        part = climb-inside s t.inside (k - 1) v h;
        of = up;
        other = λ e. let same : level s a ≡ level s c = ap (level s) (sym up ∙ e) in absurd (omega arith);
        deeper = lc ∙ sym la;
        carries = ancestor-climb s (k - 1) v;
      }
