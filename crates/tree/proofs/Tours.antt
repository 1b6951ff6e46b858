-- The tour: where each node's first visit stands, what stands after the visits of a child, that the tour has no other cell, and that the
-- visits of a node are those of what it carries.
-- Assumes nothing.
use Prim.Native.Nat.{ℕ, zero, suc, ◌+◌, ◌-◌, ◌*◌, ◌≤◌, ◌<◌}
use native.Mathlib.Nat.{le_antisymm, le_of_eq, zero-lt-suc}
use native.Mathlib.Omega.{arith}
use mathlib.Core.Path.{◌≡◌, refl, sym, ap, ◌∙◌, subst}
use mathlib.Core.Logic.{◌≢◌}
use mathlib.Core.List.{List, [], ◌∷◌, ◌++◌}
use lib.ListN.{length, get_or, length-append}
use Rattle.tree.specs.Tree.{parent, Ancestor, root_of, level, Tree}
use Rattle.tree.specs.Preorder.{each_child, preorder_number, size, tour_in, tour, first_visit, child_sum}
use Rattle.tree.specs.Buffers.{visits}
use Rattle.tree.proofs.Scans.{by_equal, position_here, position-at-most}
use Rattle.tree.proofs.Climbs.{ancestor-refl, ancestor-parent, ancestor-trans, ancestor-above, ancestor-inside}
use Rattle.tree.proofs.Trees.{root-climb, root-found, level-root, level-below, level-parent, from-root, above, child-toward}
use Rattle.tree.proofs.PreorderList.{child-deeper}
use Rattle.tree.proofs.Sums.{each-length, sum_same, sum-double, summand}
use Rattle.tree.proofs.Blocks.{Stands, stands_at, stands-within, stands-right, Visiting, Block, block-opens, block-child, block}
use Rattle.tree.proofs.Sizes.{size-sum, size-root, preorder-pos, preorder-root, preorder-child, preorder-parent}
use Rattle.tree.proofs.Intervals.{carried-to}

-- a position of the tour is a node's first visit, or the visit of its parent after the node's own
pub data Visit (s : List ℕ) (i : ℕ) : Type 0 where
  first : (v : ℕ) → v < length s → i ≡ first_visit s v → Visit s i
  after : (v : ℕ) → v < length s → parent s v ≢ v → i ≡ first_visit s v + 2 * size s v - 1 → Visit s i

-- two cells for each node before v, but one for each that carries it: where the visits of v begin
start : List ℕ → ℕ → ℕ
start s v = 2 * (preorder_number s v - 1) - level s v

module _ {s : List ℕ} (t : Tree s) where
  -- ---- lengths

  -- the visits of a child, and one of its parent, are twice its SIZE
  wide : (f v c : ℕ) → c < length s → length s ≤ f + level s c → length (tour_in s f c ++ (v ∷ [])) ≡ 2 * size s c
  unfolding tour_in
  wide zero v c h enough = let deep = level-below t c h in absurd (omega arith)
  wide (suc f) v c h enough =
      let n = length s in
      let give : ℕ → List ℕ = λ d. tour_in s f d ++ (c ∷ []) in
      let one = length-append (c ∷ each_child s c give n) (v ∷ []) in
      let deeper = wide f c in
      let each : length (each_child s c give n) ≡ child_sum s c (λ d. 2 * size s d) n =
      each-length s c give n ∙ sum_same s c (λ d. length (give d)) (λ d. 2 * size s d) n
      (λ d b k. let deep = child-deeper t b k in deeper d b (omega arith)) in
      let double = sum-double s c (size s) n in
      let whole = size-sum t c h in
      omega arith

  -- the tour has 2n−1 visits
  pub tour-length : length (tour s) ≡ visits (length s)
  unfolding tour
  tour-length =
      let root : root_of s < length s = rw (root-found t) at t.root-inside in
      let one = length-append (tour_in s (length s) (root_of s)) (0 ∷ []) in
      let long = wide (length s) 0 (root_of s) root (omega arith) in
      let all : size s (root_of s) ≡ length s = ap (size s) (sym (root-found t)) ∙ size-root t in
      omega arith

  -- ---- where the visits of a node begin

  -- the tour is made of a node and its children's visits, with one of the node after each
  made : Visiting s (tour_in s) (λ v. v ∷ []) (λ c. 2 * size s c)
  unfolding tour_in
  made = record { opens = λ f v. refl; wide = wide }

  -- each step down is a later number
  level-number : (v : ℕ) → v < length s → level s v < preorder_number s v
  level-number =
      from-root t (λ v. level s v < preorder_number s v)
      (let top = level-root t in let pos = preorder-pos s t.root in omega arith)
      (λ v h q above. let down = level-parent t v h q in let later = preorder-parent t v h q in omega arith)

  start-level : (v : ℕ) → v < length s → start s v + level s v ≡ 2 * (preorder_number s v - 1)
  unfolding start
  start-level v h = let low = level-number v h in omega arith

  start-root : start s t.root ≡ 0
  start-root =
      let whole = start-level t.root t.root-inside in
      let number = preorder-root t in
      omega arith

  start-parent : (v : ℕ) → v < length s → parent s v ≢ v → start s v ≡ start s (parent s v) + suc (child_sum s (parent s v) (λ c. 2 * size s c) v)
  start-parent v h q =
      let p = parent s v in
      let whole = start-level v h in
      let above = start-level p (t.inside v h) in
      let down = level-parent t v h q in
      let number = preorder-child t v h q in
      let pos = preorder-pos s p in
      let double = sum-double s p (size s) v in
      omega arith

  tour-block : (v : ℕ) → v < length s → Block s (tour_in s) v (start s v)
  tour-block = block t made (start s) start-root (λ v h q _. start-parent v h q)

  -- ---- the cells

  start_cell : (v : ℕ) → v < length s → get_or (tour s) (start s v) 0 ≡ v
  unfolding tour
  start_cell v h =
      let opened = subst (Stands (tour s) (start s v)) (block-opens t made v h) (tour-block v h) in
      let e : start s v + 0 ≡ start s v = omega arith in
      rw e at (stands_at opened 0 (zero-lt-suc _))

  after-cell : (v : ℕ) → v < length s → parent s v ≢ v → get_or (tour s) (start s v + 2 * size s v - 1) 0 ≡ parent s v
  unfolding tour
  after-cell v h q =
      let p = parent s v in
      let f = length s - level s v in
      let stands = block-child t made v (start s p) h q (tour-block p (t.inside v h)) in
      let deep = level-below t v h in
      let long = wide f p v h (omega arith) in
      let one = length-append (tour_in s f v) (p ∷ []) in
      let begin = start-parent v h q in
      let e : start s p + suc (child_sum s p (λ c. 2 * size s c) v) + length (tour_in s f v) + 0 ≡ start s v + 2 * size s v - 1 = omega arith in
      rw e at (stands_at (stands-right (tour_in s f v) (p ∷ []) stands) 0 (zero-lt-suc _))

  -- ---- there is no other cell

  -- a position among the visits of a is where the visits of a node that a carries begin, or after those of such a node's child
  module _ {X : Type 0} (a i : ℕ) (begins : (v : ℕ) → v < length s → Ancestor s a v → i ≡ start s v → X)
      (follows : (v : ℕ) → v < length s → parent s v ≢ v → Ancestor s a (parent s v) → i ≡ start s v + 2 * size s v - 1 → X) where
    cover-in : (f v k : ℕ) → v < length s → Ancestor s a v → length s ≤ f + level s v → suc k < 2 * size s v → i ≡ start s v + k → X
    cover-in zero v k h p enough b e = let deep = level-below t v h in absurd (omega arith)
    cover-in (suc f) v k h p enough b e =
        let deeper = cover-in f in
        let n = length s in
        let g : ℕ → ℕ = λ c. 2 * size s c in
        by_equal k 0
        (λ z. begins v h p (omega arith))
        (λ z.
        let whole = size-sum t v h in
        let double = sum-double s v (size s) n in
        let r = summand s v g n (k - 1) (omega arith) in
        let c = r.child in
        let q : parent s c ≢ c = λ y. r.is.other (sym y ∙ r.is.of) in
        let deep = child-deeper t r.below r.is in
        let begin : start s c ≡ start s v + suc (child_sum s v g c) = rw r.is.of at (start-parent c r.below q) in
        let up : Ancestor s a (parent s c) = rw r.is.of p in
        let j = k - 1 - child_sum s v g c in
        by_equal (suc j) (2 * size s c)
        (λ y. follows c r.below q up (omega arith))
        (λ y. deeper c j r.below (ancestor-trans up (ancestor-parent s c)) (omega arith) (omega arith) (omega arith)))

    cover-block : a < length s → start s a ≤ i → suc i < start s a + 2 * size s a → X
    cover-block h from to = cover-in (length s) a (i - start s a) h (ancestor-refl s a) (omega arith) (omega arith) (omega arith)

  -- .. and the visits of the root are the tour
  cover : {X : Type 0} (i : ℕ) → ((v : ℕ) → v < length s → i ≡ start s v → X)
      → ((v : ℕ) → v < length s → parent s v ≢ v → i ≡ start s v + 2 * size s v - 1 → X) → i < visits (length s) → X
  cover i begins follows b =
      let all = size-root t in
      let begin = start-root in
      cover-block t.root i (λ v h _. begins v h) (λ v h q _. follows v h q) t.root-inside (omega arith) (omega arith)

  -- ---- first visits

  -- the visits of a node end within the tour
  start-end : (v : ℕ) → v < length s → start s v + 2 * size s v ≤ 2 * length s
  unfolding tour
  start-end v h =
      let f = length s - level s v in
      let within : start s v + length (tour_in s f v) ≤ length (tour s) = stands-within (tour-block v h) in
      let deep = level-below t v h in
      let long = wide f 0 v h (omega arith) in
      let one = length-append (tour_in s f v) (0 ∷ []) in
      let all = tour-length in
      omega arith

  -- a node's visits begin with its first: any other visit of it is after a child's
  first-start : (v : ℕ) → v < length s → first_visit s v ≡ start s v
  unfolding first_visit
  first-start v h =
      let i = first_visit s v in
      let most : i ≤ start s v = position-at-most (tour s) v (start s v) (start_cell v h) in
      let end = start-end v h in
      let some = size-sum t v h in
      let long = tour-length in
      let here : get_or (tour s) i 0 ≡ v = position_here (tour s) v (omega arith) in
      let least : start s v ≤ i =
      cover i
      (λ u b e.
      let same : u ≡ v = sym (start_cell u b) ∙ ap (λ (j : ℕ). get_or (tour s) j 0) (sym e) ∙ here in
      rw same at (le_of_eq (sym e)))
      (λ u b q e.
      let same : parent s u ≡ v = sym (after-cell u b q) ∙ ap (λ (j : ℕ). get_or (tour s) j 0) (sym e) ∙ here in
      let begin = start-parent u b q in
      let up : start s (parent s u) ≡ start s v = ap (start s) same in
      let more = size-sum t u b in
      omega arith)
      (omega arith) in
      le_antisymm most least

  -- the first visit stands after two cells for each node before, but one for each that carries this one
  pub first_visit_lem : (v : ℕ) → v < length s → first_visit s v + level s v ≡ 2 * (preorder_number s v - 1)
  first_visit_lem v h = rw (first-start v h) (start-level v h)

  -- there stands the node
  pub visit-first : (v : ℕ) → v < length s → get_or (tour s) (first_visit s v) 0 ≡ v
  visit-first v h = rw (first-start v h) (start_cell v h)

  -- after the visits of a node its parent stands
  pub visit-after : (v : ℕ) → v < length s → parent s v ≢ v → get_or (tour s) (first_visit s v + 2 * size s v - 1) 0 ≡ parent s v
  visit-after v h q = rw (first-start v h) (after-cell v h q)

  -- the visits of a node, and one of its parent, end within the tour and one more cell
  pub visits-end : (v : ℕ) → v < length s → first_visit s v + 2 * size s v ≤ 2 * length s
  visits-end v h = rw (first-start v h) (start-end v h)

  -- each cell is one of these
  pub visit-cover : (i : ℕ) → i < visits (length s) → Visit s i
  visit-cover i b =
      cover i (λ v h e. first v h (e ∙ sym (first-start v h)))
      (λ v h q e. after v h q (e ∙ ap (λ (a : ℕ). a + 2 * size s v - 1) (sym (first-start v h)))) b

  -- each cell is a node
  pub visit-part : (i : ℕ) → i < visits (length s) → get_or (tour s) i 0 < length s
  visit-part i b =
      cover i (λ v h e. rw (e, start_cell v h) h)
      (λ v h q e. rw (e, after-cell v h q) (t.inside v h)) b

  -- a first visit stands in the tour
  pub first-inside : (v : ℕ) → v < length s → first_visit s v < visits (length s)
  first-inside v h = let end = visits-end v h in let some = size-sum t v h in omega arith

  -- ---- the visits of what a node carries

  -- they begin no sooner than the node's own
  pub carried_first : {a v : ℕ} → v < length s → Ancestor s a v → first_visit s a ≤ first_visit s v
  carried_first {a} {v} h =
      from-root t (λ u. Ancestor s a u → first_visit s a ≤ first_visit s u)
      (λ p. le_of_eq (ap (first_visit s) (sym p.reaches ∙ root-climb t p.steps)))
      (λ u b q higher p.
      by_equal a u (λ e. le_of_eq (ap (first_visit s) e))
      (λ e.
      let up = higher (ancestor-above p e) in
      let begin = start-parent u b q in
      let here = first-start u b in
      let there = first-start (parent s u) (t.inside u b) in
      omega arith))
      v h

  -- .. and end no later
  pub carried-end : {a v : ℕ} → v < length s → Ancestor s a v → first_visit s v + 2 * size s v ≤ first_visit s a + 2 * size s a
  carried-end {a} {v} h p =
      let within = carried-to t h p in
      let lower = (above t h p).lower in
      let here = first_visit_lem v h in
      let there = first_visit_lem a (ancestor-inside t.inside h p) in
      let pos = preorder-pos s a in
      omega (arith, preorder-pos s v)

  -- from a node's first visit to the last only nodes stand that it carries
  pub visit-carried : {a : ℕ} (i : ℕ) → a < length s → first_visit s a ≤ i → suc i < first_visit s a + 2 * size s a → Ancestor s a (get_or (tour s) i 0)
  visit-carried {a} i h from to =
      let begin = first-start a h in
      cover-block a i (λ v b p e. rw (e, start_cell v b) p) (λ v b q p e. rw (e, after-cell v b q) p) h (omega arith) (omega arith)

  -- those of what a node carries below itself end sooner than its own
  pub carried-sooner : {a v : ℕ} → v < length s → Ancestor s a v → v ≢ a → first_visit s v + 2 * size s v < first_visit s a + 2 * size s a
  carried-sooner {a} {v} h p q =
      let within = carried-to t h p in
      let c = child-toward t h p q in
      let deep = c.deeper in
      let lower = (above t h c.carries).lower in
      let here = first_visit_lem v h in
      let there = first_visit_lem a (ancestor-inside t.inside h p) in
      let pos = preorder-pos s a in
      omega (arith, preorder-pos s v)

  -- a node's visits end with one of it: any other node there is one that it carries, whose visits would not end sooner
  pub visit-last : (v : ℕ) → v < length s → get_or (tour s) (first_visit s v + 2 * size s v - 2) 0 ≡ v
  visit-last v h =
      let some = size-sum t v h in
      let end = visits-end v h in
      let i = first_visit s v + 2 * size s v - 2 in
      by-visit i (omega arith) (visit-carried i h (omega arith) (omega arith)) (visit-cover i (omega arith))
    where
      by-visit : (i : ℕ) → i + 2 ≡ first_visit s v + 2 * size s v → Ancestor s v (get_or (tour s) i 0) → Visit s i → get_or (tour s) i 0 ≡ v
      by-visit i last p (first u b e) =
          let here : get_or (tour s) i 0 ≡ u = rw e (visit-first u b) in
          by_equal u v (λ q. here ∙ q)
          (λ q. let sooner = carried-sooner b (rw here at p) q in let some = size-sum t u b in absurd (omega arith))
      by-visit i last p (after u b q e) =
          let here : get_or (tour s) i 0 ≡ parent s u = rw e (visit-after u b q) in
          by_equal (parent s u) v (λ r. here ∙ r)
          (λ r.
          let sooner = carried-sooner (t.inside u b) (rw here at p) r in
          let own = carried-sooner b (ancestor-parent s u) (λ y. q (sym y)) in
          let some = size-sum t u b in
          absurd (omega arith))
