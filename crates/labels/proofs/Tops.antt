-- HEAD, one top node at a time.
-- Assumes nothing.
use Prim.Native.Nat.{ℕ, suc, ◌+◌, ◌-◌, ◌*◌, ◌<◌}
use native.Mathlib.Nat.{not-suc-le-zero}
use native.Mathlib.Omega.{arith}
use mathlib.Core.Path.{◌≡◌, sym, ap, ◌∙◌, subst}
use mathlib.Core.Logic.{◌⊎◌, inl, inr, ⊎_elim}
use mathlib.Core.List.{List}
use borrow.Author.Tests.{eq-eqb, ne_eqb}
use lib.Dec.{eqb}
use lib.ListN.{length, get_or, set}
use Rattle.cells.specs.Cells.{Filled}
use Rattle.tree.specs.Tree.{parent, root_of}
use Rattle.tree.specs.Buffers.{no_cell, work_cells}
use Rattle.tree.specs.Labels.{inlabel, head_node}
use Rattle.tree.specs.Ready.{Ready}
use Rattle.tree.proofs.Scans.{by_equal, by-test}
use Rattle.tree.proofs.Trees.{root-found}
use Rattle.tree.proofs.Paths.{Top, no_node, top-node, head-cases, head-top}
use Rattle.preorder.proofs.Parents.{the-root}
use Rattle.labels.proofs.Labelled.{Labelled}
use Rattle.labels.specs.Heads.{head_place}
use Rattle.preorder.proofs.Filling.{Filling, filling-store, filling-keep}

-- what is found of HEAD when the nodes below v have been seen, and the root
abbrev pub Seen : List ℕ → ℕ → ℕ → Type 0
Seen s v h = (h ≡ no_cell) ⊎ ((h ≡ root_of s) ⊎ (h < v))

-- work has HEAD from cell n on for the numbers for which P holds of it
abbrev pub Heads : List ℕ → List ℕ → (ℕ → Type 0) → Type 0
Heads s work P = Filling s work (length s) (λ i. head_node s (suc i)) (λ i. P (head_node s (suc i)))

-- the cell of a node is in work
pub place_inside : {s label : List ℕ} {v q : ℕ} → v < length s → Labelled s label v
    → q ≡ head_place (length s) (get_or label (3 * length s + v) 0) (get_or label (3 * length s + parent s v) 0) → q < work_cells (length s)
place_inside {s} {label} {v} {q} h f e =
    by-test (eqb (get_or label (3 * length s + v) 0) (get_or label (3 * length s + parent s v) 0)) (λ t. let first : q ≡ 0 = rw t at e in omega arith)
    (λ t. let own : q ≡ length s - 1 + get_or label (3 * length s + v) 0 = rw t at e in omega arith)

-- before the first store
heads-none : {s before work : List ℕ} → Filled before (length s) (length s) no_cell work → length work ≡ work_cells (length s) → Heads s work (λ h. h ≡ no_cell)
heads-none {s} full long = record { room = long; cell = λ i h e. full.here (length s + i) (omega arith) (omega arith) ∙ sym e }

module _ {s before : List ℕ} (r : Ready s before) where
  -- a node that is the head of a number has that INLABEL, and is a top node
  head_node_lem : (v k : ℕ) → v < length s → head_node s k ≡ v → (inlabel s v ≡ k) × Top s v
  head_node_lem v k h e = elim (head-cases r.tree k) [
    | no_node _ found ↦ let small = r.small in absurd (omega arith)
    | top-node u hu label top found ↦ let same : u ≡ v = sym found ∙ e in (ap (inlabel s) (sym same) ∙ label, subst (Top s) same top)
  ]

  -- a top node is stored at its INLABEL
  heads-store : {label work : List ℕ} {P Q : ℕ → Type 0} {v : ℕ} → Heads s work P → v < length s → Labelled s label v → Top s v
      → ((h : ℕ) → Q h → (h ≡ v) ⊎ P h) → Heads s (set work (length s - 1 + get_or label (3 * length s + v) 0) v) Q
  heads-store {label} {work} {P} {Q} {v} hs h f top more =
      let next : suc (inlabel s v - 1) ≡ inlabel s v = omega arith in
      filling-store hs (inlabel s v - 1) (omega arith) (omega arith) (sym (ap (head_node s) next ∙ head-top r.tree v h top))
      (λ i b k.
      ⊎_elim (λ here. let own = (head_node_lem v (suc i) h here).0 in inl (omega arith)) inr (more (head_node s (suc i)) k))

  -- the root is stored first
  pub heads-start : {filled label work : List ℕ} {root : ℕ} → Filled filled (length s) (length s) no_cell work → length work ≡ work_cells (length s)
      → root ≡ root_of s → Labelled s label root → Heads s (set work (length s - 1 + get_or label (3 * length s + root) 0) root) (Seen s 0)
  heads-start {filled} {label} {work} {root} full long is f =
      let top = the-root r.tree is in
      heads-store {P = λ h. h ≡ no_cell} (heads-none full long) top.node f (inl top.itself)
      (λ h k. ⊎_elim inr (λ g. ⊎_elim (λ top. inl (top ∙ sym is)) (λ below. absurd (not-suc-le-zero {n = h} below)) g) k)

  -- node v is seen next
  seen_next : (v h : ℕ) → Seen s (v + 1) h → (h ≡ v) ⊎ Seen s v h
  seen_next v h k = ⊎_elim (λ g. inr (inl g)) (λ k. ⊎_elim (λ g. inr (inr (inl g))) (λ b. by_equal h v inl (λ q. inr (inr (inr (omega arith))))) k) k

  -- .. and is stored at its INLABEL if it is a top node, and else to cell 0, which is not of the column
  pub heads-step : {label work : List ℕ} {v q : ℕ} → Heads s work (Seen s v) → v < length s → Labelled s label v → Labelled s label (parent s v)
      → q ≡ head_place (length s) (get_or label (3 * length s + v) 0) (get_or label (3 * length s + parent s v) 0) → Heads s (set work q v) (Seen s (v + 1))
  heads-step {label} {work} {v} {q} hs h f above e =
      let t = r.tree in
      by_equal (inlabel s v) (inlabel s (parent s v))
      (λ same.
      let first : q ≡ 0 = rw (eq-eqb _ _ (f.is ∙ same ∙ sym above.is)) at e in
      let top : Top s v → v ≡ root_of s = ⊎_elim (λ g. t.root-only v h g ∙ root-found t) (λ other. absurd (other same)) in
      rw first
      (filling-keep hs 0 v
      (λ i b k. (⊎_elim (λ g. inr (inl (g ∙ top (head_node_lem v (suc i) h g).1))) (λ g. g) (seen_next v (head_node s (suc i)) k), λ g. absurd (omega arith)))))
      (λ other.
      let own : q ≡ length s - 1 + get_or label (3 * length s + v) 0 = rw (ne_eqb _ _ (λ g. other (sym f.is ∙ g ∙ above.is))) at e in
      rw own (heads-store hs h f (inr other) (seen_next v)))

  -- all are seen
  pub heads-end : {work : List ℕ} → Heads s work (Seen s (length s)) → (i : ℕ) → i < length s → get_or work (length s + i) 0 ≡ head_node s (suc i)
  heads-end hs i h = hs.cell i h (elim (head-cases r.tree (suc i)) [
    | no_node _ found ↦ inl found
    | top-node u hu _ _ found ↦ inr (inr (rw found hu))
  ])
