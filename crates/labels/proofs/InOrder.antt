-- What is made along the preorder: the list itself, and a column whose value at a node is made from its parent's.
-- Assumes nothing.
use Prim.Native.Nat.{ℕ, suc, ◌+◌, ◌-◌, ◌≤◌, ◌<◌}
use native.Mathlib.Nat.{zero-add}
use native.Mathlib.Omega.{arith}
use mathlib.Core.Path.{◌≡◌, refl, sym, ap, ◌∙◌}
use mathlib.Core.Logic.{◌≢◌, inl, inr}
use mathlib.Core.List.{List}
use lib.ListN.{length, get_or, set}
use lib.Seq.{get_or-set_other}
use Rattle.tree.specs.Tree.{parent, Tree}
use Rattle.tree.specs.Buffers.{work_cells}
use Rattle.tree.specs.Preorder.{preorder, preorder_number}
use Rattle.tree.specs.Sections.{Same}
use Rattle.tree.proofs.Scans.{by_equal}
use Rattle.tree.proofs.Sizes.{preorder-pos, preorder-at, preorder-most, preorder_number-at, preorder-part, preorder-injective, preorder-parent, preorder-root}
use Rattle.preorder.proofs.Filling.{Filling, filling-store}
use Rattle.preorder.proofs.Numbering.{At, at_next}

-- the nodes below v stand in their cells of the preorder
abbrev pub Listed : List ℕ → List ℕ → ℕ → Type 0
Listed s work v = Filling s work 0 (λ i. get_or (preorder s) i 0) (λ i. get_or (preorder s) i 0 < v)

-- the first n cells of work are the preorder, and the column f is made from cell n on for the first i nodes of it
pub record Along (s work : List ℕ) (f : ℕ → ℕ) (i : ℕ) : Type 0 where
  pub order : Same work 0 (preorder s) 0 (length s)
  pub made : Filling s work (length s) f (λ x. preorder_number s x ≤ i)

-- v is a node below the root, and f is made for its parent
pub record Below (s work : List ℕ) (f : ℕ → ℕ) (v : ℕ) : Type 0 where
  pub node : v < length s
  pub up : get_or s v 0 < length s
  pub child : parent s v ≢ v
  pub above : get_or work (length s + get_or s v 0) 0 ≡ f (parent s v)

-- node i of the preorder, where there is one, and its parent are nodes: what a turn reads
pub record Turn (s work : List ℕ) (i : ℕ) : Type 0 where
  pub node : i < length s → get_or work i 0 < length s
  pub up : i < length s → get_or s (get_or work i 0) 0 < length s

-- before the first turn
pub listed_start : {s work : List ℕ} → length work ≡ work_cells (length s) → Listed s work 0
listed_start long = record { room = long; cell = λ i h b. absurd (omega arith) }

module _ {s : List ℕ} (t : Tree s) where
  -- ---- the list

  -- the node of the next turn
  pub listed-step : {work : List ℕ} {v : ℕ} → Listed s work v → v < length s → {q : ℕ} → q ≡ preorder_number s v - 1 → Listed s (set work q v) (v + 1)
  listed-step {work} {v} l h {q} e =
      let pos = preorder-pos s v in
      let most = preorder-most t v h in
      filling-store l (preorder_number s v - 1) (omega arith) (omega arith) (sym (preorder-at t v h))
      (λ i b k.
      by_equal (get_or (preorder s) i 0) v
      (λ g. let number : preorder_number s v ≡ suc i = ap (preorder_number s) (sym g) ∙ preorder_number-at t i b in inl (omega arith))
      (λ g. inr (omega arith)))

  -- after the last
  pub listed-end : {work : List ℕ} → Listed s work (length s) → Same work 0 (preorder s) 0 (length s)
  listed-end l = record { cell = λ i h. rw zero-add (rw zero-add at (l.cell i h (preorder-part t i h))) }

  -- ---- a column

  -- node i of the list
  pub along-at : {work : List ℕ} (i : ℕ) → Same work 0 (preorder s) 0 (length s) → i < length s → At s (get_or work i 0) i
  along-at {work} i o h =
      let here : get_or work i 0 ≡ get_or (preorder s) i 0 = rw zero-add at (o.cell i h) in
      record { node = rw here (preorder-part t i h); number = ap (preorder_number s) here ∙ preorder_number-at t i h }

  pub turn : {work : List ℕ} {i : ℕ} → Same work 0 (preorder s) 0 (length s) → Turn s work i
  unfolding parent
  turn {work} {i} o = record { node = λ h. (along-at i o h).node; up = λ h. t.inside _ (along-at i o h).node }

  -- .. which is the root first
  pub along-root : {work : List ℕ} → Same work 0 (preorder s) 0 (length s) → get_or work 0 0 ≡ t.root
  along-root {work} o =
      let first : At s (get_or work 0 0) 0 = along-at 0 o (omega (arith, t.root-inside)) in
      preorder-injective t (get_or work 0 0) t.root first.node t.root-inside (first.number ∙ sym (preorder-root t))

  -- .. and then a node whose parent is made
  pub along-below : {work : List ℕ} {f : ℕ → ℕ} {i : ℕ} → Along s work f i → 0 < i → i < length s → Below s work f (get_or work i 0)
  unfolding parent
  along-below {work} {f} {i} a some h =
      let v = get_or work i 0 in
      let here : At s v i = along-at i a.order h in
      let child : parent s v ≢ v = λ e.
      let first : preorder_number s v ≡ 1 = ap (preorder_number s) (t.root-only v here.node e) ∙ preorder-root t in
      absurd (omega arith) in
      let before = preorder-parent t v here.node child in
      let up = t.inside v here.node in
      record { node = here.node; up = up; child = child; above = a.made.cell (parent s v) up (omega arith) }

  -- no node is made
  pub along-start : {work : List ℕ} (f : ℕ → ℕ) → length work ≡ work_cells (length s) → Same work 0 (preorder s) 0 (length s) → Along s work f 0
  along-start f long o = record {
    order = o;
    made = record { room = long; cell = λ x h b. let pos = preorder-pos s x in absurd (omega arith) };
  }

  -- node i is made
  pub along-step : {work : List ℕ} {f : ℕ → ℕ} {i : ℕ} → Along s work f i → i < length s → {y : ℕ} → y ≡ f (get_or work i 0)
      → Along s (set work (length s + get_or work i 0) y) f (i + 1)
  along-step {work} {f} {i} a h {y} e =
      let v = get_or work i 0 in
      let here : At s v i = along-at i a.order h in
      record {
        order = record { cell = λ x b. get_or-set_other work (length s + v) (0 + x) y 0 (λ g. absurd (omega arith)) ∙ a.order.cell x b };
        made = filling-store a.made v refl (omega arith) e (at_next t here);
      }

  -- all nodes are made
  pub along-end : {work : List ℕ} {f : ℕ → ℕ} → Along s work f (length s) → (v : ℕ) → v < length s → get_or work (length s + v) 0 ≡ f v
  along-end a v h = a.made.cell v h (preorder-most t v h)
