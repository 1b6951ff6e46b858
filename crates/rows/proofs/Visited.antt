-- The tour and the first positions from the label table: what is read there of a node, and which cells of the tour stand once the nodes
-- below v have been visited. Assumes nothing.
use Prim.Native.Nat.{ℕ, ◌+◌, ◌-◌, ◌*◌, ◌≤◌, ◌<◌}
use native.Mathlib.Nat.{zero-add}
use native.Mathlib.Omega.{arith}
use mathlib.Core.Path.{◌≡◌, sym, ap, ◌∙◌}
use mathlib.Core.Logic.{◌⊎◌, inl, inr, ⊎_elim}
use mathlib.Core.List.{List}
use lib.ListN.{length, get_or, set, length-set}
use Rattle.tree.specs.Tree.{Tree, parent, level}
use Rattle.tree.specs.Buffers.{visits}
use Rattle.tree.specs.Preorder.{preorder_number, size, tour, first_visit}
use Rattle.tree.specs.Tour.{tour_table}
use Rattle.tree.specs.Sections.{Same}
use Rattle.tree.specs.Ready.{Columns}
use Rattle.tree.proofs.Scans.{by_equal}
use Rattle.tree.proofs.Sizes.{preorder-pos, size-sum, size-root}
use Rattle.tree.proofs.Cells.{tour-cell}
use Rattle.tree.proofs.Columns.{column-read}
use Rattle.tree.proofs.Tours.{Visit, first, after, tour-length, first_visit_lem, visit-first, visit-after, visits-end, visit-cover}
use Rattle.tree.proofs.Differences.{store-either}

-- ---- a node's columns

-- the node's PREORDER, LEVEL and SIZE, as `first_visit` and `visits` take them
pub record Node (s label : List ℕ) (v : ℕ) : Type 0 where
  pub number : 0 < get_or label v 0
  pub rest : get_or label (2 * length s + v) 0 ≤ 2 * (get_or label v 0 - 1)
  pub is : 2 * (get_or label v 0 - 1) - get_or label (2 * length s + v) 0 ≡ first_visit s v
  pub carries : get_or label (length s + v) 0 ≡ size s v
  pub some : 0 < size s v
  pub ends : first_visit s v + 2 * size s v ≤ 2 * length s

pub node-read : {s label work : List ℕ} → Columns s label work 6 → (v : ℕ) → v < length s → Node s label v
node-read {s} {label} {work} cs v h =
    let t = cs.ready.tree in
    let p : get_or label v 0 ≡ preorder_number s v = column-read cs 0 v v (omega arith) (omega arith) h (omega arith) in
    let l : get_or label (2 * length s + v) 0 ≡ level s v = column-read cs 2 v (2 * length s + v) (omega arith) (omega arith) h (omega arith) in
    let e = first_visit_lem t v h in
    record {
      number = rw p (preorder-pos s v);
      rest = rw (p, l) (omega arith);
      is = rw (p, l) (omega arith);
      carries = column-read cs 1 v (length s + v) (omega arith) (omega arith) h (omega arith);
      some = let z = size-sum t v h in omega arith;
      ends = visits-end t v h;
    }

-- ---- the cells that stand

-- the cell after the visits of x and of all that it carries
abbrev pub last_visit : List ℕ → ℕ → ℕ
last_visit s x = first_visit s x + 2 * size s x - 1

-- the tour's cells to which the nodes below v were stored, or their parents
pub record Visited (s w : List ℕ) (v : ℕ) : Type 0 where
  pub cell : (x i : ℕ) → x < v → i < visits (length s) → (i ≡ first_visit s x) ⊎ (i ≡ last_visit s x) → get_or w i 0 ≡ get_or (tour s) i 0

pub visited-none : (s w : List ℕ) → Visited s w 0
visited-none s w = record { cell = λ x i h. absurd (omega arith) }

module _ {s : List ℕ} (t : Tree s) where
  -- what is stored after a node's visits is the tour's; after the root's the tour has ended
  parent-stored : (v i : ℕ) → v < length s → i < visits (length s) → i ≡ last_visit s v → parent s v ≡ get_or (tour s) i 0
  parent-stored v i h b e =
      by_equal (parent s v) v
      (λ q.
      let root : size s v ≡ length s = ap (size s) (t.root-only v h q) ∙ size-root t in
      absurd (omega arith))
      (λ q. sym (ap (λ (j : ℕ). get_or (tour s) j 0) e ∙ visit-after t v h q))

  pub visited-more : {w label : List ℕ} {v p q y : ℕ} → Node s label v → v < length s → 2 * length s ≤ length w
      → p ≡ first_visit s v → q ≡ last_visit s v → y ≡ parent s v → Visited s w v → Visited s (set (set w p v) q y) (v + 1)
  visited-more {w} {label} {v} {p} {q} {y} node h room ep eq ey r = record {
    cell = λ x i b l e.
        store-either (set w p v) q y i (get_or (tour s) i 0) (simp length-set (omega arith)) (λ g. ey ∙ parent-stored v i h l (g ∙ eq))
        (λ nq.
        store-either w p v i (get_or (tour s) i 0) (omega arith) (λ g. sym (ap (λ (j : ℕ). get_or (tour s) j 0) (g ∙ ep) ∙ visit-first t v h))
        (λ np.
        by_equal x v
        (λ z. absurd (⊎_elim (λ g. np (g ∙ ap (first_visit s) z ∙ sym ep)) (λ g. nq (g ∙ ap (last_visit s) z ∙ sym eq)) e))
        (λ z. r.cell x i (omega arith) l e)));
  }

  -- every cell of the tour is one of these
  stands : {w : List ℕ} {i : ℕ} → Visited s w (length s) → i < visits (length s) → Visit s i → get_or w i 0 ≡ get_or (tour s) i 0
  stands r b (first v h e) = r.cell v _ h b (inl e)
  stands r b (after v h q e) = r.cell v _ h b (inr e)

  pub visited-all : {w : List ℕ} → Visited s w (length s) → Same w 0 (tour_table s) 0 (visits (length s))
  visited-all r = record { cell = λ x b. rw zero-add (stands r b (visit-cover t x b) ∙ sym (tour-cell s x (tour-length t) b)) }
