-- A node and its parent: whose child it is, their cells in a lent label table, the root, and what is told from it down.
-- Assumes nothing.
use Prim.Native.Nat.{ℕ, suc, ◌+◌, ◌*◌, ◌≤◌, ◌<◌, zero-le}
use native.Mathlib.Omega.{arith}
use mathlib.Core.Path.{◌≡◌, refl, sym, ap, ◌∙◌}
use mathlib.Core.Logic.{◌≢◌}
use mathlib.Core.Bool.{false}
use mathlib.Core.List.{List}
use lib.ListN.{length, get_or}
use Rattle.tree.specs.Tree.{Tree, parent, root_of}
use Rattle.tree.specs.Preorder.{is_child}
use Rattle.tree.specs.Buffers.{label_cells}
use Rattle.tree.specs.Tests.{limit}
use Rattle.tree.proofs.Scans.{by_order, by-test}
use Rattle.tree.proofs.Trees.{from-root, root-found}
use Rattle.tree.proofs.PreorderList.{Child, test-child}

-- ---- a child

pub not_itself : {s : List ℕ} {v c : ℕ} → Child s v c → parent s c ≢ c
not_itself k e = k.other (sym e ∙ k.of)

-- a node but the root is its parent's child
pub own-child : {s : List ℕ} {v : ℕ} → parent s v ≢ v → Child s (parent s v) v
own-child q = record { of = refl; other = λ e. q (sym e) }

-- .. and no other's
pub other-child : (s : List ℕ) (p v : ℕ) → p ≢ parent s v → is_child s p v ≡ false
other-child s p v q = by-test (is_child s p v) (λ c. absurd (q (sym (test-child s p v c).of))) (λ c. c)

-- the root is none's
pub root-child : (s : List ℕ) (p r : ℕ) → parent s r ≡ r → is_child s p r ≡ false
root-child s p r e = by-test (is_child s p r) (λ c. absurd (not_itself (test-child s p r c) e)) (λ c. c)

-- ---- its cells

-- node v and its parent are the sheet's, and their cells stand in the table
pub record Cells (s label : List ℕ) (v : ℕ) : Type 0 where
  pub small : length s ≤ 16384
  pub node : v < length s
  pub above : get_or s v 0 < length s
  pub columns : length label ≡ 6 * length s

pub cells_at : {s label : List ℕ} {v : ℕ} → length s ≤ limit → ((v : ℕ) → v < length s → parent s v < length s) → length label ≡ label_cells (length s)
    → v < length s → Cells s label v
unfolding parent
cells_at {v = v} small inside columns h = record { small = small; node = h; above = inside v h; columns = columns }

-- ---- the root

-- it is a node, and no other node names itself
pub record Root (s : List ℕ) (r : ℕ) : Type 0 where
  pub node : r < length s
  pub itself : parent s r ≡ r
  pub only : (v : ℕ) → v < length s → v ≢ r → parent s v ≢ v

module _ {s : List ℕ} {r : ℕ} (t : Tree s) (e : r ≡ root_of s) where
  found : t.root ≡ r
  found = root-found t ∙ sym e

  pub the-root : Root s r
  the-root = record {
    node = rw found at t.root-inside;
    itself = rw found at t.root-itself;
    only = λ v h q own. q (t.root-only v h own ∙ found);
  }

  -- what holds below the root and above it holds of every node but the root
  but-root : (P : ℕ → Type 0) → ((v : ℕ) → 0 ≤ v → v < r → P v) → ((v : ℕ) → r + 1 ≤ v → v < length s → P v) → (v : ℕ) → v < length s → parent s v ≢ v → P v
  but-root P low high v h q =
      by_order (suc r) v (λ b. high v (omega arith) h)
      (λ b. by_order r v (λ c. let w : v ≡ r = omega arith in absurd (q (ap (parent s) w ∙ the-root.itself ∙ sym w))) (λ c. low v zero-le c))

  -- cells that are right at the root, and grow by as much as they should from each parent to its child, are right at every node
  pub root-down : (cell own more : ℕ → ℕ) → cell r ≡ own t.root → ((v : ℕ) → 0 ≤ v → v < r → cell v ≡ cell (parent s v) + more v)
      → ((v : ℕ) → r + 1 ≤ v → v < length s → cell v ≡ cell (parent s v) + more v)
      → ((v : ℕ) → v < length s → parent s v ≢ v → own v ≡ own (parent s v) + more v) → (v : ℕ) → v < length s → cell v ≡ own v
  root-down cell own more first low high grows =
      from-root t (λ v. cell v ≡ own v) (ap cell found ∙ first)
      (λ v h q above. but-root (λ v. cell v ≡ cell (parent s v) + more v) low high v h q ∙ ap (λ (x : ℕ). x + more v) above ∙ sym (grows v h q))
