-- What is read of a sheet's own tour table: first positions, the nodes that are visited, and the positions that two blocks show.
-- Assumes nothing.
use Prim.Native.Nat.{ℕ, ◌+◌, ◌-◌, ◌*◌, ◌^◌, ◌≤◌, ◌<◌, suc-le-suc}
use native.Mathlib.Omega.{arith}
use mathlib.Core.Path.{◌≡◌, ap, ap₂, ◌∙◌}
use mathlib.Core.List.{List}
use lib.Arith.{digits_lt}
use lib.ListN.{length, get_or}
use lib.Pow.{pow_pos}
use Rattle.bits.specs.Bits.{log2}
use Rattle.tree.specs.Tree.{Tree}
use Rattle.tree.specs.Buffers.{visits}
use Rattle.tree.specs.Tables.{own}
use Rattle.tree.specs.Nodes.{Small}
use Rattle.tree.specs.Preorder.{tour as tour_of, first_visit}
use Rattle.tree.specs.Tour.{sparse, tour_table}
use Rattle.tree.specs.Routes.{nearer, first_at, block_log, last_block, by_blocks}
use Rattle.tree.proofs.Tours.{visit-part, first-inside}
use Rattle.tree.proofs.Sparse.{sparse-to}
use Rattle.tree.proofs.OwnCells.{visit-at, first-at, sparse_at_lem}
use Rattle.tree.proofs.ByTour.{blocks-fit, block-node}
use Rattle.rules.specs.declared.blocks.Covered.{Covered}
use Rattle.rules.specs.Tour.{Covers}
use Rattle.rules.proofs.Cells.{tour_length}

-- ---- first positions

-- R's cell of a node: a position of the tour
pub record First (s tour : List ℕ) (v : ℕ) : Type 0 where
  pub room : visits (length s) + v < length tour
  pub position : get_or tour (visits (length s) + v) 0 < visits (length s)
  pub is : get_or tour (visits (length s) + v) 0 ≡ first_at (own s) v
  pub visit : get_or tour (visits (length s) + v) 0 ≡ first_visit s v

pub first : {s tour : List ℕ} {v : ℕ} → Tree s → tour ≡ tour_table s → v < length s → First s tour v
first {s} {tour} {v} t mine h =
    let is : get_or tour (visits (length s) + v) 0 ≡ first_at (own s) v = ap (λ (l : List ℕ). get_or l (visits (length s) + v) 0) mine in
    let visit = is ∙ first-at t v h in
    record { room = omega (arith, tour_length t mine); position = rw visit (first-inside t v h); is = is; visit = visit }

-- ---- visits

-- E's cell of a position: a node
pub record Visited (s tour : List ℕ) (p : ℕ) : Type 0 where
  pub room : p < length tour
  pub node : get_or tour p 0 < length s
  pub is : get_or tour p 0 ≡ get_or (tour_of s) p 0

pub visited : {s tour : List ℕ} {p : ℕ} → Tree s → tour ≡ tour_table s → p < visits (length s) → Visited s tour p
visited {s} {tour} {p} t mine h =
    let is : get_or tour p 0 ≡ get_or (tour_of s) p 0 = ap (λ (l : List ℕ). get_or l p 0) mine ∙ visit-at t p h in
    record { room = omega (arith, tour_length t mine); node = rw is (visit-part t p h); is = is }

-- ---- blocks

-- where cell i of row k stands, of n nodes
abbrev pub row_cell : ℕ → ℕ → ℕ → ℕ
row_cell n k i = visits n + n + k * visits n + i

-- the cell of the block of 2^k positions from i on: a position of the tour
pub record Block (s tour : List ℕ) (k i : ℕ) : Type 0 where
  pub room : row_cell (length s) k i < length tour
  pub position : get_or tour (row_cell (length s) k i) 0 < visits (length s)
  pub is : get_or tour (row_cell (length s) k i) 0 ≡ sparse s k i

block : {s tour : List ℕ} → Tree s → tour ≡ tour_table s → (k i : ℕ) → k ≤ log2 (visits (length s)) → i + 2 ^ k ≤ visits (length s) → Block s tour k i
block {s} {tour} t mine k i few fit =
    let m = visits (length s) in
    let some = pow_pos k in
    let b : i < m = omega arith in
    let within = digits_lt (suc-le-suc few) b in
    let same : row_cell (length s) k i ≡ m + length s + (k * m + i) = omega arith in
    let is : get_or tour (row_cell (length s) k i) 0 ≡ sparse s k i =
    ap (λ (l : List ℕ). get_or l (row_cell (length s) k i) 0) mine ∙ ap (λ (x : ℕ). get_or (tour_table s) x 0) same ∙ sparse_at_lem t k i few b in
    let to = sparse-to s k i fit in
    record { room = omega (arith, tour_length t mine); position = rw is (omega arith); is = is }

-- the two blocks of the positions i to j, the second from a on
pub record Blocks (s tour : List ℕ) (i j k a : ℕ) : Type 0 where
  pub left : Block s tour k i
  pub right : Block s tour k a
  pub low : 2 ^ k ≤ j + 1
  pub left_is : sparse s k i ≡ sparse s (block_log i j) i
  pub right_is : sparse s k a ≡ sparse s (block_log i j) (last_block i j)

pub blocks : {s tour : List ℕ} {i j k a : ℕ} → Small s → tour ≡ tour_table s → i ≤ j → j < visits (length s) → k ≡ block_log i j → a ≡ j + 1 - 2 ^ k
    → Blocks s tour i j k a
blocks {s} {tour} {i} {j} {k} {a} small mine h end ek ea =
    let t = small.tree in
    let (few, fit, low, fit') = blocks-fit (visits (length s)) i j h end in
    record {
      left = rw ek (block t mine _ i few fit);
      right = rw (ea, ek) (block t mine _ _ few fit');
      low = rw ek low;
      left_is = rw ek;
      right_is = rw (ea, ek);
    }

-- what they show: two nodes, of which the nearer is the rule's answer
pub record Shown (s tour : List ℕ) (i j : ℕ) (r : Covered) : Type 0 where
  pub left : Visited s tour r.left
  pub right : Visited s tour r.right
  pub answer : by_blocks (own s) i j ≡ nearer (own s) (get_or tour r.left 0) (get_or tour r.right 0)

pub shown : {s tour : List ℕ} {i j : ℕ} {r : Covered} → Small s → tour ≡ tour_table s → i ≤ j → j < visits (length s) → Covers s i j r → Shown s tour i j r
shown {s} {tour} {i} {j} small mine h end g =
    let t = small.tree in
    let (few, fit, low, fit') = blocks-fit (visits (length s)) i j h end in
    let left = visited t mine g.left-inside in
    let right = visited t mine g.right-inside in
    record {
      left = left;
      right = right;
      answer =
          rw (left.is, right.is, g.left, g.right)
          (ap₂ (nearer (own s)) (block-node t (block_log i j) i few fit) (block-node t (block_log i j) (last_block i j) few fit'));
    }
