-- The numbers of nodes in preorder: which node has the next one, where a node's interval ends, and when PREORDER and SIZE together are the first two columns of
-- the label table.
-- Assumes nothing.
use Prim.Native.Nat.{ℕ, suc, ◌+◌, ◌*◌, ◌≤◌, ◌<◌}
use native.Mathlib.Nat.{zero-add, zero-mul, one-mul}
use native.Mathlib.Omega.{arith}
use mathlib.Core.Path.{◌≡◌, sym, ◌∙◌}
use mathlib.Core.Logic.{◌⊎◌, inl, inr}
use mathlib.Core.List.{List}
use lib.Dec.{lit<}
use lib.ListN.{length, get_or}
use Rattle.tree.specs.Tree.{Tree}
use Rattle.tree.specs.Preorder.{preorder_number, size}
use Rattle.tree.specs.Labels.{label_table}
use Rattle.tree.specs.Sections.{Same}
use Rattle.tree.proofs.Scans.{by_equal}
use Rattle.tree.proofs.Differences.{same-join}
use Rattle.tree.proofs.Columns.{column-same}
use Rattle.tree.proofs.Sizes.{size-root, preorder-root, preorder-injective}
use Rattle.tree.proofs.Intervals.{carried-to}

-- v is node i of the preorder
pub record At (s : List ℕ) (v i : ℕ) : Type 0 where
  pub node : v < length s
  pub number : preorder_number s v ≡ suc i

-- with it come those numbered up to i + 1
pub at_next : {s : List ℕ} (t : Tree s) {v i : ℕ} → At s v i → (x : ℕ) → x < length s → preorder_number s x ≤ i + 1 → (x ≡ v) ⊎ (preorder_number s x ≤ i)
at_next {s} t {v} {i} at x h b =
    by_equal (preorder_number s x) (suc i) (λ g. inl (preorder-injective t x v h at.node (g ∙ sym at.number))) (λ g. inr (omega arith))

-- the numbers of what v carries end with n
pub interval-ends : {s : List ℕ} (t : Tree s) {v : ℕ} → v < length s → preorder_number s v + size s v ≤ suc (length s)
interval-ends t {v} h =
    let end = carried-to t h (t.reach v h) in
    let first = preorder-root t in
    let all = size-root t in
    omega arith

-- n cells with PREORDER and n with SIZE after them are the first two columns
pub two-columns : (s w : List ℕ) (at next : ℕ) → next ≡ at + length s → ((v : ℕ) → v < length s → get_or w (at + v) 0 ≡ preorder_number s v)
    → ((v : ℕ) → v < length s → get_or w (next + v) 0 ≡ size s v) → Same w at (label_table s) 0 (2 * length s)
two-columns s w at next e number long =
    let first : Same w at (label_table s) 0 (length s) = rw zero-mul at (column-same s w at 0 (lit< tt) number) in
    let second : Same w (at + length s) (label_table s) (0 + length s) (length s) = rw (← e, zero-add) (rw one-mul at (column-same s w next 1 (lit< tt) long)) in
    let twice : length s + length s ≡ 2 * length s = omega arith in
    rw twice at (same-join first second)
