-- What the steps from each node to its parent tell: a lent LEVEL or ASCENDANT that follows them is the sheet's own.
-- Assumes nothing.
use Prim.Native.Nat.{ℕ, zero, suc, ◌+◌, ◌*◌, ◌≤◌, ◌<◌, zero-le}
use native.Mathlib.Nat.{suc-mul, mul-le-mul_right}
use native.Mathlib.Numerals.{add-one}
use native.Mathlib.Omega.{arith}
use mathlib.Core.Path.{◌≡◌, refl, sym, ap, ◌∙◌}
use mathlib.Core.Logic.{◌≢◌}
use mathlib.Core.List.{List}
use lib.Bits.{bit_or, bit_xor}
use lib.Dec.{lit<}
use lib.ListN.{length, get_or}
use Rattle.cells.proofs.Stretches.{no_bits}
use Rattle.tree.specs.Tree.{parent, root_of}
use Rattle.tree.specs.Buffers.{label_cells}
use Rattle.tree.specs.Labels.{label_column}
use Rattle.tree.specs.Ready.{Columns, ColumnOwn}
use Rattle.tree.proofs.Scans.{by_equal}
use Rattle.tree.proofs.Trees.{root-found}
use Rattle.tree.proofs.Columns.{column-same}
use Rattle.labels.specs.declared.Column.{Column}
use Rattle.labels.specs.declared.Column.TheVariants.{Level, Inlabel, Ascendant, Head}
use Rattle.labels.specs.Columns.{in_order, place_of}
use Rattle.labels.specs.Steps.{cell_in, Follows, Steps, StepAt, StepLaws}
use Rattle.preorder.proofs.Parents.{Cells, cells_at, the-root, root-down}

-- ---- one node further

pub follows-none : (s label : List ℕ) (k : ℕ) (more : ℕ → ℕ) (first : ℕ) → Follows s label k more first first
follows-none s label k more first = record { step = λ v a b. absurd (omega arith) }

pub follows-more : {s label : List ℕ} {k : ℕ} {more : ℕ → ℕ} {first v : ℕ} → Follows s label k more first v
    → cell_in s label k v ≡ cell_in s label k (parent s v) + more v → Follows s label k more first (suc v)
follows-more {s} {label} {k} {more} {first} {v} f e = record { step = λ u a b. by_equal u v (λ q. rw q e) (λ q. f.step u a (omega arith)) }

-- .. where no bit is gathered
pub follows-step : {s label : List ℕ} {k : ℕ} {more : ℕ → ℕ} {first bits v m : ℕ} → (bits ≡ 0 → Follows s label k more first v) → m ≡ more v
    → bit_or bits (bit_xor (cell_in s label k v) (cell_in s label k (get_or s v 0) + m)) ≡ 0 → Follows s label k more first (v + 1)
unfolding parent
follows-step {s} {label} {k} {bits = bits} {v = v} f e z =
    let none = no_bits bits _ _ z in
    rw add-one (follows-more (f none.0) (none.1 ∙ ap (λ (x : ℕ). cell_in s label k (parent s v) + x) e))

-- the cells of the node that is looked at
pub step-at : {s label : List ℕ} {first end v : ℕ} → Steps s label first end → v < end → StepAt s label v
unfolding parent
step-at {v = v} st h =
    let most = st.most in
    record { small = st.small; cells = st.cells; node = omega arith; above = st.inside v (omega arith) }

-- ---- all of them

module _ {s label work : List ℕ} {k r : ℕ} (p : Columns s label work k × (r ≡ root_of s)) where
  -- the root's own cells
  pub root-cells : Cells s label r
  root-cells = let ready = p.0.ready in cells_at ready.small ready.tree.inside p.0.cells (the-root ready.tree p.1).node

  steps : {first end : ℕ} → first ≤ end → end ≤ length s → Steps s label first end
  steps a b = record { small = p.0.ready.small; inside = p.0.ready.tree.inside; cells = p.0.cells; ordered = a; most = b }

  -- the nodes below the root, and those above it
  pub steps_low : Steps s label 0 r
  steps_low = steps zero-le (omega (arith, root-cells.node))

  pub steps_high : Steps s label (r + 1) (length s)
  steps_high = steps (omega (arith, root-cells.node)) (omega arith)

  -- a column that is right at the root, and adds on both sides of it what its own values add, is the sheet's own
  pub follows-own : k < 6 → (more : ℕ → ℕ) → cell_in s label k r ≡ label_column s k p.0.ready.tree.root
      → Follows s label k more 0 r → Follows s label k more (r + 1) (length s)
      → ((v : ℕ) → v < length s → parent s v ≢ v → label_column s k v ≡ label_column s k (parent s v) + more v) → ColumnOwn s label k
  follows-own h more first low high grows =
      column-same s label (k * length s) k h
      (root-down p.0.ready.tree p.1 (cell_in s label k) (label_column s k) more first low.step high.step grows)

-- .. as a column does that keeps the laws
pub steps-own : {s label work : List ℕ} {k r : ℕ} {top : ℕ → ℕ} {more : List ℕ → List ℕ → ℕ → ℕ}
    → StepLaws k top more → (p : Columns s label work k × (r ≡ root_of s))
    → cell_in s label k r ≡ top (length s) → Follows s label k (more s label) 0 r → Follows s label k (more s label) (r + 1) (length s) → ColumnOwn s label k
steps-own {s} {label} {k = k} {more = more} laws p first low high =
    let t = p.0.ready.tree in
    follows-own p laws.column (more s label) (first ∙ laws.root p.0 ∙ ap (label_column s k) (sym (root-found t))) low high (laws.rises p.0)

-- ---- any column

-- its place
pub place-below : (c : Column) → place_of c < 6
place-below Level = lit< tt
place-below Inlabel = lit< tt
place-below Ascendant = lit< tt
place-below Head = lit< tt

-- that of each in order
pub place-at : (i : ℕ) → i < 4 → place_of (get_or in_order i Level) ≡ 2 + i
place-at zero h = refl
place-at (suc zero) h = refl
place-at (suc (suc zero)) h = refl
place-at (suc (suc (suc zero))) h = refl
place-at (suc (suc (suc (suc i)))) h = absurd (omega arith)

-- there is room for it
pub column-room : (k n : ℕ) → k < 6 → k * n + n ≤ label_cells n
column-room k n h = rw (← suc-mul) (mul-le-mul_right n h)
