-- Row 0 of the tour table, with the levels at the tour's positions.
-- Assumes nothing.
use Prim.Native.Nat.{ℕ, zero, suc, ◌+◌, ◌*◌, ◌^◌, ◌≤◌, ◌<◌}
use native.Mathlib.Nat.{zero-add, pow-suc}
use native.Mathlib.Omega.{arith}
use mathlib.Core.Path.{◌≡◌, sym, ap, ◌∙◌}
use mathlib.Core.List.{List}
use lib.ListN.{length, get_or, set, length-set}
use lib.Pow.{pow_pos}
use lib.Seq.{get_or-set_other}
use Rattle.bits.specs.Bits.{log2}
use Rattle.tree.specs.Tree.{Tree, level}
use Rattle.tree.specs.Buffers.{visits, tour_cells}
use Rattle.tree.specs.Preorder.{tour}
use Rattle.tree.specs.Tour.{sparse, tour_table}
use Rattle.tree.specs.Sections.{Same}
use Rattle.tree.specs.Ready.{Columns}
use Rattle.tree.proofs.Differences.{same_none, same_store, store-either}
use Rattle.tree.proofs.Cells.{tour-cell, sparse-cell}
use Rattle.tree.proofs.Columns.{column-read}
use Rattle.tree.proofs.Sparse.{sparse-zero}
use Rattle.tree.proofs.Tours.{tour-length, visit-part}
use Rattle.rows.specs.Rows.{RowLevels}
use Rattle.rows.proofs.Stores.{rows_fit}

-- what is read at position i: a node, and its LEVEL
pub record Stop (s label table : List ℕ) (i : ℕ) : Type 0 where
  pub room : visits (length s) ≤ length table
  pub node : get_or table i 0 < length s
  pub height : get_or label (2 * length s + get_or table i 0) 0 ≡ level s (get_or (tour s) i 0)

pub stop : {s label work table : List ℕ} → Columns s label work 6 → length table ≡ tour_cells (length s)
    → Same table 0 (tour_table s) 0 (visits (length s)) → (i : ℕ) → i < visits (length s) → Stop s label table i
stop {s} {label} {work} {table} cs cells own i h =
    let t = cs.ready.tree in
    let m = visits (length s) in
    let here : get_or table i 0 ≡ get_or (tour s) i 0 = (simp zero-add at (own.cell i h)) ∙ tour-cell s i (tour-length t) h in
    let part : get_or (tour s) i 0 < length s = visit-part t i h in
    record {
      room = omega (arith, rows_fit 1 (log2 m + 2) m (omega arith));
      node = rw here part;
      height = rw here (column-read cs 2 (get_or (tour s) i 0) (2 * length s + get_or (tour s) i 0) (omega arith) (omega arith) part (omega arith));
    }

-- row 0 and the levels, one position further
pub record FirstRow (s w : List ℕ) (i : ℕ) : Type 0 where
  pub heights : (p : ℕ) → p < i → get_or w (2 * length s + p) 0 ≡ level s (get_or (tour s) p 0)
  pub own : Same w 0 (tour_table s) (visits (length s) + length s) i

pub first-row-none : (s w : List ℕ) → FirstRow s w 0
first-row-none s w = record { heights = λ p h. absurd (omega arith); own = same_none _ _ _ _ }

pub first-row-more : {s w : List ℕ} {i y : ℕ} → Tree s → i < visits (length s) → 4 * length s ≤ length w → y ≡ level s (get_or (tour s) i 0)
    → FirstRow s w i → FirstRow s (set (set w i i) (2 * length s + i) y) (i + 1)
first-row-more {s} {w} {i} {y} t h room e r =
    let m = visits (length s) in
    let n = length s in
    let zero_row : get_or (tour_table s) (m + n + i) 0 ≡ i =
    ap (λ (x : ℕ). get_or (tour_table s) x 0) (omega arith) ∙ sparse-cell s 0 i (tour-length t) (omega arith) h ∙ sparse-zero s i h in
    let next : Same (set w i i) 0 (tour_table s) (m + n) (i + 1) = same_store (omega arith) r.own (sym zero_row) in
    record {
      heights = λ p b.
          store-either (set w i i) (2 * n + i) y (2 * n + p) (level s (get_or (tour s) p 0)) (simp length-set (omega arith))
          (λ q. let same : p ≡ i = omega arith in rw same e)
          (λ q. get_or-set_other w i (2 * n + p) i 0 (λ e. absurd (omega arith)) ∙ r.heights p (omega arith));
      own = record { cell = λ x b. get_or-set_other (set w i i) (2 * n + i) (0 + x) y 0 (λ q. absurd (omega arith)) ∙ next.cell x b };
    }

-- at its end
pub first-levels : {s w : List ℕ} → FirstRow s w (visits (length s)) → RowLevels s w (2 * length s) 1
first-levels {s} {w} r = record { at_block = one }
  where
    one : (j i : ℕ) → 2 ^ j ≡ 1 → i + 1 ≤ visits (length s) → get_or w (2 * length s + i) 0 ≡ level s (get_or (tour s) (sparse s j i) 0)
    one zero i e h = r.heights i (omega arith) ∙ ap (λ (p : ℕ). level s (get_or (tour s) p 0)) (sym (sparse-zero s i (omega arith)))
    one (suc j) i e h = let pos = pow_pos j in absurd (omega (arith, pow-suc 2 j))
