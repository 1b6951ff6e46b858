-- A sparse row from the one before it: of two blocks side by side, the position of lesser level.
-- Assumes nothing.
use Prim.Native.Nat.{ℕ, suc, ◌+◌, ◌-◌, ◌*◌, ◌^◌, ◌≤◌, ◌<◌}
use native.Mathlib.Nat.{zero-add, suc-mul, add-mul, pow-suc}
use native.Mathlib.Omega.{arith}
use mathlib.Core.Path.{◌≡◌, sym, ap, ◌∙◌}
use mathlib.Core.List.{List}
use lib.ListN.{length, get_or}
use Rattle.bits.specs.Bits.{log2}
use Rattle.tree.specs.Buffers.{no_cell, visits}
use Rattle.tree.specs.Tour.{sparse, tour_table}
use Rattle.tree.specs.Sections.{Same}
use Rattle.tree.proofs.Scans.{by_order}
use Rattle.tree.proofs.Cells.{sparse-cell}
use Rattle.tree.proofs.Sparse.{sparse-suc, sparse-end}
use Rattle.tree.proofs.Tours.{tour-length}
use Rattle.cells.specs.Cells.{Filled, Agree}
use Rattle.rows.specs.Rows.{SparseRow, TwoBlocks}
use Rattle.rows.proofs.Heights.{inside}
use Rattle.rows.proofs.Stores.{rows_fit}

module _ {s table before : List ℕ} {at half from : ℕ} (r : SparseRow s table at half from before) where
  double : 2 ^ suc r.row ≡ 2 * half
  double = omega (arith, r.blocks, pow-suc 2 r.row)

  -- the table has room for the next row
  pub next-room : at + visits (length s) + visits (length s) ≤ length table
  next-room =
      let m = visits (length s) in
      let k = r.row in
      omega (arith, r.begins, r.cells, add-mul k 3 m, rows_fit (k + 3) (log2 m + 2) m (omega (arith, r.more)))

  -- a cell of the row, in a table that is the sheet's own up to its end
  row_cell_lem : {now : List ℕ} → Same now 0 (tour_table s) 0 (at + visits (length s)) → (x : ℕ) → x < visits (length s) → get_or now (at + x) 0 ≡ sparse s r.row x
  row_cell_lem {now} own x b =
      (simp zero-add at (own.cell (at + x) (omega arith)))
      ∙ ap (λ (y : ℕ). get_or (tour_table s) (y + x) 0) r.begins
      ∙ sparse-cell s r.row x (tour-length r.level-row.ready.tree) (omega (arith, r.more)) b

  -- a cell of the next row
  next-cell : (x : ℕ) → x < visits (length s) → get_or (tour_table s) (at + visits (length s) + x) 0 ≡ sparse s (suc r.row) x
  next-cell x b =
      let m = visits (length s) in
      let next : at + m ≡ m + length s + suc r.row * m = omega (arith, r.begins, suc-mul r.row m) in
      rw next (sparse-cell s (suc r.row) x (tour-length r.level-row.ready.tree) r.more b)

  -- of two blocks side by side, in a table that is as long and the sheet's own up to the end of the row
  pub two_blocks : {now : List ℕ} → length now ≡ length table → Same now 0 (tour_table s) 0 (at + visits (length s)) → (i : ℕ) → i + 2 * half ≤ visits (length s)
      → TwoBlocks s now before at half from i
  two_blocks {now} long own i h =
      let k = r.row in
      let w = r.level-row in
      let some = w.some in
      let power : 2 ^ k ≡ half = sym r.blocks in
      let room = next-room in
      let here = inside {n = length s} {k = i + half} w.side (omega arith) in
      let work-room = w.ready.room in
      let left : get_or now (at + i) 0 ≡ sparse s k i = row_cell_lem own i (omega arith) in
      let right : get_or now (at + i + half) 0 ≡ sparse s k (i + half) = ap (λ (x : ℕ). get_or now x 0) (omega arith) ∙ row_cell_lem own (i + half) (omega arith) in
      let next : from + i + half ≡ from + (i + half) = omega arith in
      let height-left = w.levels.at_block k i power (omega arith) in
      let height-right = ap (λ (x : ℕ). get_or before x 0) next ∙ w.levels.at_block k (i + half) power (omega arith) in
      record {
        right = omega arith;
        right-level = omega arith;
        lesser = rw (left, right, height-left, height-right, next-cell i (omega arith)) (sym (rw power at (sparse-suc s k i (omega (arith, double)))));
      }

  -- the cells whose blocks pass the end
  pub past_end : (x : ℕ) → x < visits (length s) → visits (length s) < x + 2 * half → get_or (tour_table s) (at + visits (length s) + x) 0 ≡ no_cell
  past_end x b h = next-cell x b ∙ sparse-end s (suc r.row) x (omega (arith, double))

  -- once they are filled, the table is the sheet's own up to the end of the next row
  pub row-filled : {now after : List ℕ} → Same now 0 (tour_table s) 0 (at + visits (length s) + (2 * length s - 2 * half))
      → Filled now (at + visits (length s) + (2 * length s - 2 * half)) (2 * half - 1) no_cell after
      → Same after 0 (tour_table s) 0 (at + visits (length s) + visits (length s))
  row-filled {now} {after} own f =
      let m = visits (length s) in
      let end = 2 * length s - 2 * half in
      let two = r.level-row.two in
      let some = r.level-row.some in
      record {
        cell = λ x h.
            by_order (at + m + end) x
            (λ g.
            let here : x ≡ at + m + (x - (at + m)) = omega arith in
            rw zero-add (f.here x g (omega arith) ∙ sym (ap (λ (y : ℕ). get_or (tour_table s) y 0) here ∙ past_end (x - (at + m)) (omega arith) (omega arith))))
            (λ g. f.below (0 + x) (omega arith) ∙ own.cell x g);
      }

  -- compared with the sheet's own: the first cell that is not, before those cells
  pub agree-before : {now : List ℕ} {q : ℕ} → q < 2 * length s - 2 * half
      → Agree now (at + visits (length s)) (tour_table s) (at + visits (length s)) (2 * length s - 2 * half) q
      → Agree now (at + visits (length s)) (tour_table s) (at + visits (length s)) (visits (length s)) q
  agree-before h g = let some = r.level-row.some in record { most = omega arith; same = g.same; parts = λ _. g.parts h }

  -- .. or among them, which are compared with cells of work that are filled
  pub agree_after : {now work after : List ℕ} {q k to : ℕ}
      → Agree now (at + visits (length s)) (tour_table s) (at + visits (length s)) (2 * length s - 2 * half) q → 2 * length s - 2 * half ≤ q
      → Filled work to (2 * half - 1) no_cell after → Agree now (at + visits (length s) + (2 * length s - 2 * half)) after to (2 * half - 1) k
      → Agree now (at + visits (length s)) (tour_table s) (at + visits (length s)) (visits (length s)) (2 * length s - 2 * half + k)
  agree_after {now} {work} {after} {q} {k} {to} g h f e =
      let m = visits (length s) in
      let end = 2 * length s - 2 * half in
      let two = r.level-row.two in
      let some = r.level-row.some in
      let most = e.most in
      let past : (x : ℕ) → x < 2 * half - 1 → get_or after (to + x) 0 ≡ get_or (tour_table s) (at + m + (end + x)) 0 = λ x b.
      f.here (to + x) (omega arith) (omega arith) ∙ sym (past_end (end + x) (omega arith) (omega arith)) in
      record {
        most = omega arith;
        same = record {
          cell = λ x b.
              by_order end x
              (λ o.
              let there : at + m + x ≡ at + m + end + (x - end) = omega arith in
              let here : end + (x - end) ≡ x = omega arith in
              ap (λ (y : ℕ). get_or now y 0) there ∙ e.same.cell (x - end) (omega arith) ∙ (rw here at (past (x - end) (omega arith))))
              (λ o. g.same.cell x (omega arith));
        };
        parts = λ b p.
            let there : at + m + end + k ≡ at + m + (end + k) = omega arith in
            e.parts (omega arith) (ap (λ (y : ℕ). get_or now y 0) there ∙ p ∙ sym (past k (omega arith)));
      }
