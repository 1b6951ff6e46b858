-- The levels at the positions of the sparse rows, in the halves of work by turns: those of a row from those of the row before it.
-- Assumes nothing.
use Prim.Native.Nat.{ℕ, zero, suc, ◌+◌, ◌-◌, ◌*◌, ◌^◌, min, ◌≤◌, ◌<◌}
use native.Mathlib.Nat.{pow-suc}
use native.Mathlib.Omega.{arith}
use mathlib.Core.Path.{◌≡◌, refl, sym, ap, ◌∙◌}
use mathlib.Core.Logic.{◌≢◌, ⊎_elim}
use mathlib.Core.Bool.{Bool, true, false, cond}
use mathlib.Core.List.{List}
use borrow.Author.Tests.{ltb-true, ltb-false}
use lib.Dec.{ltb}
use lib.ListN.{length, get_or, set}
use lib.Seq.{get_or-set_other}
use Rattle.tree.specs.Tree.{level}
use Rattle.tree.specs.Buffers.{visits, work_cells}
use Rattle.tree.specs.Preorder.{tour}
use Rattle.tree.specs.Tour.{sparse}
use Rattle.tree.proofs.Scans.{by-test}
use Rattle.tree.proofs.Differences.{store-either}
use Rattle.tree.proofs.Sparse.{sparse-suc}
use Rattle.cells.specs.Cells.{Filled}
use Rattle.rows.specs.Rows.{Half, RowLevels, LevelRow}

-- the cells of both halves are work's
pub record Inside (n from k : ℕ) : Type 0 where
  pub here : from + k < 4 * n
  pub other : 2 * n - from + k < 4 * n
  pub begins : from ≤ 2 * n

pub inside : {n from k : ℕ} → Half n from → k < 2 * n → Inside n from k
inside h b =
    ⊎_elim
    (λ e. record { here = omega arith; other = omega arith; begins = omega arith })
    (λ e. record { here = omega arith; other = omega arith; begins = omega arith })
    h

-- .. and they do not meet
pub apart : (n from x i : ℕ) → Half n from → x < 2 * n → i < 2 * n → from + x ≢ 2 * n - from + i
apart n from x i h a b q = ⊎_elim (λ e. absurd (omega arith)) (λ e. absurd (omega arith)) h

-- the level at a position of the tour
abbrev pub height : List ℕ → ℕ → ℕ
height s p = level s (get_or (tour s) p 0)

height-chosen : (s : List ℕ) (b : Bool) (p q : ℕ) → height s (cond b p q) ≡ cond b (height s p) (height s q)
height-chosen s true p q = refl
height-chosen s false p q = refl

-- the lesser of two
lesser-min : (a b : ℕ) → cond (ltb b a) b a ≡ min a b
lesser-min a b = by-test (ltb b a) (λ e. let h = ltb-true b a e in rw e (omega arith)) (λ e. let h = ltb-false b a e in rw e (omega arith))

-- the levels of two blocks side by side stand in work, and the lesser is that of the block of both
pub record TwoLevels (s work : List ℕ) (half from i : ℕ) : Type 0 where
  pub left : Inside (length s) from i
  pub right : Inside (length s) from (i + half)
  pub both : (j : ℕ) → 2 ^ j ≡ 2 * half → min (get_or work (from + i) 0) (get_or work (from + i + half) 0) ≡ height s (sparse s j i)

pub two-levels : {s work before : List ℕ} {half from : ℕ} → LevelRow s half from before → RowLevels s work from half → (i : ℕ)
    → i + 2 * half ≤ visits (length s) → TwoLevels s work half from i
two-levels {s} {work} {before} {half} {from} r l i h = record {
  left = inside r.side (omega arith);
  right = inside r.side (omega arith);
  both = both;
}
  where
    both : (j : ℕ) → 2 ^ j ≡ 2 * half → min (get_or work (from + i) 0) (get_or work (from + i + half) 0) ≡ height s (sparse s j i)
    both zero e = absurd (omega arith)
    both (suc j) e =
        let power : 2 ^ j ≡ half = omega (arith, pow-suc 2 j) in
        let a : get_or work (from + i) 0 ≡ height s (sparse s j i) = l.at_block j i power (omega arith) in
        let b : get_or work (from + i + half) 0 ≡ height s (sparse s j (i + half)) =
        ap (λ (x : ℕ). get_or work x 0) (omega arith) ∙ l.at_block j (i + half) power (omega arith) in
        let right = sparse s j (i + half) in
        let left = sparse s j i in
        rw (a, b, sparse-suc s j i (omega arith), power)
        (sym (height-chosen s (ltb (height s right) (height s left)) right left ∙ lesser-min (height s left) (height s right)))

-- the levels of the next row's first i cells, beside those of the row
pub record Lowered (s work : List ℕ) (half from i : ℕ) : Type 0 where
  pub old : RowLevels s work from half
  pub new : (j x : ℕ) → 2 ^ j ≡ 2 * half → x < i → get_or work (2 * length s - from + x) 0 ≡ height s (sparse s j x)

pub lowered_none : {s work : List ℕ} {half from : ℕ} → RowLevels s work from half → Lowered s work half from 0
lowered_none l = record { old = l; new = λ j x e h. absurd (omega arith) }

pub lowered-more : {s work before : List ℕ} {half from i y : ℕ} → LevelRow s half from before → length work ≡ work_cells (length s)
    → i + 2 * half ≤ visits (length s) → ((j : ℕ) → 2 ^ j ≡ 2 * half → y ≡ height s (sparse s j i)) → Lowered s work half from i
    → Lowered s (set work (2 * length s - from + i) y) half from (i + 1)
lowered-more {s} {work} {before} {half} {from} {i} {y} r long h is l =
    let n = length s in
    let here = inside {k = i} r.side (omega arith) in
    record {
      old = record {
        at_block = λ j x e b.
            get_or-set_other work (2 * n - from + i) (from + x) y 0 (apart n from x i r.side (omega (arith, r.some)) (omega arith)) ∙ l.old.at_block j x e b;
      };
      new = λ j x e b.
          store-either work (2 * n - from + i) y (2 * n - from + x) (height s (sparse s j x)) (omega arith)
          (λ q. let same : x ≡ i = omega arith in rw same (is j e))
          (λ q. l.new j x e (omega arith));
    }

pub lowered-all : {s work : List ℕ} {half from i : ℕ} → visits (length s) < i + 2 * half → Lowered s work half from i
    → RowLevels s work (2 * length s - from) (2 * half)
lowered-all h l = record { at_block = λ j x e b. l.new j x e (omega arith) }

-- filling cells of the other half leaves the levels
pub levels-filled : {s work after : List ℕ} {half from k x : ℕ} → LevelRow s half from work → k ≤ 2 * length s
    → Filled work (2 * length s - from) k x after → RowLevels s after from half
levels-filled {s} {work} {after} {half} {from} r room f = record {
  at_block = λ j i e h.
      let some = r.some in
      ⊎_elim (λ q. f.below (from + i) (omega arith)) (λ q. f.above (from + i) (omega arith)) r.side ∙ r.levels.at_block j i e h;
}
