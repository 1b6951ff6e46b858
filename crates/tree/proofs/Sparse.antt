-- The sparse rows of the tour table: row 0 is the positions themselves, each later row follows from the one before it, and each cell that
-- is not 65535 is a position of its block, where none has lesser LEVEL, and none before it as little. Assumes nothing.
use Prim.Native.Nat.{ℕ, suc, ◌+◌, ◌-◌, ◌^◌, ◌≤◌, ◌<◌}
use native.Mathlib.Nat.{pow-suc, lt_of_lt_of_le}
use native.Mathlib.Omega.{arith}
use mathlib.Core.Path.{◌≡◌, ap, ◌∙◌}
use mathlib.Core.Bool.{true, false, cond}
use mathlib.Core.List.{List}
use borrow.Author.Tests.{le-leb, lt-leb, ltb-true, ltb-false}
use lib.ListN.{length, get_or}
use lib.Pow.{pow_pos}
use Rattle.tree.specs.Scan.{tabulate_from, numbers_from, best_from, best}
use Rattle.tree.specs.Tree.{level}
use Rattle.tree.specs.Buffers.{no_cell, visits}
use Rattle.tree.specs.Preorder.{tour}
use Rattle.tree.specs.Tour.{lesser_level, sparse}
use Rattle.tree.proofs.Scans.{by-test}
use Rattle.tree.proofs.Bests.{Best, ltb-asym, ltb-trans, best-is, best-append, numbers-length, numbers-append, numbers-member, member-numbers}

module _ (s : List ℕ) where
  lesser-asym : (p q : ℕ) → lesser_level s p q ≡ true → lesser_level s q p ≡ false
  lesser-asym p q = ltb-asym (level s (get_or (tour s) p 0)) (level s (get_or (tour s) q 0))

  lesser-trans : (p q r : ℕ) → lesser_level s p q ≡ false → lesser_level s q r ≡ false → lesser_level s p r ≡ false
  lesser-trans p q r = ltb-trans (level s (get_or (tour s) p 0)) (level s (get_or (tour s) q 0)) (level s (get_or (tour s) r 0))

  -- the best position of a block that does not pass the end
  leftmost : (j i : ℕ) → i + 2 ^ j ≤ visits (length s) → sparse s j i ≡ best (lesser_level s) no_cell (numbers_from i (2 ^ j))
  unfolding sparse
  leftmost j i h = rw (le-leb (i + 2 ^ j) (visits (length s)) h)

  block : (i j : ℕ) → 0 < length (numbers_from i (2 ^ j))
  block i j = rw numbers-length (pow_pos j)

  -- row 0: each position is its own block
  pub sparse-zero : (i : ℕ) → i < visits (length s) → sparse s 0 i ≡ i
  unfolding numbers_from tabulate_from best best_from
  sparse-zero i h = leftmost 0 i (omega arith)

  -- a later row: of a block's two halves, the left one's position unless the right one's has lesser LEVEL
  pub sparse-suc : (j i : ℕ) → i + 2 ^ suc j ≤ visits (length s)
      → sparse s (suc j) i ≡ cond (lesser_level s (sparse s j (i + 2 ^ j)) (sparse s j i)) (sparse s j (i + 2 ^ j)) (sparse s j i)
  sparse-suc j i h =
      let twice : 2 ^ suc j ≡ 2 ^ j + 2 ^ j = omega (arith, pow-suc 2 j) in
      let left = leftmost j i (omega arith) in
      let right = leftmost j (i + 2 ^ j) (omega arith) in
      leftmost (suc j) i h
      ∙ rw (twice, numbers-append i (2 ^ j) (2 ^ j), left, right)
      (best-append (lesser_level s) lesser-asym lesser-trans no_cell (numbers_from i (2 ^ j)) (numbers_from (i + 2 ^ j) (2 ^ j)) (block i j) (block (i + 2 ^ j) j))

  -- 65535 where the block passes the end
  pub sparse-end : (j i : ℕ) → visits (length s) < i + 2 ^ j → sparse s j i ≡ no_cell
  unfolding sparse
  sparse-end j i h = rw (lt-leb (i + 2 ^ j) (visits (length s)) h)

  -- so each such cell is the best position of its block
  best-position : (j i : ℕ) → i + 2 ^ j ≤ visits (length s) → Best (lesser_level s) (numbers_from i (2 ^ j)) (sparse s j i)
  best-position j i h = rw (leftmost j i h) (best-is (lesser_level s) lesser-asym lesser-trans no_cell (numbers_from i (2 ^ j)) (block i j))

  inside : (j i : ℕ) → i + 2 ^ j ≤ visits (length s) → (i ≤ sparse s j i) × (sparse s j i < i + 2 ^ j)
  inside j i h = numbers-member i (2 ^ j) (sparse s j i) (best-position j i h).member

  -- the position stands in its block: not before it
  pub sparse-from : (j i : ℕ) → i + 2 ^ j ≤ visits (length s) → i ≤ sparse s j i
  sparse-from j i h = (inside j i h).0

  -- .. nor after it
  pub sparse-to : (j i : ℕ) → i + 2 ^ j ≤ visits (length s) → sparse s j i < i + 2 ^ j
  sparse-to j i h = (inside j i h).1

  -- no position of the block has lesser LEVEL
  pub sparse-least : (j i p : ℕ) → i + 2 ^ j ≤ visits (length s) → i ≤ p → p < i + 2 ^ j
      → level s (get_or (tour s) (sparse s j i) 0) ≤ level s (get_or (tour s) p 0)
  sparse-least j i p h from to = ltb-false _ _ ((best-position j i h).wins p (member-numbers i (2 ^ j) p from to))

  -- .. and each that stands before it in the block has greater
  pub sparse-first : (j i p : ℕ) → i + 2 ^ j ≤ visits (length s) → i ≤ p → p < sparse s j i
      → level s (get_or (tour s) (sparse s j i) 0) < level s (get_or (tour s) p 0)
  sparse-first j i p h from to =
      let end = sparse-to j i h in
      let k = p + 1 - i in
      let m = 2 ^ j - k in
      let all : 2 ^ j ≡ k + m = omega arith in
      let left = best (lesser_level s) no_cell (numbers_from i k) in
      let right = best (lesser_level s) no_cell (numbers_from (i + k) m) in
      let some : 0 < length (numbers_from i k) = rw numbers-length (omega arith) in
      let more : 0 < length (numbers_from (i + k) m) = rw numbers-length (omega arith) in
      let won = best-is (lesser_level s) lesser-asym lesser-trans no_cell (numbers_from i k) some in
      let upto = numbers-member i k left won.member in
      let low = ltb-false _ _ (won.wins p (member-numbers i k p from (omega arith))) in
      let is : sparse s j i ≡ cond (lesser_level s right left) right left =
      leftmost j i h
      ∙ ap (λ (l : ℕ). best (lesser_level s) no_cell (numbers_from i l)) all
      ∙ ap (best (lesser_level s) no_cell) (numbers-append i k m)
      ∙ best-append (lesser_level s) lesser-asym lesser-trans no_cell (numbers_from i k) (numbers_from (i + k) m) some more in
      by-test (lesser_level s right left)
      (λ e. let there : sparse s j i ≡ right = rw e at is in rw there (lt_of_lt_of_le (ltb-true _ _ e) low))
      (λ e. let there : sparse s j i ≡ left = rw e at is in absurd (omega arith))
