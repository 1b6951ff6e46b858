-- Rows by falling powers of two, for whatever test and raise: no more rows than powers, and over a distance as many rows as it has ones.
-- Rows end to end, and their cells. Assumes nothing.
use Prim.Native.Nat.{ℕ, zero, suc, ◌-◌, ◌*◌, ◌^◌, ◌≤◌, ◌<◌, zero-le}
use native.Mathlib.Omega.{arith}
use mathlib.Core.Path.{◌≡◌, refl, sym, ap, ◌∙◌}
use mathlib.Core.Bool.{Bool, true, false}
use mathlib.Core.List.{List, [], ◌∷◌, ◌++◌}
use borrow.Author.Tests.{le-leb, lt-leb}
use lib.Count.{ones, ones-le}
use lib.Dec.{leb}
use lib.ListN.{length}
use Rattle.bits.proofs.Ones.{ones-top}
use Rattle.tree.specs.Trail.{Row, last_row, falling, row_cells}
use Rattle.tree.proofs.Scans.{by-test, by_order}

-- ---- whatever the test

module _ (test : ℕ → Row → Bool) (raise : ℕ → Row → Row) where
  -- one power more: where it passes, one row and the rest from there
  pub falling-pass : (k : ℕ) (p : Row) → test k p ≡ true → falling test raise (suc k) p ≡ raise k p ∷ falling test raise k (raise k p)
  unfolding falling
  falling-pass k p e = rw e

  -- .. else the rest
  pub falling-skip : (k : ℕ) (p : Row) → test k p ≡ false → falling test raise (suc k) p ≡ falling test raise k p
  unfolding falling
  falling-skip k p e = rw e

  falling-none : (p : Row) → falling test raise 0 p ≡ []
  unfolding falling
  falling-none p = refl

  -- each power is tried once, so that there are no more rows than powers
  pub falling-most : (k : ℕ) (p : Row) → length (falling test raise k p) ≤ k
  falling-most zero p = rw (falling-none p) zero-le
  falling-most (suc k) p =
      let from : (q : Row) → length (falling test raise k q) ≤ k = falling-most k in
      by-test (test k p)
      (λ e. rw (falling-pass k p e) (let rest = from (raise k p) in omega arith))
      (λ e. rw (falling-skip k p e) (let rest = from p in omega arith))

-- ---- over a distance

-- of a row that meets P, for each power below 2^l: the test is whether the distance is at least 2^k, and a raise takes 2^k off it
pub record Descends (test : ℕ → Row → Bool) (raise : ℕ → Row → Row) (dist : Row → ℕ) (P : Row → Type 0) (l : ℕ) : Type 0 where
  pub tests : (k : ℕ) (p : Row) → k < l → P p → test k p ≡ leb (2 ^ k) (dist p)
  pub falls : (k : ℕ) (p : Row) → k < l → P p → 2 ^ k ≤ dist p → dist (raise k p) ≡ dist p - 2 ^ k
  pub keeps : (k : ℕ) (p : Row) → k < l → P p → 2 ^ k ≤ dist p → P (raise k p)

module _ {test : ℕ → Row → Bool} {raise : ℕ → Row → Row} {dist : Row → ℕ} {P : Row → Type 0} {l : ℕ} (d : Descends test raise dist P l) where
  -- a distance of 2^k or more makes a row
  far-row : (k : ℕ) (p : Row) → k < l → P p → 2 ^ k ≤ dist p → falling test raise (suc k) p ≡ raise k p ∷ falling test raise k (raise k p)
  far-row k p b kept far = falling-pass test raise k p (d.tests k p b kept ∙ le-leb (2 ^ k) (dist p) far)

  near_none : (k : ℕ) (p : Row) → k < l → P p → dist p < 2 ^ k → falling test raise (suc k) p ≡ falling test raise k p
  near_none k p b kept near = falling-skip test raise k p (d.tests k p b kept ∙ lt-leb (2 ^ k) (dist p) near)

  -- the rows are as many as the distance has ones
  pub falling-ones : (k : ℕ) (p : Row) → k ≤ l → P p → dist p < 2 ^ k → length (falling test raise k p) ≡ ones (dist p)
  falling-ones zero p b kept h = rw (falling-none test raise p) (omega (arith, ones-le 0 (dist p) h))
  falling-ones (suc k) p b kept h =
      let from = falling-ones k in
      by_order (2 ^ k) (dist p)
      (λ far.
      let next = d.falls k p b kept far in
      rw (far-row k p b kept far, from (raise k p) (omega arith) (d.keeps k p b kept far) (omega arith), next) (sym (ones-top k (dist p) far h)))
      (λ near. rw (near_none k p b kept near) (from p (omega arith) kept near))

  -- .. and the last row has no distance left
  pub falling-last : (k : ℕ) (p : Row) → k ≤ l → P p → dist p < 2 ^ k
      → (dist (last_row p (falling test raise k p)) ≡ 0) × P (last_row p (falling test raise k p))
  unfolding last_row
  falling-last zero p b kept h = rw (falling-none test raise p) (omega arith, kept)
  falling-last (suc k) p b kept h =
      let from = falling-last k in
      by_order (2 ^ k) (dist p)
      (λ far.
      let next = d.falls k p b kept far in
      rw (far-row k p b kept far) (from (raise k p) (omega arith) (d.keeps k p b kept far) (omega arith)))
      (λ near. rw (near_none k p b kept near) (from p (omega arith) kept near))

-- ---- rows

-- the last row of two trails end to end
pub last-append : (p : Row) (xs ys : List Row) → last_row p (xs ++ ys) ≡ last_row (last_row p xs) ys
unfolding last_row
last-append p [] ys = refl
last-append p (x ∷ xs) ys = last-append x xs ys

-- two cells a row
pub row_cells-length : (rows : List Row) → length (row_cells rows) ≡ 2 * length rows
unfolding row_cells
row_cells-length [] = refl
row_cells-length (p ∷ ps) = let rest = row_cells-length ps in omega arith

-- .. and those of two trails end to end
pub row_cells-append : (xs ys : List Row) → row_cells (xs ++ ys) ≡ row_cells xs ++ row_cells ys
unfolding row_cells
row_cells-append [] ys = refl
row_cells-append (p ∷ ps) ys = ap (λ (cells : List ℕ). p.x ∷ p.y ∷ cells) (row_cells-append ps ys)
