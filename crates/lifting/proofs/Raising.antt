-- Raising by falling powers of two, as the loop does it: what is left to raise gives the same rows, stored at the same place, as all of it.
-- Rows stored one after the other, and a trail's buffer. Assumes nothing.
use Prim.Native.Nat.{ℕ, suc, ◌+◌, ◌-◌, ◌*◌, ◌≤◌, ◌<◌}
use native.Mathlib.Nat.{zero-add, add-zero, suc-add, add-suc}
use native.Mathlib.Numerals.{add-one}
use native.Mathlib.Omega.{arith}
use mathlib.Core.Path.{◌≡◌, refl, sym, ap, ◌∙◌}
use mathlib.Core.Logic.{◌≢◌}
use mathlib.Core.Bool.{Bool, true, false, cond, not}
use mathlib.Core.List.{List, [], ◌∷◌, ◌++◌, append-nil}
use borrow.Author.Tests.{eq-eqb, ne_eqb}
use lib.Dec.{eqb}
use lib.ListN.{length, drop, replicate, length-append, length-set, length-replicate, replicate-append-replicate}
use lib.Seq.{drop_at, sets, sets-eq}
use Rattle.bits.specs.Bits.{log2, IsBelow}
use Rattle.tree.specs.Nodes.{Pair}
use Rattle.tree.specs.Buffers.{no_cell, trail_cells}
use Rattle.tree.specs.Tables.{own}
use Rattle.tree.specs.Trail.{Row, last_row, falling, raise_both, stays_apart, levelled, raised, trail, by_lifts, row_cells, trail_buffer, lifts}
use Rattle.tree.proofs.Falling.{falling-pass, falling-skip, last-append, row_cells-length}
use Rattle.lifting.specs.declared.Raised.{Raised}
use Rattle.lifting.specs.declared.Sides.{Sides}
use Rattle.lifting.specs.Stored.{row, row_of, stored_row, stored, Raises}

-- ---- the test of a power, by the pair p that the raise gives: `stays_apart` of the pair before

abbrev different : Row → Bool
different p = not (eqb p.x p.y)

-- both parts stay different
pub stays_apart_lem : {p up : Row} → up ≡ p → up.x ≢ up.y → different p ≡ true
stays_apart_lem e other = ap different (sym e) ∙ ap not (ne_eqb _ _ other)

-- ---- the loop

-- from the pair p of a sheet s, with `at` rows before, all powers below 2^top are to be tried; those below 2^k are left, for the pair q,
-- with `lifts` rows stored
pub record Trying (test : ℕ → Row → Bool) (raise : ℕ → Row → Row) (s : List ℕ) (top : ℕ) (p : Row) (at : ℕ) (before cells : List ℕ)
    (k : ℕ) (q : Row) (lifts : ℕ) : Type 0 where
  pub same_end : last_row q (falling test raise k q) ≡ last_row p (falling test raise top p)
  pub same_count : lifts + length (falling test raise k q) ≡ at + length (falling test raise top p)
  pub same-cells : stored cells lifts (falling test raise k q) ≡ stored before at (falling test raise top p)
  pub pair : Pair s q.x q.y
  pub full : length cells ≡ trail_cells
  pub powers : k ≤ top
  pub fits : lifts + k ≤ at + top

module _ {test : ℕ → Row → Bool} {raise : ℕ → Row → Row} {s : List ℕ} {top : ℕ} {p : Row} {at : ℕ} {before : List ℕ} where
  -- all are left
  pub trying_start : {k : ℕ} → k ≡ top → Pair s p.x p.y → length before ≡ trail_cells → Trying test raise s top p at before before k p at
  trying_start all h e = record {
    same_end = rw all;
    same_count = rw all;
    same-cells = rw all;
    pair = h;
    full = e;
    powers = omega arith;
    fits = omega arith;
  }

  -- a power that passes makes a row
  pub trying-pass : {cells after : List ℕ} {k : ℕ} {q up : Row} {lifts : ℕ} → Trying test raise s top p at before cells k q lifts → 0 < k
      → test (k - 1) q ≡ true → up ≡ raise (k - 1) q → Pair s up.x up.y → after ≡ stored_row cells lifts up
      → Trying test raise s top p at before after (k - 1) up (lifts + 1)
  unfolding last_row stored
  trying-pass {k = k} {q} {up} {lifts} r some passes e h stores =
      let next : k ≡ suc (k - 1) = omega arith in
      let rest : falling test raise k q ≡ up ∷ falling test raise (k - 1) up =
      ap (λ (n : ℕ). falling test raise n q) next ∙ falling-pass test raise (k - 1) q passes ∙ ap (λ (u : Row). u ∷ falling test raise (k - 1) u) (sym e) in
      record {
        same_end = rw rest at r.same_end;
        same_count = omega (arith, rw rest at r.same_count);
        same-cells = rw (stores, add-one lifts) (rw rest at r.same-cells);
        pair = h;
        full = rw stores (simp length-set r.full);
        powers = omega (arith, r.powers);
        fits = omega (arith, r.fits);
      }

  -- one that does not leaves the pair
  pub trying-skip : {cells : List ℕ} {k : ℕ} {q : Row} {lifts : ℕ} → Trying test raise s top p at before cells k q lifts → 0 < k
      → test (k - 1) q ≡ false → Trying test raise s top p at before cells (k - 1) q lifts
  trying-skip {k = k} {q} r some fails =
      let next : k ≡ suc (k - 1) = omega arith in
      let rest : falling test raise k q ≡ falling test raise (k - 1) q =
      ap (λ (n : ℕ). falling test raise n q) next ∙ falling-skip test raise (k - 1) q fails in
      record {
        same_end = rw rest at r.same_end;
        same_count = rw rest at r.same_count;
        same-cells = rw rest at r.same-cells;
        pair = r.pair;
        full = r.full;
        powers = omega (arith, r.powers);
        fits = omega (arith, r.fits);
      }

  -- with no power left, all are done
  pub trying-end : {cells : List ℕ} {k x y lifts : ℕ} → Trying test raise s top p at before cells k (row x y) lifts → k ≤ 0
      → Raises s (falling test raise top p) p at before (record { x = x; y = y; lifts = lifts }) cells
  unfolding falling last_row stored
  trying-end {k = k} r done =
      let e : k ≡ 0 = omega arith in
      record {
        ends = rw e at r.same_end;
        count = omega (arith, rw e at r.same_count);
        cells = rw e at r.same-cells;
        pair = r.pair;
      }

-- ---- one raise after the other

-- rows end to end
stored-append : (cells : List ℕ) (at : ℕ) (xs ys : List Row) → stored cells at (xs ++ ys) ≡ stored (stored cells at xs) (at + length xs) ys
unfolding stored
stored-append cells at [] ys = rw add-zero
stored-append cells at (p ∷ ps) ys = stored-append (stored_row cells at p) (suc at) ps ys ∙ rw (suc-add at (length ps), add-suc at (length ps))

-- the rows of the second follow those of the first
raises-then : {s : List ℕ} {xs ys : List Row} {p : Row} {at : ℕ} {before between after : List ℕ} {r last : Raised}
    → Raises s xs p at before r between → Raises s ys (row r.x r.y) r.lifts between last after → Raises s (xs ++ ys) p at before last after
raises-then {xs = xs} {ys} {p} {at} {before} a b = record {
  ends = b.ends ∙ ap (λ (q : Row). last_row q ys) a.ends ∙ sym (last-append p xs ys);
  count = b.count ∙ rw (a.count, length-append) (omega arith);
  cells = b.cells ∙ rw (a.cells, a.count) (sym (stored-append before at xs ys));
  pair = b.pair;
}

-- as high as both stay different, and one row more
pub raised-gives : {s : List ℕ} {p : Row} {at : ℕ} {before between after : List ℕ} {low : Raised} {up : Sides}
    → Raises s (falling (stays_apart (own s)) (raise_both (own s)) (suc (log2 (length s))) p) p at before low between
    → row_of up ≡ raise_both (own s) 0 (row low.x low.y) → Pair s up.x up.y → after ≡ stored_row between low.lifts (row_of up)
    → Raises s (raised (own s) p) p at before (record { x = up.x; y = up.y; lifts = low.lifts + 1 }) after
unfolding raised last_row stored
raised-gives {s} {between = between} {low = low} r e h stores =
    let there = e ∙ ap (raise_both (own s) 0) r.ends in
    raises-then r (record { ends = there; count = refl; cells = stores ∙ ap (stored_row between low.lifts) there; pair = h })

-- ---- the trail

module _ {s : List ℕ} {x y : ℕ} {before between : List ℕ} {level : Raised}
    (r : Raises s (levelled (own s) (row x y)) (row x y) 0 before level between) where
  -- by the pair at which levelling ends
  parted : trail (own s) x y ≡ levelled (own s) (row x y) ++ cond (eqb level.x level.y) [] (raised (own s) (row level.x level.y))
  unfolding trail
  parted = rw (← r.ends)

  -- parts that are one when levelled: that is all
  pub trail-one : level.x ≡ level.y → Raises s (trail (own s) x y) (row x y) 0 before level between
  trail-one e = rw (parted, eq-eqb level.x level.y e, append-nil) r

  -- parts that differ are raised
  pub trail-two : {after : List ℕ} {last : Raised} → level.x ≢ level.y
      → Raises s (raised (own s) (row level.x level.y)) (row level.x level.y) level.lifts between last after
      → Raises s (trail (own s) x y) (row x y) 0 before last after
  trail-two e h = rw (parted, ne_eqb level.x level.y e) (raises-then r h)

-- its end is the answer, and a part
pub trail-end : {s : List ℕ} {x y : ℕ} {before after : List ℕ} {r : Raised} → Raises s (trail (own s) x y) (row x y) 0 before r after
    → IsBelow (by_lifts (own s) x y) (length s) r.x
unfolding by_lifts
trail-end r = record { is = ap (λ (p : Row). p.x) r.ends; below = r.pair.left }

-- its rows are the lifts
pub trail-count : {s : List ℕ} {x y : ℕ} {before after : List ℕ} {r : Raised} → Raises s (trail (own s) x y) (row x y) 0 before r after
    → r.lifts ≡ lifts (own s) x y
unfolding lifts
trail-count r = rw zero-add at r.count

-- ---- a trail's buffer

-- the rows' cells, one after the other
stored-sets : (cells : List ℕ) (at : ℕ) (rows : List Row) → stored cells at rows ≡ sets cells (2 * at) (row_cells rows)
unfolding stored row_cells
stored-sets cells at [] = refl
stored-sets cells at (p ∷ ps) =
    let next : 2 * suc at ≡ suc (suc (2 * at)) = omega arith in
    stored-sets (stored_row cells at p) (suc at) ps ∙ rw (next, add-one (2 * at))

-- what is left of blank cells
drop-replicate : (n m a : ℕ) → n ≤ m → drop n (replicate m a) ≡ replicate (m - n) a
drop-replicate n m a h =
    let e : m ≡ n + (m - n) = omega arith in
    ap (λ (k : ℕ). drop n (replicate k a)) e
    ∙ ap (drop n) (sym (replicate-append-replicate n (m - n) a)) ∙ drop_at (replicate n a) (replicate (m - n) a) n (length-replicate n a)

-- rows stored in blank cells are a trail's buffer
pub stored-trail : (rows : List Row) → length rows ≤ 32 → stored (replicate trail_cells no_cell) 0 rows ≡ trail_buffer rows
unfolding trail_buffer
stored-trail rows h =
    let cells = row_cells rows in
    let most : length cells ≤ trail_cells = omega (arith, row_cells-length rows) in
    stored-sets (replicate trail_cells no_cell) 0 rows
    ∙ sets-eq cells (replicate trail_cells no_cell) 0 (omega arith)
    ∙ ap (λ (l : List ℕ). cells ++ l) (rw zero-add (drop-replicate (length cells) trail_cells no_cell most))
