-- The lift route's rule (document 01, "Tables"; 002's doubling): its trail, row by row, over the lift table's cells and LEVEL; its
-- answer and its count of lifts are read off the trail. No rule knows the carrier; the sum of ones, from the sheet alone, does.
-- Assumes nothing.
use Rattle.std.specs.Prelude.{ℕ, zero, suc, ◌+◌, ◌-◌, ◌^◌, min, Bool, cond, not, List, [], ◌∷◌, ◌++◌, leb, ltb, eqb, length, replicate}
use Rattle.std.specs.Int.Count.{ones}
use Rattle.bits.specs.Bits.{log2}
use Rattle.tree.specs.Tree.{level}
use Rattle.tree.specs.Lca.{lca}
use Rattle.tree.specs.Buffers.{no_cell, trail_cells}
use Rattle.tree.specs.Tables.{Lent}
use Rattle.tree.specs.Routes.{cell, parts, level_at}

-- a row of the trail: "x's side, then y's side, after it"
pub record Row : Type 0 where
  pub x : ℕ
  pub y : ℕ

-- the last row of a trail; where it has none, the row it began at
unfoldable pub last_row : Row → List Row → Row
last_row p [] = p
last_row p (q ∷ qs) = last_row q qs

-- "each power is tried once", from 2^(k−1) down: where the test of a power passes, the raise by it is a row
unfoldable pub falling : (ℕ → Row → Bool) → (ℕ → Row → Row) → ℕ → Row → List Row
falling test raise zero p = []
falling test raise (suc k) p =
    let up = test k p in
    let q = raise k p in
    let rest = falling test raise k (cond up q p) in
    cond up (q ∷ rest) rest

-- the lift table's row k
abbrev pub lift_at : Lent → ℕ → ℕ → ℕ
lift_at t k v = cell t.lift 0 (parts t) k v

-- the difference of the two parts' levels
abbrev pub gap : Lent → Row → ℕ
gap t p = (level_at t p.x - level_at t p.y) + (level_at t p.y - level_at t p.x)

-- the deeper part raised by 2^k
abbrev pub raise_deeper : Lent → ℕ → Row → Row
raise_deeper t k p =
    cond (ltb (level_at t p.y) (level_at t p.x))
    (record { x = lift_at t k p.x; y = p.y })
    (record { x = p.x; y = lift_at t k p.y })

-- both parts raised by 2^k
abbrev pub raise_both : Lent → ℕ → Row → Row
raise_both t k p = record { x = lift_at t k p.x; y = lift_at t k p.y }

-- both parts raised by 2^k stay different
abbrev pub stays_apart : Lent → ℕ → Row → Bool
stays_apart t k p = not (eqb (lift_at t k p.x) (lift_at t k p.y))

-- "The lift route raises the deeper part by falling powers of two to equal levels": from 2^l down, l = log n
unfoldable pub levelled : Lent → Row → List Row
levelled t p = falling (λ k q. leb (2 ^ k) (gap t q)) (raise_deeper t) (suc (log2 (parts t))) p

-- "it raises both by falling powers of two while they stay different, and then both by one"
unfoldable pub raised : Lent → Row → List Row
raised t p =
    let rows = falling (stays_apart t) (raise_both t) (suc (log2 (parts t))) p in
    rows ++ (raise_both t 0 (last_row p rows) ∷ [])

-- the trail of a pair: "If the parts then differ", once levelled, both are raised
unfoldable pub trail : Lent → ℕ → ℕ → List Row
trail t x y =
    let rows = levelled t (record { x = x; y = y }) in
    let p = last_row (record { x = x; y = y }) rows in
    let both = raised t p in
    rows ++ cond (eqb p.x p.y) [] both

-- the lift route's answer: where the trail ends
unfoldable pub by_lifts : Lent → ℕ → ℕ → ℕ
by_lifts t x y = (last_row (record { x = x; y = y }) (trail t x y)).x

-- "Each raise is one lift"
unfoldable pub lifts : Lent → ℕ → ℕ → ℕ
lifts t x y = length (trail t x y)

-- the cells of a trail's rows
unfoldable pub row_cells : List Row → List ℕ
row_cells [] = []
row_cells (p ∷ ps) = p.x ∷ p.y ∷ row_cells ps

-- "A trail buffer has 64 cells (32 rows); unused cells become 65535"
unfoldable pub trail_buffer : List Row → List ℕ
trail_buffer rows = row_cells rows ++ replicate (trail_cells - length (row_cells rows)) no_cell

-- "With ones(m) the count of one bits in m, g the difference of levels and d the steps from the levelled parts to the carrier, lifts
-- are ones(g), plus, if d > 0, ones(d−1)+1"
unfoldable pub ones_sum : ℕ → ℕ → ℕ
ones_sum g d = ones g + cond (ltb 0 d) (ones (d - 1) + 1) 0

-- the same of two parts of a sheet
unfoldable pub lift_count : List ℕ → ℕ → ℕ → ℕ
lift_count s x y =
    let shallow = min (level s x) (level s y) in
    ones_sum ((level s x - shallow) + (level s y - shallow)) (shallow - level s (lca s (x ∷ y ∷ [])))
