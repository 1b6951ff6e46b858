-- Where the tour shows a branch. After the first visit of x, which c carries, the tour comes back to c from c's child toward x: so the visit before that one
-- of c is the child's. From x's first visit to c's last, c's visits are those of least LEVEL, and two blocks of the tour table show the first of them.
-- Assumes nothing.
use Prim.Native.Nat.{ℕ, ◌+◌, ◌-◌, ◌*◌, ◌^◌, ◌≤◌, ◌<◌}
use native.Mathlib.Nat.{le_antisymm}
use native.Mathlib.Omega.{arith}
use mathlib.Core.Path.{◌≡◌, sym, ap, ◌∙◌}
use mathlib.Core.Logic.{◌≢◌}
use mathlib.Core.List.{List}
use lib.ListN.{length, get_or}
use Rattle.tree.specs.Tree.{Ancestor, level, Tree}
use Rattle.tree.specs.Buffers.{visits}
use Rattle.tree.specs.Preorder.{size, tour, first_visit}
use Rattle.tree.specs.Labels.{label_table}
use Rattle.tree.specs.Tour.{sparse, tour_table}
use Rattle.tree.specs.Routes.{block_log, last_block}
use Rattle.rules.specs.declared.blocks.Covered.{Covered}
use Rattle.rules.specs.Tour.{Covers, Below, last_visit, Back}
use Rattle.rules.proofs.Cells.{label_length, size-cell}
use Rattle.rules.proofs.TourCells.{First, first}
use Rattle.tree.proofs.Scans.{by_order}
use Rattle.tree.proofs.Climbs.{ancestor-refl, ancestor-parent, ancestor-inside}
use Rattle.tree.proofs.Trees.{above, same-level, child-toward}
use Rattle.tree.proofs.Sizes.{size-sum}
use Rattle.tree.proofs.Tours.{visit-after, visit-last, visit-part, visits-end, carried_first, carried-end, carried-sooner, visit-carried}
use Rattle.tree.proofs.Sparse.{sparse-from, sparse-to, sparse-least, sparse-first}
use Rattle.tree.proofs.ByTour.{blocks-within, blocks-cover}
use Rattle.tree.proofs.Branches.{branch-child}

module _ {s : List ℕ} (t : Tree s) {c x : ℕ} (hx : x < length s) (carries : Ancestor s c x) where
  hc : c < length s
  hc = ancestor-inside t.inside hx carries

  -- it does, after the visits of c's child toward x, of which the last is the child's own
  comes_back : x ≢ c → (p : ℕ) × Back s c x p
  comes_back other =
      let d = child-toward t hx carries other in
      let deep = d.deeper in
      let begin = carried_first t hx d.carries in
      let end = carried-end t hx d.carries in
      let above-it : Ancestor s c d.child = rw d.of at (ancestor-parent s d.child) in
      let sooner = carried-sooner t d.part above-it (λ e. d.other (d.of ∙ sym e)) in
      let within = visits-end t d.child d.part in
      let some = size-sum t x hx in
      let p = first_visit s d.child + 2 * size s d.child - 1 in
      let before : p - 1 ≡ last_visit s d.child = omega arith in
      let last : get_or (tour s) (p - 1) 0 ≡ d.child = ap (λ (i : ℕ). get_or (tour s) i 0) before ∙ visit-last t d.child d.part in (
        p,
        record {
          after = omega arith;
          upto = omega arith;
          here = visit-after t d.child d.part d.other ∙ d.of;
          deeper = λ i from to.
              let carried = visit-carried t i d.part (omega arith) (omega arith) in
              let lower = (above t (visit-part t i (omega arith)) carried).lower in
              omega arith;
          branch = rw last (branch-child other d);
        },
      )

  -- the positions from x's first visit to c's last stand in the tour
  last-inside : last_visit s c < visits (length s)
  last-inside = let end = visits-end t c hc in let some = size-sum t c hc in omega arith

  first-upto : first_visit s x ≤ last_visit s c
  first-upto = let end = carried-end t hx carries in let some = size-sum t x hx in omega arith

  -- .. and so does where the tour comes back
  pub back_inside : {p : ℕ} → Back s c x p → p < visits (length s)
  back_inside b = omega (arith, b.upto, last-inside)

  -- a node there whose LEVEL is not greater than c's is c
  least : (i : ℕ) → first_visit s x ≤ i → i ≤ last_visit s c → level s (get_or (tour s) i 0) ≤ level s c → get_or (tour s) i 0 ≡ c
  least i from to low =
      let begin = carried_first t hx carries in
      let end = last-inside in
      let some = size-sum t c hc in
      let carried = visit-carried t i hc (omega arith) (omega arith) in
      let part = visit-part t i (omega arith) in
      same-level t part (ancestor-refl s (get_or (tour s) i 0)) carried (le_antisymm low (above t part carried).lower)

  module _ {p : ℕ} (b : Back s c x p) where
    -- a block of these positions that begins no later than p shows p, if it shows c
    shows : (k i : ℕ) → first_visit s x ≤ i → i ≤ p → i + 2 ^ k ≤ last_visit s c + 1 → get_or (tour s) (sparse s k i) 0 ≡ c → sparse s k i ≡ p
    shows k i from upto room e =
        let end = last-inside in
        let fit : i + 2 ^ k ≤ visits (length s) = omega arith in
        let start = sparse-from s k i fit in
        let same : level s (get_or (tour s) (sparse s k i) 0) ≡ level s c = ap (level s) e in
        let here : level s (get_or (tour s) p 0) ≡ level s c = ap (level s) b.here in
        by_order p (sparse s k i)
        (λ h.
        by_order (sparse s k i) p (λ g. le_antisymm g h)
        (λ g. let first = sparse-first s k i p fit upto g in absurd (omega arith)))
        (λ h. let deep = b.deeper (sparse s k i) (omega arith) h in absurd (omega arith))

    -- and shows c, if p stands in it
    holds : (k i : ℕ) → first_visit s x ≤ i → i ≤ p → p < i + 2 ^ k → i + 2 ^ k ≤ last_visit s c + 1 → get_or (tour s) (sparse s k i) 0 ≡ c
    holds k i from upto before room =
        let end = last-inside in
        let fit : i + 2 ^ k ≤ visits (length s) = omega arith in
        let start = sparse-from s k i fit in
        let stop = sparse-to s k i fit in
        least (sparse s k i) (omega arith) (omega arith) (rw b.here at (sparse-least s k i p fit upto before))

    -- so does the left one of the two blocks of all these positions, or else the right one
    left-shows : {i j : ℕ} → first_visit s x ≡ i → last_visit s c ≡ j → get_or (tour s) (sparse s (block_log i j) i) 0 ≡ c → sparse s (block_log i j) i ≡ p
    left-shows {i} {j} first last e =
        let within = blocks-within i j (omega (arith, first-upto)) in
        shows (block_log i j) i (omega arith) (omega (arith, b.after)) (omega arith) e

    right-shows : {i j : ℕ} → first_visit s x ≡ i → last_visit s c ≡ j → get_or (tour s) (sparse s (block_log i j) i) 0 ≢ c
        → sparse s (block_log i j) (last_block i j) ≡ p
    right-shows {i} {j} first last q =
        let within = blocks-within i j (omega (arith, first-upto)) in
        let room : last_block i j + 2 ^ block_log i j ≤ last_visit s c + 1 = omega arith in
        blocks-cover i j p (omega (arith, b.upto))
        (λ before. absurd (q (holds (block_log i j) i (omega arith) (omega (arith, b.after)) before (omega arith))))
        (λ from.
        let shown = holds (block_log i j) (last_block i j) (omega arith) from (omega (arith, b.upto)) room in
        shows (block_log i j) (last_block i j) (omega arith) from room shown)

  -- where the left block shows c, the tour comes back there
  pub left_back : {i j : ℕ} {r : Covered} → x ≢ c → first_visit s x ≡ i → last_visit s c ≡ j → Covers s i j r → get_or (tour s) r.left 0 ≡ c → Back s c x r.left
  left_back other first last g e =
      let (p, b) = comes_back other in
      rw (g.left ∙ left-shows b first last (rw g.left at e)) b

  -- .. and else where the right one shows it
  pub right-back : {i j : ℕ} {r : Covered} → x ≢ c → first_visit s x ≡ i → last_visit s c ≡ j → Covers s i j r → get_or (tour s) r.left 0 ≢ c → Back s c x r.right
  right-back other first last g q =
      let (p, b) = comes_back other in
      rw (g.right ∙ right-shows b first last (rw g.left at q)) b

-- ---- the cells that are read

-- of x and of c, which carries it: both first positions, and c's SIZE, from which its last position follows
pub record Stretch (s label tour : List ℕ) (c x : ℕ) : Type 0 where
  pub begins : First s tour x
  pub whole : First s tour c
  pub room : length s + c < length label
  pub count : get_or label (length s + c) 0 ≡ size s c
  pub some : 0 < size s c
  pub within : first_visit s c + 2 * size s c ≤ 2 * length s
  pub upto : first_visit s x ≤ last_visit s c
  pub inside : last_visit s c < visits (length s)

pub stretch : {s label tour : List ℕ} {c x : ℕ} → Below s c x → label ≡ label_table s → tour ≡ tour_table s → Stretch s label tour c x
stretch {s} {label} {tour} {c} b mine yours =
    let t = b.small.tree in
    let part = hc t b.node b.carries in
    record {
      begins = first t yours b.node;
      whole = first t yours part;
      room = omega (arith, label_length s mine);
      count = size-cell s mine c part;
      some = omega (arith, size-sum t c part);
      within = visits-end t c part;
      upto = first-upto t b.node b.carries;
      inside = last-inside t b.node b.carries;
    }
