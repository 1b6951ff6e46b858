-- Totals along the edges of a sheet, from the leaves up: meanwhile each cell holds the part's own count and the totals of those of its children that were passed.
-- Assumes nothing.
use Prim.Native.Nat.{ℕ, suc, ◌+◌, ◌*◌, ◌≤◌, ◌<◌}
use native.Mathlib.Omega.{arith}
use mathlib.Core.Path.{◌≡◌, refl, sym, ap, ◌∙◌}
use mathlib.Core.Logic.{◌≢◌}
use mathlib.Core.Bool.{Bool, true, ◌&&◌, and-false, and-eq-true_iff}
use mathlib.Core.List.{List}
use borrow.Author.Tests.{lt-ltb, le-ltb}
use lib.Dec.{ltb}
use lib.ListN.{length, get_or, set, length-set}
use lib.Seq.{ext_get_or}
use Rattle.tree.specs.Scan.{position}
use Rattle.tree.specs.Tree.{parent}
use Rattle.tree.specs.Nodes.{Small}
use Rattle.tree.specs.Preorder.{is_child}
use Rattle.tree.specs.BottomUp.{Edges}
use Rattle.tree.proofs.Scans.{by-test, by_equal, by_order, position_here}
use Rattle.tree.proofs.Rows.{length-tabulate, cell-tabulate}
use Rattle.tree.proofs.Differences.{store-either}
use Rattle.tree.proofs.PreorderList.{Child, child-test, test-child}
use Rattle.wear.specs.Sums.{sum_where}
use Rattle.wear.specs.Totals.{count_at, count_limit, total, totals_of}
use Rattle.wear.proofs.Adding.{where-same, where-none, where-one, where-fewer}
use Rattle.wear.proofs.Weights.{total-children, total-most}

-- what the totals are added up from
pub record Adds (s order counts : List ℕ) : Type 0 where
  pub small : Small s
  pub edges : Edges s order
  pub room : 3 * length s ≤ length order
  pub most : (v : ℕ) → v < length s → count_at counts v ≤ count_limit

-- c is a child of v that stands in the first i cells of the order
abbrev passed : List ℕ → List ℕ → ℕ → ℕ → ℕ → Bool
passed s order i v c = is_child s v c && ltb (position order c) i

-- the first i cells are passed
pub record Adding (s order counts totals : List ℕ) (i : ℕ) : Type 0 where
  pub within : i < length s
  pub cells : length totals ≡ length s
  pub sum : (v : ℕ) → v < length s → get_or totals v 0 ≡ count_at counts v + sum_where (passed s order i v) (total s counts) (length s)

-- the entry beside the part in cell i
abbrev pub entry_of : List ℕ → List ℕ → ℕ → ℕ
entry_of s order i = get_or order (2 * length s + i) 0

-- the part in the next cell, and its entry
pub record Next (s order counts totals : List ℕ) (i : ℕ) : Type 0 where
  pub node : get_or order i 0 < length s
  pub above : entry_of s order i < length s
  pub fits : get_or totals (entry_of s order i) 0 + get_or totals (get_or order i 0) 0 ≤ length s * count_limit

module _ {s order counts : List ℕ} (g : Adds s order counts) where
  abbrev n : ℕ
  n = length s

  abbrev f : ℕ → ℕ
  f = total s counts

  -- none at first
  pub adding-start : length counts ≡ length s → Adding s order counts counts 0
  adding-start fits = record {
    within = omega (arith, g.small.tree.root-inside);
    cells = fits;
    sum = λ v h.
        let none = where-none (passed s order 0 v) f n
        (λ j b. ap (λ (x : Bool). is_child s v j && x) (le-ltb (position order j) 0 (omega arith)) ∙ and-false (is_child s v j)) in
        omega arith;
  }

  -- where all children of v are passed, the sum is v's total
  whole : (i v : ℕ) → v < n → ((c : ℕ) → c < n → Child s v c → position order c < i) → count_at counts v + sum_where (passed s order i v) f n ≡ total s counts v
  whole i v h all =
      ap (λ (k : ℕ). count_at counts v + k)
      (where-same (is_child s v) (passed s order i v) f f n
      (λ c b. by-test (is_child s v c) (λ e. rw (e, lt-ltb (position order c) i (all c b (test-child s v c e)))) (λ e. rw e)) (λ c b. refl))
      ∙ sym (total-children g.small.tree counts v h)

  module _ {totals : List ℕ} {i : ℕ} (l : Adding s order counts totals i) (more : suc i < length s) where
    abbrev v : ℕ
    v = get_or order i 0

    abbrev p : ℕ
    p = parent s v

    node : v < n
    node = g.edges.order.part i more

    above : p < n
    above = g.small.tree.inside v node

    beside : entry_of s order i ≡ p
    beside = g.edges.entry i more

    -- its children were passed, so its cell holds its total
    total-whole : get_or totals v 0 ≡ total s counts v
    total-whole =
        l.sum v node
        ∙ whole i v node
        (λ c b is.
        let of = is.of in
        let up-c : parent s c ≢ c = λ e. is.other (sym e ∙ of) in
        let up-v : parent s (parent s c) ≢ parent s c = λ e. g.edges.order.other i more (ap (parent s) (sym of) ∙ e ∙ of) in
        let first = g.edges.order.child-first c b up-c up-v in
        let there : position order (parent s c) ≡ i = ap (position order) of ∙ g.edges.order.once i more in
        omega arith)

    -- no other part stands there
    elsewhere : (c : ℕ) → c ≢ v → position order c ≢ i
    elsewhere c q e =
        let room = g.room in
        q (sym (position_here order c (omega arith)) ∙ ap (λ (j : ℕ). get_or order j 0) e)

    -- so for any other it is the same whether i cells are passed or one more
    same-other : (u c : ℕ) → c ≢ v → passed s order i u c ≡ passed s order (i + 1) u c
    same-other u c q =
        let other = elsewhere c q in
        ap (λ (x : Bool). is_child s u c && x)
        (by_order i (position order c)
        (λ h. le-ltb (position order c) i h ∙ sym (le-ltb (position order c) (i + 1) (omega arith)))
        (λ h. lt-ltb (position order c) i h ∙ sym (lt-ltb (position order c) (i + 1) (omega arith))))

    child : is_child s p v ≡ true
    child = child-test (record { of = refl; other = λ e. g.edges.order.other i more (sym e) })

    -- the parent's sum has v's total more
    sum-parent : sum_where (passed s order (i + 1) p) f n ≡ total s counts v + sum_where (passed s order i p) f n
    sum-parent =
        let here = g.edges.order.once i more in
        where-one (passed s order (i + 1) p) (passed s order i p) f n v node (λ c q. same-other p c q)
        (rw (child, lt-ltb (position order v) (i + 1) (omega arith)))
        (ap (λ (x : Bool). is_child s p v && x) (le-ltb (position order v) i (omega arith)) ∙ and-false (is_child s p v))

    -- any other's is as it was
    sum-other : (u : ℕ) → u ≢ p → sum_where (passed s order (i + 1) u) f n ≡ sum_where (passed s order i u) f n
    sum-other u q =
        where-same (passed s order i u) (passed s order (i + 1) u) f f n
        (λ c b. by_equal c v
        (λ e. by-test (is_child s u c) (λ is. absurd (q (sym (test-child s u c is).of ∙ ap (parent s) e))) (λ no. rw no))
        (λ e. sym (same-other u c e)))
        (λ c b. refl)

    pub next : Next s order counts totals i
    next =
        let here = l.sum p above in
        let mine = total-whole in
        let grown = sum-parent in
        let part = where-fewer (is_child s p) (passed s order (i + 1) p) f n (λ j b e. ((and-eq-true_iff _ _).0 e).0) in
        let top = total-children g.small.tree counts p above in
        let most = total-most s counts p g.most in
        record { node = node; above = rw beside above; fits = rw beside (omega arith) }

    pub adding-step : let q = entry_of s order i in Adding s order counts (set totals q (get_or totals q 0 + get_or totals v 0)) (i + 1)
    adding-step =
        let y = get_or totals p 0 + get_or totals v 0 in
        let cells = l.cells in
        rw beside
        (record {
          within = omega arith;
          cells = length-set totals p y ∙ l.cells;
          sum = λ u h.
              store-either totals p y u (count_at counts u + sum_where (passed s order (i + 1) u) f n) (rw cells above)
              (λ e.
              let here = l.sum p above in
              let mine = total-whole in
              let grown = sum-parent in
              rw e (omega arith))
              (λ q. l.sum u h ∙ ap (λ (k : ℕ). count_at counts u + k) (sym (sum-other u q)));
        })

  -- all are passed: the cells are the totals
  pub adding-end : {totals : List ℕ} {i : ℕ} → Adding s order counts totals i → length s ≤ suc i → totals ≡ totals_of s counts
  unfolding totals_of
  adding-end {totals} {i} l last =
      ext_get_or 0 totals (totals_of s counts) (l.cells ∙ sym (length-tabulate (total s counts) (length s)))
      (λ v h.
      let b : v < length s = rw (sym l.cells) h in
      l.sum v b
      ∙ whole i v b (λ c k is. let listed = g.edges.order.listed c k (λ e. is.other (sym e ∙ is.of)) in omega arith)
      ∙ sym (cell-tabulate (total s counts) (length s) v b))
