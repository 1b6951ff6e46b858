-- Blocks: where a node's list stands in the list of the whole tree. One law serves preorder and the tour: both are made of a node, and for
-- each child the child's list and something after it.
-- Assumes nothing.
use Prim.Native.Nat.{ℕ, zero, suc, ◌+◌, ◌-◌, ◌≤◌, ◌<◌}
use native.Mathlib.Nat.{not-suc-le-zero}
use native.Mathlib.Omega.{arith}
use mathlib.Core.Path.{◌≡◌, refl, sym, ap, ◌∙◌, subst}
use mathlib.Core.Logic.{◌≢◌}
use mathlib.Core.List.{List, [], ◌∷◌, ◌++◌, append-nil, append_assoc}
use lib.ListN.{length, get_or, length-append, get_or-append}
use lib.Seq.{get_or-append-add}
use Rattle.tree.specs.Tree.{parent, root_of, level, Tree}
use Rattle.tree.specs.Preorder.{is_child, each_child, child_sum}
use Rattle.tree.proofs.Scans.{by-test, by_equal}
use Rattle.tree.proofs.Trees.{root-found, level-root, level-below, level-parent, from-root}
use Rattle.tree.proofs.PreorderList.{Child, child-test, child-deeper, each_child_lem, each-other}
use Rattle.tree.proofs.Sums.{each-length, sum_same}

-- ---- a list within a list

-- l stands in whole from position a on
pub record Stands (whole : List ℕ) (a : ℕ) (l : List ℕ) : Type 0 where
  pub before : List ℕ
  pub rest : List ℕ
  pub start : length before ≡ a
  pub split : whole ≡ before ++ (l ++ rest)

-- a list stands in itself
stands_self : (whole : List ℕ) → Stands whole 0 whole
stands_self whole = record { before = []; rest = []; start = refl; split = sym (append-nil whole) }

-- the two parts of a list that stands
pub stands-left : {whole : List ℕ} {a : ℕ} (l m : List ℕ) → Stands whole a (l ++ m) → Stands whole a l
stands-left l m h = record {
  before = h.before;
  rest = m ++ h.rest;
  start = h.start;
  split = h.split ∙ ap (λ (k : List ℕ). h.before ++ k) (append_assoc l m h.rest);
}

pub stands-right : {whole : List ℕ} {a : ℕ} (l m : List ℕ) → Stands whole a (l ++ m) → Stands whole (a + length l) m
stands-right {whole} {a} l m h = record {
  before = h.before ++ l;
  rest = h.rest;
  start = length-append h.before l ∙ ap (λ (k : ℕ). k + length l) h.start;
  split =
      h.split ∙ ap (λ (k : List ℕ). h.before ++ k) (append_assoc l m h.rest)
      ∙ sym (append_assoc h.before l (m ++ h.rest));
}

-- each cell of a list that stands
pub stands_at : {whole : List ℕ} {a : ℕ} {l : List ℕ} → Stands whole a l → (k : ℕ) → k < length l → get_or whole (a + k) 0 ≡ get_or l k 0
stands_at {whole} {a} {l} h k b =
    ap (λ (w : List ℕ). get_or w (a + k) 0) h.split
    ∙ ap (λ (i : ℕ). get_or (h.before ++ (l ++ h.rest)) (i + k) 0) (sym h.start)
    ∙ get_or-append-add h.before (l ++ h.rest) k 0
    ∙ get_or-append l h.rest 0 k b

-- it ends within the whole
pub stands-within : {whole : List ℕ} {a : ℕ} {l : List ℕ} → Stands whole a l → a + length l ≤ length whole
stands-within {whole} {a} {l} h =
    let all : length whole ≡ length h.before + length (l ++ h.rest) = ap length h.split ∙ length-append h.before (l ++ h.rest) in
    let both = length-append l h.rest in
    let start = h.start in
    omega arith

-- what a child gives stands after what the lower children give
stands-child : {whole : List ℕ} {a : ℕ} (s : List ℕ) (v : ℕ) (visit : ℕ → List ℕ) (i c : ℕ) → c < i → Child s v c
    → Stands whole a (each_child s v visit i) → Stands whole (a + length (each_child s v visit c)) (visit c)
stands-child s v visit zero c b is h = absurd (not-suc-le-zero b)
stands-child {whole} {a} s v visit (suc i) c b is h =
    let earlier = stands-child {whole = whole} {a = a} s v visit i c in
    by_equal c i
    (λ e.
    let here : Stands whole a (each_child s v visit (suc c)) = rw e h in
    stands-right (each_child s v visit c) (visit c) (subst (Stands whole a) (each_child_lem s v visit c (child-test is)) here))
    (λ e. earlier (omega arith) is
    (by-test (is_child s v i)
    (λ k. stands-left (each_child s v visit i) (visit i) (subst (Stands whole a) (each_child_lem s v visit i k) h))
    (λ k. subst (Stands whole a) (each-other s v visit i k) h)))

-- ---- the blocks of a tree

-- the list of v stands at a in the list of the root
abbrev pub Block : List ℕ → (ℕ → ℕ → List ℕ) → ℕ → ℕ → Type 0
Block s visit v a = Stands (visit (length s) (root_of s)) a (visit (length s - level s v) v)

-- `visit f v` is the list of v through at most f levels; after the list of each child stands `after v`, and both are `width` long
pub record Visiting (s : List ℕ) (visit : ℕ → ℕ → List ℕ) (after : ℕ → List ℕ) (width : ℕ → ℕ) : Type 0 where
  pub opens : (f v : ℕ) → visit (suc f) v ≡ v ∷ each_child s v (λ c. visit f c ++ after v) (length s)
  pub wide : (f v c : ℕ) → c < length s → length s ≤ f + level s c → length (visit f c ++ after v) ≡ width c

module _ {s : List ℕ} (t : Tree s) {visit : ℕ → ℕ → List ℕ} {after : ℕ → List ℕ} {width : ℕ → ℕ} (made : Visiting s visit after width) where
  -- a node's list begins with the node
  pub block-opens : (v : ℕ) → v < length s → visit (length s - level s v) v ≡ v ∷ each_child s v (λ c. visit (length s - suc (level s v)) c ++ after v) (length s)
  block-opens v h =
      let b = level-below t v h in
      let e : length s - level s v ≡ suc (length s - suc (level s v)) = omega arith in
      ap (λ (f : ℕ). visit f v) e ∙ made.opens (length s - suc (level s v)) v

  -- a child's list, with what stands after it, stands in its parent's after those of the lower children
  pub block-child : (v a : ℕ) → v < length s → parent s v ≢ v → Block s visit (parent s v) a
      → Stands (visit (length s) (root_of s)) (a + suc (child_sum s (parent s v) width v)) (visit (length s - level s v) v ++ after (parent s v))
  block-child v a h q block =
      let p = parent s v in
      let down : level s v ≡ suc (level s p) = level-parent t v h q in
      let give : ℕ → List ℕ = λ c. visit (length s - suc (level s p)) c ++ after p in
      let is : Child s p v = record { of = refl; other = λ e. q (sym e) } in
      let opened : Stands (visit (length s) (root_of s)) a (p ∷ each_child s p give (length s)) =
      subst (Stands (visit (length s) (root_of s)) a) (block-opens p (t.inside v h)) block in
      let found = stands-child s p give (length s) v h is (stands-right (p ∷ []) (each_child s p give (length s)) opened) in
      let long : length (each_child s p give v) ≡ child_sum s p width v =
      each-length s p give v ∙ sum_same s p (λ c. length (give c)) width v
      (λ c b k. let deep = child-deeper t (omega arith) k in made.wide (length s - suc (level s p)) p c (omega arith) (omega arith)) in
      let e : a + 1 + length (each_child s p give v) ≡ a + suc (child_sum s p width v) = omega arith in
      rw (e, sym down) at found

  -- numbers that count as the blocks do are where the blocks stand
  pub block : (at : ℕ → ℕ) → at t.root ≡ 0
      → ((v : ℕ) → v < length s → parent s v ≢ v → Block s visit (parent s v) (at (parent s v)) → at v ≡ at (parent s v) + suc (child_sum s (parent s v) width v))
      → (v : ℕ) → v < length s → Block s visit v (at v)
  block at root child =
      from-root t (λ v. Block s visit v (at v))
      (let all : length s - level s t.root ≡ length s = let top = level-root t in omega arith in
      let whole : visit (length s - level s t.root) t.root ≡ visit (length s) (root_of s) =
      ap (λ (f : ℕ). visit f t.root) all ∙ ap (visit (length s)) (root-found t) in
      rw (whole, root) (stands_self (visit (length s) (root_of s))))
      (λ v h q above. rw (child v h q above) (stands-left (visit (length s - level s v) v) (after (parent s v)) (block-child v (at (parent s v)) h q above)))
