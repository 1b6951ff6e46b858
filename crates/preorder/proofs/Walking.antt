-- The walk: what work holds while the nodes are numbered in preorder, and while their SIZEs are measured.
-- Assumes nothing.
use Prim.Native.Nat.{ℕ, ◌+◌, ◌-◌, ◌*◌, ◌≤◌, ◌<◌}
use native.Mathlib.Nat.{le_refl}
use native.Mathlib.Omega.{arith}
use mathlib.Core.Path.{◌≡◌, refl, sym, ap, ◌∙◌}
use mathlib.Core.Logic.{◌⊎◌, inl, inr, ⊎_elim}
use mathlib.Core.List.{List}
use borrow.Author.Tests.{lt-ltb, le-ltb}
use lib.ListN.{length, get_or, set}
use lib.Seq.{get_or-set_other}
use Rattle.tree.specs.Tree.{parent, Tree}
use Rattle.tree.specs.Preorder.{preorder_number, size}
use Rattle.tree.specs.Labels.{label_table}
use Rattle.tree.specs.Sections.{Same}
use Rattle.tree.specs.Ready.{Ready}
use Rattle.tree.proofs.Scans.{by_equal, by_order}
use Rattle.tree.proofs.Trees.{root-found}
use Rattle.tree.proofs.Sizes.{size-root, preorder-root, preorder-parent, preorder-most, preorder-pos}
use Rattle.preorder.specs.Walk.{Links, Walks, first_of, node_at, node_after, Numbered, end_of}
use Rattle.preorder.proofs.Filling.{Filling, filling-store, filling-keep}
use Rattle.preorder.proofs.Parents.{the-root}
use Rattle.preorder.proofs.Numbering.{At, at_next, interval-ends, two-columns}
use Rattle.preorder.proofs.NextNode.{at-number, at-node, at_none, after_is, next-is}

-- ---- the walk

-- a cell beyond the links is stored
links-keep : {s work : List ℕ} (p y : ℕ) → 2 * length s ≤ p → Links s work → Links s (set work p y)
links-keep {s} {work} p y h l = record {
  child = λ v b. get_or-set_other work p v y 0 (λ e. absurd (omega arith)) ∙ l.child v b;
  next = λ v b. get_or-set_other work p (length s + v) y 0 (λ e. absurd (omega arith)) ∙ l.next v b;
}

-- the first k nodes are numbered, and the node after each of them is known; nothing comes after the root
pub record Walking (s work : List ℕ) (k : ℕ) : Type 0 where
  pub links : Links s work
  pub number : Filling s work (2 * length s) (preorder_number s) (λ x. preorder_number s x ≤ k)
  pub after : Filling s work (3 * length s) (node_after s) (λ x. (parent s x ≡ x) ⊎ (preorder_number s x ≤ k))

-- before the first node
pub walking_start : {s work : List ℕ} {root : ℕ} → Walks s root work → Walking s (set work (3 * length s + root) (length s)) 0 × (root ≡ node_at s 0)
walking_start {s} {work} {root} w =
    let t = w.ready.tree in
    let room = w.ready.room in
    let e : root ≡ t.root = w.is ∙ sym (root-found t) in
    let h = (the-root t w.is).node in
    let first : preorder_number s root ≡ 1 = ap (preorder_number s) e ∙ preorder-root t in
    let all : size s root ≡ length s = ap (size s) e ∙ size-root t in
    let p = 3 * length s + root in
    let blank : Filling s work (3 * length s) (node_after s) (λ _. ⊥) = record { room = room; cell = λ x hx k. absurd k } in
    let none : Filling s work (2 * length s) (preorder_number s) (λ x. preorder_number s x ≤ 0) = record {
      room = room;
      cell = λ x hx b. let pos = preorder-pos s x in absurd (omega arith);
    } in (
      record {
        links = links-keep p (length s) (omega arith) w.links;
        number = filling-keep none p (length s) (λ x hx b. (b, λ g. absurd (omega arith)));
        after = filling-store blank root refl (omega arith) (sym (at_none t (preorder_number s root - 1 + size s root) (omega arith)))
            (λ x hx k. inl (⊎_elim (λ top. t.root-only x hx top ∙ sym e) (λ b. let pos = preorder-pos s x in absurd (omega arith)) k));
      },
      sym (at-number t root 0 h first),
    )

-- v is node k of the preorder: where there is one, it is a node, and so is its parent
pub record Next (s : List ℕ) (k v : ℕ) : Type 0 where
  pub is : v ≡ node_at s k
  pub node : k < length s → v < length s
  pub above : k < length s → get_or s v 0 < length s

pub next-at : {s : List ℕ} {k v : ℕ} → Tree s → v ≡ node_at s k → Next s k v
unfolding parent
next-at {s} {k} {v} t is =
    let node : k < length s → v < length s = λ b. rw is (at-node t k b).node in
    record { is = is; node = node; above = λ b. t.inside v (node b) }

-- the node after v, as it is read once v has number k + 1
abbrev after_read : List ℕ → List ℕ → ℕ → ℕ → ℕ
after_read s work k v = first_of (length s) (get_or (set work (2 * length s + v) (k + 1)) (length s + v) 0) (get_or work (3 * length s + parent s v) 0)

-- node k of the preorder is v
module _ {s work : List ℕ} {k v : ℕ} (t : Tree s) (b : k < length s) (is : v ≡ node_at s k) (w : Walking s work k) where
  -- it is a node, and its number is the next
  pub walking-node : At s v k
  walking-node = rw is (at-node t k b)

  -- the node after it is known
  walking_after : {a : ℕ} → a ≡ after_read s work k v
      → a ≡ node_after s v
  walking_after e =
      let here = walking-node in
      let h = here.node in
      let sibling = (links-keep (2 * length s + v) (k + 1) (omega arith) w.links).next v h in
      let above : get_or work (3 * length s + parent s v) 0 ≡ node_after s (parent s v) =
      w.after.cell (parent s v) (t.inside v h)
      (by_equal (parent s v) v (λ q. inl (ap (parent s) q)) (λ q. let up = preorder-parent t v h q in inr (omega arith))) in
      e ∙ rw (sibling, above) (after_is t v h)

  -- it is numbered, and the node after it stored
  pub walking-step : {a : ℕ} → a ≡ after_read s work k v
      → Walking s (set (set work (2 * length s + v) (k + 1)) (3 * length s + v) a) (k + 1)
  walking-step {a} e =
      let here = walking-node in
      let p = 2 * length s + v in
      let q = 3 * length s + v in
      let next = at_next t here in
      record {
        links = links-keep q a (omega arith) (links-keep p (k + 1) (omega arith) w.links);
        number = filling-keep (filling-store w.number v refl (omega arith) (omega arith) next) q a (λ x hx m. (m, λ g. absurd (omega arith)));
        after = filling-store (filling-keep w.after p (k + 1) (λ x hx m. (m, λ g. absurd (omega arith)))) v refl (omega arith) (walking_after e)
            (λ x hx m. ⊎_elim (λ top. inr (inl top)) (λ m. ⊎_elim inl (λ below. inr (inr below)) (next x hx m)) m);
      }

  -- then comes the next
  pub walking-next : {a u : ℕ} → a ≡ after_read s work k v
      → u ≡ first_of (length s) (get_or (set (set work (2 * length s + v) (k + 1)) (3 * length s + v) a) v 0) a → u ≡ node_at s (k + 1)
  walking-next {a} e f =
      let here = walking-node in
      let h = here.node in
      let child = (walking-step e).links.child v h in
      let same : preorder_number s v ≡ k + 1 = omega arith in
      f ∙ rw (child, walking_after e, ← same) (next-is t v h)

-- all nodes are numbered
pub walking-end : {s work : List ℕ} → Tree s → Walking s work (length s) → Numbered s work
walking-end t w = record { number = λ v h. w.number.cell v h (preorder-most t v h); after = λ v h. w.after.cell v h (inr (preorder-most t v h)) }

-- ---- SIZE

-- the nodes below v have their SIZE, and the others the node after them
pub record Measuring (s work : List ℕ) (v : ℕ) : Type 0 where
  pub number : Filling s work (2 * length s) (preorder_number s) (λ x. x < length s)
  pub size : Filling s work (3 * length s) (size s) (λ x. x < v)
  pub after : Filling s work (3 * length s) (node_after s) (λ x. v ≤ x)

pub measuring-start : {s work : List ℕ} → Ready s work → Numbered s work → Measuring s work 0
measuring-start r d = record {
  number = record { room = r.room; cell = λ x h _. d.number x h };
  size = record { room = r.room; cell = λ x h b. absurd (omega arith) };
  after = record { room = r.room; cell = λ x h _. d.after x h };
}

module _ {s work : List ℕ} {v : ℕ} (t : Tree s) (h : v < length s) (m : Measuring s work v) where
  -- all that v carries ends before the number of the node after
  pub measuring-ends : end_of work (length s) (get_or work (3 * length s + v) 0) ≡ get_or work (2 * length s + v) 0 + size s v
  measuring-ends =
      let number : get_or work (2 * length s + v) 0 ≡ preorder_number s v = m.number.cell v h h in
      let after : get_or work (3 * length s + v) 0 ≡ node_after s v = m.after.cell v h (le_refl v) in
      let pos = preorder-pos s v in
      let last = interval-ends t h in
      let k = preorder_number s v - 1 + size s v in
      rw (number, after)
      (by_order (length s) k
      (λ b.
      let none = at_none t k b in
      let far : preorder_number s v + size s v ≡ length s + 1 = omega arith in
      rw (none, le-ltb (length s) (length s) (le_refl _)) (sym far))
      (λ b.
      let next = at-node t k b in
      rw (lt-ltb (node_at s k) (length s) next.node) (m.number.cell (node_at s k) next.node next.node ∙ next.number ∙ omega arith)))

  -- .. so the distance to it is SIZE
  pub measuring-step : {r : ℕ} → r ≡ end_of work (length s) (get_or work (3 * length s + v) 0)
      → Measuring s (set work (3 * length s + v) (r - get_or work (2 * length s + v) 0)) (v + 1)
  measuring-step {r} e =
      let long : r ≡ get_or work (2 * length s + v) 0 + size s v = e ∙ measuring-ends in
      let q = 3 * length s + v in
      let y = r - get_or work (2 * length s + v) 0 in
      record {
        number = filling-keep m.number q y (λ x hx b. (b, λ g. absurd (omega arith)));
        size = filling-store m.size v refl (omega arith) (omega arith) (λ x hx b. by_equal x v inl (λ g. inr (omega arith)));
        after = filling-keep m.after q y (λ x hx b. (omega arith, λ g. absurd (omega arith)));
      }

-- all nodes are measured
pub measuring-end : {s work : List ℕ} → Measuring s work (length s) → Same work (2 * length s) (label_table s) 0 (2 * length s)
measuring-end {s} {work} m = two-columns s work (2 * length s) (3 * length s) (omega arith) (λ v h. m.number.cell v h h) (λ v h. m.size.cell v h h)
