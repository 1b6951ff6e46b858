-- What is shown of the documents' definitions, in their words: of every accepted sheet, and of no other input.
-- Assumes nothing.
use Prim.Native.Nat.{ℕ, ◌+◌, ◌-◌, ◌≤◌, ◌<◌}
use native.Mathlib.Nat.{le_trans}
use native.Mathlib.Omega.{arith}
use mathlib.Core.Path.{◌≡◌, ◌∙◌}
use mathlib.Core.Logic.{◌↔◌}
use mathlib.Core.Bool.{false}
use mathlib.Core.List.{List, [], ◌∷◌, Memᴰ}
use lib.Dec.{lit<}
use lib.ListN.{length, get_or, take, drop}
use Rattle.tree.specs.Tree.{climb, Ancestor, root_of, level, Tree}
use Rattle.tree.specs.Lca.{Parts, Lca, lca}
use Rattle.tree.specs.Tests.{limit, Accepted}
use Rattle.tree.specs.Preorder.{Preorder, preorder, preorder_number, size, subtree}
use Rattle.tree.specs.Buffers.{label_cells, tour_cells, lift_cells, order_cells, work_cells, Fit, tables_fits}
use Rattle.tree.specs.Labels.{inlabel, topmost, label_table}
use Rattle.tree.specs.Tour.{tour_table}
use Rattle.tree.specs.Lifts.{lift_table}
use Rattle.tree.specs.Tables.{Lent, own}
use Rattle.tree.specs.Lending.{unfit_of}
use Rattle.tree.specs.Routes.{by_labels, by_tour}
use Rattle.tree.specs.Trail.{trail, by_lifts, lifts, lift_count}
use Rattle.tree.specs.Branch.{Branch, branch, Answer, IsAnswer, pair_answer, answer_by}
use Rattle.tree.proofs.Trees.{root-found, level-below, climb-level}
use Rattle.tree.proofs.Lcas.{lca-found, lca-only}
use Rattle.tree.proofs.Preorders.{preorder-meets, preorder-only}
use Rattle.tree.proofs.Inlabels.{MostZeros, size-pos, inlabel-most, inlabel-formula}
use Rattle.tree.proofs.Intervals.{carried_from, carried-to, interval-carried}
use Rattle.tree.proofs.Sizes.{preorder-length}
use Rattle.tree.proofs.Subtrees.{subtree-slice, subtree-length, subtree-first, subtree-member}
use Rattle.tree.proofs.Tours.{tour-length}
use Rattle.tree.proofs.Cells.{label-length, tour_table-length, lift-length}
use Rattle.tree.proofs.ByLabels.{labels-lca}
use Rattle.tree.proofs.ByTour.{tour-lca}
use Rattle.tree.proofs.ByLifts.{lifts-lca, lifts-count}
use Rattle.tree.proofs.Branches.{branch-found, branch-only, answer-found, rule-answer, answer-only}
use Rattle.tree.proofs.Fits.{unfit-lowest, lower-first, lower-further}
use Rattle.tree.proofs.Acceptance.{accepted-tree, tree-accepted}

-- "With buffers that fit, a sheet of 1 to 16,384 parts is accepted exactly if it is one rooted tree", which has at least its root
pub accepted-exactly : (s : List ℕ) → Accepted s ↔ (Tree s × (length s ≤ limit))
accepted-exactly s = (accepted-tree s, λ t. tree-accepted s t.0 t.1)

-- a climb meets the root in fewer than n steps, after LEVEL of them
pub climb-meets-root : (s : List ℕ) → Accepted s → (v : ℕ) → v < length s → (level s v < length s) × (climb s (level s v) v ≡ root_of s)
climb-meets-root s a v h = let t = (accepted-tree s a).0 in (level-below t v h, climb-level t v h ∙ root-found t)

-- every list of one or more parts has exactly one carrier, and the climber finds it
pub one-carrier : (s : List ℕ) → Accepted s → (xs : List ℕ) → 0 < length xs → Parts s xs → Lca s xs (lca s xs) × ((c : ℕ) → Lca s xs c → c ≡ lca s xs)
one-carrier s a xs h parts = let t = (accepted-tree s a).0 in (lca-found t xs h parts, λ c p. lca-only t xs c h parts p)

-- the preorder list is the one order that meets the document's three sentences
pub one-preorder : (s : List ℕ) → Accepted s → Preorder s (preorder s) × ((o : List ℕ) → Preorder s o → o ≡ preorder s)
one-preorder s a = let t = (accepted-tree s a).0 in (preorder-meets t, preorder-only t)

-- INLABEL is the one number of PREORDER..PREORDER+SIZE−1 with most rightmost zero bits, and it is the formula's
pub inlabel-agrees : (s : List ℕ) → Accepted s → (v : ℕ) → v < length s
    → MostZeros (preorder_number s v) (size s v) (inlabel s v) × (inlabel s v ≡ topmost (preorder_number s v) (size s v))
inlabel-agrees s a v h = let t = (accepted-tree s a).0 in (inlabel-most t v h, inlabel-formula t v h)

-- a part carries exactly the parts whose PREORDER is in PREORDER..PREORDER+SIZE−1
pub carries-interval : (s : List ℕ) → Accepted s → (a v : ℕ) → a < length s → v < length s
    → Ancestor s a v ↔ ((preorder_number s a ≤ preorder_number s v) × (preorder_number s v < preorder_number s a + size s a))
carries-interval s e a v ha hv =
    let t = (accepted-tree s e).0 in (
      λ p. let some = size-pos t v hv in let within = carried-to t hv p in (carried_from t hv p, omega arith),
      λ q. interval-carried t ha hv q.0 q.1,
    )

-- document 02, 2026-01: the parts that a part carries are one stretch of the preorder, as long as SIZE, "beginning with it and holding every part it carries and
-- no other"
pub one-stretch : (s : List ℕ) → Accepted s → (v : ℕ) → v < length s
    → (subtree s v ≡ take (size s v) (drop (preorder_number s v - 1) (preorder s))) × (length (subtree s v) ≡ size s v) × (get_or (subtree s v) 0 0 ≡ v)
    × ((u : ℕ) → Memᴰ u (subtree s v) ↔ ((u < length s) × Ancestor s v u))
one-stretch s e v h = let t = (accepted-tree s e).0 in (subtree-slice t v h, subtree-length t v h, subtree-first t v h, subtree-member t v h)

-- an accepted sheet's own tables have the exact lengths that a call asks for
pub own-tables-fit : (s : List ℕ) → Accepted s
    → (length (label_table s) ≡ label_cells (length s)) × (length (tour_table s) ≡ tour_cells (length s)) × (length (lift_table s) ≡ lift_cells (length s))
    × (length (preorder s) ≡ order_cells (length s))
own-tables-fit s e =
    let t = (accepted-tree s e).0 in
    (label-length s, tour_table-length s (tour-length t), lift-length s, preorder-length t)

-- "misfit .. lowest buffer below": where a table or work does not fit, or a buffer of the call's own, that or a lower one is named
pub misfit-lowest : (t : Lent) (work : List ℕ) (further : ℕ) (b : Fit)
    → Memᴰ b
    (tables_fits (length t.parents) (length t.label) (length t.tour) (length t.lift) (length t.order) (work_cells (length t.parents)) (length work))
    → b.fits ≡ false → (0 < unfit_of t work further) × (unfit_of t work further ≤ b.buffer)
misfit-lowest t work further b m e =
    let (some, most) = unfit-lowest 0 _ (lit< tt, (lit< tt, (lit< tt, (lit< tt, (lit< tt, tt))))) b m e in
    let (named, low) = lower-first _ further some in
    (named, le_trans low most)

pub misfit-further : (t : Lent) (work : List ℕ) (further : ℕ) → 0 < further → (0 < unfit_of t work further) × (unfit_of t work further ≤ further)
misfit-further t work further some = lower-further _ further some

-- document 02, 2026-03: a part that carries x has exactly one branch towards it, and the climber finds it
pub one-branch : (s : List ℕ) → Accepted s → (c x : ℕ) → x < length s → Ancestor s c x
    → Branch s c x (branch s c x) × ((b : ℕ) → Branch s c x b → b ≡ branch s c x)
one-branch s e c x h p = let t = (accepted-tree s e).0 in (branch-found t h p, λ b q. branch-only t h q (branch-found t h p))

-- so two parts have exactly one answer: their carrier, and its branch towards each
pub one_answer : (s : List ℕ) → Accepted s → (x y : ℕ) → x < length s → y < length s
    → IsAnswer s x y (pair_answer s x y) × ((a : Answer) → IsAnswer s x y a → a ≡ pair_answer s x y)
one_answer s e x y hx hy = let t = (accepted-tree s e).0 in (answer-found t hx hy, λ a p. answer-only t hx hy p (answer-found t hx hy))

-- each of the three rules, on an accepted sheet's own tables, gives the answer to two parts, carrier and branches: so they agree
pub rules-agree : (s : List ℕ) → Accepted s → (x y : ℕ) → x < length s → y < length s
    → (answer_by by_labels (own s) x y ≡ pair_answer s x y) × (answer_by by_tour (own s) x y ≡ pair_answer s x y) × (answer_by by_lifts (own s) x y ≡ pair_answer s x y)
rules-agree s e x y hx hy =
    let t = (accepted-tree s e).0 in
    let only : (rule : Lent → ℕ → ℕ → ℕ) → Lca s (x ∷ y ∷ []) (rule (own s) x y) → answer_by rule (own s) x y ≡ pair_answer s x y = λ rule l.
    answer-only t hx hy (rule-answer t rule hx hy l) (answer-found t hx hy) in
    (only by_labels (labels-lca t x y hx hy), only by_tour (tour-lca t x y hx hy), only by_lifts (lifts-lca t x y hx hy))

-- the lift rule's trail has as many rows as the sum of ones says
pub trail-rows : (s : List ℕ) → Accepted s → (x y : ℕ) → x < length s → y < length s → length (trail (own s) x y) ≡ lift_count s x y
unfolding lifts
trail-rows s e x y hx hy = lifts-count (accepted-tree s e).0 x y hx hy
