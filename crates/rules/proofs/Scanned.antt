-- The first and the last of a list in preorder, found by a scan of the list: what is left of it decides.
-- Assumes nothing.
use Prim.Native.Nat.{ℕ, ◌+◌, ◌-◌, ◌≤◌, ◌<◌}
use native.Mathlib.Omega.{arith}
use native.Mathlib.Nat.{add_comm, not-suc-le-zero}
use native.Mathlib.Numerals.{add-one}
use mathlib.Core.Path.{◌≡◌, refl, sym, ◌∙◌}
use mathlib.Core.Bool.{Bool, true, false, cond}
use mathlib.Core.List.{List, [], ◌∷◌}
use lib.Dec.{ltb}
use lib.ListN.{length, get_or, take, drop, drop_of_length-le}
use Rattle.std.proofs.lemmas.Grind.{common_steps}
use Rattle.std.proofs.lemmas.List.{get_or-drop, length-take, length-drop}
use lib.Seq.{drop-cons}
use Rattle.tree.specs.Scan.{best_from, best}
use Rattle.tree.specs.Preorder.{preorder_number}
use Rattle.tree.specs.Labels.{label_table}
use Rattle.tree.specs.Sharing.{first_in_preorder, last_in_preorder}
use Rattle.tree.specs.Nodes.{Listed}
use Rattle.rules.proofs.Cells.{number-cell}

-- ---- the best of a list

-- the first member, and then the rest
best-start : (better : ℕ → ℕ → Bool) (q : List ℕ) → 0 < length q → best_from better (get_or q 0 0) (drop 1 q) ≡ best better 0 q
unfolding best
best-start better [] h = absurd (not-suc-le-zero h)
best-start better (x ∷ xs) h = refl

module _ (better : ℕ → ℕ → Bool) (q : List ℕ) where
  -- one member more
  best-step : (b i : ℕ) → i < length q → best_from better b (drop i q) ≡ best_from better (cond (better (get_or q i 0) b) (get_or q i 0) b) (drop (i + 1) q)
  unfolding best_from
  best-step b i h = rw (add-one, drop-cons q i 0 h)

  -- none is left
  best-end : (b i : ℕ) → length q ≤ i → best_from better b (drop i q) ≡ b
  unfolding best_from
  best-end b i h = rw (drop_of_length-le q h)

-- the members after the first, and one of them
after-first : (q : List ℕ) → take (length q - 1) (drop 1 q) ≡ drop 1 q
after-first q = grind (arith, common_steps)

pub record Member (q : List ℕ) (i : ℕ) : Type 0 where
  pub inside : i + 1 < length q
  pub is : get_or (take (length q - 1) (drop 1 q)) i 0 ≡ get_or q (i + 1) 0

pub member : (q : List ℕ) (i : ℕ) → i < length (take (length q - 1) (drop 1 q)) → Member q i
member q i h = record {
  inside = omega (arith, length-take {A = ℕ}, length-drop {A = ℕ});
  is = rw after-first (get_or-drop 1 q i 0 ∙ rw add_comm);
}

-- ---- both ends of a list

-- a node of lesser PREORDER, and one of greater
abbrev earlier : List ℕ → ℕ → ℕ → Bool
earlier s x y = ltb (preorder_number s x) (preorder_number s y)

abbrev later : List ℕ → ℕ → ℕ → Bool
later s x y = ltb (preorder_number s y) (preorder_number s x)

-- the first and the last of the i members passed, at least one
pub record Scanned (s q : List ℕ) (first last i : ℕ) : Type 0 where
  pub first-node : first < length s
  pub last-node : last < length s
  pub first-is : best_from (earlier s) first (drop i q) ≡ first_in_preorder s q
  pub last-is : best_from (later s) last (drop i q) ≡ last_in_preorder s q

-- one of two nodes
one_of : (b : Bool) {x y n : ℕ} → x < n → y < n → cond b x y < n
one_of true h g = h
one_of false h g = g

pub scanned-start : {s q : List ℕ} → Listed s q → Scanned s q (get_or q 0 0) (get_or q 0 0) 1
unfolding first_in_preorder last_in_preorder
scanned-start {s} {q} l =
    let node = l.part 0 l.some in
    record { first-node = node; last-node = node; first-is = best-start (earlier s) q l.some; last-is = best-start (later s) q l.some }

pub scanned-step : {s label q : List ℕ} {first last i f g : ℕ} → Listed s q → label ≡ label_table s → i < length q → Scanned s q first last i
    → f ≡ cond (ltb (get_or label (get_or q i 0) 0) (get_or label first 0)) (get_or q i 0) first
    → g ≡ cond (ltb (get_or label last 0) (get_or label (get_or q i 0) 0)) (get_or q i 0) last
    → Scanned s q f g (i + 1)
scanned-step {s} {label} {q} {first} {last} {i} l mine h p ef eg =
    let v = get_or q i 0 in
    let node = l.part i h in
    let here = number-cell s mine v node in
    let fe = rw (here, number-cell s mine first p.first-node) at ef in
    let ge = rw (here, number-cell s mine last p.last-node) at eg in
    record {
      first-node = rw fe (one_of (earlier s v first) node p.first-node);
      last-node = rw ge (one_of (later s v last) node p.last-node);
      first-is = rw fe (sym (best-step (earlier s) q first i h) ∙ p.first-is);
      last-is = rw ge (sym (best-step (later s) q last i h) ∙ p.last-is);
    }

pub scanned-end : {s q : List ℕ} {first last i : ℕ} → Scanned s q first last i → length q ≤ i → (first ≡ first_in_preorder s q) × (last ≡ last_in_preorder s q)
scanned-end {s} {q} {first} {last} {i} p h =
    (sym (best-end (earlier s) q first i h) ∙ p.first-is, sym (best-end (later s) q last i h) ∙ p.last-is)
