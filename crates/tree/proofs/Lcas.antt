-- Every list of one or more parts of a tree has exactly one lowest common ancestor, and the plain climber finds it.
-- Assumes nothing.
use Prim.Native.Nat.{ℕ, ◌-◌, ◌≤◌, ◌<◌}
use native.Mathlib.Nat.{not-suc-le-zero}
use native.Mathlib.Omega.{arith}
use mathlib.Core.Path.{◌≡◌, refl, sym, ap, ◌∙◌, subst}
use mathlib.Core.Logic.{⊎_elim}
use mathlib.Core.Bool.{Bool, true}
use mathlib.Core.List.{List, [], ◌∷◌, Memᴰ}
use lib.ListN.{length}
use Rattle.tree.specs.Scan.{least}
use Rattle.tree.specs.Tree.{climb, Ancestor, is_ancestor, level, Tree}
use Rattle.tree.specs.Lca.{Parts, Common, Lca, is_common, lca}
use Rattle.tree.proofs.Scans.{least-here, least-at-most, every_true, true-every}
use Rattle.tree.proofs.Climbs.{climb-split, ancestor-inside, met-soon, ancestor-test, test-ancestor}
use Rattle.tree.proofs.Trees.{climb-level, ancestor-antisym}

-- c is a pair's lowest common ancestor
pub record PairLca (s : List ℕ) (x y c : ℕ) : Type 0 where
  pub part : c < length s
  pub left : Ancestor s c x
  pub right : Ancestor s c y
  pub lowest : (d : ℕ) → Ancestor s d x → Ancestor s d y → Ancestor s d c

-- what holds of x and of y holds of each member of the list of both
pub each-of_two : (P : ℕ → Type 0) {x y : ℕ} → P x → P y → (z : ℕ) → Memᴰ z (x ∷ y ∷ []) → P z
each-of_two P p q z m =
    ⊎_elim (λ e. subst P (sym e) p) (λ n. subst P (sym (mathlib.Core.List.Memᴰ.eq_of_singleton n)) q) (mathlib.Core.List.Memᴰ.cases_cons m)

-- what carries both, and is carried by all that does, is the list's carrier
pub lca-of-pair : {s : List ℕ} {x y c : ℕ} → Ancestor s c x → Ancestor s c y → ((d : ℕ) → Ancestor s d x → Ancestor s d y → Ancestor s d c)
    → Lca s (x ∷ y ∷ []) c
lca-of-pair {s} {x} {y} {c} p q lowest = record {
  common = each-of_two (Ancestor s c) p q;
  lowest = λ d k. lowest d (k x (mathlib.Core.List.Memᴰ.head refl)) (k y (mathlib.Core.List.Memᴰ.tail (mathlib.Core.List.Memᴰ.head refl)));
}

module _ {s : List ℕ} (t : Tree s) where
  pub common-test : (xs : List ℕ) (c : ℕ) → Parts s xs → Common s xs c → is_common s xs c ≡ true
  unfolding is_common
  common-test xs c parts common = every_true (is_ancestor s c) xs (λ x m. ancestor-test t.inside (parts x m) (common x m))

  test-common : (xs : List ℕ) (c : ℕ) → is_common s xs c ≡ true → Common s xs c
  unfolding is_common
  test-common xs c e x m = test-ancestor s c x (true-every (is_ancestor s c) xs e x m)

  -- the root carries every part, so the climb from the first part meets a common carrier
  climb-meets : (x : ℕ) (xs : List ℕ) → Parts s (x ∷ xs) → least (λ k. is_common s (x ∷ xs) (climb s k x)) (length s) < length s
  climb-meets x xs parts =
      let h = parts x (mathlib.Core.List.Memᴰ.head refl) in
      met-soon s t.inside (is_common s (x ∷ xs)) x (level s x) h
      (ap (is_common s (x ∷ xs)) (climb-level t x h) ∙ common-test (x ∷ xs) t.root parts (λ y m. t.reach y (parts y m)))

  found : (x : ℕ) (xs : List ℕ) → Parts s (x ∷ xs) → Lca s (x ∷ xs) (lca s (x ∷ xs))
  unfolding lca
  found x xs parts =
      let p : ℕ → Bool = λ k. is_common s (x ∷ xs) (climb s k x) in
      let k : ℕ = least p (length s) in
      let first : Memᴰ x (x ∷ xs) = mathlib.Core.List.Memᴰ.head refl in
      record {
        common = test-common (x ∷ xs) (climb s k x) (least-here p (length s) (climb-meets x xs parts));
        lowest = λ d c.
            let up = c x first in
            let test : p up.steps ≡ true = ap (is_common s (x ∷ xs)) up.reaches ∙ common-test (x ∷ xs) d parts c in
            let soon : k ≤ up.steps = least-at-most p (length s) up.steps test in
            record { steps = up.steps - k; reaches = sym (climb-split s k (up.steps - k) up.steps x (omega arith)) ∙ up.reaches };
      }

  only : (x : ℕ) (xs : List ℕ) (c d : ℕ) → Parts s (x ∷ xs) → Lca s (x ∷ xs) c → Lca s (x ∷ xs) d → c ≡ d
  only x xs c d parts p q =
      let first : Memᴰ x (x ∷ xs) = mathlib.Core.List.Memᴰ.head refl in
      let inside : (a : ℕ) → Common s (x ∷ xs) a → a < length s = λ a h. ancestor-inside t.inside (parts x first) (h x first) in
      ancestor-antisym t (inside c p.common) (inside d q.common) (q.lowest c p.common) (p.lowest d q.common)

  -- the climber's answer is a lowest common ancestor, and there is no other
  pub lca-found : (xs : List ℕ) → 0 < length xs → Parts s xs → Lca s xs (lca s xs)
  lca-found [] h parts = absurd (not-suc-le-zero h)
  lca-found (x ∷ xs) h parts = found x xs parts

  pub lca-only : (xs : List ℕ) (c : ℕ) → 0 < length xs → Parts s xs → Lca s xs c → c ≡ lca s xs
  lca-only [] c h parts p = absurd (not-suc-le-zero h)
  lca-only (x ∷ xs) c h parts p = only x xs c (lca s (x ∷ xs)) parts p (found x xs parts)

  -- ---- of a pair

  pub pair_found : {x y : ℕ} → x < length s → y < length s → Lca s (x ∷ y ∷ []) (lca s (x ∷ y ∷ []))
  pair_found {x} {y} hx hy = found x (y ∷ []) (each-of_two (λ v. v < length s) hx hy)

  pub pair-only : {x y c : ℕ} → x < length s → y < length s → Lca s (x ∷ y ∷ []) c → c ≡ lca s (x ∷ y ∷ [])
  pair-only {x} {y} {c} hx hy l = only x (y ∷ []) c (lca s (x ∷ y ∷ [])) (each-of_two (λ v. v < length s) hx hy) l (pair_found hx hy)

  -- the climber's answer carries both, and is carried by all that does
  pub pair-lca : (x y : ℕ) → x < length s → y < length s → PairLca s x y (lca s (x ∷ y ∷ []))
  pair-lca x y hx hy =
      let r = pair_found hx hy in
      let first = r.common x (mathlib.Core.List.Memᴰ.head refl) in
      record {
        part = ancestor-inside t.inside hx first;
        left = first;
        right = r.common y (mathlib.Core.List.Memᴰ.tail (mathlib.Core.List.Memᴰ.head refl));
        lowest = λ d p q. r.lowest d (each-of_two (Ancestor s d) p q);
      }
