-- A pair raised to its carrier with no row kept: steps by the powers of two that they are the sum of, and both parts by falling powers while they
-- stay different. Assumes nothing.
use Prim.Native.Nat.{ℕ, suc, ◌+◌, ◌-◌, ◌^◌, ◌≤◌, ◌<◌}
use native.Mathlib.Nat.{pow-suc}
use native.Mathlib.Omega.{arith}
use mathlib.Core.Path.{◌≡◌, sym, ap, ◌∙◌}
use mathlib.Core.Logic.{◌≢◌}
use mathlib.Core.Bool.{true, false}
use mathlib.Core.List.{List, [], ◌∷◌}
use borrow.Author.Tests.{leb-true, leb-false}
use lib.ListN.{length}
use Rattle.bits.specs.Bits.{log2, IsBelow}
use Rattle.bits.proofs.Log.{log2-low, log2-high, log2-mono}
use Rattle.tree.specs.Tree.{climb, level, Tree}
use Rattle.tree.specs.Lca.{lca}
use Rattle.tree.specs.Tables.{own}
use Rattle.tree.specs.Nodes.{Pair}
use Rattle.tree.specs.Trail.{Row, lift_at, raise_both, stays_apart, by_lifts}
use Rattle.tree.proofs.Climbs.{climb-zero, climb-split, climb-inside}
use Rattle.tree.proofs.Trees.{level-below, level-climb, above}
use Rattle.tree.proofs.Levelled.{lift-climbs, pair-carried, carried-only, one-carried, carried-climb}
use Rattle.tree.proofs.Raised.{Raising, under, two-raising, raising, last-raise}
use Rattle.tree.proofs.ByLifts.{lifts-found}
use Rattle.lifting.specs.Stored.{row}

-- ---- steps up

-- from v, `left` steps are left, and lead where all the steps lead from v0
pub record Climbing (s : List ℕ) (v0 steps v left : ℕ) : Type 0 where
  pub ends : climb s left v ≡ climb s steps v0
  pub node : v < length s
  pub few : left < length s

-- the greatest power of two that they hold is a row of the lift table
pub climbing-power : {s : List ℕ} {v0 steps v left : ℕ} → Climbing s v0 steps v left → log2 left ≤ log2 (length s)
climbing-power {s} {left = left} r = log2-mono left (length s) (omega (arith, r.few))

-- .. and is taken first
pub climbing-step : {s : List ℕ} {v0 steps v left up rest : ℕ} → Tree s → Climbing s v0 steps v left → 0 < left
    → up ≡ lift_at (own s) (log2 left) v → rest ≡ left - 2 ^ log2 left → Climbing s v0 steps up rest
climbing-step {s} {v = v} {left} {up} t r some e f =
    let k = log2 left in
    let low = log2-low left some in
    let there : up ≡ climb s (2 ^ k) v = e ∙ lift-climbs s k v (climbing-power r) r.node in
    record {
      ends = rw (there, f) (sym (climb-split s (2 ^ k) (left - 2 ^ k) left v (omega arith)) ∙ r.ends);
      node = rw there (climb-inside s t.inside (2 ^ k) v r.node);
      few = omega (arith, r.few);
    }

-- with none left it is there
pub climbing-end : {s : List ℕ} {v0 steps v left : ℕ} → Climbing s v0 steps v left → left ≤ 0 → IsBelow (climb s steps v0) (length s) v
climbing-end {s} {v = v} {left} r done =
    let none : left ≡ 0 = omega arith in
    record { is = sym (climb-zero s v) ∙ rw none at r.ends; below = r.node }

-- ---- the carrier of a pair

module _ {s : List ℕ} {x y : ℕ} (p : Pair s x y) where
  -- in the other order they have the same
  pub swapped : lca s (y ∷ x ∷ []) ≡ lca s (x ∷ y ∷ [])
  swapped =
      let t = p.small.tree in
      let c = (pair-carried t p.left p.right).lca in
      carried-only t {p = row y x}
      (record {
        inside-x = p.right;
        inside-y = p.left;
        lca = record { part = c.part; left = c.right; right = c.left; lowest = λ d a b. c.lowest d b a };
      })

  -- one part is its own
  pub same-part : x ≡ y → x ≡ lca s (x ∷ y ∷ [])
  same-part e = let t = p.small.tree in one-carried t (pair-carried t p.left p.right) e

  -- the deeper part raised to the other's level has the same with it
  pub levelled-pair : (k : ℕ) {up : ℕ} → level s x ≡ k + level s y → IsBelow (climb s k x) (length s) up
      → Pair s up y × (level s up ≡ level s y) × (lca s (up ∷ y ∷ []) ≡ lca s (x ∷ y ∷ []))
  unfolding climb
  levelled-pair k deeper r =
      let t = p.small.tree in
      let c = pair-carried t p.left p.right in
      let over = (above t p.right c.lca.right).lower in
      let raised : level s (climb s k x) ≡ level s y = omega (arith, level-climb t x k p.left (omega arith)) in (
        record { small = p.small; left = r.below; right = p.right },
        rw r.is raised,
        rw r.is (carried-only t (carried-climb t k 0 (row x y) (omega arith) (omega arith) c)),
      )

  -- it is the route's answer
  pub lca-answers : {r : ℕ} → r ≡ lca s (x ∷ y ∷ []) → r < length s → IsBelow (by_lifts (own s) x y) (length s) r
  lca-answers e h = record { is = e ∙ sym (lifts-found p.small.tree x y p.left p.right); below = h }

-- ---- both parts are raised

-- the powers below 2^k are left to try, for the pair q: so many steps are left at most until both parts stand right under the carrier c
pub record Nearing (s : List ℕ) (c k : ℕ) (q : Row) : Type 0 where
  pub apart : Raising s c q
  pub few : under s c q < 2 ^ k
  pub powers : k ≤ suc (log2 (length s))

-- different parts of one level are raised by no power above it
pub nearing-start : {s : List ℕ} {x y h k : ℕ} → Pair s x y → level s x ≡ level s y → x ≢ y → h ≡ level s y → k ≡ suc (log2 h)
    → Nearing s (lca s (x ∷ y ∷ [])) k (row x y)
nearing-start {s} {x} {y} {h} {k} p same other e f =
    let t = p.small.tree in
    let high : h < 2 ^ k = rw f (log2-high h) in
    record {
      apart = two-raising t (pair-carried t p.left p.right) same other;
      few = omega arith;
      powers = omega (arith, log2-mono h (length s) (omega (arith, level-below t y p.right)));
    }

module _ {s : List ℕ} (t : Tree s) {c k : ℕ} {q : Row} (r : Nearing s c k q) (some : 0 < k) where
  tried : k - 1 < suc (log2 (length s))
  tried = omega (arith, r.powers)

  -- a power that leaves them different
  pub nearing-pass : {up : Row} → stays_apart (own s) (k - 1) q ≡ true → up ≡ raise_both (own s) (k - 1) q → Nearing s c (k - 1) up
  nearing-pass passes e =
      let d = raising t c in
      let far = leb-true _ _ (sym (d.tests (k - 1) q tried r.apart) ∙ passes) in
      let rest = d.falls (k - 1) q tried r.apart far in
      let next : suc (k - 1) ≡ k = omega arith in
      let few : under s c q < 2 ^ suc (k - 1) = rw next r.few in
      record {
        apart = rw e (d.keeps (k - 1) q tried r.apart far);
        few = rw e (omega (arith, pow-suc 2 (k - 1)));
        powers = omega (arith, r.powers);
      }

  -- .. and one by which they meet
  pub nearing-skip : stays_apart (own s) (k - 1) q ≡ false → Nearing s c (k - 1) q
  nearing-skip fails = record {
    apart = r.apart;
    few = leb-false _ _ (sym ((raising t c).tests (k - 1) q tried r.apart) ∙ fails);
    powers = omega (arith, r.powers);
  }

-- with no power left, one step leads to the carrier
pub nearing-end : {s : List ℕ} {c k : ℕ} {q up : Row} → Tree s → Nearing s c k q → k ≤ 0 → up ≡ raise_both (own s) 0 q → up.x ≡ c
nearing-end {k = k} {q} t r done e =
    let none : k ≡ 0 = omega arith in
    let few = rw none at r.few in
    ap (λ (p : Row). p.x) (e ∙ last-raise t q r.apart (omega arith))
