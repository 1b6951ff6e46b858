-- INLABEL: document 01's wording and its formula agree. The formula gives the one number of an interval that has most rightmost zero bits.
-- Assumes nothing.
use Prim.Native.Nat.{ℕ, zero, suc, ◌+◌, ◌-◌, ◌*◌, ◌/◌, ◌%◌, ◌^◌, ◌≤◌, ◌<◌}
use native.Mathlib.Nat.{le_antisymm, le_of_suc-le-suc, not-suc-le-zero, one-mul, mul_comm, suc-mul, pow-suc, pos_of_ne-zero, zero-lt-suc}
use native.Mathlib.Nat.{div-mul-le_self, div-lt_iff_lt-mul, le-div_iff_mul-le, lt-div-mul-add}
use native.Mathlib.Omega.{arith}
use mathlib.Core.Path.{◌≡◌, sym, ap, ◌∙◌, subst}
use mathlib.Core.Logic.{◌≢◌}
use mathlib.Core.Bool.{true, false}
use mathlib.Core.List.{List}
use borrow.Author.Tests.{ltb-false}
use lib.Bits.{bit_xor, differ, xor_step, xor_shr, xor_self}
use lib.ListN.{length}
use lib.Pow.{pow_pos, shr_mono}
use Rattle.bits.specs.Bits.{log2, rightmost_zeros, clear_below}
use Rattle.bits.proofs.Log.{log2-low, log2-high}
use Rattle.bits.proofs.Zeros.{zeros_of, zeros-divide}
use Rattle.bits.proofs.Ones.{shift_suc, xor-zero}
use Rattle.tree.specs.Scan.{best, numbers_from}
use Rattle.tree.specs.Tree.{is_ancestor, Tree}
use Rattle.tree.specs.Preorder.{preorder_number, size}
use Rattle.tree.specs.Labels.{more_zeros, most_zeros, inlabel, topmost}
use Rattle.tree.proofs.Scans.{by_order, by_equal, count-pos}
use Rattle.tree.proofs.Climbs.{ancestor-refl, ancestor-test}
use Rattle.tree.proofs.Bests.{ltb-asym, ltb-trans, best-is, numbers-length, numbers-member, member-numbers}

-- of the k numbers from a on, m has most rightmost zero bits, and each other has fewer
pub record MostZeros (a k m : ℕ) : Type 0 where
  pub from : a ≤ m
  pub to : m < a + k
  pub most : (j : ℕ) → a ≤ j → j < a + k → j ≢ m → rightmost_zeros j < rightmost_zeros m

-- ---- the highest bit in which two numbers differ

-- numbers that differ in their lowest bit alone
xor-one : (p q : ℕ) → bit_xor p q ≡ 1 → (p / 2 ≡ q / 2) × (p ≢ q)
xor-one p q e =
    let step : bit_xor (p / 2) (q / 2) * 2 + differ (p % 2) (q % 2) ≡ 1 = sym (xor_step p q) ∙ e in
    let none : bit_xor (p / 2) (q / 2) ≡ 0 = omega arith in
    (xor-zero (p / 2) (q / 2) none, λ same. let z : ◌≡◌ {A = ℕ} 0 1 = sym (xor_self p) ∙ ap (bit_xor p) same ∙ e in omega arith)

-- x and y agree above bit i, where x has 0 and y has 1
record Top (x y i : ℕ) : Type 0 where
  odd : y / 2 ^ i % 2 ≡ 1
  next : y / 2 ^ i ≡ suc (x / 2 ^ i)

top : (x y : ℕ) → x < y → Top x y (log2 (bit_xor x y))
top x y h =
    let z = bit_xor x y in
    let i = log2 z in
    let some : 0 < z = pos_of_ne-zero (λ e. let q = xor-zero x y e in omega arith) in
    let below : z / 2 ^ i < 2 = (div-lt_iff_lt-mul (pow_pos i)).1 (rw (mul_comm, ← pow-suc) (log2-high z)) in
    let reached : 1 ≤ z / 2 ^ i = (le-div_iff_mul-le (pow_pos i)).1 (rw one-mul (log2-low z some)) in
    let one : bit_xor (x / 2 ^ i) (y / 2 ^ i) ≡ 1 = sym (xor_shr x y i) ∙ le_antisymm (le_of_suc-le-suc below) reached in
    let (halves, other) = xor-one (x / 2 ^ i) (y / 2 ^ i) one in
    let up : x / 2 ^ i ≤ y / 2 ^ i = shr_mono i (omega arith) in
    record { odd = omega arith; next = omega arith }

-- ---- the formula's number

-- a multiple of 2^i above x and up to y is the one that begins y's block
one-multiple : (x y i j : ℕ) → Top x y i → x < j → j ≤ y → j / 2 ^ i * 2 ^ i ≡ j → j ≡ y / 2 ^ i * 2 ^ i
one-multiple x y i j t h b e =
    let low : x / 2 ^ i ≤ j / 2 ^ i = shr_mono i (omega arith) in
    let high : j / 2 ^ i ≤ y / 2 ^ i = shr_mono i b in
    let next = t.next in
    let other : j / 2 ^ i ≢ x / 2 ^ i = λ q.
    let same : x / 2 ^ i * 2 ^ i ≡ j = ap (λ (m : ℕ). m * 2 ^ i) (sym q) ∙ e in
    let most : x / 2 ^ i * 2 ^ i ≤ x = div-mul-le_self x (2 ^ i) in
    omega arith in
    let q : j / 2 ^ i ≡ y / 2 ^ i = omega arith in
    sym e ∙ ap (λ (m : ℕ). m * 2 ^ i) q

block-most : (x y i : ℕ) → Top x y i → (k : ℕ) → suc x + k ≡ suc y → MostZeros (suc x) k (y / 2 ^ i * 2 ^ i)
block-most x y i t k e =
    let m = y / 2 ^ i * 2 ^ i in
    let zeros : rightmost_zeros m ≡ i = zeros_of (y / 2 ^ i) i t.odd in
    let most : m ≤ y = div-mul-le_self y (2 ^ i) in
    let after : x < x / 2 ^ i * 2 ^ i + 2 ^ i = lt-div-mul-add (pow_pos i) in
    let begins : m ≡ x / 2 ^ i * 2 ^ i + 2 ^ i = ap (λ (q : ℕ). q * 2 ^ i) t.next ∙ suc-mul (x / 2 ^ i) (2 ^ i) in
    record {
      from = omega arith;
      to = omega arith;
      most = λ j h b q.
          by_order i (rightmost_zeros j)
          (λ l. absurd (q (one-multiple x y i j t h (omega arith) (zeros-divide j i l))))
          (λ l. omega arith);
    }

-- the numbers above x and up to y agree above bit i
block-above : (x y i j : ℕ) → Top x y i → x < j → j ≤ y → j / 2 ^ suc i ≡ y / 2 ^ suc i
block-above x y i j t h b =
    let low : x / 2 ^ i ≤ j / 2 ^ i = shr_mono i (omega arith) in
    let high : j / 2 ^ i ≤ y / 2 ^ i = shr_mono i b in
    let halves : j / 2 ^ i / 2 ≡ y / 2 ^ i / 2 = omega arith in
    shift_suc j i ∙ halves ∙ sym (shift_suc y i)

pub topmost-most : (a k : ℕ) → 0 < a → 0 < k → MostZeros a k (topmost a k)
unfolding topmost clear_below
topmost-most (suc x) k h b =
    let y = suc x + k - 1 in
    let less : x < y = omega arith in
    let begin : suc x - 1 ≡ x = omega arith in
    rw begin (block-most x y (log2 (bit_xor x y)) (top x y less) k (omega arith))
topmost-most zero k h b = absurd (not-suc-le-zero h)

-- the numbers of the interval agree above its lowest one bit
topmost-above : (a k j : ℕ) → 0 < a → a ≤ j → j < a + k
    → j / 2 ^ suc (rightmost_zeros (topmost a k)) ≡ topmost a k / 2 ^ suc (rightmost_zeros (topmost a k))
unfolding topmost clear_below
topmost-above (suc x) k j h from to =
    let y = suc x + k - 1 in
    let less : x < y = omega arith in
    let begin : suc x - 1 ≡ x = omega arith in
    let i = log2 (bit_xor x y) in
    let highest = top x y less in
    let m = y / 2 ^ i * 2 ^ i in
    let most = block-most x y i highest k (omega arith) in
    let zeros : rightmost_zeros m ≡ i = zeros_of (y / 2 ^ i) i highest.odd in
    let here : m / 2 ^ suc i ≡ y / 2 ^ suc i = block-above x y i m highest most.from (omega arith) in
    rw (begin, zeros) (block-above x y i j highest from (omega arith) ∙ sym here)
topmost-above zero k j h from to = absurd (not-suc-le-zero h)

-- ---- the wording's number

more-asym : (x y : ℕ) → more_zeros x y ≡ true → more_zeros y x ≡ false
more-asym x y e = ltb-asym (rightmost_zeros y) (rightmost_zeros x) e

more-trans : (x y z : ℕ) → more_zeros x y ≡ false → more_zeros y z ≡ false → more_zeros x z ≡ false
more-trans x y z e f = ltb-trans (rightmost_zeros z) (rightmost_zeros y) (rightmost_zeros x) f e

-- the search finds the number that has most
pub most-found : (a k m : ℕ) → 0 < k → MostZeros a k m → most_zeros a k ≡ m
unfolding most_zeros
most-found a k m h t =
    let r = best more_zeros 0 (numbers_from a k) in
    let b = best-is more_zeros more-asym more-trans 0 (numbers_from a k) (subst (λ (n : ℕ). 0 < n) (sym (numbers-length a k)) h) in
    let (low, high) = numbers-member a k r b.member in
    by_equal r m (λ e. e)
    (λ e.
    let less : rightmost_zeros r < rightmost_zeros m = t.most r low high e in
    let not_more : rightmost_zeros m ≤ rightmost_zeros r = ltb-false _ _ (b.wins m (member-numbers a k m t.from t.to)) in
    absurd (omega arith))

-- ---- INLABEL

-- a part carries itself, so its SIZE is not 0
pub size-pos : {s : List ℕ} → Tree s → (v : ℕ) → v < length s → 0 < size s v
unfolding size
size-pos {s} t v h = count-pos (is_ancestor s v) (length s) v h (ancestor-test t.inside h (ancestor-refl s v))

-- INLABEL is the one number of PREORDER..PREORDER+SIZE−1 with most rightmost zero bits, and the formula's number
pub inlabel-formula : {s : List ℕ} → Tree s → (v : ℕ) → v < length s → inlabel s v ≡ topmost (preorder_number s v) (size s v)
unfolding inlabel preorder_number
inlabel-formula {s} t v h =
    most-found (preorder_number s v) (size s v) _ (size-pos t v h) (topmost-most _ _ (zero-lt-suc _) (size-pos t v h))

pub inlabel-most : {s : List ℕ} → Tree s → (v : ℕ) → v < length s → MostZeros (preorder_number s v) (size s v) (inlabel s v)
unfolding preorder_number
inlabel-most {s} t v h = rw (inlabel-formula t v h) (topmost-most _ _ (zero-lt-suc _) (size-pos t v h))

-- the numbers of the interval agree above INLABEL's lowest one bit
pub inlabel-above : {s : List ℕ} → Tree s → (v j : ℕ) → v < length s → preorder_number s v ≤ j → j < preorder_number s v + size s v
    → j / 2 ^ suc (rightmost_zeros (inlabel s v)) ≡ inlabel s v / 2 ^ suc (rightmost_zeros (inlabel s v))
unfolding preorder_number
inlabel-above {s} t v j h from to = rw (inlabel-formula t v h) (topmost-above _ _ j (zero-lt-suc _) from to)
