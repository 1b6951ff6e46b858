-- What a search for a word has found, and how one for a number goes on, byte by byte.
-- Assumes nothing.
use Prim.Native.Nat.{ℕ, ◌+◌, ◌*◌, ◌≤◌, ◌<◌}
use native.Mathlib.Omega.{arith}
use mathlib.Core.Path.{◌≡◌, refl, sym, ap, ◌∙◌}
use mathlib.Core.Bool.{Bool, true, false}
use mathlib.Core.List.{List, [], ◌∷◌}
use mathlib.Core.Option.{Option, none, some, bind}
use borrow.Author.Tests.{eq-eqb, ne_eqb, le-leb, lt-leb}
use denote.Ref.{Bor}
use lib.Dec.{eqb}
use lib.ListN.{length, take, drop, get_or}
use Rattle.std.specs.Prelude.{Some, None}
use Rattle.std.specs.Cmp.Lexicographic.{pointwise}
use Rattle.std.proofs.lemmas.Bool.Decides.{Decides-eqb}
use Rattle.std.proofs.lemmas.Slice.Eq.{strip_prefix_is}
use Rattle.text.specs.Bytes.{zero_digit}
use Rattle.text.specs.Fields.{after, digit, highest, number_from, number, number_then}
use Rattle.text.proofs.Numerals.{Digit, digit-is, no-digit, after-read, after-exact}

-- ---- a word, by what `strip_prefix` says

-- its bytes are the first ones
abbrev begun : List ℕ → List ℕ → Bool
begun w b = pointwise eqb (take (length w) b) w

module _ (w b : List ℕ) where
  -- it stands at the beginning, and the bytes behind it are left
  pub word-there : (rest : Bor (List ℕ)) → (begun w b ≡ true) × (rest.now ≡ drop (length w) b) × (length rest.now + length w ≡ length b)
      → some rest.now ≡ after w b
  word-there rest m = sym (ap (after w) (strip_prefix_is Decides-eqb b w (Some rest) m) ∙ after-read w rest.now)

  -- it does not
  pub no-word : begun w b ≡ false → none ≡ after w b
  no-word m = none_of (after w b) refl
    where
      none_of : (o : Option (List ℕ)) → after w b ≡ o → none ≡ after w b
      none_of none e = sym e
      none_of (some rest) e = absurd (strip_prefix_is Decides-eqb b w None m rest (after-exact w b rest e))

-- ---- a number's digits, from its first on

-- a byte that is no digit ends it, and so does the bytes' end
pub number-stops : (v : ℕ) (b : List ℕ) → (0 < length b → Digit (get_or b 0 0) → ⊥) → some (v, b) ≡ number_from v b
unfolding number_from
number-stops v [] f = refl
number-stops v (x ∷ b) f = rw (no-digit x (f (omega arith))) refl

-- a digit goes on with it
pub number-more : (v : ℕ) (b : List ℕ) {w : ℕ} {rest : List ℕ} → 0 < length b → Digit (get_or b 0 0) → rest ≡ drop 1 b
    → w ≡ 10 * v + digit (get_or b 0 0) → w ≤ highest → number_from w rest ≡ number_from v b
unfolding number_from
number-more v [] h d r e s = absurd (omega arith)
number-more v (x ∷ b) h d r e s = rw (r, e, digit-is x d, le-leb _ _ (rw e at s)) refl

-- a digit makes it too large
pub number-large : (v : ℕ) (b : List ℕ) → 0 < length b → Digit (get_or b 0 0) → highest < 10 * v + digit (get_or b 0 0) → none ≡ number_from v b
unfolding number_from
number-large v [] h d s = absurd (omega arith)
number-large v (x ∷ b) h d s = rw (digit-is x d, lt-leb _ _ s) refl

-- ---- a number's first byte

-- the digit 0 is the whole number
pub number-zero : (b : List ℕ) {rest : List ℕ} → 0 < length b → get_or b 0 0 ≡ zero_digit → rest ≡ drop 1 b → some (0, rest) ≡ number b
unfolding number
number-zero [] h e r = absurd (omega arith)
number-zero (x ∷ b) h e r = rw (r, eq-eqb _ _ e) refl

-- another digit begins one, whose other digits are behind it
pub number-digit : (b : List ℕ) {rest : List ℕ} {o : Option (ℕ × List ℕ)} → 0 < length b → Digit (get_or b 0 0) → zero_digit < get_or b 0 0 → rest ≡ drop 1 b
    → o ≡ number_from (digit (get_or b 0 0)) rest → o ≡ number b
unfolding number
number-digit [] h d above r e = absurd (omega arith)
number-digit (x ∷ b) h d above r e = let more : x ≡ zero_digit → ⊥ = λ q. omega arith in e ∙ rw (r, ne_eqb _ _ more, digit-is x d) refl

-- no number begins with a byte that is no digit, or where there is none
pub number-none : (b : List ℕ) → (0 < length b → Digit (get_or b 0 0) → ⊥) → none ≡ number b
unfolding number
number-none [] f = refl
number-none (x ∷ b) f =
    let e : x ≡ zero_digit → ⊥ = λ q. f (omega arith) (record { low = omega arith; high = omega arith }) in
    rw (ne_eqb _ _ e, no-digit x (f (omega arith))) refl

-- ---- a number with a word behind it

module _ (w b : List ℕ) where
  -- there is no number
  pub then-no-number : none ≡ number b → none ≡ number_then w b
  unfolding number_then bind
  then-no-number e = rw (sym e) refl

  -- there is one, with no such word behind it
  pub then-no-word : {n : ℕ} {rest : List ℕ} → some (n, rest) ≡ number b → none ≡ after w rest → none ≡ number_then w b
  unfolding number_then bind
  then-no-word e f = rw (sym e, sym f) refl

  -- or with the word
  pub then-word : {n : ℕ} {rest behind : List ℕ} → some (n, rest) ≡ number b → some behind ≡ after w rest → some (n, behind) ≡ number_then w b
  unfolding number_then bind
  then-word e f = rw (sym e, sym f) refl
