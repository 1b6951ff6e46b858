-- Laws of `specs/Fields.antt`: a word, a number, and a number with a word behind it are read exactly where they are printed.
-- Assumes nothing.
use Prim.Native.Nat.{ℕ, zero, suc, ◌+◌, ◌*◌, ◌/◌, ◌%◌, ◌≤◌, ◌<◌}
use native.Mathlib.Nat.{le_refl}
use native.Mathlib.Omega.{arith}
use mathlib.Core.Path.{◌≡◌, refl, sym, ap, ◌∙◌}
use mathlib.Core.Bool.{true, false, false≢true}
use mathlib.Core.List.{List, [], ◌∷◌, ◌++◌, append_assoc}
use mathlib.Core.Option.{Option, none, some, bind, bind-eq-some_iff, some_inj, none-ne-some}
use borrow.Author.Tests.{le-leb, leb-true, eq-eqb, ne_eqb, eqb-true, eqb-false}
use borrow.Table.Steps.{cases}
use lib.Dec.{leb, eqb}
use Rattle.text.specs.Bytes.{decimal_in, decimal}
use Rattle.text.specs.Fields.{after, is_digit, digit, highest, number_from, number, number_then}
use Rattle.text.proofs.Decimals.{by_digits, decimal-small, decimal_step}

-- ---- words

-- a word that stands there is read
pub after-read : (w b : List ℕ) → after w (w ++ b) ≡ some b
unfolding after
after-read [] b = refl
after-read (x ∷ w) b = rw (eq-eqb x x refl) (after-read w b)

-- and nothing else
pub after-exact : (w b b' : List ℕ) → after w b ≡ some b' → b ≡ w ++ b'
unfolding after
after-exact [] b b' e = cc
after-exact (x ∷ w) [] b' e = cc
after-exact (x ∷ w) (y ∷ b) b' e =
    let rest = after-exact w b b' in
    cases (eqb y x)
    (λ t. let same : y ≡ x = eqb-true y x t in let more : b ≡ w ++ b' = rest (rw t at e) in cc)
    (λ f. let never : none ≡ some b' = rw f at e in cc)

-- ---- digits

-- a byte is one of the ten digits
pub record Digit (x : ℕ) : Type 0 where
  pub low : 48 ≤ x
  pub high : x ≤ 57

-- the test says so
pub digit-tested : (x : ℕ) → is_digit x ≡ true → Digit x
digit-tested x e =
    cases (leb 48 x)
    (λ a. record { low = leb-true 48 x a; high = leb-true x 57 (rw a at e) })
    (λ a. absurd (false≢true (rw a at e)))

-- and passes there
pub digit-is : (x : ℕ) → Digit x → is_digit x ≡ true
digit-is x d = rw (le-leb 48 x d.low, le-leb x 57 d.high)

-- and nowhere else
pub no-digit : (x : ℕ) → (Digit x → ⊥) → is_digit x ≡ false
no-digit x f = cases (is_digit x) (λ t. absurd (f (digit-tested x t))) (λ t. t)

-- no digit stands there
abbrev pub NoDigit : List ℕ → Type 0
NoDigit [] = Unit {0}
NoDigit (x ∷ b) = is_digit x ≡ false

-- one digit more
decimal-more : (v x : ℕ) → 0 < v → Digit x → decimal (10 * v + digit x) ≡ decimal v ++ (x ∷ [])
decimal-more v x pos d =
    let n = 10 * v + digit x in
    let tens : n / 10 ≡ v = omega arith in
    let last : 48 + n % 10 ≡ x = omega arith in
    decimal_step n (omega arith) ∙ rw (tens, last)

-- ---- numbers are read where they are printed

-- a digit is read with those before it
from-digit : (v x : ℕ) (b : List ℕ) → Digit x → 10 * v + digit x ≤ highest → number_from v (x ∷ b) ≡ number_from (10 * v + digit x) b
unfolding number_from
from-digit v x b d fits = rw (digit-is x d, le-leb (10 * v + digit x) highest fits)

-- the first one alone, where it is not 0
first-digit : (x : ℕ) (b : List ℕ) → Digit x → 48 < x → number (x ∷ b) ≡ number_from (digit x) b
unfolding number
first-digit x b d pos = rw (ne_eqb x 48 (λ e. omega arith), digit-is x d)

-- a number ends where no digit is
from_end : (v : ℕ) (b : List ℕ) → NoDigit b → number_from v b ≡ some (v, b)
unfolding number_from
from_end v [] h = refl
from_end v (x ∷ b) h = rw h

-- all digits of a number are read, with room for k
read-digits : (k n : ℕ) (b : List ℕ) → n ≤ k → 0 < n → n ≤ highest → number (decimal n ++ b) ≡ number_from n b
read-digits zero n b h pos fits = absurd (omega arith)
read-digits (suc k) n b h pos fits =
    let fewer = read-digits k (n / 10) ((48 + n % 10) ∷ b) in
    by_digits n
    (λ small.
    let only : digit (48 + n) ≡ n = omega arith in
    rw (decimal-small n small) (first-digit (48 + n) b (record { low = omega arith; high = omega arith }) (omega arith) ∙ rw only))
    (λ big.
    let x = 48 + n % 10 in
    let whole : 10 * (n / 10) + digit x ≡ n = omega arith in
    rw (decimal_step n big, append_assoc)
    (fewer (omega arith) (omega arith) (omega arith) ∙ from-digit (n / 10) x b (record { low = omega arith; high = omega arith }) (omega arith) ∙ rw whole))

-- a printed number is read, and the bytes behind it are left
pub number_read : (n : ℕ) (b : List ℕ) → n ≤ highest → NoDigit b → number (decimal n ++ b) ≡ some (n, b)
unfolding number decimal decimal_in
number_read zero b fits end = refl
number_read (suc n) b fits end = read-digits (suc n) (suc n) b (le_refl (suc n)) (omega arith) fits ∙ from_end (suc n) b end

-- and so is one with a word behind it
pub number_then-read : (w b : List ℕ) (n : ℕ) → n ≤ highest → NoDigit (w ++ b) → number_then w (decimal n ++ (w ++ b)) ≡ some (n, b)
unfolding number_then bind
number_then-read w b n fits end = rw (number_read n (w ++ b) fits end, after-read w b)

-- ---- and nowhere else

-- what was read is one thing and one rest
pub one-reading : {A B : Type 0} {a c : A} {b d : B} → ◌≡◌ {A = Option (A × B)} (some (a, b)) (some (c, d)) → (a ≡ c) × (b ≡ d)
one-reading {A} {B} e = let both = some_inj.0 e in (ap (λ (p : A × B). p.0) both, ap (λ (p : A × B). p.1) both)

-- digits that go on are read, as far as they go
from-exact : (v : ℕ) (b b' : List ℕ) (n : ℕ) → 0 < v → v ≤ highest → number_from v b ≡ some (n, b') → (decimal v ++ b ≡ decimal n ++ b') × (n ≤ highest)
unfolding number_from
from-exact v [] b' n pos fits e = let same = one-reading e in (cc, omega arith)
from-exact v (x ∷ b) b' n pos fits e =
    let next = 10 * v + digit x in
    let rest = from-exact next b b' n in
    cases (is_digit x)
    (λ t.
    cases (leb next highest)
    (λ h.
    let d = digit-tested x t in
    let more = rest (omega arith) (leb-true next highest h) (rw (t, h) at e) in
    (sym (append_assoc (decimal v) (x ∷ []) b) ∙ ap (λ (l : List ℕ). l ++ b) (sym (decimal-more v x pos d)) ∙ more.0, more.1))
    (λ h. absurd (none-ne-some (n, b') (rw (t, h) at e))))
    (λ f. let same = one-reading (rw f at e) in (cc, omega arith))

-- what is read as a number is one in decimal
pub number-exact : (b b' : List ℕ) (n : ℕ) → number b ≡ some (n, b') → (b ≡ decimal n ++ b') × (n ≤ highest)
unfolding number
number-exact [] b' n e = absurd (none-ne-some (n, b') e)
number-exact (x ∷ b) b' n e =
    cases (eqb x 48)
    (λ t.
    let same = one-reading (rw t at e) in
    let first = eqb-true x 48 t in
    let zero_is = decimal-small 0 (omega arith) in
    (cc, omega arith))
    (λ f.
    cases (is_digit x)
    (λ t.
    let d = digit-tested x t in
    let pos = eqb-false x 48 f in
    let more = from-exact (digit x) b b' n (omega arith) (omega arith) (rw (f, t) at e) in
    let same : 48 + digit x ≡ x = omega arith in
    let first = decimal-small (digit x) (omega arith) in
    (cc, more.1))
    (λ g. absurd (none-ne-some (n, b') (rw (f, g) at e))))

-- and what is read as a number with a word behind it is that
pub number_then-exact : (w b b' : List ℕ) (n : ℕ) → number_then w b ≡ some (n, b') → (b ≡ decimal n ++ (w ++ b')) × (n ≤ highest)
unfolding number_then
number_then-exact w b b' n e =
    let ((m, b₁), first, then) = (bind-eq-some_iff (number b) _).0 e in
    let (b₂, word, last) = (bind-eq-some_iff (after w b₁) _).0 then in
    let same = one-reading last in
    let read = number-exact b b₁ m first in
    let behind = after-exact w b₁ b₂ word in
    (cc, omega arith)
