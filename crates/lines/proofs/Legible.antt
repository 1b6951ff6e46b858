-- A line is read as a form exactly if its bytes are that form's text (document 01, "The program").
-- Assumes nothing.
use Prim.Native.Nat.{ℕ, zero, suc, ◌*◌, ◌≤◌, ◌<◌, zero-le}
use native.Mathlib.Omega.{arith}
use native.Mathlib.Nat.{not-suc-le-zero}
use mathlib.Core.Path.{◌≡◌, refl, subst, ◌∙◌}
use mathlib.Core.Logic.{◌↔◌}
use mathlib.Core.List.{List, [], ◌∷◌, ◌++◌, append_assoc, append-nil}
use mathlib.Core.Option.{Option, none, some, Option-elim, bind, bind as ◌>>=◌, bind-eq-some_iff, some_inj, none-ne-some}
use borrow.Author.Tests.{le-leb}
use borrow.Table.Steps.{cases}
use lib.Dec.{leb}
use lib.ListN.{length, length-append}
use Rattle.text.specs.Bytes.{bytes, word_number, decimal}
use Rattle.text.specs.Fields.{highest, after, number, number_then, whole, either}
use Rattle.text.proofs.Decimals.{decimal-length}
use Rattle.text.proofs.Numerals.{NoDigit, after-read, after-exact, number_read, number-exact, number_then-read, number_then-exact, one-reading}
use Rattle.lines.specs.Forms.{pair, many, Form, machine, part, asked, list_text, text, most_listed, Values, Legal}
use Rattle.lines.specs.Read.{machine_form, two_numbers, part_form, pair_form, listed, many_form, longest, read}

-- ---- the parts of a form

-- a word and a number before some bytes
behind : (w : List ℕ) (n : ℕ) (b : List ℕ) → word_number w n ++ b ≡ w ++ (decimal n ++ b)
unfolding word_number
behind w n b = append_assoc w (decimal n) b

-- a word, and no more
word-last : (w : List ℕ) → after w w ≡ some []
word-last w = subst (λ (l : List ℕ). after w l ≡ some []) (append-nil w) (after-read w [])

-- a number with a word behind it, and no more
number-last : (w : List ℕ) (n : ℕ) → n ≤ highest → NoDigit w → number_then w (decimal n ++ w) ≡ some (n, [])
number-last w n fits =
    subst (λ (l : List ℕ). NoDigit l → number_then w (decimal n ++ l) ≡ some (n, [])) (append-nil w) (number_then-read w [] n fits)

module _ {X A : Type 0} {f : A} where
  -- something was read, and then the rest
  pub first_read : {B : Type 0} (found : Option B) (rest : B → Option A) → bind found rest ≡ some f → ((a : B) → found ≡ some a → rest a ≡ some f → X) → X
  first_read found rest e then = let t = (bind-eq-some_iff found rest).0 e in then t.0 t.1 t.2

  -- all bytes were read
  all_read : (b : List ℕ) (a : A) → whole b a ≡ some f → (b ≡ [] → a ≡ f → X) → X
  unfolding whole
  all_read [] a e then = then refl (some_inj.0 e)
  all_read (x ∷ b) a e then = absurd (none-ne-some f e)

-- the form that some bytes are
abbrev Is : List ℕ → Form → Type 0
Is b f = (b ≡ text f) × Legal f

-- ---- machine

-- a machine's text is read as that machine
machine-read : (n : ℕ) → n ≤ highest → machine_form (text (machine n)) ≡ some (machine n)
unfolding machine_form text bytes bind whole
machine-read n h = rw (behind, after-read, number-last (bytes ")") n h refl)

-- and nothing else is read as a machine
machine-exact : (b : List ℕ) (f : Form) → machine_form b ≡ some f → Is b f
unfolding machine_form text
machine-exact b f e =
    first_read (after (bytes "(machine ") b) _ e λ b₁ p e₁.
    first_read (number_then (bytes ")") b₁) _ e₁ λ (n, b₂) q e₂.
    all_read b₂ (machine n) e₂ λ none_left same.
    let word = after-exact (bytes "(machine ") b b₁ p in
    let digits = number_then-exact (bytes ")") b₁ b₂ n q in
    subst (Is b) same (rw (word, digits.0, none_left, append-nil, behind), digits.1)

-- ---- part and pair: two numbers, each behind a word, and a word

module _ (w₁ w₂ w₃ : List ℕ) where
  -- their text
  abbrev two_text : ℕ → ℕ → List ℕ
  two_text x y = word_number w₁ x ++ (word_number w₂ y ++ w₃)

  -- their text is read as the two
  two-read : (x y : ℕ) → x ≤ highest → y ≤ highest → ((b : List ℕ) → NoDigit (w₂ ++ b)) → NoDigit w₃ → two_numbers w₁ w₂ w₃ (two_text x y) ≡ some (x, y)
  unfolding two_numbers bind whole
  two-read x y h k mid end =
      rw (behind w₁, behind w₂, after-read w₁, number_then-read w₂ (decimal y ++ w₃) x h (mid (decimal y ++ w₃)), number-last w₃ y k end)

  -- and nothing else is
  two-exact : (b : List ℕ) (two : ℕ × ℕ) → two_numbers w₁ w₂ w₃ b ≡ some two → let (x, y) = two in (b ≡ two_text x y) × ((x ≤ highest) × (y ≤ highest))
  unfolding two_numbers
  two-exact b two e =
      first_read (after w₁ b) _ e λ b₁ p e₁.
      first_read (number_then w₂ b₁) _ e₁ λ (x, b₂) q e₂.
      first_read (number_then w₃ b₂) _ e₂ λ (y, b₃) r e₃.
      all_read b₃ (x, y) e₃ λ none_left same.
      let word = after-exact w₁ b b₁ p in
      let left = number_then-exact w₂ b₁ b₂ x q in
      let right = number_then-exact w₃ b₂ b₃ y r in
      rw (← same) (rw (word, left.0, right.0, none_left, append-nil, behind w₁, behind w₂), (left.1, right.1))

-- a part's text is read as that part
part-read : (v p : ℕ) → v ≤ highest → p ≤ highest → part_form (text (part v p)) ≡ some (part v p)
unfolding part_form text bytes bind
part-read v p h k = rw (two-read (bytes "(part ") (bytes " (in ") (bytes "))") v p h k (λ b. refl) refl)

-- and nothing else is read as a part
part-exact : (b : List ℕ) (f : Form) → part_form b ≡ some f → Is b f
unfolding part_form text
part-exact b f e = first_read _ _ e λ two p same. subst (Is b) (some_inj.0 same) (two-exact _ _ _ b two p)

-- a pair's text is read as that pair
pair_read : (x y : ℕ) → x ≤ highest → y ≤ highest → pair_form (text (asked (pair x y))) ≡ some (asked (pair x y))
unfolding pair_form text bytes bind
pair_read x y h k = rw (two-read (bytes "(pair ") (bytes " ") (bytes ")") x y h k (λ b. refl) refl)

-- and nothing else is read as a pair
pair-exact : (b : List ℕ) (f : Form) → pair_form b ≡ some f → Is b f
unfolding pair_form text
pair-exact b f e = first_read _ _ e λ two p same. subst (Is b) (some_inj.0 same) (two-exact _ _ _ b two p)

-- ---- many

-- no number of a list stands there, and no digit
record NoMore (b : List ℕ) : Type 0 where
  no-space : after (bytes " ") b ≡ none
  no_digit : NoDigit b

-- no digit stands behind a number of a list
list-next : (xs b : List ℕ) → NoDigit b → NoDigit (list_text xs ++ b)
unfolding list_text word_number bytes
list-next [] b h = h
list-next (x ∷ xs) b h = refl

-- one number before the others
list-more : (x : ℕ) (xs b : List ℕ) → list_text (x ∷ xs) ++ b ≡ bytes " " ++ (decimal x ++ (list_text xs ++ b))
unfolding list_text
list-more x xs b = append_assoc (word_number (bytes " ") x) (list_text xs) b ∙ behind (bytes " ") x (list_text xs ++ b)

-- the numbers of a list are read, with the bytes behind them left
listed-read : (k : ℕ) (xs b : List ℕ) → length xs ≤ k → Values xs → NoMore b → listed k (list_text xs ++ b) ≡ some (xs, b)
unfolding listed bind Option-elim
listed-read zero [] b h v end = unfold list_text in refl
listed-read zero (x ∷ xs) b h v end = absurd (not-suc-le-zero h)
listed-read (suc k) [] b h v end = unfold list_text in rw end.no-space
listed-read (suc k) (x ∷ xs) b h v end =
    let others : listed k (list_text xs ++ b) ≡ some (xs, b) = listed-read k xs b (omega arith) v.1 end in
    rw (list-more x xs b, after-read, number_read x (list_text xs ++ b) v.0 (list-next xs b end.no_digit), others)

-- at most k numbers of a list were read
record Listing (k : ℕ) (b b' xs : List ℕ) : Type 0 where
  is : b ≡ list_text xs ++ b'
  few : length xs ≤ k
  values : Values xs

-- none of them
none-listed : (k : ℕ) (b b' xs : List ℕ) → ◌≡◌ {A = Option (List ℕ × List ℕ)} (some ([], b)) (some (xs, b')) → Listing k b b' xs
unfolding list_text
none-listed k b b' xs e = let same = one-reading e in subst (Listing k b b') same.0 (record { is = same.1; few = zero-le; values = tt })

-- one of them, and then at most k others
module _ (k : ℕ) (others : (b b' xs : List ℕ) → listed k b ≡ some (xs, b') → Listing k b b' xs) where
  abbrev another : List ℕ → Option (List ℕ × List ℕ)
  another b = do
    (x, b₁) ← number b
    (xs, b₂) ← listed k b₁
    some (x ∷ xs, b₂)

  -- behind a space
  one-listed : (b b₁ b' xs : List ℕ) → b ≡ bytes " " ++ b₁ → another b₁ ≡ some (xs, b') → Listing (suc k) b b' xs
  one-listed b b₁ b' xs p e =
      first_read (number b₁) _ e λ (x, b₂) q e₁.
      first_read (listed k b₂) _ e₁ λ (ys, b₃) r e₂.
      let same = one-reading e₂ in
      let digits = number-exact b₁ b₂ x q in
      let more = others b₂ b₃ ys r in
      subst (Listing (suc k) b b') same.0
      (record { is = rw (p, digits.0, more.is, same.1, list-more x ys b'); few = omega arith; values = (digits.1, more.values) })

  -- where a space stands, and where none does
  by-space : (b b' xs : List ℕ) (o : Option (List ℕ)) → after (bytes " ") b ≡ o → Option-elim o (some ([], b)) another ≡ some (xs, b') → Listing (suc k) b b' xs
  unfolding Option-elim
  by-space b b' xs none p e = none-listed (suc k) b b' xs e
  by-space b b' xs (some b₁) p e = one-listed b b₁ b' xs (after-exact (bytes " ") b b₁ p) e

-- nothing else is read as a list
listed-exact : (k : ℕ) (b b' xs : List ℕ) → listed k b ≡ some (xs, b') → Listing k b b' xs
unfolding listed
listed-exact zero b b' xs e = none-listed zero b b' xs e
listed-exact (suc k) b b' xs e = by-space k (listed-exact k) b b' xs (after (bytes " ") b) refl e

-- a list's text is read as that list
many_read : (xs : List ℕ) → length xs ≤ most_listed → Values xs → many_form (text (asked (many xs))) ≡ some (asked (many xs))
unfolding many_form text bytes bind whole
many_read xs h v =
    let close : NoMore (bytes ")") = record { no-space = unfold after in refl; no_digit = refl } in
    rw (after-read (bytes "(many"), listed-read most_listed xs (bytes ")") h v close, word-last (bytes ")"))

-- and nothing else is
many-exact : (b : List ℕ) (f : Form) → many_form b ≡ some f → Is b f
unfolding many_form text
many-exact b f e =
    first_read (after (bytes "(many") b) _ e λ b₁ p e₁.
    first_read (listed most_listed b₁) _ e₁ λ (xs, b₂) q e₂.
    first_read (after (bytes ")") b₂) _ e₂ λ b₃ r e₃.
    all_read b₃ (asked (many xs)) e₃ λ none_left same.
    let word = after-exact (bytes "(many") b b₁ p in
    let numbers = listed-exact most_listed b₁ b₂ xs q in
    let close = after-exact (bytes ")") b₂ b₃ r in
    subst (Is b) same (rw (word, numbers.is, close, none_left, append-nil), (numbers.few, numbers.values))

-- ---- a line

-- a number below 100,000 has at most five digits
pub five-digits : (n : ℕ) → n < 100000 → length (decimal n) ≤ 5
five-digits n h = decimal-length 4 n h

-- a list has at most six bytes for each of its numbers
list-fits : (xs : List ℕ) → Values xs → length (list_text xs) ≤ 6 * length xs
unfolding list_text word_number bytes
list-fits [] v = omega arith
list-fits (x ∷ xs) v =
    let others : length (list_text xs) ≤ 6 * length xs = list-fits xs v.1 in
    let digits = five-digits x (omega (arith, v.0)) in
    simp length-append (omega arith)

-- every legal form's text passes the test of 200 bytes
text-fits : (f : Form) → Legal f → length (text f) ≤ longest
unfolding text word_number bytes
text-fits (machine n) h = let digits = five-digits n (omega arith) in simp length-append (omega arith)
text-fits (part v p) (h, k) = let left = five-digits v (omega arith) in let right = five-digits p (omega arith) in simp length-append (omega arith)
text-fits (asked (pair x y)) (h, k) = let left = five-digits x (omega arith) in let right = five-digits y (omega arith) in simp length-append (omega arith)
text-fits (asked (many xs)) (h, v) = let numbers = list-fits xs v in simp length-append (omega arith)

-- the forms begin with different words: a part is no machine
module _ (v p : ℕ) where
  part-no_machine : machine_form (text (part v p)) ≡ none
  unfolding machine_form after text word_number bytes bind
  part-no_machine = refl

-- a pair is no machine and no part
module _ (x y : ℕ) where
  pair-no_machine : machine_form (text (asked (pair x y))) ≡ none
  unfolding machine_form after text word_number bytes bind
  pair-no_machine = refl

  pair-no-part : part_form (text (asked (pair x y))) ≡ none
  unfolding two_numbers part_form after text word_number bytes bind
  pair-no-part = refl

-- a list is no machine, no part and no pair
module _ (xs : List ℕ) where
  many-no_machine : machine_form (text (asked (many xs))) ≡ none
  unfolding machine_form after text bytes bind
  many-no_machine = refl

  many-no-part : part_form (text (asked (many xs))) ≡ none
  unfolding two_numbers part_form after text bytes bind
  many-no-part = refl

  many-no-pair : pair_form (text (asked (many xs))) ≡ none
  unfolding two_numbers pair_form after text bytes bind
  many-no-pair = refl

-- so each is found
found : (f : Form) → Legal f → either (machine_form (text f)) (either (part_form (text f)) (either (pair_form (text f)) (many_form (text f)))) ≡ some f
unfolding either
found (machine n) h = rw (machine-read n h)
found (part v p) (h, k) = rw (part-no_machine v p, part-read v p h k)
found (asked (pair x y)) (h, k) = rw (pair-no_machine x y, pair-no-part x y, pair_read x y h k)
found (asked (many xs)) (h, v) = rw (many-no_machine xs, many-no-part xs, many-no-pair xs) (many_read xs h v)

-- one of two readings
either-exact : (o p : Option Form) (f : Form) {X : Type 0} → either o p ≡ some f → (o ≡ some f → X) → (p ≡ some f → X) → X
unfolding either
either-exact (some a) p f e left right = left e
either-exact none p f e left right = right e

-- "A line is a machine, part, pair or many form": it is read as a form exactly if its bytes are that form's text
pub read-exactly : (b : List ℕ) (f : Form) → (read b ≡ some f) ↔ ((b ≡ text f) × Legal f)
unfolding read
read-exactly b f = (
  λ e.
      cases (leb (length b) longest)
      (λ t.
      either-exact (machine_form b) _ f (rw t at e) (machine-exact b f) λ e₁.
      either-exact (part_form b) _ f e₁ (part-exact b f) λ e₂.
      either-exact (pair_form b) _ f e₂ (pair-exact b f) (many-exact b f))
      (λ t. absurd (none-ne-some f (rw t at e))),
  λ (is, legal). rw (is, le-leb (length (text f)) longest (text-fits f legal)) (found f legal),
)
