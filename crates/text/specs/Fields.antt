-- What stands at the beginning of some bytes: a word, a number. Each gives what was looked for with the bytes behind it, or nothing.
-- Assumes nothing.
use Rattle.std.specs.Prelude.{ℕ, ◌+◌, ◌-◌, ◌*◌, Bool, cond, ◌&&◌, List, [], ◌∷◌, leb, eqb}
use Rattle.std.proofs.Math.Option.{Option, none, some, bind as ◌>>=◌}
use Rattle.text.specs.Bytes.{zero_digit}

-- the bytes behind a word
unfoldable pub after : List ℕ → List ℕ → Option (List ℕ)
after [] b = some b
after (w ∷ ws) [] = none
after (w ∷ ws) (x ∷ b) = let rest = after ws b in cond (eqb x w) rest none

-- a byte is one of the digits 0 to 9
abbrev pub is_digit : ℕ → Bool
is_digit x = leb zero_digit x && leb x (zero_digit + 9)

-- the value of a digit
abbrev pub digit : ℕ → ℕ
digit x = x - zero_digit

-- "values at most 65535"
abbrev pub highest : ℕ
highest = 65535

-- a number whose first digits make v, and which goes on with the digits at the beginning; the bytes behind it
unfoldable pub number_from : ℕ → List ℕ → Option (ℕ × List ℕ)
number_from v [] = some (v, [])
number_from v (x ∷ b) =
    let next = 10 * v + digit x in
    let more = number_from next b in
    cond (is_digit x) (cond (leb next highest) more none) (some (v, x ∷ b))

-- "Digits have no leading zero": 0, or digits of which the first is not 0
unfoldable pub number : List ℕ → Option (ℕ × List ℕ)
number [] = none
number (x ∷ b) =
    let more = number_from (digit x) b in
    cond (eqb x zero_digit) (some (0, b)) (cond (is_digit x) more none)

-- a number with a word behind it
unfoldable pub number_then : List ℕ → List ℕ → Option (ℕ × List ℕ)
number_then w b = do
  (n, b₁) ← number b
  b₂ ← after w b₁
  some (n, b₂)

-- bytes that must all have been read
unfoldable pub whole {ℓ} : {A : Type ℓ} → List ℕ → A → Option A
whole [] a = some a
whole (x ∷ b) a = none

-- the first of two readings that is one
unfoldable pub either {ℓ} : {A : Type ℓ} → Option A → Option A → Option A
either (some a) other = some a
either none other = other
