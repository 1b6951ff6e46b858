-- Text as bytes: words as they are printed, and numbers in decimal digits.
-- Assumes nothing.
use Rattle.std.specs.Prelude.{ℕ, zero, suc, ◌+◌, ◌/◌, ◌%◌, Bool, cond, ◌==◌, List, [], ◌∷◌, ◌++◌, ltb}
use Prim.Native.Char.{code}
use Prim.Native.String as text

-- the bytes of a text of ASCII
unfoldable pub bytes : text.String → List ℕ
bytes text.[] = []
bytes (text.◌∷◌ c s) = code c ∷ bytes s

-- the byte that ends a line, LF
abbrev pub lf : ℕ
lf = 10

abbrev pub is_lf : ℕ → Bool
is_lf x = x == lf

-- the byte of the digit 0
abbrev pub zero_digit : ℕ
zero_digit = 48

-- n in decimal, with at most k digits
unfoldable pub decimal_in : ℕ → ℕ → List ℕ
decimal_in zero n = []
decimal_in (suc k) n = let more = decimal_in k (n / 10) in cond (ltb n 10) [] more ++ ((zero_digit + n % 10) ∷ [])

-- n in decimal, most significant digit first, with no leading zero. n has no more than n + 1 digits
unfoldable pub decimal : ℕ → List ℕ
decimal n = decimal_in (suc n) n

-- a word, and a number behind it
unfoldable pub word_number : List ℕ → ℕ → List ℕ
word_number w n = w ++ decimal n
