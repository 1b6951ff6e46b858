-- How the numbers of a list are read, one by one, and what they are where the reading ends.
-- Assumes nothing.
use Prim.Native.Nat.{ℕ, zero, suc, ◌-◌, ◌≤◌, ◌<◌}
use native.Mathlib.Omega.{arith}
use mathlib.Core.Path.{◌≡◌, refl, sym, ◌∙◌}
use mathlib.Core.List.{List, [], ◌∷◌, ◌++◌, append_assoc, append-nil}
use mathlib.Core.Option.{Option, none, some, Option-elim, map, bind}
use lib.ListN.{length, length-append}
use Rattle.text.specs.Bytes.{bytes}
use Rattle.text.specs.Fields.{after, number}
use Rattle.lines.specs.Read.{listed}

-- what a reading found: numbers, and the bytes behind them
abbrev Read : Type 0
Read = Option (List ℕ × List ℕ)

-- the same with some numbers before them
abbrev behind : List ℕ → Read → Read
behind xs r = map (λ found. (xs ++ found.0, found.1)) r

-- a number before them, and the others before that
behind_more : (xs : List ℕ) (x : ℕ) (r : Read) → behind xs (bind r λ found. some (x ∷ found.0, found.1)) ≡ behind (xs ++ (x ∷ [])) r
unfolding bind
behind_more xs x none = refl
behind_more xs x (some found) = rw append_assoc refl

-- where no space stands, none is read
no-space : (k : ℕ) (b : List ℕ) → none ≡ after (bytes " ") b → listed k b ≡ some ([], b)
unfolding listed Option-elim
no-space zero b e = refl
no-space (suc k) b e = rw (sym e) refl

-- some numbers of a line were read: the others are at the beginning of the bytes that are left
pub record Listing (line : List ℕ) (most : ℕ) (xs rest : List ℕ) : Type 0 where
  pub few : length xs ≤ most
  pub is : listed most line ≡ behind xs (listed (most - length xs) rest)

module _ {line rest : List ℕ} {most : ℕ} (xs : List ℕ) (l : Listing line most xs rest) where
  -- no more are read
  ends : listed (most - length xs) rest ≡ some ([], rest) → some (xs, rest) ≡ listed most line
  ends e = sym (l.is ∙ rw (e, append-nil) refl)

  -- there are as many as there can be
  pub listing_full : most ≤ length xs → some (xs, rest) ≡ listed most line
  unfolding listed
  listing_full h = let z : most - length xs ≡ 0 = omega arith in ends (rw z refl)

  -- no space is behind them
  pub listing-end : none ≡ after (bytes " ") rest → some (xs, rest) ≡ listed most line
  listing-end e = ends (no-space (most - length xs) rest e)

  module _ (h : length xs < most) where
    -- one more is looked for
    left : most - length xs ≡ suc (most - suc (length xs))
    left = omega arith

    module _ {digits : List ℕ} (s : some digits ≡ after (bytes " ") rest) where
      -- no number is behind the space
      pub listing-broken : none ≡ number digits → none ≡ listed most line
      unfolding listed Option-elim bind
      listing-broken f = sym (l.is ∙ rw (left, sym s, sym f) refl)

      -- one number more
      pub listing-more : {x : ℕ} {ys others : List ℕ} → some (x, others) ≡ number digits → ys ≡ xs ++ (x ∷ []) → Listing line most ys others
      unfolding listed Option-elim bind
      listing-more {x} {ys} {others} f e =
          let more = listed (most - suc (length xs)) others in
          let one : length (xs ++ (x ∷ [])) ≡ suc (length xs) = omega (arith, length-append xs (x ∷ [])) in
          rw e (record { few = omega arith; is = rw one (l.is ∙ rw (left, sym s, sym f) (behind_more xs x more)) })
