-- Bytes laid over a buffer: one write after another is one write, and one stored byte is a write.
-- Assumes nothing.
use Prim.Native.Nat.{ℕ, ◌+◌, ◌≤◌, ◌<◌}
use native.Mathlib.Nat.{zero-add, add-zero}
use native.Mathlib.Numerals.{add-one}
use native.Mathlib.Omega.{arith}
use mathlib.Core.Path.{◌≡◌, refl, sym, ap, ◌∙◌}
use mathlib.Core.List.{List, [], ◌∷◌, ◌++◌, append_assoc}
use lib.ListN.{length, take, drop, set, length-append, take-append-drop}
use lib.Seq.{take-length, drop-drop, set_split, paste, length-paste, take-paste, drop-paste}
use borrow.Rule.Slice.PartMut.{put_mid}
use Rattle.std.proofs.lemmas.Slice.{put_mid-paste}
use Rattle.text.specs.Puts.{over, Room, Puts}

-- it is the library's copy of a list's first elements, here of all of them
over-paste : (l : List ℕ) (at : ℕ) (x : List ℕ) → over l at x ≡ paste l at x (length x)
unfolding over
over-paste l at x = rw take-length (sym (append_assoc (take at l) x (drop (at + length x) l)))

length_over : (l : List ℕ) (at : ℕ) (x : List ℕ) → Room l at x → length (over l at x) ≡ length l
length_over l at x r = ap length (over-paste l at x) ∙ length-paste l at x (length x) r (omega arith)

-- bytes laid over behind others are laid over with them
over-then : (l : List ℕ) (at : ℕ) (x y : List ℕ) → Room l at x → over (over l at x) (at + length x) y ≡ over l at (x ++ y)
unfolding over
over-then l at x y r =
    let n = at + length x in
    let e : over l at x ≡ paste l at x (length x) = over-paste l at x in
    let i : length x ≤ length x = omega arith in
    let h : at ≤ length l = omega arith in
    let t : take n (over l at x) ≡ take at l ++ x = ap (take n) e ∙ take-paste l at x (length x) h i ∙ simp take-length in
    let d : drop n (over l at x) ≡ drop n l = ap (drop n) e ∙ drop-paste l at x (length x) h i in
    let g : drop (n + length y) (over l at x) ≡ drop (n + length y) l = rw (← drop-drop (length y) n (over l at x), d) (drop-drop (length y) n l) in
    let s : n + length y ≡ at + length (x ++ y) = omega (arith, length-append x y) in
    rw (t, g, s) (simp append_assoc)

-- at a buffer's beginning they stand before the rest of it
pub over-start : (l x : List ℕ) → over l 0 x ≡ x ++ drop (length x) l
unfolding over
over-start l x = ap (λ (k : ℕ). x ++ drop k l) (zero-add (length x))

-- nothing is written
pub puts_none : {l : List ℕ} {at : ℕ} → at ≤ length l → Puts l at [] l at
unfolding over
puts_none {l} {at} h = record { written = simp add-zero (sym (take-append-drop at l)); place = sym (add-zero at) }

-- one byte is stored
pub puts_one : {l : List ℕ} {at : ℕ} (b : ℕ) → at < length l → Puts l at (b ∷ []) (set l at b) (at + 1)
unfolding over
puts_one {l} {at} b h = record { written = simp add-one (set_split l at b h); place = refl }

-- a buffer keeps its length
pub puts-length : {l x m : List ℕ} {at n : ℕ} → Room l at x → Puts l at x m n → length m ≡ length l
puts-length {l} {x} {m} {at} r p = ap length p.written ∙ length_over l at x r

-- where there is room for two, there is room for the first
pub room-first : {long : ℕ} (at : ℕ) (x y : List ℕ) → at + length (x ++ y) ≤ long → at + length x ≤ long
room-first at x y r = omega (arith, length-append x y)

-- and for the second behind it
pub room-then : {l m : List ℕ} {at n : ℕ} (x y : List ℕ) → Room l at (x ++ y) → Puts l at x m n → Room m n y
room-then {l} {m} {at} {n} x y r p =
    let first : Room l at x = room-first _ x _ r in
    let same : length m ≡ length l = puts-length first p in
    omega (arith, length-append x y, p.place)

-- two writes, one behind the other, are one
pub puts_then : {l m a : List ℕ} {at n k : ℕ} (x y : List ℕ) → Room l at (x ++ y) → Puts l at x m n → Puts m n y a k → Puts l at (x ++ y) a k
puts_then {l} {m} {a} {at} {n} {k} x y r p q = record {
  written =
      q.written
      ∙ ap (λ (u : List ℕ). over u n y) p.written
      ∙ ap (λ (j : ℕ). over (over l at x) j y) p.place
      ∙ over-then l at x y (room-first _ x _ r);
  place = omega (arith, length-append x y, p.place, q.place);
}

-- some bytes are copied
pub puts-copied : {l x m : List ℕ} {at k : ℕ} → length x ≡ k → m ≡ x → Puts l at x (put_mid at k l m) (at + length x)
puts-copied {l} {x} {m} {at} {k} e same = record { written = put_mid-paste at k l m x (length x) same e refl ∙ sym (over-paste l at x); place = refl }
