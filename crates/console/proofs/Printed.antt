-- The numbers of a list as `list` writes them, each behind a space: one number more.
-- Assumes nothing.
use Prim.Native.Nat.{ℕ, ◌+◌, ◌<◌}
use native.Mathlib.Numerals.{add-one}
use mathlib.Core.Path.{◌≡◌, refl, sym, ap, ◌∙◌}
use mathlib.Core.List.{List, [], ◌∷◌, ◌++◌, append_assoc, append-nil}
use lib.ListN.{length, take, drop, get_or, take-append-drop}
use lib.Seq.{take-suc, drop-cons}
use Rattle.text.specs.Bytes.{bytes, word_number}
use Rattle.text.specs.Writes.{HasRoom, Writes}
use Rattle.text.specs.declared.write.Writer.{Writer}
use Rattle.text.proofs.Putting.{room-first}
use Rattle.text.proofs.Writing.{has-then, writes_then}
use Rattle.lines.specs.Forms.{list_text}

-- a number behind a space
abbrev pub spaced : ℕ → List ℕ
spaced x = word_number (bytes " ") x

-- the text of two lists, one behind the other
list-append : (xs ys : List ℕ) → list_text (xs ++ ys) ≡ list_text xs ++ list_text ys
unfolding list_text
list-append [] ys = refl
list-append (x ∷ xs) ys = rw (list-append xs ys) (sym (append_assoc (spaced x) (list_text xs) (list_text ys)))

-- that of the first numbers, one more, and the others
list-split : (xs : List ℕ) (i : ℕ) → i < length xs → list_text xs ≡ list_text (take i xs) ++ (spaced (get_or xs i 0) ++ list_text (drop (i + 1) xs))
unfolding list_text
list-split xs i h = ap list_text (sym (take-append-drop i xs)) ∙ list-append (take i xs) (drop i xs) ∙ rw (add-one, drop-cons xs i 0 h)

-- that of one number more
list-more : (xs : List ℕ) (i : ℕ) → i < length xs → list_text (take (i + 1) xs) ≡ list_text (take i xs) ++ spaced (get_or xs i 0)
unfolding list_text
list-more xs i h = rw (add-one, take-suc xs i 0 h, list-append, append-nil)

module _ (xs : List ℕ) (i : ℕ) {a b : Writer} (room : HasRoom a (list_text xs)) (more : i < length xs) (p : Writes a (list_text (take i xs)) b) where
  split : HasRoom a (list_text (take i xs) ++ (spaced (get_or xs i 0) ++ list_text (drop (i + 1) xs)))
  split = rw (list-split xs i more) at room

  -- there is room for the next number
  pub list-room : HasRoom b (spaced (get_or xs i 0))
  list-room = room-first _ (spaced (get_or xs i 0)) _ (has-then p _ split)

  -- and with it one more is written
  pub list-next : {d : Writer} → Writes b (spaced (get_or xs i 0)) d → Writes a (list_text (take (i + 1) xs)) d
  list-next q =
      let both = room-first _ (list_text (take i xs) ++ spaced (get_or xs i 0)) (list_text (drop (i + 1) xs)) (rw (← append_assoc) at split) in
      rw (list-more xs i more) (writes_then p _ both q)
