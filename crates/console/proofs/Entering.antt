-- How the part lines are read one by one: the entries read so far stand before those of the lines that are left.
-- Assumes nothing.
use Prim.Native.Nat.{ℕ, suc, ◌+◌, ◌-◌, ◌≤◌, ◌<◌}
use native.Mathlib.Numerals.{add-one}
use native.Mathlib.Omega.{arith}
use mathlib.Core.Path.{◌≡◌, refl, sym, ap, ◌∙◌}
use mathlib.Core.List.{List, [], ◌∷◌, ◌++◌, append-nil, append_assoc}
use mathlib.Core.Option.{Option-elim}
use Rattle.std.specs.Prelude as std
use Rattle.std.specs.Prelude.{Some, None}
use lib.ListN.{length, take, set, length-set}
use lib.Seq.{take_all, take-suc-set}
use Rattle.text.specs.Lines.{Lines}
use Rattle.lines.specs.Read.{entry, next_as}
use Rattle.lines.specs.Gives.{rest_of}
use Rattle.lines.specs.declared.reader.Reader.{Reader}
use Rattle.console.specs.Run.{Sheet, sheet, broken, first, part_line, parts}
use Rattle.console.specs.Gives.{EntryGives, sheet_of, EntriesGive}

-- some entries before the others
abbrev firsts : List ℕ → Sheet → Sheet
firsts ps (sheet qs rest) = sheet (ps ++ qs) rest
firsts ps (broken number) = broken number

-- one more behind those
firsts_more : (ps : List ℕ) (p : ℕ) (s : Sheet) → firsts ps (first p s) ≡ firsts (ps ++ (p ∷ [])) s
firsts_more ps p (sheet qs rest) = ap (λ (l : List ℕ). sheet l rest) (sym (append_assoc ps (p ∷ []) qs))
firsts_more ps p (broken number) = refl

-- the first v entries of the sheet were read, and some lines are left
pub record Entered (all : Lines) (s : List ℕ) (v : ℕ) (left : Lines) : Type 0 where
  pub some_of : v ≤ length s
  pub is : parts (length s) 0 all ≡ firsts (take v s) (parts (length s - v) v left)

-- the next line is looked at
parts_next : (k v : ℕ) (ls : Lines) → v < k
    → parts (k - v) v ls ≡ Option-elim (next_as (entry v) ls) (broken (part_line v)) λ found. first found.0 (parts (k - suc v) (suc v) found.1)
unfolding parts
parts_next k v ls h = let one : k - v ≡ suc (k - suc v) = omega arith in rw one refl

module _ {all : Lines} {s : List ℕ} {v : ℕ} where
  -- the last line was read
  pub entered_all : {left : Lines} → Entered all s v left → length s ≤ v → sheet s left ≡ parts (length s) 0 all
  unfolding parts
  entered_all f h = let none_left : length s - v ≡ 0 = omega arith in sym (f.is ∙ rw (none_left, take_all v s h, append-nil) refl)

  module _ {before after : Reader} (f : Entered all s v (rest_of before)) (h : v < length s) where
    -- the next line is no line of its part
    pub entered-broken : EntryGives v before after None → broken (v + 2) ≡ parts (length s) 0 all
    unfolding Option-elim
    entered-broken g = sym (f.is ∙ rw (parts_next (length s) v (rest_of before) h, ← g.is) refl)

    -- it is
    pub entered-more : {p : ℕ} → EntryGives v before after (Some p) → Entered all (set s v p) (v + 1) (rest_of after)
    unfolding Option-elim
    entered-more {p} g =
        let long : length (set s v p) ≡ length s = length-set s v p in
        let others = parts (length s - suc v) (suc v) (rest_of after) in
        record {
          some_of = omega arith;
          is = rw (long, add-one, take-suc-set s v p h) (f.is ∙ rw (parts_next (length s) v (rest_of before) h, ← g.is) (firsts_more (take v s) p others));
        }

-- ---- the sheet that was read

-- it is that of the lines, for buffers of the same length
pub sheet-read : (before after : Reader) {n : ℕ} (s : List ℕ) (r : std.Result Unit ℕ) → EntriesGive before after s r → length s ≡ n
    → sheet_of (rest_of after) s r ≡ parts n 0 (rest_of before)
sheet-read before after s r g long = g ∙ ap (λ (k : ℕ). parts k 0 (rest_of before)) long
