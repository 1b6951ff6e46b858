-- The questions, one by one: what was printed of those before a position, and what is printed from there on.
-- Assumes nothing.
use Prim.Native.Nat.{ℕ, suc, ◌+◌, ◌≤◌, ◌<◌}
use native.Mathlib.Numerals.{add-one}
use native.Mathlib.Omega.{arith}
use mathlib.Core.Path.{◌≡◌, refl, sym, ap, ◌∙◌}
use mathlib.Core.List.{List, [], ◌∷◌, ◌++◌, append_assoc}
use mathlib.Core.Option.{Option, none, some, Option-elim, bind}
use lib.Dec.{eqb}
use lib.ListN.{length}
use Rattle.tree.proofs.Scans.{by-test}
use Rattle.text.specs.Bytes.{lf}
use Rattle.std.specs.Prelude as std
use Rattle.std.specs.Prelude.{Some, None}
use Rattle.std.proofs.lemmas.List.{nil_from_length}
use Rattle.text.specs.Found.{found_as}
use Rattle.text.specs.Lines.{Lines, tail, line, before, lines}
use Rattle.text.specs.Writes.{HasRoom, Writes}
use Rattle.text.specs.declared.write.Writer.{Writer}
use Rattle.text.proofs.Putting.{room-first}
use Rattle.text.proofs.Writing.{writes_none, has-then, writes_then}
use Rattle.lines.specs.Forms.{Query, Form, machine, part, asked}
use Rattle.lines.specs.Read.{read, next, query, next_as}
use Rattle.lines.specs.Gives.{query_of, bytes_of, rest_of, left_by}
use Rattle.lines.specs.declared.reader.Reader.{Reader}
use Rattle.lines.specs.declared.form.Question.{Question}
use Rattle.console.specs.Run.{illegible, answer, leftover, questions}
use Rattle.console.specs.Gives.{AsksGive}

-- ---- a line

-- what the next line prints, with those after it
abbrev printed : List ℕ → ℕ → Option (Query × Lines) → List ℕ
printed s number none = illegible number
printed s number (some found) = answer s found.0 ++ questions s (suc number) found.1

module _ (s : List ℕ) (number : ℕ) where
  -- that is said by the form that it is read as
  form-prints : (form : Option Form) (rest : Lines)
      → Option-elim (bind form query) (illegible number) (λ q. answer s q ++ questions s (suc number) rest)
      ≡ printed s number (bind {B = Query × Lines} (bind {B = Form × Lines} form (λ f. some (f, rest))) (λ p. bind (query p.0) (λ q. some (q, p.1))))
  unfolding query bind Option-elim
  form-prints none rest = refl
  form-prints (some (machine n)) rest = refl
  form-prints (some (part v p)) rest = refl
  form-prints (some (asked q)) rest = refl

  -- where something is left to read
  line-prints : (ls : Lines) → (ls ≡ tail [] → ⊥) → questions s number ls ≡ printed s number (next_as query ls)
  unfolding questions next_as next bind leftover
  line-prints (tail []) some_left = absurd (some_left refl)
  line-prints (tail (x ∷ b)) some_left = refl
  line-prints (line b rest) some_left = form-prints (read b) rest

-- ---- what a reader has before it

-- a byte leaves something to read
before-some : (x : ℕ) (l : Lines) → before x l ≡ tail [] → ⊥
before-some x (tail b) e = let z : ◌≡◌ {A = ℕ} 0 1 = cc in omega arith
before-some x (line b rest) e = let z : ◌≡◌ {A = ℕ} 0 1 = cc in omega arith

lines-some : (x : ℕ) (b : List ℕ) → lines (x ∷ b) ≡ tail [] → ⊥
unfolding lines
lines-some x b e =
    by-test (eqb x lf) (λ p. let z : ◌≡◌ {A = ℕ} 0 1 = cc in omega arith) (λ p. before-some x (lines b) (rw p at e))

-- no bytes are no line
none_left : (reader : Reader) → left_by reader ≡ 0 → rest_of reader ≡ tail []
unfolding lines
none_left reader h = rw (nil_from_length (bytes_of reader) h) refl

-- some bytes are one, or the beginning of one
some_left : (b : List ℕ) → 0 < length b → lines b ≡ tail [] → ⊥
some_left [] h = absurd (omega arith)
some_left (x ∷ b) h = lines-some x b

-- what was found says what is printed from there on
here-prints : (before after : Reader) {r : std.Option Question} (s : List ℕ) (number : ℕ) → AsksGive before after r → 0 < left_by before
    → questions s number (rest_of before) ≡ printed s number (found_as (λ q. (query_of q, rest_of after)) r)
here-prints before after s number g h = line-prints s number (rest_of before) (some_left (bytes_of before) h) ∙ ap (printed s number) (sym g.is)

-- ---- the loop

-- the questions of some lines are answered up to those that are left, the first of which is line `number`
pub record AnsweredUpto (all : Lines) (first : ℕ) (s : List ℕ) (entry to : Writer) (left : Lines) (number : ℕ) : Type 0 where
  pub text : List ℕ
  pub writes : Writes entry text to
  pub is : questions s first all ≡ text ++ questions s number left

-- before the first
pub answered-none : (all : Lines) (first : ℕ) (s : List ℕ) (entry : Writer) → entry.at ≤ length entry.out.now → AnsweredUpto all first s entry entry all first
answered-none all first s entry r = record { text = []; writes = writes_none entry r; is = refl }

module _ {all : Lines} {first : ℕ} {s : List ℕ} (entry to : Writer) (room : HasRoom entry (questions s first all)) (before : Reader) {number : ℕ}
    (d : AnsweredUpto all first s entry to (rest_of before) number) where
  -- there is room for what is printed from here on
  rest-room : {rest : List ℕ} → questions s number (rest_of before) ≡ rest → HasRoom to rest
  rest-room e = has-then d.writes _ (rw (d.is, e) at room)

  -- and once it is printed, all is
  rest-last : {rest : List ℕ} {to' : Writer} → questions s number (rest_of before) ≡ rest → Writes to rest to' → Writes entry (questions s first all) to'
  rest-last {rest} e p =
      let whole : questions s first all ≡ d.text ++ rest = d.is ∙ ap (λ (u : List ℕ). d.text ++ u) e in
      rw whole (writes_then d.writes _ (rw whole at room) p)

  -- at the end all are answered
  pub answered-all : left_by before ≡ 0 → Writes entry (questions s first all) to
  unfolding questions leftover
  answered-all h =
      let last : questions s number (rest_of before) ≡ [] = rw (none_left before h) refl in
      rest-last last (writes_none to (omega (arith, rest-room last)))

  module _ {after : Reader} (h : 0 < left_by before) where
    module _ {q : Question} (g : AsksGive before after (Some q)) where
      -- a question stands here
      here : questions s number (rest_of before) ≡ answer s (query_of q) ++ questions s (suc number) (rest_of after)
      here = here-prints before after s number g h

      -- there is room for its answer
      pub question-room : HasRoom to (answer s (query_of q))
      question-room = room-first _ (answer s (query_of q)) _ (rest-room here)

      -- and it is answered
      pub question-answered : {to' : Writer} → Writes to (answer s (query_of q)) to' → AnsweredUpto all first s entry to' (rest_of after) (number + 1)
      question-answered p =
          let own = answer s (query_of q) in
          let whole : questions s first all ≡ (d.text ++ own) ++ questions s (suc number) (rest_of after) =
          rw append_assoc (d.is ∙ ap (λ (u : List ℕ). d.text ++ u) here) in
          record {
            text = d.text ++ own;
            writes = writes_then d.writes own (room-first _ (d.text ++ own) _ (rw whole at room)) p;
            is = rw add-one whole;
          }

    module _ (g : AsksGive before after None) where
      -- something else does
      broken : questions s number (rest_of before) ≡ illegible number
      broken = here-prints before after s number g h

      -- there is room for its line
      pub illegible-room : HasRoom to (illegible number)
      illegible-room = rest-room broken

      -- with which all is printed
      pub illegible-last : {to' : Writer} → Writes to (illegible number) to' → Writes entry (questions s first all) to'
      illegible-last p = rest-last broken p
