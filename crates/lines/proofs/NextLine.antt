-- How the line at a reader's position is taken: its end is known, and what its bytes say.
-- Assumes nothing.
use Prim.Native.Nat.{ℕ, ◌+◌, ◌-◌, ◌≤◌, ◌<◌}
use native.Mathlib.Omega.{arith}
use mathlib.Core.Path.{◌≡◌, refl, sym, ap, ◌∙◌}
use mathlib.Core.List.{List, [], ◌∷◌, ◌++◌, append_assoc, append-nil}
use mathlib.Core.Option.{bind}
use lib.ListN.{length, length-append, length-drop, drop}
use Rattle.std.proofs.lemmas.List.{drop-drop, drop_at, drop_all}
use Rattle.std.specs.Prelude as std
use Rattle.std.specs.Prelude.{Some, None}
use Rattle.text.specs.Bytes.{lf}
use Rattle.text.specs.Lines.{tail, lines}
use Rattle.text.specs.Found.{Ends}
use Rattle.lines.specs.Read.{read, next}
use Rattle.lines.specs.Gives.{reading_of, bytes_of, rest_of, left_by, NextGives}
use Rattle.lines.specs.declared.form.Line.{Line}
use Rattle.lines.specs.declared.reader.Reader.{Reader}

-- what stands behind the first bytes of what is left, by its place
stands_behind : (input first rest : List ℕ) (at : ℕ) → at ≤ length input → drop at input ≡ first ++ rest → drop (length input - length rest) input ≡ rest
stands_behind input first rest at h e =
    let long : length input - at ≡ length first + length rest = sym (length-drop at input) ∙ ap length e ∙ length-append first rest in
    let place : length input - length rest ≡ at + length first = omega (arith, long) in
    rw place (sym (drop-drop (length first) at input) ∙ ap (drop (length first)) e ∙ drop_at first rest (length first) refl)

module _ (before after : Reader) (same : after.input ≡ before.input) where
  -- no LF ends it: the reader stands at the input's end
  pub takes-tail : rest_of before ≡ tail (bytes_of before) → after.at ≡ length before.input.now → NextGives before after None
  unfolding next lines
  takes-tail e place =
      let nothing : bytes_of after ≡ [] = rw (same, place) (drop_all (length before.input.now) before.input.now (omega arith)) in
      record {
        takes = record { is = rw e refl; further = tt; left = (bytes_of before, rw (nothing, append-nil) refl); same = same };
        behind = rw (nothing, e) refl;
      }

  module _ {first rest : List ℕ} (e : Ends (bytes_of before) first rest) (place : after.at ≡ length before.input.now - length rest) where
    -- an LF does: it is taken with the line
    whole : bytes_of before ≡ (first ++ (lf ∷ [])) ++ rest
    whole = e.is ∙ sym (append_assoc first (lf ∷ []) rest)

    -- the reader stands behind it
    there : bytes_of after ≡ rest
    there = rw (same, place) (stands_behind before.input.now (first ++ (lf ∷ [])) rest before.at before.within whole)

    -- with less before it
    less : left_by after < left_by before
    less =
        let long : left_by before ≡ length first + length (lf ∷ rest) = ap length e.is ∙ length-append first (lf ∷ rest) in
        let short : left_by after ≡ length rest = ap length there in
        omega (arith, long, short)

    -- whatever the line says
    pub takes-line : (r : std.Option Line) → reading_of r ≡ read first → NextGives before after r
    unfolding next bind
    takes-line None g = record {
      takes = record { is = rw (e.ended, ← g) refl; further = tt; left = (first ++ (lf ∷ []), rw there whole); same = same };
      behind = rw (there, e.ended) refl;
    }
    takes-line (Some l) g = record {
      takes = record { is = rw (e.ended, ← g, there) refl; further = less; left = (first ++ (lf ∷ []), rw there whole); same = same };
      behind = rw (there, e.ended) refl;
    }
