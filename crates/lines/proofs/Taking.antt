-- What a place takes of the next line, from what the reader gives: the line as the place takes it, or nothing.
-- Assumes nothing.
use mathlib.Core.Path.{◌≡◌, refl}
use mathlib.Core.Option.{Option, bind}
use Rattle.std.specs.Prelude as std
use Rattle.std.specs.Prelude.{Some, None}
use Rattle.text.specs.Found.{found_as}
use Rattle.lines.specs.Forms.{Form}
use Rattle.lines.specs.Read.{next_as}
use Rattle.lines.specs.Gives.{form_of, rest_of, Takes, NextGives}
use Rattle.lines.specs.declared.form.Line.{Line}
use Rattle.lines.specs.declared.reader.Reader.{Reader}

module _ {A B : Type 0} (of : B → A) (take : Form → Option A) {before after : Reader} where
  -- a line was read: the place takes it, or not
  pub takes : {l : Line} → NextGives before after (Some l) → (r : std.Option B) → found_as of r ≡ take (form_of l)
      → Takes of (next_as take (rest_of before)) before after r
  unfolding next_as bind
  takes g None t = record { is = rw (← g.takes.is, ← t) refl; further = tt; left = g.takes.left; same = g.takes.same }
  takes g (Some b) t = record { is = rw (← g.takes.is, ← t) refl; further = g.takes.further; left = g.takes.left; same = g.takes.same }

  -- none was read
  pub takes_none : NextGives before after None → Takes of (next_as take (rest_of before)) before after None
  unfolding next_as bind
  takes_none g = record { is = rw (← g.takes.is) refl; further = tt; left = g.takes.left; same = g.takes.same }
