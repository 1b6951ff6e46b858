-- How the reading of a line goes, step by step, and what it gives where it ends.
-- Assumes nothing.
use Prim.Native.Nat.{ℕ, ◌≤◌, ◌<◌}
use native.Mathlib.Omega.{arith}
use mathlib.Core.Path.{◌≡◌, refl, sym}
use mathlib.Core.List.{List, [], ◌∷◌}
use mathlib.Core.Option.{Option, none, some, bind}
use mathlib.Core.Bool.{Bool}
use borrow.Author.Tests.{le-leb, lt-leb, ne_eqb}
use lib.Dec.{eqb}
use lib.ListN.{length}
use Rattle.std.specs.Bool.{then_some}
use Rattle.std.specs.Prelude as std
use Rattle.std.specs.Prelude.{Some, None, MatchOption}
use Rattle.text.specs.Fields.{whole, either}
use Rattle.text.specs.Found.{found_as}
use Rattle.lines.specs.Forms.{Form}
use Rattle.lines.specs.Read.{machine_form, part_form, pair_form, many_form, longest, read}
use Rattle.lines.specs.Gives.{reading_of}
use Rattle.lines.specs.declared.form.Line.{Line}

module _ {A B : Type 0} {sought : Option A} (k : A → Option B) where
  -- a step that finds nothing ends it
  pub stops : none ≡ sought → none ≡ bind sought k
  unfolding bind
  stops e = rw (sym e)

  -- a step that finds something hands it to the next
  pub goes_on : {a : A} {o : Option B} → some a ≡ sought → o ≡ k a → o ≡ bind sought k
  unfolding bind
  goes_on e g = rw (sym e) g

-- no bytes are left, or some are
pub read_whole : {A B : Type 0} (f : A → B) (rest : List ℕ) (a : A) {b : Bool} → b ≡ eqb (length rest) 0 → found_as f (then_some b a) ≡ whole rest (f a)
unfolding whole
read_whole f [] a e = rw e refl
read_whole f (x ∷ rest) a e = rw (e, ne_eqb (length (x ∷ rest)) 0 (λ q. omega arith)) refl

-- the first of two readings that is one: the second is made where the first is none
pub is_either : {form : Option Form} (other : Option Form) {P : Type 0} (a r : std.Option Line) → reading_of a ≡ form → MatchOption a P (λ l'. r ≡ Some l')
    → (P → reading_of r ≡ other) → reading_of r ≡ either form other
unfolding either
is_either other None r e m second = rw (← e) (second m)
is_either other (Some l) r e m second = rw (← e, m) refl

-- it is the first of the first two, or the last
pub either_assoc : {A : Type 0} (a b c : Option A) → either (either a b) c ≡ either a (either b c)
unfolding either
either_assoc none b c = refl
either_assoc (some x) b c = refl

module _ (line : List ℕ) where
  -- a line of too many bytes
  pub reads-long : longest < length line → reading_of None ≡ read line
  unfolding read
  reads-long h = rw (lt-leb _ _ h) refl

  -- another line is tried as each form
  pub reads_short : (r : std.Option Line) → length line ≤ longest
      → reading_of r ≡ either (machine_form line) (either (part_form line) (either (pair_form line) (many_form line)))
      → reading_of r ≡ read line
  unfolding read
  reads_short r h g = rw (le-leb _ _ h) g
