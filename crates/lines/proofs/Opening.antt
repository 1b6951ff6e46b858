-- How an input begins: the machine line is taken, and tests 1 and 2 decide over its count.
-- Assumes nothing.
use Prim.Native.Nat.{ℕ, ◌≤◌, ◌<◌}
use native.Mathlib.Omega.{arith}
use mathlib.Core.Path.{◌≡◌, refl, ap, ◌∙◌}
use mathlib.Core.List.{List, [], ◌∷◌}
use mathlib.Core.Option.{Option-elim}
use borrow.Author.Tests.{lt-ltb, le-ltb, le-leb, lt-leb}
use Rattle.tree.specs.Tests.{verdict, empty, too_large}
use Rattle.tree.specs.Verdict.{accepted, refused}
use Rattle.tree.specs.declared.Refusal.{Refusal}
use Rattle.tree.specs.declared.Refusal.TheVariants.{Empty, TooLarge, MalformedLine}
use Rattle.tree.proofs.Verdicts.{first-refused, passed-accepted}
use Rattle.text.specs.Lines.{lines}
use Rattle.lines.specs.Read.{machine_count, next_as}
use Rattle.lines.specs.Machine.{most, count_tests, by_count, opening}
use denote.Ref.{Bor}
use Rattle.std.specs.Prelude as std
use Rattle.std.specs.Prelude.{Some, None, Ok, Err}
use Rattle.lines.specs.Gives.{bytes_of, rest_of, Takes, AdmitGives, StartGives}
use Rattle.lines.specs.declared.reader.Reader.{Reader}

-- ---- its count

-- no parts are refused
empty-refused : (n : ℕ) → n ≡ 0 → verdict (count_tests n) ≡ refused 1 0
unfolding empty
empty-refused n e = first-refused [] (empty n) _ tt (le-ltb 0 n (omega arith))

-- and so are more than the most
large-refused : (n : ℕ) → most < n → verdict (count_tests n) ≡ refused 2 0
unfolding empty too_large
large-refused n h = first-refused (empty n ∷ []) (too_large most n) [] (lt-ltb 0 n (omega arith), tt) (lt-leb n most h)

-- others are accepted
count-accepted : (n : ℕ) → 0 < n → n ≤ most → verdict (count_tests n) ≡ accepted
unfolding empty too_large
count-accepted n above few = passed-accepted (count_tests n) (lt-ltb 0 n above, (le-leb n most few, tt))

-- what `admit` gives for no parts
pub admit-empty : {n : ℕ} → n ≡ 0 → AdmitGives n (Err Empty)
unfolding by_count
admit-empty {n} nothing = record { is = λ ls. rw (empty-refused n nothing); within = tt }

-- for too many
pub admit-large : {n : ℕ} → most < n → AdmitGives n (Err TooLarge)
unfolding by_count
admit-large {n} many = record { is = λ ls. rw (large-refused n many); within = tt }

-- and for others
pub admit-parts : {n : ℕ} → 0 < n → n ≤ most → AdmitGives n (Ok n)
unfolding by_count
admit-parts {n} above few = record { is = λ ls. rw (count-accepted n above few); within = (above, few) }

-- ---- its line

-- a reader at the input's start stands at the first line
pub at_first : (reader : Reader) {input : Bor (List ℕ)} → (reader.input ≡ input) × (reader.at ≡ 0) → bytes_of reader ≡ input.now
at_first reader e = rw (e.0, e.1) refl

-- what a machine line was taken as
abbrev Counted : Reader → Reader → std.Option ℕ → Type 0
Counted before after r = Takes (λ n. n) (next_as machine_count (rest_of before)) before after r

module _ {input : Bor (List ℕ)} (before after : Reader) (made : (before.input ≡ input) × (before.at ≡ 0)) where
  -- its lines are the input's
  first : rest_of before ≡ lines input.now
  first = ap lines (at_first before made)

  -- there is no machine line
  pub start_none : Counted before after None → StartGives input (Err (MalformedLine 1))
  unfolding opening Option-elim
  start_none g = record { is = rw (← first, ← g.is) refl; within = tt; same = tt }

  module _ {n : ℕ} (g : Counted before after (Some n)) where
    -- its count is refused
    pub start-refused : {why : Refusal} → AdmitGives n (Err why) → StartGives input (Err why)
    unfolding opening Option-elim
    start-refused a = record { is = a.is (rest_of after) ∙ rw (← first, ← g.is) refl; within = tt; same = tt }

    -- or it is that of a machine
    pub start-machine : {m : ℕ} → AdmitGives n (Ok m) → StartGives input (Ok (m, after))
    unfolding opening Option-elim
    start-machine a =
        let (above, few) = a.within in
        record {
          is = a.is (rest_of after) ∙ rw (← first, ← g.is) refl;
          within = (above, few, rw (at_first before made) at g.left);
          same = g.same ∙ made.0;
        }
