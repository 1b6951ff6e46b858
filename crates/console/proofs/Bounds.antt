-- What a run prints has room: `per_byte` bytes for each byte of the input, and `besides` more.
-- Assumes nothing.
use Prim.Native.Nat.{ℕ, zero, suc, ◌+◌, ◌*◌, ◌≤◌, ◌<◌}
use native.Mathlib.Omega.{arith}
use mathlib.Core.Path.{◌≡◌, refl, ap, ◌∙◌}
use mathlib.Core.List.{List, [], ◌∷◌, ◌++◌}
use mathlib.Core.Option.{Option, none, some, Option-elim, bind, none-ne-some, some_inj}
use borrow.Author.Tests.{leb-true, leb-false}
use borrow.Table.Steps.{cases}
use lib.Dec.{leb, eqb}
use lib.ListN.{length, length-append}
use Rattle.tree.specs.Verdict.{Verdict, accepted, refused}
use Rattle.tree.specs.Tests.{verdict, too_large, sheet_tests, Accepted}
use Rattle.tree.proofs.Verdicts.{accepted-passed}
use Rattle.text.specs.Bytes.{bytes, lf}
use Rattle.text.specs.Lines.{Lines, tail, line, before, lines}
use Rattle.text.proofs.Numerals.{one-reading}
use Rattle.lines.specs.Forms.{Query, Form, machine, part, asked, text}
use Rattle.lines.specs.Read.{read, next, machine_count, entry, query, next_as}
use Rattle.lines.specs.Machine.{most, count_tests, by_count, no_machine, opening}
use Rattle.lines.proofs.Legible.{first_read, read-exactly}
use Rattle.console.specs.Print.{machine_line, given}
use Rattle.console.specs.Run.{illegible, answer, leftover, questions}
use Rattle.console.specs.Run.{Sheet, sheet, broken, first, part_line, parts, sheet_run, machine_run, run, most_bytes, output}
use Rattle.console.specs.Whole.{per_byte, besides, room}
use Rattle.console.proofs.Lengths.{Short, refusal-length, given-length, count-shorts, sheet-shorts, answer-length}

-- ---- lines

-- the bytes of some lines, with their LFs
byte_count : Lines → ℕ
byte_count (tail b) = length b
byte_count (line b rest) = suc (length b + byte_count rest)

-- one byte more
count-before : (x : ℕ) (ls : Lines) → byte_count (before x ls) ≡ suc (byte_count ls)
unfolding byte_count
count-before x (tail b) = refl
count-before x (line b rest) = omega arith

-- the lines of a text have its bytes
count-lines : (b : List ℕ) → byte_count (lines b) ≡ length b
unfolding lines byte_count
count-lines [] = refl
count-lines (x ∷ b) =
    let rest : byte_count (lines b) ≡ length b = count-lines b in
    cases (eqb x lf) (λ e. rw e (omega arith)) (λ e. rw (e, count-before x (lines b)) (omega arith))

-- a line that was taken was a form's text
record Took {A : Type 0} (take : Form → Option A) (ls : Lines) (a : A) (rest : Lines) : Type 0 where
  form : Form
  is : take form ≡ some a
  bytes-are : byte_count ls ≡ suc (length (text form) + byte_count rest)

took : {A : Type 0} (take : Form → Option A) (ls : Lines) (a : A) (rest : Lines) → next_as take ls ≡ some (a, rest) → Took take ls a rest
unfolding next_as next byte_count bind
took take (tail b) a rest e = absurd (none-ne-some (a, rest) e)
took take (line b ls) a rest e =
    first_read (bind (read b) (λ f. some (f, ls))) _ e λ (f, after) p q.
    first_read (read b) _ p λ g r same-form.
    first_read (take f) _ q λ c is same.
    let (legible, _) = (read-exactly b g).0 r in
    let (form-is, lines_are) = one-reading same-form in
    let (value-is, rest-is) = one-reading same in
    let left : ls ≡ rest = lines_are ∙ rest-is in
    record { form = g; is = ap take form-is ∙ is ∙ ap some value-is; bytes-are = rw (legible, left) refl }

-- ---- questions

-- the line of an illegible line
illegible-length : (number : ℕ) → Short number → length (illegible number) ≤ 27
illegible-length number h = refusal-length _ number (omega arith) h

-- what is printed for bytes after the last LF
leftover-length : (number : ℕ) (b : List ℕ) → Short number → length (leftover number b) ≤ 27
unfolding leftover
leftover-length number [] h = omega arith
leftover-length number (x ∷ b) h = illegible-length number h

-- a form that is taken as a question is one
query-is : (f : Form) (q : Query) → query f ≡ some q → f ≡ asked q
unfolding query
query-is (machine n) q e = absurd (none-ne-some q e)
query-is (part v p) q e = absurd (none-ne-some q e)
query-is (asked p) q e = ap asked (some_inj.0 e)

-- a question that was read, and its answer
question-length : (s : List ℕ) → Accepted s → length s ≤ most → (b : List ℕ) (q : Query) → bind (read b) query ≡ some q
    → length (answer s q) ≤ per_byte * suc (length b)
question-length s a few b q e =
    first_read (read b) query e λ f p r.
    let (is, legal) = rw (query-is f q r) at ((read-exactly b f).0 p) in
    rw is (answer-length s a few q legal)

-- the answers to all questions, and the last refusal. A line's number grows by one with each line, which has at least its LF
questions-length : (s : List ℕ) → Accepted s → length s ≤ most → (number : ℕ) (ls : Lines) → Short (number + byte_count ls)
    → length (questions s number ls) ≤ per_byte * byte_count ls + 27
unfolding questions Option-elim byte_count
questions-length s a few number (tail b) h = let last = leftover-length number b (omega arith) in omega arith
questions-length s a few number (line b rest) h = by-question (bind (read b) query) refl (questions-length s a few (suc number) rest (omega arith))
  where
    by-question : (o : Option Query) → bind (read b) query ≡ o → length (questions s (suc number) rest) ≤ per_byte * byte_count rest + 27
        → length (Option-elim o (illegible number) (λ q. answer s q ++ questions s (suc number) rest)) ≤ per_byte * suc (length b + byte_count rest) + 27
    by-question none e later = let last = illegible-length number (omega arith) in omega arith
    by-question (some q) e later = let here = question-length s a few b q e in simp length-append (omega arith)

-- ---- the sheet

-- k part lines from part v on: all were read, and no more bytes are left; or one of them was not
PartsRead : ℕ → ℕ → Lines → Sheet → Type 0
PartsRead k v ls (sheet s rest) = (length s ≡ k) × (byte_count rest ≤ byte_count ls)
PartsRead k v ls (broken number) = number < part_line (v + k)

-- one part line before the others
first_part : (k v p : ℕ) (ls rest : Lines) (r : Sheet) → byte_count rest ≤ byte_count ls → PartsRead k (suc v) rest r → PartsRead (suc k) v ls (first p r)
unfolding PartsRead
first_part k v p ls rest (sheet s end) h (all, left) = omega arith
first_part k v p ls rest (broken number) h b = omega arith

-- the part lines
parts-read : (k v : ℕ) (ls : Lines) → PartsRead k v ls (parts k v ls)
unfolding parts Option-elim PartsRead
parts-read zero v ls = omega arith
parts-read (suc k) v ls = by-line (next_as (entry v) ls) refl (parts-read k (suc v))
  where
    by-line : (o : Option (ℕ × Lines)) → next_as (entry v) ls ≡ o → ((rest : Lines) → PartsRead k (suc v) rest (parts k (suc v) rest))
        → PartsRead (suc k) v ls (Option-elim o (broken (part_line v)) (λ found. first found.0 (parts k (suc v) found.1)))
    by-line none e later = omega arith
    by-line (some (p, rest)) e later =
        let line-was = took (entry v) ls p rest e in
        first_part k v p ls rest (parts k (suc v) rest) (omega (arith, line-was.bytes-are)) (later rest)

-- what is printed from the part lines on
sheet-length : (n : ℕ) (ls : Lines) (r : Sheet) → n ≤ most → byte_count ls ≤ most_bytes → PartsRead n 0 ls r → length (sheet_run r) ≤ per_byte * byte_count ls + 27
unfolding sheet_run PartsRead
sheet-length n ls (sheet s rest) h k (all, left) =
    given-length (sheet_tests s 0) (questions s (part_line (length s)) rest) (per_byte * byte_count ls + 27) (sheet-shorts s (omega arith)) (omega arith)
    (λ a. let after = questions-length s a (omega arith) (part_line (length s)) rest (omega arith) in omega arith)
sheet-length n ls (broken number) h k b = let last = illegible-length number (omega arith) in omega arith

-- ---- the machine

-- a form that is taken as a machine line is one
count-is : (f : Form) (n : ℕ) → machine_count f ≡ some n → f ≡ machine n
unfolding machine_count
count-is (machine m) n e = ap machine (some_inj.0 e)
count-is (part v p) n e = absurd (none-ne-some n e)
count-is (asked q) n e = absurd (none-ne-some n e)

-- a count that is accepted is at most 512
count_most : (n : ℕ) → verdict (count_tests n) ≡ accepted → n ≤ most
unfolding too_large
count_most n e = let (_, (small, _)) = accepted-passed (count_tests n) e in leb-true n most small

-- the machine line is repeated, as long as it was
machine_line-length : (n : ℕ) → length (machine_line n) ≡ suc (length (text (machine n)))
unfolding machine_line text bytes
machine_line-length n = simp length-append (omega arith)

-- what is printed by the verdict of a count
count-prints : (v : Verdict) (n : ℕ) (ls : Lines) → machine_run (by_count v n ls) ≡ given v (machine_line n ++ sheet_run (parts n 0 ls))
unfolding by_count machine_run given
count-prints accepted n ls = refl
count-prints (refused number place) n ls = refl

-- what is printed from the machine line's count on
machine-length : (n : ℕ) (ls : Lines) → byte_count ls ≤ most_bytes
    → length (machine_run (by_count (verdict (count_tests n)) n ls)) ≤ length (machine_line n) + (per_byte * byte_count ls + 27)
machine-length n ls h =
    rw (count-prints (verdict (count_tests n)) n ls)
    (given-length (count_tests n) _ _ (count-shorts n) (omega arith)
    (λ a. let after = sheet-length n ls (parts n 0 ls) (count_most n a) h (parts-read n 0 ls) in simp length-append (omega arith)))

-- what is printed of all lines
run_length : (ls : Lines) → byte_count ls ≤ most_bytes → length (run ls) ≤ per_byte * byte_count ls + besides
unfolding opening machine_run run Option-elim
run_length ls h = by-line (next_as machine_count ls) refl
  where
    by-line : (o : Option (ℕ × Lines)) → next_as machine_count ls ≡ o
        → length (machine_run (Option-elim o no_machine (λ found. by_count (verdict (count_tests found.0)) found.0 found.1)))
        ≤ per_byte * byte_count ls + besides
    by-line none e = let last = illegible-length 1 (omega arith) in omega arith
    by-line (some (n, rest)) e =
        let line-was = took machine_count ls n rest e in
        let bytes-are = rw (count-is _ n line-was.is) at line-was.bytes-are in
        let repeated = machine_line-length n in
        let after = machine-length n rest (omega arith) in
        omega arith

-- what the program prints has room
pub output-bound : (input : List ℕ) → length (output input) ≤ room (length input)
unfolding output
output-bound input =
    let all = count-lines input in
    cases (leb (length input) most_bytes)
    (λ e. let small = leb-true (length input) most_bytes e in let text-is = run_length (lines input) (omega arith) in rw e (omega arith))
    (λ e. let large = leb-false (length input) most_bytes e in let last = illegible-length 1 (omega arith) in rw e (omega arith))
