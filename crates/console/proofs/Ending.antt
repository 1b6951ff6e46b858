-- The whole run: what is printed of an input above the limit and of one within it, the room for it, and what the run gives.
-- Assumes nothing.
use Prim.Native.Nat.{ℕ, ◌≤◌, ◌<◌}
use native.Mathlib.Omega.{arith}
use mathlib.Core.Path.{◌≡◌, refl, sym, ap, ◌∙◌}
use mathlib.Core.List.{List, ◌++◌}
use borrow.Author.Tests.{le-leb, lt-leb}
use lib.ListN.{length}
use Rattle.std.specs.Prelude as std
use Rattle.std.specs.Prelude.{Ok, Err}
use Rattle.tree.specs.declared.Refusal.{Refusal}
use denote.Ref.{Bor, MutBor}
use Rattle.text.specs.Writes.{HasRoom, Writes, Begins}
use Rattle.text.specs.declared.write.Writer.{Writer}
use Rattle.text.proofs.Putting.{over-start}
use Rattle.lines.specs.Gives.{rest_of, opening_of, StartGives}
use Rattle.lines.specs.declared.reader.Reader.{Reader}
use Rattle.console.specs.Print.{refusal_line, machine_line}
use Rattle.console.specs.Run.{most_bytes, illegible, parts, sheet_run, machine_run, run, output}
use Rattle.console.specs.Whole.{room, RunGives}
use Rattle.console.proofs.Bounds.{output-bound}

-- an input above the limit
pub output-above : (input : List ℕ) → most_bytes < length input → illegible 1 ≡ output input
unfolding output
output-above input h = rw (lt-leb (length input) most_bytes h) refl

-- what is printed by what the machine line gave
abbrev pub start_text : std.Result (ℕ × Reader) Refusal → List ℕ
start_text (Ok (n, reader)) = machine_line n ++ sheet_run (parts n 0 (rest_of reader))
start_text (Err why) = refusal_line why

-- that is what the opening prints
start-prints : (r : std.Result (ℕ × Reader) Refusal) → start_text r ≡ machine_run (opening_of r)
unfolding machine_run
start-prints (Ok (n, reader)) = refl
start-prints (Err why) = refl

-- an input within the limit prints it
pub output-within : {input : Bor (List ℕ)} {r : std.Result (ℕ × Reader) Refusal} → length input.now ≤ most_bytes → StartGives input r → start_text r ≡ output input.now
unfolding run output
output-within {input} {r} h g = start-prints r ∙ ap machine_run g.is ∙ rw (le-leb (length input.now) most_bytes h) refl

-- a buffer that is too short is as it was
pub run_short : {input out : List ℕ} {n : ℕ} → n ≡ room (length input) → length out < n → RunGives input out (Err (record { needed = n })) out
run_short {input} {out} {n} e h =
    let no_room = lt-leb (room (length input)) (length out) (rw e at h) in
    record { outcome = sym no_room; count = rw no_room e; buffer = rw no_room refl; bound = output-bound input }

-- one that is not has room for the text
module _ (input : List ℕ) {out : MutBor (List ℕ)} {n : ℕ} (e : n ≡ room (length input)) (h : n ≤ length out.now) (before : Writer) (b : Begins out before) where
  pub run_room : HasRoom before (output input)
  run_room = rw (b.start, b.now) (omega (arith, output-bound input))

  -- and has it at its start
  pub run-text : {after : Writer} {out' : List ℕ} → Writes before (output input) after → out' ≡ after.out.now → RunGives input out.now (Ok after.at) out'
  run-text {after} w last =
      let roomy = le-leb (room (length input)) (length out.now) (rw e at h) in
      let written = rw (b.start, b.now) at w.puts.written in
      let long : after.at ≡ length (output input) = omega (arith, w.puts.place, b.start) in
      record {
        outcome = sym roomy;
        count = rw roomy long;
        buffer = rw roomy (last ∙ written ∙ over-start out.now (output input));
        bound = output-bound input;
      }
