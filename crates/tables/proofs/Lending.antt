-- The calls of this crate: what was found of the lengths is what is there, what an accepted call's buffers are, how the tests of sizes and of the tree follow each
-- other, and what building gives.
-- Assumes nothing.
use Prim.Native.Nat.{ℕ, ◌≤◌, ◌<◌}
use native.Mathlib.Omega.{arith}
use mathlib.Core.Path.{◌≡◌, sym, ap, ◌∙◌}
use mathlib.Core.List.{List}
use lib.ListN.{length, replicate}
use Rattle.tree.specs.declared.Refusal.{Refusal}
use Rattle.std.proofs.Common.{Ok, Err}
use Rattle.tree.specs.Verdict.{accepted, refused, verdict_of, Outcome}
use Rattle.tree.specs.Buffers.{work_cells}
use Rattle.tree.specs.Tests.{limit, verdict, size_tests, tree_tests, sheet_tests}
use Rattle.tree.specs.Tables.{Lent}
use Rattle.tree.specs.Lending.{sheet_unfit, unfit_of}
use Rattle.tree.proofs.Verdicts.{not-both, accepted-on}
use Rattle.tree.proofs.Answers.{same-verdict, filled-own, filled-kept, work-accepted, work-zero, sizes-accepted, sizes-early, tree-later}
use Rattle.tree.proofs.Stages.{answered-as, answered-by, stage-early, stage-refused, stage-no, stage-yes}
use Rattle.tree.proofs.Owning.{exact, sheet-exact, accepted-small}
use Rattle.tables.specs.Check.{Tested, OrderGives}
use Rattle.tables.specs.Lend.{build_verdict, BuildGives}
use Rattle.tables.specs.Sections.{Fits, Built}

-- what a call has found of the lengths, `unfit` for `there`, of a sheet that is neither too small nor too large
abbrev pub Found : List ℕ → ℕ → ℕ → Type 0
Found s there unfit = 0 < length s → length s ≤ limit → unfit ≡ there

-- it gives the answer of what is there
pub found-tested : (s : List ℕ) (there unfit : ℕ) {before after : List ℕ} {r : Outcome} → Found s there unfit → Tested s unfit before r after
    → Tested s there before r after
found-tested s there unfit found = answered-as (same-verdict s unfit there found)

-- where it has found nothing, work has its length: without tables, and with them
pub found-room : (s work : List ℕ) (further unfit : ℕ) → Found s (sheet_unfit s work further) unfit → 0 < length s → length s ≤ limit → unfit ≡ 0
    → length work ≡ work_cells (length s)
found-room s work further unfit found some small e = (sheet-exact s work further (sym (found some small) ∙ e)).0

pub found-work : (t : Lent) (work : List ℕ) (further unfit : ℕ) → Found t.parents (unfit_of t work further) unfit → 0 < length t.parents
    → length t.parents ≤ limit → unfit ≡ 0 → length work ≡ work_cells (length t.parents)
found-work t work further unfit found some small e = (exact t work further (sym (found some small) ∙ e)).work_cells_lem

-- where tests 1 to 7 accept, the sheet is ready and the tables have their lengths
pub tested-fits : (t : Lent) (work after : List ℕ) (further unfit : ℕ) {r : Outcome} {left : List ℕ} → Found t.parents (unfit_of t work further) unfit
    → Tested t.parents unfit work r left → r ≡ Ok tt → length after ≡ length work → Fits t after
tested-fits t work after further unfit found tested e same =
    let s = t.parents in
    let yes = stage-yes tested e in
    let (none, small) = accepted-small s unfit yes in
    let some : 0 < length s = omega (arith, small.tree.root-inside) in
    let x = exact t work further (sym (found some small.most) ∙ none) in
    record {
      ready = record { tree = small.tree; small = small.most; room = same ∙ x.work_cells_lem };
      label_length = x.label_length;
      tour_length = x.tour_length;
      lift_length = x.lift_length;
      order_length = x.order_length;
    }

-- ---- tests 1 to 3, and then 4 to 7

module _ (s : List ℕ) (buffer : ℕ) {sizes : Outcome} (told : verdict_of sizes ≡ verdict (size_tests (length s) buffer)) where
  -- a refusal by the first three stands, and work is not touched
  pub sizes-refuse : {why : Refusal} {r : Outcome} (work : List ℕ) → sizes ≡ Err why → r ≡ Err why → Tested s buffer work r work
  sizes-refuse work e same = stage-refused (stage-early work (sizes-early (length s) buffer) told e) (tree_tests 0 s) e same

  -- where they accept, the sheet is neither too small nor too large, and all buffers fit
  pub sizes-hold : sizes ≡ Ok tt → (0 < length s) × (length s ≤ limit) × (buffer ≡ 0)
  sizes-hold e = sizes-accepted (length s) buffer (sym told ∙ ap verdict_of e)

  -- and tests 4 to 7 decide
  pub tree-decides : sizes ≡ Ok tt → verdict (sheet_tests s buffer) ≡ verdict (tree_tests 0 s)
  tree-decides e = accepted-on (size_tests (length s) buffer) (tree_tests 0 s) (sym told ∙ ap verdict_of e)

  pub tree-tested : {work after : List ℕ} {r : Outcome} → sizes ≡ Ok tt → verdict_of r ≡ verdict (tree_tests 0 s) → after ≡ replicate (length work) 0
      → Tested s buffer work r after
  tree-tested {work} e decided clear =
      record { outcome = decided ∙ sym (tree-decides e); work = clear ∙ sym (work-zero _ (tree_tests 0 s) work (tree-decides e) (tree-later 0 s)) }

-- a refused call leaves no order
pub order-refused : {s before after : List ℕ} {further number place : ℕ} {r : Outcome} → Tested s (sheet_unfit s before further) before r after
    → verdict_of r ≡ refused number place → OrderGives s further before r after
order-refused tested refuses = record {
  outcome = tested.outcome;
  refusal = λ _ _ _. tested.work;
  edges = λ yes. absurd (not-both yes (sym tested.outcome ∙ refuses));
}

-- ---- building

module _ (t : Lent) (work : List ℕ) {r : Outcome} {after : List ℕ} (tested : Tested t.parents (unfit_of t work 0) work r after) where
  -- a refused call leaves the tables as they were
  pub build-refused : {why : Refusal} {q : Outcome} → r ≡ Err why → q ≡ Err why → BuildGives t work q t.label t.tour t.lift t.order after
  build-refused e same =
      let v = build_verdict t work in
      let refuses = stage-no tested e in
      record {
        answered = answered-by tested (same ∙ sym e);
        label = filled-kept v _ _ _ _ refuses;
        tour = filled-kept v _ _ _ _ refuses;
        lift = filled-kept v _ _ _ _ refuses;
        order = filled-kept v _ _ _ _ refuses;
      }

  -- an accepted one fills them
  pub build-accepted : {q : Outcome} {label' tour' lift' order' work' : List ℕ} → r ≡ Ok tt → q ≡ Ok tt → length work ≡ work_cells (length t.parents)
      → Built t.parents label' tour' lift' order' work' → BuildGives t work q label' tour' lift' order' work'
  build-accepted e same room built =
      let v = build_verdict t work in
      let accepts : v ≡ accepted = stage-yes tested e in
      record {
        answered = record {
          outcome = (answered-by tested (same ∙ sym e)).outcome;
          work = built.work ∙ ap (λ (k : ℕ). replicate k 0) (sym room) ∙ sym (work-accepted v work accepts);
        };
        label = built.label ∙ filled-own v _ _ accepts;
        tour = built.tour ∙ filled-own v _ _ accepts;
        lift = built.lift ∙ filled-own v _ _ accepts;
        order = built.order ∙ filled-own v _ _ accepts;
      }
