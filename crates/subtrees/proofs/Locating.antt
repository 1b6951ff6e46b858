-- What the calls for a subtree give, from what they have found: on an accepted sheet PREORDER and SIZE say where the subtree stands, and it stands within the
-- order table.
-- Assumes nothing.
use Prim.Native.Nat.{ℕ, ◌+◌, ◌-◌, ◌≤◌, ◌<◌}
use native.Mathlib.Nat.{le_trans, zero-add, zero-mul, one-mul}
use native.Mathlib.Omega.{arith}
use mathlib.Core.Path.{◌≡◌, sym, ap, ◌∙◌, subst}
use mathlib.Core.List.{List, [], ◌∷◌}
use lib.Dec.{lit<}
use lib.ListN.{length, get_or, take, drop}
use denote.Ref.{Bor}
use Rattle.tree.specs.declared.Refusal.{Refusal}
use Rattle.tree.specs.declared.Refusal.TheVariants.{NodeOutOfRange}
use Rattle.std.proofs.Common.{Result, Ok, Err}
use Rattle.tree.specs.declared.Located.{Located}
use Rattle.tree.specs.Verdict.{Verdict, accepted, refused, Outcome, start_of, count_of}
use Rattle.tree.specs.Preorder.{preorder_number, size, subtree}
use Rattle.tree.specs.Labels.{label_table}
use Rattle.tree.specs.Nodes.{Small}
use Rattle.tree.specs.Tests.{Test, limit, lent_tests, part_tests, node_out_of_range}
use Rattle.tree.specs.Buffers.{label_cells, filled}
use Rattle.tree.specs.Tables.{Lent}
use Rattle.tree.specs.Lending.{unfit_of, part_verdict}
use Rattle.tree.specs.Answered.{Answered}
use Rattle.tree.proofs.Answers.{filled-own, filled-kept}
use Rattle.tree.proofs.Cells.{label-length, label-cell}
use Rattle.tree.proofs.Sizes.{preorder-pos, preorder-most, preorder-length}
use Rattle.tree.proofs.Subtrees.{subtree-within, subtree-slice, subtree-first}
use Rattle.tree.proofs.Questions.{refused-part, accepted-part, part-accepted, part-later}
use Rattle.tree.proofs.Verdicts.{by-verdict, accepted-on, accepted-both, refused-on}
use Rattle.tree.proofs.Stages.{stage-yes, stage-no, stage-refused, stage-clear, stage-on}
use Rattle.tree.proofs.Owning.{Owned, lent-owned}
use Rattle.tables.specs.Lend.{LentGives}
use Rattle.subtrees.specs.Stretch.{SliceOf, start_by, count_by_verdict, part_test, FindGives, LocateGives, SubtreeGives}

-- ---- a part of an accepted sheet

-- what is read of the sheet's own label table: there is room, PREORDER is 1 or more, and no number is above 16,384
pub record OwnNumbers (s label : List ℕ) (part : ℕ) : Type 0 where
  pub cells : length label ≡ label_cells (length s)
  pub number : get_or label part 0 ≡ preorder_number s part
  pub count : get_or label (length s + part) 0 ≡ size s part
  pub some : 0 < preorder_number s part
  pub low : preorder_number s part ≤ limit
  pub few : size s part ≤ limit

pub own-numbers : {s label : List ℕ} {part : ℕ} → Small s → label ≡ label_table s → part < length s → OwnNumbers s label part
own-numbers {s} {label} {part} small e h = record {
  cells = ap length e ∙ label-length s;
  number = ap (λ (l : List ℕ). get_or l part 0) e ∙ (rw (zero-mul, zero-add) at (label-cell s 0 part (lit< tt) h));
  count = ap (λ (l : List ℕ). get_or l (length s + part) 0) e ∙ (rw one-mul at (label-cell s 1 part (lit< tt) h));
  some = preorder-pos s part;
  low = le_trans (preorder-most small.tree part h) small.most;
  few = let within = subtree-within small.tree part h in omega (arith, small.most);
}

-- a number that is no part
pub find-refused : (s : List ℕ) (part : ℕ) → length s ≤ part → FindGives s part (Err (NodeOutOfRange 0))
find-refused s part h =
    let no = refused-part s part h in
    record { outcome = sym no; start = filled-kept (part_test s part) _ _ _ _ no; count = filled-kept (part_test s part) _ _ _ _ no }

-- a part, by its PREORDER and SIZE
pub find-found : {s label : List ℕ} (part : ℕ) → part < length s → OwnNumbers s label part
    → FindGives s part (Ok (record { start = get_or label part 0 - 1; count = get_or label (length s + part) 0 }))
find-found {s} part h c =
    let yes = accepted-part s part h in
    record {
      outcome = sym yes;
      start = ap (λ (k : ℕ). k - 1) c.number ∙ filled-own (part_test s part) _ _ yes;
      count = c.count ∙ filled-own (part_test s part) _ _ yes;
    }

-- ---- the call that locates

-- test 10 of a part, behind tests 1 to 8
abbrev last_test : List ℕ → ℕ → List Test
last_test s part = node_out_of_range s 0 (part ∷ []) ∷ []

module _ {A : Type 0} (t : Lent) (before : List ℕ) (part : ℕ) {r : Result A Refusal} {after : List ℕ} (given : LentGives t 0 before r after) where
  abbrev s : List ℕ
  s = t.parents

  -- a sheet or tables that are refused are refused whatever part is named
  pub locate-refused : {why : Refusal} {q : Result Located Refusal} → r ≡ Err why → q ≡ Err why → LocateGives t part before q after
  locate-refused {why} {q} e same =
      let no = refused-on (lent_tests t (unfit_of t before 0)) (last_test s part) _ _ (stage-no given e) in
      record {
        answered = stage-refused given (last_test s part) e same;
        start = ap start_of same ∙ filled-kept (part_verdict t before part) _ _ _ _ no;
        count = ap count_of same ∙ filled-kept (part_verdict t before part) _ _ _ _ no;
      }

  -- where they are accepted, the part decides
  pub locate-found : {sheet : A} {found : Result Located Refusal} → r ≡ Ok sheet → FindGives s part found → LocateGives t part before found after
  locate-found e f =
      let on : part_verdict t before part ≡ part_test s part = accepted-on (lent_tests t (unfit_of t before 0)) (last_test s part) (stage-yes given e) in
      record {
        answered = stage-on given (last_test s part) e f.outcome (part-later s part) (stage-clear given e);
        start = f.start ∙ ap (λ (v : Verdict). start_by v s part) (sym on);
        count = f.count ∙ ap (λ (v : Verdict). count_by_verdict v s part) (sym on);
      }

-- ---- the stretch

-- a call that is accepted is lent the sheet's own tables, and names one of its parts
pub part_owned : (t : Lent) (before : List ℕ) (part : ℕ) → part_verdict t before part ≡ accepted → Owned t 0 × (part < length t.parents)
part_owned t before part e =
    let (lent, node) = accepted-both (lent_tests t (unfit_of t before 0)) (last_test t.parents part) e in
    (lent-owned t before 0 lent, part-accepted t.parents part node)

-- none where it is refused
filled_none : (v : Verdict) {number place : ℕ} (own : ℕ) → v ≡ refused number place → filled v own 0 ≡ 0
filled_none v own e = sym (filled-kept v _ _ own 0 e)

module _ (t : Lent) (before : List ℕ) (part : ℕ) where
  abbrev v : Verdict
  v = part_verdict t before part

  -- it ends within the table
  pub stretch-within : start_by v t.parents part + count_by_verdict v t.parents part ≤ length t.order
  stretch-within =
      by-verdict v
      (λ e.
      let (owned, inside) = part_owned t before part e in
      let long : length t.order ≡ length t.parents = ap length owned.order ∙ preorder-length owned.small.tree in
      let within = subtree-within owned.small.tree part inside in
      rw (← filled-own v (preorder_number t.parents part - 1) 0 e, ← filled-own v (size t.parents part) 0 e) (omega arith))
      (λ number place e. rw (filled_none v (preorder_number t.parents part - 1) e, filled_none v (size t.parents part) e) (omega arith))

  -- and its cells are the parts that the part carries
  pub stretch-nodes : take (count_by_verdict v t.parents part) (drop (start_by v t.parents part) t.order) ≡ filled v (subtree t.parents part) []
  stretch-nodes =
      by-verdict v
      (λ e.
      let (owned, inside) = part_owned t before part e in
      rw (← filled-own v (preorder_number t.parents part - 1) 0 e, ← filled-own v (size t.parents part) 0 e)
      (ap (λ (l : List ℕ). take (size t.parents part) (drop (preorder_number t.parents part - 1) l)) owned.order
      ∙ sym (subtree-slice owned.small.tree part inside)
      ∙ filled-own v _ _ e))
      (λ number place e. rw (filled_none v (size t.parents part) e) (filled-kept v number place (subtree t.parents part) [] e))

  module _ (order : Bor (List ℕ)) {found : Result Located Refusal} {after : List ℕ} (lent : order.now ≡ t.order) (g : LocateGives t part before found after) where
    -- the stretch that was located
    pub locate-within : start_of found + count_of found ≤ length order.now
    locate-within = rw (g.start, g.count, lent) stretch-within

    -- the slice of it is what the call hands back
    pub subtree-given : {result : Bor (List ℕ)} → SliceOf order (start_of found) (count_of found) result → SubtreeGives t order part before result after
    subtree-given {result} slice =
        let stretch : SliceOf order (start_by v t.parents part) (count_by_verdict v t.parents part) result = rw (← g.start, ← g.count) slice in
        let nodes : result.now ≡ filled v (subtree t.parents part) [] =
        stretch.cells ∙ ap (λ (l : List ℕ). take (count_by_verdict v t.parents part) (drop (start_by v t.parents part) l)) lent ∙ stretch-nodes in
        record {
          stretch = stretch;
          nodes = nodes;
          first = λ e.
              let (owned, inside) = part_owned t before part e in
              ap (λ (l : List ℕ). get_or l 0 0) (nodes ∙ sym (filled-own v _ _ e)) ∙ subtree-first owned.small.tree part inside;
          work = g.answered.work;
        }
