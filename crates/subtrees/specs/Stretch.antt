-- What the calls for a subtree give, from their inputs alone (document 02, 2026-01): where its parts stand in the lent order table, and that stretch of the table.
-- Assumes nothing.
use Rattle.std.specs.Prelude.{ℕ, ◌+◌, ◌-◌, ◌*◌, ◌≡◌, List, [], ◌∷◌, get_or, take, drop, Result}
use Rattle.std.specs.Borrow.{Bor}
use Rattle.tree.specs.declared.Located.{Located}
use Rattle.tree.specs.declared.Refusal.{Refusal}
use Rattle.tree.specs.Verdict.{Verdict, accepted, verdict_of, start_of, count_of}
use Rattle.tree.specs.Preorder.{preorder_number, size, subtree}
use Rattle.tree.specs.Tests.{verdict, node_out_of_range, part_tests}
use Rattle.tree.specs.Buffers.{work_after, filled}
use Rattle.tree.specs.Tables.{Lent}
use Rattle.tree.specs.Lending.{unfit_of, part_verdict}
use Rattle.tree.specs.Answered.{Answered}

-- ---- a part of a lent slice

-- the bytes of a cell
abbrev pub cell_bytes : ℕ
cell_bytes = 2

-- r is the k cells of the slice s from cell `at` on, "never a copy": they hold what s holds there, and they lie there, in the block of s, so many bytes behind its
-- first cell
pub record SliceOf (s : Bor (List ℕ)) (at k : ℕ) (r : Bor (List ℕ)) : Type 0 where
  pub cells : r.now ≡ take k (drop at s.now)
  pub block : r.ref_ptr.0 ≡ s.ref_ptr.0
  pub offset : r.ref_ptr.1 ≡ s.ref_ptr.1 + cell_bytes * at

-- ---- where the stretch stands

-- the cell of the order table at which what a part carries begins, PREORDER counting from 1, and the count of its cells; none where the call is refused
abbrev pub start_by : Verdict → List ℕ → ℕ → ℕ
start_by v s part = filled v (preorder_number s part - 1) 0

abbrev pub count_by_verdict : Verdict → List ℕ → ℕ → ℕ
count_by_verdict v s part = filled v (size s part) 0

-- test 10 of a part of an accepted sheet: "a part (position 0 in test 10)"
abbrev pub part_test : List ℕ → ℕ → Verdict
part_test s part = verdict (node_out_of_range s 0 (part ∷ []) ∷ [])

-- a part that is looked for on an accepted sheet
pub record FindGives (s : List ℕ) (part : ℕ) (r : Result Located Refusal) : Type 0 where
  pub outcome : verdict_of r ≡ part_test s part
  pub start : start_of r ≡ start_by (part_test s part) s part
  pub count : count_of r ≡ count_by_verdict (part_test s part) s part

-- "a check of the same inputs gives number and place"
pub record LocateGives (t : Lent) (part : ℕ) (before : List ℕ) (r : Result Located Refusal) (after : List ℕ) : Type 0 where
  pub answered : Answered (part_tests t (unfit_of t before 0) part) before r after
  pub start : start_of r ≡ start_by (part_verdict t before part) t.parents part
  pub count : count_of r ≡ count_by_verdict (part_verdict t before part) t.parents part

-- "hand back the stretch of that table beginning with it and holding every part it carries and no other. The stretch is the lent table's own, never a copy.
-- Refused inputs yield the empty stretch": `order` is the reference by which the table was lent
pub record SubtreeGives (t : Lent) (order : Bor (List ℕ)) (part : ℕ) (before : List ℕ) (r : Bor (List ℕ)) (after : List ℕ) : Type 0 where
  pub stretch : SliceOf order (start_by (part_verdict t before part) t.parents part) (count_by_verdict (part_verdict t before part) t.parents part) r
  pub nodes : r.now ≡ filled (part_verdict t before part) (subtree t.parents part) []
  pub first : part_verdict t before part ≡ accepted → get_or r.now 0 0 ≡ part
  pub work : after ≡ work_after (part_verdict t before part) before
