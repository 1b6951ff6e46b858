-- One more section of a table: copied out, it is the sheet's own; compared, it is the sheet's own or holds the first cell that is not.
-- Assumes nothing.
use Prim.Native.Nat.{ℕ, ◌+◌, ◌≤◌, ◌<◌}
use native.Mathlib.Nat.{zero-add, le_antisymm}
use native.Mathlib.Omega.{arith}
use mathlib.Core.Path.{◌≡◌, sym, ◌∙◌}
use mathlib.Core.List.{List}
use lib.ListN.{length}
use Rattle.tree.specs.Sections.{Same, first_difference}
use Rattle.tree.proofs.Scans.{by_order}
use Rattle.tree.proofs.Differences.{same_none, same-join, same-trans, same-all, difference-at, difference-none}
use Rattle.cells.specs.Cells.{Copied, Agree}

-- the sections before it and the section itself
upto : {a own : List ℕ} {i k : ℕ} → Same a 0 own 0 i → Same a i own i k → Same a 0 own 0 (i + k)
upto {a} {own} {i} {k} p q = same-join p (rw zero-add q)

pub copied-upto : {before after from own : List ℕ} {i j k : ℕ} → Same before 0 own 0 i → Copied before i from j k after → Same from j own i k
    → Same after 0 own 0 (i + k)
copied-upto {before} {after} {from} {own} {i} {j} {k} p c q =
    upto (record { cell = λ x h. rw zero-add (c.below x h ∙ rw zero-add at (p.cell x h)) }) (same-trans c.here q)

pub agree-all : {a b own : List ℕ} {i j k r : ℕ} → Same a 0 own 0 i → Agree a i b j k r → Same b j own i k → k ≤ r → Same a 0 own 0 (i + k)
agree-all {a} {b} {own} {i} {j} {k} {r} p g q h =
    let e : r ≡ k = le_antisymm g.most h in
    upto p (same-trans (rw e at g.same) q)

pub agree-parts : {a b own : List ℕ} {i j k r : ℕ} → Same a 0 own 0 i → Agree a i b j k r → Same b j own i k → i + k ≤ length own → r < k
    → i + r ≡ first_difference a own
agree-parts {a} {b} {own} {i} {j} {k} {r} p g q room h =
    sym
    (difference-at a own i r p (omega arith) (λ x l. g.same.cell x l ∙ q.cell x (omega arith))
    (λ e. g.parts h (e ∙ sym (q.cell r h))))

-- the first section, from cell 0 on

pub agree-all-first : {a b own : List ℕ} {j k r : ℕ} → Agree a 0 b j k r → Same b j own 0 k → k ≤ r → Same a 0 own 0 k
agree-all-first g q h = rw zero-add at (agree-all (same_none _ _ 0 0) g q h)

pub agree-parts-first : {a b own : List ℕ} {j k r : ℕ} → Agree a 0 b j k r → Same b j own 0 k → k ≤ length own → r < k
    → r ≡ first_difference a own
agree-parts-first g q room h = sym (zero-add _) ∙ agree-parts (same_none _ _ 0 0) g q (omega arith) h

-- a table that is one section

pub copied-whole : {before after from own : List ℕ} {j k : ℕ} → Copied before 0 from j k after → Same from j own 0 k → length after ≡ k → length own ≡ k
    → after ≡ own
copied-whole {before} {after} {from} {own} c q cells whole =
    let all = copied-upto (same_none before own 0 0) c q in
    same-all after own (cells ∙ sym whole) (rw whole (rw zero-add at all))

pub agree-whole : {a b own : List ℕ} {j k r : ℕ} → Agree a 0 b j k r → Same b j own 0 k → length own ≡ k → r ≡ first_difference a own
agree-whole {a} {b} {own} {j} {k} {r} g q whole =
    by_order k r
    (λ h. le_antisymm g.most h ∙ sym whole ∙ sym (difference-none a own (rw whole (agree-all-first g q h))))
    (λ h. agree-parts-first g q (omega arith) h)
