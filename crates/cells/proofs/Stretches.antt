-- One more cell copied, cells found equal by their bits, and the first that passes a test.
-- Assumes nothing.
use Prim.Native.Nat.{ℕ, ◌+◌, ◌≤◌, ◌<◌}
use native.Mathlib.Omega.{arith}
use mathlib.Core.Path.{◌≡◌, refl, sym, ap, ◌∙◌}
use mathlib.Core.Bool.{Bool}
use mathlib.Core.List.{List}
use borrow.Author.Tests.{ltb-false}
use lib.Dec.{ltb}
use lib.Bits.{bit_or, bit_xor, and_le_l, and_le_r, or_add_and, xor_add_and}
use lib.ListN.{length, get_or, set}
use Rattle.std.specs.List.{position, position_or_len}
use Rattle.std.specs.Option.{unwrap_or}
use Rattle.std.proofs.lemmas.List.Sums.{position_or_len_is}
use Rattle.tree.specs.Scan.{least}
use lib.Seq.{get_or-set_same, get_or-set_other}
use Rattle.tree.proofs.Differences.{same_none}
use Rattle.tree.proofs.Scans.{by_equal, by-test, least-le, least-before, least-here}
use Rattle.tree.specs.Sections.{Same}
use Rattle.cells.specs.Cells.{Copied, Agree}

-- where no bit is gathered, none was before, and none is added
pub or-none : (bits d : ℕ) → bit_or bits d ≡ 0 → (bits ≡ 0) × (d ≡ 0)
or-none bits d e = (omega (arith, or_add_and bits d, and_le_r bits d), omega (arith, or_add_and bits d, and_le_l bits d))

-- .. so that two numbers do not differ in any
pub no_bits : (bits x y : ℕ) → bit_or bits (bit_xor x y) ≡ 0 → (bits ≡ 0) × (x ≡ y)
no_bits bits x y e =
    let none = or-none bits (bit_xor x y) e in
    (none.0, omega (arith, none.1, xor_add_and x y, and_le_l x y, and_le_r x y))

-- no cell copied, and one more
pub copied_none : (l from : List ℕ) (i j : ℕ) → Copied l i from j 0 l
copied_none l from i j = record { here = same_none l from i j; below = λ c h. refl }

pub copied_more : {before from after : List ℕ} {i j k : ℕ} → i + k < length after → Copied before i from j k after
    → Copied before i from j (k + 1) (set after (i + k) (get_or from (j + k) 0))
copied_more {before} {from} {after} {i} {j} {k} room f =
    let y = get_or from (j + k) 0 in
    record {
      here = record {
        cell = λ x h.
            by_equal x k
            (λ e. ap (λ (c : ℕ). get_or (set after (i + k) y) (i + c) 0) e ∙ get_or-set_same after (i + k) y 0 room ∙ ap (λ (c : ℕ). get_or from (j + c) 0) (omega arith))
            (λ e. get_or-set_other after (i + k) (i + x) y 0 (λ q. absurd (omega arith)) ∙ f.here.cell x (omega arith));
      };
      below = λ c h. get_or-set_other after (i + k) c y 0 (λ e. absurd (omega arith)) ∙ f.below c h;
    }

-- what agrees with a stretch that equals another agrees with the other
pub agree_same : {a b c : List ℕ} {i j l k r : ℕ} → Agree a i b j k r → Same b j c l k → Agree a i c l k r
agree_same g q =
    record {
      most = g.most;
      same = record { cell = λ x h. g.same.cell x h ∙ q.cell x (let most = g.most in omega arith) };
      parts = λ h e. g.parts h (e ∙ sym (q.cell _ h));
    }

-- the first cell that passes a test, or the length where none does
pub position-least : (p : ℕ → Bool) (l : List ℕ) → unwrap_or (position p l) (length l) ≡ least (λ i. p (get_or l i 0)) (length l)
position-least p l =
    let q : ℕ → Bool = λ i. p (get_or l i 0) in
    let n = length l in
    let r = least q n in
    let most : r ≤ n = least-le q n in
    let found : position_or_len p l ≡ r = position_or_len_is p l r 0 most (λ k h. least-before q n k h) (λ h. least-here q n h) in
    by-test (ltb r n) (λ e. rw (found, e) refl) (λ e. let f = ltb-false r n e in rw (found, e) (omega arith))
