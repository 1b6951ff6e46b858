-- The place of each refusal as a loop finds it: it has passed only parts that are no such place, and stops at one or at the end.
-- Assumes nothing.
use Prim.Native.Nat.{ℕ, ◌≤◌, ◌<◌}
use native.Mathlib.Nat.{lt_of_lt_of_le}
use mathlib.Core.Path.{◌≡◌, ap}
use mathlib.Core.Logic.{◌≢◌}
use mathlib.Core.Bool.{true, false, not}
use mathlib.Core.List.{List}
use borrow.Author.Tests.{le-leb, lt-leb, leb-false}
use lib.Dec.{leb}
use lib.ListN.{length, get_or}
use Rattle.tree.specs.Scan.{least}
use Rattle.tree.specs.Tree.{parent, climb, is_root, next_root}
use Rattle.tree.specs.Tests.{first_outside, first_lost}
use Rattle.tree.proofs.Scans.{least-found, least-before}
use Rattle.tree.proofs.Climbs.{Inside}
use Rattle.tree.proofs.Roots.{next_root-found}

-- the first cell of a list that is a bound or more
pub first-from : (l : List ℕ) (bound r : ℕ) → r ≤ length l → ((j : ℕ) → j < r → get_or l j 0 < bound) → (r < length l → bound ≤ get_or l r 0)
    → r ≡ least (λ i. leb bound (get_or l i 0)) (length l)
first-from l bound r h before here = least-found _ (length l) r h (λ j b. lt-leb _ _ (before j b)) (λ b. le-leb _ _ (here b))

-- 4: the lowest part whose entry is n or more
pub out-of-range-place : (s : List ℕ) (r : ℕ) → r ≡ least (λ i. leb (length s) (get_or s i 0)) (length s) → r ≡ first_outside s
unfolding parent
out-of-range-place s r e = e

-- .. where there is none, every entry is a part
pub entries-inside-place : (s : List ℕ) → length s ≤ first_outside s → Inside s
entries-inside-place s h v b = leb-false (length s) (parent s v) (least-before _ (length s) v (lt_of_lt_of_le b h))

-- 5 and 6: the lowest part that names itself, from a part on
pub next_root-place : (s : List ℕ) (first r : ℕ) → first ≤ length s → first ≤ r → r ≤ length s → ((j : ℕ) → first ≤ j → j < r → get_or s j 0 ≢ j)
    → (r < length s → get_or s r 0 ≡ r) → r ≡ next_root s first
unfolding parent
next_root-place s first r h from to before here = next_root-found h (record { from = from; to = to; before = before; here = here })

-- 7: the lowest part whose climb does not meet the root
pub cycle-place : (s : List ℕ) (r : ℕ) → r ≤ length s → ((j : ℕ) → j < r → is_root s (climb s (length s) j) ≡ true)
    → (r < length s → is_root s (climb s (length s) r) ≡ false) → r ≡ first_lost s
cycle-place s r h before here = least-found _ (length s) r h (λ j b. ap not (before j b)) (λ b. ap not (here b))
