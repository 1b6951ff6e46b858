-- What a writer writes: one write behind another is one.
-- Assumes nothing.
use Prim.Native.Nat.{ℕ, ◌≤◌}
use mathlib.Core.Path.{refl, ◌∙◌}
use mathlib.Core.List.{List, [], ◌++◌}
use lib.ListN.{length}
use Rattle.text.specs.Writes.{HasRoom, Writes}
use Rattle.text.specs.declared.write.Writer.{Writer}
use Rattle.text.proofs.Putting.{puts_none, room-then, puts_then}

module _ {a b : Writer} {x : List ℕ} (p : Writes a x b) (y : List ℕ) (r : HasRoom a (x ++ y)) where
  -- where there is room for two, there is room for the second behind the first
  pub has-then : HasRoom b y
  has-then = room-then x y r p.puts

  -- which makes one of the two
  pub writes_then : {c : Writer} → Writes b y c → Writes a (x ++ y) c
  writes_then q = record { puts = puts_then x y r p.puts q.puts; same = q.same ∙ p.same }

-- nothing is written
pub writes_none : (a : Writer) → a.at ≤ length a.out.now → Writes a [] a
writes_none a h = record { puts = puts_none h; same = refl }
