-- What a writer does: it writes from its place on, and stands behind what it wrote, in the same buffer.
-- Assumes nothing.
use Rattle.std.specs.Prelude.{ℕ, ◌≡◌, List}
use Rattle.std.specs.Borrow.{MutBor}
use Rattle.text.specs.Puts.{Room, Puts}
use Rattle.text.specs.declared.write.Writer.{Writer}

-- how many bytes are written
abbrev pub count_of : Writer → ℕ
count_of w = w.at

-- there is room for some bytes
abbrev pub HasRoom : Writer → List ℕ → Type 0
HasRoom w new = Room w.out.now w.at new

-- they were written
pub record Writes (before : Writer) (new : List ℕ) (after : Writer) : Type 0 where
  pub puts : Puts before.out.now before.at new after.out.now after.at
  pub same : after.out.ghost_name ≡ before.out.ghost_name

-- a writer stands at a buffer's start
pub record Begins (out : MutBor (List ℕ)) (w : Writer) : Type 0 where
  pub start : w.at ≡ 0
  pub now : w.out.now ≡ out.now
  pub same : w.out.ghost_name ≡ out.ghost_name
