-- What the runs of `RunsExist` are lent: a sheet's own tables, work that fits, a question, and room for the answer.
-- Assumes nothing.
use Prim.Native.Nat.{ℕ}
use mathlib.Core.Path.{◌≡◌, refl}
use mathlib.Core.List.{List}
use lib.ListN.{length, replicate, length-replicate}
use Rattle.tree.specs.Buffers.{work_cells}
use Rattle.tree.specs.Tables.{own}
use Rattle.routes.specs.Answers.{Asked}
use Rattle.routes.specs.Lends.{Lends}

-- so many cells that hold 0
abbrev pub zeros : ℕ → List ℕ
zeros k = replicate {A = ℕ} k 0

pub zeros-length : (k : ℕ) → length (zeros k) ≡ k
zeros-length k = length-replicate {A = ℕ} k 0

module _ (s : List ℕ) where
  -- work that fits
  abbrev pub clear : List ℕ
  clear = zeros (work_cells (length s))

  -- the sheet's own tables, work that fits, a question and an answer of so many cells
  abbrev pub lent : List ℕ → ℕ → Asked
  lent question cells = record { lent = own s; work = clear; question = question; answer = zeros cells }

  -- that is what `Lends` asks for
  pub lends : (question : List ℕ) (cells : ℕ) → Lends s question cells (lent question cells)
  lends question cells = record {
    tables = refl;
    work-fits = zeros-length (work_cells (length s));
    asks = refl;
    answer-fits = zeros-length cells;
  }
