-- Cells of work that are filled with a column one store at a time, in any order.
-- Assumes nothing.
use Prim.Native.Nat.{ℕ, ◌+◌, ◌<◌}
use native.Mathlib.Omega.{arith}
use mathlib.Core.Path.{◌≡◌, ◌∙◌}
use mathlib.Core.Logic.{◌≢◌, ◌⊎◌, ⊎_elim}
use mathlib.Core.List.{List}
use lib.ListN.{length, get_or, set, length-set}
use lib.Seq.{get_or-set_other}
use Rattle.tree.specs.Buffers.{work_cells}
use Rattle.tree.proofs.Differences.{store-either}

-- work has its exact length, and each of its n cells from `at` on for which P holds has its value of f
pub record Filling (s work : List ℕ) (at : ℕ) (f : ℕ → ℕ) (P : ℕ → Type 0) : Type 0 where
  pub room : length work ≡ work_cells (length s)
  pub cell : (x : ℕ) → x < length s → P x → get_or work (at + x) 0 ≡ f x

-- a store of cell p's own value loses no cell, and gains p
pub filling-store : {s work : List ℕ} {at : ℕ} {f : ℕ → ℕ} {P Q : ℕ → Type 0} → Filling s work at f P → (p : ℕ) {q y : ℕ} → q ≡ at + p
    → q < work_cells (length s) → y ≡ f p → ((x : ℕ) → x < length s → Q x → (x ≡ p) ⊎ P x) → Filling s (set work q y) at f Q
filling-store {s} {work} {at} {f} {P} {Q} fl p {q} {y} here inside e more =
    let long = fl.room in
    record {
      room = simp length-set long;
      cell = λ x h k.
          store-either work q y (at + x) (f x) (omega arith) (λ there. let same : x ≡ p = omega arith in rw same e)
          (λ other. ⊎_elim (λ same. absurd (other (omega arith))) (fl.cell x h) (more x h k));
    }

-- a store keeps every other cell
pub filling-keep : {s work : List ℕ} {at : ℕ} {f : ℕ → ℕ} {P Q : ℕ → Type 0} → Filling s work at f P → (q y : ℕ)
    → ((x : ℕ) → x < length s → Q x → P x × (at + x ≢ q)) → Filling s (set work q y) at f Q
filling-keep {s} {work} {at} fl q y less =
    let long = fl.room in
    record {
      room = simp length-set long;
      cell = λ x h k. get_or-set_other work q (at + x) y 0 (less x h k).1 ∙ fl.cell x h (less x h k).0;
    }
