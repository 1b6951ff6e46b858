-- Where the first line of a text ends: at its first LF.
-- Assumes nothing.
use Prim.Native.Nat.{ℕ, suc, ◌+◌, ◌-◌, ◌≤◌, ◌<◌}
use native.Mathlib.Numerals.{one-add, add-one}
use native.Mathlib.Omega.{arith}
use mathlib.Core.Path.{◌≡◌, refl, sym, ap}
use mathlib.Core.List.{List, [], ◌∷◌, ◌++◌}
use borrow.Author.Tests.{ltb-true, ltb-false, eqb-true}
use borrow.Table.Steps.{cases}
use lib.Dec.{eqb, ltb}
use lib.ListN.{length, take, drop}
use Rattle.std.specs.Prelude.{Some, None}
use Rattle.std.specs.List.{position, position_or_len}
use Rattle.std.proofs.lemmas.Option.{none-some, cond_some}
use Rattle.std.proofs.lemmas.List.{take_rest}
use Rattle.text.specs.Bytes.{lf, is_lf}
use Rattle.text.specs.Lines.{tail, line, lines}
use Rattle.text.specs.Found.{Ends}

-- the first line stands before the first LF, and the others behind it
line-first : (b : List ℕ) → position_or_len is_lf b < length b → lines b ≡ line (take (position_or_len is_lf b) b) (lines (drop (suc (position_or_len is_lf b)) b))
unfolding lines
line-first [] h = absurd (omega arith)
line-first (x ∷ b) h =
    let rest = line-first b in
    cases (eqb x lf) (λ e. rw e refl) (λ e. let more = rw e at h in rw (e, one-add (position_or_len is_lf b), rest (omega arith)) refl)

-- that LF stands between them
parts-first : (b : List ℕ) → position_or_len is_lf b < length b
    → b ≡ take (position_or_len is_lf b) b ++ (lf ∷ drop (suc (position_or_len is_lf b)) b)
parts-first [] h = absurd (omega arith)
parts-first (x ∷ b) h =
    let rest = parts-first b in
    cases (eqb x lf)
    (λ e. rw e (ap (λ (y : ℕ). y ∷ b) (eqb-true x lf e)))
    (λ e. let more = rw e at h in rw (e, one-add (position_or_len is_lf b)) (ap (λ (l : List ℕ). x ∷ l) (rest (omega arith))))

-- with no LF there is no line
line-none : (b : List ℕ) → length b ≤ position_or_len is_lf b → lines b ≡ tail b
unfolding lines
line-none [] h = refl
line-none (x ∷ b) h =
    let rest = line-none b in
    cases (eqb x lf) (λ e. let none_left = rw e at h in absurd (omega arith)) (λ e. let more = rw e at h in rw (e, rest (omega arith)) refl)

module _ (b : List ℕ) where
  -- an LF stands there
  pub ends_at : (i : ℕ) → position is_lf b ≡ Some i → Ends b (take i b) (take (length b - (i + 1)) (drop (i + 1) b))
  ends_at i e =
      let (some, is) = cond_some _ _ _ e in
      let within : position_or_len is_lf b < length b = ltb-true _ _ some in
      rw (add-one, take_rest) (record { is = rw is at (parts-first b within); ended = rw is at (line-first b within) })

  -- none does
  pub ends_nowhere : position is_lf b ≡ None → lines b ≡ tail b
  ends_nowhere e = cases (ltb (position_or_len is_lf b) (length b))
      (λ t. let found : Some (position_or_len is_lf b) ≡ None = rw t at e in absurd (none-some _ (sym found)))
      (λ t. line-none b (ltb-false _ _ t))
