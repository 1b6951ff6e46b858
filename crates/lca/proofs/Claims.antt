-- What a C caller derives from a call's contract, of every call alike: the number and the value from the inputs alone, and that 0 says accepted. `read` is the
-- library's own definition of the verdict and the count that an answer is. `lca_trail` and `lca_subtree`, which count, are written out at the end.
-- Assumes nothing.
use Prim.Native.Nat.{ℕ}
use mathlib.Core.Path.{◌≡◌, refl, sym, ap, ◌∙◌}
use mathlib.Core.Logic.{◌≢◌}
use mathlib.Core.List.{List, [], ◌∷◌}
use native.Mathlib.Omega.{arith}
use Rattle.tree.specs.declared.Refusal.{Refusal}
use Rattle.tree.specs.declared.Refusal.TheVariants.{Empty, TooLarge, WrongLength, ParentOutOfRange, NoRoot, SecondRoot, Cycle, StaleTable, NothingListed, NodeOutOfRange, NoCommonAncestor, MalformedLine}
use Rattle.tree.specs.Verdict.{Verdict, accepted, refused, number_of, traced_of, start_of}
use Rattle.tree.specs.Tests.{Test, verdict}
use Rattle.tree.specs.Buffers.{filled}
use Rattle.tree.specs.Trail.{lifts}
use Rattle.tree.specs.Pairs.{left_of, right_of}
use Rattle.tree.proofs.Scans.{by-test}
use Rattle.tree.specs.Preorder.{size}
use Rattle.tree.specs.Tables.{Lent}
use Rattle.tree.specs.Lending.{part_verdict}
use Rattle.routes.specs.Answers.{Asked, trail_verdict, TrailGives}
use Rattle.subtrees.specs.Stretch.{start_by, LocateGives}
use Rattle.lca.specs.Returned.{number_in, value_in, located_count, Returned}

-- no refusal has the number 0
refused-number : (r : Refusal) → number_of r ≢ 0
refused-number Empty e = absurd (omega arith)
refused-number TooLarge e = absurd (omega arith)
refused-number (WrongLength _) e = absurd (omega arith)
refused-number (ParentOutOfRange _) e = absurd (omega arith)
refused-number NoRoot e = absurd (omega arith)
refused-number (SecondRoot _) e = absurd (omega arith)
refused-number (Cycle _) e = absurd (omega arith)
refused-number (StaleTable _) e = absurd (omega arith)
refused-number NothingListed e = absurd (omega arith)
refused-number (NodeOutOfRange _) e = absurd (omega arith)
refused-number NoCommonAncestor e = absurd (omega arith)
refused-number (MalformedLine _) e = absurd (omega arith)

-- so no list of tests refuses with it
tests-number : (ts : List Test) → number_in (verdict ts) ≡ 0 → verdict ts ≡ accepted
unfolding verdict
tests-number [] e = refl
tests-number (t ∷ ts) e =
    let rest = tests-number ts in
    by-test t.passes (λ p. rw p (rest (rw p at e))) (λ p. absurd (refused-number t.why (rw p at e)))

module _ {A : Type 0} {read : A → Verdict × ℕ} {Gives : A → Type 0} {number value : ℕ} (c : Returned read Gives number value) where
  -- where the contract says what the verdict and the count are, from the inputs, the number and the value are theirs
  pub returned-verdict : (v : Verdict) (count : ℕ) → ((r : A) → Gives r → ((read r).0 ≡ v) × ((read r).1 ≡ count))
      → (number ≡ number_in v) × (value ≡ value_in v count)
  returned-verdict v count says =
      let (e, k) = says c.answer c.gives in
      (c.number_is ∙ ap number_in e, c.value-is ∙ ap (λ (x : Verdict). value_in x (read c.answer).1) e ∙ ap (value_in v) k)

  -- 0 is returned for an accepted call alone
  pub zero-accepts : (ts : List Test) → ((r : A) → Gives r → (read r).0 ≡ verdict ts) → number ≡ 0 → verdict ts ≡ accepted
  zero-accepts ts says e = tests-number ts (sym (ap number_in (says c.answer c.gives)) ∙ sym c.number_is ∙ e)

-- ---- `lca_trail`

-- what an accepted call alone counts
value-counted : (v : Verdict) (count : ℕ) → value_in v (filled v count 0) ≡ value_in v count
unfolding filled
value-counted accepted count = refl
value-counted (refused number place) count = refl

module _ {a : Asked} {rows work' answer' rows' : List ℕ} {number value : ℕ} (c : Returned traced_of (λ r. TrailGives a rows r work' answer' rows') number value) where
  -- the number is the tests', and the value the place of the refusal or the count of the pair's lifts
  pub trail-returned : (number ≡ number_in (trail_verdict a rows))
      × (value ≡ value_in (trail_verdict a rows) (lifts a.lent (left_of a.question 0) (right_of a.question 0)))
  trail-returned =
      let (is, counts) = returned-verdict c (trail_verdict a rows) _ (λ r g. (g.answered.outcome, g.count)) in
      (is, counts ∙ value-counted (trail_verdict a rows) _)

  -- and 0 says that they accept
  pub trail-zero : number ≡ 0 → trail_verdict a rows ≡ accepted
  trail-zero = zero-accepts c _ (λ r g. g.answered.outcome)

-- ---- `lca_subtree`

module _ {t : Lent} {part start : ℕ} {before after : List ℕ} {number value : ℕ}
    (c : Returned located_count (λ r. LocateGives t part before r after × (start ≡ start_of r)) number value) where
  -- the number is the tests', the value the place of the refusal or the count of the stretch, and the start the stretch's, or 0
  pub subtree-returned : (number ≡ number_in (part_verdict t before part)) × (value ≡ value_in (part_verdict t before part) (size t.parents part))
      × (start ≡ start_by (part_verdict t before part) t.parents part)
  subtree-returned =
      let v = part_verdict t before part in
      let (is, counts) = returned-verdict c v _ (λ r g. (g.0.answered.outcome, g.0.count)) in
      (is, counts ∙ value-counted v _, c.gives.1 ∙ c.gives.0.start)

  -- and 0 says that they accept
  pub subtree-zero : number ≡ 0 → part_verdict t before part ≡ accepted
  subtree-zero = zero-accepts c _ (λ r g. g.0.answered.outcome)
