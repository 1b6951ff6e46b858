-- A carrier has exactly one branch towards each part that it carries: the climber finds it, and so does a climb by the difference of levels. So a pair has
-- exactly one answer.
-- Assumes nothing.
use Prim.Native.Nat.{ℕ, suc, ◌+◌, ◌-◌, ◌<◌}
use native.Mathlib.Omega.{arith}
use mathlib.Core.Path.{◌≡◌, refl, sym, ap, ◌∙◌, subst}
use mathlib.Core.Logic.{◌≢◌}
use mathlib.Core.Bool.{Bool, true, true≢false}
use mathlib.Core.List.Memᴰ
use mathlib.Core.List.{List, [], ◌∷◌}
use borrow.Author.Tests.{eq-eqb, ne_eqb, eqb-true}
use lib.Dec.{eqb}
use lib.ListN.{length}
use Rattle.tree.specs.Scan.{least}
use Rattle.tree.specs.Tree.{parent, climb, Ancestor, level, Tree}
use Rattle.tree.specs.Lca.{Lca}
use Rattle.tree.specs.Tables.{Lent, own}
use Rattle.tree.specs.Branch.{Branch, branch, Answer, IsAnswer, pair_answer, branch_at, answer_by}
use Rattle.tree.proofs.Scans.{by_equal, least-here, least-before}
use Rattle.tree.proofs.Climbs.{climb-zero, climb-suc, ancestor-climb, ancestor-inside, met-soon}
use Rattle.tree.proofs.Lcas.{pair_found, pair-only}
use Rattle.tree.proofs.OwnCells.{level_at_lem}
use Rattle.tree.proofs.Trees.{ChildToward, level-parent, above, same-level, child-toward}

-- ---- what a branch is

-- of c towards itself it is c
pub branch-itself : (s : List ℕ) {c x : ℕ} → x ≡ c → Branch s c x c
branch-itself s e = record { below = λ q. absurd (q e); itself = λ _. refl }

-- towards another part it is the child that carries that part
pub branch-child : {s : List ℕ} {c x : ℕ} → x ≢ c → (d : ChildToward s c x) → Branch s c x d.child
branch-child q d = record { below = λ _. (d.of, (λ e. d.other (d.of ∙ sym e)), d.carries); itself = λ e. absurd (q e) }

-- the climber stops below c: had it stopped at c, the part before would have been found first
stops-below : (s : List ℕ) (c x : ℕ) → x ≢ c → climb s (least (λ k. eqb (parent s (climb s k x)) c) (length s)) x ≢ c
stops-below s c x q e =
    let p : ℕ → Bool = λ k. eqb (parent s (climb s k x)) c in
    let k : ℕ = least p (length s) in
    by_equal k 0
    (λ z. q (sym (climb-zero s x) ∙ ap (λ (j : ℕ). climb s j x) (sym z) ∙ e))
    (λ z.
    let up : suc (k - 1) ≡ k = omega arith in
    let met : p (k - 1) ≡ true = eq-eqb _ _ (sym (climb-suc s (k - 1) x) ∙ ap (λ (j : ℕ). climb s j x) up ∙ e) in
    true≢false (sym met ∙ least-before p (length s) (k - 1) (omega arith)))

-- answers of the same carrier and the same branches are one
same-fields : {a b : Answer} → a.carrier ≡ b.carrier → a.left ≡ b.left → a.right ≡ b.right → a ≡ b
same-fields {a} {b} carrier left right =
    ap (λ (c : ℕ). record { carrier = c; left = a.left; right = a.right }) carrier
    ∙ ap (λ (u : ℕ). record { carrier = b.carrier; left = u; right = a.right }) left
    ∙ ap (λ (w : ℕ). record { carrier = b.carrier; left = b.left; right = w }) right

module _ {s : List ℕ} (t : Tree s) where
  -- a branch towards another part stands one level below the carrier
  branch-level : {c x b : ℕ} → x < length s → x ≢ c → Branch s c x b → level s b ≡ suc (level s c)
  branch-level {c} {x} {b} h q r =
      let (of, apart, carries) = r.below q in
      level-parent t b (ancestor-inside t.inside h carries) (λ e. apart (sym e ∙ of)) ∙ ap (λ v. suc (level s v)) of

  -- there is no other
  pub branch-only : {c x a b : ℕ} → x < length s → Branch s c x a → Branch s c x b → a ≡ b
  branch-only {c} {x} h p q =
      by_equal x c (λ e. p.itself e ∙ sym (q.itself e))
      (λ e. same-level t h (p.below e).2 (q.below e).2 (branch-level h e p ∙ sym (branch-level h e q)))

  -- it is a part
  branch-inside : {c x b : ℕ} → x < length s → Ancestor s c x → Branch s c x b → b < length s
  branch-inside {c} {x} h p r =
      by_equal x c (λ e. rw (r.itself e) (ancestor-inside t.inside h p)) (λ q. ancestor-inside t.inside h (r.below q).2)

  -- the climber finds it
  pub branch-found : {c x : ℕ} → x < length s → Ancestor s c x → Branch s c x (branch s c x)
  unfolding branch
  branch-found {c} {x} h p =
      by_equal x c (λ e. rw (eq-eqb x c e) (branch-itself s e))
      (λ q.
      let d = child-toward t h p q in
      let test : ℕ → Bool = λ u. eqb (parent s u) c in
      let k : ℕ = least (λ j. test (climb s j x)) (length s) in
      let soon : k < length s = met-soon s t.inside test x d.carries.steps h (ap test d.carries.reaches ∙ eq-eqb _ _ d.of) in
      let of : parent s (climb s k x) ≡ c = eqb-true _ _ (least-here (λ j. test (climb s j x)) (length s) soon) in
      rw (ne_eqb x c q) (record { below = λ _. (of, stops-below s c x q, ancestor-climb s k x); itself = λ e. absurd (q e) }))

  -- so does a climb from x to one level below the carrier
  climbed-branch : {c x : ℕ} (k : ℕ) → x < length s → Ancestor s c x → x ≢ c → k + suc (level s c) ≡ level s x → Branch s c x (climb s k x)
  climbed-branch {c} {x} k h p q e =
      let d = child-toward t h p q in
      let steps : k ≡ level s x - level s d.child = omega (arith, d.deeper) in
      let there : climb s k x ≡ d.child = ap (λ (j : ℕ). climb s j x) steps ∙ (above t h d.carries).there in
      rw there (branch-child q d)

  -- which is the rule
  pub rule-branch : {c x : ℕ} → x < length s → Ancestor s c x → Branch s c x (branch_at (own s) c x)
  unfolding branch_at
  rule-branch {c} {x} h p =
      by_equal x c (λ e. rw (eq-eqb x c e) (branch-itself s e))
      (λ q.
      let d = child-toward t h p q in
      let low = (above t h d.carries).lower in
      rw (ne_eqb x c q, level_at_lem s x h, level_at_lem s c (ancestor-inside t.inside h p)) (climbed-branch _ h p q (omega (arith, d.deeper))))

  -- so what is the branch is what the rule gives
  pub branch-is : {c x b : ℕ} → x < length s → Ancestor s c x → Branch s c x b → b ≡ branch_at (own s) c x
  branch-is h p r = branch-only h r (rule-branch h p)

  -- ---- a pair's answer

  -- a carrier with a branch for each part
  answered : {x y c : ℕ} (f : ℕ → ℕ → ℕ) → ((v : ℕ) → v < length s → Ancestor s c v → Branch s c v (f c v)) → x < length s → y < length s
      → Lca s (x ∷ y ∷ []) c → IsAnswer s x y (record { carrier = c; left = f c x; right = f c y })
  answered {x} {y} f towards hx hy l = record {
    carrier = l;
    left = towards x hx (l.common x (Memᴰ.head refl));
    right = towards y hy (l.common y (Memᴰ.tail (Memᴰ.head refl)));
  }

  -- the climbers find it
  pub answer-found : {x y : ℕ} → x < length s → y < length s → IsAnswer s x y (pair_answer s x y)
  unfolding pair_answer
  answer-found hx hy = answered (branch s) (λ v. branch-found) hx hy (pair_found t hx hy)

  -- so does each route whose rule gives the carrier
  pub rule-answer : (rule : Lent → ℕ → ℕ → ℕ) {x y : ℕ} → x < length s → y < length s → Lca s (x ∷ y ∷ []) (rule (own s) x y)
      → IsAnswer s x y (answer_by rule (own s) x y)
  unfolding answer_by
  rule-answer rule hx hy l = answered (branch_at (own s)) (λ v. rule-branch) hx hy l

  -- there is no other
  pub answer-only : {x y : ℕ} {a b : Answer} → x < length s → y < length s → IsAnswer s x y a → IsAnswer s x y b → a ≡ b
  answer-only {x} {y} {a} {b} hx hy p q =
      let same : a.carrier ≡ b.carrier = pair-only t hx hy p.carrier ∙ sym (pair-only t hx hy q.carrier) in
      let left : a.left ≡ b.left = branch-only hx p.left (subst (λ (c : ℕ). Branch s c x b.left) (sym same) q.left) in
      let right : a.right ≡ b.right = branch-only hy p.right (subst (λ (c : ℕ). Branch s c y b.right) (sym same) q.right) in
      same-fields same left right

  -- its numbers are parts
  pub answer-inside : {x y : ℕ} {a : Answer} → x < length s → y < length s → IsAnswer s x y a
      → (a.carrier < length s) × (a.left < length s) × (a.right < length s)
  answer-inside {x} {y} hx hy r =
      let over-x = r.carrier.common x (Memᴰ.head refl) in
      let over-y = r.carrier.common y (Memᴰ.tail (Memᴰ.head refl)) in
      (ancestor-inside t.inside hx over-x, branch-inside hx over-x r.left, branch-inside hy over-y r.right)
