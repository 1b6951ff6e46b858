-- What is shown of the calls of this crate, in document 02's words, from their contracts alone.
-- Assumes nothing.
use Prim.Native.Nat.{ℕ, ◌≤◌, ◌<◌}
use native.Mathlib.Omega.{arith}
use mathlib.Core.Path.{◌≡◌, sym, ap, ◌∙◌}
use mathlib.Core.Logic.{◌↔◌}
use mathlib.Core.List.{List, [], Memᴰ}
use lib.ListN.{length}
use denote.Ref.{Bor}
use Rattle.std.proofs.Common.{Result}
use Rattle.tree.specs.declared.Refusal.{Refusal}
use Rattle.tree.specs.declared.Located.{Located}
use Rattle.tree.specs.Verdict.{accepted, refused, verdict_of, start_of, count_of}
use Rattle.tree.specs.Tree.{Ancestor}
use Rattle.tree.specs.Preorder.{size, subtree}
use Rattle.tree.specs.Tests.{Accepted}
use Rattle.tree.specs.Buffers.{work_cells}
use Rattle.tree.specs.Tables.{Lent, own}
use Rattle.tree.specs.Lending.{part_verdict}
use Rattle.tree.proofs.Answers.{filled-own, filled-kept}
use Rattle.tree.proofs.Inlabels.{size-pos}
use Rattle.tree.proofs.Subtrees.{subtree-length, subtree-member}
use Rattle.tree.proofs.Verdicts.{by-verdict, accepted-case}
use Rattle.tree.proofs.Questions.{refused-part, accepted-part}
use Rattle.tree.proofs.Owning.{part-decides}
use Rattle.subtrees.specs.Stretch.{SliceOf, LocateGives, SubtreeGives}
use Rattle.subtrees.proofs.Locating.{part_owned}

-- ---- which inputs are accepted

-- an accepted sheet, lent with its own tables and work that fits: every part of it is accepted, and any other number is refused 10 at 0
module _ (s work : List ℕ) (a : Accepted s) (fits : length work ≡ work_cells (length s)) (part : ℕ) where
  pub part-granted : part < length s → part_verdict (own s) work part ≡ accepted
  part-granted h = part-decides s a work part fits ∙ accepted-part s part h

  pub other-refused : length s ≤ part → part_verdict (own s) work part ≡ refused 10 0
  other-refused h = part-decides s a work part fits ∙ refused-part s part h

-- ---- what is handed back

module _ {t : Lent} {order : Bor (List ℕ)} {part : ℕ} {before : List ℕ} {r : Bor (List ℕ)} {after : List ℕ} (g : SubtreeGives t order part before r after) where
  -- "holding every part it carries and no other"
  pub stretch-carries : part_verdict t before part ≡ accepted → (u : ℕ) → Memᴰ u r.now ↔ ((u < length t.parents) × Ancestor t.parents part u)
  stretch-carries e u =
      let (owned, inside) = part_owned t before part e in
      let cells : r.now ≡ subtree t.parents part = g.nodes ∙ sym (filled-own (part_verdict t before part) _ _ e) in
      rw cells (subtree-member owned.small.tree part inside u)

  -- as many as SIZE, so that an accepted stretch is never empty; "Refused inputs yield the empty stretch"
  pub stretch-some : part_verdict t before part ≡ accepted → (length r.now ≡ size t.parents part) × (0 < length r.now)
  stretch-some e =
      let (owned, inside) = part_owned t before part e in
      let cells = g.nodes ∙ sym (filled-own (part_verdict t before part) _ _ e) in
      let long : length r.now ≡ size t.parents part = ap length cells ∙ subtree-length owned.small.tree part inside in
      let some = size-pos owned.small.tree part inside in
      (long, omega arith)

  pub stretch-none : {number place : ℕ} → part_verdict t before part ≡ refused number place → r.now ≡ []
  stretch-none e = g.nodes ∙ sym (filled-kept (part_verdict t before part) _ _ _ _ e)

  -- "a check of the same inputs gives number and place": both calls tell the same. The stretch has a cell exactly if `locate` accepts, it is the one that was
  -- located, and work is left alike
  pub both-tell : {found : Result Located Refusal} {left : List ℕ} → LocateGives t part before found left
      → ((0 < length r.now) ↔ (verdict_of found ≡ accepted)) × SliceOf order (start_of found) (count_of found) r × (left ≡ after)
  both-tell {found} {left} l =
      let v = part_verdict t before part in (
        (
          λ h. by-verdict v (λ e. l.answered.outcome ∙ e)
              (λ number place e. let none = ap length (stretch-none e) in absurd (omega arith)),
          λ e. (stretch-some (sym l.answered.outcome ∙ e)).1,
        ),
        rw (l.start, l.count) g.stretch,
        l.answered.work ∙ sym g.work,
      )
