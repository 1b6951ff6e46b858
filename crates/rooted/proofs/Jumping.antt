-- The links of the loop test: how a pass makes them longer, and what they say of the climbs.
-- Assumes nothing.
use Prim.Native.Nat.{ℕ, suc, ◌+◌, ◌*◌, ◌-◌, ◌≤◌, ◌<◌, zero-le}
use native.Mathlib.Nat.{le_refl, zero-add}
use native.Mathlib.Omega.{arith}
use mathlib.Core.Path.{◌≡◌, refl, sym, ap, ◌∙◌, subst}
use mathlib.Core.Logic.{◌≢◌}
use mathlib.Core.Bool.{Bool, true, false}
use borrow.Author.Tests.{eqb-true}
use lib.Dec.{eqb}
use mathlib.Core.List.{List}
use lib.Bits.{bit_or, bit_xor}
use lib.ListN.{length, get_or, set, length-set}
use lib.Seq.{get_or-set_same, get_or-set_other}
use Rattle.tree.specs.Sections.{Same}
use Rattle.tree.specs.Tree.{parent, climb, is_root, next_root, root_of}
use Rattle.tree.specs.Tests.{first_outside, first_lost}
use Rattle.tree.proofs.Scans.{by-test, by_equal}
use Rattle.tree.proofs.Climbs.{Inside, climb-one, climb-add, climb-split, climb-stays, climb-inside}
use Rattle.tree.proofs.Roots.{is_root_lem, root_is, root_of_lem, no_second, meets-by-n}
use Rattle.tree.proofs.Places.{entries-inside-place, cycle-place}
use Rattle.cells.proofs.Stretches.{no_bits}
use Rattle.tree.specs.BottomUp.{OneRoot}
use Rattle.rooted.specs.Jumps.{Rooted, Up, Linked, Links, Hopped, Jumped}

-- a sheet that has passed tests 4 to 6 has one root
pub one-root : (s : List ℕ) → length s ≤ first_outside s → root_of s < length s → length s ≤ next_root s (suc (root_of s)) → OneRoot s (root_of s)
one-root s entries below none =
    record { inside = entries-inside-place s entries; part = below; itself = (root_of_lem s).here below; only = no_second s below none }

-- ---- steps up

-- fewer steps are enough
up-less : {s : List ℕ} {j k v u : ℕ} → j ≤ k → Up s k v u → Up s j v u
up-less h p = record { steps = p.steps; most = omega arith; reaches = p.reaches }

-- .. and then as many again
up-twice : {s : List ℕ} {k v u t : ℕ} → Up s k v u → Up s k u t → Up s (2 * k) v t
up-twice {s} {k} {v} {u} {t} p q = record {
  steps = p.steps + q.steps;
  most = omega arith;
  reaches = climb-add s p.steps q.steps v ∙ ap (climb s q.steps) p.reaches ∙ q.reaches;
}

-- every link is a part
pub link-inside : {s w : List ℕ} {k v : ℕ} → Inside s → Linked s w k → v < length s → get_or w v 0 < length s
link-inside {s} {w} {k} {v} inside l h =
    let up = l.link v h in
    subst (λ (x : ℕ). x < length s) up.reaches (climb-inside s inside up.steps v h)

-- ---- a pass

-- u is none of the parts from a up to e, which the pass has yet to come to
abbrev Passed : ℕ → ℕ → ℕ → Type 0
Passed a e u = a ≤ u → u < e → ⊥

-- the links w in a pass that began with links of k steps or more
pub record Between (s w : List ℕ) (a e k : ℕ) : Type 0 where
  pub every : Linked s w k
  pub passed : (v : ℕ) → v < length s → Passed a e v → Up s (2 * k) v (get_or w v 0)

-- a pass that began with the links w₀ and has yet to come to the parts from a up to e: in rising order a rises, in falling order e falls
pub record Jumping (s w₀ w : List ℕ) (r a e bits : ℕ) : Type 0 where
  pub before : Links s w₀ r 0
  pub kept : length w ≡ length w₀
  pub ends : e ≤ length s
  pub between : (k : ℕ) → Linked s w₀ k → Between s w a e k
  pub all : bits ≡ 0 → (v : ℕ) → v < length s → Passed a e v → get_or w v 0 ≡ r

-- it has yet to come to all
pub jumping-start : {s w : List ℕ} {r : ℕ} → Links s w r 0 → Jumping s w w r 0 (length s) 0
jumping-start g = record {
  before = g;
  kept = refl;
  ends = le_refl _;
  between = λ k l. record { every = l; passed = λ v h p. absurd (p zero-le h) };
  all = λ _ v h p. absurd (p zero-le h);
}

-- what holds of the cell that is stored, and of each other, holds of each
stored : (Q : ℕ → ℕ → Type 0) (w : List ℕ) (i y v : ℕ) → i < length w → Q i y → (v ≢ i → Q v (get_or w v 0)) → Q v (get_or (set w i y) v 0)
stored Q w i y v h here other =
    by_equal v i (λ q. rw (q, get_or-set_same w i y 0 h) here) (λ q. rw (get_or-set_other w i v y 0 q) (other q))

-- it comes to part i
module _ {s w₀ w : List ℕ} {r a e bits i : ℕ} (g : Jumping s w₀ w r a e bits) (h : i < length s) where
  -- .. for which there is a cell, and for its link
  jumping-inside : (i < length w) × (get_or w i 0 < length w)
  jumping-inside =
      let room : length s ≤ length w = omega (arith, g.kept, g.before.rooted.fits.room) in
      let link = link-inside g.before.rooted.one.inside (g.between 0 g.before.linked).every h in
      (omega arith, omega arith)

  -- .. and replaces its link by its link's link
  jumping-step : {a' e' up : ℕ} {w' : List ℕ} → e' ≤ e → ((v : ℕ) → v ≢ i → Passed a' e' v → Passed a e v) → Hopped w i up w'
      → Jumping s w₀ w' r a' e' (bit_or bits (bit_xor up r))
  jumping-step {up = up} less more hop =
      let here = jumping-inside.0 in
      let ends = g.ends in
      rw hop.now (record {
        before = g.before;
        kept = length-set w i up ∙ g.kept;
        ends = omega arith;
        between = λ k l.
            let b = g.between k l in
            let link = b.every.link in
            let jump : Up s (2 * k) i up =
            rw hop.to (up-twice (link i h) (link (get_or w i 0) (link-inside g.before.rooted.one.inside b.every h))) in
            record {
              every = record { link = λ v l. stored (Up s k) w i up v here (up-less (omega arith) jump) (λ _. link v l) };
              passed = λ v l p. stored (Up s (2 * k)) w i up v here jump (λ q. b.passed v l (more v q p));
            };
        all = λ z v l p.
            let none = no_bits bits up r z in
            stored (λ _ x. x ≡ r) w i up v here none.1 (λ q. g.all none.0 v l (more v q p));
      })

-- the first of the parts that it has yet to come to, or the last
module _ {s w₀ w : List ℕ} {r a e bits : ℕ} (g : Jumping s w₀ w r a e bits) (h : a < e) where
  pub first-inside : (a < length w) × (get_or w a 0 < length w)
  first-inside = jumping-inside g (omega (arith, g.ends))

  pub last-inside : (e - 1 < length w) × (get_or w (e - 1) 0 < length w)
  last-inside = jumping-inside g (omega (arith, g.ends))

  pub jumping-rise : {up : ℕ} {w' : List ℕ} → Hopped w a up w' → Jumping s w₀ w' r (a + 1) e (bit_or bits (bit_xor up r))
  jumping-rise hop = jumping-step g (omega (arith, g.ends)) (le_refl e) (λ v q p b. p (omega arith)) hop

  pub jumping-fall : {up : ℕ} {w' : List ℕ} → Hopped w (e - 1) up w' → Jumping s w₀ w' r a (e - 1) (bit_or bits (bit_xor up r))
  jumping-fall hop = jumping-step g (omega (arith, g.ends)) (omega arith) (λ v q p b l. p b (omega arith)) hop

-- it has come to all
pub jumping-end : {s w₀ w : List ℕ} {r a e bits : ℕ} → Jumping s w₀ w r a e bits → e ≤ a → Jumped s w₀ r (eqb bits 0) w
jumping-end {s} {w₀} {w} {r} {a} {e} g h =
    let none : (v : ℕ) → Passed a e v = λ v b l. omega arith in record {
      twice = λ k l. record { link = λ v b. (g.between k l).passed v b (none v) };
      all = λ z v b. g.all (eqb-true _ _ z) v b (none v);
    }

-- ---- pass by pass

-- where the number of cells is as it was, there is room
rooted-kept : {s w w' : List ℕ} {r : ℕ} → length w' ≡ length w → Rooted s w r → Rooted s w' r
rooted-kept e g = let room = g.fits.room in record { one = g.one; fits = record { small = g.fits.small; room = omega arith } }

-- the entries are one step up
pub links-start : {s w w' : List ℕ} {r : ℕ} → length w' ≡ length w → Rooted s w r → Same w' 0 s 0 (length s) → Links s w' r 1
unfolding parent
links-start {s} e g p = record {
  rooted = rooted-kept e g;
  linked = record { link = λ v h. record { steps = 1; most = le_refl 1; reaches = climb-one s v ∙ sym (rw zero-add at (p.cell v h)) } };
}

-- each pass makes the links longer
pub links-twice : {s w w' : List ℕ} {r k : ℕ} {done : Bool} → length w' ≡ length w → Links s w r k → Jumped s w r done w' → Links s w' r (2 * k)
links-twice {k = k} e g jumped = record { rooted = rooted-kept e g.rooted; linked = jumped.twice k g.linked }

-- links of more steps are links of fewer
pub links-less : {s w : List ℕ} {r j k : ℕ} → j ≤ k → Links s w r k → Links s w r j
links-less h g = record { rooted = g.rooted; linked = record { link = λ v b. up-less h (g.linked.link v b) } }

-- ---- what the links say

-- a part that is linked to the root meets it
pub linked-root : {s w : List ℕ} {r k v : ℕ} → OneRoot s r → Linked s w k → v < length s → get_or w v 0 ≡ r → is_root s (climb s (length s) v) ≡ true
linked-root {s} {w} {r} {k} {v} one l h e =
    let up = l.link v h in
    meets-by-n s one.inside v h (record { steps = up.steps; meets = ap (is_root s) (up.reaches ∙ e) ∙ is_root_lem s r one.itself })

-- a link that is n steps up or more and is not the root: the climb has not met the root after n steps
pub linked-elsewhere : {s w : List ℕ} {r v : ℕ} → OneRoot s r → Linked s w (length s) → v < length s → get_or w v 0 ≢ r → is_root s (climb s (length s) v) ≡ false
linked-elsewhere {s} {w} {r} {v} one l h q =
    let up = l.link v h in
    let far = climb s (length s) v in
    by-test (is_root s far)
    (λ e.
    let self : parent s far ≡ far = root_is s far e in
    let stays : climb s up.steps v ≡ far =
    climb-split s (length s) (up.steps - length s) up.steps v (omega (arith, up.most)) ∙ climb-stays s (up.steps - length s) far self in
    absurd (q (sym up.reaches ∙ stays ∙ one.only far (climb-inside s one.inside (length s) v h) self)))
    (λ e. e)

-- after a pass that gives 0 there is no loop
pub no-cycle : {s w w' : List ℕ} {r k : ℕ} {done : Bool} → Links s w r k → Jumped s w r done w' → done ≡ true → length s ≡ first_lost s
no-cycle {s} {k = k} g jumped z =
    cycle-place s (length s) (le_refl _)
    (λ v h. linked-root g.rooted.one (jumped.twice k g.linked) h (jumped.all z v h))
    (λ h. absurd (omega arith))
