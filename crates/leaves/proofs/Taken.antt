-- A part is taken off: it is one less that names its entry, which is put into the order when none is left.
-- Assumes nothing.
use Prim.Native.Nat.{ℕ, suc, ◌+◌, ◌-◌, ◌*◌, ◌<◌}
use native.Mathlib.Nat.{mul-one}
use native.Mathlib.Omega.{arith}
use mathlib.Core.Path.{◌≡◌, refl, sym, ap, ◌∙◌}
use mathlib.Core.Logic.{◌≢◌}
use mathlib.Core.Bool.{Bool, true, cond}
use mathlib.Core.List.{List}
use borrow.Author.Tests.{eq-eqb, ne_eqb, eqb-true, eqb-false}
use lib.Dec.{eqb}
use lib.ListN.{length, get_or, set, length-set}
use lib.Seq.{get_or-set_same, get_or-set_other}
use Rattle.tree.specs.Scan.{count_below, least}
use Rattle.tree.specs.Tree.{parent, root_of}
use Rattle.tree.proofs.Scans.{by_equal, by_order, least-here, least-before, count_same, count-constant}
use Rattle.tree.proofs.Pigeonhole.{Apart, count-apart}
use Rattle.leaves.specs.Leaves.{Wooded, names, left_at, Taking, Took}

-- ---- what is among the first cells

-- c stands in one of the first k cells, or in none
pub by-listed {ℓ} : {X : Type ℓ} (w : List ℕ) (k c : ℕ) → ((j : ℕ) → j < k → get_or w j 0 ≡ c → X) → (((j : ℕ) → j < k → get_or w j 0 ≢ c) → X) → X
by-listed w k c f g =
    let here : ℕ → Bool = λ j. eqb (get_or w j 0) c in
    by_order k (least here k)
    (λ h. g (λ j b. eqb-false _ _ (least-before here k j (omega arith))))
    (λ h. f (least here k) h (eqb-true _ _ (least-here here k h)))

-- every number below n
pub count-all : (q : ℕ → Bool) (n : ℕ) → ((j : ℕ) → j < n → q j ≡ true) → count_below q n ≡ n
count-all q n h = count-constant q true n h ∙ mul-one n

module _ {s w : List ℕ} {taken found : ℕ} (l : Taking s w taken found) where
  -- the parts in the order, and those taken, are different
  pub order-apart : Apart (length s) (λ i. get_or w i 0) found
  order-apart = record { below = l.part; apart = l.apart }

  taken-apart : Apart (length s) (λ i. get_or w i 0) taken
  taken-apart =
      let within = l.within in
      record { below = λ i h. l.part i (omega arith); apart = λ i j h b. l.apart i j h (omega arith) }

  -- a part that names itself is none of them
  pub none-itself : (r : ℕ) → r < length s → parent s r ≡ r → (i : ℕ) → i < found → get_or w i 0 ≢ r
  none-itself r h itself i b e = let at = l.first i r b h (itself ∙ sym e) in l.apart at.0 i at.1 b (at.2 ∙ sym e)

  -- so there are fewer than n
  pub found_below : Wooded s w → found < length s
  found_below g =
      let r = root_of s in
      let fewer = count-apart (length s) found (λ i. get_or w i 0) (λ _. true) order-apart r g.one.part refl
      (none-itself r g.one.part g.one.itself) in
      let mine = count-all (λ _. true) found (λ j h. refl) in
      let whole = count-all (λ _. true) (length s) (λ j h. refl) in
      omega arith

  -- one that names p and is not taken is left
  pub left-some : (p c : ℕ) → p < length s → c < length s → parent s c ≡ p → ((i : ℕ) → i < taken → get_or w i 0 ≢ c) → 0 < left_at s w p
  left-some p c h b e other =
      let fewer = count-apart (length s) taken (λ i. get_or w i 0) (names s p) taken-apart c b (eq-eqb _ _ e) other in
      let share = l.shared p h in
      omega arith

  -- where none is left, all that name p are taken
  pub none_left : (p c : ℕ) → p < length s → c < length s → parent s c ≡ p → left_at s w p ≡ 0 → (j : ℕ) × (j < taken) × (get_or w j 0 ≡ c)
  none_left p c h b e none_is =
      by-listed w taken c (λ j k q. (j, k, q)) (λ other. let some = left-some p c h b e other in absurd (omega arith))

-- ---- one more is taken

-- the first part in the order that is not taken, and how many are left that name its entry
pub record Next (s w : List ℕ) (at found : ℕ) : Type 0 where
  pub room : found < length s
  pub node : get_or w at 0 < length s
  pub above : parent s (get_or w at 0) < length s
  pub some : 0 < left_at s w (parent s (get_or w at 0))

pub next : {s w : List ℕ} {at found : ℕ} → Wooded s w → Taking s w at found → at < found → Next s w at found
next {s} {w} {at} {found} g l h =
    let v = get_or w at 0 in
    let node = l.part at h in
    record {
      room = found_below l g;
      node = node;
      above = g.one.inside v node;
      some = left-some l (parent s v) v (g.one.inside v node) node refl (λ i b. l.apart i at b h);
    }

module _ {s w : List ℕ} {at found : ℕ} (left : ℕ) (g : Wooded s w) (l : Taking s w at found) (h : at < found) where
  abbrev n : ℕ
  n = length s

  -- the part that is taken, and its entry
  abbrev v : ℕ
  v = get_or w at 0

  abbrev p : ℕ
  p = parent s v

  -- what is stored, but for the entry beside the part; and with it
  abbrev w₁ : List ℕ
  w₁ = set (set w (n + p) left) found p

  abbrev w' : List ℕ
  w' = set w₁ (2 * n + at) p

  facts : Next s w at found
  facts = next g l h

  -- what the cells hold then
  other-cell : (i : ℕ) → i ≢ found → i ≢ n + p → i ≢ 2 * n + at → get_or w' i 0 ≡ get_or w i 0
  other-cell i q r e = get_or-set_other w₁ (2 * n + at) i p 0 e ∙ get_or-set_other (set w (n + p) left) found i p 0 q ∙ get_or-set_other w (n + p) i left 0 r

  old : (i : ℕ) → i < found → get_or w' i 0 ≡ get_or w i 0
  old i b = let f = facts in other-cell i (λ q. absurd (omega arith)) (λ q. absurd (omega arith)) (λ q. absurd (omega arith))

  pub new : get_or w' found 0 ≡ p
  new =
      let f = facts in
      let room = g.room in
      let same = length-set w (n + p) left in
      get_or-set_other w₁ (2 * n + at) found p 0 (λ q. absurd (omega arith)) ∙ get_or-set_same (set w (n + p) left) found p 0 (omega arith)

  left_other : (u : ℕ) → u < n → u ≢ p → left_at s w' u ≡ left_at s w u
  left_other u b q = let f = facts in other-cell (n + u) (λ e. absurd (omega arith)) (λ e. q (omega arith)) (λ e. absurd (omega arith))

  left_here : left_at s w' p ≡ left
  left_here =
      let f = facts in
      let room = g.room in
      get_or-set_other w₁ (2 * n + at) (n + p) p 0 (λ e. absurd (omega arith))
      ∙ get_or-set_other (set w (n + p) left) found (n + p) p 0 (λ e. absurd (omega arith)) ∙ get_or-set_same w (n + p) left 0 (omega arith)

  -- the entry stands beside the part, as others stand beside theirs
  beside-step : (i : ℕ) → i < at + 1 → get_or w' (2 * n + i) 0 ≡ parent s (get_or w' i 0)
  beside-step i b =
      let f = facts in
      let room = g.room in
      let cells = length-set (set w (n + p) left) found p ∙ length-set w (n + p) left in
      by_equal i at
      (λ q. rw (q, old at h) (get_or-set_same w₁ (2 * n + at) p 0 (omega arith)))
      (λ q.
      other-cell (2 * n + i) (λ e. absurd (omega arith)) (λ e. absurd (omega arith)) (λ e. q (omega arith))
      ∙ l.beside i (omega arith) ∙ ap (parent s) (sym (old i (omega arith))))

  -- the entry is not in the order yet
  none_is : (i : ℕ) → i < found → get_or w i 0 ≢ p
  none_is i b e =
      let f = facts in
      let bare : left_at s w p ≡ 0 = ap (left_at s w) (sym e) ∙ l.bare i b in
      absurd (omega arith)

  -- those that name u, taken or left
  shares : left ≡ left_at s w p - 1 → (u : ℕ) → u < n → left_at s w' u + count_below (λ i. names s u (get_or w' i 0)) (at + 1) ≡ count_below (names s u) n
  unfolding count_below
  shares less u b =
      let f = facts in
      let e : at + 1 ≡ suc at = omega arith in
      let before = l.shared u b in
      let same = count_same (λ i. names s u (get_or w i 0)) (λ i. names s u (get_or w' i 0)) at (λ j k. ap (λ (x : ℕ). names s u x) (old j (omega arith))) in
      let here : get_or w' at 0 ≡ v = old at h in
      rw (e, here, same)
      (by_equal u p
      (λ q.
      let mine : left_at s w' u ≡ left = ap (left_at s w') q ∙ left_here in
      let was : left_at s w u ≡ left_at s w p = ap (left_at s w) q in
      rw (eq-eqb p u (sym q)) (omega arith))
      (λ q. let mine = left_other u b q in rw (ne_eqb p u (λ k. q (sym k))) (omega arith)))

  -- what was in the order is there
  first-old : (i c : ℕ) → i < found → c < n → parent s c ≡ get_or w' i 0 → (j : ℕ) × (j < i) × (get_or w' j 0 ≡ c)
  first-old i c b k e =
      let at_j = l.first i c b k (e ∙ old i b) in
      let lower = at_j.1 in
      (at_j.0, lower, old at_j.0 (omega arith) ∙ at_j.2)

  bare-old : (i : ℕ) → i < found → left_at s w' (get_or w' i 0) ≡ 0
  bare-old i b = ap (left_at s w') (old i b) ∙ left_other (get_or w i 0) (l.part i b) (none_is i b) ∙ l.bare i b

  listed-old : (u : ℕ) → u < n → u ≢ p → left_at s w' u ≡ 0 → (i : ℕ) × (i < found) × (get_or w' i 0 ≡ u)
  listed-old u b q e =
      let at_i = l.listed u b (sym (left_other u b q) ∙ e) in
      (at_i.0, at_i.1, old at_i.0 at_i.1 ∙ at_i.2)

  apart-old : (i j : ℕ) → i < j → j < found → get_or w' i 0 ≢ get_or w' j 0
  apart-old i j k b e = l.apart i j k b (sym (old i (omega arith)) ∙ e ∙ old j b)

  -- where some are left that name the entry, it is not put in
  some_left : left ≡ left_at s w p - 1 → left ≢ 0 → Taking s w' (at + 1) found
  some_left less some = record {
    within = omega arith;
    part = λ i b. rw (old i b) (l.part i b);
    apart = apart-old;
    shared = shares less;
    bare = bare-old;
    listed = λ u b e. by_equal u p (λ q. absurd (some (sym left_here ∙ ap (left_at s w') (sym q) ∙ e))) (λ q. listed-old u b q e);
    first = first-old;
    beside = beside-step;
  }

  -- where none is left, all that name the entry are taken
  all-taken : left ≡ left_at s w p - 1 → left ≡ 0 → (c : ℕ) → c < n → parent s c ≡ p → (j : ℕ) × (j < found) × (get_or w' j 0 ≡ c)
  all-taken less none-is-left c b e =
      by-listed w (at + 1) c (λ j k q. (j, omega arith, old j (omega arith) ∙ q))
      (λ other.
      let f = facts in
      let apart : Apart n (λ i. get_or w i 0) (at + 1) =
      record { below = λ i k. l.part i (omega arith); apart = λ i j k m. l.apart i j k (omega arith) } in
      let fewer = count-apart n (at + 1) (λ i. get_or w i 0) (names s p) apart c b (eq-eqb _ _ e) other in
      let same = count_same (λ i. names s p (get_or w i 0)) (λ i. names s p (get_or w' i 0)) (at + 1) (λ j k. ap (λ (x : ℕ). names s p x) (old j (omega arith))) in
      let share = shares less p f.above in
      let mine = left_here in
      absurd (omega arith))

  -- and it is put in
  entry_in : left ≡ left_at s w p - 1 → left ≡ 0 → Taking s w' (at + 1) (found + 1)
  entry_in less none-is-left =
      let f = facts in
      record {
        within = omega arith;
        part = λ i b. by_equal i found (λ q. rw (q, new) f.above) (λ q. rw (old i (omega arith)) (l.part i (omega arith)));
        apart = λ i j k b. by_equal j found
            (λ q e. none_is i (omega arith) (sym (old i (omega arith)) ∙ e ∙ ap (λ (x : ℕ). get_or w' x 0) q ∙ new))
            (λ q. apart-old i j k (omega arith));
        shared = shares less;
        bare = λ i b. by_equal i found (λ q. rw (q, new) (left_here ∙ none-is-left)) (λ q. bare-old i (omega arith));
        listed = λ u b e. by_equal u p (λ q. (found, omega arith, new ∙ sym q))
            (λ q. let at_i = listed-old u b q e in let k = at_i.1 in (at_i.0, omega arith, at_i.2));
        first = λ i c b k e. by_equal i found
            (λ q. let at_j = all-taken less none-is-left c k (e ∙ ap (λ (x : ℕ). get_or w' x 0) q ∙ new) in let m = at_j.1 in (at_j.0, omega arith, at_j.2))
            (λ q. first-old i c (omega arith) k e);
        beside = beside-step;
      }

  taking_step : {more : ℕ} → left ≡ left_at s w p - 1 → more ≡ cond (eqb left 0) 1 0 → Taking s w' (at + 1) (found + more)
  taking_step {more} less is =
      by_equal left 0
      (λ none-is-left. let one : more ≡ 1 = is ∙ (rw (eq-eqb _ _ none-is-left)) in rw one (entry_in less none-is-left))
      (λ some.
      let none : more ≡ 0 = is ∙ (rw (ne_eqb _ _ some)) in
      let same : found + more ≡ found = omega arith in
      rw same (some_left less some))

  pub took_one : {more : ℕ} → left ≡ left_at s w p - 1 → more ≡ cond (eqb left 0) 1 0 → Took s w at 1 found w' (found + more)
  took_one less is = record {
    taking = taking_step less is;
    kept = old;
    grown = omega arith;
    cells = length-set w₁ (2 * n + at) p ∙ length-set (set w (n + p) left) found p ∙ length-set w (n + p) left;
  }
