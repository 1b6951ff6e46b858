-- Calls that are lent a sheet, or a sheet with its tables: what their lengths are where they fit; what is known of an accepted call, whose tables are the sheet's
-- own; and that with these, and buffers that fit, the question, or the part that is named, alone decides.
-- Assumes nothing.
use Prim.Native.Nat.{ℕ, ◌+◌}
use native.Mathlib.Nat.{le_of_eq}
use mathlib.Core.Path.{◌≡◌, refl, sym, ap, ◌∙◌}
use mathlib.Core.List.{List, [], ◌∷◌, ◌++◌}
use borrow.Author.Tests.{eq-eqb, eqb-true}
use lib.Dec.{lit<}
use lib.ListN.{length, take, drop, length-append}
use lib.Seq.{take_at, drop_at}
use Rattle.tree.specs.Verdict.{accepted}
use Rattle.tree.specs.Buffers.{label_cells, tour_cells, lift_cells, order_cells, work_cells, sheet_fits, tables_fits}
use Rattle.tree.specs.Tests.{verdict, sheet_tests, lent_tests, stale_table, node_out_of_range, question_tests, Accepted}
use Rattle.tree.specs.Labels.{label_table}
use Rattle.tree.specs.Tour.{tour_table}
use Rattle.tree.specs.Lifts.{lift_table}
use Rattle.tree.specs.Preorder.{preorder}
use Rattle.tree.specs.Tables.{Lent, own, end_to_end}
use Rattle.tree.specs.Sections.{first_difference}
use Rattle.tree.specs.Nodes.{Small}
use Rattle.tree.specs.Ready.{Ready}
use Rattle.tree.specs.Lending.{sheet_unfit, unfit_of, lent_verdict, asked_verdict, part_verdict}
use Rattle.tree.proofs.Verdicts.{accepted-passed, accepted-on, accepted-both}
use Rattle.tree.proofs.Acceptance.{accepted-tree}
use Rattle.tree.proofs.Answers.{accepted-fits, stale-accepted}
use Rattle.tree.proofs.Fits.{none-fitting, fitting-none, lower-second, lower-none}
use Rattle.tree.proofs.Cells.{label-length, tour_table-length, lift-length}
use Rattle.tree.proofs.Sizes.{preorder-length}
use Rattle.tree.proofs.Tours.{tour-length}
use Rattle.tree.proofs.Differences.{stale-place, difference-all, difference-none, same-all}
use Rattle.tree.proofs.Claims.{own-tables-fit}

-- ---- lengths

-- without tables: where no buffer is named, work has its exact length, and no further one is named
pub sheet-exact : (s work : List ℕ) (further : ℕ) → sheet_unfit s work further ≡ 0 → (length work ≡ work_cells (length s)) × (further ≡ 0)
sheet-exact s work further e =
    let (mine, none) = lower-none _ further e in
    let (room, _) = none-fitting 0 (sheet_fits (work_cells (length s)) (length work)) (lit< tt, tt) mine in
    (eqb-true _ _ room, none)

-- with tables: each has its exact length, and no further one is named
pub record Exact (t : Lent) (work : List ℕ) (further : ℕ) : Type 0 where
  pub label_length : length t.label ≡ label_cells (length t.parents)
  pub tour_length : length t.tour ≡ tour_cells (length t.parents)
  pub lift_length : length t.lift ≡ lift_cells (length t.parents)
  pub work_cells_lem : length work ≡ work_cells (length t.parents)
  pub order_length : length t.order ≡ order_cells (length t.parents)
  pub further-fits : further ≡ 0

pub exact : (t : Lent) (work : List ℕ) (further : ℕ) → unfit_of t work further ≡ 0 → Exact t work further
exact t work further e =
    let n = length t.parents in
    let fits = tables_fits n (length t.label) (length t.tour) (length t.lift) (length t.order) (work_cells n) (length work) in
    let (mine, none) = lower-none _ further e in
    let (label, (tour, (lift, (room, (order, _))))) = none-fitting 0 fits (lit< tt, (lit< tt, (lit< tt, (lit< tt, (lit< tt, tt))))) mine in
    record {
      label_length = eqb-true _ _ label;
      tour_length = eqb-true _ _ tour;
      lift_length = eqb-true _ _ lift;
      work_cells_lem = eqb-true _ _ room;
      order_length = eqb-true _ _ order;
      further-fits = none;
    }

-- ---- a sheet that was accepted

-- tests 1 to 7 accept: no buffer is named, and the sheet is one rooted tree of at most 16,384 parts
pub accepted-small : (s : List ℕ) (buffer : ℕ) → verdict (sheet_tests s buffer) ≡ accepted → (buffer ≡ 0) × Small s
accepted-small s buffer e =
    let none : buffer ≡ 0 = accepted-fits s buffer e in
    let (tree, most) = accepted-tree s (ap (λ (b : ℕ). verdict (sheet_tests s b)) (sym none) ∙ e) in
    (none, record { tree = tree; most = most })

-- so a call without tables has a sheet that is ready, and no further buffer that does not fit
pub sheet-ready : (s work : List ℕ) (further : ℕ) → verdict (sheet_tests s (sheet_unfit s work further)) ≡ accepted → Ready s work × (further ≡ 0)
sheet-ready s work further e =
    let (none, small) = accepted-small s _ e in
    let (room, fits) = sheet-exact s work further none in
    (record { tree = small.tree; small = small.most; room = room }, fits)

-- ---- tables that were accepted

-- lists that are equal end to end, of equal first lengths, are equal one by one
append-split : (a b c d : List ℕ) → length a ≡ length c → a ++ b ≡ c ++ d → (a ≡ c) × (b ≡ d)
append-split a b c d long e = (
  sym (take_at a b (length c) long) ∙ ap (take (length c)) e ∙ take_at c d (length c) refl,
  sym (drop_at a b (length c) long) ∙ ap (drop (length c)) e ∙ drop_at c d (length c) refl,
)

append-length : (a b c d : List ℕ) → length a ≡ length c → length b ≡ length d → length (a ++ b) ≡ length (c ++ d)
append-length a b c d e f = length-append a b ∙ ap (λ (k : ℕ). k + length b) e ∙ ap (λ (k : ℕ). length c + k) f ∙ sym (length-append c d)

-- an accepted sheet, its own tables, and no further buffer that does not fit
pub record Owned (t : Lent) (further : ℕ) : Type 0 where
  pub small : Small t.parents
  pub label : t.label ≡ label_table t.parents
  pub tour : t.tour ≡ tour_table t.parents
  pub lift : t.lift ≡ lift_table t.parents
  pub order : t.order ≡ preorder t.parents
  pub fits : further ≡ 0

module _ (t : Lent) (work : List ℕ) (further : ℕ) where
  abbrev s : List ℕ
  s = t.parents

  -- tables that are not stale are the sheet's end to end
  fresh : length (end_to_end t) ≡ length (end_to_end (own s)) → verdict (stale_table t ∷ []) ≡ accepted → end_to_end t ≡ end_to_end (own s)
  unfolding stale_table
  fresh long e =
      let (passes, _) = accepted-passed (stale_table t ∷ []) e in
      let all : first_difference (end_to_end t) (end_to_end (own s)) ≡ length (end_to_end (own s)) = sym (stale-place t) ∙ eqb-true _ _ passes in
      same-all (end_to_end t) (end_to_end (own s)) long (difference-all (end_to_end t) (end_to_end (own s)) (le_of_eq (sym all)))

  pub lent-owned : lent_verdict t work further ≡ accepted → Owned t further
  lent-owned e =
      let unfit = unfit_of t work further in
      let (sheet, stale) = accepted-both (sheet_tests s unfit) (stale_table t ∷ []) e in
      let (none, small) = accepted-small s unfit sheet in
      let x = exact t work further none in
      let label : length t.label ≡ length (label_table s) = x.label_length ∙ sym (label-length s) in
      let tour : length t.tour ≡ length (tour_table s) = x.tour_length ∙ sym (tour_table-length s (tour-length small.tree)) in
      let lift : length t.lift ≡ length (lift_table s) = x.lift_length ∙ sym (lift-length s) in
      let order : length t.order ≡ length (preorder s) = x.order_length ∙ sym (preorder-length small.tree) in
      let long =
      append-length t.label _ (label_table s) _ label
      (append-length t.tour _ (tour_table s) _ tour (append-length t.lift t.order (lift_table s) (preorder s) lift order)) in
      let (same-label, after-label) = append-split t.label _ (label_table s) _ label (fresh long stale) in
      let (same-tour, after-tour) = append-split t.tour (t.lift ++ t.order) (tour_table s) (lift_table s ++ preorder s) tour after-label in
      let (same-lift, same-order) = append-split t.lift t.order (lift_table s) (preorder s) lift after-tour in
      record { small = small; label = same-label; tour = same-tour; lift = same-lift; order = same-order; fits = x.further-fits }

-- tables that are the sheet's own, taken together
pub owned-is : (t : Lent) (further : ℕ) → Owned t further → t ≡ own t.parents
owned-is t further o =
    let s = t.parents in
    ap (λ (l : List ℕ). record { parents = s; label = l; tour = t.tour; lift = t.lift; order = t.order }) o.label
    ∙ ap (λ (l : List ℕ). record { parents = s; label = label_table s; tour = l; lift = t.lift; order = t.order }) o.tour
    ∙ ap (λ (l : List ℕ). record { parents = s; label = label_table s; tour = tour_table s; lift = l; order = t.order }) o.lift
    ∙ ap (λ (l : List ℕ). record { parents = s; label = label_table s; tour = tour_table s; lift = lift_table s; order = l }) o.order

-- ---- an accepted sheet's own tables

module _ (s : List ℕ) (accepts : Accepted s) where
  -- no buffer does not fit
  pub own-fits : (work : List ℕ) (further : ℕ) → length work ≡ work_cells (length s) → further ≡ 0 → unfit_of (own s) work further ≡ 0
  own-fits work further room fits =
      let (label, tour, lift, order) = own-tables-fit s accepts in
      lower-second _ further
      (fitting-none _ (eq-eqb _ _ label, (eq-eqb _ _ tour, (eq-eqb _ _ lift, (eq-eqb _ _ room, (eq-eqb _ _ order, tt))))))
      ∙ fits

  -- and tests 1 to 8 accept
  own-accepted : (work : List ℕ) (further : ℕ) → length work ≡ work_cells (length s) → further ≡ 0 → lent_verdict (own s) work further ≡ accepted
  own-accepted work further room fits =
      let buffer = unfit_of (own s) work further in
      let sheet : verdict (sheet_tests s buffer) ≡ accepted = ap (λ (b : ℕ). verdict (sheet_tests s b)) (own-fits work further room fits) ∙ accepts in
      let fresh = stale-accepted (own s) (le_of_eq (sym (difference-none _ _ (record { cell = λ x h. refl })))) in
      accepted-on (sheet_tests s buffer) (stale_table (own s) ∷ []) sheet ∙ fresh

  -- so that the question alone decides
  pub question-decides : (work question : List ℕ) (further : ℕ) → length work ≡ work_cells (length s) → further ≡ 0
      → asked_verdict (own s) work question further ≡ verdict (question_tests s 0 question)
  question-decides work question further room fits =
      accepted-on (lent_tests (own s) (unfit_of (own s) work further)) (question_tests s 0 question) (own-accepted work further room fits)

  -- or the part that is named
  pub part-decides : (work : List ℕ) (part : ℕ) → length work ≡ work_cells (length s)
      → part_verdict (own s) work part ≡ verdict (node_out_of_range s 0 (part ∷ []) ∷ [])
  part-decides work part room =
      accepted-on (lent_tests (own s) (unfit_of (own s) work 0)) (node_out_of_range s 0 (part ∷ []) ∷ []) (own-accepted work 0 room refl)
