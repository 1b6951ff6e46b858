-- Test 8 from the first differences of the four tables, found one after the other: the tables end to end differ first where the first of
-- them does that is not the sheet's own.
-- Assumes nothing.
use Prim.Native.Nat.{ℕ, ◌+◌, ◌≤◌, ◌<◌}
use native.Mathlib.Omega.{arith}
use mathlib.Core.Path.{◌≡◌, sym, ap, ◌∙◌}
use mathlib.Core.List.{List, [], ◌∷◌, ◌++◌}
use lib.ListN.{length, length-append}
use Rattle.tree.specs.Labels.{label_table}
use Rattle.tree.specs.Tour.{tour_table}
use Rattle.tree.specs.Lifts.{lift_table}
use Rattle.tree.specs.Preorder.{preorder}
use Rattle.tree.specs.Tables.{Lent, own, end_to_end}
use Rattle.tree.specs.Sections.{first_difference}
use Rattle.tree.specs.Verdict.{accepted, refused}
use Rattle.tree.specs.Tests.{verdict, stale_table}
use Rattle.tree.proofs.Cells.{label-length, lift-length}
use Rattle.tree.proofs.Sizes.{preorder-length}
use Rattle.tree.proofs.Differences.{difference-left, difference-right}
use Rattle.tree.proofs.Answers.{stale-refused, stale-accepted}
use Rattle.tables.specs.Sections.{Fits}
use Rattle.tables.proofs.TableRows.{own-tour-length}

module _ {t : Lent} {work : List ℕ} (f : Fits t work) where
  -- each table is as long as the sheet's own
  label_same : length t.label ≡ length (label_table t.parents)
  label_same = f.label_length ∙ sym (label-length t.parents)

  tour-same : length t.tour ≡ length (tour_table t.parents)
  tour-same = f.tour_length ∙ sym (own-tour-length f.ready)

  lift-same : length t.lift ≡ length (lift_table t.parents)
  lift-same = f.lift_length ∙ sym (lift-length t.parents)

  order_same : length t.order ≡ length (preorder t.parents)
  order_same = f.order_length ∙ sym (preorder-length f.ready.tree)

  -- the sheet's own from the tour table on, and from the lift table on
  abbrev later : List ℕ
  later = lift_table t.parents ++ preorder t.parents

  abbrev late : List ℕ
  late = tour_table t.parents ++ later

  whole : length (end_to_end (own t.parents)) ≡ length t.label + length t.tour + length t.lift + length t.order
  whole =
      let three = length-append (label_table t.parents) late in
      let two = length-append (tour_table t.parents) later in
      let one = length-append (lift_table t.parents) (preorder t.parents) in
      let a = label_same in
      let b = tour-same in
      let c = lift-same in
      let d = order_same in
      omega arith

  -- where they differ first at d
  refused-at : {d : ℕ} → first_difference (end_to_end t) (end_to_end (own t.parents)) ≡ d
      → d < length t.label + length t.tour + length t.lift + length t.order → refused 8 d ≡ verdict (stale_table t ∷ [])
  refused-at e h = let all = whole in ap (refused 8) (sym e) ∙ sym (stale-refused t (omega arith))

  -- the label table is stale
  pub stale-label : {at : ℕ} → at ≡ first_difference t.label (label_table t.parents) → at < length t.label
      → refused 8 at ≡ verdict (stale_table t ∷ [])
  stale-label e h =
      let same = label_same in
      refused-at (difference-left t.label (label_table t.parents) _ _ label_same (omega arith) ∙ sym e) (omega arith)

  module _ {a : ℕ} (labels : a ≡ first_difference t.label (label_table t.parents)) (fresh : length t.label ≤ a) where
    behind-label : first_difference (end_to_end t) (end_to_end (own t.parents))
        ≡ length t.label + first_difference (t.tour ++ (t.lift ++ t.order)) late
    behind-label =
        let same = label_same in
        let right = difference-right t.label (label_table t.parents) (t.tour ++ (t.lift ++ t.order)) late label_same (omega arith) in
        omega arith

    -- the tour table is
    pub stale-tour : {at : ℕ} → at ≡ first_difference t.tour (tour_table t.parents) → at < length t.tour
        → refused 8 (length t.label + at) ≡ verdict (stale_table t ∷ [])
    stale-tour e h =
        let same = tour-same in
        let left = difference-left t.tour (tour_table t.parents) (t.lift ++ t.order) later tour-same (omega arith) in
        refused-at (behind-label ∙ ap (λ (x : ℕ). length t.label + x) (left ∙ sym e)) (omega arith)

    module _ {b : ℕ} (tours : b ≡ first_difference t.tour (tour_table t.parents)) (fresh-too : length t.tour ≤ b) where
      behind-tour : first_difference (end_to_end t) (end_to_end (own t.parents))
          ≡ length t.label + length t.tour + first_difference (t.lift ++ t.order) later
      behind-tour =
          let same = tour-same in
          let before = behind-label in
          let right = difference-right t.tour (tour_table t.parents) (t.lift ++ t.order) later tour-same (omega arith) in
          omega arith

      -- the lift table is
      pub stale-lift : {at : ℕ} → at ≡ first_difference t.lift (lift_table t.parents) → at < length t.lift
          → refused 8 (length t.label + length t.tour + at) ≡ verdict (stale_table t ∷ [])
      stale-lift e h =
          let before = behind-tour in
          let same = lift-same in
          let left = difference-left t.lift (lift_table t.parents) t.order (preorder t.parents) lift-same (omega arith) in
          refused-at (omega arith) (omega arith)

      module _ {c : ℕ} (lifts : c ≡ first_difference t.lift (lift_table t.parents)) (fresh-lift : length t.lift ≤ c) where
        behind-lift : first_difference (end_to_end t) (end_to_end (own t.parents))
            ≡ length t.label + length t.tour + length t.lift + first_difference t.order (preorder t.parents)
        behind-lift =
            let same = lift-same in
            let before = behind-tour in
            let right = difference-right t.lift (lift_table t.parents) t.order (preorder t.parents) lift-same (omega arith) in
            omega arith

        -- the order table is
        pub stale-order : {at : ℕ} → at ≡ first_difference t.order (preorder t.parents) → at < length t.order
            → refused 8 (length t.label + length t.tour + length t.lift + at) ≡ verdict (stale_table t ∷ [])
        stale-order e h = let before = behind-lift in refused-at (omega arith) (omega arith)

        -- none is
        pub stale-none : {at : ℕ} → at ≡ first_difference t.order (preorder t.parents) → length t.order ≤ at
            → accepted ≡ verdict (stale_table t ∷ [])
        stale-none e h =
            let before = behind-lift in
            let all = whole in
            sym (stale-accepted t (omega arith))
