-- Demand 3: one claim about what the calls give, over every accepted sheet with its own tables and buffers that fit, every question, list and
-- sharing out at once, and all runs that keep the calls' own contracts. `Runs` has what is run, `Agree` what is claimed of it; `demand-3`, at the end, is the
-- claim. That there are such runs of whatever is asked is shown in RunsExist.
-- Assumes nothing.
use Prim.Native.Nat.{ℕ, ◌+◌, ◌*◌, ◌%◌, ◌<◌}
use native.Mathlib.Omega.{arith}
use mathlib.Core.Path.{◌≡◌, refl, sym, ap, ◌∙◌, subst}
use mathlib.Core.List.Memᴰ
use mathlib.Core.List.{List, [], ◌∷◌}
use lib.ListN.{length, get_or}
use Rattle.std.proofs.Common.{Ok}
use Rattle.tree.specs.Tree.{Tree}
use Rattle.tree.specs.Tests as tests
use Rattle.tree.specs.Buffers.{trail_cells, answer_width, answer_cells}
use Rattle.tree.specs.Lca.{Lca, lca}
use Rattle.tree.specs.Sharing.{SameParts, SharedOut, members, first_in_preorder, last_in_preorder}
use Rattle.tree.specs.Tables.{own}
use Rattle.tree.specs.Routes.{by_labels, by_tour}
use Rattle.tree.specs.Branch.{Answer, answer_cell, answer_by}
use Rattle.tree.specs.Nodes.{Pair}
use Rattle.tree.specs.Pairs.{left_of, right_of, pairs, each_answer}
use Rattle.tree.specs.Trail.{trail, by_lifts, lifts, trail_buffer, lift_count}
use Rattle.tree.proofs.Orders.{member-at}
use Rattle.tree.proofs.Lcas.{lca-found, lca-only, pair_found}
use Rattle.tree.proofs.Lists.{same-lca, ends-listed, ends-lca, shared-lca}
use Rattle.tree.proofs.Acceptance.{accepted-tree}
use Rattle.tree.proofs.ByLifts.{lifts-lca}
use Rattle.tree.proofs.Pairs.{each-row-length, answers-same}
use Rattle.tree.proofs.Claims.{rules-agree, trail-rows}
use Rattle.routes.specs.declared.Route.TheVariants as route
use Rattle.routes.specs.Answers.{AnswersPair}
use Rattle.routes.specs.Lends.{Some, Lends}
use Rattle.routes.proofs.Giving.{pair-answered}
use Rattle.routes.proofs.Named.{other-some, group-some, carriers-some}
use Rattle.routes.proofs.Runs.{asked, answers, LabelsRun, TourRun, LiftsRun, ListRun, TrailRun, traced, rows_before, rows_after, carrier_cell}
use Rattle.routes.proofs.Granted.{pairs-granted, list-granted, trail-granted}

-- what is run on the sheet s
pub record Runs (s : List ℕ) : Type 0 where
  -- "every question of one or more pairs of its parts", by each route, "each with an answer buffer of its own"
  pub question : List ℕ
  pub some_pairs : Some s question
  pub whole-pairs : length question % 2 ≡ 0
  pub labels : LabelsRun
  pub tour : TourRun
  pub lifts : LiftsRun
  pub labels-lent : Lends s question (answer_cells (length question)) (asked labels)
  pub tour-lent : Lends s question (answer_cells (length question)) (asked tour)
  pub lifts-lent : Lends s question (answer_cells (length question)) (asked lifts)
  -- "every list of one or more of its parts"
  pub listed : List ℕ
  pub some-listed : Some s listed
  pub list : ListRun
  pub list-lent : Lends s listed 1 (asked list)
  -- "every other list that names exactly the same parts, in any order and any number of times"
  pub other : List ℕ
  pub same_parts : SameParts listed other
  pub other-list : ListRun
  pub other-lent : Lends s other 1 (asked other-list)
  -- "every sharing out into groups of at least one part": the list of the groups' carriers, as `list` gave them
  pub groups : ℕ
  pub group : ℕ → ℕ
  pub shared : SharedOut listed groups group
  pub each-group : (g : ℕ) → g < groups → ListRun
  pub each_lent : (g : ℕ) (h : g < groups) → Lends s (members listed group g) 1 (asked (each-group g h))
  pub carriers : List ℕ
  pub as_many : length carriers ≡ groups
  pub as-given : (g : ℕ) (h : g < groups) → get_or carriers g 0 ≡ get_or (answers (each-group g h)) 0 0
  pub of-groups : ListRun
  pub of-groups-lent : Lends s carriers 1 (asked of-groups)
  -- "every pair"
  pub x : ℕ
  pub y : ℕ
  pub some_pair : Some s (x ∷ y ∷ [])
  pub trail-of : TrailRun
  pub trail-lent : Lends s (x ∷ y ∷ []) 1 (traced trail-of)
  pub trail_length : length (rows_before trail-of) ≡ trail_cells

-- what is claimed of it
pub record Agree (s : List ℕ) (runs : Runs s) : Type 0 where
  -- no call is refused
  pub labels-accepted : runs.labels.result ≡ Ok tt
  pub tour-accepted : runs.tour.result ≡ Ok tt
  pub lifts-accepted : runs.lifts.result ≡ Ok tt
  pub list-accepted : runs.list.result ≡ Ok tt
  pub other-accepted : runs.other-list.result ≡ Ok tt
  pub groups-accepted : (g : ℕ) (h : g < runs.groups) → (runs.each-group g h).result ≡ Ok tt
  pub of-groups-accepted : runs.of-groups.result ≡ Ok tt
  -- "the routes give the same answers in every cell": by labels, by tour and by lifts
  pub labels-as-tour : answers runs.labels ≡ answers runs.tour
  pub tour-as-lifts : answers runs.tour ≡ answers runs.lifts
  pub in-every-cell : length (answers runs.labels) ≡ answer_cells (length runs.question)
  -- "and each pair's carrier is demand 2's"; "in demand 3 each pair's branches are the ones said here" (2026-03)
  pub each-pair : (i : ℕ) → i < pairs runs.question → AnswersPair s runs.question (answers runs.labels) i
  -- the list's carrier, which "is that of its first and last in preorder"
  pub of-list : Lca s runs.listed (get_or (answers runs.list) 0 0)
  pub first-and-last : Lca s (first_in_preorder s runs.listed ∷ last_in_preorder s runs.listed ∷ []) (get_or (answers runs.list) 0 0)
  -- "every other list .. has the same carrier, and so has the list of the groups' carriers"
  pub of_other : answers runs.other-list ≡ answers runs.list
  pub of-carriers : answers runs.of-groups ≡ answers runs.list
  -- "the trail is exactly the doubling rule's rows, with 65535 in all cells after them"
  pub rows : rows_after runs.trail-of ≡ trail_buffer (trail (own s) runs.x runs.y)
  -- "and the lift count equals the number of these rows and the sum of ones": the count is given, and not a refusal
  pub count : runs.trail-of.result ≡ Ok (length (trail (own s) runs.x runs.y))
  pub ones : length (trail (own s) runs.x runs.y) ≡ lift_count s runs.x runs.y
  -- with it the pair's carrier
  pub of_pair : Lca s (runs.x ∷ runs.y ∷ []) (get_or (carrier_cell runs.trail-of) 0 0)

-- ---- the proof

-- pair i of a question of parts
pair_of : {s : List ℕ} → tests.Accepted s → (question : List ℕ) → Some s question → (i : ℕ) → i < pairs question → Pair s (left_of question i) (right_of question i)
pair_of {s} accepts question some i h =
    let (tree, small) = accepted-tree s accepts in
    record {
      small = record { tree = tree; most = small };
      left = some.parts _ (member-at question (2 * i) (omega arith));
      right = some.parts _ (member-at question (2 * i + 1) (omega arith));
    }

-- rules that answer two parts alike answer a question of parts alike
same-answers : {s : List ℕ} → tests.Accepted s → (f g : ℕ → ℕ → Answer) (question : List ℕ) → Some s question
    → ((x y : ℕ) → x < length s → y < length s → f x y ≡ g x y) → each_answer f question ≡ each_answer g question
same-answers accepts f g question some same =
    answers-same f g question (λ i h. let pair = pair_of accepts question some i h in same _ _ pair.left pair.right)

module _ (s : List ℕ) (accepts : tests.Accepted s) (runs : Runs s) where
  tree : Tree s
  tree = (accepted-tree s accepts).0

  -- the parts of a pair
  left : runs.x < length s
  left = runs.some_pair.parts _ (Memᴰ.head refl)

  right : runs.y < length s
  right = runs.some_pair.parts _ (Memᴰ.tail (Memᴰ.head refl))

  -- the other list, and each group, name one or more parts too
  others : Some s runs.other
  others = other-some runs.some-listed runs.same_parts

  grouped : (g : ℕ) → g < runs.groups → Some s (members runs.listed runs.group g)
  grouped = group-some runs.some-listed runs.shared

  -- each group's run gives its carrier
  group-lca : (g : ℕ) → g < runs.groups → Lca s (members runs.listed runs.group g) (get_or runs.carriers g 0)
  group-lca g h =
      let given = (list-granted s accepts (grouped g h) (runs.each_lent g h) (runs.each-group g h).kept).1 in
      let is : get_or runs.carriers g 0 ≡ lca s (members runs.listed runs.group g) = runs.as-given g h ∙ ap (λ (l : List ℕ). get_or l 0 0) given in
      let some = grouped g h in
      subst (Lca s _) (sym is) (lca-found tree _ some.listed some.parts)

  -- and the carriers are parts
  carriers : Some s runs.carriers
  carriers = carriers-some runs.some-listed runs.shared tree runs.as_many group-lca

  -- a list that has the carrier of the runs' list is answered alike
  same-carrier : {xs : List ℕ} → Some s xs → Lca s runs.listed (lca s xs) → lca s xs ∷ [] ≡ lca s runs.listed ∷ []
  same-carrier some l = ap (λ c. c ∷ []) (lca-only tree _ _ runs.some-listed.listed runs.some-listed.parts l)

  -- the runs' list and its first and last in preorder have one carrier
  ends-carrier-is : Lca s (first_in_preorder s runs.listed ∷ last_in_preorder s runs.listed ∷ []) (lca s runs.listed)
  ends-carrier-is =
      let some = runs.some-listed in
      let (first, last) = ends-listed s runs.listed some.listed in
      let found = pair_found tree (some.parts _ first) (some.parts _ last) in
      subst (Lca s _) (lca-only tree runs.listed _ some.listed some.parts (ends-lca tree runs.listed _ some.listed some.parts found)) found

  agree : Agree s runs
  unfolding lifts
  agree =
      let rules = rules-agree s accepts in
      let some = runs.some-listed in
      let (labels-yes, labels) =
      pairs-granted s accepts {rule = by_labels} {a = asked runs.labels} runs.some_pairs runs.whole-pairs runs.labels-lent runs.labels.kept in
      let (tour-yes, tour) =
      pairs-granted s accepts {rule = by_tour} {a = asked runs.tour} runs.some_pairs runs.whole-pairs runs.tour-lent runs.tour.kept in
      let (lifts-yes, lifted) =
      pairs-granted s accepts {rule = by_lifts} {a = asked runs.lifts} runs.some_pairs runs.whole-pairs runs.lifts-lent runs.lifts.kept in
      let (list-yes, list) = list-granted s accepts {a = asked runs.list} some runs.list-lent runs.list.kept in
      let (other-yes, other) = list-granted s accepts {a = asked runs.other-list} others runs.other-lent runs.other-list.kept in
      let (groups-yes, groups) = list-granted s accepts {a = asked runs.of-groups} carriers runs.of-groups-lent runs.of-groups.kept in
      let (count, carrier, rows) =
      trail-granted s accepts {a = traced runs.trail-of} runs.some_pair runs.trail-lent runs.trail_length runs.trail-of.kept in
      let found = lca-found tree runs.listed some.listed some.parts in
      let is : get_or (answers runs.list) 0 0 ≡ lca s runs.listed = ap (λ (l : List ℕ). get_or l 0 0) list in
      record {
        labels-accepted = labels-yes;
        tour-accepted = tour-yes;
        lifts-accepted = lifts-yes;
        list-accepted = list-yes;
        other-accepted = other-yes;
        groups-accepted = λ g h. (list-granted s accepts (grouped g h) (runs.each_lent g h) (runs.each-group g h).kept).0;
        of-groups-accepted = groups-yes;
        labels-as-tour =
            labels
            ∙ same-answers accepts (answer_by by_labels (own s)) (answer_by by_tour (own s)) runs.question runs.some_pairs
            (λ x y hx hy. (rules x y hx hy).0 ∙ sym (rules x y hx hy).1)
            ∙ sym tour;
        tour-as-lifts =
            tour
            ∙ same-answers accepts (answer_by by_tour (own s)) (answer_by by_lifts (own s)) runs.question runs.some_pairs
            (λ x y hx hy. (rules x y hx hy).1 ∙ sym (rules x y hx hy).2)
            ∙ sym lifted;
        in-every-cell = ap length labels ∙ each-row-length (λ x y. answer_cell (answer_by by_labels (own s) x y)) answer_width runs.question;
        each-pair = λ i h. pair-answered route.Labels runs.question (pair_of accepts runs.question runs.some_pairs i h) h labels;
        of-list = subst (Lca s _) (sym is) found;
        first-and-last = subst (Lca s _) (sym is) ends-carrier-is;
        of_other =
            other ∙ same-carrier others (same-lca (λ v. ((runs.same_parts v).1, (runs.same_parts v).0)) (lca-found tree _ others.listed others.parts)) ∙ sym list;
        of-carriers =
            groups
            ∙ same-carrier carriers (shared-lca runs.shared runs.as_many group-lca (lca-found tree _ carriers.listed carriers.parts))
            ∙ sym list;
        rows = rows;
        count = count;
        ones = trail-rows s accepts _ _ left right;
        of_pair = subst (Lca s _) (sym (ap (λ (l : List ℕ). get_or l 0 0) carrier)) (lifts-lca tree _ _ left right);
      }

-- ---- the claim

-- demand 3
pub demand-3 : (s : List ℕ) → tests.Accepted s → (runs : Runs s) → Agree s runs
demand-3 = agree
