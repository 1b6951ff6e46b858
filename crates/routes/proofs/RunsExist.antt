-- Demand 3 is about something: whatever is asked of an accepted sheet, there are runs of the calls that ask it. So no premise of `Runs` can be one that
-- never holds, nor two of them that contradict each other. What is asked is taken in document 01's plain words; `Some` and `Lends` are derived.
-- Assumes nothing.
use Prim.Native.Nat.{ℕ, ◌%◌, ◌<◌}
use mathlib.Core.Path.{◌≡◌, refl, sym, ap, ◌∙◌, subst}
use mathlib.Core.List.{List, [], ◌∷◌}
use borrow.Fn.Kinds.{Out, Dens, ended_of}
use contract.Lifetimes.{Lfts}
use denote.Ref.{Bor, MutBor}
use denote.Triple.Clauses.{AtExit}
use lib.ListN.{length, get_or}
use Rattle.std.proofs.Common.{Ok}
use Rattle.tree.specs.Tests as tests
use Rattle.tree.specs.Scan.{tabulate}
use Rattle.tree.specs.Tree.{Tree}
use Rattle.tree.specs.Lca.{Parts, Lca, lca}
use Rattle.tree.specs.Buffers.{work_cells, trail_cells, answer_cells}
use Rattle.tree.specs.Sharing.{SameParts, SharedOut, members}
use Rattle.tree.specs.Labels.{label_table}
use Rattle.tree.specs.Tour.{tour_table}
use Rattle.tree.specs.Lifts.{lift_table}
use Rattle.tree.specs.Preorder.{preorder}
use Rattle.tree.specs.Tables.{own}
use Rattle.tree.specs.Routes.{by_labels, by_tour}
use Rattle.tree.specs.Branch.{answer_by}
use Rattle.tree.specs.Pairs.{each_answer}
use Rattle.tree.specs.Trail.{trail, by_lifts, lifts, trail_buffer}
use Rattle.tree.proofs.Rows.{length-tabulate, cell-tabulate}
use Rattle.tree.proofs.Lcas.{lca-found}
use Rattle.tree.proofs.Answers.{work-accepted}
use Rattle.tree.proofs.Acceptance.{accepted-tree}
use Rattle.tree.specs.declared.Lent as lent_refs
use Rattle.routes.specs.declared.Route.{Route}
use Rattle.routes.specs.declared.Route.TheVariants.{Labels, Tour, Lifts}
use Rattle.routes.specs.Rules.{rule_of}
use Rattle.routes.specs.Answers.{Admitted, pairs_unfit, PairsGive, list_unfit, ListGives, trail_unfit, TrailGives}
use Rattle.routes.specs.Lends.{Some}
use Rattle.routes.proofs.list.Kinds as list
use Rattle.routes.proofs.Giving.{pairs-answered, list-answered, trail-answered}
use Rattle.routes.proofs.Granted.{pairs-lent-fit, list-lent-fit, trail-lent-fit, granted}
use Rattle.routes.proofs.Named.{pair-some, other-some, group-some, carriers-some}
use Rattle.routes.proofs.Runs.{Run, ListRun, TrailRun}
use Rattle.routes.proofs.RunsLent.{zeros, zeros-length, clear, lent, lends}
use Rattle.routes.proofs.Demand3.{Runs}

-- ---- what a run is passed, and what it leaves

-- a reference to some cells; where they stand makes no difference to a contract
abbrev ref : List ℕ → Bor (List ℕ)
ref l = record { ref_ptr = (0, 0); now = l }

-- the same of cells that the call may write
abbrev mut_ref : List ℕ → MutBor (List ℕ)
mut_ref l = record { ref_ptr = (0, 0); ghost_name = 0; now = l }

-- lifetimes of the references; a contract says nothing of them
abbrev lifetimes : Lfts 5
lifetimes = ([], ([], ([], ([], ([], tt)))))

module _ (s : List ℕ) where
  -- references to the sheet, its tables, clear work and a question, with those after them: what a call is passed, and what it leaves
  abbrev Refs : Type 0 → Type 0
  Refs A = lent_refs.Lent × (MutBor (List ℕ) × (Bor (List ℕ) × A))

  abbrev refs : {A : Type 0} → List ℕ → A → Refs A
  refs question more =
      let tables : lent_refs.Lent = record { parents = ref s; label = ref (label_table s); tour = ref (tour_table s); lift = ref (lift_table s); order = ref (preorder s) } in
      (tables, (mut_ref (clear s), (ref question, more)))

  -- of pairs and of a list
  abbrev passed : List ℕ → ℕ → Dens lifetimes list.ps
  passed question cells = refs question (mut_ref (zeros cells), tt)

  abbrev left : List ℕ → List ℕ → AtExit (ended_of 5 list.ps list.r) lifetimes
  left question answers = refs question (mut_ref answers, tt)

  -- a run of such a call that is accepted, where what it promises holds
  abbrev run_of : {promises : Out 5 list.ps list.r} (question : List ℕ) (cells : ℕ) (answers : List ℕ)
      → promises lifetimes (passed question cells) (Ok tt) (left question answers) → Run promises
  run_of question cells answers kept = record {
    lifetimes = lifetimes;
    passed = passed question cells;
    result = Ok tt;
    left = left question answers;
    kept = kept;
  }

-- ---- a run of each call

module _ (s : List ℕ) (accepts : tests.Accepted s) where
  tree : Tree s
  tree = (accepted-tree s accepts).0

  -- a question of its parts, with buffers that fit, is accepted and leaves work clear
  admitted : (question : List ℕ) (further : ℕ) → further ≡ 0 → Some s question → Admitted {A = Unit {0}} (own s) (clear s) question further (Ok tt) (clear s)
  admitted question further fits some =
      let cells = work_cells (length s) in
      let yes = granted s accepts (clear s) question further (zeros-length cells) fits some in
      record { outcome = sym yes; work = sym (work-accepted _ (clear s) yes ∙ ap zeros (zeros-length cells)) }

  -- pairs by a route
  pairs-kept : (route : Route) (question : List ℕ) → Some s question → length question % 2 ≡ 0
      → PairsGive (rule_of route) (lent s question (answer_cells (length question))) (Ok tt) (clear s) (each_answer (answer_by (rule_of route) (own s)) question)
  pairs-kept route question some even =
      let a = lent s question (answer_cells (length question)) in
      pairs-answered route a (admitted question (pairs_unfit a) (pairs-lent-fit (lends s question (answer_cells (length question))) even) some) refl refl

  -- a list
  list-kept : (question : List ℕ) → Some s question → ListGives (lent s question 1) (Ok tt) (clear s) (lca s question ∷ [])
  list-kept question some =
      let a = lent s question 1 in
      list-answered a (admitted question (list_unfit a) (list-lent-fit (lends s question 1)) some) refl refl

  abbrev list-run : (question : List ℕ) → Some s question → ListRun
  list-run question some = run_of s question 1 (lca s question ∷ []) (list-kept question some)

  -- a trail
  trail-kept : (x y : ℕ) → Some s (x ∷ y ∷ [])
      → TrailGives (lent s (x ∷ y ∷ []) 1) (zeros trail_cells) (Ok (lifts (own s) x y))
      (clear s) (by_lifts (own s) x y ∷ []) (trail_buffer (trail (own s) x y))
  trail-kept x y some =
      let a = lent s (x ∷ y ∷ []) 1 in
      let rows = zeros trail_cells in
      let fits = trail-lent-fit rows (lends s (x ∷ y ∷ []) 1) (zeros-length trail_cells) in
      trail-answered a rows (admitted (x ∷ y ∷ []) (trail_unfit a rows) fits some) refl refl refl refl refl

  abbrev trail-run : (x y : ℕ) → Some s (x ∷ y ∷ []) → TrailRun
  trail-run x y some = record {
    lifetimes = ([], lifetimes);
    passed = refs s (x ∷ y ∷ []) (mut_ref (zeros 1), (mut_ref (zeros trail_cells), tt));
    result = Ok (lifts (own s) x y);
    left = refs s (x ∷ y ∷ []) (mut_ref (by_lifts (own s) x y ∷ []), (mut_ref (trail_buffer (trail (own s) x y)), tt));
    kept = trail-kept x y some;
  }

-- ---- the claims

-- what runs ask: a question of pairs, a list, another list of the same parts, a sharing out of the list, and a pair
pub record Asks {s : List ℕ} (runs : Runs s) (question listed other : List ℕ) (groups : ℕ) (group : ℕ → ℕ) (x y : ℕ) : Type 0 where
  pub the-question : runs.question ≡ question
  pub the-list : runs.listed ≡ listed
  pub the-other : runs.other ≡ other
  pub the-groups : runs.groups ≡ groups
  pub the-sharing : runs.group ≡ group
  pub the-left : runs.x ≡ x
  pub the-right : runs.y ≡ y

-- "every accepted sheet, lent with its own tables and buffers that fit, and every question of one or more pairs of its parts", every list, other list
-- of the same parts, sharing out and pair: there are runs that ask it
pub runs-exist : (s : List ℕ) → tests.Accepted s
    → (question : List ℕ) → 0 < length question → Parts s question → length question % 2 ≡ 0
    → (listed other : List ℕ) → 0 < length listed → Parts s listed → SameParts listed other
    → (groups : ℕ) (group : ℕ → ℕ) → SharedOut listed groups group
    → (x y : ℕ) → x < length s → y < length s
    → (runs : Runs s) × Asks runs question listed other groups group x y
runs-exist s accepts question asked parts even listed other named parts-listed same groups group shared x y hx hy =
    let some_pairs : Some s question = record { listed = asked; parts = parts } in
    let some : Some s listed = record { listed = named; parts = parts-listed } in
    let others = other-some some same in
    let each = group-some some shared in
    let carriers = tabulate (λ g. lca s (members listed group g)) groups in
    let as_many : length carriers ≡ groups = length-tabulate _ groups in
    let cell : (g : ℕ) → g < groups → get_or carriers g 0 ≡ lca s (members listed group g) = λ g h. cell-tabulate _ groups g h in
    let each-lca : (g : ℕ) → g < groups → Lca s (members listed group g) (get_or carriers g 0) =
    λ g h. subst (Lca s _) (sym (cell g h)) (lca-found (tree s accepts) _ (each g h).listed (each g h).parts) in
    let of-groups = carriers-some some shared (tree s accepts) as_many each-lca in
    let pair = pair-some hx hy in
    let pair-cells = answer_cells (length question) in (
      record {
        question = question;
        some_pairs = some_pairs;
        whole-pairs = even;
        labels = run_of s question pair-cells (each_answer (answer_by by_labels (own s)) question) (pairs-kept s accepts Labels question some_pairs even);
        tour = run_of s question pair-cells (each_answer (answer_by by_tour (own s)) question) (pairs-kept s accepts Tour question some_pairs even);
        lifts = run_of s question pair-cells (each_answer (answer_by by_lifts (own s)) question) (pairs-kept s accepts Lifts question some_pairs even);
        labels-lent = lends s question pair-cells;
        tour-lent = lends s question pair-cells;
        lifts-lent = lends s question pair-cells;
        listed = listed;
        some-listed = some;
        list = list-run s accepts listed some;
        list-lent = lends s listed 1;
        other = other;
        same_parts = same;
        other-list = list-run s accepts other others;
        other-lent = lends s other 1;
        groups = groups;
        group = group;
        shared = shared;
        each-group = λ g h. list-run s accepts (members listed group g) (each g h);
        each_lent = λ g h. lends s (members listed group g) 1;
        carriers = carriers;
        as_many = as_many;
        as-given = cell;
        of-groups = list-run s accepts carriers of-groups;
        of-groups-lent = lends s carriers 1;
        x = x;
        y = y;
        some_pair = pair;
        trail-of = trail-run s accepts x y pair;
        trail-lent = lends s (x ∷ y ∷ []) 1;
        trail_length = zeros-length trail_cells;
      },
      record { the-question = refl; the-list = refl; the-other = refl; the-groups = refl; the-sharing = refl; the-left = refl; the-right = refl },
    )
