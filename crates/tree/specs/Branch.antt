-- By which branch (document 02, 2026-03): the part directly below a carrier on the way to a part. By its property, and found by a plain climber. With it a
-- pair's answer, its carrier and both branches, and the rule by which each route finds the branches from its own answer: it is handed the carrier that the
-- route found, and reads the sheet's entries and the label table.
-- Assumes nothing.
use Rattle.std.specs.Prelude.{ℕ, ◌-◌, ◌≡◌, ◌≢◌, cond, List, [], ◌∷◌, eqb, length, get_or}
use Rattle.tree.specs.Scan.{least}
use Rattle.tree.specs.Tree.{parent, climb, Ancestor}
use Rattle.tree.specs.Lca.{Lca, lca}
use Rattle.tree.specs.Buffers.{no_cell}
use Rattle.tree.specs.Tables.{Lent}
use Rattle.tree.specs.Routes.{level_at}

-- "the part directly below the carrier on the way to x": b is bolted into the carrier c, and carries x. "Where x or y is the carrier itself, that branch is
-- the carrier"
pub record Branch (s : List ℕ) (c x b : ℕ) : Type 0 where
  pub below : x ≢ c → (parent s b ≡ c) × (b ≢ c) × Ancestor s b x
  pub itself : x ≡ c → b ≡ c

-- The plain climber: from x up to the first part that is bolted into c
unfoldable pub branch : List ℕ → ℕ → ℕ → ℕ
branch s c x =
    let up = climb s (least (λ k. eqb (parent s (climb s k x)) c) (length s)) x in
    cond (eqb x c) c up

-- ---- a pair's answer

-- "carrier, x's branch, y's branch"
pub record Answer : Type 0 where
  pub carrier : ℕ
  pub left : ℕ
  pub right : ℕ

-- a is the answer to the pair of x and y
pub record IsAnswer (s : List ℕ) (x y : ℕ) (a : Answer) : Type 0 where
  pub carrier : Lca s (x ∷ y ∷ []) a.carrier
  pub left : Branch s a.carrier x a.left
  pub right : Branch s a.carrier y a.right

-- by the climbers
unfoldable pub pair_answer : List ℕ → ℕ → ℕ → Answer
pair_answer s x y =
    let c = lca s (x ∷ y ∷ []) in
    record { carrier = c; left = branch s c x; right = branch s c y }

-- its cells
abbrev pub answer_list : Answer → List ℕ
answer_list a = a.carrier ∷ a.left ∷ a.right ∷ []

abbrev pub answer_cell : Answer → ℕ → ℕ
answer_cell a k = get_or (answer_list a) k no_cell

-- ---- the rule

-- the branch from c, "over the sheet's entries": from x up by so many steps that LEVEL is one more than c's
unfoldable pub branch_at : Lent → ℕ → ℕ → ℕ
branch_at t c x =
    let up = climb t.parents (level_at t x - level_at t c - 1) x in
    cond (eqb x c) c up

-- what a route answers to a pair: the carrier that its rule gives, and from it both branches
unfoldable pub answer_by : (Lent → ℕ → ℕ → ℕ) → Lent → ℕ → ℕ → Answer
answer_by rule t x y =
    let c = rule t x y in
    record { carrier = c; left = branch_at t c x; right = branch_at t c y }
