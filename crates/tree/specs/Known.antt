-- Document 01's "Known sheets": the cases marked P, gathered in one list; with them the row of the operator's table that no call gives, since no
-- code holds it, and last cases of document 02's requests on the same seven parts, worked out by hand. A case is a list of numbers that the
-- definitions give, and the list that is stated; `proofs/Known.antt` has the one proof that they agree.
-- Assumes nothing.
use Rattle.std.specs.Prelude.{ℕ, suc, List, [], ◌∷◌, ◌++◌, length, Ok, Err}
use Rattle.tree.specs.declared.Refusal.TheVariants.{NoRoot, SecondRoot, Cycle}
use Rattle.tree.specs.Scan.{tabulate}
use Rattle.tree.specs.Verdict.{Verdict, accepted, refused, Outcome, verdict_of}
use Rattle.tree.specs.Tests.{verdict, sheet_tests, node_out_of_range, no_common_ancestor}
use Rattle.tree.specs.Preorder.{preorder_number, size, subtree, tour}
use Rattle.tree.specs.Buffers.{no_cell, label_cells, tour_cells, lift_cells, order_cells}
use Rattle.tree.specs.Labels.{inlabel, ascendant, head_node, label_table}
use Rattle.tree.specs.Tables.{own}
use Rattle.tree.specs.Routes.{by_labels, by_tour}
use Rattle.tree.specs.Trail.{trail, row_cells, by_lifts, lifts, lift_count}
use Rattle.tree.specs.Branch.{pair_answer, answer_list, answer_by}

-- what the definitions give, and what is stated
pub record Case : Type 0 where
  pub given : List ℕ
  pub stated : List ℕ

-- parts 0 to 6 of the document's example
abbrev pub seven : List ℕ
seven = 0 ∷ 0 ∷ 0 ∷ 1 ∷ 1 ∷ 2 ∷ 5 ∷ []

-- a column of it
abbrev seven_parts : (ℕ → ℕ) → List ℕ
seven_parts column = tabulate column 7

-- a verdict as its number and place, 0 and 0 where the call is accepted
abbrev shown : Verdict → List ℕ
shown accepted = 0 ∷ 0 ∷ []
shown (refused number place) = number ∷ place ∷ []

-- a sheet whose tests give a number at a place, as does the case of the enum
abbrev checked : List ℕ → Outcome → ℕ → ℕ → Case
checked s outcome number place = record {
  given = shown (verdict (sheet_tests s 0)) ++ shown (verdict_of outcome);
  stated = number ∷ place ∷ number ∷ place ∷ [];
}

-- a pair of the seven parts whose carrier is c, with the branches a towards x and b towards y: by their definitions, and by each route's rule
abbrev pair_gives : ℕ → ℕ → ℕ → ℕ → ℕ → Case
pair_gives x y c a b = record {
  given =
      answer_list (pair_answer seven x y)
      ++ (answer_list (answer_by by_labels (own seven) x y)
      ++ (answer_list (answer_by by_tour (own seven) x y) ++ answer_list (answer_by by_lifts (own seven) x y)));
  stated = c ∷ a ∷ b ∷ c ∷ a ∷ b ∷ c ∷ a ∷ b ∷ c ∷ a ∷ b ∷ [];
}

-- its lifts, by the trail's length and by the sum of ones
abbrev pair_lifts : ℕ → ℕ → ℕ → Case
pair_lifts x y count = record {
  given = lifts (own seven) x y ∷ lift_count seven x y ∷ [];
  stated = count ∷ count ∷ [];
}

-- its trail's rows
abbrev pair_rows : ℕ → ℕ → List ℕ → Case
pair_rows x y cells = record { given = row_cells (trail (own seven) x y); stated = cells }

unfoldable pub cases : List Case
cases =
    -- "parts 0 to 6 above: PREORDER 1 2 5 3 4 6 7; SIZE 7 3 3 1 1 2 1; INLABEL 4 4 6 3 4 6 7; ASCENDANT 4 4 6 5 4 6 7"
    record { given = seven_parts (preorder_number seven); stated = 1 ∷ 2 ∷ 5 ∷ 3 ∷ 4 ∷ 6 ∷ 7 ∷ [] }
    ∷ record { given = seven_parts (size seven); stated = 7 ∷ 3 ∷ 3 ∷ 1 ∷ 1 ∷ 2 ∷ 1 ∷ [] }
    ∷ record { given = seven_parts (inlabel seven); stated = 4 ∷ 4 ∷ 6 ∷ 3 ∷ 4 ∷ 6 ∷ 7 ∷ [] }
    ∷ record { given = seven_parts (ascendant seven); stated = 4 ∷ 4 ∷ 6 ∷ 5 ∷ 4 ∷ 6 ∷ 7 ∷ [] }
    -- "its HEAD: none none 3 0 none 2 6"
    ∷ record { given = seven_parts (λ i. head_node seven (suc i)); stated = no_cell ∷ no_cell ∷ 3 ∷ 0 ∷ no_cell ∷ 2 ∷ 6 ∷ [] }
    -- "its E: 0 1 3 1 4 1 0 2 5 6 5 2 0"
    ∷ record { given = tour seven; stated = 0 ∷ 1 ∷ 3 ∷ 1 ∷ 4 ∷ 1 ∷ 0 ∷ 2 ∷ 5 ∷ 6 ∷ 5 ∷ 2 ∷ 0 ∷ [] }
    -- "its tables have 42, 72 and 21 cells"
    ∷ record { given = length (own seven).label ∷ length (own seven).tour ∷ length (own seven).lift ∷ []; stated = 42 ∷ 72 ∷ 21 ∷ [] }
    ∷ record { given = label_cells 7 ∷ tour_cells 7 ∷ lift_cells 7 ∷ []; stated = 42 ∷ 72 ∷ 21 ∷ [] }
    -- "pair 6 6 gives 6, 0 lifts"
    ∷ pair_gives 6 6 6 6 6
    ∷ pair_lifts 6 6 0
    -- "pair 0 6 gives 0, 2 lifts, rows (0,2), (0,0)"
    ∷ pair_gives 0 6 0 0 2
    ∷ pair_lifts 0 6 2
    ∷ pair_rows 0 6 (0 ∷ 2 ∷ 0 ∷ 0 ∷ [])
    -- "pair 3 6 has rows (3,5), (1,2), (0,0)"; the example above it has carrier 0 and 3 lifts
    ∷ pair_gives 3 6 0 1 2
    ∷ pair_lifts 3 6 3
    ∷ pair_rows 3 6 (3 ∷ 5 ∷ 1 ∷ 2 ∷ 0 ∷ 0 ∷ [])
    -- "pair 5 6 gives 5"
    ∷ pair_gives 5 6 5 5 6
    -- "sheet 0 is accepted, label cells 1 1 0 1 1 0. Sheet 1 1 is accepted"
    ∷ checked (0 ∷ []) (Ok tt) 0 0
    ∷ record { given = label_table (0 ∷ []); stated = 1 ∷ 1 ∷ 0 ∷ 1 ∷ 1 ∷ 0 ∷ [] }
    ∷ checked (1 ∷ 1 ∷ []) (Ok tt) 0 0
    -- "1 0 is refused 5", "0 1 is refused 6 at 1", "0 2 1 is refused 7 at 1"
    ∷ checked (1 ∷ 0 ∷ []) (Err NoRoot) 5 0
    ∷ checked (0 ∷ 1 ∷ []) (Err (SecondRoot 1)) 6 1
    ∷ checked (0 ∷ 2 ∷ 1 ∷ []) (Err (Cycle 1)) 7 1
    -- row 11, "listed parts have no common carrier", at 0: of two parts that both name themselves
    ∷ record { given = shown (verdict (no_common_ancestor (0 ∷ 1 ∷ []) (0 ∷ 1 ∷ []) ∷ [])); stated = 11 ∷ 0 ∷ [] }
    -- 2026-01: the parts in preorder, 7 cells; what part 1, part 2, a part that carries no other, and the root carry
    ∷ record { given = (own seven).order; stated = 0 ∷ 1 ∷ 3 ∷ 4 ∷ 2 ∷ 5 ∷ 6 ∷ [] }
    ∷ record { given = order_cells 7 ∷ []; stated = 7 ∷ [] }
    ∷ record { given = subtree seven 1; stated = 1 ∷ 3 ∷ 4 ∷ [] }
    ∷ record { given = subtree seven 2; stated = 2 ∷ 5 ∷ 6 ∷ [] }
    ∷ record { given = subtree seven 6; stated = 6 ∷ [] }
    ∷ record { given = subtree seven 0; stated = 0 ∷ 1 ∷ 3 ∷ 4 ∷ 2 ∷ 5 ∷ 6 ∷ [] }
    -- 10 at position 0, of a part that is none of the seven; a part of them
    ∷ record { given = shown (verdict (node_out_of_range seven 0 (7 ∷ []) ∷ [])); stated = 10 ∷ 0 ∷ [] }
    ∷ record { given = shown (verdict (node_out_of_range seven 0 (6 ∷ []) ∷ [])); stated = 0 ∷ 0 ∷ [] }
    -- 2026-03: the example's other pair; two parts with the longer way first; a part with one that it carries, two steps below
    ∷ pair_gives 3 4 1 3 4
    ∷ pair_gives 6 3 0 2 1
    ∷ pair_gives 6 2 2 5 2
    ∷ []
