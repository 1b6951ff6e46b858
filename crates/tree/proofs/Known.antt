-- Document 01's cases marked P, its row 11, and the cases of document 02's requests hold of the definitions: one list, one proof, by computation.
-- Assumes nothing.
use mathlib.Core.Path.{◌≡◌, refl}
use mathlib.Core.List.{map, flatten}
use lib.Count.{count_trailing_zeros, ones, ones_in}
use Rattle.bits.specs.Bits.{log2, log2_in, rightmost_zeros, lowest_one, clear_below, bits_below}
use Rattle.tree.specs.Scan.{least, least_from, count_below, tabulate, tabulate_from, rows, numbers_from, keep, every, best, best_from, position}
use Rattle.tree.specs.Tree.{parent, climb, is_ancestor, is_root, next_root, root_of, level}
use Rattle.tree.specs.Lca.{lca, is_common}
use Rattle.tree.specs.Tests.{verdict, empty, too_large, wrong_length, parent_out_of_range, no_root, second_root, cycle, node_out_of_range, no_common_ancestor}
use Rattle.tree.specs.Preorder.{preorder_number, size, subtree, tour, is_child, each_child, preorder_in, preorder, tour_in, first_visit}
use Rattle.tree.specs.Labels.{most_zeros, inlabel, ascendant_in, ascendant, head_node, label_table}
use Rattle.tree.specs.Tour.{tour_table, sparse, sparse_rows}
use Rattle.tree.specs.Lifts.{lift_table, lift}
use Rattle.tree.specs.Routes.{step1, step2, step3, label_above, by_labels, by_tour}
use Rattle.tree.specs.Trail.{last_row, falling, levelled, raised, trail, by_lifts, lifts, row_cells, ones_sum, lift_count}
use Rattle.tree.specs.Branch.{branch, pair_answer, branch_at, answer_by}
use Rattle.tree.specs.Known.{Case, cases}

pub known : map (λ (c : Case). c.given) cases ≡ map (λ (c : Case). c.stated) cases
unfolding count_trailing_zeros ones ones_in flatten
    log2 log2_in rightmost_zeros lowest_one clear_below bits_below
    least least_from count_below tabulate tabulate_from rows numbers_from keep every best best_from position
    parent climb is_ancestor is_root next_root root_of level lca is_common
    verdict empty too_large wrong_length parent_out_of_range no_root second_root cycle node_out_of_range no_common_ancestor
    preorder_number size subtree tour is_child each_child preorder_in preorder tour_in first_visit
    most_zeros inlabel ascendant_in ascendant head_node label_table tour_table sparse sparse_rows lift_table lift
    step1 step2 step3 label_above by_labels by_tour
    last_row falling levelled raised trail by_lifts lifts row_cells ones_sum lift_count
    branch pair_answer branch_at answer_by cases
known = refl
