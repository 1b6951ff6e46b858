-- Document 01's example, with the branches of 2026-03, of the definition.
-- Assumes nothing.
use mathlib.Core.Path.{◌≡◌, refl}
use lib.Count.{ones, ones_in}
use mathlib.Core.Option.{Option-elim, bind}
use Rattle.text.specs.Bytes.{bytes, decimal_in, decimal, word_number}
use Rattle.text.specs.Fields.{after, number_from, number, number_then, whole, either}
use Rattle.text.specs.Lines.{lines}
use Rattle.lines.specs.Forms.{list_text}
use Rattle.lines.specs.Read.{machine_form, two_numbers, part_form, pair_form, listed, many_form, read, next, machine_count, entry, query, next_as}
use Rattle.lines.specs.Machine.{by_count, opening}
use Rattle.console.specs.Print.{refusal, machine_line, answer_text, pair_line, many_line, given}
use Rattle.console.specs.Run.{answer, leftover, questions, parts, sheet_run, machine_run, run, output}
use Rattle.tree.specs.Tree.{parent, climb, is_root, next_root, root_of, is_ancestor, level}
use Rattle.tree.specs.Scan.{least_from, least, every}
use Rattle.tree.specs.Lca.{is_common, lca}
use Rattle.tree.specs.Branch.{branch, pair_answer}
use Rattle.tree.specs.Trail.{ones_sum, lift_count}
use Rattle.tree.specs.Tests.{verdict, empty, too_large, wrong_length, parent_out_of_range, no_root, second_root, cycle, nothing_listed, node_out_of_range, no_common_ancestor}

-- "Input" and "Output" of document 01; "The program prints `(by A B)` after the carrier"
pub example : output
    (bytes "(machine 7)\n(part 0 (in 0))\n(part 1 (in 0))\n(part 2 (in 0))\n(part 3 (in 1))\n(part 4 (in 1))\n(part 5 (in 2))\n(part 6 (in 5))\n(pair 3 4)\n(pair 3 6)\n(many 6 5 2)\n")
    ≡ bytes "(machine 7)\n(pair 3 4 (carrier 1) (by 3 4) (lifts 1))\n(pair 3 6 (carrier 0) (by 1 2) (lifts 3))\n(many 6 5 2 (carrier 2))\n"
unfolding ones ones_in Option-elim bind bytes decimal_in decimal word_number after number_from number number_then whole either lines
    list_text machine_form two_numbers part_form pair_form listed many_form read next machine_count entry query next_as by_count opening
    refusal machine_line answer_text pair_line many_line given answer leftover questions parts sheet_run machine_run run output
    parent climb is_root next_root root_of is_ancestor level least_from least every is_common lca branch pair_answer ones_sum lift_count
    verdict empty too_large wrong_length parent_out_of_range no_root second_root cycle nothing_listed node_out_of_range no_common_ancestor
example = refl
