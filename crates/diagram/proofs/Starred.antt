-- The starred cases, and those of the three papers, hold: each is computed.
use Rattle.std.specs.Prelude.{◌≡◌, refl, ◌++◌, map, length}
use Rattle.diagram.specs.Words.{word_at}
use Rattle.diagram.specs.Table.{sequence, variable_count, record_count, root_count, variable_of, record_of, kits_of, root_of, roots_or, table_of, record_at, is_choice, choice_count, scale_of, total_reward, scale}
use Rattle.diagram.specs.Score.{walk, truth, settlings, weight, sum, total, score_from, rewarded, score, assignments, every, implies}
use Rattle.diagram.specs.Plans.{completions, open_taken, open_count, cost_of, cost, is_open, leaves, upper_bound, derivative, derivatives, passes, none_of, passing, forced, forced_plan, count_of, forced_count}
use Rattle.diagram.specs.Ranking.{takes_first, ranks_before, better, first_ranked, is_candidate, select, best_plan}
use Rattle.diagram.specs.Visits.{beaten, goes_back, lowest_open, visit, visited, visit_count}
use Rattle.diagram.specs.Checks.{place_zero, first_place, job_fault, length_fault, is_heading, heading_fault, count_fault, is_variable_word, variable_fault, choice_fault, scale_fault, position_of, is_child, is_record_word, record_fault, is_root_word, root_fault, reward_fault, is_monotone_at, monotone_fault, plan_length_fault, plan_mark_fault, full_plan_fault, percent_fault, budget_fault, buffer_fault, job_checks, table_checks, score_checks, sweep_checks, filter_checks, search_checks}
use Rattle.diagram.specs.Services.{checked, written, reading, read_outcome, score_outcome, sweep_outcome, sweep_buffer, filtering, filter_outcome, filter_buffer, searching, search_outcome, search_buffer}
use Rattle.diagram.specs.Printout.{digits, decimal, refused_word, choices_word, scale_word, kits_word, score_word, visits_word, take_word, left_word, line, mark_lines, refusal_text, plan_text, search_text, job_outcome, job_kits, program_outcome, printout}
use Rattle.diagram.specs.Starred.{table_a, certain_a, table_b, river0, river1, two_ways, root_word, rooted_a, two_roots, repeated, sixteen, widest, rises, falls, own_child, narrower, filtered, numbers, answer_to, all_open, starred, line_one_of, line_one, paper1, both_lines, too_many_kits, paper2, refused_one, paper3, AllHold, every_percentage}

-- The starred cases are twelve
pub twelve : length starred ≡ 12
unfolding starred
twelve = refl

-- The cases of document 01, and of papers 1, 2 and 3 of document 02, hold: each is computed
pub starred_hold : AllHold (starred ++ paper1 ++ paper2 ++ paper3)
unfolding AllHold starred paper1 paper2 paper3 line_one_of line_one both_lines too_many_kits refused_one answer_to table_a certain_a river0 river1 two_ways table_b root_word rooted_a two_roots repeated sixteen widest narrower rises falls own_child all_open numbers word_at sequence variable_count record_count root_count variable_of record_of kits_of root_of roots_or table_of record_at is_choice choice_count scale_of total_reward scale walk truth settlings weight sum total score_from rewarded score assignments every implies completions open_taken open_count cost_of cost is_open leaves upper_bound derivative derivatives passes none_of passing forced forced_plan count_of forced_count takes_first ranks_before better first_ranked is_candidate select best_plan beaten goes_back lowest_open visit visited visit_count place_zero first_place job_fault length_fault is_heading heading_fault count_fault is_variable_word variable_fault choice_fault scale_fault position_of is_child is_record_word record_fault is_root_word root_fault reward_fault is_monotone_at monotone_fault plan_length_fault plan_mark_fault full_plan_fault percent_fault budget_fault buffer_fault job_checks table_checks score_checks sweep_checks filter_checks search_checks checked written reading read_outcome score_outcome sweep_outcome sweep_buffer filtering filter_outcome filter_buffer searching search_outcome search_buffer digits decimal refused_word choices_word scale_word kits_word score_word visits_word take_word left_word line mark_lines refusal_text plan_text search_text job_outcome job_kits program_outcome printout
starred_hold =
    (refl, (refl, (refl, (refl, (refl, (refl, (refl, (refl, (refl, (refl, (refl, (refl, (refl, (refl, (refl, (refl, (refl, (refl, (refl, (refl, (refl, (refl, (refl, (refl, (refl, (refl, (refl, (refl, (refl, (refl, (refl, (refl, (refl, (refl, (refl, (refl, (refl, (refl, (refl, (refl, (refl, (refl, (refl, (refl, (refl, (refl, tt))))))))))))))))))))))))))))))))))))))))))))))

pub percentages_hold : map answer_to (sequence (filtered table_a all_open) 0 101) ≡ every_percentage
unfolding every_percentage answer_to table_a all_open numbers word_at sequence variable_count record_count root_count variable_of record_of kits_of root_of roots_or table_of record_at is_choice choice_count scale_of total_reward scale walk truth settlings weight sum total score_from rewarded score assignments every implies completions is_open leaves passes none_of passing forced forced_plan count_of forced_count place_zero first_place length_fault is_heading heading_fault count_fault is_variable_word variable_fault choice_fault scale_fault position_of is_child is_record_word record_fault is_root_word root_fault reward_fault is_monotone_at monotone_fault plan_length_fault plan_mark_fault percent_fault buffer_fault table_checks filter_checks checked reading filtering filter_outcome
percentages_hold = refl
