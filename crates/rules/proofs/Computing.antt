-- Opens all definitions: a proof that computes with them says `unfolding definitions`.
use mathlib.Core.List.{Option-to_list}
use Rattle.rules.specs.Rows.{first, any_of, outside, nth, set_nth, list_from, list_of, join_from, join_of, filled}
use Rattle.rules.specs.Track.{segment_at, plan_at, train_plan_at, route_at, track_by, far_box, near_box, follows, is_point, position_fits, same_pair, joins, way_by, runs_against}
use Rattle.rules.specs.Loop.{any_before, following, chain_ends, is_empty, has_loop}
use Rattle.rules.specs.Network.{known_version, has_ways, some_one_way, ways_fault, limits_fault, ends_fault, segment_fault, place_fault, branches_fault, plan_fault, lists, has_end_a, has_end_b, listed_fault, side_fault, box_fault, plan_fault_at, box_fault_at, unlisted_fault, head_rows, network_rows}
use Rattle.rules.specs.StemSide.{is_side, stem_side, stem_side_at}
use Rattle.rules.specs.Placing.{route_shape_fault, first_from, first_of, place_rows, route_place_fault, route_fault, start_fault, start_against_at, shape_fault_at, route_fault_at, routes_fault, placing_rows, parts_code, table_code, tells_place, refusal_by, parts_refusal, table_refusal, refused_then}
use Rattle.rules.specs.File.{segment_size, box_size, train_size, byte_at, marked, version_in, segment_count, box_count, train_count, segment_start, box_start, trains_from, train_start, file_length, segment_from, segment_in, plan_in, train_plan_in, route_in, decode, early_rows, file_code, file_refusal, route_refusal, route_part, route_from, head_bytes, segment_bytes, box_bytes, train_bytes, encode, used_part, write_refusal, written}
use Rattle.rules.specs.Line.{request_kind, request_box, message_state, message_kind, message_box, message_code, box_at, train_at, put_train, put_box, holder_of, set_holder, start_train, starts_on, start_holder, start_box_with, start_box, start_line, empty_table, empty_line, read, around_on, around, holding, gives_back, holding_box}
use Rattle.rules.specs.Steps.{apply, with_message, is_open, addressed, recorded, at_end, address_rows, record_rows, request_rows, enter_rows, clear_rows, another, grant_rows, box_rows, position_for, stands, given, freed, granted, with_holding, without_holding, sending, entered, sensed, cleared, released, unless, send, reply, box_answers, heard, train_hears, lose, send_again, enter, clear, formed, form_rows, step_rows, concerned_box, alone, effect, step}
use Rattle.rules.specs.Record.{answer_code, address_fault, message_fault, train_fault, switch_box_fault, trains_fault, switch_boxes_fault, record_fault, checked_step}
use Rattle.rules.specs.History.{line_after, events, accepted, moved, moved_by, place_after}
use Rattle.rules.specs.Atomic.{is_request, requests, keep, kept_by, is_granted, added, order_from, order, atomic_request, atomic_step, stopped}
use Rattle.rules.specs.Invariant.{counted, quiet_by, quiet_train, quiet}
use Rattle.rules.specs.Run.{whole_steps, step_count, answers_of, partial_answer, answers_from, run_refusal, run, answered}
use Rattle.rules.specs.Printout.{decimal_in, decimal, text_line, step_line, step_line_of, tail_of, train_line, bit, box_line, line_text, more_line, run_text, file_line, printout_up_to, printout, taken_of, text_room, print_code, print_length, printed_text, printed_answers}
use Rattle.rules.specs.Cases.{step_bytes, box_numbers, train_numbers, line_numbers, refusal_numbers, side_number, found, track, table_s, parallel_route, one_start, opposed, merging, short_route, one_segment, ring, long_track, long_train, long_line, asked, passage, contest, ten_steps, sixteen_lines, paper_cases}
use Rattle.rules.specs.FileCases.{linked, separate, extra_branch, stray_border, long_route, head_cases, network_cases, placing_cases, writer_cases, file_cases}
use Rattle.rules.specs.StepCases.{crossing, right_route, farther, refusal_cases, crossed, box_cases, taking, merging_numbers, taken_numbers, short_numbers, atomic_cases, lock_kept, ready, giving_cases, short_text, crossing_bytes, text_cases, step_cases}
use Rattle.rules.specs.RadioCases.{lost_again, unheard, untold, denied_then_free, taken_meanwhile, locked_meanwhile, radio_cases}
use Rattle.rules.specs.RunCases.{ten_answers, ten_numbers, granting, granted_numbers, run_cases, longest_file, lent_cases}
use Rattle.rules.specs.RecordCases.{record_cases, made_up_cases}
use Rattle.rules.specs.OneWayCases.{with_ways, both_ways, second_back, fifty_bytes, linked_back, way_file_cases, way_step_cases, way_record_cases, one_way_cases}
use Rattle.rules.specs.AllCases.{cases}
use Rattle.rules.specs.Examples.{stretch_at, covered_by, circle, round_trip, scene_of, seen, said, allowed, overtaken, passage_order, delayed, held, locked, given_back, lost_once, both_through, through_order, through_scene, undisturbed, losing, examples}

unfoldable pub definitions : Unit {0}
unfolding Option-to_list first any_of outside nth set_nth list_from list_of join_from join_of filled segment_at plan_at train_plan_at route_at track_by far_box near_box follows is_point position_fits same_pair joins way_by runs_against any_before following chain_ends is_empty has_loop known_version has_ways some_one_way ways_fault limits_fault ends_fault segment_fault place_fault branches_fault plan_fault lists has_end_a has_end_b listed_fault side_fault box_fault plan_fault_at box_fault_at unlisted_fault head_rows network_rows is_side stem_side stem_side_at route_shape_fault first_from first_of place_rows route_place_fault route_fault start_fault start_against_at shape_fault_at route_fault_at routes_fault placing_rows parts_code table_code tells_place refusal_by parts_refusal table_refusal refused_then segment_size box_size train_size byte_at marked version_in segment_count box_count train_count segment_start box_start trains_from train_start file_length segment_from segment_in plan_in train_plan_in route_in decode early_rows file_code file_refusal route_refusal route_part route_from head_bytes segment_bytes box_bytes train_bytes encode used_part write_refusal written request_kind request_box holding_box message_state message_kind message_box message_code box_at train_at put_train put_box holder_of set_holder start_train starts_on start_holder start_box_with start_box start_line empty_table empty_line read around_on around apply with_message is_open holding gives_back addressed recorded at_end address_rows record_rows request_rows enter_rows clear_rows another grant_rows box_rows position_for stands given freed granted with_holding without_holding sending entered sensed cleared released unless send reply box_answers heard train_hears lose send_again enter clear formed form_rows step_rows concerned_box alone effect step answer_code address_fault message_fault train_fault switch_box_fault trains_fault switch_boxes_fault record_fault checked_step line_after events accepted moved moved_by place_after is_request requests keep kept_by is_granted added order_from order atomic_request atomic_step stopped counted quiet_by quiet_train quiet whole_steps step_count answers_of partial_answer answers_from run_refusal run answered decimal_in decimal text_line step_line step_line_of tail_of train_line bit box_line line_text more_line run_text file_line printout_up_to printout taken_of text_room print_code print_length printed_text printed_answers step_bytes box_numbers train_numbers line_numbers refusal_numbers side_number found track table_s parallel_route one_start opposed merging short_route one_segment ring long_track long_train long_line asked passage contest ten_steps sixteen_lines paper_cases linked separate extra_branch stray_border long_route head_cases network_cases placing_cases writer_cases file_cases crossing right_route farther refusal_cases crossed box_cases taking merging_numbers taken_numbers short_numbers atomic_cases lock_kept ready giving_cases short_text crossing_bytes text_cases step_cases lost_again unheard untold denied_then_free taken_meanwhile locked_meanwhile radio_cases ten_answers ten_numbers granting granted_numbers run_cases longest_file lent_cases record_cases made_up_cases with_ways both_ways second_back fifty_bytes linked_back way_file_cases way_step_cases way_record_cases one_way_cases cases stretch_at covered_by circle round_trip scene_of seen said allowed overtaken passage_order delayed held locked given_back lost_once both_through through_order through_scene undisturbed losing examples
definitions = tt
