-- The worked examples come out as printed, and the bound on frames is reached: by computation on the definitions.
-- Assumes nothing.
use mathlib.Core.List.{map}
use mathlib.Core.Path.{◌≡◌, refl}
use lib.ListN.{length}
use Rattle.dock_answer.specs.Answer.{deciding, judge_answer, judge_frames, matching, rate_matches, read_answer, shape, signature_matches, statuses}
use Rattle.claims_dock.specs.Examples.{Frame, PlaceRow, RefusalRow, faults_found, frames_printed, places, refusals, two_block_image, two_block_job, worst}
use Rattle.claims_dock.specs.Order.{before_each, dock_order, has, in_order, refused_by}
use Rattle.dock.specs.Calls.{ask_of, asked, begin_of, hear_of, standing, starting, turning}
use Rattle.dock_flow.specs.Flow.{after_answer, after_heard, after_setup, after_status, after_work, block_from, exchanges, flow, frames_in, in_block, next, place_after, retried, says_not_blank, setup_from, spent_in}
use Rattle.dock_flow.specs.Frames.{first_of_block, frame_at, hand_of, handed, last_of_block, last_page, page_footer, query_with, stored_form, work_frame}
use Rattle.frame.specs.Frame.{counted, framed, is_frame}
use Rattle.frame.specs.Judgement.{judge_of, summed}
use Rattle.frame.specs.Sum.{less, less_all, sum_of}
use Rattle.frame.specs.Wire.{judge_reply, unfit_reply}
use Rattle.dock_job.specs.Job.{area_in, blocks_in, bound, is_over, setup}
use Rattle.dock_job.specs.Refusals.{bad_job, bad_state, call_verdict, due, good_block, good_dock, good_ending, good_failure, good_named_block, good_named_page, good_page, good_stage, good_work, is_bad, out_of_turn, short_room, spent}
use Rattle.std.specs.Prelude.{Ok}
use Rattle.dock_job.specs.declared.Stage.TheVariants.{Over}
use Rattle.lent.specs.Lent.{same}
use Rattle.numbers.specs.Numbers.{low_first}
use Rattle.part.specs.Part.{block_of, block_size, described, ends_block, last_of, lies_in, range_of, starts_block, stretch, whole_blocks}
use Rattle.part.specs.Rate.{accepts_rate, mode_of}
use Rattle.part.specs.Refusal.{first_of}
use Rattle.part.specs.Signature.{signature}
use Rattle.words.specs.Words.{◌and◌, ◌from◌to◌, ◌or◌, if◌then◌otherwise◌}
use Rattle.commands.specs.Commands.{com_of, information_of, payload_of}

pub frames-printed : map (λ (x : Frame). x.gives) frames_printed ≡ map (λ (x : Frame). x.printed) frames_printed
unfolding frames_printed com_of information_of payload_of first_of_block frame_at last_of_block last_page page_footer query_with stored_form work_frame area_in framed less
    less_all sum_of low_first block_of block_size ends_block lies_in range_of starts_block stretch whole_blocks ◌and◌ ◌from◌to◌ ◌or◌ if◌then◌otherwise◌
frames-printed = refl

pub places-expected : map (λ (x : PlaceRow). x.stands) places ≡ map (λ (x : PlaceRow). x.expected) places
unfolding places com_of information_of payload_of deciding judge_answer judge_frames matching rate_matches read_answer shape signature_matches statuses after_answer
    after_heard after_setup after_status after_work block_from exchanges flow frames_in in_block next place_after retried says_not_blank setup_from spent_in first_of_block
    frame_at last_of_block last_page page_footer query_with stored_form work_frame area_in blocks_in is_over setup counted framed is_frame judge_of summed less less_all
    sum_of judge_reply unfit_reply same low_first block_of block_size ends_block last_of lies_in range_of starts_block stretch whole_blocks mode_of signature ◌and◌ ◌from◌to◌ ◌or◌
    if◌then◌otherwise◌
places-expected = refl

pub faults-expected : map (λ (x : PlaceRow). x.stands) faults_found ≡ map (λ (x : PlaceRow). x.expected) faults_found
unfolding faults_found com_of information_of payload_of deciding judge_answer judge_frames matching rate_matches read_answer shape signature_matches statuses after_answer
    after_heard after_setup after_status after_work block_from exchanges flow frames_in in_block next place_after retried says_not_blank setup_from spent_in first_of_block
    frame_at last_of_block last_page page_footer query_with stored_form work_frame area_in blocks_in is_over setup counted framed is_frame judge_of summed less less_all
    sum_of judge_reply unfit_reply same low_first block_of block_size ends_block last_of lies_in range_of starts_block stretch whole_blocks mode_of signature ◌and◌ ◌from◌to◌ ◌or◌
    if◌then◌otherwise◌
faults-expected = refl

-- "at most 3 + 12(B + R) frames": 39 for two blocks and one retry, and that many are sent.
pub bound-reached : (length (flow two_block_job two_block_image worst).sent ≡ 39) × ((flow two_block_job two_block_image worst).spent ≡ 1) × ((flow two_block_job two_block_image worst).place ≡ Over (Ok tt)) × (bound two_block_job ≡ 39)
unfolding worst com_of information_of payload_of deciding judge_answer judge_frames matching rate_matches read_answer shape signature_matches statuses after_answer
    after_heard after_setup after_status after_work block_from exchanges flow frames_in in_block next place_after retried says_not_blank setup_from spent_in first_of_block
    frame_at last_of_block last_page page_footer query_with stored_form work_frame area_in blocks_in bound is_over setup due spent counted framed is_frame judge_of summed
    less less_all sum_of judge_reply unfit_reply same low_first block_of block_size ends_block last_of lies_in range_of starts_block stretch whole_blocks mode_of signature ◌and◌ ◌from◌to◌
    ◌or◌ if◌then◌otherwise◌
bound-reached = (refl, refl, refl, refl)

pub refusals-expected : map (λ (x : RefusalRow). x.gives) refusals ≡ map (λ (x : RefusalRow). x.expected) refusals
unfolding refusals area_in blocks_in bound is_over setup bad_job bad_state call_verdict due good_block good_dock good_ending good_failure good_named_block good_named_page
    good_page good_stage good_work is_bad out_of_turn short_room spent block_of block_size described ends_block lies_in range_of starts_block stretch whole_blocks
    accepts_rate first_of ◌and◌ ◌from◌to◌ ◌or◌ if◌then◌otherwise◌
refusals-expected = refl

-- "Order .. for the dock: 1, 5, 6, 7, 9, 4, 8", for each call and each two of its numbers.
pub order-expected : map (λ (x : RefusalRow). x.gives) dock_order ≡ map (λ (x : RefusalRow). x.expected) dock_order
unfolding dock_order in_order before_each has refused_by ask_of asked begin_of hear_of standing starting turning deciding judge_answer judge_frames matching read_answer shape
    statuses after_answer after_heard after_status after_work next query_with hand_of handed area_in blocks_in bound is_over setup bad_job bad_state call_verdict due
    good_block good_dock good_stage good_work is_bad out_of_turn short_room spent counted framed is_frame judge_of summed less less_all sum_of judge_reply unfit_reply block_of block_size
    described ends_block lies_in range_of starts_block stretch whole_blocks accepts_rate first_of ◌and◌ ◌from◌to◌ ◌or◌ if◌then◌otherwise◌
order-expected = refl
