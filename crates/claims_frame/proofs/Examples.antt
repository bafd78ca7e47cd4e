-- Every example of the two tables comes out as its document has it: by computation on the definitions.
-- Assumes nothing.
use mathlib.Core.List.{map}
use mathlib.Core.Path.{◌≡◌, refl}
use Rattle.claims_frame.specs.Examples.{FaultExample, FrameExample, fault_table, frame_table}
use Rattle.frame.specs.Frame.{counted, is_frame}
use Rattle.frame.specs.Judgement.{fault_of, fitting, judge_of, summed}
use Rattle.frame.specs.Sum.{less, less_all, sum_of}
use Rattle.frame.specs.Wire.{judge_reply, unfit_reply}
use Rattle.words.specs.Words.{◌and◌, ◌or◌, if◌then◌otherwise◌}

pub examples : map (λ (x : FrameExample). x.gives) frame_table ≡ map (λ (x : FrameExample). x.printed) frame_table
unfolding frame_table sum_of less_all less judge_of fitting is_frame summed counted ◌and◌ if◌then◌otherwise◌
examples = refl

pub faults : map (λ (x : FaultExample). fault_of x.judged) fault_table ≡ map (λ (x : FaultExample). x.told) fault_table
unfolding fault_table judge_reply unfit_reply sum_of less_all less judge_of fitting is_frame summed counted ◌and◌ ◌or◌ if◌then◌otherwise◌
faults = refl
