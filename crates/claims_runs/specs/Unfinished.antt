-- A cable that is cut anywhere, the chip's half: "A gap drops what is collected and changes nothing else. Power-on drops it too" (document
-- 01, "Frames"), over any traffic.
use Rattle.std.specs.Prelude.{List, [], ◌++◌, ◌∷◌, map, ◌≡◌, ◌-◌, ℕ, drop, length, replicate, take}
use Rattle.chip.specs.Run.{run}
use Rattle.chip.specs.Step.{Outcome, step_of}
use Rattle.chip.specs.declared.Event.{Event}
use Rattle.chip.specs.declared.Event.TheVariants.{Byte, Gap, PowerOn}
use Rattle.claims_fed.specs.Fed.{silence}
use Rattle.claims_good.specs.Good.{AllProper, Stands, utterances}
use Rattle.claims_noise.specs.Claims.{AsIf}
use Rattle.frame.specs.Collector.{heard}
use Rattle.part.specs.declared.Part.{Part}

-- How many events there are before the frame that is not finished: its bytes are those collected, and they came last.
abbrev pub finished_to : Part → Outcome → List Event → ℕ
finished_to p o vs = length vs - (run p vs o).chip.collector.len

unfoldable pub finished : Part → Outcome → List Event → List Event
finished p o vs = take (finished_to p o vs) vs

unfoldable pub unfinished : Part → Outcome → List Event → List Event
unfinished p o vs = drop (finished_to p o vs) vs

-- The frame that is not finished is what is collected; it has changed nothing else, and nothing is said to it. After a gap, which changes nothing else
-- either, all is as if it had not come, and so it is after power-on.
pub record CutShort (p : Part) (o : Outcome) (vs : List Event) : Type 0 where
  pub collected : unfinished p o vs ≡ map Byte (heard (run p vs o).chip.collector)
  pub count : (run p (finished p o vs) o).chip.collector.len ≡ 0
  pub core : (run p (finished p o vs) o).chip.core ≡ (run p vs o).chip.core
  pub memory : (run p (finished p o vs) o).memory ≡ (run p vs o).memory
  pub silent : utterances p (unfinished p o vs) (run p (finished p o vs) o) ≡ replicate (length (unfinished p o vs)) silence
  pub after_gap : AsIf step_of p (run p (finished p o vs) o) (run p (vs ++ Gap ∷ []) o)
  pub after_power_on : AsIf step_of p (run p (finished p o vs ++ PowerOn ∷ []) o) (run p (vs ++ PowerOn ∷ []) o)

abbrev pub CutAnywhere : Type 0
CutAnywhere = (p : Part) (o : Outcome) (vs : List Event) → Stands p o → o.chip.collector.len ≡ 0 → AllProper vs → CutShort p o vs
