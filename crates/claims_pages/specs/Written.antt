-- What a page of 40h does to a chip, whatever stood where it goes: document 02, §6. What is said, the record, every byte of flash and every kept sum; and that
-- "Pages answered 1Ch also stand in demand 3".
use Rattle.std.specs.Prelude.{List, [], ◌++◌, ◌∷◌, ◌≢◌, ◌≡◌, ◌<◌, ℕ, get_or, length, Ok, Some}
use Rattle.chip.specs.Run.{onward, spoken_in}
use Rattle.chip.specs.Step.{Outcome, step_of}
use Rattle.chip_reply.specs.Reply.{sent_as}
use Rattle.chip.specs.declared.Event.{Event}
use Rattle.chip_core.specs.Effect.{Memory, entered}
use Rattle.chip_core.specs.declared.Awaited.{Awaited}
use Rattle.chip_core.specs.declared.Core.{Core}
use Rattle.chip_core.specs.declared.Phase.TheVariants.{Ready}
use Rattle.chip_flash.specs.Flash.{programmed}
use Rattle.chip_pages.specs.Pages.{is_last_page, next_page, page_in}
use Rattle.chip_sums.specs.Sums.{block_sum, kept, slot, slots}
use Rattle.claims_cut.specs.Cut.{Becomes}
use Rattle.claims_fed.specs.Fed.{says_frame}
use Rattle.claims_good.specs.Good.{Stands, Utterance, uttered}
use Rattle.claims_noise.specs.Claims.{AsIf, Noise, run_by}
use Rattle.claims_noise.specs.Noise.{no_frame, then_gap, then_power_on}
use Rattle.claims_pages.specs.Sent.{PageSent, old_page}
use Rattle.frame.specs.Frame.{data_frame}
use Rattle.frame.specs.Framing.{Sound}
use Rattle.frame.specs.declared.Footer.TheVariants.{Last}
use Rattle.frame.specs.declared.judgement.Judgement.TheVariants.{Good}
use Rattle.part.specs.Part.{blocks, place_of, place_at}
use Rattle.part.specs.declared.Area.{Area}
use Rattle.part.specs.declared.Part.{Part}
use Rattle.words.specs.Words.{if◌then◌otherwise◌}

-- Flash and sums, whatever the status: the page is old AND new, every other byte is as it was; its block's sum is worked out afresh, every other slot is as it was.
pub record WrittenThere (p : Part) (w : Awaited) (ds : List ℕ) (m n : Memory) : Type 0 where
  pub area : Area
  pub offset : ℕ
  pub block : ℕ
  pub page : ℕ
  pub place : place_of p w.next ≡ Some (place_at area offset block page)
  pub becomes : Becomes area offset (programmed (page_in (place_of p w.next) m.flash) ds) m.flash n.flash
  pub has : block < blocks p area
  pub renewed : kept n.sums area block ≡ block_sum p area block n.flash
  pub others : (i : ℕ) → i ≢ slot area block → get_or n.sums i 0 ≡ get_or m.sums i 0
  pub long : length n.sums ≡ length m.sums

abbrev pub PageWrites : Type 0
PageWrites =
    (p : Part) (o : Outcome) (v : Event) (w : Awaited) (ds : List ℕ) → Stands p o → PageSent o v w ds → length o.memory.sums ≡ slots
    → WrittenThere p w ds o.memory (onward p o v).memory

-- "06h if every byte then equals what was sent", and the next page is awaited; "After the last stored page a further status reply 06h follows."
unfoldable pub says_stored : Awaited → Utterance
says_stored w =
    if is_last_page w
    then record { answer = Ok (sent_as 11 2); fault = Good; bytes = data_frame (0x06 ∷ 0x06 ∷ []) Last ++ data_frame (0x06 ∷ []) Last }
    otherwise says_frame (0x06 ∷ 0x06 ∷ [])

pub record PageTold (u : Outcome) (says : Utterance) (core : Core) : Type 0 where
  pub said : uttered (spoken_in u) ≡ says
  pub record_is : u.chip.core ≡ core
  pub count : u.chip.collector.len ≡ 0

abbrev pub PageLands : Type 0
PageLands =
    (p : Part) (o : Outcome) (v : Event) (w : Awaited) (ds : List ℕ) → Stands p o → PageSent o v w ds → programmed (old_page p w o) ds ≡ ds
    → PageTold (onward p o v) (says_stored w) (next_page w o.chip.core)

-- "else 1Ch, the mixed bytes stay, and the command ends": one frame, and no further one, of the last page neither.
abbrev pub PageMixed : Type 0
PageMixed =
    (p : Part) (o : Outcome) (v : Event) (w : Awaited) (ds : List ℕ) → Stands p o → PageSent o v w ds → programmed (old_page p w o) ds ≢ ds
    → PageTold (onward p o v) (says_frame (0x06 ∷ 0x1C ∷ [])) (entered o.chip.core Ready)

-- "Pages answered 1Ch also stand in demand 3": noise after one, then a gap, leaves the chip as the page left it, and flash there holds the mixed bytes; and so does
-- noise, then power-on, but that power-on is heard.
pub record MixedStays (p : Part) (o u : Outcome) (w : Awaited) (ds : List ℕ) (vs : List Sound) : Type 0 where
  pub after_gap : AsIf step_of p u (run_by step_of p (then_gap vs) u)
  pub gap_holds : old_page p w (run_by step_of p (then_gap vs) u) ≡ programmed (old_page p w o) ds
  pub power_on_holds : old_page p w (run_by step_of p (then_power_on vs) u) ≡ programmed (old_page p w o) ds

abbrev pub NoiseAfterMixed : Type 0
NoiseAfterMixed =
    (p : Part) (o : Outcome) (v : Event) (w : Awaited) (ds : List ℕ) (vs : List Sound) → Stands p o → PageSent o v w ds → programmed (old_page p w o) ds ≢ ds
    → Noise no_frame p (onward p o v) vs → MixedStays p o (onward p o v) w ds vs
