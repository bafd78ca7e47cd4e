-- What the pages of 13h are told: document 02, §2, "a verify error shows only at the end: every earlier good page gets 06h in its second status, and the last one
-- gets 0Fh if any page differed." Said of all of a command's pages, as bytes on the line.
use Rattle.std.specs.Prelude.{Bool, false, not, true, List, [], ◌++◌, ◌∷◌, map, ◌≡◌, ◌*◌, ◌+◌, ◌-◌, ℕ, drop, get_or, length, replicate, take, None, Option, Some}
use Rattle.chip.specs.Run.{run}
use Rattle.chip.specs.Step.{Outcome}
use Rattle.chip.specs.declared.Event.TheVariants.{Byte}
use Rattle.chip_core.specs.Effect.{Flash, acknowledge, bytes_in, entered, verify_error}
use Rattle.chip_core.specs.declared.Awaited.{Awaited}
use Rattle.chip_core.specs.declared.Phase.TheVariants.{Awaiting, Ready}
use Rattle.chip_pages.specs.Pages.{ready}
use Rattle.chip_sums.specs.Sums.{range_bytes}
use Rattle.claims_fed.specs.Awaits.{awaits_in, good_for, judged_in}
use Rattle.claims_fed.specs.Fed.{blames_twice, says_frame, silence}
use Rattle.claims_good.specs.Good.{Stands, Utterance, utterances}
use Rattle.claims_noise.specs.Claims.{Noise}
use Rattle.claims_noise.specs.Noise.{data_completed, no_frame, then_gap}
use Rattle.commands.specs.Commands.{payload_of}
use Rattle.commands.specs.declared.Command.TheVariants.{Verify}
use Rattle.frame.proofs.Laws.Sum.{Below}
use Rattle.frame.specs.Frame.{data_frame, framed, header_byte, is_frame}
use Rattle.frame.specs.Framing.{Sound}
use Rattle.frame.specs.declared.Footer.TheVariants.{Last, More}
use Rattle.frame.specs.declared.Header.TheVariants.{Command, Data}
use Rattle.lent.specs.Lent.{same}
use Rattle.part.specs.Part.{page_size, place_of, range_of, range_at}
use Rattle.part.specs.declared.Area.{Area}
use Rattle.part.specs.declared.Part.{Part}
use Rattle.part.specs.declared.Place.{Place}
use Rattle.words.specs.Words.{◌or◌, if◌then◌otherwise◌}

-- "Pages for 40h and 13h carry 256 bytes".
pub record Page (ds : List ℕ) : Type 0 where
  pub long : length ds ≡ page_size
  pub bytes : Below 256 ds

pub data AllPages : List (List ℕ) → Type 0 where
  no_page : AllPages []
  and_page : {ds : List ℕ} {dss : List (List ℕ)} → Page ds → AllPages dss → AllPages (ds ∷ dss)

-- The pages as they are sent: "02h, LEN, data, SUM, then 03h on the last frame, else 17h".
unfoldable pub page_frames : List (List ℕ) → List ℕ
page_frames [] = []
page_frames (ds ∷ []) = data_frame ds Last
page_frames (ds ∷ es ∷ dss) = data_frame ds More ++ page_frames (es ∷ dss)

-- Their bytes, one after the other; and as many bytes of flash from a place on.
unfoldable pub joined_pages : List (List ℕ) → List ℕ
joined_pages [] = []
joined_pages (ds ∷ dss) = ds ++ joined_pages dss

unfoldable pub flash_from : Option Place → ℕ → Flash → List ℕ
flash_from None n m = []
flash_from (Some place) n m = take n (drop place.offset (bytes_in place.area m))

-- What is said to the 260 bytes of a page: nothing up to the last one, and to that the two statuses.
unfoldable pub to_page : ℕ → ℕ → List Utterance
to_page s t = replicate 259 silence ++ says_frame (s ∷ t ∷ []) ∷ []

-- "every earlier good page gets 06h in its second status, and the last one gets 0Fh if any page differed": d says whether one did.
unfoldable pub to_pages : Bool → List (List ℕ) → List Utterance
to_pages d [] = []
to_pages d (ds ∷ []) = to_page acknowledge (if d then verify_error otherwise acknowledge)
to_pages d (ds ∷ es ∷ dss) = to_page acknowledge acknowledge ++ to_pages d (es ∷ dss)

-- A chip that verifies, from any of its pages on, with nothing collected; dss are all the pages that it still awaits.
pub record Verifying (p : Part) (o : Outcome) (w : Awaited) (dss : List (List ℕ)) : Type 0 where
  pub stands : Stands p o
  pub nothing : o.chip.collector.len ≡ 0
  pub phase : o.chip.core.phase ≡ Awaiting w
  pub command : w.command ≡ 0x13
  pub pages : AllPages dss
  pub all : w.next + page_size * length dss ≡ w.last + 1

-- A page differed: an earlier one, as the awaited-data record remembers it, or one of dss.
abbrev pub any_differs : Part → Awaited → List (List ℕ) → Flash → Bool
any_differs p w dss m = w.differed or not (same (flash_from (place_of p w.next) (page_size * length dss) m) (joined_pages dss))

-- What came of these bytes: us is said to them, byte by byte, the command is over and the chip ready, flash, sums, options and rate are as they were, and nothing
-- is collected.
pub record Told (p : Part) (o : Outcome) (bs : List ℕ) (us : List Utterance) : Type 0 where
  pub says : utterances p (map Byte bs) o ≡ us
  pub core : (run p (map Byte bs) o).chip.core ≡ ready o.chip.core
  pub memory : (run p (map Byte bs) o).memory ≡ o.memory
  pub nothing : (run p (map Byte bs) o).chip.collector.len ≡ 0

abbrev pub VerifyTold : Type 0
VerifyTold =
    (p : Part) (o : Outcome) (w : Awaited) (dss : List (List ℕ)) → Verifying p o w dss
    → Told p o (page_frames dss) (to_pages (any_differs p w dss o.memory.flash) dss)

-- One earlier page: 06h 06h, and the chip verifies on, with what was seen up to here remembered. So noise may stand before any page, and a later one be damaged.
abbrev pub page_seen : Part → Awaited → List ℕ → Flash → Awaited
page_seen p w ds m = record { command = w.command; next = w.next + page_size; last = w.last; differed = any_differs p w (ds ∷ []) m }

pub record GoesOn (p : Part) (o : Outcome) (w : Awaited) (ds : List ℕ) (dss : List (List ℕ)) : Type 0 where
  pub says : utterances p (map Byte (data_frame ds More)) o ≡ to_page acknowledge acknowledge
  pub core : (run p (map Byte (data_frame ds More)) o).chip.core ≡ entered o.chip.core (Awaiting (page_seen p w ds o.memory.flash))
  pub memory : (run p (map Byte (data_frame ds More)) o).memory ≡ o.memory
  pub verifies : Verifying p (run p (map Byte (data_frame ds More)) o) (page_seen p w ds o.memory.flash) dss

abbrev pub EarlierTold : Type 0
EarlierTold =
    (p : Part) (o : Outcome) (w : Awaited) (ds es : List ℕ) (dss : List (List ℕ)) → Verifying p o w (ds ∷ es ∷ dss) → GoesOn p o w ds (es ∷ dss)

-- The whole command, from a ready chip: "range; 06h, then pages". It begins without a difference, and its pages are those of the range.
unfoldable pub verify_frame : ℕ → ℕ → List ℕ
verify_frame start end = framed Command (payload_of (Verify start end)) Last

pub record VerifyAsked (p : Part) (o : Outcome) (start end : ℕ) (a : Area) (block count : ℕ) (dss : List (List ℕ)) : Type 0 where
  pub stands : Stands p o
  pub nothing : o.chip.collector.len ≡ 0
  pub phase : o.chip.core.phase ≡ Ready
  pub range : range_of p start end ≡ Some (range_at a block count)
  pub pages : AllPages dss
  pub all : start + page_size * length dss ≡ end + 1

abbrev pub CommandTold : Type 0
CommandTold =
    (p : Part) (o : Outcome) (start end : ℕ) (a : Area) (block count : ℕ) (dss : List (List ℕ)) → VerifyAsked p o start end a block count dss
    → Told p o (verify_frame start end ++ page_frames dss)
    (replicate 10 silence
    ++ says_frame (acknowledge ∷ []) ∷ to_pages (not (same (range_bytes p a block count o.memory.flash) (joined_pages dss))) dss)

-- Gaps, skipped bytes and noise before any page keep what is remembered: the pages after them are told the same.
abbrev pub ToldAfterNoise : Type 0
ToldAfterNoise =
    (p : Part) (o : Outcome) (w : Awaited) (dss : List (List ℕ)) (vs : List Sound) → Verifying p o w dss → Noise no_frame p o vs → data_completed vs ≡ false
    → Told p (run p (then_gap vs) o) (page_frames dss) (to_pages (any_differs p w dss o.memory.flash) dss)

-- "A damaged page still ends the command at once": its status twice, whatever is remembered, and the fault told is its judgement.
pub record Damaged (p : Part) (o : Outcome) (w : Awaited) (f : List ℕ) : Type 0 where
  pub stands : Stands p o
  pub nothing : o.chip.collector.len ≡ 0
  pub phase : o.chip.core.phase ≡ Awaiting w
  pub command : w.command ≡ 0x13
  pub frame : is_frame f ≡ true
  pub header : get_or f 0 0 ≡ header_byte Data
  pub bytes : Below 256 f
  pub bad : good_for (awaits_in (Awaiting w)) f ≡ false

abbrev pub DamagedEnds : Type 0
DamagedEnds =
    (p : Part) (o : Outcome) (w : Awaited) (f : List ℕ) → Damaged p o w f
    → Told p o f (replicate (length f - 1) silence ++ blames_twice (judged_in (awaits_in (Awaiting w)) f) ∷ [])
