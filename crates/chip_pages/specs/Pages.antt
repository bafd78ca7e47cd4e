-- The data frames of phase 4: document 01, "Commands", the paragraphs on A0h's data and on the pages of 40h and 13h.
use Rattle.std.specs.Prelude.{Bool, not, List, [], ◌+◌, ℕ, eqb, ltb, drop, get_or, take, None, Option, Some}
use Rattle.chip_core.specs.Effect.{Effect, Flash, Memory, bytes_in, effect, entered, says, told, with_bytes, with_flash}
use Rattle.chip_core.specs.Effect.{acknowledge, parameter_error, protect_error, verify_error, write_error}
use Rattle.chip_core.specs.declared.Awaited.{Awaited}
use Rattle.chip_core.specs.declared.Core.{Core}
use Rattle.chip_core.specs.declared.Done.{Done}
use Rattle.chip_core.specs.declared.Phase.TheVariants.{Awaiting, Ready}
use Rattle.chip_flash.specs.Flash.{lands, programmed}
use Rattle.chip_sums.specs.Sums.{resummed}
use Rattle.frame.specs.Frame.{payload}
use Rattle.frame.specs.Judgement.{fitting, is_good, judge_of}
use Rattle.frame.specs.declared.Footer.{Footer}
use Rattle.frame.specs.declared.Footer.TheVariants.{Last, More}
use Rattle.frame.specs.declared.judgement.Judgement.{Judgement}
use Rattle.lent.specs.Lent.{put_of, same}
use Rattle.chip_options.specs.Options.{good_options, options_in, raises}
use Rattle.part.specs.Part.{page_size, place_of}
use Rattle.part.specs.declared.Part.{Part}
use Rattle.part.specs.declared.Place.{Place}
use Rattle.chip_reply.specs.declared.Reply.{Reply}
use Rattle.chip_reply.specs.declared.Reply.TheVariants.{BadFrame, BadPage, LastStored, Pair}
use Rattle.words.specs.Words.{◌and◌, ◌or◌, if◌then◌otherwise◌}

abbrev pub ready : Core → Core
ready k = entered k Ready

-- "The reply holds two statuses."
abbrev pub pair : ℕ → ℕ → Core → Done
pair s t k = told (Pair s t) k

-- The page awaited is the last one: it reaches the last address of the range.
unfoldable pub is_last_page : Awaited → Bool
is_last_page w = ltb w.last (w.next + page_size)

-- "then 03h on the last frame, else 17h"; A0h's "frame is a last frame (03h)"
unfoldable pub footer_of : Awaited → Footer
footer_of w = if eqb w.command 0xA0 or is_last_page w then Last otherwise More

-- "Pages for 40h and 13h carry 256 bytes"; A0h's data frame has 8.
unfoldable pub length_of : Awaited → ℕ
length_of w = if eqb w.command 0xA0 then 8 otherwise page_size

-- The page at a place of flash, and flash with these bytes stored there.
unfoldable pub page_in : Option Place → Flash → List ℕ
page_in None m = []
page_in (Some place) m = take page_size (drop place.offset (bytes_in place.area m))

unfoldable pub page_stored : Option Place → List ℕ → Flash → Flash
page_stored None ds m = m
page_stored (Some place) ds m = with_bytes place.area m (put_of (bytes_in place.area m) place.offset ds).bytes

-- After a page that went well the next one is awaited; "After the last page the chip is ready." What is remembered stays.
abbrev pub page_after : Awaited → Awaited
page_after w = record { command = w.command; next = w.next + page_size; last = w.last; differed = w.differed }

unfoldable pub next_page : Awaited → Core → Core
next_page w k = if is_last_page w then ready k otherwise entered k (Awaiting (page_after w))

-- 40h (document 02, §6): "The second status is 06h if every byte then equals what was sent, so resending the same page succeeds; else 1Ch".
unfoldable pub page_status : List ℕ → List ℕ → ℕ
page_status old new = if lands old new then acknowledge otherwise write_error

-- "After the last stored page a further status reply 06h follows."
unfoldable pub stored_reply : Awaited → Reply
stored_reply w = if is_last_page w then LastStored otherwise Pair acknowledge acknowledge

-- 1Ch: "the mixed bytes stay, and the command ends."
unfoldable pub told_written : ℕ → Awaited → Core → Done
told_written status w k = if eqb status acknowledge then told (stored_reply w) (next_page w k) otherwise pair acknowledge status (ready k)

-- Whatever the status, the page is what programming makes of it, and the sum of its block is worked out afresh: "The per-block sums of §1 follow."
abbrev pub page_programmed : Option Place → List ℕ → Flash → Flash
page_programmed at ds m = page_stored at (programmed (page_in at m) ds) m

unfoldable pub page_written : Part → Option Place → List ℕ → Memory → Memory
page_written p at ds m = resummed p at (with_flash m (page_programmed at ds m.flash))

unfoldable pub program_page : Part → Core → Awaited → Option Place → List ℕ → Memory → Effect
program_page p k w at ds m = effect (told_written (page_status (page_in at m.flash) ds) w k) (page_written p at ds m)

-- 13h (document 02, §2): "The awaited-data record must remember whether a difference has occurred."
unfoldable pub compared : Awaited → Bool → Awaited
compared w equal = record { command = w.command; next = w.next; last = w.last; differed = not equal or w.differed }

-- "every earlier good page gets 06h in its second status, and the last one gets 0Fh if any page differed"; 000, 3.5.3: an error on the way shows as ACK too, and
-- "最終データのベリファイ結果にすべてのエラーが反映されます" (the last data's result reflects every error).
unfoldable pub verify_status : Awaited → ℕ
verify_status w = if is_last_page w and w.differed then verify_error otherwise acknowledge

unfoldable pub verify_page : Core → Awaited → Option Place → List ℕ → Flash → Done
verify_page k w at ds m =
    let after = compared w (same (page_in at m) ds) in
    pair acknowledge (verify_status after) (next_page after k)

-- A0h's data, "those 8 bytes": the options and two reserved bytes.
-- "05h if .. the reserved bytes are not FFh ..; then 10h if a 0 flag would become 1; else stored, 06h."
unfoldable pub security_data : Part → Core → List ℕ → Done
security_data p k ds =
    if not (good_options p (options_in ds) and eqb (get_or ds 6 0) 0xFF and eqb (get_or ds 7 0) 0xFF) then says parameter_error (ready k)
    otherwise if raises p k.options.flags (options_in ds).flags then says protect_error (ready k)
    otherwise says acknowledge (record { options = options_in ds; rate = k.rate; phase = Ready })

-- "A bad page puts its status in both and ends the command." Of A0h: "Whatever its one-byte answer, a bad frame's included, the command is over."
unfoldable pub bad_data : Awaited → Judgement → Core → Done
bad_data w j k = if eqb w.command 0xA0 then told (BadFrame j) (ready k) otherwise told (BadPage j) (ready k)

unfoldable pub good_data : Part → Core → Awaited → List ℕ → Memory → Effect
good_data p k w ds m =
    if eqb w.command 0xA0 then effect (security_data p k ds) m
    otherwise if eqb w.command 0x40 then program_page p k w (place_of p w.next) ds m
    otherwise effect (verify_page k w (place_of p w.next) ds m.flash) m

-- A complete data frame: footer, SUM, LEN; then the work.
unfoldable pub data_does : Part → Core → Awaited → List ℕ → Memory → Effect
data_does p k w f m =
    let judgement = fitting (length_of w) f (judge_of (footer_of w) f) in
    if not (is_good judgement) then effect (bad_data w judgement k) m
    otherwise good_data p k w (payload f) m
