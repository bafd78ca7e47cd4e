-- The deaf chip satisfies demand 3's claim while a command is awaited, and every chip that is wrong as document 01 names it differs from the definition on a
-- worked input; there are such chips.
-- Assumes nothing.
use mathlib.Core.Bool.{Bool, false}
use mathlib.Core.List.{List, [], ◌∷◌, map}
use mathlib.Core.Logic.{◌≢◌}
use mathlib.Core.Path.{◌∙◌, ◌≡◌, ap, refl, sym}
use Prim.Native.Nat.{◌<◌, suc, zero, ℕ}
use native.Mathlib.Omega.{arith}
use lib.Dec.{eqb}
use lib.ListN.{drop, get_or}
use borrow.Author.Tests.{eqb-true}
use Rattle.numbers.specs.Numbers.{low_first, number_at}
use Rattle.chip.specs.Run.{Spoken, spoken_in}
use Rattle.chip.specs.Step.{Outcome, byte_in, heard_byte, react_to, settled, step_of}
use Rattle.chip_frame.specs.Does.{frame_does}
use Rattle.chip_state.specs.Refusals.{good_awaited, good_begun, good_collected, good_core, good_phase, good_places, good_state, verdict_of}
use Rattle.part.specs.declared.refusal.Refusal.{Refusal}
use Rattle.chip_reply.specs.declared.Sent.{Sent}
use Rattle.std.specs.Prelude.{Err, Ok, Result}
use Rattle.chip_state.specs.declared.Chip.{Chip}
use Rattle.chip.specs.declared.Event.{Event}
use Rattle.chip.specs.declared.Event.TheVariants.{Byte}
use Rattle.claims_good.proofs.Rooms.{same_alike}
use Rattle.claims_good.specs.Good.{SameChip, Utterance, uttered}
use Rattle.claims_noise.proofs.Examples.{wrong-page, wrong-page-completes-one}
use Rattle.claims_noise.specs.Claims.{AsIf, ChipCall, Machine, NoiseAtCommand, NoiseAtData, answers_by, called_by, calls_by, command_over, left_by, onward_by, run_by, says_by}
use Rattle.claims_noise.specs.Examples.{reset, second_page, writing_chip, wrong_page}
use Rattle.claims_noise.specs.Noise.{then_gap}
use Rattle.claims_stars.specs.Table.{ready_chip, the_part}
use Rattle.claims_wrong.specs.Wrong.{AcknowledgesDiffers, FirstIs, FirstPageDiffers, LeavesElse, MeetsDemand2, Says15hDiffers, SaysElse, SaysOnly, StoresNothingDiffers, StoresOnly, Unstored, saying_for}
use Rattle.claims_wrong.specs.Wrong.{begins, blanked, deaf, erase_within, in_first_page, nowhere, saying, says_always, stayed, stores, taken_up, two_pages, unsaid, saying_for}
use Rattle.chip_commands.specs.Commands.{allowed_in, command_does, reading_does, work}
use Rattle.commands.specs.Commands.{command_table, fitted, read_command, read_in}
use Rattle.chip_work.specs.Work.{block_erase, forbidden, programming}
use Rattle.chip_core.specs.Hearing.{hearing}
use Rattle.chip_pages.specs.Pages.{bad_data, data_does, footer_of, good_data, is_last_page, length_of, next_page, page_in, page_status, page_stored, page_written, program_page, stored_reply, told_written}
use Rattle.chip_core.specs.Effect.{Memory}
use Rattle.chip_core.specs.declared.Awaited.{Awaited}
use Rattle.chip_core.specs.declared.Core.{Core}
use Rattle.chip_core.specs.declared.Phase.TheVariants.{Awaiting, Ready}
use Rattle.chip_sums.specs.Sums.{resummed}
use Rattle.chip_flash.specs.Flash.{blank, lands, programmed}
use Rattle.frame.specs.Collector.{fresh, hear, heard, holding}
use Rattle.frame.specs.Frame.{complete, counted, framed, full, is_frame, payload}
use Rattle.frame.specs.Judgement.{fitting, judge_of, summed}
use Rattle.frame.specs.Sum.{less, less_all, sum_of}
use Rattle.lent.specs.Lent.{all_are, put_at, put_of, same}
use Rattle.chip_options.specs.Options.{fixed_bits, fresh_options, good_options, last_block}
use Rattle.part.specs.Part.{block_of, block_size, described, ends_block, lies_in, page_of, place_in, place_of, range_of, starts_block, stretch, whole_blocks}
use Rattle.part.specs.Refusal.{first_of}
use Rattle.part.specs.declared.Part.{Part}
use Rattle.chip_reply.specs.Reply.{frames_of, payloads, said_of, sent_as}
use Rattle.words.proofs.Laws.{if-all}
use Rattle.words.specs.Words.{◌and◌, ◌from◌to◌, ◌or◌, if◌then◌otherwise◌}

-- Nothing that a deaf chip hears changes it, and it says the same to everything.
deaf-same : (p : Part) (vs : List Event) (o : Outcome) → SameChip o (run_by deaf p vs o)
unfolding run_by deaf
deaf-same p [] o = record { chip = refl; memory = refl }
deaf-same p (v ∷ vs) o = let r = deaf-same p vs (onward_by deaf p o v) in record { chip = r.chip; memory = r.memory }

deaf-called : (p : Part) (cs : List ChipCall) (o : Outcome) → SameChip o (calls_by deaf p cs o)
unfolding calls_by deaf
deaf-called p [] o = record { chip = refl; memory = refl }
deaf-called p (c ∷ cs) o = let r = deaf-called p cs (called_by deaf p o c) in record { chip = r.chip; memory = r.memory }

deaf-answers : (p : Part) (cs : List ChipCall) (o u : Outcome) → answers_by deaf p cs o ≡ answers_by deaf p cs u
unfolding answers_by deaf
deaf-answers p [] o u = refl
deaf-answers p (c ∷ cs) o u =
    ap (λ (xs : List Spoken). spoken_in (called_by deaf p o c) ∷ xs) (deaf-answers p cs (called_by deaf p o c) (called_by deaf p u c))

same-trans : {o u t : Outcome} → SameChip u o → SameChip u t → SameChip o t
same-trans e f = record { chip = sym e.chip ∙ f.chip; memory = sym e.memory ∙ f.memory }

same-join : {o u t : Outcome} → SameChip o u → SameChip u t → SameChip o t
same-join e f = record { chip = e.chip ∙ f.chip; memory = e.memory ∙ f.memory }

-- Whatever it hears, it is as if it had not heard it.
pub deaf-as-if : (p : Part) (o : Outcome) (vs : List Event) → AsIf deaf p o (run_by deaf p vs o)
deaf-as-if p o vs =
    let u = run_by deaf p vs o in
    record {
      now = same_alike (deaf-same p vs o);
      answers = λ cs q. deaf-answers p cs o u;
      later = λ cs q. same_alike (same-trans (deaf-called p cs o) (same-join (deaf-same p vs o) (deaf-called p cs u)));
    }

-- So it satisfies the claim, ..
pub deaf-noise : NoiseAtCommand deaf
deaf-noise p o vs a n = deaf-as-if p o (then_gap vs)

-- (while data is awaited, a bad page ends the command, and a deaf chip does not know it)
no-phase : (w : Awaited) → Ready ≡ Awaiting w → ⊥
no-phase w e = let z : ◌≡◌ {A = ℕ} 0 1 = cc in omega arith

pub deaf-fails-at-data : NoiseAtData deaf → ⊥
unfolding left_by command_over if◌then◌otherwise◌
deaf-fails-at-data claim =
    let a = (claim the_part writing_chip second_page wrong_page refl wrong-page).now.core in
    let l : (left_by wrong_page writing_chip).chip.core.phase ≡ Ready =
    ap (λ (t : Bool). (if t then command_over writing_chip otherwise writing_chip).chip.core.phase) wrong-page-completes-one in
    no-phase second_page (sym l ∙ ap (λ (k : Core). k.phase) a ∙ sym (ap (λ (c : Chip). c.core.phase) (deaf-same the_part (then_gap wrong_page) writing_chip).chip))

-- The first status that is said at all, 256 where there is none.
or_else : List ℕ → ℕ → ℕ
or_else [] n = n
or_else (b ∷ bs) n = get_or (b ∷ bs) 2 0

first_status : List Utterance → ℕ
first_status [] = 256
first_status (u ∷ us) = or_else u.bytes (first_status us)

data SaidOr (s n : ℕ) : Type 0 where
  the_status : n ≡ s → SaidOr s n
  no_status : n ≡ 256 → SaidOr s n

or-else : (s n : ℕ) (bs : List ℕ) → FirstIs s bs → SaidOr s n → SaidOr s (or_else bs n)
unfolding or_else
or-else s n [] unsaid r = r
or-else s n [] (begins bs e) r = r
or-else s n (b ∷ bs) (begins cs e) r = the_status e

says-at-most : (s : ℕ) (M : Machine) → SaysOnly s M → (p : Part) (vs : List Event) (o : Outcome) → SaidOr s (first_status (says_by M p vs o))
unfolding says_by first_status
says-at-most s M h p [] o = no_status refl
says-at-most s M h p (v ∷ vs) o = or-else s _ _ (h p o.chip v o.memory o.room) (says-at-most s M h p vs (onward_by M p o v))

-- A chip with one status only differs where the definition says another.
other-status : (s t : ℕ) (M : Machine) (bs : List ℕ) → SaysOnly s M → first_status (says_by step_of the_part (map Byte bs) ready_chip) ≡ t → s ≢ t → t < 256 → SaysElse M bs
other-status s t M bs h d n k e = go (says-at-most s M h the_part (map Byte bs) ready_chip)
  where
    f : first_status (says_by M the_part (map Byte bs) ready_chip) ≡ t
    f = ap first_status e ∙ d

    go : SaidOr s (first_status (says_by M the_part (map Byte bs) ready_chip)) → ⊥
    go (the_status q) = n (sym q ∙ f)
    go (no_status q) = omega (arith, f)

-- What the definition does on the three inputs, by computation.
record Computed : Type 0 where
  reset-says : first_status (says_by step_of the_part (map Byte reset) ready_chip) ≡ 0x06
  erase-says : first_status (says_by step_of the_part (map Byte erase_within) ready_chip) ≡ 0x05
  first-page : get_or (run_by step_of the_part (map Byte two_pages) ready_chip).memory.flash.code_flash 0x0400 0 ≡ 0xAA
  second-page : get_or (run_by step_of the_part (map Byte two_pages) ready_chip).memory.flash.code_flash 0x0500 0 ≡ 0xAA

computed : Computed
unfolding first_status or_else says_by run_by byte_in frame_does heard_byte react_to settled step_of allowed_in command_does reading_does work hearing blank fixed_bits
    fresh_options good_options last_block bad_data data_does footer_of good_data is_last_page length_of next_page page_in page_stored page_status page_written told_written
    lands programmed same program_page resummed stored_reply frames_of payloads said_of good_awaited good_begun good_collected good_core good_phase good_places
    good_state verdict_of block_erase forbidden programming command_table fitted read_command read_in fresh hear heard holding complete counted framed full is_frame
    payload fitting judge_of summed less less_all sum_of all_are put_at put_of low_first number_at block_of block_size described ends_block lies_in page_of place_in place_of
    range_of starts_block stretch whole_blocks first_of ◌and◌ ◌from◌to◌ ◌or◌ if◌then◌otherwise◌
computed = record { reset-says = refl; erase-says = refl; first-page = refl; second-page = refl }

pub says-15h-differs : Says15hDiffers
says-15h-differs M h = other-status 0x15 0x06 M reset h computed.reset-says (λ e. omega arith) (omega arith)

pub always-acknowledges-differs : AcknowledgesDiffers
always-acknowledges-differs M h = other-status 0x06 0x05 M erase_within h computed.erase-says (λ e. omega arith) (omega arith)

-- Where nothing is stored, a blank byte stays blank.
stays-blank : (t : ℕ → Bool) (M : Machine) (i : ℕ) → StoresOnly t M → t i ≡ false → (p : Part) (vs : List Event) (o : Outcome) → get_or o.memory.flash.code_flash i 0 ≡ 0xFF
    → get_or (run_by M p vs o).memory.flash.code_flash i 0 ≡ 0xFF
unfolding run_by
stays-blank t M i h n p [] o e = e
stays-blank t M i h n p (v ∷ vs) o e = stays-blank t M i h n p vs (onward_by M p o v) (go (h p o.chip v o.memory o.room i n))
  where
    go : Unstored (get_or o.memory.flash.code_flash i 0) (get_or (onward_by M p o v).memory.flash.code_flash i 0) → get_or (onward_by M p o v).memory.flash.code_flash i 0 ≡ 0xFF
    go (stayed q) = q ∙ e
    go (blanked q) = q

other-flash : (t : ℕ → Bool) (M : Machine) (i : ℕ) → StoresOnly t M → t i ≡ false → get_or ready_chip.memory.flash.code_flash i 0 ≡ 0xFF
    → get_or (run_by step_of the_part (map Byte two_pages) ready_chip).memory.flash.code_flash i 0 ≡ 0xAA → LeavesElse M two_pages
other-flash t M i h n b d e =
    let z : ◌≡◌ {A = ℕ} 0xFF 0xAA =
    sym (stays-blank t M i h n the_part (map Byte two_pages) ready_chip b) ∙ ap (λ (m : Memory). get_or m.flash.code_flash i 0) e ∙ d in
    omega arith

pub stores-nothing-differs : StoresNothingDiffers
stores-nothing-differs M h = other-flash nowhere M 0x0400 h refl refl computed.first-page

pub stores-the-first-page-differs : FirstPageDiffers
stores-the-first-page-differs M h = other-flash in_first_page M 0x0500 h refl refl computed.second-page

-- There are such chips.
pub says-always : (s : ℕ) → SaysOnly s (says_always s)
unfolding says_always saying saying_for framed
says-always s p c v m room = go (step_of p c v m room).answer refl
  where
    some : (sent : Sent) → (step_of p c v m room).answer ≡ Ok sent → (n : ℕ) → sent.bytes ≡ n → FirstIs s (uttered (spoken_in (saying_for s n (step_of p c v m room)))).bytes
    some sent e zero z = rw (e, z) unsaid
    some sent e (suc n) z = begins _ refl

    go : (a : Result Sent Refusal) → (step_of p c v m room).answer ≡ a → FirstIs s (uttered (spoken_in (saying s a (step_of p c v m room)))).bytes
    go (Ok sent) e = some sent e sent.bytes refl
    go (Err r) e = rw e unsaid

taken-up : (t : ℕ → Bool) (old new : List ℕ) (i : ℕ) → t i ≡ false → Unstored (get_or old i 0) (get_or (taken_up t old new) i 0)
unfolding taken_up ◌or◌
taken-up t [] new i n = stayed refl
taken-up t (b ∷ bs) new zero n =
    if-all (Unstored b) _ (λ e. blanked (eqb-true _ _ (ap (λ (x : Bool). x or eqb (get_or new 0 0) 0xFF) (sym n) ∙ e))) (λ e. stayed refl)
taken-up t (b ∷ bs) new (suc i) n = taken-up (λ j. t (suc j)) bs (drop 1 new) i n

pub stores-where : (t : ℕ → Bool) → StoresOnly t (stores t)
unfolding stores
stores-where t p c v m room i n = taken-up t m.flash.code_flash (step_of p c v m room).memory.flash.code_flash i n

-- .. and not demand 2: it says nothing to a Reset, as little as a chip that says 15h or nothing.
pub deaf-differs : SaysElse deaf reset
unfolding deaf
deaf-differs = says-15h-differs deaf (λ p c v m room. unsaid)

-- A chip that differs on an input does not meet demand 2.
meets-runs : (M : Machine) → MeetsDemand2 M → (p : Part) (vs : List Event) (o : Outcome) → run_by M p vs o ≡ run_by step_of p vs o
unfolding run_by
meets-runs M h p [] o = refl
meets-runs M h p (v ∷ vs) o = ap (run_by M p vs) (h p o.chip v o.memory o.room) ∙ meets-runs M h p vs (onward_by step_of p o v)

meets-says : (M : Machine) → MeetsDemand2 M → (p : Part) (vs : List Event) (o : Outcome) → says_by M p vs o ≡ says_by step_of p vs o
unfolding says_by
meets-says M h p [] o = refl
meets-says M h p (v ∷ vs) o =
    ap (λ (u : Outcome). uttered (spoken_in u) ∷ says_by M p vs u) (h p o.chip v o.memory o.room)
    ∙ ap (λ (us : List Utterance). uttered (spoken_in (onward_by step_of p o v)) ∷ us) (meets-says M h p vs (onward_by step_of p o v))

pub says-else-fails : (M : Machine) (bs : List ℕ) → SaysElse M bs → MeetsDemand2 M → ⊥
says-else-fails M bs d h = d (meets-says M h the_part (map Byte bs) ready_chip)

pub leaves-else-fails : (M : Machine) (bs : List ℕ) → LeavesElse M bs → MeetsDemand2 M → ⊥
leaves-else-fails M bs d h = d (ap (λ (o : Outcome). o.memory) (meets-runs M h the_part (map Byte bs) ready_chip))
