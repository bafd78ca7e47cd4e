-- The proofs of `PageWrites`, `PageLands`, `PageMixed` and `NoiseAfterMixed`.
-- Assumes nothing.
use mathlib.Core.Bool.{Bool, false, true}
use mathlib.Core.List.{List, [], ◌∷◌}
use mathlib.Core.Path.{◌∙◌, ◌≡◌, ap, refl, sym}
use Prim.Native.Nat.{◌+◌, ◌-◌, ◌<◌, ◌≤◌, ℕ}
use native.Mathlib.Omega.{arith}
use lib.ListN.{drop, get_or, length, length-set, take}
use lib.Seq.{get_or-set_other, get_or-set_same}
use Rattle.chip.specs.Run.{onward}
use Rattle.chip.specs.Step.{Outcome, Reaction, reaction}
use Rattle.chip_frame.specs.Does.{frame_does, silent}
use Rattle.chip.specs.declared.Event.{Event}
use Rattle.chip_core.specs.Effect.{Flash, Memory, bytes_in, effect, told, with_flash}
use Rattle.chip_core.specs.Hearing.{hearing}
use Rattle.chip_core.specs.declared.Awaited.{Awaited}
use Rattle.chip_core.specs.declared.Core.{Core}
use Rattle.chip_core.specs.declared.Done.{Done}
use Rattle.chip_core.specs.declared.Phase.{Phase}
use Rattle.chip_core.specs.declared.Phase.TheVariants.{Ready}
use Rattle.chip_flash.specs.Flash.{programmed}
use Rattle.chip_pages.specs.Pages.{data_does, footer_of, good_data, is_last_page, length_of, next_page, page_in, page_status, page_stored, page_written, pair, program_page, ready, stored_reply, told_written}
use Rattle.chip_reply.specs.Reply.{fault_in, frames_of, payloads}
use Rattle.chip_state.proofs.Laws.{accepts}
use Rattle.chip_state.specs.Refusals.{good_phase, good_state}
use Rattle.chip_sums.proofs.Laws.{resummed-flash}
use Rattle.chip_sums.specs.Sums.{block_sum, kept, put_sum, resummed, slot, slots}
use Rattle.claims_cut.proofs.Cut.{page-inside, power-on-keeps, programmed-page}
use Rattle.claims_cut.proofs.Put.{put-becomes}
use Rattle.claims_cut.specs.Cut.{Becomes}
use Rattle.claims_fed.proofs.Frames.{no-frame}
use Rattle.claims_fed.specs.Awaits.{command, good_for, in_ready}
use Rattle.claims_fed.specs.Fed.{does, does_in, says_frame}
use Rattle.claims_good.proofs.Awaited.{good-walk}
use Rattle.claims_good.proofs.Core.{core_is}
use Rattle.claims_good.proofs.Rooms.{leaves, reaction_of, says-reaction, utterance_of}
use Rattle.claims_good.specs.Good.{Stands, Utterance}
use Rattle.claims_noise.proofs.Claims.{noise-at-command, power-on-ends-noise}
use Rattle.claims_noise.proofs.Noise.{noise-after}
use Rattle.claims_pages.proofs.Bytes.{status-is-told}
use Rattle.claims_pages.specs.Sent.{PageSent, old_page}
use Rattle.claims_pages.specs.Written.{NoiseAfterMixed, PageLands, PageMixed, PageWrites, PageTold, WrittenThere, says_stored}
use Rattle.claims_runs.proofs.Taken.{Went, frame_done, only_heard, quiet_core, went}
use Rattle.claims_runs.specs.Taken.{taken_by}
use Rattle.claims_sums.proofs.Slots.{slots-enough}
use Rattle.claims_sums.proofs.Touched.{resummed-is, stands-long}
use Rattle.claims_verify.proofs.Told.{two_said}
use Rattle.frame.specs.Frame.{framed, payload}
use Rattle.frame.specs.Judgement.{fitting, is_good, judge_of}
use Rattle.part.proofs.Laws.{lies-place, place-lies}
use Rattle.part.specs.Part.{blocks, described, first, page_size, place_in, place_of, place_at}
use Rattle.part.specs.declared.Area.{Area}
use Rattle.part.specs.declared.Part.{Part}
use Rattle.part.specs.declared.Place.{Place}
use Rattle.std.specs.Prelude.{Option, Some}
use Rattle.words.proofs.Laws.{and_right}
use Rattle.words.specs.Words.{if◌then◌otherwise◌}

-- A good page of 40h does what the rule for it says.
good-does : (p : Part) (k : Core) (w : Awaited) (g : List ℕ) (m : Memory) → w.command ≡ 0x40 → is_good (fitting (length_of w) g (judge_of (footer_of w) g)) ≡ true
    → data_does p k w g m ≡ program_page p k w (place_of p w.next) (payload g) m
unfolding data_does good_data if◌then◌otherwise◌
good-does p k w g m c u = rw (u, c)

-- The reaction to the event that completes it.
page-done : (p : Part) (o : Outcome) (v : Event) (w : Awaited) (ds : List ℕ) → PageSent o v w ds
    → reaction_of p o v ≡ reaction [] (program_page p o.chip.core w (place_of p w.next) ds o.memory)
unfolding does_in does frame_does hearing good_for
page-done p o v w ds q = go (went p o v)
  where
    k : Core
    k = o.chip.core

    go : Went (taken_by o v) (λ f. does_in p f k o.memory) (silent (quiet_core v k) o.memory) (reaction_of p o v)
        → reaction_of p o v ≡ reaction [] (program_page p k w (place_of p w.next) ds o.memory)
    go (only_heard t e) = absurd (no-frame q.frame [] (sym t ∙ q.taken))
    go (frame_done f t e) =
        let i : f ≡ q.frame = ap (λ (fs : List (List ℕ)). get_or fs 0 []) (sym t ∙ q.taken) in
        e
        ∙ ap (reaction [])
        (ap (λ (g : List ℕ). does_in p g k o.memory) i
        ∙ ap (λ (ph : Phase). frame_does (hearing ph) p k q.frame o.memory) q.phase
        ∙ good-does p k w q.frame o.memory q.command q.good
        ∙ ap (λ (bs : List ℕ). program_page p k w (place_of p w.next) bs o.memory) q.carries)

-- What is said of it, by its status.
stored-said : (p : Part) (w : Awaited) (k : Core) (n : Memory) → utterance_of p (reaction [] (effect (told (stored_reply w) (next_page w k)) n)) ≡ says_stored w
unfolding utterance_of stored_reply says_stored fault_in payloads frames_of framed if◌then◌otherwise◌
stored-said p w k n = go (is_last_page w) refl
  where
    go : (l : Bool) → is_last_page w ≡ l → utterance_of p (reaction [] (effect (told (stored_reply w) (next_page w k)) n)) ≡ says_stored w
    go true e = rw e
    go false e = rw e

pub stored-told : (w : Awaited) (k : Core) {status : ℕ} → status ≡ 0x06 → told_written status w k ≡ told (stored_reply w) (next_page w k)
unfolding told_written if◌then◌otherwise◌
stored-told w k e = rw e

pub mixed-told : (w : Awaited) (k : Core) {status : ℕ} → status ≡ 0x1C → told_written status w k ≡ pair 0x06 0x1C (ready k)
unfolding told_written if◌then◌otherwise◌
mixed-told w k e = rw e

-- What the event leaves, where this is told of the page.
told-so : (p : Part) (o : Outcome) (v : Event) (w : Awaited) (ds : List ℕ) (d : Done) (u : Utterance) → Stands p o → PageSent o v w ds
    → told_written (page_status (old_page p w o) ds) w o.chip.core ≡ d
    → utterance_of p (reaction [] (effect d (page_written p (place_of p w.next) ds o.memory))) ≡ u → PageTold (onward p o v) u d.core
unfolding program_page
told-so p o v w ds d u s q e x =
    let r = page-done p o v w ds q ∙ ap (λ (y : Done). reaction [] (effect y (page_written p (place_of p w.next) ds o.memory))) e in
    let l = leaves p o v s in
    record {
      said = says-reaction p o v s ∙ ap (utterance_of p) r ∙ x;
      record_is = l.core ∙ ap (λ (y : Reaction). y.does.core) r;
      count = l.count ∙ ap (λ (y : Reaction). length y.hears) r;
    }

pub page-lands : PageLands
page-lands p o v w ds s q e =
    told-so p o v w ds _ (says_stored w) s q (stored-told w o.chip.core ((status-is-told (old_page p w o) ds).landed e)) (stored-said p w o.chip.core _)

pub page-mixed : PageMixed
page-mixed p o v w ds s q e =
    told-so p o v w ds _ (says_frame (0x06 ∷ 0x1C ∷ [])) s q (mixed-told w o.chip.core ((status-is-told (old_page p w o) ds).mixed e))
    (two_said p (ready o.chip.core) _ 0x06 0x1C)

-- Flash and sums after it.
memory-is : (p : Part) (o : Outcome) (v : Event) (w : Awaited) (ds : List ℕ) → Stands p o → PageSent o v w ds
    → (onward p o v).memory ≡ page_written p (place_of p w.next) ds o.memory
unfolding program_page
memory-is p o v w ds s q = (leaves p o v s).memory ∙ ap (λ (y : Reaction). y.does.memory) (page-done p o v w ds q)

-- A page that is awaited lies in its area, and its bytes are 256.
record Spotted (p : Part) (o : Outcome) (w : Awaited) : Type 0 where
  area : Area
  offset : ℕ
  block : ℕ
  page : ℕ
  place : place_of p w.next ≡ Some (place_at area offset block page)
  has : block < blocks p area
  inside : offset + 256 ≤ length (bytes_in area o.memory.flash)

spotted : (p : Part) (o : Outcome) (v : Event) (w : Awaited) (ds : List ℕ) → Stands p o → PageSent o v w ds → Spotted p o w
unfolding good_state good_phase place_in
spotted p o v w ds s q =
    let a = accepts s.accepted in
    let g = (core_is p o.chip.core (and_right _ _ a.state)).phase in
    let t = good-walk p w (rw q.phase at g) (rw q.command) in
    let l = lies-place p t.area w.next a.part t.walk.here in
    record {
      area = t.area;
      offset = w.next - first t.area;
      block = _;
      page = _;
      place = l;
      has = (place-lies p w.next t.area _ _ _ l).block-below;
      inside = omega (arith, stands-long o s t.area, page-inside p w t);
    }

-- What the page leaves at its place, with the sum of its block.
module _ (p : Part) (w : Awaited) (ds : List ℕ) (o : Outcome) (t : Spotted p o w) where
  becomes : Becomes t.area t.offset (programmed (page_in (place_of p w.next) o.memory.flash) ds) o.memory.flash
      (page_written p (place_of p w.next) ds o.memory).flash
  unfolding page_written page_stored page_in
  becomes =
      let old = take page_size (drop t.offset (bytes_in t.area o.memory.flash)) in
      let l : length (programmed old ds) ≡ 256 = programmed-page t.offset (bytes_in t.area o.memory.flash) ds t.inside in
      rw (t.place, resummed-flash p) (put-becomes t.area t.offset (programmed old ds) o.memory.flash (omega (arith, t.inside)))

  stored : Flash
  stored = page_stored (place_of p w.next) (programmed (page_in (place_of p w.next) o.memory.flash) ds) o.memory.flash

  made : page_written p (place_of p w.next) ds o.memory ≡ record { flash = stored; sums = put_sum p t.area t.block stored o.memory.sums }
  unfolding page_written stored
  made =
      ap (λ (x : Option Place). resummed p x (with_flash o.memory stored)) t.place
      ∙ resummed-is p t.area t.offset t.block t.page (with_flash o.memory stored) t.has

  written-there : described p ≡ true → length o.memory.sums ≡ slots → WrittenThere p w ds o.memory (page_written p (place_of p w.next) ds o.memory)
  unfolding kept
  written-there part sums =
      let z = slot t.area t.block in
      let v = block_sum p t.area t.block stored in
      record {
        area = t.area;
        offset = t.offset;
        block = t.block;
        page = t.page;
        place = t.place;
        becomes = becomes;
        has = t.has;
        renewed = rw made (get_or-set_same o.memory.sums z v 0 (omega (arith, slots-enough p t.area t.block part t.has)));
        others = λ i n. rw made (get_or-set_other o.memory.sums z i v 0 n);
        long = rw made (length-set o.memory.sums z v);
      }

  -- The page there is old AND new.
  holds : page_in (place_of p w.next) (page_written p (place_of p w.next) ds o.memory).flash ≡ programmed (page_in (place_of p w.next) o.memory.flash) ds
  unfolding page_in
  holds =
      let old = take page_size (drop t.offset (bytes_in t.area o.memory.flash)) in
      let l : length (programmed old ds) ≡ 256 = programmed-page t.offset (bytes_in t.area o.memory.flash) ds t.inside in
      rw t.place (rw (t.place, l) at becomes.now)

pub page-writes : PageWrites
page-writes p o v w ds s q sums =
    rw (memory-is p o v w ds s q) (written-there p w ds o (spotted p o v w ds s q) (accepts s.accepted).part sums)

-- The same of flash alone, whatever sums are lent.
pub record PageBecomes (p : Part) (o u : Outcome) (w : Awaited) (ds : List ℕ) : Type 0 where
  pub area : Area
  pub offset : ℕ
  pub old : old_page p w o ≡ take page_size (drop offset (bytes_in area o.memory.flash))
  pub inside : offset + 256 ≤ length (bytes_in area o.memory.flash)
  pub becomes : Becomes area offset (programmed (old_page p w o) ds) o.memory.flash u.memory.flash

pub page-becomes : (p : Part) (o : Outcome) (v : Event) (w : Awaited) (ds : List ℕ) → Stands p o → PageSent o v w ds → PageBecomes p o (onward p o v) w ds
unfolding page_in
page-becomes p o v w ds s q =
    let t = spotted p o v w ds s q in
    record {
      area = t.area;
      offset = t.offset;
      old = rw t.place;
      inside = t.inside;
      becomes = rw (memory-is p o v w ds s q) (becomes p w ds o t);
    }

page-holds : (p : Part) (o : Outcome) (v : Event) (w : Awaited) (ds : List ℕ) → Stands p o → PageSent o v w ds
    → old_page p w (onward p o v) ≡ programmed (old_page p w o) ds
page-holds p o v w ds s q =
    ap (λ (m : Memory). page_in (place_of p w.next) m.flash) (memory-is p o v w ds s q) ∙ holds p w ds o (spotted p o v w ds s q)

pub noise-after-mixed : NoiseAfterMixed
noise-after-mixed p o v w ds vs s q e n =
    let u : Outcome = onward p o v in
    let ph : u.chip.core.phase ≡ Ready = ap (λ (k : Core). k.phase) (page-mixed p o v w ds s q e).record_is in
    let here = page-holds p o v w ds s q in
    let g = noise-at-command p u vs (rw ph in_ready) n in
    let x = power-on-ends-noise p u vs (rw ph (command in_ready)) (noise-after p u vs n) in
    record {
      after_gap = g;
      gap_holds = ap (λ (m : Memory). page_in (place_of p w.next) m.flash) (sym g.now.memory) ∙ here;
      power_on_holds = ap (λ (m : Memory). page_in (place_of p w.next) m.flash) (sym x.now.memory ∙ (power-on-keeps p u n.stands).memory) ∙ here;
    }
