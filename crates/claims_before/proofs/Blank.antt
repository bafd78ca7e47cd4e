-- Over a blank page what is sent is stored: a page that is sent to a chip that stands is as long as what it goes over, and is bytes.
-- Assumes nothing.
use mathlib.Core.Bool.{Bool, false, true}
use mathlib.Core.List.{List, [], ◌∷◌}
use mathlib.Core.Path.{◌∙◌, ◌≡◌, refl, sym}
use Prim.Native.Nat.{◌-◌, ℕ}
use native.Mathlib.Omega.{arith}
use lib.Dec.{eqb}
use lib.ListN.{drop, length, length-drop}
use lib.Seq.{length-take-le}
use Rattle.chip.specs.Step.{Outcome}
use Rattle.chip.specs.declared.Event.{Event}
use Rattle.chip.specs.declared.Event.TheVariants.{Byte, Gap, PowerOn}
use Rattle.chip_core.specs.Effect.{bytes_in}
use Rattle.chip_core.specs.Hearing.{hearing}
use Rattle.chip_core.specs.declared.Awaited.{Awaited}
use Rattle.chip_core.specs.declared.Phase.TheVariants.{Awaiting}
use Rattle.chip_flash.specs.Flash.{blank, programmed}
use Rattle.chip_pages.specs.Pages.{page_in}
use Rattle.chip_state.proofs.Laws.{accepts}
use Rattle.chip_state.specs.Refusals.{good_phase, good_state}
use Rattle.claims_cut.proofs.Cut.{page-inside, page-long}
use Rattle.claims_fed.proofs.Frames.{no-frame}
use Rattle.claims_fed.specs.Awaits.{good_for}
use Rattle.claims_frame.specs.Collecting.{collects_on, take-up}
use Rattle.claims_good.proofs.Awaited.{good-walk}
use Rattle.claims_good.proofs.Collected.{below-hear, below-heard}
use Rattle.claims_good.proofs.Core.{core_is}
use Rattle.claims_good.specs.Good.{Proper, Stands, a_byte, a_gap, a_power_on}
use Rattle.claims_pages.proofs.Bytes.{over-blank}
use Rattle.claims_pages.specs.Sent.{PageSent, old_page}
use Rattle.claims_runs.specs.Taken.{taken_as, taken_by, taken_in}
use Rattle.claims_sums.proofs.Touched.{stands-long}
use Rattle.frame.proofs.Laws.Sum.{Below, below-drop, below-take}
use Rattle.frame.specs.Collector.{hear, heard}
use Rattle.frame.specs.Frame.{complete, payload}
use Rattle.frame.specs.declared.Header.TheVariants.{Data}
use Rattle.part.proofs.Laws.{lies-place}
use Rattle.part.specs.Part.{first, place_in}
use Rattle.part.specs.declared.Part.{Part}
use Rattle.words.proofs.Laws.{and_right}
use Rattle.words.specs.Words.{if◌then◌otherwise◌}

-- There are 256 bytes to write over.
old-long : (p : Part) (o : Outcome) (w : Awaited) → Stands p o → o.chip.core.phase ≡ Awaiting w → eqb w.command 0xA0 ≡ false → length (old_page p w o) ≡ 256
unfolding good_state good_phase page_in place_in
old-long p o w st ph n =
    let a = accepts st.accepted in
    let g = (core_is p o.chip.core (and_right _ _ a.state)).phase in
    let s = good-walk p w (rw ph at g) n in
    rw (lies-place p s.area w.next a.part s.walk.here)
    (length-take-le 256 (drop (w.next - first s.area) (bytes_in s.area o.memory.flash)) (rw length-drop (omega (arith, stands-long o st s.area, page-inside p w s))))

-- What is taken is what was heard, and the last byte.
taken_is : (hs g : List ℕ) → (take-up hs).taken ≡ g ∷ [] → hs ≡ g
unfolding take-up if◌then◌otherwise◌
taken_is hs g e = go (complete hs) refl
  where
    go : (t : Bool) → complete hs ≡ t → hs ≡ g
    go true t = let one : hs ∷ [] ≡ g ∷ [] = rw t at e in cc
    go false t = absurd (no-frame g [] (rw t at e))

taken-below : (p : Part) (o : Outcome) (v : Event) (w : Awaited) (g : List ℕ) → Stands p o → Proper v → o.chip.core.phase ≡ Awaiting w → taken_by o v ≡ g ∷ []
    → Below 256 g
unfolding hearing taken_in taken_as collects_on
taken-below p o (Byte b) w g st (a_byte h) ph e =
    let i = taken_is (hear Data (heard o.chip.collector) b) g (rw ph at e) in
    rw (← i) (below-hear Data _ b h (below-heard _ st.bytes))
taken-below p o Gap w g st a_gap ph e = absurd (no-frame g [] (rw ph at e))
taken-below p o PowerOn w g st a_power_on ph e = absurd (no-frame g [] (rw ph at e))

pub sent-over-blank : (p : Part) (o : Outcome) (v : Event) (w : Awaited) (ds : List ℕ) → Stands p o → Proper v → PageSent o v w ds → blank (old_page p w o) ≡ true
    → programmed (old_page p w o) ds ≡ ds
unfolding good_for payload
sent-over-blank p o v w ds st h q t =
    let n : eqb w.command 0xA0 ≡ false = rw q.command in
    let l : length (payload q.frame) ≡ 256 = page-long w q.frame n q.good in
    let b : Below 256 (payload q.frame) = below-take 256 (length q.frame - 4) (below-drop 256 2 (taken-below p o v w q.frame st h q.phase q.taken)) in
    rw (← q.carries) (over-blank (old_page p w o) (payload q.frame) (old-long p o w st q.phase n ∙ sym l) t b).page
