-- A record that is settled is played: what is left is what playing it leaves, nothing is said, and the chip accepts the next call.
-- Assumes nothing.
use mathlib.Core.Bool.{Bool, false, true}
use mathlib.Core.List.{List, ◌++◌}
use mathlib.Core.Path.{◌∙◌, ◌≡◌, ap, refl, subst, sym}
use Prim.Native.Nat.{◌+◌, ◌<◌, ◌≤◌, ℕ}
use native.Mathlib.Omega.{arith}
use lib.Dec.{leb}
use lib.ListN.{length, length-append}
use borrow.Author.Tests.{leb-true}
use Rattle.chip.proofs.Adding.{verdict_at}
use Rattle.chip.proofs.Quiet.{collects, fronts-accepted, gap-accepted}
use Rattle.chip_core.specs.Effect.{Memory}
use Rattle.chip_core.specs.Hearing.{hearing}
use Rattle.chip_state.proofs.Laws.{accepts, good-within, state-collected}
use Rattle.chip_state.specs.Refusals.{good_heard}
use Rattle.chip_state.specs.declared.Chip.{Chip}
use Rattle.frame.proofs.Laws.Collector.{added-places, dropped-leaves, length-heard}
use Rattle.frame.specs.Collector.{added, collecting, dropped, heard}
use Rattle.frame.specs.declared.collector.Collector.{Collector}
use Rattle.part.specs.declared.Part.{Part}
use Rattle.chip_reply.specs.Reply.{sent_as}
use Rattle.replay_capture.specs.declared.Record.TheVariants.{BytesRecord, GapRecord, OtherSeat}
use Rattle.replay_capture.specs.declared.BadRecord.{BadRecord}
use Rattle.replay_capture.specs.declared.Record.{Record}
use Rattle.part.specs.declared.refusal.Refusal.{Refusal}
use Rattle.std.specs.Prelude.{Err, None, Ok, Option, Result, Some}
use Rattle.replay_capture.specs.Capture.{carried_bytes, record_of}
use Rattle.replay_capture.specs.declared.Form.{Form}
use Rattle.replay_play.proofs.Quiet.{bytes-quiet, gap-quiet, other-quiet}
use Rattle.replay_play.specs.Play.{output_least, play_of, record_playing}
use Rattle.replay_quiet.specs.Quiet.{Settling, accepted_in, collected_by, is_accepted, is_quiet, settled_if, settle_of, settling}
use Rattle.replay_quiet.specs.declared.Lengths.{Lengths}
use Rattle.words.proofs.Laws.{and_left, and_right}
use Rattle.words.specs.Words.{◌and◌, ◌or◌}

pub record PlayedBy (form : Form) (p : Part) (bs : List ℕ) (c : Chip) (m : Memory) (room output : List ℕ) (d : Collector) : Type 0 where
  pub plays : record_playing (record { ended = Ok (sent_as 0 0); chip = collects c d }) m room output ≡ play_of form p bs c m room output
  pub accepted : verdict_at p (collects c d) m room ≡ Ok tt
  pub places : length d.bytes ≡ 260

accepted-so : (v : Result Unit Refusal) → is_accepted v ≡ true → v ≡ Ok tt
accepted-so (Ok _) e = refl
accepted-so (Err r) e = absurd (let z : ◌≡◌ {A = ℕ} 0 1 = cc in omega arith)

known_so : (known : Bool) (v : Result Unit Refusal) → (known ≡ true → v ≡ Ok tt) → known or is_accepted v ≡ true → v ≡ Ok tt
unfolding ◌or◌
known_so true v k e = k refl
known_so false v k e = accepted-so v e

module _ (form : Form) (p : Part) (bs : List ℕ) (c : Chip) (m : Memory) (room output : List ℕ) (places : length c.collector.bytes ≡ 260) (accepted : verdict_at p c m room ≡ Ok tt)
    (long : output_least form ≤ length output) where
  by-gap : record_of form bs ≡ Ok GapRecord → PlayedBy form p bs c m room output (dropped c.collector)
  by-gap e =
      record {
        plays = gap-quiet form p bs c m room output long e accepted;
        accepted = gap-accepted p c m room accepted;
        places = ap (λ (d : Collector). length d.bytes) (dropped-leaves c.collector) ∙ places;
      }

  by_bytes : (n : ℕ) → record_of form bs ≡ Ok (BytesRecord n) → good_heard c.core.phase (heard c.collector ++ carried_bytes form n bs) ≡ true
      → PlayedBy form p bs c m room output (added c.collector (carried_bytes form n bs))
  by_bytes n e g =
      let f = hearing c.core.phase in
      let w : c.collector.len < 260 = good-within f _ _ _ (state-collected p c.core _ _ _ f (accepts accepted).state refl) in
      let h : c.collector.len + length (carried_bytes form n bs) ≤ 260 =
      omega (arith, good-within f _ _ _ g, length-append (heard c.collector) (carried_bytes form n bs), length-heard c.collector (omega (arith, w, places))) in
      record {
        plays = bytes-quiet form p bs c m room output long n e places h accepted g;
        accepted = fronts-accepted p c m room (carried_bytes form n bs) places h accepted g;
        places = added-places c.collector (carried_bytes form n bs) places h;
      }

  by-other : record_of form bs ≡ Ok OtherSeat → PlayedBy form p bs c m room output c.collector
  by-other e = record { plays = other-quiet form p bs c m room output long e; accepted = accepted; places = places }

  by-record : (r : Result Record BadRecord) → record_of form bs ≡ r → is_quiet form r c.core.phase (heard c.collector) bs ≡ true → PlayedBy form p bs c m room output (collected_by form r bs c.collector)
  unfolding is_quiet collected_by
  by-record (Ok GapRecord) e q = by-gap e
  by-record (Ok (BytesRecord n)) e q = by_bytes n e q
  by-record (Ok OtherSeat) e q = by-other e
  by-record (Err _) e q = absurd (let z : ◌≡◌ {A = ℕ} 0 1 = cc in omega arith)

pub settled-plays : (form : Form) (known : Bool) (p : Part) (c : Chip) (m : Memory) (room output bs : List ℕ) (l : Lengths) (n : ℕ) (held : List ℕ) (s : Option ℕ) → length c.collector.bytes ≡ 260
    → (known ≡ true → verdict_at p c m room ≡ Ok tt) → l.code ≡ length m.flash.code_flash → l.«data» ≡ length m.flash.data_flash → l.room ≡ length room → l.output ≡ length output
    → settling s held ≡ settle_of form known p c bs l → s ≡ Some n → PlayedBy form p bs c m room output (collecting held n)
unfolding settle_of settled_if
settled-plays form known p c m room output bs l n held s w k lc ld lr lo e t = go (leb (output_least form) l.output and is_quiet form r c.core.phase (heard c.collector) bs and accepted_in known p c l) refl e
  where
    r : Result Record BadRecord
    r = record_of form bs

    go : (u : Bool) → leb (output_least form) l.output and is_quiet form r c.core.phase (heard c.collector) bs and accepted_in known p c l ≡ u → settling s held ≡ settled_if u form r bs c.collector
        → PlayedBy form p bs c m room output (collecting held n)
    go false x y = absurd (let v : Some n ≡ None = sym t ∙ ap (λ (z : Settling). z.quiet) y in let z : ◌≡◌ {A = ℕ} 0 1 = cc in omega arith)
    go true x y =
        let d = collected_by form r bs c.collector in
        let a : accepted_in known p c l ≡ true = and_right _ _ (and_right _ _ x) in
        let v : verdict_at p c m room ≡ (Ok tt) = known_so known (verdict_at p c m room) k (rw (sym lc, sym ld, sym lr) a) in
        let i : Some n ≡ Some d.len = sym t ∙ ap (λ (z : Settling). z.quiet) y in
        let j : n ≡ d.len = cc in
        let h : held ≡ d.bytes = ap (λ (z : Settling). z.held) y in
        let o : collecting held n ≡ d = ap (λ (q : List ℕ). collecting q n) h ∙ ap (λ (q : ℕ). collecting d.bytes q) j in
        subst (λ (q : Collector). PlayedBy form p bs c m room output q) (sym o)
        (by-record form p bs c m room output w v (omega (arith, leb-true (output_least form) l.output (and_left _ _ x), lo)) r refl (and_left _ _ (and_right _ _ x)))

-- A record that is not settled is left to the play, and nothing was changed.
pub left_alone : (form : Form) (known : Bool) (p : Part) (c : Chip) (bs : List ℕ) (l : Lengths) (held : List ℕ) (s : Option ℕ) → settling s held ≡ settle_of form known p c bs l → s ≡ None → held ≡ c.collector.bytes
unfolding settle_of settled_if
left_alone form known p c bs l held s e t = go (leb (output_least form) l.output and is_quiet form r c.core.phase (heard c.collector) bs and accepted_in known p c l) e
  where
    r : Result Record BadRecord
    r = record_of form bs

    go : (u : Bool) → settling s held ≡ settled_if u form r bs c.collector → held ≡ c.collector.bytes
    go false y = ap (λ (z : Settling). z.held) y
    go true y =
        absurd
        (let v : None ≡ Some (collected_by form r bs c.collector).len = sym t ∙ ap (λ (z : Settling). z.quiet) y in let z : ◌≡◌ {A = ℕ} 0 1 = cc in omega arith)
