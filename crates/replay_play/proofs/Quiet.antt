-- Records whose events change what is collected alone: a gap, and bytes after which what is collected is still the front of a frame that is awaited. What playing
-- one leaves: nothing is said.
-- Assumes nothing.
use mathlib.Core.Bool.{true}
use mathlib.Core.List.{List, [], ◌++◌, ◌∷◌, append_assoc, map}
use mathlib.Core.Path.{◌∙◌, ◌≡◌, ap, refl, sym}
use Prim.Native.Nat.{◌+◌, ◌≤◌, ℕ}
use native.Mathlib.Omega.{arith}
use lib.ListN.{length, length-append}
use Rattle.chip.proofs.Adding.{after, verdict_at}
use Rattle.chip.proofs.Quiet.{byte-fronts, collects, fronts-accepted, gap-drops}
use Rattle.chip.specs.Run.{before}
use Rattle.chip.specs.Step.{Outcome, step_of}
use Rattle.chip.specs.declared.Event.{Event}
use Rattle.chip.specs.declared.Event.TheVariants.{Byte, Gap}
use Rattle.chip_core.specs.Effect.{Memory}
use Rattle.chip_core.specs.Hearing.{hearing}
use Rattle.chip_state.proofs.Laws.{collected-cut}
use Rattle.chip_state.specs.Refusals.{good_heard}
use Rattle.chip_state.specs.declared.Chip.{Chip}
use Rattle.frame.proofs.Laws.Collector.{added-count, added-holds, added_more, added_none, added-places, heard-holding}
use Rattle.frame.specs.Collector.{added, dropped, heard}
use Rattle.frame.specs.declared.collector.Collector.{Collector}
use Rattle.part.specs.declared.Part.{Part}
use Rattle.chip_reply.specs.Reply.{sent_as}
use Rattle.replay_capture.specs.declared.Record.TheVariants.{BytesRecord, GapRecord, OtherSeat}
use Rattle.std.specs.Prelude.{Ok}
use Rattle.replay_capture.specs.Capture.{carried_bytes, record_of}
use Rattle.replay_capture.specs.declared.Form.{Form}
use Rattle.replay_play.proofs.Laws.{bytes-played, gap-played, nothing-played, ok_good, play-events}
use Rattle.replay_play.specs.Play.{Playing, answering, before_playing, ended_by, goes_on, output_least, play_of, played, played_into, record_playing}

-- An event that is answered with nothing.
silent-plays : (p : Part) (v : Event) (vs : List Event) (c d : Chip) (m : Memory) (room : List ℕ) → before d m room ≡ step_of p c v m room
    → played p (v ∷ vs) (before_playing c m room) ≡ played p vs (before_playing d m room)
unfolding played goes_on answering
silent-plays p v vs c d m room e =
    let x = before_playing c m room in
    sym (ap (λ (o : Outcome). goes_on o.answer (played p vs (answering o.answer o x)) (answering o.answer o x)) e)

fronts-play : (p : Part) (bs : List ℕ) (c : Chip) (m : Memory) (room : List ℕ) → length c.collector.bytes ≡ 260 → c.collector.len + length bs ≤ 260
    → verdict_at p c m room ≡ Ok tt → good_heard c.core.phase (heard c.collector ++ bs) ≡ true
    → played p (map Byte bs) (before_playing c m room) ≡ before_playing (collects c (added c.collector bs)) m room
unfolding played
fronts-play p [] c m room l n a g = ap (λ (d : Collector). before_playing (collects c d) m room) (sym (added_none c.collector l (omega arith)))
fronts-play p (b ∷ bs) c m room l n a g =
    let hs = heard c.collector in
    let one = added c.collector (b ∷ []) in
    let w : (hs ++ b ∷ []) ++ bs ≡ hs ++ b ∷ bs = append_assoc hs (b ∷ []) bs in
    let f : good_heard c.core.phase (hs ++ b ∷ []) ≡ true = collected-cut (hearing c.core.phase) (hs ++ b ∷ []) bs (rw length-append (omega arith)) (rw w g) in
    let h : heard one ≡ hs ++ b ∷ [] = ap heard (added-holds c.collector (b ∷ []) (omega arith)) ∙ heard-holding c.collector (hs ++ b ∷ []) in
    let o : one.len ≡ c.collector.len + 1 = added-count c.collector (b ∷ []) l (omega arith) in
    silent-plays p (Byte b) (map Byte bs) c (after c b) m room (byte-fronts p c m room b l a f)
    ∙ fronts-play p bs (after c b) m room (added-places c.collector (b ∷ []) l (omega arith)) (omega (arith, o)) (fronts-accepted p c m room (b ∷ []) l (omega arith) a f) (rw (h, w) g)
    ∙ ap (λ (d : Collector). before_playing (collects c d) m room) (added_more c.collector (b ∷ []) bs l (omega arith))

nothing_said : (p : Part) (vs : List Event) (c d : Chip) (m : Memory) (room output : List ℕ) → played p vs (before_playing c m room) ≡ before_playing d m room
    → record_playing (record { ended = Ok (sent_as 0 0); chip = d }) m room output ≡ played_into (played p vs (before_playing c m room)) output
unfolding played_into ended_by
nothing_said p vs c d m room output e = sym (ap (λ (x : Playing). played_into x output) e)

module _ (form : Form) (p : Part) (bs : List ℕ) (c : Chip) (m : Memory) (room output : List ℕ) (long : output_least form ≤ length output) where
  pub gap-quiet : record_of form bs ≡ Ok GapRecord → verdict_at p c m room ≡ Ok tt
      → record_playing (record { ended = Ok (sent_as 0 0); chip = collects c (dropped c.collector) }) m room output ≡ play_of form p bs c m room output
  unfolding played
  gap-quiet e a =
      play-events form p bs c m room output _ (Ok GapRecord) e ok_good refl long
      (gap-played _ form p bs c m room output
      (nothing_said p (Gap ∷ []) c (collects c (dropped c.collector)) m room output (silent-plays p Gap [] c (collects c (dropped c.collector)) m room (gap-drops p c m room a))))

  pub bytes-quiet : (n : ℕ) → record_of form bs ≡ Ok (BytesRecord n) → length c.collector.bytes ≡ 260 → c.collector.len + length (carried_bytes form n bs) ≤ 260
      → verdict_at p c m room ≡ Ok tt → good_heard c.core.phase (heard c.collector ++ carried_bytes form n bs) ≡ true
      → record_playing (record { ended = Ok (sent_as 0 0); chip = collects c (added c.collector (carried_bytes form n bs)) }) m room output ≡ play_of form p bs c m room output
  bytes-quiet n e l w a g =
      play-events form p bs c m room output _ (Ok (BytesRecord n)) e ok_good refl long
      (bytes-played _ form n p bs _ c m room output refl
      (nothing_said p (map Byte (carried_bytes form n bs)) c (collects c (added c.collector (carried_bytes form n bs))) m room output (fronts-play p (carried_bytes form n bs) c m room l w a g)))

  -- The other seat's record changes nothing at all.
  pub other-quiet : record_of form bs ≡ Ok OtherSeat → record_playing (record { ended = Ok (sent_as 0 0); chip = c }) m room output ≡ play_of form p bs c m room output
  other-quiet e = play-events form p bs c m room output _ (Ok OtherSeat) e ok_good refl long (nothing-played form p bs c m room output)
