-- A call that the door accepts is never refused within: the chip replies to the event, and to every byte of a stretch, for from an accepted state no later byte is
-- refused. So no refusal is told as 0.
-- Assumes nothing.
use mathlib.Core.Bool.{true}
use mathlib.Core.List.{List, [], ◌∷◌}
use mathlib.Core.Path.{◌∙◌, ◌≡◌, ap, refl}
use Prim.Native.Nat.{◌+◌, ℕ}
use native.Mathlib.Omega.{arith}
use lib.Dec.{eqb}
use lib.ListN.{drop, length, length-drop}
use lib.Seq.{length-take-le}
use Rattle.chip.specs.Run.{before, onward}
use Rattle.chip_feed.specs.Feed.{Feeding, fed_on, feed_from, feed_of}
use Rattle.chip.specs.Step.{Outcome, Reaction, react_to, settled, step_of}
use Rattle.chip_reply.specs.Reply.{sent_as}
use Rattle.replay_records.specs.declared.Halt.TheVariants.{AtBadRecord, OutputFull}
use Rattle.chip_reply.specs.declared.Sent.{Sent}
use Rattle.std.specs.Prelude.{Err, Ok, Result}
use Rattle.chip_state.specs.Refusals.{verdict_on}
use Rattle.chip_state.specs.declared.Chip.{Chip}
use Rattle.chip.specs.declared.Event.{Event}
use Rattle.chip.specs.declared.Event.TheVariants.{Byte}
use Rattle.claims_door.specs.Kept.{replies}
use Rattle.claims_good.proofs.Stays.{onward-is, stays}
use Rattle.chip_state.proofs.Laws.{accepted}
use Rattle.claims_good.specs.Good.{Stands, a_byte, verdict_in}
use Rattle.chip_layout.proofs.Laws.{chip-accepts, chip-in-is}
use Rattle.chip_layout.specs.Admission.{chip_acceptance}
use Rattle.replay_capture.specs.declared.Form.{Form}
use Rattle.replay_door.specs.Calls.{end_number, replay_told, replayed_by, replayed_through}
use Rattle.chip_layout.specs.Layout.{chip_in, collector_in, state_size}
use Rattle.chip_core.specs.Effect.{Memory}
use Rattle.frame.proofs.Laws.Sum.{Below, below-drop, below-take, more}
use Rattle.frame.specs.Collector.{heard}
use Rattle.frame.specs.Framing.{frames}
use Rattle.part_layout.proofs.Laws.{part-long}
use Rattle.part_layout.specs.Layout.{part_in}
use Rattle.part.specs.Refusal.{number}
use Rattle.part.specs.declared.Part.{Part}
use Rattle.part.specs.declared.refusal.Refusal.{Refusal}
use Rattle.words.proofs.Laws.{if-all}

replied-not-refused : (u : Result Unit Refusal) (p : Part) (x : Reaction) (c : Chip) (m : Memory) (room : List ℕ) → u ≡ Ok tt → replies (settled u p x c m room).answer ≡ true
unfolding settled replies
replied-not-refused (Ok _) p x c m room e = refl
replied-not-refused (Err r) p x c m room e = absurd (let z : ◌≡◌ {A = ℕ} 0 1 = cc in omega arith)

-- From a state that stands, bytes are not refused.
on-unrefused : (a : Result Sent Refusal) (n : ℕ) (o : Outcome) (rest : Feeding) → a ≡ o.answer → replies o.answer ≡ true → replies rest.left.answer ≡ true
    → replies (fed_on a n o rest).left.answer ≡ true
unfolding fed_on
on-unrefused (Err r) n o rest e h k = h
on-unrefused (Ok sent) n o rest e h k = if-all (λ (f : Feeding). replies f.left.answer ≡ true) (eqb sent.frames 0) (λ t. k) (λ t. h)

feed-unrefused : (p : Part) (n : ℕ) (bs : List ℕ) (o : Outcome) → Stands p o → Below 256 bs → replies o.answer ≡ true
    → replies (feed_from p n bs o).left.answer ≡ true
unfolding feed_from
feed-unrefused p n [] o s b e = e
feed-unrefused p n (x ∷ xs) o s (more h b) e =
    let r : replies (onward p o (Byte x)).answer ≡ true = stepped p o (Byte x) s.accepted in
    on-unrefused (onward p o (Byte x)).answer n (onward p o (Byte x)) (feed_from p (n + 1) xs (onward p o (Byte x))) refl r
    (feed-unrefused p (n + 1) xs (onward p o (Byte x)) (stays p o (Byte x) s (a_byte h)) b r)
  where
    stepped : (p : Part) (o : Outcome) (v : Event) → verdict_in p o ≡ Ok tt → replies (onward p o v).answer ≡ true
    stepped p o v e =
        ap (λ (y : Outcome). replies y.answer) (onward-is p o v e)
        ∙ replied-not-refused (Ok tt) p (react_to v p o.chip.core (heard o.chip.collector) o.memory) o.chip o.memory o.room refl

feed-fine : (p : Part) (bs : List ℕ) (o : Outcome) → Stands p o → Below 256 bs → o.answer ≡ Ok (sent_as 0 0) → replies (feed_of p bs o).left.answer ≡ true
unfolding feed_of replies
feed-fine p bs o s b e = feed-unrefused p 0 bs o s b (ap replies e)

-- What is lent as bytes makes a state that stands, where it is accepted.
stands : (part state : List ℕ) (m : Memory) (room : List ℕ) → Below 256 state → length state ≡ state_size
    → verdict_in (part_in part) (before (chip_in state) m room) ≡ Ok tt → Stands (part_in part) (before (chip_in state) m room)
unfolding collector_in
stands part state m room b l e =
    record {
      accepted = e;
      places = rw (chip-in-is state) (length-take-le 260 (drop 33 state) (rw length-drop (omega arith)));
      bytes = rw (chip-in-is state) (below-take 256 260 (below-drop 256 33 b));
      arrays = part-long part;
    }

-- An event that is accepted is answered by a reply.
pub accepted-replies : (p : Part) (v : Event) (state : List ℕ) (m : Memory) (room : List ℕ)
    → chip_acceptance p state (length m.flash.code_flash) (length m.flash.data_flash) (length room) ≡ Ok tt → replies (step_of p (chip_in state) v m room).answer ≡ true
unfolding step_of
accepted-replies p v state m room e =
    let c = chip_in state in
    replied-not-refused (verdict_on p c (length m.flash.code_flash) (length m.flash.data_flash) (length room)) p (react_to v p c.core (heard c.collector) m) c m room
    (chip-accepts p state (length m.flash.code_flash) (length m.flash.data_flash) (length room) e)

-- So is every byte of a stretch.
pub accepted-feed-replies : (part bs state : List ℕ) (m : Memory) (room : List ℕ) → Below 256 state → Below 256 bs → length state ≡ state_size
    → chip_acceptance (part_in part) state (length m.flash.code_flash) (length m.flash.data_flash) (length room) ≡ Ok tt
    → replies (feed_of (part_in part) bs (before (chip_in state) m room)).left.answer ≡ true
accepted-feed-replies part bs state m room b c l e =
    feed-fine (part_in part) bs (before (chip_in state) m room)
    (stands part state m room b l (chip-accepts (part_in part) state (length m.flash.code_flash) (length m.flash.data_flash) (length room) e)) c refl

-- A replay that is refused before its first record plays none and keeps everything.
pub refused-replay-keeps : (form : Form) (p : Part) (capture told state : List ℕ) (m : Memory) (room output : List ℕ) (r : Refusal)
    → chip_acceptance p state (length m.flash.code_flash) (length m.flash.data_flash) (length room) ≡ Err r
    → replayed_through form p capture told state m room output ≡ replay_told (number r) told state m room output
unfolding replayed_through replayed_by
refused-replay-keeps form p capture told state m room output r e = rw e

-- How a replay ends, by its number: 10 is the bad record's, here as for the conversions (`NumbersAre`, claims_capture).
pub endings-are : (end_number (Ok tt) ≡ 0) × (end_number (Err AtBadRecord) ≡ 10) × (end_number (Err OutputFull) ≡ 17)
unfolding end_number
endings-are = (refl, refl, refl)
