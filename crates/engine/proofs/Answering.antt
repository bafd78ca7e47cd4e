-- Laws of what is told: a reply goes into the room behind those before it, and the room past it stays.
-- Assumes nothing.
use mathlib.Core.Bool.{Bool, false, true}
use mathlib.Core.List.{List, [], ◌++◌, append_assoc, append-nil}
use mathlib.Core.Path.{◌∙◌, ◌≡◌, ap, refl, sym}
use Prim.Native.Nat.{◌+◌, ◌-◌, ◌≤◌, ℕ}
use native.Mathlib.Omega.{arith}
use lib.ListN.{drop, drop_of_length-le, length, length-append, length-drop, take}
use lib.Seq.{drop_at, drop-drop, length-take-le, take_all, take_at}
use Rattle.chip_core.specs.Effect.{Memory, effect}
use Rattle.chip_core.specs.Hearing.{hearing}
use Rattle.chip_core.specs.declared.Core.{Core}
use Rattle.chip_core.specs.declared.Done.{Done}
use Rattle.chip_frame.specs.Does.{frame_does}
use Rattle.chip_options.specs.declared.Options.{Options}
use Rattle.chip_reply.proofs.Laws.{frames-long, reply-long, said-lands, send-said}
use Rattle.chip_reply.specs.Reply.{Said, fault_in, frames_of, payloads, said, send_of, sent_as}
use Rattle.chip_reply.specs.declared.Reply.{Reply}
use Rattle.chip_reply.specs.declared.Sent.{Sent}
use Rattle.engine.specs.Engine.{after_frame}
use Rattle.engine.specs.declared.ToldSoFar.{ToldSoFar}
use Rattle.lent.specs.declared.Short.{Short}
use Rattle.std.specs.Prelude.{Ok, Result}
use Rattle.engine.specs.declared.Played.{Played}
use Rattle.engine.specs.Inner.Answering.{Past, RoomAhead, ended_of, stand_of}
use Rattle.frame.proofs.Laws.Collector.{written-holds}
use Rattle.frame.specs.declared.collector.Collector.{Collector}
use Rattle.lent.proofs.Laws.{written-put, written_start}
use Rattle.lent.specs.Lent.{left, put_of}
use Rattle.frame.specs.Judgement.{is_good}
use Rattle.frame.specs.declared.judgement.Judgement.{Judgement}
use Rattle.part.specs.Part.{Arrays, described}
use Rattle.part.specs.declared.Part.{Part}
use Rattle.words.specs.Words.{if◌then◌otherwise◌}

-- What is sent into the room from a place on, which is lent as a part to the end, and comes back in this form.
pub record SentPast (at : ℕ) (rs : List (List ℕ)) (s : Sent) (room room' : List ℕ) : Type 0 where
  pub bytes : s.bytes ≡ length (frames_of rs)
  pub frames : s.frames ≡ length rs
  pub front : take (at + s.bytes) room' ≡ take at room ++ frames_of rs
  pub past : drop (at + s.bytes) room' ≡ drop (at + s.bytes) room
  pub long : length room' ≡ length room
  pub short : s.bytes ≤ 31
  pub framed : s.frames ≤ s.bytes

pub sent-past : (p : Part) (o : Options) (r : Reply) (at : ℕ) (s : Sent) (room l : List ℕ) → described p ≡ true → Arrays p → at + 32 ≤ length room
    → said s l ≡ send_of p o r (take (length room - at) (drop at room))
    → SentPast at (payloads p o r) s room (take at room ++ (l ++ drop (length room - at) (drop at room)))
sent-past p o r at s room l d a h e =
    let rs = payloads p o r in
    let n = length (frames_of rs) in
    let k : length (drop at room) ≡ length room - at = length-drop at room in
    let tail : take (length room - at) (drop at room) ≡ drop at room = take_all (length room - at) (drop at room) (omega arith) in
    let none : drop (length room - at) (drop at room) ≡ [] = drop_of_length-le (drop at room) {i = length room - at} (omega arith) in
    let b : n ≤ 31 = reply-long p o r a.device_long a.name_long a.version_long in
    let i : said s l ≡ said (record { bytes = n; frames = length rs }) (frames_of rs ++ drop n (drop at room)) =
    e ∙ ap (send_of p o r) tail ∙ sym (send-said p o r (drop at room) (omega arith) d) ∙ said-lands rs (drop at room) in
    let u : s.bytes ≡ n = ap (λ (x : Said). x.sent.bytes) i in
    let v : l ≡ frames_of rs ++ drop n (drop at room) = ap (λ (x : Said). x.room) i in
    let w : take at room ++ (l ++ drop (length room - at) (drop at room)) ≡ (take at room ++ frames_of rs) ++ drop n (drop at room) =
    rw (none, append-nil, v, append_assoc) in
    let f : length (take at room ++ frames_of rs) ≡ at + s.bytes = length-append (take at room) (frames_of rs) ∙ (let z : length (take at room) ≡ at = length-take-le at room (omega arith) in omega arith) in
    let q : at + n ≡ at + s.bytes = omega arith in
    record {
      bytes = u;
      frames = ap (λ (x : Said). x.sent.frames) i;
      front = rw w (take_at (take at room ++ frames_of rs) _ (at + s.bytes) f);
      past = rw w (drop_at (take at room ++ frames_of rs) _ (at + s.bytes) f ∙ drop-drop n at room ∙ ap (λ (j : ℕ). drop j room) q);
      long = ap length w ∙ rw (length-append (take at room ++ frames_of rs), f, length-drop n (drop at room), k) (omega arith);
      short = omega arith;
      framed = let z : s.frames ≡ length rs = ap (λ (x : Said). x.sent.frames) i in omega (arith, frames-long rs);
    }

pub sent-short : (p : Part) (o : Options) (r : Reply) (t : ToldSoFar) (s : Sent) (room l : List ℕ) → said s l ≡ send_of p o r (take (length room - t.bytes) (drop t.bytes room))
    → described p ≡ true → Arrays p → RoomAhead t 1 room → (s.bytes ≤ 31) × (s.frames ≤ s.bytes)
sent-short p o r t s room l e d a h = let x = sent-past p o r t.bytes s room l d a (omega (arith, h.left)) e in (x.short, x.framed)

-- A whole frame is answered: where the engine stands then.
pub answered : (p : Part) (k : Core) (t : ToldSoFar) (f : List ℕ) (m m' : Memory) (room l : List ℕ) (d : Done) (s : Sent) (j g : Judgement) (n : ℕ)
    → effect d m' ≡ frame_does (hearing k.phase) p k f m → said s l ≡ send_of p d.core.options d.reply (take (length room - t.bytes) (drop t.bytes room))
    → j ≡ fault_in d.reply → n ≡ (if is_good j then t.faults otherwise t.faults + 1) → g ≡ (if is_good t.first then j otherwise t.first)
    → described p ≡ true → Arrays p → RoomAhead t 1 room
    → stand_of d.core (record { bytes = t.bytes + s.bytes; frames = t.frames + s.frames; faults = n; first = g }) m'
    (take t.bytes room ++ (l ++ drop (length room - t.bytes) (drop t.bytes room)))
    ≡ after_frame p f (stand_of k t m room)
unfolding after_frame
answered p k t f m m' room l d s j g n e se je ne ge de a h =
    let x = sent-past p d.core.options d.reply t.bytes s room l de a (omega (arith, h.left)) se in
    rw (← e, x.front, x.frames, ne, ge, je)

-- The numbers told after it, and the room.
pub grown : (p : Part) (o : Options) (r : Reply) (t : ToldSoFar) (room l : List ℕ) (s : Sent) (j g : Judgement) (n : ℕ)
    → said s l ≡ send_of p o r (take (length room - t.bytes) (drop t.bytes room)) → n ≡ (if is_good j then t.faults otherwise t.faults + 1)
    → described p ≡ true → Arrays p → RoomAhead t 1 room
    → (RoomAhead (record { bytes = t.bytes + s.bytes; frames = t.frames + s.frames; faults = n; first = g }) 0
    (take t.bytes room ++ (l ++ drop (length room - t.bytes) (drop t.bytes room))))
    × Past t (record { bytes = t.bytes + s.bytes; frames = t.frames + s.frames; faults = n; first = g })
    (take t.bytes room ++ (l ++ drop (length room - t.bytes) (drop t.bytes room))) room
    × (t.bytes + s.bytes ≤ t.bytes + 31) × (n ≤ t.faults + 1)
unfolding if◌then◌otherwise◌
grown p o r t room l s j g n se ne de a h =
    let x = sent-past p o r t.bytes s room l de a (omega (arith, h.left)) se in (
      record { left = omega (arith, x.long, x.short, h.left); framed = omega (arith, x.framed, h.framed) },
      record { grows = omega arith; lies = omega (arith, x.long, x.short, h.left); stays = x.past },
      omega (arith, x.short),
      few (is_good j) ne,
    )
  where
    few : (b : Bool) → n ≡ (if b then t.faults otherwise t.faults + 1) → n ≤ t.faults + 1
    few true e = omega arith
    few false e = omega arith

-- What is handed back: the chip with what is held.
pub ended_is : (k : Core) (t : ToldSoFar) (c : Collector) (hs l : List ℕ) (a : Result Unit Short) → left a l ≡ put_of c.bytes 0 hs → length hs ≤ length c.bytes
    → ◌≡◌ {A = Played} (record {
      answer = Ok (sent_as t.bytes t.frames);
      faults = t.faults;
      first = t.first;
      chip = record { core = k; collector = record { bytes = l; len = length hs } };
    }) (ended_of k t c hs)
ended_is k t c hs l a e h =
    ap {B = Played} (λ (x : Collector). record { answer = Ok (sent_as t.bytes t.frames); faults = t.faults; first = t.first; chip = record { core = k; collector = x } })
    (written-holds c hs l (length hs) (written-put 0 hs (written_start c.bytes) e refl (omega arith)) refl)
