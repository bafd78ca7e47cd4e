-- Laws of playing: how a stretch of bytes that the chip was fed continues what is played, and how far the loop over a record's bytes has come.
-- Assumes nothing.
use mathlib.Core.List.{List, [], ◌++◌, ◌∷◌, append-nil, map}
use mathlib.Core.Path.{◌∙◌, ◌≡◌, ap, refl, sym}
use Prim.Native.Nat.{◌*◌, ◌+◌, ◌-◌, ◌<◌, ◌≤◌, suc, ℕ}
use native.Mathlib.Decide.{dec_le}
use native.Mathlib.Nat.{add-zero, zero-add}
use native.Mathlib.Omega.{arith}
use lib.ListN.{drop, drop_of_length-le, get_or, length, length-append, length-drop, length-map, length-take, take}
use lib.Seq.{drop-cons, drop-drop, length-take-le, take_all}
use borrow.Author.Tests.{le-ltb, lt-ltb}
use Rattle.replay_capture.proofs.Laws.{Carries, carried-long, carries-is, sizes}
use Rattle.replay_capture.specs.Capture.{carried_bytes, data_size, record_of}
use Rattle.replay_capture.specs.declared.Form.{Form}
use Rattle.chip_reply.specs.Reply.{sent_as}
use Rattle.replay_play.specs.declared.Unplayed.TheVariants.{NotGood, OutputShort}
use Rattle.replay_play.specs.declared.Unplayed.{Unplayed}
use Rattle.lent.specs.declared.Short.{Short}
use Rattle.chip_reply.specs.declared.Sent.{Sent}
use Rattle.replay_capture.specs.declared.Record.TheVariants.{BytesRecord, GapRecord, OtherSeat}
use Rattle.replay_capture.specs.declared.BadRecord.{BadRecord}
use Rattle.replay_capture.specs.declared.Record.{Record}
use Rattle.std.specs.Prelude.{Err, Ok, Result}
use Rattle.chip_feed.proofs.Feeding.{feed-is, feed-next, feed-none, feed-takes, feed-within, on-refused, on-said, on-silent}
use Rattle.frame.specs.declared.judgement.Judgement.{Judgement}
use Rattle.frame.specs.declared.judgement.Judgement.TheVariants.{Good}
use Rattle.part.specs.Part.{Arrays}
use Rattle.chip.proofs.Saying.{Fitting, step_fits}
use Rattle.chip_feed.proofs.Feeding.{feed-fits}
use Rattle.chip.specs.Run.{before, onward}
use Rattle.chip_feed.specs.Feed.{Feeding, fed_on, feed_from, feed_of}
use Rattle.chip.specs.Step.{Outcome, step_of}
use Rattle.chip_state.specs.declared.Chip.{Chip}
use Rattle.chip.specs.declared.Event.{Event}
use Rattle.chip.specs.declared.Event.TheVariants.{Byte, Gap}
use Rattle.chip_core.specs.Effect.{Memory}
use Rattle.lent.proofs.Laws.{Written, written-put, written_start}
use Rattle.lent.specs.Lent.{left, put_of}
use Rattle.part.specs.declared.Part.{Part}
use Rattle.part.specs.declared.refusal.Refusal.{Refusal}
use Rattle.replay_play.specs.Play.{Playing, RecordPlaying, events_of, goes_on, output_least, played_into, played, answering, before_playing, play_by, play_of, play_with, ended_by, record_playing}
use Rattle.words.specs.Words.{if◌then◌otherwise◌}

abbrev after : Outcome → Playing → Playing
after o x = answering o.answer o x

answering-forgets : (a : Result Sent Refusal) (o : Outcome) (x y : Playing) → x.said ≡ y.said → x.frames ≡ y.frames → answering a o x ≡ answering a o y
unfolding answering
answering-forgets (Ok sent) o x y e f = rw (e, f)
answering-forgets (Err r) o x y e f = rw (e, f)

-- What a feeding makes of x, when bs is what it was fed and n were taken before.
abbrev goes_from : Part → ℕ → List ℕ → Feeding → Playing → Playing
goes_from p n bs f x = goes_on f.left.answer (played p (map Byte (drop (f.taken - n) bs)) (after f.left x)) (after f.left x)

pub goes-replied : (a : Result Sent Refusal) (n k : ℕ) (x y : Playing) → a ≡ Ok (sent_as n k) → goes_on a x y ≡ x
unfolding goes_on
goes-replied a n k x y e = rw e

goes-refused : (a : Result Sent Refusal) (r : Refusal) (x y : Playing) → a ≡ Err r → goes_on a x y ≡ y
unfolding goes_on
goes-refused a r x y e = rw e

-- One byte of a feeding: where it was silent, the rest of the feeding decides.
plays-byte : (p : Part) (a : Result Sent Refusal) (n b : ℕ) (bs : List ℕ) (o : Outcome) (x : Playing) (rest : Feeding) → o.answer ≡ a
    → ((j : ℕ) → a ≡ Ok (sent_as j 0) → played p (map Byte bs) (after o x) ≡ goes_from p n (b ∷ bs) rest x)
    → goes_on a (played p (map Byte bs) (after o x)) (after o x) ≡ goes_from p n (b ∷ bs) (fed_on a n o rest) x
unfolding goes_on
plays-byte p (Err r) n b bs o x rest e s =
    sym (goes-refused o.answer r _ _ e) ∙ ap (λ (f : Feeding). goes_from p n (b ∷ bs) f x) (on-refused (Err r) n r o rest refl)
plays-byte p (Ok sent) n b bs o x rest e s = go (dec_le 1 sent.frames)
  where
    one : n + 1 - n ≡ 1
    one = omega arith

    go : Dec (1 ≤ sent.frames) → played p (map Byte bs) (after o x) ≡ goes_from p n (b ∷ bs) (fed_on (Ok (sent_as sent.bytes sent.frames)) n o rest) x
    go (no u) =
        s sent.bytes (ap (λ (q : ℕ). Ok (sent_as sent.bytes q)) (omega arith))
        ∙ sym (ap (λ (f : Feeding). goes_from p n (b ∷ bs) f x) (on-silent (Ok (sent_as sent.bytes sent.frames)) n sent.bytes sent.frames o rest refl (omega arith)))
    go (yes u) =
        sym
        (goes-replied o.answer sent.bytes sent.frames (played p (map Byte (drop (n + 1 - n) (b ∷ bs))) (after o x)) (after o x) e
        ∙ ap (λ (q : ℕ). played p (map Byte (drop q (b ∷ bs))) (after o x)) one)
        ∙ ap (λ (f : Feeding). goes_from p n (b ∷ bs) f x) (on-said (Ok (sent_as sent.bytes sent.frames)) n sent.bytes sent.frames o rest refl u)

silent-after : (o : Outcome) (x : Playing) (j room : ℕ) → Fitting o.answer room → o.answer ≡ Ok (sent_as j 0) → after o x ≡ record { left = o; said = x.said; frames = x.frames }
unfolding answering
silent-after o x j room f e =
    let z : j ≡ 0 = f.silent j e in
    let a : o.answer ≡ (Ok (sent_as 0 0)) = e ∙ ap (λ (q : ℕ). (Ok (sent_as q 0))) z in
    ap (λ (q : Result Sent Refusal). answering q o x) a ∙ rw (append-nil, add-zero)

drop-taken : (p : Part) (n b : ℕ) (bs : List ℕ) (t : ℕ) (x : Playing) → n + 1 ≤ t
    → played p (map Byte (drop (t - (n + 1)) bs)) x ≡ played p (map Byte (drop (t - n) (b ∷ bs))) x
drop-taken p n b bs t x h =
    let e : t - n ≡ suc (t - (n + 1)) = omega arith in
    sym (ap (λ (q : ℕ). played p (map Byte (drop q (b ∷ bs))) x) e)

-- A stretch of bytes: playing them is what the feeding says, and then the rest of them.
pub feed-plays : (p : Part) (n b : ℕ) (bs : List ℕ) (x : Playing) → Arrays p
    → played p (map Byte (b ∷ bs)) x ≡ goes_from p n (b ∷ bs) (feed_from p n (b ∷ bs) x.left) x
unfolding played
feed-plays p n b [] x a =
    let o = onward p x.left (Byte b) in
    plays-byte p o.answer n b [] o x (feed_from p (n + 1) [] o) refl
    (λ j e.
    let one : n + 1 - n ≡ 1 = omega arith in
    sym
    (ap (λ (f : Feeding). goes_from p n (b ∷ []) f x) (feed-none p (n + 1) o)
    ∙ goes-replied o.answer j 0 (played p (map Byte (drop (n + 1 - n) (b ∷ []))) (after o x)) (after o x) e
    ∙ ap (λ (q : ℕ). played p (map Byte (drop q (b ∷ []))) (after o x)) one))
    ∙ sym (ap (λ (f : Feeding). goes_from p n (b ∷ []) f x) (feed-next p n b [] x.left))
feed-plays p n b (d ∷ bs) x a =
    let o = onward p x.left (Byte b) in
    let f = step_fits p x.left.chip (Byte b) x.left.memory x.left.room a in
    let rest = feed_from p (n + 1) (d ∷ bs) o in
    let y : Playing = record { left = o; said = x.said; frames = x.frames } in
    plays-byte p o.answer n b (d ∷ bs) o x rest refl
    (λ j e.
    let h : n + 1 ≤ rest.taken = (feed-within p (n + 1) (d ∷ bs) o).0 in
    let g : after rest.left y ≡ after rest.left x = answering-forgets rest.left.answer rest.left y x refl refl in
    ap (λ (q : Playing). played p (map Byte (d ∷ bs)) q) (silent-after o x j _ f e)
    ∙ feed-plays p (n + 1) d bs y a
    ∙ ap (λ (q : Playing). goes_on rest.left.answer (played p (map Byte (drop (rest.taken - (n + 1)) (d ∷ bs))) q) q) g
    ∙ ap (λ (q : Playing). goes_on rest.left.answer q (after rest.left x)) (drop-taken p n b (d ∷ bs) rest.taken (after rest.left x) h))
    ∙ sym (ap (λ (f : Feeding). goes_from p n (b ∷ d ∷ bs) f x) (feed-next p n b (d ∷ bs) x.left))

-- How far the loop over a record's bytes has come: i of them are taken, n bytes in k frames are said and stand in the output, and t is what the rest makes of that.
pub record PlayedFrom (p : Part) (bs : List ℕ) (c : Chip) (m : Memory) (room : List ℕ) (i n k : ℕ) (whole output : List ℕ) (t : Playing) : Type 0 where
  pub bytes : ℕ
  pub frames : ℕ
  pub fault : Judgement
  pub said : List ℕ
  pub stands : Written said whole output
  pub long : n ≡ length said
  pub within : i ≤ length bs
  pub short : n ≤ 31 * i
  pub few : k ≤ 2 * i
  pub rest : played p (map Byte (drop i bs)) (record { left = record { answer = Ok (sent_as bytes frames); fault = fault; chip = c; memory = m; room = room }; said = said; frames = k }) ≡ t

pub played-start : (p : Part) (bs : List ℕ) (c : Chip) (m : Memory) (room output : List ℕ)
    → PlayedFrom p bs c m room 0 0 0 output output (played p (map Byte bs) (before_playing c m room))
played-start p bs c m room output =
    record {
      bytes = 0;
      frames = 0;
      fault = Good;
      said = [];
      stands = written_start output;
      long = refl;
      within = omega arith;
      short = omega arith;
      few = omega arith;
      rest = refl;
    }

-- What the feeding of the bytes not yet taken makes of what was played.
fed-plays : {p : Part} {bs : List ℕ} {c : Chip} {m : Memory} {room : List ℕ} {i n k : ℕ} {whole output : List ℕ} {t : Playing} (f : Feeding) (q : PlayedFrom p bs c m room i n k whole output t)
    → Arrays p → f ≡ feed_of p (take (length bs - i) (drop i bs)) (before c m room) → i < length bs
    → goes_from p 0 (drop i bs) f (record { left = record { answer = Ok (sent_as q.bytes q.frames); fault = q.fault; chip = c; memory = m; room = room }; said = q.said; frames = k }) ≡ t
fed-plays {p} {bs} {c} {m} {room} {i} {n} {k} {whole} {output} {t} f q a e h =
    let x : Playing = record { left = record { answer = Ok (sent_as q.bytes q.frames); fault = q.fault; chip = c; memory = m; room = room }; said = q.said; frames = k } in
    let d : drop i bs ≡ get_or bs i 0 ∷ drop (suc i) bs = drop-cons bs i 0 h in
    let w : take (length bs - i) (drop i bs) ≡ drop i bs = take_all (length bs - i) (drop i bs) (rw length-drop (omega arith)) in
    let g : f ≡ feed_from p 0 (get_or bs i 0 ∷ drop (suc i) bs) (before c m room) = e ∙ feed-is p _ _ ∙ ap (λ (l : List ℕ). feed_from p 0 l (before c m room)) (w ∙ d) in
    let r : feed_from p 0 (get_or bs i 0 ∷ drop (suc i) bs) (before c m room) ≡ feed_from p 0 (get_or bs i 0 ∷ drop (suc i) bs) x.left =
    feed-next p 0 (get_or bs i 0) (drop (suc i) bs) (before c m room) ∙ sym (feed-next p 0 (get_or bs i 0) (drop (suc i) bs) x.left) in
    ap (λ (z : Feeding). goes_from p 0 (drop i bs) z x) (g ∙ r)
    ∙ ap (λ (l : List ℕ). goes_from p 0 l (feed_from p 0 (get_or bs i 0 ∷ drop (suc i) bs) x.left) x) d
    ∙ sym (feed-plays p 0 (get_or bs i 0) (drop (suc i) bs) x a)
    ∙ ap (λ (l : List ℕ). played p (map Byte l) x) (sym d)
    ∙ q.rest

-- How many bytes a feeding takes, of the bytes not yet taken.
fed-taken : (p : Part) (bs : List ℕ) (o : Outcome) (i : ℕ) (f : Feeding) → f ≡ feed_of p (take (length bs - i) (drop i bs)) o → i ≤ length bs → i + f.taken ≤ length bs
fed-taken p bs o i f e h =
    let w : take (length bs - i) (drop i bs) ≡ drop i bs = take_all (length bs - i) (drop i bs) (rw length-drop (omega arith)) in
    let g : f ≡ feed_from p 0 (drop i bs) o = e ∙ feed-is p _ o ∙ ap (λ (l : List ℕ). feed_from p 0 l o) w in
    let l : length (drop i bs) ≡ length bs - i = length-drop i bs in
    let u : f.taken ≤ length (drop i bs) = rw g (omega (arith, (feed-within p 0 (drop i bs) o).1)) in
    omega arith

fed-takes : (p : Part) (bs : List ℕ) (o : Outcome) (i n k : ℕ) (f : Feeding) → f ≡ feed_of p (take (length bs - i) (drop i bs)) o → i < length bs
    → f.left.answer ≡ Ok (sent_as n k) → 1 ≤ f.taken
fed-takes p bs o i n k f e h r =
    let d : drop i bs ≡ get_or bs i 0 ∷ drop (suc i) bs = drop-cons bs i 0 h in
    let w : take (length bs - i) (drop i bs) ≡ drop i bs = take_all (length bs - i) (drop i bs) (rw length-drop (omega arith)) in
    let g : f ≡ feed_from p 0 (get_or bs i 0 ∷ drop (suc i) bs) o = e ∙ feed-is p _ o ∙ ap (λ (l : List ℕ). feed_from p 0 l o) (w ∙ d) in
    let u : (feed_from p 0 (get_or bs i 0 ∷ drop (suc i) bs) o).left.answer ≡ (Ok (sent_as n k)) = ap (λ (z : Feeding). z.left.answer) (sym g) ∙ r in
    rw g (feed-takes p 0 n k (get_or bs i 0) (drop (suc i) bs) o u)

pub played-refused : {p : Part} {bs : List ℕ} {c : Chip} {m : Memory} {room : List ℕ} {i n k : ℕ} {whole output : List ℕ} {t : Playing} {r : Refusal} (f : Feeding)
    → PlayedFrom p bs c m room i n k whole output t → Arrays p → f ≡ feed_of p (take (length bs - i) (drop i bs)) (before c m room) → i < length bs → f.left.answer ≡ Err r
    → record_playing (record { ended = Err (Unplayed.Refused r); chip = f.left.chip }) f.left.memory f.left.room output ≡ played_into t whole
unfolding played_into ended_by answering
played-refused {p} {bs} {c} {m} {room} {i} {n} {k} {whole} {output} {t} {r} f q a e h z =
    let x : Playing = record { left = record { answer = Ok (sent_as q.bytes q.frames); fault = q.fault; chip = c; memory = m; room = room }; said = q.said; frames = k } in
    let y : Playing = record { left = f.left; said = q.said; frames = k } in
    let g : y ≡ t =
    sym (ap (λ (v : Result Sent Refusal). answering v f.left x) z)
    ∙ sym (goes-refused f.left.answer r (played p (map Byte (drop (f.taken - 0) (drop i bs))) (after f.left x)) (after f.left x) z)
    ∙ fed-plays f q a e h in
    ap (λ (l : List ℕ). record_playing (record { ended = Err (Unplayed.Refused r); chip = f.left.chip }) f.left.memory f.left.room l) q.stands.is
    ∙ ap (λ (v : Result Sent Refusal). record { ended = ended_by v y; chip = f.left.chip; memory = f.left.memory; room = f.left.room; output = q.said ++ drop (length q.said) whole }) (sym z)
    ∙ ap (λ (v : Playing). played_into v whole) g

pub played-turn : {p : Part} {bs : List ℕ} {c : Chip} {m : Memory} {room : List ℕ} {i n k : ℕ} {whole output output' : List ℕ} {t : Playing} {j l : ℕ} {s : Result Unit Short} (f : Feeding)
    → PlayedFrom p bs c m room i n k whole output t → Arrays p → f ≡ feed_of p (take (length bs - i) (drop i bs)) (before c m room) → i < length bs → f.left.answer ≡ Ok (sent_as j l)
    → 32 * length bs ≤ length whole → left s output' ≡ put_of output n (take (j - 0) f.left.room)
    → PlayedFrom p bs f.left.chip f.left.memory f.left.room (i + f.taken) (n + j) (k + l) whole output' t
unfolding answering
played-turn {p} {bs} {c} {m} {room} {i} {n} {k} {whole} {output} {output'} {t} {j} {l} {s} f q a e h z w u =
    let x : Playing = record { left = record { answer = Ok (sent_as q.bytes q.frames); fault = q.fault; chip = c; memory = m; room = room }; said = q.said; frames = k } in
    let fit : Fitting f.left.answer (length f.left.room) = rw e (feed-fits p (take (length bs - i) (drop i bs)) c m room a) in
    let zero : j - 0 ≡ j = omega arith in
    let none : f.taken - 0 ≡ f.taken = omega arith in
    let words : length (take (j - 0) f.left.room) ≡ j = rw zero (length-take-le j f.left.room (fit.lies j l z)) in
    let most : n + j ≤ 31 * (i + 1) = omega (arith, fit.long j l z, q.short) in
    let one : 1 ≤ f.taken = fed-takes p bs (before c m room) i j l f e h z in
    let g : played p (map Byte (drop (f.taken - 0) (drop i bs))) (after f.left x) ≡ t =
    sym (goes-replied f.left.answer j l (played p (map Byte (drop (f.taken - 0) (drop i bs))) (after f.left x)) (after f.left x) z) ∙ fed-plays f q a e h in
    let d : drop (f.taken - 0) (drop i bs) ≡ drop (i + f.taken) bs = rw none (drop-drop f.taken i bs) in
    let v : record { left = record { answer = Ok (sent_as j l); fault = f.left.fault; chip = f.left.chip; memory = f.left.memory; room = f.left.room }; said = q.said ++ take (j - 0) f.left.room; frames = k + l } ≡ after f.left x =
    ap (λ (y : ℕ). record { left = record { answer = Ok (sent_as j l); fault = f.left.fault; chip = f.left.chip; memory = f.left.memory; room = f.left.room }; said = q.said ++ take y f.left.room; frames = k + l }) zero
    ∙ ap (λ (y : Result Sent Refusal). record { left = record { answer = y; fault = f.left.fault; chip = f.left.chip; memory = f.left.memory; room = f.left.room }; said = q.said ++ take j f.left.room; frames = k + l }) (sym z)
    ∙ sym (ap (λ (y : Result Sent Refusal). answering y f.left x) z) in
    record {
      bytes = j;
      frames = l;
      fault = f.left.fault;
      said = q.said ++ take (j - 0) f.left.room;
      stands = written-put n (take (j - 0) f.left.room) q.stands u q.long (omega (arith, words, most));
      long = rw (length-append, words) (omega (arith, q.long));
      within = fed-taken p bs (before c m room) i f e q.within;
      short = omega (arith, most, one);
      few = omega (arith, fit.few j l z, q.few, one);
      rest = ap (λ (y : Playing). played p (map Byte (drop (i + f.taken) bs)) y) v ∙ ap (λ (y : List ℕ). played p (map Byte y) (after f.left x)) (sym d) ∙ g;
    }

pub played-end : {p : Part} {bs : List ℕ} {c : Chip} {m : Memory} {room : List ℕ} {i n k : ℕ} {whole output : List ℕ} {t : Playing} → PlayedFrom p bs c m room i n k whole output t
    → length bs ≤ i → record_playing (record { ended = Ok (sent_as n k); chip = c }) m room output ≡ played_into t whole
unfolding played_into ended_by played
played-end {p} {bs} {c} {m} {room} {i} {n} {k} {whole} {output} {t} q h =
    let y : Playing = record { left = record { answer = Ok (sent_as q.bytes q.frames); fault = q.fault; chip = c; memory = m; room = room }; said = q.said; frames = k } in
    let g : y ≡ t = sym (ap (λ (l : List ℕ). played p (map Byte l) y) (drop_of_length-le bs h)) ∙ q.rest in
    ap (λ (l : List ℕ). record_playing (record { ended = Ok (sent_as n k); chip = c }) m room l) q.stands.is
    ∙ ap (λ (a : ℕ). record_playing (record { ended = Ok (sent_as a k); chip = c }) m room (q.said ++ drop (length q.said) whole)) q.long
    ∙ ap (λ (v : Playing). played_into v whole) g

-- The same of a turn of the loop: it takes bytes that are there, at least one, and what is said lies in the room.
pub turn-within : {p : Part} {bs : List ℕ} {c : Chip} {m : Memory} {room : List ℕ} {i n k : ℕ} {whole output : List ℕ} {t : Playing} (f : Feeding)
    → PlayedFrom p bs c m room i n k whole output t → f ≡ feed_of p (take (length bs - i) (drop i bs)) (before c m room) → i + f.taken ≤ length bs
turn-within {p} {bs} {c} {m} {room} {i} {n} {k} {whole} {output} {t} f q e = fed-taken p bs (before c m room) i f e q.within

pub turn-takes : {p : Part} {bs : List ℕ} {c : Chip} {m : Memory} {room : List ℕ} {i n k : ℕ} {whole output : List ℕ} {t : Playing} {j l : ℕ} (f : Feeding)
    → PlayedFrom p bs c m room i n k whole output t → f ≡ feed_of p (take (length bs - i) (drop i bs)) (before c m room)
    → i < length bs → f.left.answer ≡ Ok (sent_as j l) → 1 ≤ f.taken
turn-takes {p} {bs} {c} {m} {room} {i} {n} {k} {whole} {output} {t} {j} {l} f q e h z = fed-takes p bs (before c m room) i j l f e h z

pub turn-said : {p : Part} {bs : List ℕ} {c : Chip} {m : Memory} {room : List ℕ} {i n k : ℕ} {whole output : List ℕ} {t : Playing} {j l : ℕ} (f : Feeding)
    → PlayedFrom p bs c m room i n k whole output t → Arrays p → f ≡ feed_of p (take (length bs - i) (drop i bs)) (before c m room)
    → f.left.answer ≡ Ok (sent_as j l) → (j ≤ 31) × (j ≤ length f.left.room) × (l ≤ 2)
turn-said {p} {bs} {c} {m} {room} {i} {n} {k} {whole} {output} {t} {j} {l} f q a e z =
    let fit : Fitting f.left.answer (length f.left.room) = rw e (feed-fits p (take (length bs - i) (drop i bs)) c m room a) in
    (fit.long j l z, fit.lies j l z, fit.few j l z)

-- One event alone.
pub one-said : (p : Part) (v : Event) (c : Chip) (m : Memory) (room output output' : List ℕ) (o : Outcome) (n k : ℕ) (s : Result Unit Short) → Arrays p → o ≡ step_of p c v m room
    → o.answer ≡ Ok (sent_as n k) → 32 ≤ length output → left s output' ≡ put_of output 0 (take (n - 0) o.room)
    → record_playing (record { ended = Ok (sent_as n k); chip = o.chip }) o.memory o.room output' ≡ played_into (played p (v ∷ []) (before_playing c m room)) output
unfolding played_into ended_by played goes_on answering
one-said p v c m room output output' o n k s a e z w u =
    let fit : Fitting o.answer (length o.room) = rw e (step_fits p c v m room a) in
    let zero : n - 0 ≡ n = omega arith in
    let long : length (take n o.room) ≡ n = length-take-le n o.room (fit.lies n k z) in
    let put : Written ([] ++ take n o.room) output output' =
    written-put 0 (take n o.room) (written_start output) (u ∙ ap (λ (j : ℕ). put_of output 0 (take j o.room)) zero) refl (omega (arith, long, fit.long n k z)) in
    let y : Playing = record { left = o; said = take n o.room; frames = 0 + k } in
    ap (λ (l : List ℕ). record_playing (record { ended = Ok (sent_as n k); chip = o.chip }) o.memory o.room l) put.is
    ∙ ap (λ (j : ℕ). record { ended = Ok (sent_as n j); chip = o.chip; memory = o.memory; room = o.room; output = take n o.room ++ drop (length (take n o.room)) output }) (sym (zero-add k))
    ∙ ap (λ (j : ℕ). record { ended = Ok (sent_as j (0 + k)); chip = o.chip; memory = o.memory; room = o.room; output = take n o.room ++ drop (length (take n o.room)) output }) (sym long)
    ∙ ap (λ (b : Result Sent Refusal). record { ended = ended_by b y; chip = o.chip; memory = o.memory; room = o.room; output = take n o.room ++ drop (length (take n o.room)) output }) (sym z)
    ∙ ap (λ (b : Result Sent Refusal). played_into (goes_on b (answering b o (before_playing c m room)) (answering b o (before_playing c m room))) output) (sym z)
    ∙ ap (λ (q : Outcome). played_into (goes_on q.answer (answering q.answer q (before_playing c m room)) (answering q.answer q (before_playing c m room))) output) e

pub one-refused : (p : Part) (v : Event) (c : Chip) (m : Memory) (room output : List ℕ) (o : Outcome) (r : Refusal) → o ≡ step_of p c v m room → o.answer ≡ Err r
    → record_playing (record { ended = Err (Unplayed.Refused r); chip = o.chip }) o.memory o.room output ≡ played_into (played p (v ∷ []) (before_playing c m room)) output
unfolding played_into ended_by played goes_on answering
one-refused p v c m room output o r e z =
    let y : Playing = record { left = o; said = []; frames = 0 } in
    ap (λ (b : Result Sent Refusal). record { ended = ended_by b y; chip = o.chip; memory = o.memory; room = o.room; output = output }) (sym z)
    ∙ ap (λ (b : Result Sent Refusal). played_into (goes_on b (answering b o (before_playing c m room)) (answering b o (before_playing c m room))) output) (sym z)
    ∙ ap (λ (q : Outcome). played_into (goes_on q.answer (answering q.answer q (before_playing c m room)) (answering q.answer q (before_playing c m room))) output) e

pub one_lies : (p : Part) (v : Event) (c : Chip) (m : Memory) (room : List ℕ) (o : Outcome) (n k : ℕ) → Arrays p → o ≡ step_of p c v m room → o.answer ≡ Ok (sent_as n k)
    → n ≤ length o.room
one_lies p v c m room o n k a e z =
    let fit : Fitting o.answer (length o.room) = rw e (step_fits p c v m room a) in
    fit.lies n k z

-- The bytes that a record carries are few, and have room for their replies.
pub carried-room : {form : Form} {n least output : ℕ} {bs ds : List ℕ} → Carries form n bs → ds ≡ carried_bytes form n bs → least ≡ output_least form → least ≤ output
    → (length ds ≤ 8) × (32 * length ds ≤ output)
carried-room {form} {n} {least} {output} {bs} {ds} k e l h =
    let d : length ds ≡ n = ap length e ∙ carried-long k in
    (omega (arith, k.most, (sizes form).data_most), omega (arith, k.most))

-- One event alone has room too.
pub event-room : (form : Form) {least output : ℕ} → least ≡ output_least form → least ≤ output → 32 ≤ output
event-room form {least} {output} l h = omega (arith, (sizes form).data_least)

-- What a record of each kind comes to, as the code finds it.
module _ (form : Form) (p : Part) (bs : List ℕ) (c : Chip) (m : Memory) (room output : List ℕ) where
  play-good : (r : Result Record BadRecord) → record_of form bs ≡ r → (r ≡ Err (record {}) → ⊥) → play_of form p bs c m room output ≡ play_with form (events_of form r bs) p c m room output
  unfolding play_of play_by
  play-good (Ok GapRecord) e g = rw e
  play-good (Ok (BytesRecord n)) e g = rw e
  play-good (Ok OtherSeat) e g = rw e
  play-good (Err _) e g = absurd (g refl)

  pub play-bad : record_of form bs ≡ Err (record {}) → record_playing (record { ended = Err NotGood; chip = c }) m room output ≡ play_of form p bs c m room output
  unfolding play_of play_by
  play-bad e = rw e

  pub play-short : {least : ℕ} (r : Result Record BadRecord) → record_of form bs ≡ r → (r ≡ Err (record {}) → ⊥) → least ≡ output_least form → length output < least
      → record_playing (record { ended = Err OutputShort; chip = c }) m room output ≡ play_of form p bs c m room output
  unfolding play_with if◌then◌otherwise◌
  play-short {least} r e g l h = simp (play-good r e g, lt-ltb (length output) (output_least form) (omega (arith, l)))

  pub play-events : {least : ℕ} (x : RecordPlaying) (r : Result Record BadRecord) → record_of form bs ≡ r → (r ≡ Err (record {}) → ⊥) → least ≡ output_least form → least ≤ length output
      → x ≡ played_into (played p (events_of form r bs) (before_playing c m room)) output → x ≡ play_of form p bs c m room output
  unfolding play_with if◌then◌otherwise◌
  play-events {least} x r e g l h y = simp (play-good r e g, le-ltb (length output) (output_least form) (omega (arith, l))) y

-- A good record is not the bad one.
pub ok_good : {v : Record} → ◌≡◌ {A = Result Record BadRecord} (Ok v) (Err (record {})) → ⊥
ok_good e = let z : ◌≡◌ {A = ℕ} 0 1 = cc in omega arith

-- The other seat's record plays nothing.
pub nothing-played : (form : Form) (p : Part) (bs : List ℕ) (c : Chip) (m : Memory) (room output : List ℕ)
    → record_playing (record { ended = Ok (sent_as 0 0); chip = c }) m room output ≡ played_into (played p (events_of form (Ok OtherSeat) bs) (before_playing c m room)) output
unfolding events_of played played_into ended_by
nothing-played form p bs c m room output = refl

pub bytes-played : (x : RecordPlaying) (form : Form) (n : ℕ) (p : Part) (bs ds : List ℕ) (c : Chip) (m : Memory) (room output : List ℕ) → ds ≡ carried_bytes form n bs
    → x ≡ played_into (played p (map Byte ds) (before_playing c m room)) output → x ≡ played_into (played p (events_of form (Ok (BytesRecord n)) bs) (before_playing c m room)) output
unfolding events_of
bytes-played x form n p bs ds c m room output e h = h ∙ ap (λ (l : List ℕ). played_into (played p (map Byte l) (before_playing c m room)) output) e

pub gap-played : (x : RecordPlaying) (form : Form) (p : Part) (bs : List ℕ) (c : Chip) (m : Memory) (room output : List ℕ)
    → x ≡ played_into (played p (Gap ∷ []) (before_playing c m room)) output → x ≡ played_into (played p (events_of form (Ok GapRecord) bs) (before_playing c m room)) output
unfolding events_of
gap-played x form p bs c m room output h = h

-- How long what is said gets: 31 bytes for an event at most, and no frame without a byte.
answering-long : (a : Result Sent Refusal) (o : Outcome) (x : Playing) (room : ℕ) → Fitting a room → (length (answering a o x).said ≤ length x.said + 31)
unfolding answering
answering-long (Ok sent) o x room f = rw (length-append, length-take) (omega (arith, f.long sent.bytes sent.frames refl))
answering-long (Err r) o x room f = omega arith

answering-framed : (a : Result Sent Refusal) (o : Outcome) (x : Playing) → Fitting a (length o.room) → x.frames ≤ length x.said → (answering a o x).frames ≤ length (answering a o x).said
unfolding answering
answering-framed (Ok sent) o x f h =
    let l : length (take sent.bytes o.room) ≡ sent.bytes = length-take-le sent.bytes o.room (f.lies sent.bytes sent.frames refl) in
    rw (length-append, l) (omega (arith, f.framed sent.bytes sent.frames refl))
answering-framed (Err r) o x f h = h

goes-all : (P : Playing → Type 0) (a : Result Sent Refusal) (x y : Playing) → P x → P y → P (goes_on a x y)
unfolding goes_on
goes-all P (Ok sent) x y u v = u
goes-all P (Err r) x y u v = v

pub played-long : (p : Part) (vs : List Event) (x : Playing) → Arrays p → length (played p vs x).said ≤ length x.said + 31 * length vs
unfolding played
played-long p [] x a = omega arith
played-long p (v ∷ vs) x a =
    let o = onward p x.left v in
    let y = answering o.answer o x in
    let l : length y.said ≤ length x.said + 31 = answering-long o.answer o x _ (step_fits p x.left.chip v x.left.memory x.left.room a) in
    goes-all (λ z. length z.said ≤ length x.said + 31 * length (v ∷ vs)) o.answer (played p vs y) y (omega (arith, played-long p vs y a, l)) (omega (arith, l))

pub played-framed : (p : Part) (vs : List Event) (x : Playing) → Arrays p → x.frames ≤ length x.said → (played p vs x).frames ≤ length (played p vs x).said
unfolding played
played-framed p [] x a h = h
played-framed p (v ∷ vs) x a h =
    let o = onward p x.left v in
    let y = answering o.answer o x in
    let l : y.frames ≤ length y.said = answering-framed o.answer o x (step_fits p x.left.chip v x.left.memory x.left.room a) h in
    goes-all (λ z. z.frames ≤ length z.said) o.answer (played p vs y) y (played-framed p vs y a l) l

-- A record has no more events than it has data bytes.
events-few : (form : Form) (r : Result Record BadRecord) (bs : List ℕ) → ((n : ℕ) → r ≡ Ok (BytesRecord n) → n ≤ data_size form) → length (events_of form r bs) ≤ data_size form
unfolding events_of
events-few form (Ok GapRecord) bs h = omega (arith, (sizes form).data_least)
events-few form (Ok (BytesRecord n)) bs h = rw (length-map, length-take) (omega (arith, h n refl))
events-few form (Ok OtherSeat) bs h = omega arith
events-few form (Err _) bs h = omega arith

-- What a record's turn may claim to have said, where it asks for so much output.
pub record Fits (least : ℕ) (t : Result Sent Unplayed) (output : ℕ) : Type 0 where
  pub bytes : (n k : ℕ) → t ≡ Ok (sent_as n k) → n ≤ output
  pub frames : (n k : ℕ) → t ≡ Ok (sent_as n k) → k ≤ n
  pub short : (n k : ℕ) → t ≡ Ok (sent_as n k) → n ≤ least

by_fits : (least : ℕ) (a : Result Sent Refusal) (x : Playing) (output : ℕ) → length x.said ≤ least → least ≤ output → x.frames ≤ length x.said → Fits least (ended_by a x) output
unfolding ended_by
by_fits least (Ok sent) x output l h f =
    record {
      bytes = λ i j e. let r : sent_as (length x.said) x.frames ≡ sent_as i j = cc in let u : length x.said ≡ i = ap (λ (s : Sent). s.bytes) r in omega arith;
      frames = λ i j e. let r : sent_as (length x.said) x.frames ≡ sent_as i j = cc in let u : length x.said ≡ i = ap (λ (s : Sent). s.bytes) r in let v : x.frames ≡ j = ap (λ (s : Sent). s.frames) r in omega arith;
      short = λ i j e. let r : sent_as (length x.said) x.frames ≡ sent_as i j = cc in let u : length x.said ≡ i = ap (λ (s : Sent). s.bytes) r in omega arith;
    }
by_fits least (Err r) x output l h f =
    record {
      bytes = λ i j e. absurd (let z : ◌≡◌ {A = ℕ} 0 1 = cc in omega arith);
      frames = λ i j e. absurd (let z : ◌≡◌ {A = ℕ} 0 1 = cc in omega arith);
      short = λ i j e. absurd (let z : ◌≡◌ {A = ℕ} 0 1 = cc in omega arith);
    }

none-fits : (least : ℕ) (t : Result Sent Unplayed) (output : ℕ) → ((n k : ℕ) → t ≡ Ok (sent_as n k) → ⊥) → Fits least t output
none-fits least t output h = record { bytes = λ n k e. absurd (h n k e); frames = λ n k e. absurd (h n k e); short = λ n k e. absurd (h n k e) }

with-fits : (form : Form) (vs : List Event) (p : Part) (c : Chip) (m : Memory) (room output : List ℕ) → Arrays p → length vs ≤ data_size form
    → Fits (output_least form) (play_with form vs p c m room output).ended (length output)
unfolding play_with played_into if◌then◌otherwise◌
with-fits form vs p c m room output a h = go (dec_le (output_least form) (length output))
  where
    go : Dec (output_least form ≤ length output) → Fits (output_least form) (play_with form vs p c m room output).ended (length output)
    go (yes k) =
        let x = played p vs (before_playing c m room) in
        rw (le-ltb (length output) (output_least form) k)
        (by_fits (output_least form) x.left.answer x (length output) (omega (arith, played-long p vs (before_playing c m room) a)) k
        (played-framed p vs (before_playing c m room) a (omega arith)))
    go (no k) = rw (lt-ltb (length output) (output_least form) (omega arith)) (none-fits (output_least form) (Err OutputShort) (length output) (λ n i e. let z : ◌≡◌ {A = ℕ} 0 1 = cc in omega arith))

by-record : (form : Form) (r : Result Record BadRecord) (p : Part) (bs : List ℕ) (c : Chip) (m : Memory) (room output : List ℕ) → Arrays p → length (events_of form r bs) ≤ data_size form
    → Fits (output_least form) (play_by form r p bs c m room output).ended (length output)
unfolding play_by
by-record form (Ok GapRecord) p bs c m room output a h = with-fits form (events_of form (Ok GapRecord) bs) p c m room output a h
by-record form (Ok (BytesRecord n)) p bs c m room output a h = with-fits form (events_of form (Ok (BytesRecord n)) bs) p c m room output a h
by-record form (Ok OtherSeat) p bs c m room output a h = with-fits form (events_of form (Ok OtherSeat) bs) p c m room output a h
by-record form (Err _) p bs c m room output a h = none-fits (output_least form) (Err NotGood) (length output) (λ n i e. let z : ◌≡◌ {A = ℕ} 0 1 = cc in omega arith)

few-of : (form : Form) (bs : List ℕ) → length (events_of form (record_of form bs) bs) ≤ data_size form
few-of form bs = events-few form (record_of form bs) bs (λ n e. (carries-is form n bs e).most)

pub play-fits : (form : Form) (p : Part) (bs : List ℕ) (c : Chip) (m : Memory) (room output : List ℕ) → Arrays p
    → Fits (output_least form) (play_of form p bs c m room output).ended (length output)
unfolding play_of
play-fits form p bs c m room output a = by-record form (record_of form bs) p bs c m room output a (few-of form bs)

-- The output keeps its length.
with-keeps : (form : Form) (vs : List Event) (p : Part) (c : Chip) (m : Memory) (room output : List ℕ) → Arrays p → length vs ≤ data_size form
    → length (play_with form vs p c m room output).output ≡ length output
unfolding play_with played_into if◌then◌otherwise◌
with-keeps form vs p c m room output a h = go (dec_le (output_least form) (length output))
  where
    go : Dec (output_least form ≤ length output) → length (play_with form vs p c m room output).output ≡ length output
    go (yes k) = rw (le-ltb (length output) (output_least form) k, length-append, length-drop) (omega (arith, played-long p vs (before_playing c m room) a))
    go (no k) = rw (lt-ltb (length output) (output_least form) (omega arith))

pub play-keeps : (form : Form) (p : Part) (bs : List ℕ) (c : Chip) (m : Memory) (room output : List ℕ) → Arrays p → length (play_of form p bs c m room output).output ≡ length output
unfolding play_of play_by
play-keeps form p bs c m room output a = go (record_of form bs) (few-of form bs)
  where
    go : (r : Result Record BadRecord) → length (events_of form r bs) ≤ data_size form → length (play_by form r p bs c m room output).output ≡ length output
    go (Ok GapRecord) h = with-keeps form (events_of form (Ok GapRecord) bs) p c m room output a h
    go (Ok (BytesRecord n)) h = with-keeps form (events_of form (Ok (BytesRecord n)) bs) p c m room output a h
    go (Ok OtherSeat) h = with-keeps form (events_of form (Ok OtherSeat) bs) p c m room output a h
    go (Err _) h = refl
