-- Reply frames that lie end to end are printed a line each, however they are grouped; and what a chip that stands replies is whole frames end to end.
-- Assumes nothing.
use mathlib.Core.Bool.{false≢true, true}
use mathlib.Core.List.{List, [], ◌++◌, ◌∷◌, append_assoc}
use mathlib.Core.Path.{◌∙◌, ◌≡◌, ap, refl, sym}
use Prim.Native.Nat.{◌+◌, ◌≤◌, suc, zero, ℕ}
use native.Mathlib.Omega.{arith}
use lib.ListN.{drop, get_or, length, length-append, length-drop, take}
use lib.Seq.{drop_at, take_at}
use borrow.Author.Tests.{eqb-true}
use Rattle.chip.specs.Run.{bytes_said, onward}
use Rattle.chip.specs.Step.{Outcome}
use Rattle.part.specs.declared.refusal.Refusal.{Refusal}
use Rattle.chip_reply.specs.declared.Sent.{Sent}
use Rattle.std.specs.Prelude.{Err, Ok, Result}
use Rattle.chip.specs.declared.Event.{Event}
use Rattle.chip_options.proofs.Laws.{security-long}
use Rattle.chip_options.specs.Options.{security}
use Rattle.chip_options.specs.declared.Options.{Options}
use Rattle.chip_reply.specs.Reply.{frames_of, payloads, sent_as}
use Rattle.chip_reply.specs.declared.Reply.{Reply}
use Rattle.chip_reply.specs.declared.Reply.TheVariants.{BadFrame, BadPage, LastStored, Pair, Rate, Security, Signature, Silence, Status, Sum}
use Rattle.claims_frame.proofs.RoundTrip.{framed-whole}
use Rattle.claims_good.proofs.Rooms.{reaction_of, says-reaction, utterance_of}
use Rattle.claims_good.proofs.Stays.{stays}
use Rattle.claims_good.specs.Good.{AllProper, Stands, Utterance, and_event, no_event}
use Rattle.claims_replay.specs.Printed.{lines, lines_in}
use Rattle.frame.specs.Frame.{counted, data_frame, is_frame}
use Rattle.frame.specs.declared.Footer.TheVariants.{Last}
use Rattle.frame.specs.declared.Header.TheVariants.{Data}
use Rattle.numbers.proofs.Laws.{low-long}
use Rattle.numbers.specs.Numbers.{low_first}
use Rattle.part.proofs.LawsSignature.{signature-long}
use Rattle.part.specs.Part.{Arrays}
use Rattle.part.specs.Signature.{signature}
use Rattle.part.specs.declared.Part.{Part}
use Rattle.replay_hex.specs.Hex.{line_of}
use Rattle.replay_play.specs.Play.{Playing, answering, goes_on, played}
use Rattle.words.proofs.Laws.{and_left, and_right}

-- Whole frames, end to end.
pub data FramesIn : List ℕ → Type 0 where
  no_frame : FramesIn []
  and_frame : (f bs : List ℕ) → is_frame f ≡ true → FramesIn bs → FramesIn (f ++ bs)

pub frames-append : {xs ys : List ℕ} → FramesIn xs → FramesIn ys → FramesIn (xs ++ ys)
frames-append no_frame q = q
frames-append {ys = ys} (and_frame f bs e r) q = rw append_assoc (and_frame f (bs ++ ys) e (frames-append r q))

-- More steps than bytes make no other lines.
lines-fuel : (m n : ℕ) (bs : List ℕ) → length bs ≤ m → length bs ≤ n → lines_in m bs ≡ lines_in n bs
unfolding lines_in
lines-fuel zero zero bs h k = refl
lines-fuel zero (suc n) [] h k = refl
lines-fuel (suc m) zero [] h k = refl
lines-fuel (suc m) (suc n) [] h k = refl
lines-fuel zero (suc n) (b ∷ bs) h k = absurd (omega arith)
lines-fuel (suc m) zero (b ∷ bs) h k = absurd (omega arith)
lines-fuel (suc m) (suc n) (b ∷ bs) h k =
    let i = counted (get_or (b ∷ bs) 1 0) + 4 in
    let l : length (drop i (b ∷ bs)) ≤ length bs = omega (arith, length-drop i (b ∷ bs)) in
    ap (λ (t : List ℕ). line_of (take i (b ∷ bs)) ++ t) (lines-fuel m n (drop i (b ∷ bs)) (omega (arith, l, h)) (omega (arith, l, k)))

line_first : (f z : List ℕ) → is_frame f ≡ true → lines (f ++ z) ≡ line_of f ++ lines z
unfolding is_frame lines_in
line_first [] z e = absurd (false≢true (and_left _ _ e))
line_first (x ∷ []) z e = absurd (false≢true (and_left _ _ e))
line_first (x ∷ y ∷ g) z e =
    let n : length (x ∷ y ∷ g) ≡ counted y + 4 = eqb-true _ _ (and_right _ _ e) in
    let l : length (y ∷ (g ++ z)) ≡ length (y ∷ g) + length z = length-append (y ∷ g) z in
    ap (λ (t : List ℕ). line_of t ++ lines_in (length (y ∷ (g ++ z))) (drop (counted y + 4) (x ∷ y ∷ (g ++ z)))) (take_at (x ∷ y ∷ g) z (counted y + 4) n)
    ∙ ap (λ (t : List ℕ). line_of (x ∷ y ∷ g) ++ lines_in (length (y ∷ (g ++ z))) t) (drop_at (x ∷ y ∷ g) z (counted y + 4) n)
    ∙ ap (λ (t : List ℕ). line_of (x ∷ y ∷ g) ++ t) (lines-fuel (length (y ∷ (g ++ z))) (length z) z (omega (arith, l)) (omega arith))

-- So the lines of frames and then more bytes are the frames' lines and then the others.
pub lines-append : {xs : List ℕ} → FramesIn xs → (ys : List ℕ) → lines (xs ++ ys) ≡ lines xs ++ lines ys
unfolding lines_in
lines-append no_frame ys = refl
lines-append (and_frame f bs e r) ys =
    ap lines (append_assoc f bs ys)
    ∙ line_first f (bs ++ ys) e
    ∙ ap (λ (t : List ℕ). line_of f ++ t) (lines-append r ys)
    ∙ sym (append_assoc (line_of f) (lines bs) (lines ys))
    ∙ ap (λ (t : List ℕ). t ++ lines ys) (sym (line_first f bs e))

-- A reply is whole frames.
one_more : (ds : List ℕ) (rs : List (List ℕ)) → 1 ≤ length ds → length ds ≤ 256 → FramesIn (frames_of rs) → FramesIn (frames_of (ds ∷ rs))
unfolding frames_of
one_more ds rs h k r = and_frame (data_frame ds Last) (frames_of rs) (framed-whole Data ds Last h k) r

none_more : FramesIn (frames_of [])
unfolding frames_of
none_more = no_frame

reply-frames : (p : Part) (o : Options) (r : Reply) → Arrays p → FramesIn (frames_of (payloads p o r))
unfolding payloads
reply-frames p o Silence a = none_more
reply-frames p o (Status s) a = one_more _ _ (omega arith) (omega arith) none_more
reply-frames p o (BadFrame j) a = one_more _ _ (omega arith) (omega arith) none_more
reply-frames p o (Rate mode) a = one_more _ _ (omega arith) (omega arith) none_more
reply-frames p o (Pair s t) a = one_more _ _ (omega arith) (omega arith) none_more
reply-frames p o (BadPage j) a = one_more _ _ (omega arith) (omega arith) none_more
reply-frames p o LastStored a = one_more _ _ (omega arith) (omega arith) (one_more _ _ (omega arith) (omega arith) none_more)
reply-frames p o (Sum n) a = one_more _ _ (omega arith) (omega arith) (one_more (low_first 2 n) [] (omega (arith, low-long 2 n)) (omega (arith, low-long 2 n)) none_more)
reply-frames p o Signature a =
    let l = signature-long p a.device_long a.name_long a.version_long in
    one_more _ _ (omega arith) (omega arith) (one_more (signature p) [] (omega (arith, l)) (omega (arith, l)) none_more)
reply-frames p o Security a =
    one_more _ _ (omega arith) (omega arith) (one_more (security o) [] (omega (arith, security-long o)) (omega (arith, security-long o)) none_more)

said-frames : (p : Part) (o : Outcome) (v : Event) → Stands p o → FramesIn (bytes_said (onward p o v).answer (onward p o v).room)
unfolding utterance_of
said-frames p o v s =
    let x = reaction_of p o v in
    rw (ap (λ (u : Utterance). u.bytes) (says-reaction p o v s)) (reply-frames p x.does.core.options x.does.reply s.arrays)

-- And so is all that events are answered.
pub played-frames : (p : Part) (vs : List Event) (x : Playing) → Stands p x.left → AllProper vs → FramesIn x.said → FramesIn (played p vs x).said
unfolding played answering goes_on
played-frames p [] x s no_event r = r
played-frames p (v ∷ vs) x s (and_event h q) r =
    go o.answer (said-frames p x.left v s) (λ y t. played-frames p vs y t q)
  where
    o : Outcome
    o = onward p x.left v

    go : (a : Result Sent Refusal) → FramesIn (bytes_said a o.room) → ((y : Playing) → Stands p y.left → FramesIn y.said → FramesIn (played p vs y).said)
        → FramesIn (goes_on a (played p vs (answering a o x)) (answering a o x)).said
    go (Ok sent) f rest = rest (answering (Ok (sent_as sent.bytes sent.frames)) o x) (stays p x.left v s h) (frames-append r f)
    go (Err q) f rest = r
