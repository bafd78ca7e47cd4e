-- The proof of `SilentLeaves`.
-- Assumes nothing.
use Rattle.part.specs.declared.refusal.Refusal.{Refusal}
use Rattle.chip_reply.specs.declared.Sent.{Sent}
use mathlib.Core.List.{List}
use mathlib.Core.Path.{◌∙◌, ◌≡◌, ap, refl, sym}
use Prim.Native.Nat.{ℕ}
use native.Mathlib.Omega.{arith}
use lib.ListN.{length}
use Rattle.chip.specs.Step.{Reaction, byte_in, heard_byte, react_to}
use Rattle.chip_frame.specs.Does.{frame_does}
use Rattle.commands.specs.declared.Misread.TheVariants.{UnfitLen, Unknown}
use Rattle.commands.specs.declared.Misread.{Misread}
use Rattle.std.specs.Prelude.{Err, Ok, Result}
use Rattle.chip.specs.declared.Event.{Event}
use Rattle.chip.specs.declared.Event.TheVariants.{Byte, Gap, PowerOn}
use Rattle.chip_commands.specs.Commands.{command_does, reading_does, work}
use Rattle.chip_core.specs.Effect.{Effect, Memory, acknowledge, effect, write_error}
use Rattle.chip_core.specs.Hearing.{hearing}
use Rattle.chip_core.specs.declared.Awaited.{Awaited}
use Rattle.chip_core.specs.declared.Core.{Core}
use Rattle.chip_core.specs.declared.Done.{Done}
use Rattle.chip_core.specs.declared.Hearing.{Hearing}
use Rattle.chip_core.specs.declared.Hearing.TheVariants.{HearsCommands, HearsData, HearsNothing}
use Rattle.chip_options.specs.declared.Options.{Options}
use Rattle.chip_pages.specs.Pages.{data_does, stored_reply}
use Rattle.chip_reply.specs.Reply.{payloads, sent_as}
use Rattle.chip_reply.specs.declared.Reply.{Reply}
use Rattle.chip_reply.specs.declared.Reply.TheVariants.{BadFrame, BadPage, LastStored, Pair, Rate, Security, Signature, Silence, Status, Sum}
use Rattle.claims_good.proofs.Rooms.{leaves, reaction_of, says-reaction, utterance_of}
use Rattle.claims_good.specs.Good.{Utterance}
use Rattle.claims_sums.proofs.Untouched.{only-written, refused-erase}
use Rattle.claims_sums.specs.Untouched.{SilentLeaves}
use Rattle.commands.specs.declared.Command.{Command}
use Rattle.commands.specs.declared.Command.TheVariants.{BlankCheck, BlockErase, Checksum, Programming, RateSet, Reset, Verify}
use Rattle.commands.specs.declared.Command.TheVariants.{SecurityGet, SecurityRelease, SecuritySet, SignatureGet}
use Rattle.frame.specs.Collector.{heard}
use Rattle.part.specs.declared.Part.{Part}
use Rattle.words.proofs.Laws.{if-all}

-- Memory is as it was, or something is replied.
record Quiet (m : Memory) (x : Effect) : Type 0 where
  same : x.reply ≡ Silence → x.memory ≡ m

left_so : (m : Memory) (d : Done) → Quiet m (effect d m)
left_so m d = record { same = λ e. refl }

stored-said : (w : Awaited) → stored_reply w ≡ Silence → ⊥
unfolding stored_reply
stored-said w = if-all (λ (r : Reply). r ≡ Silence → ⊥) _ (λ t e. let z : ◌≡◌ {A = ℕ} 0 1 = cc in omega arith) (λ t e. let z : ◌≡◌ {A = ℕ} 0 1 = cc in omega arith)

mixed-said : Pair acknowledge write_error ≡ Silence → ⊥
mixed-said e = let z : ◌≡◌ {A = ℕ} 0 1 = cc in omega arith

module _ (p : Part) (k : Core) (m : Memory) where
  works : (c : Command) → Quiet m (work c p k m)
  unfolding work
  works (RateSet rate supply) = left_so m _
  works Reset = left_so m _
  works (BlockErase start) = record { same = λ e. refused-erase start p k m (λ q. let z : ◌≡◌ {A = ℕ} 0 1 = cc in omega arith) }
  works (BlankCheck start end d01) = left_so m _
  works (Programming start end) = left_so m _
  works (Verify start end) = left_so m _
  works (Checksum start end) = left_so m _
  works SignatureGet = left_so m _
  works SecurityGet = left_so m _
  works SecuritySet = left_so m _
  works SecurityRelease = left_so m _

  reading-does : (r : Result Command Misread) → Quiet m (reading_does r p k m)
  unfolding reading_does
  reading-does (Err Unknown) = left_so m _
  reading-does (Err UnfitLen) = left_so m _
  reading-does (Ok c) = works c

  command-does : (f : List ℕ) → Quiet m (command_does p k f m)
  unfolding command_does
  command-does f = if-all (Quiet m) _ (λ t. left_so m _) (λ t. if-all (Quiet m) _ (λ u. left_so m _) (λ u. reading-does _))

  data-does : (w : Awaited) (f : List ℕ) → Quiet m (data_does p k w f m)
  data-does w f = record { same = λ e. only-written p k w f m (λ q. stored-said w (sym q ∙ e)) (λ q. mixed-said (sym q ∙ e)) }

  heard-does : (hs : List ℕ) (x : Effect) → Quiet m x → Quiet m (heard_byte hs x k m).does
  unfolding heard_byte
  heard-does hs x d = if-all (λ (y : Reaction). Quiet m y.does) _ (λ t. d) (λ t. left_so m _)

  byte-does : (h : Hearing) (hs : List ℕ) (b : ℕ) → Quiet m (byte_in h p k hs b m).does
  unfolding byte_in frame_does
  byte-does HearsNothing hs b = left_so m _
  byte-does HearsCommands hs b = heard-does _ _ (command-does _)
  byte-does (HearsData w) hs b = heard-does _ _ (data-does w _)

  reaction-does : (hs : List ℕ) (v : Event) → Quiet m (react_to v p k hs m).does
  unfolding react_to
  reaction-does hs (Byte b) = byte-does (hearing k.phase) hs b
  reaction-does hs Gap = left_so m _
  reaction-does hs PowerOn = left_so m _

-- No frame is said of silence alone.
silence-only : (p : Part) (o : Options) (r : Reply) → length (payloads p o r) ≡ 0 → r ≡ Silence
unfolding payloads
silence-only p o Silence e = refl
silence-only p o (Status s) e = absurd (omega arith)
silence-only p o (BadFrame j) e = absurd (omega arith)
silence-only p o (Rate mode) e = absurd (omega arith)
silence-only p o (Pair s t) e = absurd (omega arith)
silence-only p o (BadPage j) e = absurd (omega arith)
silence-only p o LastStored e = absurd (omega arith)
silence-only p o (Sum n) e = absurd (omega arith)
silence-only p o Signature e = absurd (omega arith)
silence-only p o Security e = absurd (omega arith)

frames-said : (a b c d : ℕ) → ◌≡◌ {A = Result Sent Refusal} (Ok (sent_as a b)) (Ok (sent_as c d)) → b ≡ d
frames-said a b c d e = let s : sent_as a b ≡ sent_as c d = cc in ap (λ (x : Sent). x.frames) s

pub silent-leaves : SilentLeaves
unfolding reaction_of utterance_of
silent-leaves p o v s e =
    let x = reaction_of p o v in
    let n : length (payloads p x.does.core.options x.does.reply) ≡ 0 =
    frames-said _ _ 0 0 (sym (ap (λ (u : Utterance). u.answer) (says-reaction p o v s)) ∙ e) in
    (leaves p o v s).memory
    ∙ (reaction-does p o.chip.core o.memory (heard o.chip.collector) v).same (silence-only p x.does.core.options x.does.reply n)
