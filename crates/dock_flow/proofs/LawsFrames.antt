-- Laws about frames put into the room and handed out.
-- Assumes nothing.
use mathlib.Core.Bool.{true}
use mathlib.Core.Path.{◌∙◌, ◌≡◌, ap, refl, sym}
use Rattle.commands.proofs.Laws.{com-rate, payload-most, payload-some}
use Rattle.commands.specs.Commands.{com_of, payload_of}
use Rattle.commands.specs.declared.Command.{Command}
use Rattle.dock_flow.specs.Frames.{Handing, frame_at, frame_of, handed, handing, page_bytes, page_footer, placed, placing, query_at, query_with, hand_of, work_frame}
use Rattle.dock_flow.specs.declared.frames.Query.{Query}
use Rattle.dock_job.proofs.Laws.{named-page-yes, no-page-named, stored_is, verified-is}
use Rattle.dock_job.specs.Refusals.{good_named_page, good_work}
use Rattle.dock_job.specs.declared.Setup.{Setup}
use Rattle.dock_job.specs.declared.Setup.TheVariants.{BaudRate, ResetChip, SiliconSignature}
use Rattle.dock_job.specs.declared.Stage.{Stage}
use Rattle.dock_job.specs.declared.Stage.TheVariants.{InBlock, Over, SetUp}
use Rattle.dock_job.specs.declared.Work.{Work}
use Rattle.dock_job.specs.declared.Work.TheVariants.{Blank, Erase, Program, ProgramPage, VerifyBlock, VerifyPage}
use Rattle.frame.specs.declared.Footer.TheVariants.{Last}
use Rattle.frame.specs.declared.wire.WriteError.{WriteError}
use Rattle.part.specs.declared.refusal.Refusal.{Refusal}
use Rattle.std.specs.Prelude.{Err, Ok, Result}
use Rattle.std.specs.Result.{result_unwrap_or}
use Rattle.dock_job.specs.Refusals.{call_verdict}
use Rattle.dock_job.specs.declared.Dock.{Dock}
use Rattle.dock_job.specs.declared.refusals.Call.TheVariants.{Asks}
use mathlib.Core.List.{List}
use Prim.Native.Nat.{◌*◌, ◌+◌, ◌-◌, ◌≤◌, ℕ}
use native.Mathlib.Omega.{arith}
use lib.ListN.{drop, length, length-drop, take}
use lib.Seq.{length-take-le}
use Rattle.frame.proofs.Laws.Wire.{framed-long, laid-lands, write-lands}
use Rattle.frame.specs.Frame.{data_frame, framed}
use Rattle.frame.specs.Wire.{Writing, write_of, wrote}
use Rattle.frame.specs.declared.Footer.{Footer}
use Rattle.frame.specs.declared.Header.{Header}
use Rattle.dock_job.specs.Job.{range_length, size_of}
use Rattle.dock_job.specs.declared.Job.{Job}
use Rattle.part.specs.Part.{page_size}

-- A frame that was written lies at the room's start.
pub places : (room : List ℕ) (h : Header) (ds : List ℕ) (f : Footer) (l : List ℕ) (a : Result ℕ WriteError) (n : ℕ) → wrote a l ≡ write_of room h ds f → 1 ≤ length ds
    → length ds ≤ 256 → length ds + 4 ≤ length room → n ≡ length ds + 4 → placed n l ≡ placing (framed h ds f) room
places room h ds f l a n e k m s w =
    rw (w, laid-lands room h ds f l a e k m s, framed-long h ds f)

-- A page of the image, lent as a part and written, lies there too.
pub page-placed : (j : Job) (image room l : List ℕ) (k p at g : ℕ) (f : Footer) (a : Result ℕ WriteError) → at ≡ k * size_of j + p * page_size → g ≡ page_size
    → f ≡ page_footer j p → at + page_size ≤ range_length j → length image ≡ range_length j → 260 ≤ length room
    → wrote a l ≡ write_of room Header.Data (take (at + g - at) (drop at image)) f → placed 260 l ≡ placing (data_frame (page_bytes j image k p) (page_footer j p)) room
page-placed j image room l k p at g f a e i o s m r w =
    let n : at + g - at ≡ page_size = omega arith in
    let ds = page_bytes j image k p in
    let q : take (at + g - at) (drop at image) ≡ ds =
    ap (λ (x : ℕ). take x (drop at image)) n ∙ ap (λ (x : ℕ). take page_size (drop x image)) e in
    let y : length ds ≡ page_size = length-take-le page_size (drop (k * size_of j + p * page_size) image) (rw length-drop (omega arith)) in
    places room Header.Data ds (page_footer j p) l a 260
    (w ∙ ap (λ (x : List ℕ). write_of room Header.Data x f) q ∙ ap (λ (x : Footer). write_of room Header.Data ds x) o) (omega arith) (omega arith) (omega arith) (omega arith)

-- A frame that was handed out was asked for by an accepted call.
pub sent-accepted : (j : Job) (image : List ℕ) (d : Dock) (room l : List ℕ) (n : ℕ) → handing (Ok n) l ≡ hand_of j image d room
    → call_verdict j (length image) (Asks d (length room)) ≡ Ok tt
unfolding hand_of handed
sent-accepted j image d room l n e = go (call_verdict j (length image) (Asks d (length room))) e
  where
    go : (v : Result Unit Refusal) → handing (Ok n) l ≡ handed v (placing (frame_at j image d.stage) room) room → v ≡ Ok tt
    go (Err r) e = let k : Ok n ≡ Err r = ap (λ (x : Handing). x.answer) e in cc
    go (Ok _) e = refl

-- Rate and supply change nothing of what is asked but the information of 9Ah.
pub record Alike (q r : Query) : Type 0 where
  pub cmd : com_of q.command ≡ com_of r.command
  pub page : q.page ≡ r.page
  pub block : q.block ≡ r.block
  pub form : q.form ≡ r.form

itself : (q : Query) → Alike q q
itself q = record { cmd = refl; page = refl; block = refl; form = refl }

pub alike : (a b c d : ℕ) (j : Job) (st : Stage) → Alike (query_with a b j st) (query_with c d j st)
unfolding query_with
alike a b c d j (SetUp BaudRate) = record { cmd = com-rate a b ∙ sym (com-rate c d); page = refl; block = refl; form = refl }
alike a b c d j (SetUp ResetChip) = itself _
alike a b c d j (SetUp SiliconSignature) = itself _
alike a b c d j (InBlock k Blank) = itself _
alike a b c d j (InBlock k Erase) = itself _
alike a b c d j (InBlock k Program) = itself _
alike a b c d j (InBlock k (ProgramPage p)) = itself _
alike a b c d j (InBlock k VerifyBlock) = itself _
alike a b c d j (InBlock k (VerifyPage p)) = itself _
alike a b c d j (Over e) = itself _

pub alike_is : (j : Job) (st : Stage) (q : Query) → q ≡ query_with 0 0 j st → Alike q (query_at j st)
alike_is j st q e = rw e (alike 0 0 j.rate j.supply j st)

-- The page that a good stage asks with is one of the block.
page-asked : (j : Job) (k : ℕ) (w : Work) → good_work j w ≡ true → good_named_page j (query_at j (InBlock k w)).page ≡ true
unfolding query_with
page-asked j k Blank g = no-page-named j
page-asked j k Erase g = no-page-named j
page-asked j k Program g = no-page-named j
page-asked j k (ProgramPage p) g = named-page-yes j p (stored_is j p g)
page-asked j k VerifyBlock g = no-page-named j
page-asked j k (VerifyPage p) g = named-page-yes j p (verified-is j p g)

pub page-good : (j : Job) (st : Stage) (k : ℕ) (w : Work) (q : Query) → q ≡ query_at j st → st ≡ InBlock k w → good_work j w ≡ true → good_named_page j q.page ≡ true
page-good j st k w q e f g = rw (e, f) (page-asked j k w g)

-- The frame of a stage by what is asked with it.
pub setup-frame : (j : Job) (image room : List ℕ) (st : Stage) (s : Setup) (q : Query) → q ≡ query_at j st → st ≡ SetUp s
    → placing (frame_of q.command) room ≡ placing (frame_at j image st) room
unfolding frame_at
setup-frame j image room st s q e f = rw (e, f)

pub block-frame : (j : Job) (image room : List ℕ) (st : Stage) (k : ℕ) (w : Work) (q : Query) → q ≡ query_at j st → st ≡ InBlock k w
    → placing (work_frame j image k q.page q.command) room ≡ placing (frame_at j image st) room
unfolding frame_at
block-frame j image room st k w q e f = rw (e, f)

-- A command's frame lies in a room of 260 bytes, with its length.
command-fits : (room l : List ℕ) (c : Command) (a : Result ℕ WriteError) → wrote a l ≡ write_of room Header.Command (payload_of c) Last → 260 ≤ length room
    → a ≡ Ok (length (payload_of c) + 4)
command-fits room l c a e r =
    let most = payload-most c in
    ap (λ (x : Writing). x.answer) (e ∙ write-lands room Header.Command (payload_of c) Last (payload-some c) (omega arith) (omega arith))

pub command-placed : (room l : List ℕ) (c : Command) (a : Result ℕ WriteError) (n : ℕ) → wrote a l ≡ write_of room Header.Command (payload_of c) Last → 260 ≤ length room
    → n ≡ result_unwrap_or a 0 → placed n l ≡ placing (frame_of c) room
command-placed room l c a n e r f =
    let most = payload-most c in
    let g : n ≡ length (payload_of c) + 4 = rw (command-fits room l c a e r) at f in
    places room Header.Command (payload_of c) Last l a n e (payload-some c) (omega arith) (omega arith) g
