-- The undisturbed flow of a job, written out: document 01, "The dock's flow". "Frames: 9Ah .., 00h, C0h .. Then per block, ascending: 32h with 00h; 22h if
-- that said 1Bh; 40h and four pages; 13h and four pages." Of each block a boolean says whether it was blank.
use Rattle.std.specs.Prelude.{Bool, false, true, List, [], ◌++◌, ◌∷◌, ◌≡◌, ◌*◌, ◌+◌, ◌≤◌, ℕ, leb, drop, length, take, Ok}
use Rattle.claims_dock.specs.Examples.{both, rate_said, say, signed_as, third}
use Rattle.claims_dock.specs.Stepping.{Course, results_in, stepping}
use Rattle.dock.specs.Calls.{begin_of}
use Rattle.dock_flow.specs.Flow.{Heard, flow}
use Rattle.dock_job.specs.Job.{blocks_of}
use Rattle.dock_job.specs.Refusals.{call_verdict}
use Rattle.dock_job.specs.declared.Job.{Job}
use Rattle.dock_job.specs.declared.Stage.TheVariants.{Over}
use Rattle.dock_job.specs.declared.refusals.Call.TheVariants.{Begins}
use Rattle.frame.specs.Frame.{data_frame, framed}
use Rattle.frame.specs.declared.Footer.{Footer}
use Rattle.frame.specs.declared.Footer.TheVariants.{Last, More}
use Rattle.frame.specs.declared.Header.TheVariants.{Command}
use Rattle.numbers.specs.Numbers.{low_first}
use Rattle.part.specs.Part.{Arrays}
use Rattle.part.specs.Signature.{signature}
use Rattle.words.specs.Words.{if◌then◌otherwise◌}

-- A command's frame by COM and information.
abbrev pub command_frame : List ℕ → List ℕ
command_frame bs = framed Command bs Last

-- "Frames: 9Ah .., 00h, C0h": the first with rate and supply.
abbrev pub setup_frames : Job → List (List ℕ)
setup_frames j = command_frame (0x9A ∷ j.rate ∷ j.supply ∷ []) ∷ command_frame (0x00 ∷ []) ∷ command_frame (0xC0 ∷ []) ∷ []

-- A block of 1,024 bytes, counted from 0: its first address, and its first and its last as they travel.
abbrev pub first_at : Job → ℕ → ℕ
first_at j k = j.start + k * 1024

abbrev pub from_to : Job → ℕ → List ℕ
from_to j k = low_first 3 (first_at j k) ++ low_first 3 (first_at j k + 1023)

-- The four pages of a block of the image, 256 bytes each: "then 03h on the last frame, else 17h".
abbrev pub image_page_frame : List ℕ → ℕ → ℕ → Footer → List ℕ
image_page_frame image k p f = data_frame (take 256 (drop (k * 1024 + p * 256) image)) f

abbrev pub four_pages : List ℕ → ℕ → List (List ℕ)
four_pages image k = image_page_frame image k 0 More ∷ image_page_frame image k 1 More ∷ image_page_frame image k 2 More ∷ image_page_frame image k 3 Last ∷ []

-- "32h with 00h; 22h if that said 1Bh; 40h and four pages; 13h and four pages."
unfoldable pub erase_frames : Job → ℕ → Bool → List (List ℕ)
erase_frames j k true = []
erase_frames j k false = command_frame (0x22 ∷ low_first 3 (first_at j k)) ∷ []

abbrev pub block_frames : Job → List ℕ → ℕ → Bool → List (List ℕ)
block_frames j image k was_blank =
    command_frame (0x32 ∷ from_to j k ++ 0x00 ∷ [])
    ∷ erase_frames j k was_blank
    ++ command_frame (0x40 ∷ from_to j k)
    ∷ four_pages image k
    ++ command_frame (0x13 ∷ from_to j k)
    ∷ four_pages image k

-- "per block, ascending", from block k on.
unfoldable pub frames_from : Job → List ℕ → ℕ → List Bool → List (List ℕ)
frames_from j image k [] = []
frames_from j image k (b ∷ bs) = block_frames j image k b ++ frames_from j image (k + 1) bs

abbrev pub all_frames : Job → List ℕ → List Bool → List (List ℕ)
all_frames j image blank = setup_frames j ++ frames_from j image 0 blank

-- The good answers: the part's clock and the supply's mode, 06h, the part's signature; and of each block 06h to everything, but 1Bh to 32h where it was not blank.
abbrev pub setup_answers : Job → List Heard
setup_answers j = rate_said j.part.clock (if leb 27 j.supply then 0x00 otherwise 0x01) ∷ say 0x06 ∷ signed_as (signature j.part) ∷ []

unfoldable pub blank_answers : Bool → List Heard
blank_answers true = say 0x06 ∷ []
blank_answers false = say 0x1B ∷ say 0x06 ∷ []

abbrev pub page_answers : Heard → List Heard
page_answers last = both 0x06 0x06 ∷ both 0x06 0x06 ∷ both 0x06 0x06 ∷ last ∷ []

abbrev pub block_answers : Bool → List Heard
block_answers was_blank = blank_answers was_blank ++ say 0x06 ∷ page_answers (third 0x06) ++ say 0x06 ∷ page_answers (both 0x06 0x06)

unfoldable pub answers_of : List Bool → List Heard
answers_of [] = []
answers_of (b ∷ bs) = block_answers b ++ answers_of bs

abbrev pub all_answers : Job → List Bool → List Heard
all_answers j blank = setup_answers j ++ answers_of blank

-- For every job and image: over the good answers exactly these frames are sent, in this order, no retry is spent, and the job is finished.
abbrev pub Undisturbed : Type 0
Undisturbed =
    (j : Job) (image : List ℕ) (blank : List Bool) → Arrays j.part → length blank ≡ blocks_of j
    → flow j image (all_answers j blank) ≡ record { sent = all_frames j image blank; spent = 0; place = Over (Ok tt) }

-- How many frames these are: three, and for each block eleven, and one more where it was not blank.
unfoldable pub erase_count : Bool → ℕ
erase_count true = 0
erase_count false = 1

unfoldable pub block_count : List Bool → ℕ
block_count [] = 0
block_count (b ∷ bs) = 11 + erase_count b + block_count bs

-- So of the dock, stepped in any room of 260 bytes: it hands out these frames, and reports one result, finished with that many frames and no retry.
pub record HandsOut (c : Course) (j : Job) (image : List ℕ) (blank : List Bool) : Type 0 where
  pub frames : c.sent ≡ all_frames j image blank
  pub result : results_in c.reports ≡ record { ending = Ok tt; frames = 3 + block_count blank; retries = 0 } ∷ []

abbrev pub UndisturbedDock : Type 0
UndisturbedDock =
    (j : Job) (image room : List ℕ) (blank : List Bool) → call_verdict j (length image) Begins ≡ Ok tt → 260 ≤ length room → Arrays j.part
    → length blank ≡ blocks_of j → HandsOut (stepping j image room (begin_of j image).dock (all_answers j blank)) j image blank
