-- The layouts of a part and of a job: what is written is read back the same, bytes that are read are written back the same, and no part that document 01
-- describes is shut out.
-- Assumes nothing.
use mathlib.Core.Bool.{true}
use mathlib.Core.List.{List, ◌++◌, ◌∷◌}
use mathlib.Core.Path.{◌∙◌, ◌≡◌, ap, refl}
use Prim.Native.Nat.{◌+◌, ◌<◌, ◌≤◌, ℕ}
use native.Mathlib.Omega.{arith}
use lib.ListN.{drop, get_or, length, take}
use lib.Seq.{take-add, take_all}
use borrow.Author.Tests.{leb-true}
use Rattle.claims_door.proofs.Back.{together, together-is}
use Rattle.claims_door.specs.Described.{HeldJob, InBytes, job_bytes, part_bytes}
use Rattle.dock_job.specs.declared.Job.{Job}
use Rattle.dock_layout.specs.Job.{job_in}
use Rattle.numbers.proofs.Laws.{bytes-are, low-number}
use Rattle.numbers.specs.Numbers.{bytes_at, low_first, number_at}
use Rattle.part.specs.Part.{Arrays, described}
use Rattle.part.specs.declared.Part.{Part}
use Rattle.part_layout.specs.Layout.{part_in, part_size}
use Rattle.words.proofs.Laws.{and_left, and_right}
use Rattle.words.specs.Words.{◌from◌to◌}

whole : {k : ℕ} (bs : List ℕ) → length bs ≡ k → bytes_at k 0 bs ≡ bs
whole {k} bs h = bytes-are k 0 bs (omega arith) ∙ take_all k bs (omega arith)

abbrev made : ℕ → ℕ → ℕ → List ℕ → List ℕ → List ℕ → Part
made code extra clock device name version =
    record { code_blocks = code; data_blocks = extra; clock = clock; device = device; name = name; version = version }

back : {d n v : List ℕ} (code extra clock : ℕ) (device name version : List ℕ) → bytes_at 3 0 device ≡ d → bytes_at 10 0 name ≡ n → bytes_at 3 0 version ≡ v
    → part_in (code ∷ extra ∷ clock ∷ d ++ n ++ v) ≡ made code extra clock d n v
unfolding part_in bytes_at
back code extra clock device name version e f g = rw (← e, ← f, ← g)

pub part-read-back : (p : Part) → Arrays p → part_in (part_bytes p) ≡ p
unfolding part_bytes
part-read-back p a =
    back p.code_blocks p.data_blocks p.clock p.device p.name p.version (whole p.device a.device_long) (whole p.name a.name_long)
    (whole p.version a.version_long)

one_by_one : (bs : List ℕ) → part_bytes (part_in bs) ≡ bytes_at 19 0 bs
unfolding part_bytes part_in bytes_at
one_by_one bs = refl

pub part-written-back : (bs : List ℕ) → length bs ≡ part_size → part_bytes (part_in bs) ≡ bs
part-written-back bs h = one_by_one bs ∙ whole bs h

-- "Code flash: 8 to 64 blocks .. Data flash: 0 to 8 blocks .. Clock 1 to 32."
pub described-in-bytes : (p : Part) → described p ≡ true → InBytes p
unfolding described ◌from◌to◌
described-in-bytes p e =
    let c : p.code_blocks ≤ 64 = leb-true _ _ (and_right _ _ (and_left _ _ e)) in
    let d : p.data_blocks ≤ 8 = leb-true _ _ (and_right _ _ (and_left _ _ (and_right _ _ e))) in
    let k : p.clock ≤ 32 = leb-true _ _ (and_right _ _ (and_right _ _ (and_right _ _ e))) in
    record { code = omega arith; extra = omega arith; clock = omega arith }

abbrev made_job : Part → ℕ → ℕ → ℕ → ℕ → ℕ → Job
made_job part start end rate supply retries = record { part = part; start = start; end = end; rate = rate; supply = supply; retries = retries }

job : {p q : Part} {s t e f : ℕ} (rate supply retries : ℕ) → p ≡ q → s ≡ t → e ≡ f → made_job p s e rate supply retries ≡ made_job q t f rate supply retries
job rate supply retries h i k = rw (h, i, k)

pub job-read-back : (j : Job) → HeldJob j → job_in (part_bytes j.part) (job_bytes j) ≡ j
unfolding job_in job_bytes low_first number_at together
job-read-back j h =
    job j.rate j.supply j.retries (part-read-back j.part h.arrays) (together-is 4 j.start h.start) (together-is 4 j.end h.end)

joined : (bs : List ℕ) → length bs ≡ 11 → take 4 bs ++ take 4 (drop 4 bs) ++ take 3 (drop 8 bs) ≡ bs
joined bs h = rw (← take-add 4 4 bs, ← take-add 8 3 bs) (take_all 11 bs (omega arith))

pub job-written-back : (part bs : List ℕ) → length bs ≡ 11 → ((i : ℕ) → get_or bs i 0 < 256) → job_bytes (job_in part bs) ≡ bs
unfolding job_bytes job_in bytes_at
job-written-back part bs h b =
    rw (low-number 4 0 bs b (omega arith), low-number 4 4 bs b (omega arith))
    (ap (λ (l : List ℕ). take 4 bs ++ take 4 (drop 4 bs) ++ l) (bytes-are 3 8 bs (omega arith)) ∙ joined bs h)
