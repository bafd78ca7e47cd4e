-- Document 02, §4, "Which fault, and at which byte?": that the place told is the place of the byte that is wrong, and that none is wrong before it in the order of
-- judging; and that the wire says what it said before. The judgement before it stands here as it was.
use Rattle.std.specs.Prelude.{Bool, false, not, true, List, ◌≢◌, ◌≡◌, ◌+◌, ◌-◌, ◌<◌, ◌≤◌, ℕ, eqb, get_or, length, take}
use Rattle.frame.specs.Frame.{counted, footer_byte, header_byte, is_frame, overhead}
use Rattle.frame.specs.Judgement.{fault_of, fitting, is_good, judge_of, status_of, summed}
use Rattle.frame.specs.Sum.{sum_of}
use Rattle.frame.specs.Wire.{judge_reply}
use Rattle.frame.specs.declared.Footer.{Footer}
use Rattle.frame.specs.declared.Footer.TheVariants.{Last}
use Rattle.frame.specs.declared.Header.TheVariants.{Data}
use Rattle.frame.specs.declared.judgement.Judgement.{Judgement}
use Rattle.frame.specs.declared.judgement.Judgement.TheVariants.{Good, UnfitLength, WrongFirst, WrongFooter, WrongSum}
use Rattle.words.specs.Words.{if◌then◌otherwise◌}

-- Where a frame's SUM and its footer lie, counted from the header.
abbrev pub sum_place : List ℕ → ℕ
sum_place bs = counted (get_or bs 1 0) + 2

abbrev pub footer_place : List ℕ → ℕ
footer_place bs = counted (get_or bs 1 0) + 3

-- What a judgement says of a frame: wrong footer, at the footer's place; wrong SUM, at the SUM's, with a footer that is right; unfit LEN, where the bytes are not
-- as many as LEN asks for; or nothing is wrong.
pub data Blamed (f : Footer) (bs : List ℕ) : Judgement → Type 0 where
  nothing : is_frame bs ≡ true → get_or bs (footer_place bs) 0 ≡ footer_byte f → get_or bs (sum_place bs) 0 ≡ sum_of (summed bs) → Blamed f bs Good
  footer : is_frame bs ≡ true → get_or bs (footer_place bs) 0 ≢ footer_byte f → Blamed f bs (WrongFooter (footer_place bs))
  sum : is_frame bs ≡ true → get_or bs (footer_place bs) 0 ≡ footer_byte f → get_or bs (sum_place bs) 0 ≢ sum_of (summed bs) → Blamed f bs (WrongSum (sum_place bs))
  len : is_frame bs ≡ false → Blamed f bs UnfitLength

abbrev pub PlaceIs : Type 0
PlaceIs = (f : Footer) (bs : List ℕ) → Blamed f bs (judge_of f bs)

-- A data frame of which n bytes are expected: LEN is judged last, at place 1, where footer and SUM are right.
pub data BlamedOf (n : ℕ) (f : Footer) (bs : List ℕ) : Judgement → Type 0 where
  fits : Blamed f bs Good → counted (get_or bs 1 0) ≡ n → BlamedOf n f bs Good
  other_len : Blamed f bs Good → counted (get_or bs 1 0) ≢ n → BlamedOf n f bs UnfitLength
  before : {j : Judgement} → is_good j ≡ false → Blamed f bs j → BlamedOf n f bs j

abbrev pub DataPlaceIs : Type 0
DataPlaceIs = (n : ℕ) (f : Footer) (bs : List ℕ) → BlamedOf n f bs (fitting n bs (judge_of f bs))

-- A reply frame of n bytes at the front of what came: first its first byte, then LEN (absent, another, the frame cut short or, as the last one, overlong), then
-- footer and SUM of the frame that LEN counts.
pub data Unfit (n : ℕ) (last : Bool) (bs : List ℕ) : Type 0 where
  absent : length bs < 2 → Unfit n last bs
  another : counted (get_or bs 1 0) ≢ n → Unfit n last bs
  cut : length bs < n + overhead → Unfit n last bs
  overlong : last ≡ true → n + overhead < length bs → Unfit n last bs

pub data BlamedReply (n : ℕ) (last : Bool) (bs : List ℕ) : Judgement → Type 0 where
  first : get_or bs 0 0 ≢ header_byte Data → BlamedReply n last bs WrongFirst
  unfit : get_or bs 0 0 ≡ header_byte Data → Unfit n last bs → BlamedReply n last bs UnfitLength
  frame : {j : Judgement} → get_or bs 0 0 ≡ header_byte Data → (Unfit n last bs → ⊥) → counted (get_or bs 1 0) ≡ n → is_frame (take (n + overhead) bs) ≡ true
      → Blamed Last (take (n + overhead) bs) j → BlamedReply n last bs j

abbrev pub ReplyPlaceIs : Type 0
ReplyPlaceIs = (n : ℕ) (last : Bool) (bs : List ℕ) → BlamedReply n last bs (judge_reply n last bs)

-- Places reach 259, the footer's of a frame with LEN 00h, and none is over it.
abbrev pub PlacesReach : Type 0
PlacesReach = (f : Footer) (bs : List ℕ) → get_or bs 1 0 < 256 → (fault_of (judge_of f bs)).place ≤ 259

-- The judgement before §4, as it was: it told no place.
pub data JudgedBefore : Type 0 where
  good : JudgedBefore
  wrong_footer : JudgedBefore
  wrong_sum : JudgedBefore
  unfit_length : JudgedBefore

unfoldable pub judge_before : Footer → List ℕ → JudgedBefore
judge_before f bs =
    if not (is_frame bs) then unfit_length
    otherwise if not (eqb (get_or bs (length bs - 1) 0) (footer_byte f)) then wrong_footer
    otherwise if not (eqb (get_or bs (length bs - 2) 0) (sum_of (summed bs))) then wrong_sum
    otherwise good

unfoldable pub fitting_before : ℕ → List ℕ → JudgedBefore → JudgedBefore
fitting_before n bs good = if eqb (length bs) (n + overhead) then good otherwise unfit_length
fitting_before n bs wrong_footer = wrong_footer
fitting_before n bs wrong_sum = wrong_sum
fitting_before n bs unfit_length = unfit_length

unfoldable pub status_before : JudgedBefore → ℕ
status_before good = 0x06
status_before wrong_footer = 0x15
status_before wrong_sum = 0x07
status_before unfit_length = 0x15

unfoldable pub good_before : JudgedBefore → Bool
good_before good = true
good_before wrong_footer = false
good_before wrong_sum = false
good_before unfit_length = false

-- "Wire bytes and the order of judging stay the same": the status is the one that it was, and the same frames are good.
pub record AsJudgedBefore (j : Judgement) (b : JudgedBefore) : Type 0 where
  pub status : status_of j ≡ status_before b
  pub good : is_good j ≡ good_before b

abbrev pub FrameJudgedAsBefore : Type 0
FrameJudgedAsBefore = (f : Footer) (bs : List ℕ) → AsJudgedBefore (judge_of f bs) (judge_before f bs)

abbrev pub DataJudgedAsBefore : Type 0
DataJudgedAsBefore = (n : ℕ) (f : Footer) (bs : List ℕ) → AsJudgedBefore (fitting n bs (judge_of f bs)) (fitting_before n bs (judge_before f bs))
