-- A host's calls as data, each with its outcome. `examples_right` of proofs/Examples.antt says that a round gives it.
-- Assumes nothing.
use Rattle.std.specs.Prelude.{◌≡◌, List, [], ◌∷◌, ◌++◌, map, ℕ, take, replicate}
use Rattle.book.specs.Decide.{Answer}
use Rattle.book.specs.Rounds.{HostImage, LentBatch, round_step}
use Rattle.book.specs.Examples.{Turn, turn}
use Rattle.book.specs.BatchExamples.{joined, records, lent}
use Rattle.book.specs.ImageExamples.{begun, begun_with, image_text, begun_image}

-- an image buffer of so many bytes, with some in front; the others are 7
abbrev held : ℕ → List ℕ → ℕ → HostImage
held n front used = record { buffer = take n (front ++ replicate n 7); used = used }

-- a batch of turns
abbrev batch_of : List Turn → LentBatch
batch_of rs = record { records = records rs; replies = lent rs }

-- what is handed back: the used number and the image buffer, and the number with the replies of the turns
abbrev handed_back : List ℕ → ℕ → List Turn → HostImage × Answer
handed_back front used rs = (held 16256 front used, record { number = 0; buffer = joined (λ r. r.answer.buffer) rs })

-- the first lines and an act from used 0, whatever bytes stand in the buffer; then the next act, from what the first call left; the bytes past the image stay
abbrev later : List Turn
later = turn "Eexpose" 0 "H 01 a" ∷ turn "Elamp" 0 "C 00 -        lamp" ∷ turn "Eexpose" 0 "C 00 -        expose" ∷ []

abbrev pub TwoRounds : Type 0
TwoRounds =
    (round_step (held 16256 [] 0) (batch_of begun) ≡ handed_back begun_image 5 begun)
    × (round_step (held 16256 begun_image 5) (batch_of later) ≡ handed_back (image_text (begun_with "Ma        0000000000000002")) 5 later)

-- a smaller image over a larger one: the last records of the larger one stay
abbrev pub Shrinks : Type 0
Shrinks = round_step (held 16256 begun_image 1) (batch_of []) ≡ handed_back begun_image 1 []

-- image buffer, used number, record bytes and reply bytes of no records, and the number
pub record RefusedRound : Type 0 where
  pub held : HostImage
  pub records : ℕ
  pub replies : ℕ
  pub number : ℕ

abbrev refused : ℕ → ℕ → ℕ → ℕ → ℕ → RefusedRound
refused n used s b k = record { held = held n begun_image used; records = s; replies = b; number = k }

-- "is 13 and is looked at first; then come 12 and 11": with a byte too few, and with used 128, where 12 and 11 are due too; used 4 has no record of marks, and 11 is due too;
-- used 5 is accepted
abbrev pub refused_rounds : List RefusedRound
refused_rounds =
    refused 16255 4 1 0 13
    ∷ refused 16256 128 1 0 13
    ∷ refused 16256 4 1 0 12
    ∷ refused 16256 5 1 0 11
    ∷ []

-- the number of the round
abbrev number_of : RefusedRound → ℕ
number_of x = (round_step x.held (record { records = replicate x.records 7; replies = replicate x.replies 7 })).1.number

-- is that one
abbrev pub RefusedRight : Type 0
RefusedRight = map number_of refused_rounds ≡ map (λ (x : RefusedRound). x.number) refused_rounds
