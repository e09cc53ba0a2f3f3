-- The records of a file, handed on one after another.
-- Assumes nothing.
use Rattle.std.specs.Prelude.{◌≡◌, ℕ, ◌≤◌, ◌<◌, Bool, true, false, Option, List, [], length, take}
use Rattle.std.specs.List.{FoldsTo, concat}
use Rattle.std.specs.Fn.{CalledAt, Mut}
use Rattle.std.specs.Io.KnownBytes.{Consumes, IsAtEnd}
use denote.Ref.{Bor}
use Rattle.common.specs.All.{All}
use Rattle.input.specs.declared.records.Stop.{Stop}
use Rattle.input.specs.declared.records.Stop.TheVariants.{Ended, Unwritten, Counted}

-- the first n bytes of s are in bounds, and there are n of them. The second part follows from the first.
abbrev pub IsPrefixLen : ℕ → List ℕ → Type 0
IsPrefixLen n s = (n ≤ length s) × (n ≡ length (take n s))

module _ {F : Type 0} (g : Mut F (Bor (List ℕ) × Unit {0}) Bool) where
  -- a whole record is handed on in the state f, its answer is written, and f' is the state after it
  abbrev pub AnswersWhole : F → List ℕ → F → Type 0
  AnswersWhole f s f' = (length s ≡ 128) × CalledAt g f s true f'

  -- the record that stands after the whole ones is handed on in the state f, unless it has no byte; b says whether its answer is written
  abbrev pub AnswersLast : F → List ℕ → Bool → Type 0
  AnswersLast f s b = (f' : F) × CalledAt g f s b f'

  -- from the state f on n whole records are handed on, in order; then the state is f', and the file's bytes are those `after` them
  pub record WholeAnswered (f : F) (before after : Option (List ℕ)) (n : ℕ) (f' : F) : Type 0 where
    pub whole : List (List ℕ)
    pub count : length whole ≡ n
    pub bytes : Consumes before after (concat whole)
    pub answered : FoldsTo AnswersWhole f whole f'

  -- after n whole records the state is f, and `last` is what was read then: why that is all, where `after` is left in the file
  abbrev pub StopsAt : Option (List ℕ) → ℕ → F → List ℕ → Stop → Type 0
  StopsAt after n f last Ended = (length last < 128) × IsAtEnd after × (0 < length last → AnswersLast f last true)
  StopsAt after n f last Unwritten = (0 < length last) × (length last ≤ 128) × (length last < 128 → IsAtEnd after) × AnswersLast f last false
  StopsAt after n f last Counted = (last ≡ []) × (n ≡ 18446744073709551615)

  -- from the state f on every record is handed on, in order: first the whole ones, then the last one
  pub record HandedOn (f : F) (before after : Option (List ℕ)) (stop : Stop) : Type 0 where
    pub n : ℕ
    pub left : F
    pub between : Option (List ℕ)
    pub first : WholeAnswered f before between n left
    pub last : List ℕ
    pub bytes : Consumes between after last
    pub stops : StopsAt after n left last stop

-- after n whole records `last` is what was read: why that is all, with nothing said of the answers
abbrev pub ReadStops : Option (List ℕ) → ℕ → List ℕ → Stop → Type 0
ReadStops after n last Ended = (length last < 128) × IsAtEnd after
ReadStops after n last Unwritten = (0 < length last) × (length last ≤ 128) × (length last < 128 → IsAtEnd after)
ReadStops after n last Counted = (last ≡ []) × (n ≡ 18446744073709551615)

-- what was read of the file: whole records, and then the last one
pub record ReadOn (before after : Option (List ℕ)) (stop : Stop) : Type 0 where
  pub whole : List (List ℕ)
  pub long : All (λ s. length s ≡ 128) whole
  pub between : Option (List ℕ)
  pub first : Consumes before between (concat whole)
  pub last : List ℕ
  pub bytes : Consumes between after last
  pub stops : ReadStops after (length whole) last stop
