-- One more whole record, answered after those before it.
-- Assumes nothing.
use Rattle.std.proofs.Common.{◌≡◌, ℕ, ◌+◌, Bool, true, List, [], ◌∷◌, ◌++◌, length, sym, subst, ap, ◌∙◌, Option, length-append, append-nil}
use Rattle.std.specs.List.{FoldsTo, concat}
use Rattle.std.proofs.lemmas.Fn.{FoldsTo-push}
use Rattle.std.proofs.lemmas.List.Folds.{concat-append}
use Rattle.std.specs.Fn.{CalledAt, Mut}
use Rattle.std.specs.Io.KnownBytes.{Consumes}
use Rattle.std.proofs.KnownBytes.{Consumes-trans}
use denote.Ref.{Bor}
use Rattle.common.specs.All.{All}
use Rattle.input.specs.declared.records.Stop.{Stop}
use Rattle.input.specs.declared.records.Stop.TheVariants.{Ended, Unwritten, Counted}
use Rattle.input.specs.Records.{AnswersWhole, WholeAnswered, StopsAt, HandedOn, ReadStops, ReadOn}

module _ {F : Type 0} (g : Mut F (Bor (List ℕ) × Unit {0}) Bool) where
  -- one more
  pub whole_more : (f : F) (before mid after : Option (List ℕ)) (n : ℕ) (f' f'' : F) (s : List ℕ) → WholeAnswered g f before mid n f'
      → Consumes mid after s → length s ≡ 128 → CalledAt g f' s true f'' → WholeAnswered g f before after (n + 1) f''
  whole_more f before mid after n f' f'' s w read long called = record {
    whole = w.whole ++ (s ∷ []);
    count = length-append w.whole (s ∷ []) ∙ ap (λ k. k + 1) w.count;
    bytes = subst (Consumes before after) (sym (concat-append w.whole (s ∷ []) ∙ ap (λ l. concat w.whole ++ l) (append-nil s))) (Consumes-trans before mid after (concat w.whole) s w.bytes read);
    answered = FoldsTo-push (AnswersWhole g) f w.whole f' s f'' w.answered (long, called);
  }

  -- the records that are answered as whole ones are whole
  all_long : (f : F) (ws : List (List ℕ)) (f' : F) → FoldsTo (AnswersWhole g) f ws f' → All (λ s. length s ≡ 128) ws
  all_long f [] f' h = tt
  all_long f (s ∷ ws) f' h = (h.1.0, all_long h.0 ws f' h.2)

  stops-read : (after : Option (List ℕ)) (n m : ℕ) (f : F) (last : List ℕ) (stop : Stop) → n ≡ m → StopsAt g after n f last stop → ReadStops after m last stop
  stops-read after n m f last Ended e h = (h.0, h.1)
  stops-read after n m f last Unwritten e h = (h.0, h.1, h.2)
  stops-read after n m f last Counted e h = (h.0, sym e ∙ h.1)

  -- records that are handed on were read
  pub handed_read : (f : F) (before after : Option (List ℕ)) (stop : Stop) → HandedOn g f before after stop → ReadOn before after stop
  handed_read f before after stop h = record {
    whole = h.first.whole;
    long = all_long f h.first.whole h.left h.first.answered;
    between = h.between;
    first = h.first.bytes;
    last = h.last;
    bytes = h.bytes;
    stops = stops-read after h.n (length h.first.whole) h.left h.last stop (sym h.first.count) h.stops;
  }
