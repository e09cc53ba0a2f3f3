-- The lists of records that an image is made of: in declared order and back, one after the other and cut again, lines and what follows them.
-- Assumes nothing.
use Rattle.std.proofs.Common.{◌≡◌, refl, ap, ap₂, ◌∙◌, Bool, true, false, cond, List, [], ◌∷◌, ◌++◌, map, ℕ, ◌*◌, arith, length, get_or, length-append, take_at, drop_at, eqb-true}
use Rattle.std.proofs.lemmas.List.{map-append}
use mathlib.Core.List.{flatten}
use Rattle.std.proofs.Math.Option.{Option, none, some, none-ne-some}
use Rattle.common.specs.All.{All}
use Rattle.common.specs.Limits.{record_size}
use Rattle.frame.specs.Record.{line_byte}
use Rattle.frame.specs.Records.{records_of}
use Rattle.frame.proofs.RecordsLaws.{records-joined}
use Rattle.book.specs.MachineSteps.{PositionMachine}
use Rattle.book.specs.Images.{in_order, joined}
use Rattle.book.specs.Restoring.{and_then, is_line, line_records, other_records, take_line, take_lines}

-- DECLARED ORDER

module _ {A : Type 0} where
  -- the last of a list stands first in the other order
  order_end : (l : List A) (a : A) → in_order (l ++ (a ∷ [])) ≡ a ∷ in_order l
  order_end [] a = refl
  order_end (b ∷ l) a = ap (λ (x : List A). x ++ (b ∷ [])) (order_end l a)

  -- in declared order, and back
  pub order_twice : (l : List A) → in_order (in_order l) ≡ l
  order_twice [] = refl
  order_twice (a ∷ l) = order_end (in_order l) a ∙ ap (λ (x : List A). a ∷ x) (order_twice l)

  -- none is lost
  pub order_length : (l : List A) → length (in_order l) ≡ length l
  order_length [] = refl
  order_length (a ∷ l) = let n = length-append (in_order l) (a ∷ []) in let h = order_length l in omega arith

-- what is made of each, in order
pub order_map : {A B : Type 0} (f : A → B) (l : List A) → map f (in_order l) ≡ in_order (map f l)
order_map f [] = refl
order_map f (a ∷ l) = map-append f (in_order l) (a ∷ []) ∙ ap (λ x. x ++ (f a ∷ [])) (order_map f l)

-- RECORDS IN A ROW

-- "records of 128 bytes again"
abbrev pub Whole : List ℕ → Type 0
Whole r = length r ≡ record_size

-- the bytes of whole records
pub joined_length : (rs : List (List ℕ)) → All Whole rs → length (joined rs) ≡ record_size * length rs
joined_length [] h = refl
joined_length (r ∷ rs) h = let n = length-append r (joined rs) in let k = joined_length rs h.1 in let w = h.0 in omega arith

-- whole records in a row, cut again
pub joined_cut : (rs : List (List ℕ)) → All Whole rs → records_of (length rs) (joined rs) ≡ rs
joined_cut [] h = refl
joined_cut (r ∷ rs) h =
    ap₂ (λ (x : List ℕ) (y : List (List ℕ)). x ∷ y) (take_at r (joined rs) record_size h.0) (ap (records_of (length rs)) (drop_at r (joined rs) record_size h.0) ∙ joined_cut rs h.1)

-- records in a row are the library's flat list
joined_flat : (rs : List (List ℕ)) → joined rs ≡ flatten rs
unfolding flatten
joined_flat [] = refl
joined_flat (r ∷ rs) = ap (λ (l : List ℕ). r ++ l) (joined_flat rs)

-- a buffer cut into records, put in a row again
pub cut_joined : (n : ℕ) (s : List ℕ) → length s ≡ n * record_size → joined (records_of n s) ≡ s
cut_joined n s h = joined_flat (records_of n s) ∙ records-joined n s (omega (arith, h))

-- LINES, AND WHAT FOLLOWS THEM

-- a record of byte `L`
abbrev pub IsLine : List ℕ → Type 0
IsLine r = is_line r ≡ true

-- it is none
abbrev pub NoLine : List ℕ → Type 0
NoLine r = is_line r ≡ false

-- where no line stands
no_lines : (ms : List (List ℕ)) → All NoLine ms → (line_records ms ≡ []) × (other_records ms ≡ ms)
no_lines [] h = (refl, refl)
no_lines (m ∷ ms) h = (ap (λ (q : Bool). cond q (m ∷ line_records ms) []) h.0, ap (λ (q : Bool). cond q (other_records ms) (m ∷ ms)) h.0)

-- lines, and records after them that are none: the lines
pub lines-first : (ls ms : List (List ℕ)) → All IsLine ls → All NoLine ms → line_records (ls ++ ms) ≡ ls
lines-first [] ms h k = (no_lines ms k).0
lines-first (l ∷ ls) ms h k = ap (λ (q : Bool). cond q (l ∷ line_records (ls ++ ms)) []) h.0 ∙ ap (λ (x : List (List ℕ)). l ∷ x) (lines-first ls ms h.1 k)

-- and those after them
pub others-last : (ls ms : List (List ℕ)) → All IsLine ls → All NoLine ms → other_records (ls ++ ms) ≡ ms
others-last [] ms h k = (no_lines ms k).1
others-last (l ∷ ls) ms h k = ap (λ (q : Bool). cond q (other_records (ls ++ ms)) (l ∷ (ls ++ ms))) h.0 ∙ others-last ls ms h.1 k

-- records are the lines in front and what follows them
pub split_lines : (rs : List (List ℕ)) → rs ≡ line_records rs ++ other_records rs
split_lines [] = refl
split_lines (r ∷ rs) = go (is_line r) (split_lines rs)
  where
    go : (q : Bool) → rs ≡ line_records rs ++ other_records rs → r ∷ rs ≡ cond q (r ∷ line_records rs) [] ++ cond q (other_records rs) (r ∷ rs)
    go true h = ap (λ (l : List (List ℕ)). r ∷ l) h
    go false h = refl

-- the lines in front have byte `L`
pub lines_lined : (rs : List (List ℕ)) → All (λ r. get_or r 0 0 ≡ line_byte) (line_records rs)
lines_lined [] = tt
lines_lined (r ∷ rs) = go (is_line r) refl (lines_lined rs)
  where
    go : (q : Bool) → is_line r ≡ q → All (λ r. get_or r 0 0 ≡ line_byte) (line_records rs) → All (λ r. get_or r 0 0 ≡ line_byte) (cond q (r ∷ line_records rs) [])
    go true e h = (eqb-true (get_or r 0 0) line_byte e, h)
    go false e h = tt

-- WHAT IS MADE OF THEM

-- something comes of both, or of neither
pub then_some : {A B : Type 0} (o : Option A) (f : A → Option B) (b : B) → and_then o f ≡ some b → (a : A) × (o ≡ some a) × (f a ≡ some b)
then_some none f b e = absurd (none-ne-some b e)
then_some (some a) f b e = (a, refl, e)

-- first some lines and then others
pub take-append : (us vs : List (List ℕ)) (t : PositionMachine) → take_lines t (us ++ vs) ≡ and_then (take_lines t us) (λ u. take_lines u vs)
take-append [] vs t = refl
take-append (u ∷ us) vs t = go (take_line t u) (λ w. take-append us vs w)
  where
    go : (o : Option PositionMachine) → ((w : PositionMachine) → take_lines w (us ++ vs) ≡ and_then (take_lines w us) (λ x. take_lines x vs))
        → and_then o (λ w. take_lines w (us ++ vs)) ≡ and_then (and_then o (λ w. take_lines w us)) (λ x. take_lines x vs)
    go none h = refl
    go (some w) h = h w
