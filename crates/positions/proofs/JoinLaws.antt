-- Summaries put together in another order: three parts side by side, or three to choose from, come to the same from either end, and a star of a star
-- is a star.
-- Assumes nothing.
use Rattle.std.proofs.Common.{◌≡◌, refl, sym, ap, ◌∙◌, Bool, true, false, ◌&&◌, ◌||◌, ℕ, zero, suc, ◌%◌, ◌/◌, ◌^◌, ◌<◌, mod-lt, arith, eqb, bit_or}
use Rattle.std.proofs.Math.Bool.{and_assoc, or_assoc, and-false, or-false}
use lib.Bits.{or_zero_r}
use Rattle.std.proofs.lemmas.Nat.Bits.{same_from_bits}
use Rattle.common.specs.Sets.{has_at, only_if}
use Rattle.positions.specs.Summaries.{empty_summary, seq_summary, alt_summary, star_summary}
use Rattle.positions.specs.declared.summaries.Summary.{Summary}
use Rattle.common.proofs.SetLaws.{has_or, has_only_if}
use Rattle.positions.proofs.SummaryLaws.{or_same}

-- two binary digits that are 1 together are the same
digit_same : (x y : ℕ) → x < 2 → y < 2 → eqb x 1 ≡ eqb y 1 → x ≡ y
digit_same zero zero h k e = refl
digit_same zero (suc zero) h k e = let z : ◌≡◌ {A = ℕ} 0 1 = cc in absurd (omega arith)
digit_same zero (suc (suc y)) h k e = absurd (omega arith)
digit_same (suc zero) zero h k e = let z : ◌≡◌ {A = ℕ} 0 1 = cc in absurd (omega arith)
digit_same (suc zero) (suc zero) h k e = refl
digit_same (suc zero) (suc (suc y)) h k e = absurd (omega arith)
digit_same (suc (suc x)) y h k e = absurd (omega arith)

-- numbers with the same bits are equal
same_sets : (a b : ℕ) → ((k : ℕ) → has_at a k ≡ has_at b k) → a ≡ b
same_sets a b h = same_from_bits a b (λ k. digit_same (a / 2 ^ k % 2) (b / 2 ^ k % 2) (mod-lt (a / 2 ^ k) (omega arith)) (mod-lt (b / 2 ^ k) (omega arith)) (h k))

-- a number that may begin one of three
begin_three : (a1 an b1 bn c1 : Bool) → (a1 || an && b1) || (an && bn) && c1 ≡ a1 || an && (b1 || bn && c1)
begin_three true an b1 bn c1 = refl
begin_three false true b1 bn c1 = refl
begin_three false false b1 bn c1 = refl

-- an end of one of three
end_three : (al bl bn cl cn : Bool) → cl || cn && (bl || bn && al) ≡ (cl || cn && bl) || (bn && cn) && al
end_three al bl bn true cn = refl
end_three al true bn false true = refl
end_three al false true false true = refl
end_three al false false false true = refl
end_three al bl true false false = refl
end_three al bl false false false = refl

-- a number that the event leads to in one of three, or from one to a later one
move_three : (am af b1 bm bn bf c1 cm : Bool)
    → (am || (bm || af && b1)) || (cm || (bf || bn && af) && c1) ≡ am || ((bm || (cm || bf && c1)) || af && (b1 || bn && c1))
move_three true af b1 bm bn bf c1 cm = refl
move_three false af b1 true bn bf c1 cm = refl
move_three false true true false bn bf c1 true = refl
move_three false true true false true true true false = refl
move_three false true true false true true false false = refl
move_three false true true false true false c1 false = refl
move_three false true true false false true true false = refl
move_three false true true false false true false false = refl
move_three false true true false false false c1 false = refl
move_three false true false false bn bf c1 true = refl
move_three false true false false bn true true false = refl
move_three false true false false true true false false = refl
move_three false true false false false true false false = refl
move_three false true false false true false c1 false = refl
move_three false true false false false false c1 false = refl
move_three false false b1 false bn bf c1 true = refl
move_three false false b1 false bn true true false = refl
move_three false false b1 false bn true false false = refl
move_three false false b1 false true false c1 false = refl
move_three false false b1 false false false c1 false = refl

or_if : (a b : ℕ) (c : Bool) (k : ℕ) → has_at (bit_or a (only_if c b)) k ≡ has_at a k || c && has_at b k
or_if a b c k = or_same a (only_if c b) k refl (has_only_if c b k)

-- side by side
pub seq_assoc : (a b c : Summary) → seq_summary (seq_summary a b) c ≡ seq_summary a (seq_summary b c)
unfolding seq_summary
seq_assoc a b c =
    λ i. record {
      next = c.next;
      nullable = and_assoc a.nullable b.nullable c.nullable i;
      ending = end_three a.ending b.ending b.nullable c.ending c.nullable i;
      first = first i;
      moved = moved i;
      last = last i;
    }
  where
    first : bit_or (bit_or a.first (only_if a.nullable b.first)) (only_if (a.nullable && b.nullable) c.first)
        ≡ bit_or a.first (only_if a.nullable (bit_or b.first (only_if b.nullable c.first)))
    first =
        same_sets _ _ λ k.
        or_same _ _ k (or_if a.first b.first a.nullable k) (has_only_if (a.nullable && b.nullable) c.first k)
        ∙ begin_three (has_at a.first k) a.nullable (has_at b.first k) b.nullable (has_at c.first k)
        ∙ sym (or_if a.first (bit_or b.first (only_if b.nullable c.first)) a.nullable k ∙ ap (λ (x : Bool). has_at a.first k || a.nullable && x) (or_if b.first c.first b.nullable k))

    moved : bit_or (bit_or a.moved (bit_or b.moved (only_if a.ending b.first))) (bit_or c.moved (only_if (b.ending || b.nullable && a.ending) c.first))
        ≡ bit_or a.moved (bit_or (bit_or b.moved (bit_or c.moved (only_if b.ending c.first))) (only_if a.ending (bit_or b.first (only_if b.nullable c.first))))
    moved =
        same_sets _ _ λ k.
        or_same _ _ k (or_same a.moved _ k refl (or_if b.moved b.first a.ending k)) (or_if c.moved c.first (b.ending || b.nullable && a.ending) k)
        ∙ move_three (has_at a.moved k) a.ending (has_at b.first k) (has_at b.moved k) b.nullable b.ending (has_at c.first k) (has_at c.moved k)
        ∙ sym (or_same a.moved _ k refl
        (or_same _ _ k (or_same b.moved _ k refl (or_if c.moved c.first b.ending k))
        (has_only_if a.ending (bit_or b.first (only_if b.nullable c.first)) k ∙ ap (λ (x : Bool). a.ending && x) (or_if b.first c.first b.nullable k))))

    last : bit_or c.last (only_if c.nullable (bit_or b.last (only_if b.nullable a.last)))
        ≡ bit_or (bit_or c.last (only_if c.nullable b.last)) (only_if (b.nullable && c.nullable) a.last)
    last =
        same_sets _ _ λ k.
        or_if c.last (bit_or b.last (only_if b.nullable a.last)) c.nullable k ∙ ap (λ (x : Bool). has_at c.last k || c.nullable && x) (or_if b.last a.last b.nullable k)
        ∙ end_three (has_at a.last k) (has_at b.last k) b.nullable (has_at c.last k) c.nullable
        ∙ sym (or_same _ _ k (or_if c.last b.last c.nullable k) (has_only_if (b.nullable && c.nullable) a.last k))

-- `()` before a part changes nothing
pub seq_unit : (k : ℕ) (s : Summary) → seq_summary (empty_summary k) s ≡ s
unfolding seq_summary
seq_unit k s =
    λ i. record {
      next = s.next;
      nullable = s.nullable;
      ending = (ap (λ (b : Bool). s.ending || b) (and-false s.nullable) ∙ or-false s.ending) i;
      first = s.first;
      moved = or_zero_r s.moved i;
      last = (ap (bit_or s.last) (only_none s.nullable) ∙ or_zero_r s.last) i;
    }
  where
    only_none : (b : Bool) → only_if b 0 ≡ 0
    only_none true = refl
    only_none false = refl

-- either
union_assoc : (a b c : ℕ) → bit_or (bit_or a b) c ≡ bit_or a (bit_or b c)
union_assoc a b c =
    same_sets _ _ λ k.
    or_same _ c k (has_or a b k) refl ∙ or_assoc (has_at a k) (has_at b k) (has_at c k) ∙ sym (or_same a _ k refl (has_or b c k))

pub alt_assoc : (a b c : Summary) → alt_summary (alt_summary a b) c ≡ alt_summary a (alt_summary b c)
unfolding alt_summary
alt_assoc a b c =
    λ i. record {
      next = c.next;
      nullable = or_assoc a.nullable b.nullable c.nullable i;
      ending = or_assoc a.ending b.ending c.ending i;
      first = union_assoc a.first b.first c.first i;
      moved = union_assoc a.moved b.moved c.moved i;
      last = union_assoc a.last b.last c.last i;
    }

-- what is in a union already
or_again : (a b : Bool) → (a || b) || b ≡ a || b
or_again true b = refl
or_again false true = refl
or_again false false = refl

pub star_star : (s : Summary) → star_summary (star_summary s) ≡ star_summary s
unfolding star_summary
star_star s = λ i. record { next = s.next; nullable = true; ending = s.ending; first = s.first; moved = moved i; last = s.last }
  where
    moved : bit_or (bit_or s.moved (only_if s.ending s.first)) (only_if s.ending s.first) ≡ bit_or s.moved (only_if s.ending s.first)
    moved =
        same_sets _ _ λ k.
        or_same _ (only_if s.ending s.first) k (has_or s.moved (only_if s.ending s.first) k) refl
        ∙ or_again (has_at s.moved k) (has_at (only_if s.ending s.first) k)
        ∙ sym (has_or s.moved (only_if s.ending s.first) k)
