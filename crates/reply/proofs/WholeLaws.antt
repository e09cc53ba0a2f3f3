-- A whole reply from its parts.
-- Assumes nothing.
use Rattle.std.proofs.Common.{◌≡◌, ap, ◌∙◌, List, [], ◌∷◌, ◌++◌, append_assoc, ℕ, ◌-◌, arith, length}
use Rattle.columns.specs.Texts.{spaces, padded, opening_of, front_of}
use Rattle.columns.specs.Writing.{Writes}
use Rattle.columns.proofs.WriteLaws.{writes_then}
use Rattle.columns.proofs.PaddedLaws.{padded-after, front_length}
use Rattle.columns.proofs.BlankLaws.{writes_closed}
use Rattle.reply.specs.Reply.{reply_bytes}

-- the front, the text and spaces up to the last column, and the newline
pub reply-written : {p q s r : ℕ} {lent front text blanks left : List ℕ} (a n : ℕ) (w x : List ℕ) → length lent ≡ 50
    → Writes 0 (front_of a n w) lent front p → Writes p x front text q → Writes q (spaces (49 - q)) text blanks s → Writes 49 (10 ∷ []) blanks left r
    → left ≡ reply_bytes a n w x
unfolding reply_bytes
reply-written a n w x e f g h k =
    let size = front_length a n w in
    writes_closed 49 10 (omega arith) (writes_then f g) h k
    ∙ ap (λ (v : List ℕ). v ++ (10 ∷ [])) (padded-after 49 35 (front_of a n w) x (omega arith))
    ∙ append_assoc (front_of a n w) (padded 35 x) (10 ∷ [])
    ∙ ap (λ (v : List ℕ). opening_of a n ++ v) (append_assoc (padded 8 w) (32 ∷ []) (padded 35 x ++ (10 ∷ [])))
