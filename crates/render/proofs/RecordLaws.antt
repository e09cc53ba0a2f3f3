-- A line written over spaces, and the newline after it: the record of that line.
-- Assumes nothing.
use Rattle.std.proofs.Common.{◌≡◌, refl, ap, sym, ◌∙◌, List, [], ◌∷◌, ◌++◌, append-nil, map, ℕ, zero, suc, zero-add, length, take, drop, set}
use Rattle.lexer.specs.Render.{render_from, render}
use Rattle.names.specs.Unpacked.{unpacked}
use Rattle.grammar.specs.AsRead.{role}
use Rattle.grammar.specs.Spell.{spell_line}
use Rattle.frame.specs.Record.{line_byte, newline}
use Rattle.columns.specs.Texts.{spaces, padded}
use Rattle.columns.specs.Writing.{laid, Writes}
use Rattle.columns.proofs.PaddedLaws.{padded_nil, padded_cons}
use Rattle.columns.proofs.WriteLaws.{writes_then}
use Rattle.render.specs.Decoded.{token_of, name_in, rule_text}
use Rattle.render.specs.Records.{line_record, text_record}

-- a text laid over spaces, and a byte in the last column: the text is padded up to there
over_spaces : (k c : ℕ) (w : List ℕ) → set (take (suc k) w ++ drop (length (take (suc k) w)) (spaces (suc k))) k c ≡ padded k w ++ (c ∷ [])
unfolding padded
over_spaces zero c [] = refl
over_spaces zero c (b ∷ w) = refl
over_spaces (suc k) c [] =
    ap (λ (v : List ℕ). 32 ∷ v) (over_spaces k c [] ∙ ap (λ (v : List ℕ). v ++ (c ∷ [])) (padded_nil k)) ∙ ap (λ (v : List ℕ). v ++ (c ∷ [])) (sym (padded_nil (suc k)))
over_spaces (suc k) c (b ∷ w) =
    ap (λ (v : List ℕ). b ∷ v) (over_spaces k c w) ∙ ap (λ (v : List ℕ). v ++ (c ∷ [])) (sym (padded_cons k b w))

-- "records of 128 bytes again": byte 0 and a text written from the start over 128 spaces, and then the newline
pub record_written : {b r : ℕ} {s left : List ℕ} → Writes 0 (b ∷ s) (spaces 128) left r → set left 127 newline ≡ text_record b s
unfolding laid text_record
record_written {b} {r} {s} {left} f =
    ap (λ (v : List ℕ). set v 127 newline) f.bytes
    ∙ rw (zero-add (length (take 128 (b ∷ s)))) (over_spaces 127 newline (b ∷ s) ∙ ap (λ (v : List ℕ). v ++ (newline ∷ [])) (padded_cons 126 b s))

-- "role, a name, under, a name": its record from its four parts
pub role-written : {p q r t : ℕ} {a b c d name parent : List ℕ} → Writes 0 (76 ∷ 114 ∷ 111 ∷ 108 ∷ 101 ∷ 32 ∷ []) (spaces 128) a p → Writes p name a b q
    → Writes q (32 ∷ 117 ∷ 110 ∷ 100 ∷ 101 ∷ 114 ∷ 32 ∷ []) b c r → Writes r parent c d t → set d 127 newline ≡ line_record (role name parent)
unfolding render_from spell_line
role-written {name = name} {parent = parent} f g h k = record_written (writes_then f (writes_then g (writes_then h k))) ∙ rw (append-nil parent) refl

-- "rule, a name, `:`, a past, `;`, a pattern (the trigger), `;`, a response": its record from `rule`, its name, `:` and what its code says
pub rule-written : {p q r t : ℕ} {a b c d : List ℕ} (ns code : List ℕ) (name : ℕ) → Writes 0 (76 ∷ 114 ∷ 117 ∷ 108 ∷ 101 ∷ 32 ∷ []) (spaces 128) a p
    → Writes p (unpacked name) a b q → Writes q (58 ∷ []) b c r → Writes r (render (map (token_of (name_in ns)) code)) c d t
    → set d 127 newline ≡ text_record line_byte (rule_text ns name code)
unfolding render_from
rule-written ns code name f g h k = record_written (writes_then f (writes_then g (writes_then h k)))
