-- What is written is read back: a line's record is a line record, and its text is read as that line; a rule's code is written as its line's text.
-- Assumes nothing.
use Rattle.std.proofs.Common.{◌≡◌, refl, ap, sym, ◌∙◌, true, List, [], ◌∷◌, ◌++◌, map, ℕ, ◌-◌, ◌≤◌, arith, length, get_or, length-append, take_at}
use Rattle.std.proofs.Math.Option.{some}
use Rattle.std.proofs.lemmas.List.{get_or_at}
use Rattle.common.specs.All.{All}
use Rattle.lexer.specs.Class.{class_of, wordy, all_classed, Wordy}
use Rattle.lexer.specs.Words.{rule_w, kind_of, name_k}
use Rattle.lexer.specs.Tokens.{Token, word, mark}
use Rattle.lexer.specs.Render.{render_from, render}
use Rattle.lexer.proofs.WordLaws.{Formed}
use Rattle.lexer.proofs.RenderLaws.{tokens-render}
use Rattle.names.specs.Unpacked.{unpacked}
use Rattle.names.proofs.NameLaws.{name_shape}
use Rattle.grammar.specs.Trees as trees
use Rattle.grammar.specs.AsRead.{Line, role, rule}
use Rattle.grammar.specs.Rename.{map_past, map_pattern, map_response}
use Rattle.grammar.specs.Spell.{spell_line}
use Rattle.grammar.specs.Valid.{ValidResponse, ValidLine}
use Rattle.grammar.specs.Lines.{Says, declares, read_line}
use Rattle.grammar.specs.LineText.{line_text}
use Rattle.grammar.proofs.RenderedLines.{line_rendered, rendered_fits, rendered_classed}
use Rattle.code.specs.Trees.{code_rule}
use Rattle.frame.specs.Text.{text_of}
use Rattle.frame.specs.Record.{line_byte, newline, kind_by, frame_of}
use Rattle.frame.specs.Records.{record_of}
use Rattle.frame.specs.Record as frames
use Rattle.frame.proofs.FrameLaws.{frame_kind}
use Rattle.frame.proofs.RecordsLaws as made
use Rattle.columns.specs.Texts.{spaces, padded}
use Rattle.columns.proofs.PaddedLaws.{padded_cons, padded-length, padded-short}
use Rattle.render.specs.Decoded.{token_of, name_in, rule_text}
use Rattle.render.specs.Records.{line_record, text_record}
use Rattle.render.proofs.DecodeLaws.{rule_told}

module _ (b : ℕ) (s : List ℕ) where
  -- it is the record that byte 0 and the text make
  pub record_made : text_record b s ≡ record_of (b ∷ s)
  unfolding text_record padded
  record_made = ap (λ (v : List ℕ). v ++ (newline ∷ [])) (sym (padded_cons 126 b s))

  -- "records of 128 bytes again"
  pub record_length : length (text_record b s) ≡ 128
  record_length = ap length record_made ∙ made.record_length (b ∷ s)

  -- "Bytes 1 to 126 are the text."
  pub text_of_record : text_of (text_record b s) ≡ padded 126 s
  unfolding text_of text_record
  text_of_record = take_at (padded 126 s) (newline ∷ []) 126 (padded-length 126 s)

  -- byte 0
  pub record_first : get_or (text_record b s) 0 0 ≡ b
  unfolding text_record
  record_first = refl

  -- "Byte 127 is the newline, value 10."
  pub record_end : get_or (text_record b s) 127 0 ≡ newline
  unfolding text_record
  record_end = get_or_at (padded 126 s) newline [] 0 126 (padded-length 126 s)

-- a line that a text of a record says
module _ (s : List ℕ) (l : Line) (h : Says s l) (n : length s ≤ 126) where
  -- its text fits, so that what follows it is padding
  text-is : text_of (line_record l) ≡ line_text l ++ spaces (126 - length (line_text l))
  text-is = text_of_record line_byte (line_text l) ∙ padded-short 126 (line_text l) (rendered_fits s l h n)

  -- written out, it is read as that line
  pub record_read : declares l ≡ true → read_line (text_of (line_record l)) ≡ some l
  record_read d = ap read_line text-is ∙ line_rendered s l h (126 - length (line_text l)) d

  -- and its record is a line record: rows 2 and 3 do not refuse it
  pub record_framed : frame_of (line_record l) ≡ frames.Line
  unfolding kind_by
  record_framed =
      frame_kind (line_record l) (record_length line_byte (line_text l)) (record_end line_byte (line_text l)) (ap all_classed text-is ∙ rendered_classed s l h (126 - length (line_text l)))
      ∙ ap kind_by (record_first line_byte (line_text l))

-- a name is a token that a text can have
name_formed : (w : List ℕ) → kind_of w ≡ name_k → Wordy w → Formed (word w)
name_formed [] k h = absurd (omega (arith, (name_shape [] k).least))
name_formed (b ∷ w) k h = h

-- a role line of two names, whether or not a text has said it
module _ (w p : List ℕ) (k : kind_of w ≡ name_k) (h : Wordy w) (m : kind_of p ≡ name_k) (g : Wordy p) where
  -- its tokens are such as a text has
  role_formed : All Formed (spell_line (role w p))
  unfolding spell_line wordy class_of
  role_formed = ((refl, (refl, (refl, (refl, tt)))), (name_formed w k h, ((refl, (refl, (refl, (refl, (refl, tt))))), (name_formed p m g, tt))))

  -- its own text says it
  pub role-said : Says (line_text (role w p)) (role w p)
  unfolding ValidLine
  role-said = record { valid = (k, m); spelled = tokens-render (spell_line (role w p)) role_formed }

  -- "a word of 1 to 8 bytes": role and under have 9 bytes, two names at most 16, and three spaces stand between
  pub role-short : length (line_text (role w p)) ≤ 28
  unfolding spell_line render_from
  role-short =
      let a = (name_shape w k).most in
      let b = (name_shape p m).most in
      let e = length-append w (32 ∷ 117 ∷ 110 ∷ 100 ∷ 101 ∷ 114 ∷ 32 ∷ (p ++ [])) in
      let f = length-append p [] in
      omega arith

  -- so it always fits a record
  role-fits : length (line_text (role w p)) ≤ 126
  role-fits = omega (arith, role-short)

  -- its record is read as that role line
  pub role_read : read_line (text_of (line_record (role w p))) ≡ some (role w p)
  role_read = record_read (line_text (role w p)) (role w p) role-said role-fits refl

  -- and is a line record
  pub role-framed : frame_of (line_record (role w p)) ≡ frames.Line
  role-framed = record_framed (line_text (role w p)) (role w p) role-said role-fits

-- The text written from a rule's code is that of its line, with the names of the table.
pub rule-text : (ns : List ℕ) (name : ℕ) (code w : List ℕ) (p : trees.Past ℕ) (t : trees.Pattern ℕ) (x : trees.Response ℕ)
    → unpacked name ≡ w → code ≡ code_rule p t x → ValidResponse (map_response (name_in ns) x)
    → rule_text ns name code ≡ line_text (rule w (map_past (name_in ns) p) (map_pattern (name_in ns) t) (map_response (name_in ns) x))
unfolding spell_line
rule-text ns name code w p t x n e g =
    ap (λ (v : List ℕ). render (word rule_w ∷ word v ∷ mark 58 ∷ map (token_of (name_in ns)) code)) n
    ∙ ap (λ (ts : List Token). render (word rule_w ∷ word w ∷ mark 58 ∷ ts)) (ap (map (token_of (name_in ns))) e ∙ rule_told (name_in ns) p t x g)
