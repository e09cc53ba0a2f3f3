-- A line of 126 bytes has at most 55 patterns in its past, and one has 55: each takes two bytes at least, and the rest of a rule line fifteen.
-- Assumes nothing.
use Rattle.std.proofs.Common.{◌≡◌, refl, Bool, true, false, List, [], ◌∷◌, ◌++◌, ℕ, zero, suc, ◌+◌, ◌*◌, ◌≤◌, arith, length, length-append, zero-le}
use Rattle.common.specs.All.{All}
use Rattle.common.proofs.AllLaws.{all_append}
use Rattle.lexer.specs.Class.{class_of, wordy, marky}
use Rattle.lexer.specs.Words.{rule_w, same, name_like, kind_of}
use Rattle.lexer.specs.Tokens.{Token, word, mark, other}
use Rattle.lexer.specs.Render.{render, render_from}
use Rattle.lexer.proofs.WordLaws.{Formed}
use Rattle.lexer.proofs.RenderLaws.{tokens-render}
use Rattle.grammar.specs.AsRead.{Items, close, star_close, item, Simple, any_event, items, Pattern, plain, bracketed, Past, only, either, Sequence, single, beside, Factor, starred, Base, pattern, nothing, group, Response, pass, hold, send, anew, Line, rule}
use Rattle.grammar.specs.Spell.{spell_item, spell_items, spell_simple, spell_condition, spell_pattern, spell_stars, spell_past, spell_sequence, spell_factor, spell_base, spell_response, spell_tail, spell_line}
use Rattle.grammar.specs.Size.{size_past, size_sequence, size_factor, size_base}
use Rattle.grammar.specs.Valid.{ValidItems, ValidSimple, ValidPattern, ValidPast, ValidSequence, ValidResponse, ValidLine}
use Rattle.grammar.specs.Lines.{Says}
use Rattle.grammar.specs.LineText.{line_text}
use Rattle.grammar.specs.LongestPast.{longest_past}
use Rattle.grammar.proofs.RenderedLines.{says_formed, rendered_short}

-- BYTES

-- the bytes of some tokens, without the spaces between them
abbrev bytes : List Token → ℕ
bytes [] = 0
bytes (word w ∷ ts) = length w + bytes ts
bytes (mark b ∷ ts) = suc (bytes ts)
bytes (other b ∷ ts) = suc (bytes ts)

-- of two lists of tokens
bytes-append : (a b : List Token) → bytes (a ++ b) ≡ bytes a + bytes b
bytes-append [] b = omega arith
bytes-append (word w ∷ a) b = let h = bytes-append a b in omega arith
bytes-append (mark c ∷ a) b = let h = bytes-append a b in omega arith
bytes-append (other c ∷ a) b = let h = bytes-append a b in omega arith

-- written out they take as many bytes, or more
bytes_written : (i : Bool) (ts : List Token) → bytes ts ≤ length (render_from i ts)
unfolding render_from
bytes_written i [] = zero-le
bytes_written true (word w ∷ ts) = let h = bytes_written true ts in let n = length-append w (render_from true ts) in omega arith
bytes_written false (word w ∷ ts) = let h = bytes_written true ts in let n = length-append w (render_from true ts) in omega arith
bytes_written i (mark b ∷ ts) = let h = bytes_written false ts in omega arith
bytes_written i (other b ∷ ts) = let h = bytes_written false ts in omega arith

-- FORM BY FORM

-- the end of some items is a byte
items_bytes : (is : Items) → 1 ≤ bytes (spell_items is)
unfolding spell_items
items_bytes close = omega arith
items_bytes star_close = omega arith
items_bytes (item i is) = let h = items_bytes is in let n = bytes-append (spell_item i) (spell_items is) in omega arith

simple_bytes : (p : Simple) → 2 ≤ bytes (spell_simple p)
unfolding spell_simple
simple_bytes any_event = omega arith
simple_bytes (items is) = let h = items_bytes is in omega arith

-- a pattern is two bytes at least
pattern_bytes : (p : Pattern) → 2 ≤ bytes (spell_pattern p)
unfolding spell_pattern
pattern_bytes (plain p) = simple_bytes p
pattern_bytes (bracketed c) = let n = bytes-append (spell_condition c) (mark 93 ∷ []) in omega arith

-- so is each pattern of a past
mutual
  unfolding spell_past size_past

  past_bytes : (p : Past) → 2 * size_past p ≤ bytes (spell_past p)
  past_bytes (only q) = sequence_bytes q
  past_bytes (either q p) =
      let h = sequence_bytes q in
      let k = past_bytes p in
      let n = bytes-append (spell_sequence q) (mark 43 ∷ spell_past p) in
      omega arith

  sequence_bytes : (q : Sequence) → 2 * size_sequence q ≤ bytes (spell_sequence q)
  sequence_bytes (single c) = factor_bytes c
  sequence_bytes (beside c q) =
      let h = factor_bytes c in
      let k = sequence_bytes q in
      let n = bytes-append (spell_factor c) (spell_sequence q) in
      omega arith

  factor_bytes : (c : Factor) → 2 * size_factor c ≤ bytes (spell_factor c)
  factor_bytes (starred b k) = let h = base_bytes b in let n = bytes-append (spell_base b) (spell_stars k) in omega arith

  base_bytes : (b : Base) → 2 * size_base b ≤ bytes (spell_base b)
  base_bytes (pattern p) = pattern_bytes p
  base_bytes nothing = omega arith
  base_bytes (group p) = let h = past_bytes p in let n = bytes-append (spell_past p) (mark 41 ∷ []) in omega arith

-- a response is four bytes at least
response_bytes : (x : Response) → 4 ≤ bytes (spell_response x)
unfolding spell_response
response_bytes pass = omega arith
response_bytes hold = omega arith
response_bytes (send xs) = omega arith
response_bytes (anew xs) = omega arith

-- what follows the past, eight
tail_bytes : (t : Pattern) (x : Response) → 8 ≤ bytes (spell_tail t x)
unfolding spell_tail
tail_bytes t x =
    let h = pattern_bytes t in
    let k = response_bytes x in
    let n = bytes-append (spell_pattern t) (mark 59 ∷ spell_response x) in
    omega arith

-- A WHOLE LINE

-- before the past stand `rule`, a space, a name and `:`, seven bytes at least
head_bytes : (w : List ℕ) (ts : List Token) → All Formed (word rule_w ∷ word w ∷ mark 58 ∷ ts) → 7 + bytes ts ≤ length (render (word rule_w ∷ word w ∷ mark 58 ∷ ts))
unfolding render_from
head_bytes [] ts h = absurd h.1.0
head_bytes (b ∷ w) ts h = let k = bytes_written false ts in let n = length-append w (58 ∷ render_from false ts) in omega arith

-- A text of 126 bytes at most that says a rule line says one with 55 patterns at most in its past: "A line of 126 bytes can't hold 64 patterns".
pub past_room : (s : List ℕ) (w : List ℕ) (p : Past) (t : Pattern) (x : Response) → length s ≤ 126 → Says s (rule w p t x) → size_past p ≤ longest_past
unfolding spell_line
past_room s w p t x few h =
    let a = rendered_short s (rule w p t x) h in
    let b = head_bytes w (spell_past p ++ spell_tail t x) (says_formed s (rule w p t x) h) in
    let n = bytes-append (spell_past p) (spell_tail t x) in
    let k = past_bytes p in
    let m = tail_bytes t x in
    omega arith

-- THE LONGEST

-- the shortest pattern, `<>`
abbrev shortest : Pattern
shortest = plain (items close)

-- n of it side by side, and one more
abbrev in_a_row : ℕ → Sequence
in_a_row zero = single (starred (pattern shortest) 0)
in_a_row (suc n) = beside (starred (pattern shortest) 0) (in_a_row n)

-- `rule a:<><> .. <>;<>;hold`, n + 1 patterns in its past
abbrev row_past : ℕ → Past
row_past n = only (in_a_row n)

abbrev row_line : ℕ → Line
row_line n = rule (97 ∷ []) (row_past n) shortest hold

row_valid : (n : ℕ) → ValidSequence (in_a_row n)
unfolding ValidPast ValidPattern ValidSimple ValidItems
row_valid zero = tt
row_valid (suc n) = (tt, row_valid n)

row_formed : (n : ℕ) → All Formed (spell_sequence (in_a_row n))
unfolding spell_past spell_stars spell_pattern spell_simple spell_items class_of marky
row_formed zero = (refl, (refl, tt))
row_formed (suc n) = (refl, (refl, row_formed n))

row_size : (n : ℕ) → size_sequence (in_a_row n) ≡ suc n
unfolding size_past
row_size zero = refl
row_size (suc n) = let h = row_size n in omega arith

-- the other tokens of its line
row_end : All Formed (spell_tail shortest hold)
unfolding spell_tail spell_pattern spell_simple spell_items spell_response class_of marky wordy
row_end = (refl, (refl, (refl, (refl, ((refl, (refl, (refl, (refl, tt)))), tt)))))

line_formed : (n : ℕ) → All Formed (spell_line (row_line n))
unfolding spell_line spell_past class_of marky wordy
line_formed n = ((refl, (refl, (refl, (refl, tt)))), ((refl, tt), (refl, all_append Formed (spell_sequence (in_a_row n)) (spell_tail shortest hold) (row_formed n) row_end)))

line_valid : (n : ℕ) → ValidLine (row_line n)
unfolding ValidLine ValidPast ValidPattern ValidSimple ValidItems ValidResponse kind_of same name_like class_of
line_valid n = (refl, (row_valid n, (tt, tt)))

-- Such a line there is: `rule a:`, `<>` 55 times, `;<>;hold`, 125 bytes.
pub longest_there_is : (s : List ℕ) × (n : List ℕ) × (p : Past) × (t : Pattern) × (x : Response) × (length s ≤ 126) × Says s (rule n p t x) × (size_past p ≡ longest_past)
unfolding render_from spell_line spell_past spell_tail spell_stars spell_pattern spell_simple spell_items spell_response size_past
longest_there_is =
    let said : Says (line_text (row_line 54)) (row_line 54) = record { valid = line_valid 54; spelled = tokens-render (spell_line (row_line 54)) (line_formed 54) } in
    let short : length (line_text (row_line 54)) ≡ 125 = refl in
    (line_text (row_line 54), 97 ∷ [], row_past 54, shortest, hold, omega arith, said, row_size 54)
