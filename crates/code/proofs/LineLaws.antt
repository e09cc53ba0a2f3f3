-- The parts of a line, put together; and what is told of a text that says a line.
-- Assumes nothing.
use Rattle.std.proofs.Common.{Option, Some, None, Bor, MatchOption, ◌≡◌, refl, ap, sym, ◌∙◌, Bool, true, false, List, [], ◌∷◌, ◌++◌, ℕ, ◌+◌, ◌≤◌, arith, leb, length, take, drop, length-drop, drop-drop, le-leb}
use Rattle.common.specs.Limits.{max_patterns}
use Rattle.lexer.specs.Class.{wordy, spacey, marky}
use Rattle.lexer.specs.Run.{run, after}
use Rattle.lexer.specs.Tokens.{Token, tokens, tokens_from, first_word, lexeme_of, Next}
use Rattle.lexer.specs.Lexeme.{Lexeme, End, Word, Mark, Other}
use Rattle.lexer.specs.First.{FirstToken, by_numbers, Parts}
use Rattle.lexer.specs.declared.tokens.Lexeme.{Lexeme as Found}
use Rattle.lexer.specs.declared.tokens.Lexeme.TheVariants as in_front
use Rattle.lexer.proofs.NextLaws.{next_means}
use Rattle.lexer.proofs.TokenLaws.{tokens_after_spaces, tokens-word, tokens-mark, tokens-other, tokens-length}
use Rattle.names.specs.Name.{packed}
use Rattle.names.specs.Place.{found}
use Rattle.grammar.specs.Trees as trees
use Rattle.grammar.specs.AsRead.{Past, Pattern, Response, rule, role}
use Rattle.grammar.specs.Rename.{map_past, map_pattern, map_response}
use Rattle.grammar.specs.Names.{rule_names}
use Rattle.grammar.specs.Size.{size_past}
use Rattle.grammar.specs.Spell.{spell_line}
use Rattle.grammar.specs.Valid.{ValidLine}
use Rattle.grammar.specs.Lines.{Says}
use Rattle.grammar.proofs.RenameLaws.{size-map}
use Rattle.code.specs.Code.{id_of, codes, any_unheld, lacks}
use Rattle.code.specs.Trees.{code_past, code_tail, code_rule}
use Rattle.code.specs.Encoded.{code_size, encoded_of}
use Rattle.code.specs.Lines.{left_by, after_first, leading_word, name_in, few_in, rule_line_of, role_line_of}
use Rattle.code.specs.declared.encode.Encoded.{Encoded}
use Rattle.code.specs.declared.lines.RuleLine.{RuleLine}
use Rattle.code.specs.declared.lines.RoleLine.{RoleLine}
use Rattle.code.proofs.CountLaws.{count-right}
use Rattle.code.proofs.Codes.{rule_code}
use Rattle.code.proofs.Lacks.{rule-lacks}
use Rattle.code.proofs.EncodeLaws.{encoded_small, encoded_fewer, encoded_codes, encoded_unknown}

-- what is left after the first token, by any answer of `next`
left_is : (s : List ℕ) (r : Option (Found × Bor (List ℕ))) → by_numbers r ≡ lexeme_of s → Parts s r → MatchOption r (s ≡ after_first s) (λ p. p.1.now ≡ after_first s)
unfolding after_first
left_is s None e p = ap (λ (m : Lexeme). left_by m s) e
left_is s (Some (in_front.Word k w, left)) e p = p.1 ∙ ap (λ (m : Lexeme). left_by m s) e
left_is s (Some (in_front.Mark b, left)) e p = p ∙ ap (λ (m : Lexeme). left_by m s) e
left_is s (Some (in_front.Other b, left)) e p = p ∙ ap (λ (m : Lexeme). left_by m s) e

pub after_first_is : {s : List ℕ} {r : Option (Found × Bor (List ℕ))} → FirstToken s r → MatchOption r (s ≡ after_first s) (λ p. p.1.now ≡ after_first s)
after_first_is {s} {r} h = left_is s r h.told h.parts

left-tokens : (s : List ℕ) (l : Lexeme) → Next s l → tokens (left_by l s) ≡ drop 1 (tokens s)
unfolding Next
left-tokens s End h = rw h refl
left-tokens s (Word k n) h = sym (ap (drop 1) h.1.2)
left-tokens s (Mark b n) h = sym (ap (drop 1) h.1)
left-tokens s (Other b n) h = sym (ap (drop 1) h.1)

-- it has the tokens after the first
one_dropped : (s r : List ℕ) → r ≡ after_first s → tokens r ≡ drop 1 (tokens s)
unfolding after_first
one_dropped s r e = ap tokens e ∙ left-tokens s (lexeme_of s) (next_means s (lexeme_of s) refl)

-- the word in front of a text is its first token, where that is a word
pub front_word : (s : List ℕ) → first_word s ≡ leading_word (tokens s)
unfolding run after tokens_from
front_word [] = refl
front_word (b ∷ s) = go (spacey b) (wordy b) (marky b) refl refl refl (front_word s)
  where
    stays : spacey b ≡ false → first_word (b ∷ s) ≡ run wordy (b ∷ s)
    stays e = rw e refl

    none : wordy b ≡ false → run wordy (b ∷ s) ≡ []
    none e = rw e refl

    go : (p w m : Bool) → spacey b ≡ p → wordy b ≡ w → marky b ≡ m → first_word s ≡ leading_word (tokens s) → first_word (b ∷ s) ≡ leading_word (tokens (b ∷ s))
    go true w m e h k ih =
        let q : after spacey (b ∷ s) ≡ after spacey s = rw e refl in
        ap (run wordy) q ∙ ih ∙ ap leading_word (sym (tokens_after_spaces s) ∙ ap tokens (sym q) ∙ tokens_after_spaces (b ∷ s))
    go false true m e h k ih = stays e ∙ sym (ap leading_word (tokens-word b s h))
    go false false true e h k ih = stays e ∙ none h ∙ sym (ap leading_word (tokens-mark b s k))
    go false false false e h k ih = stays e ∙ none h ∙ sym (ap leading_word (tokens-other b s k h e))

-- the parts put together

module _ (ns s second third fourth : List ℕ) (a : second ≡ after_first s) (b : third ≡ after_first second) (c : fourth ≡ after_first third) where
  fourth_is : tokens fourth ≡ drop 3 (tokens s)
  fourth_is =
      one_dropped third fourth c ∙ ap (drop 1) (one_dropped second third b ∙ ap (drop 1) (one_dropped s second a) ∙ drop-drop 1 1 (tokens s)) ∙ drop-drop 1 2 (tokens s)

  second_name : name_in 0 second ≡ name_in 1 s
  second_name = ap (λ (ts : List Token). packed (leading_word ts)) (one_dropped s second a)

  pub rule_read : (name : ℕ) (fits : Bool) (body : Encoded) → name ≡ name_in 0 second → body ≡ encoded_of ns (tokens fourth) → fits ≡ few_in body
      → record { name = name; fits = fits; body = body } ≡ rule_line_of ns s
  unfolding rule_line_of
  rule_read name fits body n e f =
      let q : body ≡ encoded_of ns (drop 3 (tokens s)) = e ∙ ap (encoded_of ns) fourth_is in
      let m = n ∙ second_name in
      let g = f ∙ ap few_in q in
      λ i. record { name = m i; fits = g i; body = q i }

  pub role_read : (name : ℕ) (parent : Option ℕ) (x : ℕ) → name ≡ name_in 0 second → x ≡ name_in 0 fourth → parent ≡ found x ns → record { name = name; parent = parent } ≡ role_line_of ns s
  unfolding role_line_of
  role_read name parent x n m f =
      let p = n ∙ second_name in
      let q : parent ≡ found (name_in 3 s) ns = f ∙ ap (λ (y : ℕ). found y ns) (m ∙ ap (λ (ts : List Token). packed (leading_word ts)) fourth_is) in
      λ i. record { name = p i; parent = q i }

-- what is told of a text that says a rule: its name; its code, that of its tree with ids; whether it names a role that has no id (refusal 6); whether its
-- patterns are few enough (refusal 7)
pub record RuleTold (ns w : List ℕ) (p : Past) (t : Pattern) (x : Response) (r : RuleLine) : Type 0 where
  pub small : r.body.len + 3 ≤ code_size  -- `rule NAME :` stands before the body
  pub name : r.name ≡ packed w
  pub code : take r.body.len r.body.code ≡ code_rule (map_past (id_of ns) p) (map_pattern (id_of ns) t) (map_response (id_of ns) x)
  pub unknown : r.body.unknown ≡ lacks ns (rule_names p t x)
  pub fits : r.fits ≡ leb (size_past p) max_patterns

-- a body that begins with a past is told few by the past's size
few-told : (body : Encoded) → body.len ≤ code_size → (p : trees.Past ℕ) (rest : List ℕ) → take body.len body.code ≡ code_past p ++ (59 ∷ rest) → few_in body ≡ leb (size_past p) max_patterns
unfolding few_in
few-told body l p rest e = rw (le-leb body.len code_size l) (ap (λ (m : ℕ). leb m max_patterns) (count-right _ p rest e))

pub rule_told : (ns s : List ℕ) → length s ≤ code_size → (w : List ℕ) (p : Past) (q : Pattern) (x : Response) → Says s (rule w p q x) → RuleTold ns w p q x (rule_line_of ns s)
unfolding rule_line_of spell_line ValidLine code_rule code_tail
rule_told ns s l w p q x h =
    let ts = drop 3 (tokens s) in
    let body_is = ap (drop 3) h.spelled in
    let short : length ts ≤ code_size = omega (arith, length-drop 3 (tokens s), tokens-length false s) in
    let g = h.valid in
    let k = encoded_codes ns ts short ∙ ap (codes ns) body_is ∙ rule_code ns p q x g.1.0 g.1.1.0 g.1.1.1 in
    record {
      small = let m = encoded_fewer ns ts in omega (arith, m, length-drop 3 (tokens s), tokens-length false s);
      name = ap (λ (us : List Token). packed (leading_word (drop 1 us))) h.spelled;
      code = k;
      unknown = encoded_unknown ns ts short ∙ ap (any_unheld ns) body_is ∙ rule-lacks ns p q x g.1.0 g.1.1.0 g.1.1.1;
      fits = few-told _ (encoded_small ns ts) (map_past (id_of ns) p) _ k ∙ ap (λ (m : ℕ). leb m max_patterns) (size-map (id_of ns) p);
    }

-- what is told of a text that says a role: its name, and the place of its parent among those held, where it is held
pub record RoleTold (ns w p : List ℕ) (r : RoleLine) : Type 0 where
  pub name : r.name ≡ packed w
  pub parent : r.parent ≡ found (packed p) ns

pub role-told : (ns s w p : List ℕ) → Says s (role w p) → RoleTold ns w p (role_line_of ns s)
unfolding role_line_of spell_line
role-told ns s w p h = record {
  name = ap (λ (us : List Token). packed (leading_word (drop 1 us))) h.spelled;
  parent = ap (λ (us : List Token). found (packed (leading_word (drop 3 us))) ns) h.spelled;
}
