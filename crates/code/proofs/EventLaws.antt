-- The loop of `read`: the names read so far, and what is left.
-- Assumes nothing.
use Rattle.std.proofs.Common.{Some, None, Bor, ◌≡◌, refl, ap, sym, ◌∙◌, Bool, true, false, ◌||◌, List, [], ◌∷◌, ◌++◌, append_assoc, append-nil, map, ℕ, zero, suc, ◌+◌, ◌-◌, ◌<◌, ◌≤◌, arith, eqb, length, set, replicate, length-append}
use Rattle.std.proofs.Math.Bool.{or-false}
use Rattle.std.proofs.lemmas.List.{map-append, length-map}
use Rattle.common.specs.Limits.{event_size}
use Rattle.lexer.specs.Words.{kind_number}
use Rattle.lexer.specs.Tokens.{Token, word, mark, other, tokens}
use Rattle.lexer.specs.declared.words.WordKind.{WordKind}
use Rattle.lexer.specs.declared.words.WordKind.TheVariants as kinds
use Rattle.lexer.specs.declared.tokens.Lexeme.{Lexeme}
use Rattle.lexer.specs.declared.tokens.Lexeme.TheVariants.{Word, Mark, Other}
use Rattle.lexer.proofs.KindNumbers.{kind_number_same}
use Rattle.grammar.specs.AsRead.{Line, role, rule, event}
use Rattle.grammar.specs.Spell.{spell_line}
use Rattle.grammar.specs.Valid.{IsName, ValidLine, ValidNames}
use Rattle.grammar.specs.Lines.{Says, happens}
use Rattle.grammar.proofs.Language.{event-taken, event-refused}
use Rattle.code.specs.Code.{id_of, no_id, unheld_id, lacks}
use Rattle.code.specs.Events.{no_event, event_told, event_said, event_line_of, read_answer}
use Rattle.code.proofs.FrontLaws.{Begins}
use Rattle.code.proofs.Lacks.{lacks-append}
use Rattle.code.proofs.Filling.{filled_more}

-- the token is no name
abbrev NoName : Token → Type 0
NoName (word w) = IsName w → ⊥
NoName (mark b) = Unit {0}
NoName (other b) = Unit {0}

-- one name more
names_more : (k : ℕ) (ws : List (List ℕ)) (w : List ℕ) → ValidNames k ws → length ws < k → IsName w → ValidNames k (ws ++ (w ∷ []))
unfolding ValidNames
names_more zero ws w g l h = absurd (omega arith)
names_more (suc k) [] w g l h = (h, tt)
names_more (suc k) (v ∷ ws) w g l h = (g.0, names_more k ws w g.1 (omega arith) h)

-- an event has at most as many names
pub names-few : (k : ℕ) (ws : List (List ℕ)) → ValidNames k ws → length ws ≤ k
unfolding ValidNames
names-few zero [] g = omega arith
names-few zero (w ∷ ws) g = absurd g
names-few (suc k) [] g = omega arith
names-few (suc k) (w ∷ ws) g = let h = names-few k ws g.1 in omega arith

-- a token after some names of an event is a name, and there is room for it
name-left : (k : ℕ) (vs ws : List (List ℕ)) (t : Token) (ts : List Token) → ValidNames k vs → map word vs ≡ map word ws ++ (t ∷ ts) → (NoName t → ⊥) × (length ws < k)
unfolding ValidNames
name-left k [] [] t ts g e = let z : ◌≡◌ {A = ℕ} 0 1 = cc in absurd (omega arith)
name-left k [] (w ∷ ws) t ts g e = let z : ◌≡◌ {A = ℕ} 0 1 = cc in absurd (omega arith)
name-left zero (v ∷ vs) ws t ts g e = absurd g
name-left (suc k) (v ∷ vs) [] t ts g e = let q : word v ≡ t = cc in (rw (← q) (λ n. n g.0), omega arith)
name-left (suc k) (v ∷ vs) (w ∷ ws) t ts g e =
    let q : map word vs ≡ map word ws ++ (t ∷ ts) = cc in
    let h = name-left k vs ws t ts g.1 q in
    (h.0, omega arith)

-- so many ids are written, and this much of the text is left
pub record Going (ns s roles : List ℕ) (len : ℕ) (left : List ℕ) (unknown : Bool) : Type 0 where
  pub words : List (List ℕ)
  pub names : ValidNames event_size words
  pub seen : tokens s ≡ map word words ++ tokens left
  pub count : length words ≡ len
  pub small : len ≤ event_size
  pub ids : roles ≡ map (id_of ns) words ++ replicate (event_size - len) 0
  pub lacking : unknown ≡ lacks ns words

-- a text that says no event is told as none
told_none : (ns s : List ℕ) → ((vs : List (List ℕ)) → Says s (event vs) → ⊥) → no_event ≡ event_line_of ns s
unfolding event_said
told_none ns s f = rw ((event-refused s).1 none-says) refl
  where
    none-says : (l : Line) → happens l ≡ true → Says s l → ⊥
    none-says (role w p) d h = let z : ◌≡◌ {A = ℕ} 0 1 = cc in omega arith
    none-says (rule w p t x) d h = let z : ◌≡◌ {A = ℕ} 0 1 = cc in omega arith
    none-says (event vs) d h = f vs h

module _ (ns s : List ℕ) where
  pub going_start : (roles : List ℕ) → roles ≡ replicate event_size 0 → Going ns s roles 0 s false
  unfolding ValidNames lacks
  going_start roles h = record {
    words = [];
    names = tt;
    seen = refl;
    count = refl;
    small = omega arith;
    ids = h;
    lacking = refl;
  }

  -- a text that is not in the language is no event
  answered_none : no_event ≡ event_line_of ns s → None ≡ read_answer (event_line_of ns s)
  answered_none e = ap read_answer e

  module _ (roles : List ℕ) (len : ℕ) (left : List ℕ) (unknown : Bool) (g : Going ns s roles len left unknown) where
    pub going_more : (w : Bor (List ℕ)) (after : Bor (List ℕ)) (i : ℕ) (lacking : Bool) → Begins left (Some (Word kinds.Name w, after)) → i ≡ id_of ns w.now → len < event_size
        → (unknown || eqb i unheld_id) ≡ lacking → Going ns s (set roles len i) (len + 1) after.now lacking
    unfolding lacks kind_number
    going_more w after i lacking h q fits e =
        let v = w.now in
        let ws = g.words in
        record {
          words = ws ++ (v ∷ []);
          names = names_more event_size ws v g.names (omega (arith, g.count)) (sym h.2);
          seen =
              g.seen
              ∙ ap (λ (ts : List Token). map word ws ++ ts) h.1
              ∙ sym (append_assoc (map word ws) (word v ∷ []) (tokens after.now))
              ∙ ap (λ (ts : List Token). ts ++ tokens after.now) (sym (map-append word ws (v ∷ [])));
          count = omega (arith, g.count, length-append ws (v ∷ []));
          small = omega arith;
          ids =
              ap (λ (u : List ℕ). set u len i) g.ids
              ∙ filled_more event_size len i (map (id_of ns) ws) (length-map ws (id_of ns) ∙ g.count) fits
              ∙ ap (λ (u : List ℕ). u ++ replicate (event_size - (len + 1)) 0) (ap (λ (k : ℕ). map (id_of ns) ws ++ (k ∷ [])) q ∙ sym (map-append (id_of ns) ws (v ∷ [])));
          lacking =
              sym e
              ∙ ap (λ (u : Bool). u || eqb i unheld_id) g.lacking
              ∙ ap (λ (u : Bool). lacks ns ws || u) (ap (λ (k : ℕ). eqb k unheld_id) q ∙ sym (or-false (no_id ns v)))
              ∙ sym (lacks-append ns ws (v ∷ []));
        }

    -- no token is left: the names are an event
    told : Begins left None → record { fits = true; unknown = unknown; len = len; roles = roles } ≡ event_line_of ns s
    unfolding spell_line ValidLine event_said event_told
    told h =
        let says : Says s (event g.words) = record { valid = g.names; spelled = g.seen ∙ ap (λ (ts : List Token). map word g.words ++ ts) h ∙ append-nil (map word g.words) } in
        rw ((event-taken s (event g.words)).1 (says, refl), g.count, g.ids, g.lacking) refl

    pub going_end : Begins left None → Some (record { len = len; roles = roles }, unknown) ≡ read_answer (event_line_of ns s)
    going_end h = ap read_answer (told h)

    -- a token that is left is a name with room for it, where the text says an event
    left_over : (t : Token) (ts : List Token) → tokens left ≡ t ∷ ts → (vs : List (List ℕ)) → Says s (event vs) → (NoName t → ⊥) × (length g.words < event_size)
    unfolding spell_line ValidLine
    left_over t ts e vs h = name-left event_size vs g.words t ts h.valid (sym h.spelled ∙ g.seen ∙ ap (λ (us : List Token). map word g.words ++ us) e)

    -- a token that is no word
    pub going_mark : (l : Lexeme) (after : Bor (List ℕ)) → Begins left (Some (l, after)) → ((k : WordKind) (w : Bor (List ℕ)) → l ≡ Word k w → ⊥)
        → None ≡ read_answer (event_line_of ns s)
    going_mark (Word k w) after h z = absurd (z k w refl)
    going_mark (Mark b) after h z = answered_none (told_none ns s (λ vs says. (left_over _ _ h.1 vs says).0 tt))
    going_mark (Other b) after h z = answered_none (told_none ns s (λ vs says. (left_over _ _ h.1 vs says).0 tt))

    -- a word that is no name
    pub going_word : (k : WordKind) (w after : Bor (List ℕ)) → Begins left (Some (Word k w, after)) → (k ≡ kinds.Name → ⊥) → None ≡ read_answer (event_line_of ns s)
    unfolding kind_number
    going_word k w after h z = answered_none (told_none ns s (λ vs says. (left_over _ _ h.1 vs says).0 (λ n. z (kind_number_same k kinds.Name (h.2 ∙ n)))))

    -- a fifth name
    pub going_full : (w after : Bor (List ℕ)) → Begins left (Some (Word kinds.Name w, after)) → event_size ≤ len → None ≡ read_answer (event_line_of ns s)
    going_full w after h full = answered_none (told_none ns s (λ vs says. omega (arith, (left_over _ _ h.1 vs says).1, g.count)))
