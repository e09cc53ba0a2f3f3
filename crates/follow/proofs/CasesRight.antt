-- The table of past cases is right, as a whole, of Appendix A; and positions, and the numbers that the code computes, give the same answers.
-- Assumes nothing.
use Rattle.std.proofs.Common.{◌≡◌, refl, sym, ◌∙◌, List, [], ◌∷◌, append-nil, ℕ, arith, length}
use Rattle.std.proofs.Math.Option.{Option, none, some}
use Prim.Native.String.{String}
use Rattle.lexer.specs.Class.{class_of, wordy, spacey, marky}
use Rattle.lexer.specs.Run.{run}
use Rattle.lexer.specs.Words.{kind_of, same, name_like, digit_kind}
use Rattle.lexer.specs.Tokens.{tokens, tokens_from}
use Rattle.grammar.specs.AsRead as read
use Rattle.grammar.specs.AsRead.{role, rule, event}
use Rattle.grammar.specs.Spell.{spell_past}
use Rattle.grammar.specs.Valid.{ValidPast}
use Rattle.grammar.specs.Parsed.{Parsed, none as failed, some as parsed, mark_is, word_is, wholly}
use Rattle.grammar.specs.Parser.{item_of, open_of, items_of, simple_of, condition_with, term_with, condition_of, pattern_of, stars_of, after_stars, begins, past_with, sequence_with, factor_with, base_with, past_of, names_of, event_of, depth}
use Rattle.grammar.specs.Lines.{read_event}
use Rattle.grammar.specs.Text.{bytes_of}
use Rattle.grammar.proofs.Spells.{Spells}
use Rattle.grammar.proofs.SoundPasts.{past_sound}
use Rattle.grammar.proofs.Language.{event-taken}
use Rattle.common.specs.All.{All}
use Rattle.patterns.specs.Roles.{is_below}
use Rattle.patterns.specs.Meets.{items_meet, term_meets, condition_meets, meets}
use Rattle.positions.specs.Matcher.{matches}
use Rattle.positions.specs.Summaries.{pat_summary, seq_summary, alt_summary, star_summary, summary, step_of, ends_of}
use Rattle.positions.proofs.Lists.{cons_head, cons_tail}
use Rattle.positions.proofs.Matching.{matches_iff}
use Rattle.follow.specs.Meaning.{past_meaning}
use Rattle.follow.specs.Cases.{Case, cases, further, Event, met, SaysPast, SaysEvents, says_none, says-more, Claim, read_past, joined, read_events, by_matcher, by_positions, by_numbers, answered, computed, printed, Agree}

-- what the parser reads to the end is what the text says
past-says : (s : List ℕ) (r : Parsed read.Past) (p : read.Past) → Spells ValidPast spell_past (tokens s) r → wholly r ≡ some p → SaysPast s p
unfolding wholly
past-says s failed p g e = let z : ◌≡◌ {A = ℕ} 0 1 = cc in absurd (omega arith)
past-says s (parsed q []) p g e = let h : q ≡ p = cc in rw (← h) (record { valid = g.it.0; spelled = g.it.1 ∙ append-nil (spell_past q) })
past-says s (parsed q (t ∷ ts)) p g e = let z : ◌≡◌ {A = ℕ} 0 1 = cc in absurd (omega arith)

events_say : (ss : List String) (es : List Event) → read_events ss ≡ some es → SaysEvents ss es
events_say [] [] e = says_none
events_say [] (a ∷ es) e = let z : ◌≡◌ {A = ℕ} 0 1 = cc in absurd (omega arith)
events_say (s ∷ ss) es e = go (read_event (bytes_of s)) refl (read_events ss) (λ as' i. events_say ss as' i) e
  where
    go : (l : Option read.Line) → read_event (bytes_of s) ≡ l → (r : Option (List Event)) → ((as' : List Event) → r ≡ some as' → SaysEvents ss as') → joined l r ≡ some es → SaysEvents (s ∷ ss) es
    go none h r i f = let z : ◌≡◌ {A = ℕ} 0 1 = cc in absurd (omega arith)
    go (some (role w p)) h r i f = let z : ◌≡◌ {A = ℕ} 0 1 = cc in absurd (omega arith)
    go (some (rule w p t x)) h r i f = let z : ◌≡◌ {A = ℕ} 0 1 = cc in absurd (omega arith)
    go (some (event a)) h none i f = let z : ◌≡◌ {A = ℕ} 0 1 = cc in absurd (omega arith)
    go (some (event a)) h (some as') i f =
        let q : a ∷ as' ≡ es = cc in
        rw (← q) (says-more ((event-taken (bytes_of s) (event a)).0 h).0 (i as' refl))

-- A case whose computed answer is the printed one claims what is so.
claim : (c : Case) → answered by_matcher (read_past c.past) (read_events c.events) ≡ some c.answer → Claim c
claim c = go (read_past c.past) refl (read_events c.events) refl
  where
    go : (p : Option read.Past) → read_past c.past ≡ p → (l : Option (List Event)) → read_events c.events ≡ l → answered by_matcher p l ≡ some c.answer → Claim c
    go none h l i e = let z : ◌≡◌ {A = ℕ} 0 1 = cc in absurd (omega arith)
    go (some p) h none i e = let z : ◌≡◌ {A = ℕ} 0 1 = cc in absurd (omega arith)
    go (some p) h (some l) i e =
        let q : matches met (past_meaning p) l ≡ c.answer = cc in
        let m = matches_iff met (past_meaning p) l in
        record {
          past = p;
          events = l;
          past_said = past-says (bytes_of c.past) (past_of (depth (length (bytes_of c.past))) (tokens (bytes_of c.past))) p (past_sound _ _) h;
          events_said = events_say c.events l i;
          right = (λ a. m.0 (q ∙ a), λ s. sym q ∙ m.1 s);
        }

claims : (cs : List Case) → computed by_matcher cs ≡ printed cs → All Claim cs
claims [] e = tt
claims (c ∷ cs) e = (claim c (cons_head e), claims cs (cons_tail e))

-- The computed test over both tables: every case, answered each way.
answers : Agree cases × Agree further
unfolding class_of wordy spacey marky run kind_of same name_like digit_kind tokens_from mark_is word_is wholly item_of open_of items_of simple_of condition_with term_with condition_of pattern_of stars_of after_stars begins past_with sequence_with factor_with base_with past_of names_of event_of read_event is_below items_meet term_meets condition_meets meets past_meaning pat_summary seq_summary alt_summary star_summary summary step_of ends_of
answers = ((refl, refl, refl), (refl, refl, refl))

-- "its correctness is proved of Appendix A's meaning as a whole table"
pub cases-right : All Claim cases
cases-right = claims cases answers.0.0

pub further-right : All Claim further
further-right = claims further answers.1.0

-- The positions answer every case as printed.
pub positions-answer : computed by_positions cases ≡ printed cases
positions-answer = answers.0.1

-- The numbers that the code computes answer every case as printed.
pub numbers-answer : computed by_numbers cases ≡ printed cases
numbers-answer = answers.0.2
