-- The definitions give the lines of specs/Examples.antt, computed.
-- Assumes nothing.
use Rattle.std.proofs.Common.{refl}
use Rattle.lexer.specs.Class.{class_of, wordy, spacey, marky, all_classed}
use Rattle.lexer.specs.Run.{run}
use Rattle.lexer.specs.Words.{kind_of, same, name_like, digit_kind}
use Rattle.lexer.specs.Tokens.{tokens_from}
use Rattle.grammar.specs.Parsed.{mark_is, word_is, place_is, wholly}
use Rattle.grammar.specs.Parser.{item_of, open_of, items_of, simple_of, condition_with, term_with, condition_of, pattern_of, stars_of, after_stars, begins, past_with, sequence_with, factor_with, base_with, past_of, slot_of, slots_of, template_of, response_of, role_of, head_of, tail_of, rule_of, names_of, event_of}
use Rattle.grammar.specs.Lines.{read_line, read_event}
use Rattle.grammar.specs.Names.{items_names, simple_names, condition_names, pattern_names, past_names, slots_names, response_names, rule_names}
use Rattle.grammar.specs.Size.{size_past}
use Rattle.names.specs.Name.{column_of, packed, column_at}
use Rattle.names.specs.Unpacked.{not_space, unpacked}
use Rattle.columns.specs.Texts.{padded}
use Rattle.frame.specs.Text.{text_of}
use Rattle.frame.specs.Record.{kind_by, frame_of}
use Rattle.patterns.specs.Roles.{is_below}
use Rattle.patterns.specs.Meets.{items_meet, term_meets, meets}
use Rattle.follow.specs.Meaning.{past_meaning}
use Rattle.intake.specs.Asked.{is_free, asked_line, asked_event, asked_text, asked}
use Rattle.viewer.specs.Lines.{line_with, matched_in}
use Rattle.viewer.specs.Examples.{Said, starts, refusals}

pub examples_right : Said starts × Said refusals
unfolding class_of wordy spacey marky run kind_of same name_like digit_kind tokens_from mark_is word_is place_is wholly item_of open_of items_of simple_of condition_with term_with condition_of pattern_of stars_of after_stars begins past_with sequence_with factor_with base_with past_of slot_of slots_of template_of response_of role_of head_of tail_of rule_of names_of event_of read_line read_event items_names simple_names condition_names pattern_names past_names slots_names response_names rule_names size_past column_of packed column_at text_of all_classed kind_by frame_of is_below items_meet term_meets meets past_meaning is_free asked_line asked_event asked_text asked not_space unpacked padded line_with matched_in
examples_right = (refl, refl)
