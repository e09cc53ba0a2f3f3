-- The book gives the answers of specs/Examples.antt and the results of specs/BatchExamples.antt, ImageExamples.antt and RoundExamples.antt, computed.
-- Assumes nothing.
use Rattle.std.proofs.Common.{refl}
use Rattle.lexer.specs.Class.{class_of, wordy, spacey, marky, all_classed}
use Rattle.lexer.specs.Run.{run}
use Rattle.lexer.specs.Words.{kind_of, same, name_like, digit_kind}
use Rattle.lexer.specs.Tokens.{tokens_from}
use Rattle.lexer.specs.Render.{render_from}
use Rattle.grammar.specs.Parsed.{mark_is, word_is, place_is, wholly}
use Rattle.grammar.specs.Parser.{item_of, open_of, items_of, simple_of, condition_with, term_with, condition_of, pattern_of, stars_of, after_stars, begins, past_with, sequence_with, factor_with, base_with, past_of, slot_of, slots_of, template_of, response_of, role_of, head_of, tail_of, rule_of, names_of, event_of}
use Rattle.grammar.specs.Spell.{spell_item, spell_items, spell_simple, spell_condition, spell_term, spell_pattern, spell_stars, spell_past, spell_sequence, spell_factor, spell_base, spell_slot, spell_slots, spell_response, spell_tail, spell_line}
use Rattle.grammar.specs.Lines.{read_line, read_event}
use Rattle.grammar.specs.Names.{items_names, simple_names, condition_names, pattern_names, past_names, slots_names, response_names, rule_names}
use Rattle.grammar.specs.Size.{size_past}
use Rattle.frame.specs.Text.{text_of}
use Rattle.frame.specs.Record.{kind_by, frame_of}
use Rattle.patterns.specs.Roles.{is_below}
use Rattle.patterns.specs.Meets.{items_meet, term_meets, meets}
use Rattle.positions.specs.Summaries.{summary, pat_summary, seq_summary, alt_summary, star_summary, step_of, ends_of}
use Rattle.follow.specs.Meaning.{past_meaning}
use Rattle.render.specs.Records.{text_record}
use Rattle.chain.specs.Work.{fill_slot, fill, chain, respond, work, work_event}
use Rattle.reply.specs.Reply.{padded, spaced, reply_bytes}
use Rattle.intake.specs.Asked.{is_free, asked_line, asked_event, asked_text, asked}
use Rattle.intake.specs.Machine.{step_number}
use Rattle.book.specs.Decide.{decide, answer}
use Rattle.book.specs.Batches.{sizes_fit}
use Rattle.book.specs.Images.{hex_digit, hex_of, mark_record}
use Rattle.book.specs.Restoring.{hex_value, marks_in, read_mark, digits_of, record_marks, restored}
use Rattle.book.specs.Operations.{keep_fits, kept_in}
use Rattle.book.specs.Rounds.{room_fits, round_step}
use Rattle.book.specs.ImageExamples.{ImagesRight}
use Rattle.book.specs.RoundExamples.{TwoRounds, Shrinks, RefusedRight}
use Rattle.book.specs.BatchExamples.{Results, printed_batch, mixed, SizesRight}
use Rattle.book.specs.Examples.{Answered, printed, send_run, anew_run, lone_anew, four_hops, five_hops, refusals, starts, stuck, full}

pub examples_right : Answered printed × Answered send_run × Answered anew_run × Answered lone_anew × Answered four_hops × Answered five_hops × Answered refusals × Answered starts × Answered stuck × Answered full × Results printed_batch × Results mixed × SizesRight × ImagesRight × TwoRounds × Shrinks × RefusedRight
unfolding class_of wordy spacey marky run kind_of same name_like digit_kind tokens_from mark_is word_is place_is wholly item_of open_of items_of simple_of condition_with term_with condition_of pattern_of stars_of after_stars begins past_with sequence_with factor_with base_with past_of slot_of slots_of template_of response_of role_of head_of tail_of rule_of names_of event_of read_line read_event items_names simple_names condition_names pattern_names past_names slots_names response_names rule_names size_past text_of all_classed kind_by frame_of is_below items_meet term_meets meets past_meaning fill_slot fill chain respond work work_event padded spaced reply_bytes is_free asked_line asked_event asked_text asked decide answer sizes_fit render_from spell_item spell_items spell_simple spell_condition spell_term spell_pattern spell_stars spell_past spell_sequence spell_factor spell_base spell_slot spell_slots spell_response spell_tail spell_line summary pat_summary seq_summary alt_summary star_summary step_of ends_of step_number text_record hex_digit hex_of mark_record hex_value marks_in read_mark digits_of record_marks restored keep_fits kept_in room_fits round_step
examples_right = (refl, refl, refl, refl, refl, refl, refl, refl, refl, refl, refl, refl, refl, (refl, refl, refl, refl, refl, refl, refl), (refl, refl), refl, refl)
