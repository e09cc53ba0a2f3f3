use Rattle.std.proofs.Common.{refl, rules}
use Rattle.lexer.specs.Words.{kind_number}
use Rattle.grammar.specs.Parsed.{word_is}
use Rattle.grammar.proofs.LeafLaws.{no_token, word-read, word-other}
use Rattle.grammar.proofs.leaves.word_at.Goals as goal

pub returns-in_err-token : goal.returns-in_err-token
unfolding word_is
returns-in_err-token c = rw c.from_residual.ensures (no_token _ (word_is (kind_number c.args.kind)) c.in_err-token.ensures refl)

pub returns-in-Word : goal.returns-in-Word
returns-in-Word c = rw c.then_some.ensures (word-read _ _ _ _ _ _ (rw c.in-Word.is at c.in_ok-token.ensures) (search rules, search rules))

pub returns-in_default : goal.returns-in_default
returns-in_default c = word-other _ _ _ _ c.in_ok-token.ensures c.in_default.not-Word
