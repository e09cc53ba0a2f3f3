-- `head` answers as the parser of a rule line's head does, one reader after another.
use Rattle.lexer.specs.Words.{kind_number}
use Rattle.grammar.specs.Parser.{head_of}
use Rattle.grammar.proofs.LevelLaws.{chain, chain_bad, mapped}
use Rattle.grammar.proofs.lines.head.Goals as goal

pub returns-in_err-name : goal.returns-in_err-name
unfolding head_of kind_number
returns-in_err-name c = rw c.from_residual.ensures (chain_bad _ _ _ c.in_err-name.ensures)

pub returns-in_err-colon : goal.returns-in_err-colon
unfolding head_of kind_number
returns-in_err-colon c = rw c.from_residual-in_err-colon.ensures (chain _ _ _ _ _ c.in_ok-name.ensures (λ _. chain_bad _ _ _ c.in_err-colon.ensures))

pub returns : goal.returns
unfolding head_of kind_number
returns c = chain _ _ _ _ _ c.in_ok-name.ensures (λ _. chain _ _ _ _ _ c.in_ok-colon.ensures (λ _. mapped _ _ _ _ c.mark_at.ensures))
