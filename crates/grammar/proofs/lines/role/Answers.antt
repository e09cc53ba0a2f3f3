-- `role` answers as the parser of role lines does, one reader after another.
use Rattle.lexer.specs.Words.{kind_number}
use Rattle.grammar.specs.Parser.{role_of}
use Rattle.grammar.proofs.LevelLaws.{chain, chain_bad, mapped}
use Rattle.grammar.proofs.lines.role.Goals as goal

pub returns-in_err-name : goal.returns-in_err-name
unfolding role_of kind_number
returns-in_err-name c = rw c.from_residual.ensures (chain_bad _ _ _ c.in_err-name.ensures)

pub returns-in_err-under : goal.returns-in_err-under
unfolding role_of kind_number
returns-in_err-under c = rw c.from_residual-in_err-under.ensures (chain _ _ _ _ _ c.in_ok-name.ensures (λ _. chain_bad _ _ _ c.in_err-under.ensures))

pub returns-in_err-parent : goal.returns-in_err-parent
unfolding role_of kind_number
returns-in_err-parent c =
    rw c.from_residual-in_err-parent.ensures (chain _ _ _ _ _ c.in_ok-name.ensures (λ _. chain _ _ _ _ _ c.in_ok-under.ensures (λ _. chain_bad _ _ _ c.in_err-parent.ensures)))

pub returns : goal.returns
unfolding role_of kind_number
returns c =
    chain _ _ _ _ _ c.in_ok-name.ensures (λ _. chain _ _ _ _ _ c.in_ok-under.ensures (λ _. chain _ _ _ _ _ c.in_ok-parent.ensures (λ _. mapped _ _ _ _ c.word_at-4.ensures)))
