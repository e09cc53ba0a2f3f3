-- `tail` answers as the parser of what follows a rule's past does at each depth, one reader after another.
use Rattle.std.proofs.Common.{arith}
use Rattle.grammar.specs.Parser.{tail_of, pattern_of}
use Rattle.grammar.proofs.LevelLaws.{part_shorter, chain, chain_bad, mapped, at_depth, at_depths}
use Rattle.grammar.proofs.lines.tail.Goals as goal

pub returns-in_err-trigger : goal.returns-in_err-trigger
unfolding tail_of
returns-in_err-trigger c = rw c.from_residual.ensures (at_depths 2 _ _ _ (λ f q. chain_bad _ _ _ c.in_err-trigger.ensures))

pub returns-in_err-semicolon : goal.returns-in_err-semicolon
unfolding tail_of
returns-in_err-semicolon c =
    let l = part_shorter _ _ c.in_ok-trigger.ensures.shorter in
    rw c.from_residual-in_err-semicolon.ensures (at_depths 2 _ _ _ (λ f q. chain _ _ _ _ _ c.in_ok-trigger.ensures (λ _. chain_bad _ _ _ (at_depth 2 pattern_of _ _ f c.in_err-semicolon.ensures (omega arith)))))

pub returns-in_err-answer : goal.returns-in_err-answer
unfolding tail_of
returns-in_err-answer c =
    let l = part_shorter _ _ c.in_ok-trigger.ensures.shorter in
    rw c.from_residual-in_err-answer.ensures (at_depths 2 _ _ _ (λ f q. chain _ _ _ _ _ c.in_ok-trigger.ensures (λ _. chain _ _ _ _ _ (at_depth 2 pattern_of _ _ f c.in_ok-semicolon.ensures (omega arith))
    (λ _. chain_bad _ _ _ c.in_err-answer.ensures))))

pub returns : goal.returns
unfolding tail_of
returns c =
    let l = part_shorter _ _ c.in_ok-trigger.ensures.shorter in
    at_depths 2 _ _ _ (λ f q. chain _ _ _ _ _ c.in_ok-trigger.ensures (λ _. chain _ _ _ _ _ (at_depth 2 pattern_of _ _ f c.in_ok-semicolon.ensures (omega arith))
    (λ _. chain _ _ _ _ _ c.in_ok-answer.ensures (λ _. mapped _ _ _ _ c.response.ensures))))
