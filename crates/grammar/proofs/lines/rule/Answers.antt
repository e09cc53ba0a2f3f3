-- `rule` answers as the parser of rule lines does at each depth: the head, the past, the tail.
use Rattle.std.proofs.Common.{arith}
use Rattle.grammar.specs.Parser.{tail_of, rule_of, past_of}
use Rattle.grammar.proofs.LevelLaws.{part_shorter, chain, chain_bad, mapped, at_depth, at_depths}
use Rattle.grammar.proofs.lines.rule.Goals as goal

pub returns-in_err-body : goal.returns-in_err-body
unfolding rule_of
returns-in_err-body c = rw c.from_residual.ensures (at_depths 6 _ _ _ (λ f q. chain_bad _ _ _ c.in_err-body.ensures))

pub returns-in_err-trigger : goal.returns-in_err-trigger
unfolding rule_of
returns-in_err-trigger c =
    let l = part_shorter _ _ c.in_ok-body.ensures.shorter in
    rw c.from_residual-in_err-trigger.ensures (at_depths 6 _ _ _ (λ f q. chain _ _ _ _ _ c.in_ok-body.ensures (λ _. chain_bad _ _ _ (at_depth 6 past_of _ _ f c.in_err-trigger.ensures (omega arith)))))

pub returns : goal.returns
unfolding rule_of
returns c =
    let l = part_shorter _ _ c.in_ok-body.ensures.shorter in
    let m = part_shorter _ _ c.in_ok-trigger.ensures.shorter in
    at_depths 6 _ _ _ (λ f q. chain _ _ _ _ _ c.in_ok-body.ensures (λ _. chain _ _ _ _ _ (at_depth 6 past_of _ _ f c.in_ok-trigger.ensures (omega arith))
    (λ _. mapped _ _ _ _ (at_depth 2 tail_of _ _ f c.tail.ensures (omega arith)))))
