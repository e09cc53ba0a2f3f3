-- `response` answers as its parser does, one law for each pair of its words and one for none of them.
use Rattle.std.proofs.Common.{rules}
use Rattle.grammar.proofs.LevelResponses.{response_empty, response_other, response_alone, response_sent, response_word}
use Rattle.grammar.proofs.responses.response.Goals as goal
use Rattle.grammar.proofs.responses.response.Goals.{in_default-via-in-Word+in_default, in_default-via-in_default}

pub returns-in_err-token : goal.returns-in_err-token
returns-in_err-token c = rw c.from_residual.ensures (response_empty _ c.in_err-token.ensures)

pub returns-in-Word-Pass-default : goal.returns-in-Word-Pass-default
returns-in-Word-Pass-default c = response_alone _ _ _ _ (rw c.in-Word-Pass-default.is at c.in_ok-token.ensures) (λ f. grind rules)

pub returns-in-Word-Send-default : goal.returns-in-Word-Send-default
returns-in-Word-Send-default c = response_sent _ _ _ _ (rw c.in-Word-Send-default.is at c.in_ok-token.ensures) _ (λ f. grind rules) c.template.ensures

pub returns-in_default : goal.returns-in_default
returns-in_default c =
    elim c.in_default.branch [
      | in_default-via-in-Word+in_default w ↦
          response_word _ _ _ _ (rw w.in_default.is at c.in_ok-token.ensures) (λ e. search rules) (λ e. search rules) (λ e. search rules) (λ e. search rules)
      | in_default-via-in_default w ↦ response_other _ _ _ c.in_ok-token.ensures (λ k v e. search rules)
    ]
