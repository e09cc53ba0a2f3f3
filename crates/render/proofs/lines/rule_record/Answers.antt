-- `rule_record` meets its contract: `rule`, the name, `:` and the code's tokens one after the other over spaces, and the newline.
-- Assumes nothing.
use Rattle.render.proofs.RecordLaws.{rule-written}
use Rattle.render.proofs.lines.rule_record.Goals as goal

pub returns : goal.returns
returns c =
    rule-written c.args.names.now c.args.code.now c.args.name c.text-named.ensures c.word-colon.ensures c.put-body.ensures c.tokens.ensures
