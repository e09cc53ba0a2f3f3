-- `rule_line` meets its contract: its parts are put together by `rule_read`.
-- Assumes nothing.
use Rattle.code.proofs.LineLaws.{rule_read}
use Rattle.code.proofs.lines.rule_line.Goals as goal

pub returns : goal.returns
returns c =
    rule_read _ _ _ _ _ c.after_first-named.ensures c.after_first-colon.ensures c.after_first.ensures _ _ _ c.leading-name.ensures c.encode-body.ensures c.few-fits.ensures
