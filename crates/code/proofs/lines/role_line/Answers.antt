-- `role_line` meets its contract: its parts are put together by `role_read`.
-- Assumes nothing.
use Rattle.code.proofs.LineLaws.{role_read}
use Rattle.code.proofs.lines.role_line.Goals as goal

pub returns : goal.returns
returns c =
    role_read _ _ _ _ _ c.after_first-second.ensures c.after_first-under.ensures c.after_first.ensures _ _ _ c.leading-name.ensures c.leading.ensures c.find-parent.ensures
