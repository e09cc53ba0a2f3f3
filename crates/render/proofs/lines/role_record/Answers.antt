-- `role_record` meets its contract: the four parts one after the other over spaces, and the newline.
-- Assumes nothing.
use Rattle.render.proofs.RecordLaws.{role-written}
use Rattle.render.proofs.lines.role_record.Goals as goal

pub returns : goal.returns
returns c =
    role-written c.text-named.ensures c.word-under.ensures c.text-above.ensures c.word.ensures
