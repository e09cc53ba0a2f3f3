-- `committed_reply` meets its contract.
-- Assumes nothing.
use Rattle.std.proofs.Common.{rules}
use Rattle.monitor.proofs.EventLaws.{committed_is}
use Rattle.monitor.proofs.events.committed_reply.Goals as goal

pub returns : goal.returns
returns c = committed_is _ _ _ _ _ _ _ _ _ c.reply.ensures c.role_names-words.ensures (search rules) (search rules)
