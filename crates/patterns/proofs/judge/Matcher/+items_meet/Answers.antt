-- `items_meet` meets its contract: an item that its role does not meet. The laws named at the function close the rest.
-- Assumes nothing.
use Rattle.std.proofs.Common.{rules}
use Rattle.patterns.proofs.MetLaws.{unmet_below, unmet_exact}
use Rattle.patterns.proofs.judge.Matcher.+items_meet.Goals as goal

pub returns-else-names_role : goal.returns-else-names_role
returns-else-names_role t c = unmet_below _ _ _ _ _ c.in-Some.others.now (search rules) c.names_role.ensures (search rules) c.if-names_role.false

pub returns-else-names_role-2 : goal.returns-else-names_role-2
returns-else-names_role-2 t c =
    unmet_exact _ _ _ _ _ c.in-Some-split_first.others.now (search rules) (search rules) (search rules) c.names_role-in-len1-up.ensures (search rules) c.if-names_role-2.false
