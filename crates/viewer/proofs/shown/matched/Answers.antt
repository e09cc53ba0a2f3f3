use Rattle.std.proofs.Common.{length}
use Rattle.viewer.specs.Lines.{listed}
use Rattle.viewer.proofs.WriteLaws.{writes_dash}
use Rattle.viewer.proofs.shown.matched.Goals as goal

pub returns-then-next-at : goal.returns-then-next-at
returns-then-next-at c =
    let a = c.args in
    writes_dash (listed a.names.now a.set (length a.names.now)) c.if-next-at.true c.those_in-next.ensures c.text.ensures
