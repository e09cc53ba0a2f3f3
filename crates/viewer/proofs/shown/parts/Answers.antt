use Rattle.std.proofs.Common.{length}
use Rattle.columns.specs.Kinds.{letter_of}
use Rattle.viewer.specs.Lines.{or_dash, listed}
use Rattle.viewer.proofs.WriteLaws.{writes_line}
use Rattle.viewer.proofs.shown.parts.Goals as goal

pub returns : goal.returns
returns c =
    let a = c.args in
    let rest = or_dash (listed a.names.now a.set (length a.names.now)) in
    writes_line (letter_of a.head.kind) a.head.number _ rest (rw c.letter-first.ensures at c.front-bar.ensures) c.put-list.ensures c.matched-end.ensures c.put.ensures
