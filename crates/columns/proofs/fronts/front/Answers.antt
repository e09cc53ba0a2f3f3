-- `front` meets its contract: a name has at most eight bytes, so column 13 is a space.
-- Assumes nothing.
use Rattle.names.proofs.UnpackedLaws.{unpacked-length}
use Rattle.columns.proofs.BlankLaws.{writes_front}
use Rattle.columns.proofs.fronts.front.Goals as goal

pub returns : goal.returns
returns c =
    let a = c.args in
    writes_front a.letter a.number (unpacked-length a.name) c.opening-start.ensures c.word-end.ensures c.blank.ensures
