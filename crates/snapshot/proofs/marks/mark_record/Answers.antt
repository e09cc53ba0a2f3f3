-- `mark_record` meets its contract: its parts one after the other, and the newline.
-- Assumes nothing.
use Rattle.names.proofs.UnpackedLaws.{unpacked-length}
use Rattle.snapshot.proofs.MarkLaws.{mark_written}
use Rattle.snapshot.proofs.marks.mark_record.Goals as goal

pub returns : goal.returns
returns c =
    mark_written c.args.digits c.args.marks (unpacked-length c.args.name) c.put-named.ensures c.word-end.ensures c.blank-start.ensures c.put_digits.ensures
