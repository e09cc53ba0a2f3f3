-- `keep` meets its contract: the image in a buffer with room for it.
-- Assumes nothing.
use Rattle.std.proofs.Common.{arith}
use Rattle.snapshot.proofs.KeepLaws.{kept_whole}
use Rattle.snapshot.proofs.keeping.keep.Goals as goal

pub returns : goal.returns
returns c = kept_whole _ _ _ _ (omega arith) (omega arith) (omega arith) c.put_image.ensures
