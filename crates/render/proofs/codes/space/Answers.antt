-- `space` meets its contract: where no two words meet, nothing.
-- Assumes nothing.
use Rattle.render.proofs.CodeLaws.{gap_before_mark, gap_after_mark}
use Rattle.render.proofs.codes.space.Goals as goal
use Rattle.render.proofs.codes.space.Goals.{else-after-via-then-after+else-is_word, else-after-via-else-after}

pub returns : goal.returns
returns c =
    elim c.else-after.branch [
      | else-after-via-then-after+else-is_word w ↦ gap_before_mark _ _ _ _ w.if-after.true w.is_word.ensures w.if-is_word.false
      | else-after-via-else-after w ↦ gap_after_mark _ _ _ _ w.if-after.false
    ]
