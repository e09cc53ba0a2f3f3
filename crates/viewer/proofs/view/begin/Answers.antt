use Rattle.viewer.proofs.FilmRight.{begun}
use Rattle.viewer.proofs.view.begin.Goals as goal

pub returns : goal.returns
returns c = begun _ c.new.ensures
