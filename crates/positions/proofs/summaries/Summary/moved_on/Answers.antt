use Rattle.positions.specs.Summaries.{step_of}
use Rattle.positions.proofs.summaries.Summary.moved_on.Goals as goal

pub returns : goal.returns
unfolding step_of
returns c = cc
