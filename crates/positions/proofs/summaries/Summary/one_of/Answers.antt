use Rattle.std.proofs.Common.{rules}
use Rattle.positions.specs.Summaries.{alt_summary}
use Rattle.positions.proofs.summaries.Summary.one_of.Goals as goal

pub returns : goal.returns
unfolding alt_summary
returns c = search rules
