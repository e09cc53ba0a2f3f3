use Rattle.std.proofs.Common.{rules}
use Rattle.positions.specs.Summaries.{seq_summary}
use Rattle.positions.proofs.summaries.Summary.in_order.Goals as goal

pub returns : goal.returns
unfolding seq_summary
returns c = search rules
