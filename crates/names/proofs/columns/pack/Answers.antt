-- `pack` meets its contract: the eight bytes are the word's columns.
-- Assumes nothing.
use Rattle.std.proofs.Common.{rules, arith}
use Rattle.names.specs.Name.{column_of}
use Rattle.names.proofs.ColumnLaws.{made_each, packed_joined}
use Rattle.names.proofs.columns.pack.Goals as goal

pub returns : goal.returns
returns c =
    packed_joined _ c.from_fn.result _
    (λ i h. made_each _ _ (column_of c.args.word.now) _ 0 8 (λ j y q called. search rules) c.from_fn.ensures.items.each i (omega arith) (omega arith))
    c.from_be_bytes.ensures
