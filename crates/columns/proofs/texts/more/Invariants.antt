use Rattle.std.proofs.Common.{map, ◌≤◌, length, take}
use Rattle.names.specs.Unpacked.{unpacked}
use Rattle.columns.specs.Texts.{before}
use Rattle.columns.specs.Writing.{Writes}
use Rattle.columns.proofs.texts.more.Given as goal

abbrev pub invariant-loop-name : goal.invariant-loop-name
invariant-loop-name l = (l.name-index ≤ length l.names) × Writes l.at (before (map unpacked (take l.name-index l.names))) l.initial.out l.out l.next
