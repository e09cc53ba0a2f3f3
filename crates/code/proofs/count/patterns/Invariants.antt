use Rattle.std.proofs.Common.{◌≡◌, ◌+◌, ◌≤◌, false, drop}
use Rattle.code.specs.Count.{patterns_from}
use Rattle.code.proofs.count.patterns.Given as goal

abbrev pub invariant-loop-byte : goal.invariant-loop-byte
invariant-loop-byte l = (l.count ≤ l.byte-index) × (l.count + patterns_from l.inside (drop l.byte-index l.code) ≡ patterns_from false l.code)
