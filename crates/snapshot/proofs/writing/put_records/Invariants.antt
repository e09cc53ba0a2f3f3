use Rattle.std.proofs.Common.{◌≡◌, ◌<◌, List, ℕ}
use Rattle.columns.specs.Writing.{Writes}
use Rattle.snapshot.specs.Written.{first_of}
use Rattle.snapshot.proofs.writing.put_records.Given as goal

abbrev pub invariant-loop-i : goal.invariant-loop-i
invariant-loop-i g l = (f : ℕ → List ℕ) → ((i : ℕ) → i < l.count → (r : List ℕ) → goal.F-post g l.line i r → r ≡ f i) → Writes l.at (first_of f l.i) l.initial.out l.out l.next
