-- Laws of the marks of rules, each by its record: what one record gives, and the loop over all.
-- Assumes nothing.
use Rattle.std.proofs.Common.{◌≡◌, ap, ◌∙◌, false, List, ℕ, ◌<◌, length, get_or}
use Rattle.std.proofs.Math.Option.{Option, some}
use Rattle.names.specs.Unpacked.{unpacked}
use Rattle.code.specs.Count.{patterns_from}
use Rattle.follow.specs.Rows.{row_at, code_of}
use Rattle.book.specs.Restoring.{record_marks}
use Rattle.snapshot.specs.Reading.{mark_at}

-- ONE RULE

-- what is read by a rule's name, its code and its record, each as the code finds it
pub mark_by : (rule_names rows records : List ℕ) (i : ℕ) (name n : ℕ) (row code bytes : List ℕ) (o : Option ℕ) → name ≡ get_or rule_names i 0 → row ≡ row_at rows i → code ≡ code_of row
    → n ≡ patterns_from false code → bytes ≡ row_at records i → o ≡ record_marks (unpacked name) n bytes → o ≡ mark_at rule_names rows records i
unfolding mark_at
mark_by rule_names rows records i name n row code bytes o a b c d e h =
    let q : n ≡ patterns_from false (code_of (row_at rows i)) = d ∙ ap (patterns_from false) (c ∙ ap code_of b) in
    rw (a, q, e) at h

-- ALL RULES

module _ (mark : ℕ → Option ℕ) (n : ℕ) (before : List ℕ) where
  -- the places of the first n rules, with the marks of the rules before i read
  pub record Going (held : List ℕ) (i : ℕ) : Type 0 where
    pub long : length held ≡ n
    pub each : (k : ℕ) → k < i → mark k ≡ some (get_or held k 0)
