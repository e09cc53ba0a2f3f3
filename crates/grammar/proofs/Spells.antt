-- What it means that a parser gives what its tokens spell, and how that carries over where parsers are put together.
-- Assumes nothing.
use Rattle.std.proofs.Common.{◌≡◌, Bool, true, false, cond, List, ◌++◌}
use Rattle.lexer.specs.Tokens.{Token}
use Rattle.grammar.specs.Parsed.{Parsed, none, some, map, bind, choose}

-- what was read is good, and its tokens are those in front of the rest
abbrev SpellsAs : {A : Type 0} → (A → Type 0) → (A → List Token) → List Token → Parsed A → Type 0
SpellsAs good spell ts none = Unit {0}
SpellsAs good spell ts (some a rest) = good a × (ts ≡ spell a ++ rest)

pub record Spells {A : Type 0} (good : A → Type 0) (spell : A → List Token) (ts : List Token) (p : Parsed A) : Type 0 where
  pub it : SpellsAs good spell ts p

pub none_spells : {A : Type 0} (good : A → Type 0) (spell : A → List Token) (ts : List Token) → Spells good spell ts none
none_spells good spell ts = record { it = tt }

pub some_spells : {A : Type 0} (good : A → Type 0) (spell : A → List Token) (ts : List Token) (a : A) (rest : List Token) → good a → ts ≡ spell a ++ rest → Spells good spell ts (some a rest)
some_spells good spell ts a rest g e = record { it = (g, e) }

module _ {A B : Type 0} {goodA : A → Type 0} {spellA : A → List Token} {good : B → Type 0} {spell : B → List Token} {us ts : List Token} where
  pub bind_spells : (p : Parsed A) (k : A → List Token → Parsed B) → Spells goodA spellA us p
      → ((a : A) (rest : List Token) → goodA a → us ≡ spellA a ++ rest → Spells good spell ts (k a rest)) → Spells good spell ts (bind p k)
  bind_spells none k h g = record { it = tt }
  bind_spells (some a rest) k h g = g a rest h.it.0 h.it.1

  pub choose_spells : (p : Parsed A) (k : A → List Token → Parsed B) (d : Parsed B) → Spells goodA spellA us p
      → ((a : A) (rest : List Token) → goodA a → us ≡ spellA a ++ rest → Spells good spell ts (k a rest)) → Spells good spell ts d → Spells good spell ts (choose p k d)
  choose_spells none k d h g i = i
  choose_spells (some a rest) k d h g i = g a rest h.it.0 h.it.1

  pub map_spells : (f : A → B) (p : Parsed A) → Spells goodA spellA us p
      → ((a : A) (rest : List Token) → goodA a → us ≡ spellA a ++ rest → good (f a) × (ts ≡ spell (f a) ++ rest)) → Spells good spell ts (map f p)
  map_spells f none h g = record { it = tt }
  map_spells f (some a rest) h g = record { it = g a rest h.it.0 h.it.1 }

pub when_spells : {A : Type 0} {good : A → Type 0} {spell : A → List Token} {ts : List Token} (q : Bool) (p d : Parsed A) → Spells good spell ts p → Spells good spell ts d → Spells good spell ts (cond q p d)
when_spells true p d h g = h
when_spells false p d h g = g
