-- A fresh state represents the fresh machine.
-- Assumes nothing.
use Rattle.std.proofs.Common.{◌≡◌, refl, sym, ap, subst, ℕ, ◌<◌, arith, eqb, get_or}
use Rattle.lexer.specs.Class.{class_of, wordy}
use Rattle.lexer.specs.Words.{same, name_like, digit_kind, kind_of}
use Rattle.lexer.proofs.SameLaws.{same_refl}
use Rattle.names.specs.Name.{packed}
use Rattle.names.proofs.UnpackedLaws.{unpacked-name}
use Rattle.patterns.specs.Roles.{top_name}
use Rattle.patterns.proofs.AboveLaws.{gathered_top}
use Rattle.follow.specs.State.{fresh_state}
use Rattle.follow.specs.declared.state.Sheet.{Sheet}
use Rattle.follow.specs.declared.state.State.{State}
use Rattle.intake.specs.Machine.{fresh_machine}
use Rattle.intake.specs.Represents.{name_at, NameWord, Naming, rules-none, Represents}

top-word : NameWord top_name
unfolding kind_of same name_like digit_kind wordy class_of
top-word = record { name = refl; wordy = (refl, (refl, (refl, tt))) }

abbrev fresh : Sheet
fresh = fresh_state.sheet

top-is : name_at fresh 0 ≡ top_name
top-is = unpacked-name top_name top-word.name top-word.wordy

-- there is one role
first : (i : ℕ) → i < 1 → 0 ≡ i
first i l = omega arith

naming : Naming fresh
naming =
    record {
      few = omega arith;
      there = omega arith;
      some = omega arith;
      packed = λ i l. subst (λ (k : ℕ). get_or fresh.names k 0 ≡ packed (name_at fresh k)) (first i l) (ap packed (sym top-is));
      word = λ i l. subst (λ (k : ℕ). NameWord (name_at fresh k)) (first i l) (subst NameWord (sym top-is) top-word);
      distinct = λ i j l m. subst (λ (k : ℕ). same (name_at fresh k) (name_at fresh j) ≡ eqb k j) (first i l) (subst (λ (k : ℕ). same (name_at fresh 0) (name_at fresh k) ≡ eqb 0 k) (first j m) (same_refl (name_at fresh 0)));
      ordered = record { fits = omega arith; top = refl; up = λ i p l. absurd (omega arith) };
      gathered = gathered_top fresh.parents fresh.above refl;
    }

-- the state with `top` and no rule represents the fresh machine
pub fresh-represents : (f : State) → f ≡ fresh_state → Represents f fresh_machine
fresh-represents f e =
    subst (λ (g : State). Represents g fresh_machine) (sym e) (record { naming = naming; few = omega arith; roles = rw top-is refl; rules = rules-none })
