-- When a state represents a machine of names, trees and positions (specs/Machine.antt): its ids stand for the names, its codes for the rules' trees, its
-- numbers are the positions. What is promised of a state is promised of one that represents such a machine: a fresh one does, and every record keeps it.
-- Assumes nothing.
use Rattle.std.specs.Prelude.{◌≡◌, List, [], ◌∷◌, ℕ, suc, ◌≤◌, ◌<◌, ◌^◌, eqb, length, take, get_or}
use Rattle.common.specs.Limits.{max_patterns, max_roles, max_rules}
use Rattle.lexer.specs.Words.{same, kind_of, name_k}
use Rattle.lexer.specs.Class.{Wordy}
use Rattle.grammar.specs.AsRead.{rule}
use Rattle.grammar.specs.Rename.{map_past, map_pattern, map_response}
use Rattle.grammar.specs.Names.{rule_names}
use Rattle.grammar.specs.Size.{size_past}
use Rattle.grammar.specs.Lines.{Says}
use Rattle.names.specs.Name.{packed}
use Rattle.names.specs.Unpacked.{unpacked}
use Rattle.common.specs.All.{All}
use Rattle.patterns.specs.Table.{Ordered, Gathered, roles_of}
use Rattle.follow.specs.Rules.{Tree, Short, Keeps}
use Rattle.follow.specs.State.{rule_at}
pub use Rattle.follow.specs.State.{Sized}
use Rattle.follow.specs.declared.state.Sheet.{Sheet}
use Rattle.follow.specs.declared.state.State.{State}
use Rattle.intake.specs.Names.{Name, Roles, Rule}
use Rattle.intake.specs.Machine.{PositionRule, PositionMachine}

-- the arrays of a sheet have their lengths
pub record SheetSized (s : Sheet) : Type 0 where
  pub names : length s.names ≡ 64
  pub parents : length s.parents ≡ 64
  pub above : length s.above ≡ 64
  pub rule-names : length s.rule_names ≡ 32
  pub ends : length s.ends ≡ 32
  pub rows : length s.rows ≡ 4096

-- THE ROLES

-- the packed names held
abbrev pub table_of : Sheet → List ℕ
table_of s = take s.role_count s.names

-- the name of role i
abbrev pub name_at : Sheet → ℕ → Name
name_at s i = unpacked (get_or s.names i 0)

-- the name of rule i
abbrev pub rule_name_at : Sheet → ℕ → Name
rule_name_at s i = unpacked (get_or s.rule_names i 0)

-- a name as a text gives it: "a word of 1 to 8 bytes that begins with a letter and isn't reserved"
pub record NameWord (w : Name) : Type 0 where
  pub name : kind_of w ≡ name_k
  pub wordy : Wordy w

-- the roles: distinct names, each parent before its child, and of each role the set of those above it
pub record Naming (s : Sheet) : Type 0 where
  pub few : s.role_count ≤ max_roles
  pub there : s.role_count ≤ length s.names
  pub some : 0 < s.role_count
  pub packed : (i : ℕ) → i < s.role_count → get_or s.names i 0 ≡ packed (name_at s i)
  pub word : (i : ℕ) → i < s.role_count → NameWord (name_at s i)
  pub distinct : (i j : ℕ) → i < s.role_count → j < s.role_count → same (name_at s i) (name_at s j) ≡ eqb i j
  pub ordered : Ordered s.role_count s.parents
  pub gathered : Gathered s.role_count s.parents s.above

-- the roles by their names, the last declared first
abbrev pub roles_in : Sheet → Roles
roles_in s = roles_of (name_at s) s.parents s.role_count

-- THE RULES

-- a text of a record says the rule
pub record Said (r : Rule) : Type 0 where
  pub text : List ℕ
  pub short : length text ≤ 126
  pub says : Says text (rule r.name r.past r.trigger r.response)

-- rule i of the sheet is r: its code is that of r's tree with ids
pub record RuleIs (s : Sheet) (i : ℕ) (r : Rule) : Type 0 where
  pub tree : Tree
  pub keeps : Keeps (rule_at s i) tree
  pub ids : All (λ k. k < s.role_count) (rule_names tree.past tree.trigger tree.response)
  pub short : Short tree.response
  pub small : size_past tree.past ≤ max_patterns
  pub named : get_or s.rule_names i 0 ≡ packed r.name
  pub word : NameWord r.name
  pub past : r.past ≡ map_past (name_at s) tree.past
  pub trigger : r.trigger ≡ map_pattern (name_at s) tree.trigger
  pub response : r.response ≡ map_response (name_at s) tree.response
  pub said : Said r

-- THE STATE

-- rule i of the state is x: the sheet has its rule, and its number is x's positions, which are among 0 .. n, n the number of its patterns
pub record PositionRuleIs (f : State) (i : ℕ) (x : PositionRule) : Type 0 where
  pub rule : RuleIs f.sheet i x.rule
  pub positions : get_or f.positions i 0 ≡ x.positions
  pub within : x.positions < 2 ^ suc (size_past x.rule.past)

-- the first n rules, the last declared first
pub data Rules (f : State) : ℕ → List PositionRule → Type 0 where
  rules-none : Rules f 0 []
  rules-more : {n : ℕ} {x : PositionRule} {l : List PositionRule} → PositionRuleIs f n x → Rules f n l → Rules f (suc n) (x ∷ l)

-- a state stands for a machine with positions: the same roles by their names, the same rules by their trees and positions
pub record Represents (f : State) (t : PositionMachine) : Type 0 where
  pub naming : Naming f.sheet
  pub few : f.sheet.rule_count ≤ max_rules
  pub roles : t.roles ≡ roles_in f.sheet
  pub rules : Rules f f.sheet.rule_count t.rules
