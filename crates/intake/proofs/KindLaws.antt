-- What a record asks, by the kind that `ask` tells.
-- Assumes nothing.
use Rattle.std.proofs.Common.{◌≡◌, refl, List, ℕ, arith}
use Rattle.grammar.specs.Lines.{read_line}
use Rattle.frame.specs.Text.{text_of}
use Rattle.frame.specs.Record.{frame_of}
use Rattle.frame.specs.Record.{Line as LineRecord}
use Rattle.follow.specs.declared.state.Sheet.{Sheet}
use Rattle.intake.specs.Names.{Name, Event, Roles}
use Rattle.intake.specs.Asked.{refused_by, asks_event, asked_line, asked_text, asked}
use Rattle.intake.specs.Represents.{roles_in}
use Rattle.intake.specs.Asking.{Means, seen-refusal, seen-event, Told, told-short, told_malformed, told_line, told-event}
use Rattle.intake.specs.Requests.{Refusal, Line, Event as EventKind}
use Rattle.intake.specs.Requests.{Request}

module _ (sh : Sheet) (b : List ℕ) where
  -- it is refused by the number told
  pub by_refusal : (r : Request) → Told sh b r → r.kind ≡ Refusal → (ns : List Name) → asked (roles_in sh) ns b ≡ refused_by r.number
  unfolding asked asked_text
  by_refusal _ (told-short h) e ns = rw h refl
  by_refusal _ (told_malformed h) e ns = rw h refl
  by_refusal _ (told_line h) e ns = let z : ◌≡◌ {A = ℕ} 0 1 = cc in absurd (omega arith)
  by_refusal _ (told-event h (seen-refusal a)) e ns = rw h a
  by_refusal _ (told-event h (seen-event m a)) e ns = let z : ◌≡◌ {A = ℕ} 0 1 = cc in absurd (omega arith)

  -- it is a line
  pub by_line : (r : Request) → Told sh b r → r.kind ≡ Line → frame_of b ≡ LineRecord
  by_line _ (told-short h) e = let z : ◌≡◌ {A = ℕ} 0 1 = cc in absurd (omega arith)
  by_line _ (told_malformed h) e = let z : ◌≡◌ {A = ℕ} 0 1 = cc in absurd (omega arith)
  by_line _ (told_line h) e = h
  by_line _ (told-event h (seen-refusal a)) e = let z : ◌≡◌ {A = ℕ} 0 1 = cc in absurd (omega arith)
  by_line _ (told-event h (seen-event m a)) e = let z : ◌≡◌ {A = ℕ} 0 1 = cc in absurd (omega arith)

  -- it asks for the work of the event that is told
  pub by_event : (r : Request) → Told sh b r → r.kind ≡ EventKind → (ws : Event) × Means sh r.event ws × ((ns : List Name) → asked (roles_in sh) ns b ≡ asks_event ws)
  unfolding asked asked_text
  by_event _ (told-short h) e = let z : ◌≡◌ {A = ℕ} 0 1 = cc in absurd (omega arith)
  by_event _ (told_malformed h) e = let z : ◌≡◌ {A = ℕ} 0 1 = cc in absurd (omega arith)
  by_event _ (told_line h) e = let z : ◌≡◌ {A = ℕ} 0 1 = cc in absurd (omega arith)
  by_event _ (told-event h (seen-refusal a)) e = let z : ◌≡◌ {A = ℕ} 0 1 = cc in absurd (omega arith)
  by_event _ (told-event h (seen-event {ws = ws} m a)) e = (ws, m, λ ns. rw h a)

-- a line asks what its text asks
pub asked-line : (rs : Roles) (ns : List Name) (b : List ℕ) → frame_of b ≡ LineRecord → asked rs ns b ≡ asked_line rs ns (read_line (text_of b))
unfolding asked asked_text
asked-line rs ns b e = rw e refl
