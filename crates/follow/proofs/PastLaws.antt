-- What the loop of `past` keeps, and what each way through it shows.
-- Assumes nothing.
use Rattle.std.proofs.Common.{◌≡◌, refl, sym, ap, ◌∙◌, List, ◌∷◌, ◌++◌, append_assoc, ℕ, ◌+◌, ◌≤◌, arith, length, get_or, drop, length-append}
use Rattle.grammar.specs.Trees.{Past, only, either, Sequence}
use Rattle.code.specs.Trees.{code_past, code_sequence}
use Rattle.patterns.specs.Meets.{meets}
use Rattle.patterns.specs.Judged.{order_by}
use Rattle.patterns.proofs.Here.{here, beyond, first}
use Rattle.positions.specs.Summaries.{summary, alt_summary}
use Rattle.positions.specs.declared.summaries.Summary.{Summary}
use Rattle.positions.proofs.JoinLaws.{alt_assoc}
use Rattle.follow.specs.Meaning.{past_meaning, sequence_meaning}
use Rattle.follow.specs.Walked.{AfterPast, SequenceRead, PastRead}
use Rattle.follow.specs.declared.walk.Walk.{Walk}

-- What the sequences still to come make of what is found so far: where none follows, it stays as it is; else it is joined, as a choice, with what is found of
-- the past that they spell.
pub record Widened (m : ℕ) (above event code : List ℕ) (w r : Walk) : Type 0 where
  pub onwards : w.end ≤ r.end
  pub none : (rest : List ℕ) → AfterPast rest → drop w.end code ≡ rest → r ≡ w
  pub more : (p : Past ℕ) (rest : List ℕ) → AfterPast rest → drop w.end code ≡ 43 ∷ (code_past p ++ rest)
      → (r.summary ≡ alt_summary w.summary (summary m (meets (order_by above) event) (past_meaning p) w.summary.next)) × (r.end ≡ w.end + 1 + length (code_past p))

module _ (m : ℕ) (above event code : List ℕ) (at k : ℕ) (s : Walk) (it : SequenceRead m above event code at k s) where
  -- a sequence with more after it
  at_either : (x : Sequence ℕ) (p : Past ℕ) (rest : List ℕ) → drop at code ≡ (code_sequence x ++ (43 ∷ code_past p)) ++ rest
      → (s.summary ≡ summary m (meets (order_by above) event) (sequence_meaning x) k) × (s.end ≡ at + length (code_sequence x)) × (drop s.end code ≡ 43 ∷ (code_past p ++ rest))
  at_either x p rest e =
      let q : drop at code ≡ code_sequence x ++ (43 ∷ (code_past p ++ rest)) = e ∙ append_assoc (code_sequence x) (43 ∷ code_past p) rest in
      let d = it.right x _ ((λ z. absurd (omega arith)), refl) q in
      (d.0, d.1, beyond code at s.end (code_sequence x) _ q d.1)

  -- a past begins with a sequence, and those after it make it whole
  pub whole_past : (r : Walk) → Widened m above event code s r → PastRead m above event code at k r
  unfolding code_past past_meaning summary
  whole_past r ir = record { onwards = let p = it.onwards in let p' = ir.onwards in omega arith; moves = λ h. let p = it.moves h in let p' = ir.onwards in omega arith; right = go }
    where
      go : (t : Past ℕ) (rest : List ℕ) → AfterPast rest → drop at code ≡ code_past t ++ rest → (r.summary ≡ summary m (meets (order_by above) event) (past_meaning t) k) × (r.end ≡ at + length (code_past t))
      go (only x) rest a e =
          let d = it.right x rest a.0 e in
          let q = ir.none rest a (beyond code at s.end (code_sequence x) rest e d.1) in
          (ap (λ (z : Walk). z.summary) q ∙ d.0, ap (λ (z : Walk). z.end) q ∙ d.1)
      go (either x p) rest a e =
          let d = at_either x p rest e in
          let g = ir.more p rest a d.2 in (
            g.0 ∙ ap (λ (z : Summary). alt_summary z (summary m (meets (order_by above) event) (past_meaning p) z.next)) d.0,
            omega (arith, d.1, g.1, length-append (code_sequence x) (43 ∷ code_past p)),
          )

module _ (m : ℕ) (above event code : List ℕ) (w : Walk) where
  -- where no sequence to choose follows, the loop ends
  pub end_past : (get_or code w.end 0 ≡ 43 → ⊥) → Widened m above event code w w
  end_past b = record { onwards = omega arith; none = λ rest a e. refl; more = λ p rest a e. absurd (b (here code w.end _ _ e).byte) }

  -- one sequence more to choose
  pub more_past : get_or code w.end 0 ≡ 43 → (s : Walk) → SequenceRead m above event code (w.end + 1) w.summary.next s → (u : Summary) → u ≡ alt_summary w.summary s.summary
      → (r : Walk) → Widened m above event code (record { end = s.end; summary = u }) r → Widened m above event code w r
  unfolding code_past past_meaning summary alt_summary
  more_past b s it u eu r ir =
      record {
        onwards = let p = it.onwards in let p' = ir.onwards in omega arith;
        none = λ rest a e. absurd (a.1 (sym (first code w.end rest e) ∙ b));
        more = go;
      }
    where
      go : (t : Past ℕ) (rest : List ℕ) → AfterPast rest → drop w.end code ≡ 43 ∷ (code_past t ++ rest)
          → (r.summary ≡ alt_summary w.summary (summary m (meets (order_by above) event) (past_meaning t) w.summary.next)) × (r.end ≡ w.end + 1 + length (code_past t))
      go (only x) rest a e =
          let h = (here code w.end _ _ e).next in
          let d = it.right x rest a.0 h in
          let q = ir.none rest a (beyond code (w.end + 1) s.end (code_sequence x) rest h d.1) in
          (ap (λ (z : Walk). z.summary) q ∙ eu ∙ ap (alt_summary w.summary) d.0, ap (λ (z : Walk). z.end) q ∙ d.1)
      go (either x p) rest a e =
          let d = at_either m above event code (w.end + 1) w.summary.next s it x p rest (here code w.end _ _ e).next in
          let g = ir.more p rest a d.2 in (
            g.0 ∙ ap (λ (z : Summary). alt_summary z (summary m (meets (order_by above) event) (past_meaning p) z.next)) eu
                ∙ alt_assoc w.summary s.summary (summary m (meets (order_by above) event) (past_meaning p) s.summary.next)
                ∙ ap (λ (z : Summary). alt_summary w.summary (alt_summary z (summary m (meets (order_by above) event) (past_meaning p) z.next))) d.0,
            omega (arith, d.1, g.1, length-append (code_sequence x) (43 ∷ code_past p)),
          )
