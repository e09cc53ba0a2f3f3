-- What each way through `further` and through the loop of `sequence` shows.
-- Assumes nothing.
use Rattle.std.proofs.Common.{◌≡◌, refl, sym, ap, ◌∙◌, Bool, true, false, not, eqb, List, ◌++◌, append_assoc, ℕ, ◌+◌, arith, length, get_or, drop, length-append}
use Rattle.common.proofs.Bools.{true_not_false}
use Rattle.grammar.specs.Trees.{Sequence, single, beside, Factor}
use Rattle.code.specs.Trees.{code_sequence, code_factor}
use Rattle.patterns.specs.Meets.{meets}
use Rattle.patterns.specs.Judged.{order_by, PatternRead}
use Rattle.patterns.specs.declared.judge.Judged.{Judged}
use Rattle.patterns.proofs.Here.{beyond, first}
use Rattle.positions.specs.Summaries.{summary, empty_summary, pat_summary, seq_summary, star_if}
use Rattle.positions.specs.declared.summaries.Summary.{Summary}
use Rattle.positions.proofs.JoinLaws.{seq_assoc, seq_unit}
use Rattle.follow.specs.Meaning.{sequence_meaning, factor_meaning}
use Rattle.follow.specs.Walked.{starts, AfterSequence, StarsEnd, FactorRead, FurtherRead, SequenceReadOn, SequenceRead}
use Rattle.follow.specs.declared.walk.Walk.{Walk}
use Rattle.follow.proofs.Heads.{longer, sequence_head, starts_here}
use Rattle.follow.proofs.StarLaws.{star_or_not}
use Rattle.follow.proofs.WalkLaws.{pattern_base, whole_factor}

module _ (m : ℕ) (above event code : List ℕ) (w : Walk) where
  -- a factor read after w, put in order after it
  pub after_factor : (f : Walk) → FactorRead m above event code w.end w.summary.next f → (u : Summary) → u ≡ seq_summary w.summary f.summary
      → FurtherRead m above event code w (record { end = f.end; summary = u })
  after_factor f it u eu =
      record {
        onwards = it.onwards;
        moves = it.moves;
        right = λ x rest a e. let d = it.right x rest a e in (eu ∙ ap (seq_summary w.summary) d.0, d.1);
      }

  -- a pattern with its stars, if it has any
  pub after_pattern : (get_or code w.end 0 ≡ 40 → ⊥) → (j : Judged) → PatternRead above event code w.end j → (e : ℕ) → StarsEnd code j.end e
      → (b : Bool) → b ≡ not (eqb e j.end) → (u : Summary) → u ≡ seq_summary w.summary (star_if b (pat_summary m j.ok w.summary.next))
      → FurtherRead m above event code w (record { end = e; summary = u })
  after_pattern n j ih e h b eb u eu =
      let k = w.summary.next in
      let base : Walk = record { end = j.end; summary = pat_summary m j.ok k } in
      let stars = star_or_not code base e h b eb in
      after_factor _ (whole_factor m above event code w.end k base _ (pattern_base m above event code w.end k n j ih _ refl) stars) u eu

  module _ (f : Walk) (it : FurtherRead m above event code w f) where
    -- a factor with more after it
    at_more : (x : Factor ℕ) (s : Sequence ℕ) (rest : List ℕ) → drop w.end code ≡ (code_factor x ++ code_sequence s) ++ rest
        → (f.summary ≡ seq_summary w.summary (summary m (meets (order_by above) event) (factor_meaning x) w.summary.next)) × (f.end ≡ w.end + length (code_factor x))
        × (drop f.end code ≡ code_sequence s ++ rest)
    at_more x s rest e =
        let q : drop w.end code ≡ code_factor x ++ (code_sequence s ++ rest) = e ∙ append_assoc (code_factor x) (code_sequence s) rest in
        let h = longer (code_sequence s) rest (sequence_head s) in
        let d = it.right x _ (λ z. true_not_false _ (ap (λ (l : List ℕ). starts (get_or l 0 0)) h.is ∙ h.start) (ap starts z)) q in
        (d.0, d.1, beyond code w.end f.end (code_factor x) _ q d.1)

    -- the last factor
    pub last_factor : starts (get_or code f.end 0) ≡ false → SequenceReadOn m above event code w f
    unfolding code_sequence sequence_meaning
    last_factor b = record { onwards = it.onwards; moves = it.moves; right = go }
      where
        go : (t : Sequence ℕ) (rest : List ℕ) → AfterSequence rest → drop w.end code ≡ code_sequence t ++ rest
            → (f.summary ≡ seq_summary w.summary (summary m (meets (order_by above) event) (sequence_meaning t) w.summary.next)) × (f.end ≡ w.end + length (code_sequence t))
        go (single x) rest a e = it.right x rest a.0 e
        go (beside x y) rest a e = absurd (true_not_false _ (starts_here code f.end _ (longer (code_sequence y) rest (sequence_head y)) (at_more x y rest e).2) b)

    -- a factor and those after it
    pub more_factors : starts (get_or code f.end 0) ≡ true → (r : Walk) → SequenceReadOn m above event code f r → SequenceReadOn m above event code w r
    unfolding code_sequence sequence_meaning summary seq_summary
    more_factors b r ir =
        record {
          onwards = let p = it.onwards in let p' = ir.onwards in omega arith;
          moves = λ h. let p = it.moves h in let p' = ir.onwards in omega arith;
          right = go;
        }
      where
        go : (t : Sequence ℕ) (rest : List ℕ) → AfterSequence rest → drop w.end code ≡ code_sequence t ++ rest
            → (r.summary ≡ seq_summary w.summary (summary m (meets (order_by above) event) (sequence_meaning t) w.summary.next)) × (r.end ≡ w.end + length (code_sequence t))
        go (single x) rest a e =
            let d = it.right x rest a.0 e in
            absurd (true_not_false _ (ap starts (sym (first code f.end rest (beyond code w.end f.end (code_factor x) rest e d.1))) ∙ b) a.1)
        go (beside x y) rest a e =
            let d = at_more x y rest e in
            let g = ir.right y rest a d.2 in (
              g.0 ∙ ap (λ (z : Summary). seq_summary z (summary m (meets (order_by above) event) (sequence_meaning y) z.next)) d.0
                  ∙ seq_assoc w.summary (summary m (meets (order_by above) event) (factor_meaning x) w.summary.next)
                  (summary m (meets (order_by above) event) (sequence_meaning y) (summary m (meets (order_by above) event) (factor_meaning x) w.summary.next).next),
              omega (arith, d.1, g.1, length-append (code_factor x) (code_sequence y)),
            )

-- factors after nothing are a sequence
pub whole_sequence : (m : ℕ) (above event code : List ℕ) (at k : ℕ) (s : Summary) → s ≡ empty_summary k → (r : Walk)
    → SequenceReadOn m above event code (record { end = at; summary = s }) r → SequenceRead m above event code at k r
whole_sequence m above event code at k s q r ir =
    record {
      onwards = ir.onwards;
      moves = ir.moves;
      right = λ t rest a e. let d = ir.right t rest a e in (
        d.0 ∙ ap (λ (z : Summary). seq_summary z (summary m (meets (order_by above) event) (sequence_meaning t) z.next)) q ∙ seq_unit k (summary m (meets (order_by above) event) (sequence_meaning t) k),
        d.1,
      );
    }
