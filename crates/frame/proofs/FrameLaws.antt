-- Which bytes have which frame: a law for each answer, and what each answer says, exactly.
-- Assumes nothing.
use Rattle.std.proofs.Common.{◌≡◌, refl, ap, ◌∙◌, subst, Bool, true, false, cond, List, [], ◌∷◌, ◌++◌, ◌↔◌, ◌⊎◌, inl, inr, ℕ, arith, eqb, length, get_or, eq-eqb, ne_eqb, eqb-true}
use Rattle.std.proofs.lemmas.Bool.{eqb-false}
use Rattle.common.specs.Refusals.{answer_number}
use Rattle.lexer.specs.Class.{all_classed}
use Rattle.frame.specs.Text.{text_of}
use Rattle.frame.specs.Record.{refusal, line_byte, event_byte, newline, kind_by, frame_of, answered}
use Rattle.frame.specs.Framed.{Framed, Fault, kindless, endless, classless, Says}
use Rattle.frame.specs.Record.{Frame, Line, Event, WrongLength, Malformed}
use Rattle.frame.proofs.TextLaws.{text-classed, classed-text, text-classless, record_parts}

module _ (s : List ℕ) where
  pub frame_length : (length s ≡ 128 → ⊥) → frame_of s ≡ WrongLength
  unfolding frame_of
  frame_length n = rw (ne_eqb (length s) 128 n) refl

  module _ (n : length s ≡ 128) where
    pub frame_end : (get_or s 127 0 ≡ newline → ⊥) → frame_of s ≡ Malformed
    unfolding frame_of
    frame_end e = rw (eq-eqb (length s) 128 n, ne_eqb (get_or s 127 0) 10 e) refl

    pub frame_classless : get_or s 127 0 ≡ newline → all_classed (text_of s) ≡ false → frame_of s ≡ Malformed
    unfolding frame_of
    frame_classless e q = rw (eq-eqb (length s) 128 n, eq-eqb (get_or s 127 0) 10 e, q) refl

    pub frame_kind : get_or s 127 0 ≡ newline → all_classed (text_of s) ≡ true → frame_of s ≡ kind_by (get_or s 0 0)
    unfolding frame_of
    frame_kind e q = rw (eq-eqb (length s) 128 n, eq-eqb (get_or s 127 0) 10 e, q) refl

-- the answer says what is so
says : (s : List ℕ) → Says s (frame_of s)
unfolding frame_of kind_by
says s =
    go (eqb (length s) 128) (eqb (get_or s 127 0) newline) (all_classed (text_of s)) (eqb (get_or s 0 0) line_byte) (eqb (get_or s 0 0) event_byte) refl refl refl refl refl
  where
    go : (n q c l v : Bool) → eqb (length s) 128 ≡ n → eqb (get_or s 127 0) newline ≡ q → all_classed (text_of s) ≡ c
        → eqb (get_or s 0 0) line_byte ≡ l → eqb (get_or s 0 0) event_byte ≡ v
        → Says s (cond n (cond q (cond c (cond l Line (cond v Event Malformed)) Malformed) Malformed) WrongLength)
    go false q c l v en eq ec el ev = eqb-false (length s) 128 en
    go true false c l v en eq ec el ev = (eqb-true (length s) 128 en, endless (eqb-false (get_or s 127 0) newline eq))
    go true true false l v en eq ec el ev =
        let n = eqb-true (length s) 128 en in
        let r = text-classless s n ec in
        (n, classless r.0 r.1 r.2 r.3)
    go true true true true v en eq ec el ev =
        let n = eqb-true (length s) 128 en in
        record { size = n; first = eqb-true (get_or s 0 0) line_byte el; end = eqb-true (get_or s 127 0) newline eq; classed = text-classed s n ec }
    go true true true false true en eq ec el ev =
        let n = eqb-true (length s) 128 en in
        record { size = n; first = eqb-true (get_or s 0 0) event_byte ev; end = eqb-true (get_or s 127 0) newline eq; classed = text-classed s n ec }
    go true true true false false en eq ec el ev =
        (eqb-true (length s) 128 en, kindless (eqb-false (get_or s 0 0) line_byte el) (eqb-false (get_or s 0 0) event_byte ev))

-- by byte 0
framed-kind : (b : ℕ) (s : List ℕ) → Framed b s → frame_of s ≡ kind_by b
framed-kind b s h = frame_kind s h.size h.end (classed-text s h.size h.classed) ∙ ap kind_by h.first

-- with a fault, a record of 128 bytes is malformed
faulty : (s : List ℕ) → length s ≡ 128 → Fault s → frame_of s ≡ Malformed
unfolding kind_by
faulty s n f = go (eqb (get_or s 127 0) newline) (all_classed (text_of s)) refl refl f
  where
    go : (q c : Bool) → eqb (get_or s 127 0) newline ≡ q → all_classed (text_of s) ≡ c → Fault s → frame_of s ≡ Malformed
    go false c eq ec f = frame_end s n (eqb-false (get_or s 127 0) newline eq)
    go true false eq ec f = frame_classless s n (eqb-true (get_or s 127 0) newline eq) ec
    go true true eq ec (kindless l v) =
        frame_kind s n (eqb-true (get_or s 127 0) newline eq) ec ∙ rw (ne_eqb (get_or s 0 0) line_byte l, ne_eqb (get_or s 0 0) event_byte v) refl
    go true true eq ec (endless e) = absurd (e (eqb-true (get_or s 127 0) newline eq))
    go true true eq ec (classless i l m e) = absurd (text-classed s n ec i l m e)

-- the main law: bytes have a frame exactly when what it says of them is so
pub frame_exactly : (s : List ℕ) (f : Frame) → (frame_of s ≡ f) ↔ Says s f
unfolding kind_by
frame_exactly s f = (λ e. subst (Says s) e (says s), back f)
  where
    back : (f : Frame) → Says s f → frame_of s ≡ f
    back Line h = framed-kind line_byte s h
    back Event h = framed-kind event_byte s h
    back WrongLength h = frame_length s h
    back Malformed h = faulty s h.0 h.1

-- refusal 2 exactly: "record not 128 bytes"
pub refusal_2 : (s : List ℕ) → (refusal (frame_of s) ≡ 2) ↔ (length s ≡ 128 → ⊥)
refusal_2 s = (λ e. (frame_exactly s WrongLength).0 (only (frame_of s) e), λ h. ap refusal ((frame_exactly s WrongLength).1 h))
  where
    only : (f : Frame) → refusal f ≡ 2 → f ≡ WrongLength
    only Line e = absurd (omega arith)
    only Event e = absurd (omega arith)
    only WrongLength e = refl
    only Malformed e = absurd (omega arith)

-- refusal 3 exactly: 128 bytes, and a fault
pub refusal_3 : (s : List ℕ) → (refusal (frame_of s) ≡ 3) ↔ ((length s ≡ 128) × Fault s)
refusal_3 s = (λ e. (frame_exactly s Malformed).0 (only (frame_of s) e), λ h. ap refusal ((frame_exactly s Malformed).1 h))
  where
    only : (f : Frame) → refusal f ≡ 3 → f ≡ Malformed
    only Line e = absurd (omega arith)
    only Event e = absurd (omega arith)
    only WrongLength e = absurd (omega arith)
    only Malformed e = refl

-- neither refusal exactly: a record of one of the two kinds
pub refusal-none : (s : List ℕ) → (refusal (frame_of s) ≡ 0) ↔ (Framed line_byte s ⊎ Framed event_byte s)
unfolding kind_by
refusal-none s = (λ e. which (frame_of s) (says s) e, back)
  where
    which : (f : Frame) → Says s f → refusal f ≡ 0 → Framed line_byte s ⊎ Framed event_byte s
    which Line h e = inl h
    which Event h e = inr h
    which WrongLength h e = absurd (omega arith)
    which Malformed h e = absurd (omega arith)

    back : Framed line_byte s ⊎ Framed event_byte s → refusal (frame_of s) ≡ 0
    back (inl h) = ap refusal (framed-kind line_byte s h)
    back (inr h) = ap refusal (framed-kind event_byte s h)

-- what the code answers has the number of the refusal, 0 where there is none
pub answered-number : (f : Frame) → answer_number (answered f) ≡ refusal f
answered-number Line = refl
answered-number Event = refl
answered-number WrongLength = refl
answered-number Malformed = refl

-- a record is its first byte, its text and the newline
pub framed-parts : (b : ℕ) (s : List ℕ) → Framed b s → s ≡ b ∷ (text_of s ++ (newline ∷ []))
framed-parts b s h = record_parts s h.size ∙ rw (h.first, h.end) refl
