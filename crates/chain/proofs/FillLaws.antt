-- What each way through `slot` and `fill` shows.
-- Assumes nothing.
use Rattle.std.proofs.Common.{◌≡◌, refl, sym, ap, ◌∙◌, List, [], ◌∷◌, ◌++◌, append_assoc, append-nil, Option, None, Some, IfSome, ℕ, zero, suc, ◌+◌, ◌-◌, ◌<◌, ◌≤◌, arith, length, get_or, drop, take_all, length-drop, Bor}
use Rattle.std.proofs.Math.Option as maybe
use Rattle.std.proofs.Math.Option.{none, some}
use Rattle.std.proofs.Math.ListN.{get_elem?}
use Rattle.std.specs.List.{slice_range}
use Rattle.grammar.specs.Trees.{Slot, named, place, Template}
use Rattle.code.specs.Trees.{code_slots}
use Rattle.code.specs.Events.{event_of}
use Rattle.code.specs.declared.events.Event.{Event}
use Rattle.chain.specs.Work.{fill_slot, cons_filled, fill}
use Rattle.chain.specs.Responses.{role_picked, roles_made, behind, SlotRead, FillRead}
use Rattle.chain.proofs.MoreRoles.{with, more-roles}

beyond_length : (l : List ℕ) (i : ℕ) → length l ≤ i → get_elem? l i ≡ none
beyond_length [] i h = refl
beyond_length (a ∷ l) zero h = absurd (omega arith)
beyond_length (a ∷ l) (suc i) h = beyond_length l i (omega arith)

within-length : (l : List ℕ) (i : ℕ) → i < length l → get_elem? l i ≡ some (get_or l i 0)
within-length [] i h = absurd (omega arith)
within-length (a ∷ l) zero h = refl
within-length (a ∷ l) (suc i) h = within-length l i (omega arith)

-- the first byte of a list, 0 where it has none, and the second
abbrev first : List ℕ → ℕ
first l = get_or l 0 0

abbrev second : List ℕ → ℕ
second l = get_or l 1 0

-- a part up to the end of a list
pub rest-of : (n : ℕ) (l : List ℕ) → slice_range l n (length l) ≡ drop n l
rest-of n l = take_all (length l - n) (drop n l) (omega (arith, length-drop n l))

module _ (code event : List ℕ) where
  abbrev SlotRight : Option (ℕ × Bor (List ℕ)) → Type 0
  SlotRight r = (x : Slot ℕ) (xs : Template ℕ) (rest : List ℕ) → code ≡ code_slots (x ∷ xs) ++ rest
      → (role_picked r ≡ fill_slot event x) × IfSome r (λ s. s.1.now ≡ code_slots xs ++ rest)

  -- neither `#` with a byte after it nor the byte of a role
  pub slot_none : (first code ≡ 35 → length code < 2) → (0 < length code → 128 ≤ first code → ⊥) → SlotRead code event None
  unfolding code_slots
  slot_none n l = record { right = go }
    where
      go : SlotRight None
      go (named w) xs rest e = let h = ap first e in let k = ap length e in absurd (l (omega arith) (omega arith))
      go (place j) xs rest e = let h = n (ap first e) in let k = ap length e in absurd (omega arith)

  pub slot_role : (r : ℕ) (left : Bor (List ℕ)) → 128 ≤ first code → r ≡ first code - 128 → left.now ≡ slice_range code 1 (length code)
      → SlotRead code event (Some (r, left))
  unfolding code_slots fill_slot
  slot_role r left m er el = record { right = go }
    where
      go : SlotRight (Some (r, left))
      go (named w) xs rest e =
          let h = ap first e in
          let q : r ≡ w = omega arith in
          (ap (λ (z : ℕ). some z) q, el ∙ rest-of 1 code ∙ ap (drop 1) e)
      go (place j) xs rest e = let h = ap first e in absurd (omega arith)

  -- `#` and a byte that names k, a place from 0
  module _ (m : first code ≡ 35) (k : ℕ) (ek : k ≡ second code - 49) where
    pub slot_beyond : length event ≤ k → SlotRead code event None
    unfolding code_slots fill_slot
    slot_beyond l = record { right = go }
      where
        go : SlotRight None
        go (named w) xs rest e = let h = ap first e in absurd (omega arith)
        go (place j) xs rest e = let h = ap second e in (sym (beyond_length event (j - 1) (omega arith)), tt)

    pub slot_place : (r : ℕ) (left : Bor (List ℕ)) → k < length event → r ≡ get_or event k 0 → left.now ≡ slice_range code 2 (length code)
        → SlotRead code event (Some (r, left))
    unfolding code_slots fill_slot
    slot_place r left l er el = record { right = go }
      where
        go : SlotRight (Some (r, left))
        go (named w) xs rest e = let h = ap first e in absurd (omega arith)
        go (place j) xs rest e =
            let h = ap second e in
            let q : k ≡ j - 1 = omega arith in (
              ap (λ (z : ℕ). some z) (er ∙ ap (λ (z : ℕ). get_or event z 0) q) ∙ sym (within-length event (j - 1) (omega arith)),
              el ∙ rest-of 2 code ∙ ap (drop 2) e,
            )

-- a law for each way out of `slot`
pub ruleset slot_laws = (slot_none, slot_role, slot_beyond, slot_place)

-- one role more stands before the rest
grown : (l : List ℕ) (x : ℕ) (m : maybe.Option (List ℕ)) → behind (l ++ (x ∷ [])) m ≡ behind l (cons_filled (some x) m)
grown l x none = refl
grown l x (some e) = ap (λ (z : List ℕ). some z) (append_assoc l (x ∷ []) e)

module _ (code event : List ℕ) (out : Event) where
  abbrev FillRight : Option Event → Type 0
  FillRight r = (xs : Template ℕ) (rest : List ℕ) → out.len + length xs ≤ 4 → code ≡ code_slots xs ++ rest
      → roles_made r ≡ behind (event_of out) (fill event xs)

  pub fill_end : length code < 1 → FillRead code event out None
  unfolding code_slots
  fill_end n = record { fits = λ l. tt; right = go }
    where
      go : FillRight None
      go [] rest l e = let h = ap length e in absurd (omega arith)
      go (named w ∷ xs) rest l e = let h = ap length e in absurd (omega arith)
      go (place j ∷ xs) rest l e = let h = ap length e in absurd (omega arith)

  pub fill_closed : first code ≡ 62 → FillRead code event out (Some out)
  unfolding code_slots fill
  fill_closed q = record { fits = λ l. l; right = go }
    where
      go : FillRight (Some out)
      go [] rest l e = ap (λ (x : List ℕ). some x) (sym (append-nil (event_of out)))
      go (named w ∷ xs) rest l e = let h = ap first e in absurd (omega arith)
      go (place j ∷ xs) rest l e = let h = ap first e in absurd (omega arith)

  module _ (n : first code ≡ 62 → ⊥) where
    pub fill-unfit : SlotRead code event None → FillRead code event out None
    unfolding code_slots fill
    fill-unfit sr = record { fits = λ l. tt; right = go }
      where
        go : FillRight None
        go [] rest l e = absurd (n (ap first e))
        go (x ∷ xs) rest l e = ap (λ (o : maybe.Option ℕ). behind (event_of out) (cons_filled o (fill event xs))) (sr.right x xs rest e).0

    pub fill-full : 4 ≤ out.len → FillRead code event out None
    unfolding code_slots
    fill-full f = record { fits = λ l. tt; right = go }
      where
        go : FillRight None
        go [] rest l e = absurd (n (ap first e))
        go (x ∷ xs) rest l e = absurd (omega arith)

    pub fill_more : (role : ℕ) (left : Bor (List ℕ)) → SlotRead code event (Some (role, left)) → length out.roles ≡ 4 → out.len < 4
        → (r : Option Event) → FillRead left.now event (with out role) r → FillRead code event out r
    unfolding code_slots fill
    fill_more role left sr long room r ih = record { fits = λ l. ih.fits (omega arith); right = go }
      where
        go : FillRight r
        go [] rest l e = absurd (n (ap first e))
        go (x ∷ xs) rest l e =
            let d = sr.right x xs rest e in
            ih.right xs rest (omega arith) d.1
            ∙ ap (λ (l : List ℕ). behind l (fill event xs)) (more-roles out role long room)
            ∙ grown (event_of out) role (fill event xs)
            ∙ ap (λ (o : maybe.Option ℕ). behind (event_of out) (cons_filled o (fill event xs))) d.0

-- a law for each way out of `fill`
pub ruleset fill_laws = (fill_end, fill_closed, fill-unfit, fill-full, fill_more)
