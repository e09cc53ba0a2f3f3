-- Names and ids of a state: a name is held exactly where its packed number stands in the table, and its id is the id of that name.
-- Assumes nothing.
use Rattle.std.proofs.Common.{◌≡◌, refl, sym, ap, ◌∙◌, Bool, true, false, ⊎_elim, List, ℕ, zero, suc, ◌<◌, arith, ltb, length, get_or, length-take-le, get_or-take, lt-ltb, ltb-true, ltb-false}
use Rattle.common.specs.Limits.{max_roles}
use Rattle.lexer.specs.Words.{same}
use Rattle.common.proofs.Bools.{or_left, or_right, or_cases, true_not_false, same_test}
use Rattle.lexer.proofs.KindLaws.{same_true}
use Rattle.lexer.proofs.SameLaws.{same_refl}
use Rattle.names.specs.Name.{packed}
use Rattle.names.specs.Place.{place, held}
use Rattle.names.proofs.NameLaws.{name-same}
use Rattle.names.proofs.PlaceLaws.{place_exactly, place_holds}
use Rattle.code.specs.Code.{id_of}
use Rattle.code.proofs.IdLaws.{Few, id_held}
use Rattle.patterns.specs.Roles.{is_held}
use Rattle.patterns.specs.Table.{roles_of}
use Rattle.follow.specs.State.{capped}
use Rattle.follow.specs.declared.state.Sheet.{Sheet}
use Rattle.follow.proofs.CappedLaws.{capped_small}
use Rattle.intake.specs.Names.{Name}
use Rattle.intake.specs.Represents.{name_at, table_of, roles_in, NameWord, Naming}

-- packed names that are equal are one name
pub word_same : (w v : Name) → NameWord w → NameWord v → packed w ≡ packed v → w ≡ v
word_same w v a b e = name-same w v a.name a.wordy b.name b.wordy e

module _ (s : Sheet) (n : Naming s) where
  abbrev table : List ℕ
  table = table_of s

  pub roles-capped : capped max_roles s.role_count ≡ s.role_count
  roles-capped = capped_small max_roles s.role_count n.few

  pub table_long : length table ≡ s.role_count
  table_long = length-take-le s.role_count s.names n.there

  -- every name held has an id
  pub table_few : Few table
  table_few = omega (arith, table_long, n.few)

  table_at : (i : ℕ) → i < s.role_count → get_or table i 0 ≡ packed (name_at s i)
  table_at i h = get_or-take s.role_count s.names i 0 h ∙ n.packed i h

  -- an id of that name among the first k
  pub held_up : (ps : List ℕ) (k i : ℕ) (w : Name) → i < k → name_at s i ≡ w → is_held same (roles_of (name_at s) ps k) w ≡ true
  held_up ps zero i w h e = absurd (omega arith)
  held_up ps (suc k) i w h e = go (ltb i k) refl (λ l. held_up ps k i w l e)
    where
      go : (q : Bool) → ltb i k ≡ q → (i < k → is_held same (roles_of (name_at s) ps k) w ≡ true) → is_held same (roles_of (name_at s) ps (suc k)) w ≡ true
      go true q ih = or_right (same w (name_at s k)) _ (ih (ltb-true i k q))
      go false q ih =
          let l = ltb-false i k q in
          let i≡k : i ≡ k = omega arith in
          or_left (same w (name_at s k)) _ (ap (same w) (sym (ap (name_at s) i≡k) ∙ e) ∙ same_refl w)

  held_down : (ps : List ℕ) (k : ℕ) (w : Name) → is_held same (roles_of (name_at s) ps k) w ≡ true → (i : ℕ) × (i < k) × (name_at s i ≡ w)
  held_down ps zero w e = absurd (true_not_false false e refl)
  held_down ps (suc k) w e =
      ⊎_elim (λ h. (k, omega arith, sym (same_true w (name_at s k) h))) (λ h. let d = held_down ps k w h in (d.0, omega (arith, d.1), d.2)) (or_cases (same w (name_at s k)) _ e)

  module _ (w : Name) (a : NameWord w) where
    -- the place of a name that is held, and whose place it is
    pub place_is_lem : place (packed w) table < s.role_count → name_at s (place (packed w) table) ≡ w
    place_is_lem h =
        let e : get_or table (place (packed w) table) 0 ≡ packed w = place_holds (packed w) table (rw table_long h) in
        word_same _ w (n.word (place (packed w) table) h) a (sym (table_at (place (packed w) table) h) ∙ e)

    pub held-is : held table w ≡ is_held same (roles_in s) w
    held-is = same_test _ _ (down, up)
      where
        down : held table w ≡ true → is_held same (roles_in s) w ≡ true
        down e =
            let h : place (packed w) table < s.role_count = rw table_long at (ltb-true (place (packed w) table) (length table) e) in
            held_up s.parents s.role_count (place (packed w) table) w h (place_is_lem h)

        up : is_held same (roles_in s) w ≡ true → held table w ≡ true
        up e =
            let d = held_down s.parents s.role_count w e in
            let k = (place_exactly (packed w) table).1 (d.0, rw table_long d.1, table_at d.0 d.1 ∙ ap packed d.2) in
            lt-ltb _ _ k

    -- the id of a name that is held is the id of that name
    pub id_is : held table w ≡ true → (id_of table w < s.role_count) × (name_at s (id_of table w) ≡ w)
    id_is e =
        let h : place (packed w) table < s.role_count = rw table_long at (ltb-true (place (packed w) table) (length table) e) in
        rw (sym (id_held table w table_few e)) (h, place_is_lem h)
