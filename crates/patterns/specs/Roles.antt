-- The roles held, and which role is below which. Document 01, "When an act meets a pattern". N stands for a name: its bytes, or an id; `eq` compares two.
-- Assumes nothing.
use Rattle.std.specs.Prelude.{◌≡◌, Bool, true, false, cond, ◌&&◌, ◌||◌, List, [], ◌∷◌, ℕ}

-- "a name, under, a name (its parent)"
pub record Role (N : Type 0) : Type 0 where
  pub name : N
  pub parent : N

-- the roles held, the last declared first
abbrev pub Roles : Type 0 → Type 0
Roles N = List (Role N)

-- the name `top`, as bytes
abbrev pub top_name : List ℕ
top_name = 116 ∷ 111 ∷ 112 ∷ []

-- "`top` is declared from the start": it stands above itself alone
abbrev pub fresh_roles : {N : Type 0} → N → Roles N
fresh_roles top = record { name = top; parent = top } ∷ []

-- the role a is held, and p is its parent
pub data Has {N : Type 0} : Roles N → N → N → Type 0 where
  has_first : {r : Role N} {rs : Roles N} → Has (r ∷ rs) r.name r.parent
  has_later : {r : Role N} {rs : Roles N} {a p : N} → Has rs a p → Has (r ∷ rs) a p

-- a is b or stands below it: "A role is below itself", and below what its parent is below
pub data Below {N : Type 0} (rs : Roles N) : N → N → Type 0 where
  below_itself : {a : N} → Below rs a a
  below-parent : {a p b : N} → Has rs a p → Below rs p b → Below rs a b

module _ {N : Type 0} (eq : N → N → Bool) where
  -- a role of that name is held
  abbrev pub is_held : Roles N → N → Bool
  is_held [] n = false
  is_held (r ∷ rs) n = eq n r.name || is_held rs n

  -- roles of all these names are held
  abbrev pub all_held : Roles N → List N → Bool
  all_held rs [] = true
  all_held rs (n ∷ ns) = is_held rs n && all_held rs ns

  -- `Below`, computed: a's parent was declared before a (`below_iff` of proofs/RoleLaws.antt)
  unfoldable pub is_below : Roles N → N → N → Bool
  is_below [] a b = eq a b
  is_below (r ∷ rs) a b = eq a b || is_below rs (cond (eq a r.name) r.parent a) b

  -- roles as calls leave them: each name was new, and its parent held, when it joined
  pub data Grown (top : N) : Roles N → Type 0 where
    grown_fresh : Grown top (fresh_roles top)
    grown_more : {r : Role N} {rs : Roles N} → is_held rs r.name ≡ false → is_held rs r.parent ≡ true → Grown top rs → Grown top (r ∷ rs)
