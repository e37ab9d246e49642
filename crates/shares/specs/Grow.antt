-- What a part makes of its masters and ghosts after the last round (rules 7.7, 15.11), from what it knows alone.
--   last_of l            the last number of a path
--   held_now st x        a new red cell has the slot x
--   status_new st c      the new status of the cell c, if it stays
--   pair_held st c a b   an edge of a child of c with the digits a and b is one of a new red cell
--   fresh_status st c i  the status of the new child i of the cell c, which was not red and will be
--   staysb k c          the cell c of level k is there after the step: it is coarse, refined, or a child of a cell that stays red
--   anewb k c           the cell has a family here after the step that is not its old one
--   master_entry k c, ghost_entry c, fresh_entries k c   the entries that the cell c of level k gives: itself, and its new children and theirs
--   cell_entries k c, level_entries k, entries          those of a cell, of a level, of all
use Rattle.std.specs.Prelude.{◌≡◌, Bool, ◌&&◌, ◌||◌, ℕ, zero, suc}
use Rattle.std.proofs.Math.Path.{refl}
use Rattle.std.proofs.Math.Bool.{true, false, not}
use mathlib.Core.List.{List, [], ◌∷◌, ◌++◌, map, flat_map}
use Rattle.std.proofs.Math.Dec.{eqb}
use Rattle.base.specs.Lists.{anyb}
use Rattle.base.specs.Range.{range}
use Rattle.cutting.specs.Rule.{family, low, high}
use Rattle.mesh.specs.Cells.{pattern_of, bits_of}
use Rattle.mesh.specs.Table.{size_of}
use Rattle.mesh.specs.Layout.{edge_numbers}
use Rattle.families.specs.Children.{low_digit, high_digit}
use Rattle.exchange.specs.Finite.{Finite}
use Rattle.rounds.specs.Task.{Task}
use Rattle.rounds.specs.Rounds.{State, is_part}
use Rattle.parts.specs.Held.{Entry}

unfoldable pub last_of : List ℕ → ℕ
last_of [] = 0
last_of (x ∷ []) = x
last_of (x ∷ y ∷ l) = last_of (y ∷ l)

pub last_snoc : (l : List ℕ) (x : ℕ) → last_of (l ++ (x ∷ [])) ≡ x
unfolding last_of
last_snoc [] x = refl
last_snoc (a ∷ []) x = refl
last_snoc (a ∷ b ∷ l) x = last_snoc (b ∷ l) x

abbrev pub entry_by : List ℕ → ℕ → Bool → Entry
entry_by l x b = record { path = l; status = x; ghost = b }

module _ {Part : Type 0} (J : Task Part) (st : State) where
  abbrev pub held_now : ℕ → Bool
  held_now x = not (eqb (st.sum x) 0)

  -- Rule 7.7.
  unfoldable pub status_new : ℕ → ℕ
  unfolding bits_of
  status_new c =
      elim (J.regular c) [
        | true ↦ elim (st.red c) [ true ↦ 64 | false ↦ bits_of (map (λ e. held_now (J.slot c e)) edge_numbers) ]
        | false ↦ 0
      ]

  -- the digits of an edge y of the child d of the cell c
  abbrev low_of : ℕ → ℕ → ℕ → ℕ
  low_of c d y = low_digit (pattern_of (J.status c)) (last_of (J.path d)) y

  abbrev high_of : ℕ → ℕ → ℕ → ℕ
  high_of c d y = high_digit (pattern_of (J.status c)) (last_of (J.path d)) y

  unfoldable pub pair_held : ℕ → ℕ → ℕ → Bool
  unfolding anyb pattern_of last_of family low high
  pair_held c a b =
      anyb (λ d. anyb (λ y. (eqb a (low_of c d y) && eqb b (high_of c d y)) && held_now (J.slot d y)) edge_numbers) (J.kids c)

  -- Rule 7.7.
  unfoldable pub fresh_status : ℕ → ℕ → ℕ
  unfolding bits_of pair_held
  fresh_status c i = bits_of (map (λ y. pair_held c (low_digit 63 i y) (high_digit 63 i y)) edge_numbers)

  pub fresh_is : (c i : ℕ) → fresh_status c i ≡ bits_of (map (λ y. pair_held c (low_digit 63 i y) (high_digit 63 i y)) edge_numbers)
  unfolding fresh_status
  fresh_is c i = refl

unfoldable pub coarseb : ℕ → Bool
coarseb zero = true
coarseb (suc k) = false

module _ {Part : Type 0} (F : Finite Part) (J : Task Part) (p : Part) (st : State) where
  -- Rule 7.7.
  unfoldable pub staysb : ℕ → ℕ → Bool
  unfolding coarseb
  staysb k c = coarseb k || (not (eqb (J.status c) 0) || (eqb (J.status (J.parent c)) 64 && st.red (J.parent c)))

  -- Rule 15.2.
  unfoldable pub master_entry : ℕ → ℕ → List Entry
  unfolding staysb is_part status_new
  master_entry k c = elim (is_part F (J.owner c) p && staysb k c) [ true ↦ entry_by (J.path c) (status_new J st c) false ∷ [] | false ↦ [] ]

  -- Rule 15.2.
  unfoldable pub ghost_entry : ℕ → List Entry
  unfolding is_part status_new
  ghost_entry c =
      elim (not (is_part F (J.owner c) p) && (is_part F (J.family c) p && not (eqb (status_new J st c) 0))) [
        | true ↦ entry_by (J.path c) (status_new J st c) true ∷ []
        | false ↦ []
      ]

  -- Rule 15.13.
  unfoldable pub anewb : ℕ → ℕ → Bool
  unfolding is_part staysb status_new
  anewb k c =
      is_part F (J.family c) p
      && (staysb k c && (not (eqb (status_new J st c) 0) && not (eqb (J.status c) 64 && eqb (status_new J st c) 64)))

  -- Rule 7.7.
  unfoldable pub child_status : ℕ → ℕ → ℕ
  unfolding status_new fresh_status
  child_status c i = elim (eqb (status_new J st c) 64) [ true ↦ fresh_status J st c i | false ↦ 0 ]

  -- the new child i of the cell c, and its children where it is refined at once
  unfoldable pub child_entries : ℕ → ℕ → List Entry
  unfolding child_status size_of range
  child_entries c i =
      entry_by (J.path c ++ (i ∷ [])) (child_status c i) false
      ∷ map (λ j. entry_by ((J.path c ++ (i ∷ [])) ++ (j ∷ [])) 0 false) (range 0 (size_of (child_status c i)))

  unfoldable pub fresh_entries : ℕ → ℕ → List Entry
  unfolding anewb child_entries status_new size_of range flat_map
  fresh_entries k c = elim (anewb k c) [ true ↦ flat_map (child_entries c) (range 0 (size_of (status_new J st c))) | false ↦ [] ]

  abbrev pub cell_entries : ℕ → ℕ → List Entry
  cell_entries k c = master_entry k c ++ (ghost_entry c ++ fresh_entries k c)

  abbrev pub level_entries : ℕ → List Entry
  level_entries k = flat_map (cell_entries k) (J.cells k)

  -- Rule 15.11.
  unfoldable pub entries : List Entry
  unfolding master_entry ghost_entry fresh_entries range flat_map
  entries = flat_map level_entries (range 0 (suc J.top))
