-- What the stores say of each cell, from the rows t of a table, its statuses ss, the numbers ks of first children and the owners os.
--   outerb t g c e       the edge e of the cell c is not also one of the cell g
--   inner_by t c          six bits: the edges of c that are not also its parent's
--   place_by t k c        the place of the cell c, which lies k levels above its coarse cell
--   family_by ks os c     the owner of its children; of a leaf its own
--   ten_of t ss ks os c   owner, family, status, 1 where regular, first child, parent, place (three numbers), inner edges
--   owners_by ss ks P os  the owners fit the table and P parts
--   FirstKids ks m            ks has the first children of m cells, and behind them how many cells there are
--   Sources ..             what the columns are made of
--   Filled .. c cols     cols has the numbers of the cells before c
--   ParentPlaced t cols c      cols has the place of the parent of c
use Rattle.std.specs.Prelude.{◌≡◌, Bool, true, false, ◌&&◌, not, List, [], ◌∷◌, map, ℕ, zero, suc, ◌+◌, ◌-◌, ◌*◌, ◌≤◌, ◌<◌, eqb, leb, ltb, length, get_or}
use Rattle.base.specs.Limits.{most_cells}
use Rattle.base.specs.Lists.{allb}
use Rattle.base.specs.Range.{range}
use Rattle.mesh.specs.Cells.{edge, edges, heldb, bits_of}
use Rattle.mesh.specs.Layout.{edge_numbers}
use Rattle.rows.specs.Numbered.{cell_at}
use Rattle.ancestors.specs.Climb.{level_in, parent_in}
use Rattle.store.specs.Fields.{DIGITS, HEAD, MORE, OWNER}
use Rattle.store.specs.declared.Place.{Place}
use Rattle.store.specs.Places.{coarse_place, child_place}

-- Rule 7.5.
unfoldable pub outerb : List ℕ → ℕ → ℕ → ℕ → Bool
unfolding heldb edges edge cell_at
outerb t g c e = not (heldb eqb (edges 0 (cell_at t g)) (edge 0 (cell_at t c) e))

-- Rule 7.5.
unfoldable pub inner_by : List ℕ → ℕ → ℕ
unfolding outerb bits_of
inner_by t c = elim (eqb (level_in t c) 0) [ true ↦ 0 | false ↦ bits_of (map (outerb t (parent_in t c) c) edge_numbers) ]

-- Rule 3.3.
unfoldable pub place_by : List ℕ → ℕ → ℕ → Place
unfolding child_place
place_by t zero c = coarse_place c
place_by t (suc k) c = child_place (place_by t k (parent_in t c)) (get_or t (8 * c + 2) 0)

-- Rule 15.1.
unfoldable pub family_by : List ℕ → List ℕ → ℕ → ℕ
family_by ks os c = elim (ltb (get_or ks c 0) (get_or ks (suc c) 0)) [ true ↦ get_or os (get_or ks c 0) 0 | false ↦ get_or os c 0 ]

-- Rule 15.5.
unfoldable pub ten_of : List ℕ → List ℕ → List ℕ → List ℕ → ℕ → List ℕ
unfolding family_by place_by inner_by
ten_of t ss ks os c =
    let p = place_by t (level_in t c) c in
    get_or os c 0 ∷ family_by ks os c ∷ get_or ss c 0 ∷ get_or t (8 * c + 3) 0 ∷ get_or ks c 0 ∷ parent_in t c
    ∷ p.head ∷ p.digits ∷ p.more ∷ inner_by t c ∷ []

-- Rule 15.14.
unfoldable pub owners_by : List ℕ → List ℕ → ℕ → List ℕ → Bool
unfolding allb range family_by
owners_by ss ks P os =
    (eqb (length os) (length ss) && allb (λ o. leb 1 o && leb o P) os)
    && allb (λ c. allb (λ d. eqb (get_or os d 0) (family_by ks os c)) (range (get_or ks c 0) (get_or ks (suc c) 0 - get_or ks c 0)))
    (range 0 (length ss))

-- where the columns of places begin, as in a store
abbrev pub head_column : ℕ
head_column = HEAD - OWNER

abbrev pub digits_column : ℕ
digits_column = DIGITS - OWNER

abbrev pub more_column : ℕ
more_column = MORE - OWNER

pub record FirstKids (ks : List ℕ) (m : ℕ) : Type 0 where
  pub long : m < length ks
  pub top : (c : ℕ) → c ≤ m → get_or ks c 0 ≤ m

pub record Sources (t ss ks os : List ℕ) : Type 0 where
  pub few : length ss ≤ most_cells
  pub rows : 8 * length ss ≤ length t
  pub kids : FirstKids ks (length ss)
  pub owners : length os ≡ length ss
  pub up : (c : ℕ) → c < length ss → 0 < level_in t c → (parent_in t c < c) × (level_in t c ≡ suc (level_in t (parent_in t c)))

pub record Filled (t ss ks os : List ℕ) (c : ℕ) (cols : List ℕ) : Type 0 where
  pub at : (d j : ℕ) → d < c → j < 10 → get_or cols (most_cells * j + d) 0 ≡ get_or (ten_of t ss ks os d) j 0

pub record ParentPlaced (t cols : List ℕ) (c : ℕ) : Type 0 where
  pub below : 0 < level_in t c → parent_in t c < c
  pub is : 0 < level_in t c → ◌≡◌ {A = Place}
      (record {
        head = get_or cols (head_column + parent_in t c) 0;
        digits = get_or cols (digits_column + parent_in t c) 0;
        more = get_or cols (more_column + parent_in t c) 0;
      })
      (place_by t (level_in t (parent_in t c)) (parent_in t c))
  pub level : 0 < level_in t c → level_in t c ≡ suc (level_in t (parent_in t c))
