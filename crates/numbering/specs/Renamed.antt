-- Cells under other names for their points: where a renaming keeps the test of equality on the points concerned, it keeps
-- every test on edges.
--   map_edge f e      the edge e with its ends renamed
--   Points Q c       c has four points, and Q holds of each
--   EndsIn Q e       Q holds of both ends of e
--   split_numbers s   the numbers of the edges that the status s splits
--   apart_of cs ss    `apartb` of mesh, over points of any kind
-- Laws: edge-map, edges-map, red_edges-map, split_edges-map (renaming and then looking is looking and then renaming), held-map,
-- closed-map, apart-map (the tests are kept).
use Rattle.std.specs.Prelude.{◌≡◌, Bool, ◌||◌, not, ℕ, ◌<◌, length, get_or}
use Rattle.std.proofs.Math.Path.{refl, sym, ap, ap₂}
use Rattle.std.proofs.Common.{◌∙◌, arith}
use Rattle.std.proofs.Math.Bool.{true, false}
use mathlib.Core.List.{List, [], ◌∷◌, ◌++◌, map, map-append}
use Rattle.std.proofs.Math.ListN
use Rattle.base.specs.Lists.{allb, anyb, filterb}
use Rattle.cutting.specs.Rule.{low, high, split}
use Rattle.mesh.specs.Cells.{Cell, corner, edge, edges, redb, pattern_of, joinsb, heldb, pattern, bits_of, status_of, closed_from, red_edges}
use Rattle.mesh.specs.Layout.{map_cell, split_edges, edge_numbers}
use Rattle.base.specs.Every.{All, all_at, all_append, all_more, get_d_map}
use Rattle.families.specs.Children.{middle, middle_ends}
use Rattle.base.specs.Each.{all_default, all_mapped, all_map, map_more, all_filter}

abbrev pub map_edge : {A B : Type 0} → (A → B) → A × A → B × B
map_edge f e = (f e.0, f e.1)

pub record Points {A : Type 0} (Q : A → Type 0) (c : Cell A) : Type 0 where
  pub four : length c.points ≡ 4
  pub each : All Q c.points

abbrev pub EndsIn : {A : Type 0} → (A → Type 0) → A × A → Type 0
EndsIn Q e = Q e.0 × Q e.1

-- edges by their numbers, and those that a status splits
six : All (λ e. e < 6) edge_numbers
six = (omega arith, (omega arith, (omega arith, (omega arith, (omega arith, (omega arith, tt))))))

-- Rules 2.1, 4.1: the edges that a status splits.
abbrev pub split_numbers : ℕ → List ℕ
split_numbers s = filterb (split (pattern_of s)) edge_numbers

pub split_numbers_lem : (s : ℕ) → All (λ e. e < 6) (split_numbers s)
split_numbers_lem s = all_filter (split (pattern_of s)) (λ e. e < 6) edge_numbers six

-- no edge of c, unless also of its parent d, stands in es
abbrev apart_cell : {A : Type 0} → A → (A → A → Bool) → List (A × A) → Cell A → Cell A → Bool
apart_cell o same es d c = allb (λ e. heldb same (edges o d) e || not (heldb same es e)) (edges o c)

-- Rule 6.4, over points of any kind.
unfoldable pub apart_of : {A : Type 0} → A → (A → A → Bool) → List (Cell A) → List ℕ → Bool
unfolding allb edges heldb red_edges
apart_of o same cs ss =
    let reds = red_edges o cs ss in
    allb (λ c. c.regular || apart_cell o same reds (get_or cs c.parent c) c) cs

-- Looking at a renamed cell.
module _ {A B : Type 0} (o : A) (o' : B) (f : A → B) (Q : A → Type 0) where
  module _ (c : Cell A) (p : Points Q c) where
    pub corner_in : (i : ℕ) → i < 4 → Q (corner o c i)
    corner_in i h = all_at Q o c.points p.each i (rw p.four h)

    pub corner-map : (i : ℕ) → i < 4 → corner o' (map_cell f c) i ≡ f (corner o c i)
    unfolding map_cell
    corner-map i h = get_d_map f c.points i o o' (rw p.four h)

    pub edge_in_lem : (e : ℕ) → e < 6 → EndsIn Q (edge o c e)
    unfolding edge
    edge_in_lem e h =
        let (a, b, _) = middle_ends e h in
        (corner_in (low (middle e)) (omega arith), corner_in (high (middle e)) b)

    pub edge-map : (e : ℕ) → e < 6 → edge o' (map_cell f c) e ≡ map_edge f (edge o c e)
    unfolding edge
    edge-map e h =
        let (a, b, _) = middle_ends e h in
        ap₂ (λ (x y : B). (x, y)) (corner-map (low (middle e)) (omega arith)) (corner-map (high (middle e)) b)

    edge_ins : (es : List ℕ) → All (λ e. e < 6) es → All (EndsIn Q) (map (edge o c) es)
    edge_ins es h = all_mapped (EndsIn Q) (edge o c) es (all_more (λ e. e < 6) (λ e. EndsIn Q (edge o c e)) edge_in_lem es h)

    edge_maps : (es : List ℕ) → All (λ e. e < 6) es → map (edge o' (map_cell f c)) es ≡ map (map_edge f) (map (edge o c) es)
    edge_maps es h =
        map_more (edge o c) (map_edge f) (edge o' (map_cell f c)) es
        (all_more (λ e. e < 6) (λ e. edge o' (map_cell f c) e ≡ map_edge f (edge o c e)) edge-map es h)

    pub edges_in : All (EndsIn Q) (edges o c)
    unfolding edges
    edges_in = edge_ins edge_numbers six

    pub edges-map : edges o' (map_cell f c) ≡ map (map_edge f) (edges o c)
    unfolding edges
    edges-map = edge_maps edge_numbers six

    pub split_edges_in : (s : ℕ) → All (EndsIn Q) (split_edges o c s)
    unfolding split_edges
    split_edges_in s = edge_ins (split_numbers s) (split_numbers_lem s)

    pub split_edges-map : (s : ℕ) → split_edges o' (map_cell f c) s ≡ map (map_edge f) (split_edges o c s)
    unfolding split_edges
    split_edges-map s = edge_maps (split_numbers s) (split_numbers_lem s)

  pub red_edges_in : (cs : List (Cell A)) (ss : List ℕ) → All (Points Q) cs → All (EndsIn Q) (red_edges o cs ss)
  unfolding red_edges
  red_edges_in [] ss p = tt
  red_edges_in (c ∷ cs) [] p = tt
  red_edges_in (c ∷ cs) (s ∷ ss) p = go (redb s) refl (red_edges_in cs ss p.1)
    where
      go : (r : Bool) → redb s ≡ r → All (EndsIn Q) (red_edges o cs ss) → All (EndsIn Q) (red_edges o (c ∷ cs) (s ∷ ss))
      go true e i = rw (e, red_edges) (all_append (EndsIn Q) (edges o c) (red_edges o cs ss) (edges_in c p.0) i)
      go false e i = rw (e, red_edges) i

  pub red_edges-map : (cs : List (Cell A)) (ss : List ℕ) → All (Points Q) cs → red_edges o' (map (map_cell f) cs) ss ≡ map (map_edge f)
      (red_edges o cs ss)
  unfolding red_edges
  red_edges-map [] ss p = refl
  red_edges-map (c ∷ cs) [] p = refl
  red_edges-map (c ∷ cs) (s ∷ ss) p = go (redb s) refl (red_edges-map cs ss p.1)
    where
      go : (r : Bool) → redb s ≡ r → red_edges o' (map (map_cell f) cs) ss ≡ map (map_edge f) (red_edges o cs ss)
          → red_edges o' (map_cell f c ∷ map (map_cell f) cs) (s ∷ ss) ≡ map (map_edge f) (red_edges o (c ∷ cs) (s ∷ ss))
      go true e i = rw (e, red_edges) (ap₂ ◌++◌ (edges-map c p.0) i ∙ sym (map-append (map_edge f) (edges o c) (red_edges o cs ss)))
      go false e i = rw (e, red_edges) i

-- the status of a cell by its pattern x, where b says whether it is regular and r whether it is red
abbrev chosen : Bool → Bool → ℕ → ℕ
chosen b r x = elim b [ true ↦ elim r [ true ↦ 64 | false ↦ x ] | false ↦ 0 ]

-- Where the renaming keeps the test.
module _ {A B : Type 0} (o : A) (o' : B) (same : A → A → Bool) (same' : B → B → Bool) (f : A → B) (Q : A → Type 0)
    (keeps : (a b : A) → Q a → Q b → same' (f a) (f b) ≡ same a b) where
  joins-map : (e g : A × A) → EndsIn Q e → EndsIn Q g → joinsb same' (map_edge f e) (map_edge f g) ≡ joinsb same e g
  unfolding joinsb
  joins-map e g p q =
      rw (
        keeps e.0 g.0 p.0 q.0,
        keeps e.1 g.1 p.1 q.1,
        keeps e.0 g.1 p.0 q.1,
        keeps e.1 g.0
            p.1 q.0,
      )

  pub held-map : (es : List (A × A)) (e : A × A) → All (EndsIn Q) es → EndsIn Q e → heldb same' (map (map_edge f) es) (map_edge f e) ≡ heldb
      same es e
  unfolding heldb anyb
  held-map [] e p q = refl
  held-map (g ∷ es) e p q = rw (joins-map e g q p.0, held-map es e p.1 q)

  helds_map : (es l : List (A × A)) → All (EndsIn Q) es → All (EndsIn Q) l → map (heldb same' (map (map_edge f) es)) (map (map_edge f) l)
      ≡ map (heldb same es) l
  helds_map es [] p q = refl
  helds_map es (e ∷ l) p q = ap₂ ◌∷◌ (held-map es e p q.0) (helds_map es l p q.1)

  pattern-map : (es : List (A × A)) (c : Cell A) → All (EndsIn Q) es → Points Q c
      → pattern o' same' (map (map_edge f) es) (map_cell f c) ≡ pattern o same es c
  unfolding pattern
  pattern-map es c p q = ap bits_of (ap (map (heldb same' (map (map_edge f) es))) (edges-map o o' f Q c q)
      ∙ helds_map es (edges o c) p (edges_in o o' f Q c q))

  status-map : (es : List (A × A)) (r : Bool) (c : Cell A) → All (EndsIn Q) es → Points Q c
      → status_of o' same' (map (map_edge f) es) r (map_cell f c) ≡ status_of o same es r c
  unfolding status_of map_cell
  status-map es r c p q = ap (chosen c.regular r) (pattern-map es c p q)

  pub closed-map : (es : List (A × A)) (cs : List (Cell A)) (ss : List ℕ) → All (EndsIn Q) es → All (Points Q) cs
      → closed_from o' same' (map (map_edge f) es) (map (map_cell f) cs) ss ≡ closed_from o same es cs ss
  unfolding closed_from
  closed-map es [] [] p q = refl
  closed-map es [] (s ∷ ss) p q = refl
  closed-map es (c ∷ cs) [] p q = refl
  closed-map es (c ∷ cs) (s ∷ ss) p q = rw (status-map es (redb s) c p q.0, closed-map es cs ss p q.1)

  apart_cell_lem : (es : List (A × A)) (d c : Cell A) → All (EndsIn Q) es → Points Q d → Points Q c
      → apart_cell o' same' (map (map_edge f) es) (map_cell f d) (map_cell f c) ≡ apart_cell o same es d c
  apart_cell_lem es d c p q r =
      rw (edges-map o o' f Q d q, edges-map o o' f Q c r)
      (all_map (map_edge f) _ _ (edges o c)
      (all_more (EndsIn Q) _ (λ e h. ap₂ (λ (x y : Bool). x || not y) (held-map (edges o d) e (edges_in o o' f Q d q) h)
      (held-map es e p h)) (edges o c)
      (edges_in o o' f Q c r)))

  pub apart-map : (cs : List (Cell A)) (ss : List ℕ) → All (Points Q) cs → apart_of o' same' (map (map_cell f) cs) ss ≡ apart_of o same cs ss
  unfolding apart_of map_cell
  apart-map cs ss p = all_map (map_cell f) _ _ cs (all_more (Points Q) _ (λ c q. ap (λ (x : Bool). c.regular || x) (at c q)) cs p)
    where
      at : (c : Cell A) → Points Q c
          → apart_cell o' same' (red_edges o' (map (map_cell f) cs) ss) (get_or (map (map_cell f) cs) c.parent (map_cell f c)) (map_cell f c)
          ≡ apart_cell o same (red_edges o cs ss) (get_or cs c.parent c) c
      at c q =
          rw (red_edges-map o o' f Q cs ss p, ListN.get_or-map (map_cell f) cs c.parent c)
          (apart_cell_lem (red_edges o cs ss) (get_or cs c.parent c) c (red_edges_in o o' f Q cs ss p)
          (all_default (Points Q) c cs p q c.parent) q)
