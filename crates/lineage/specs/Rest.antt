-- A sound table from one of its levels on.
--   Rest m ss fs ms h k cs rs   the cells cs, numbered from k on, are a level of the sound table ss over m coarse cells with flags fs
--                               for marks ms; at most h levels are left, and rs is the rest of the table
-- Laws: rest_start (the coarse level), rest_next (one level up), rest_up (this level and the one above it),
-- rest_flagged (the flags of a level).
use Rattle.std.specs.Prelude.{◌≡◌, refl, Bool, ◌&&◌, ℕ, suc, ◌+◌, ◌≤◌, ◌<◌, eqb, leb, take, drop}
use Rattle.std.proofs.Math.Path.{sym, ap}
use Rattle.std.proofs.Common.{◌∙◌, arith, eqb→eq, length-append, length-drop, length-take-le, drop-drop, drop_at, take-add, take-take, get_or-take, get_or-drop}
use mathlib.Core.List.{List, [], ◌∷◌, ◌++◌, flat_map, flatten}
use Rattle.std.proofs.Math.Dec.{T, leb→le}
use Rattle.std.proofs.Math.ListN.{length, get_or, get_or-append}
use Rattle.std.proofs.lemmas.List.{length-map}
use Rattle.base.specs.Limits.{most_cells, most_levels}
use Rattle.base.specs.Lists.{allb}
use Rattle.base.specs.Bools.{and_left, and_right}
use Rattle.mesh.specs.Cells.{Cell, no_cell}
use Rattle.mesh.specs.Weights.{Point, coarse_cells}
use Rattle.mesh.specs.Table.{Level, next, levels, levels_of, cells_of, closedb, apartb, soundb, sizes}
use Rattle.mesh.specs.Step.{Row, rows_from, rows, rows_up, edges_up, new_redb, new_reds}
use Rattle.base.specs.Every.{get_d_map}
use Rattle.lattice.specs.Levels.{sound_levels}
use Rattle.numbering.specs.Refined.{Follows, closed_refined}
use Rattle.lineage.specs.Olds.{flag_of, flags_of, flags, flag_table, first_child}
use Rattle.rows.specs.Many.{length-next}
use Rattle.lineage.specs.Paths.{Paths, paths_next, paths_coarse}
use Rattle.lineage.specs.Same.{Up, both_at}
use Rattle.lineage.specs.Levels.{here}
use Rattle.lineage.specs.Flags.{no_row, new_red_at, FlaggedLevel, length-rows, rows_at}
use Rattle.mesh.specs.Laws.{sizes_append, length-coarse}

pub record Rest (m : ℕ) (ss fs ms : List ℕ) (h k : ℕ) (cs : List (Cell Point)) (rs : List ℕ) : Type 0 where
  pub rest : drop k ss ≡ rs
  pub paths : Paths cs
  pub closed : T (allb closedb (levels h k cs rs))
  pub count : k + length (cells_of (levels h k cs rs)) ≡ length ss
  pub few : length ss ≤ most_cells
  pub high : length (levels h k cs rs) < h
  pub first : m + sizes (take k ss) ≡ k + length cs
  pub flagged : drop k fs ≡ flatten (flags (levels h k cs rs) ms)
  pub small : length fs ≤ most_cells

-- at most one flag for each cell
length-rows_few : (k : ℕ) (cs : List (Cell Point)) (ss ms : List ℕ) → length (rows_from k cs ss ms) ≤ length cs
unfolding rows_from
length-rows_few k [] ss ms = omega arith
length-rows_few k (c ∷ cs) [] ms = omega arith
length-rows_few k (c ∷ cs) (s ∷ ss) ms = omega (arith, length-rows_few (suc k) cs ss ms)

length-flags_of : (ls : List Level) (ms : List ℕ) (rs : List Row) → length (flags_of ls ms rs) ≡ length rs
unfolding flags_of
length-flags_of ls ms rs = length-map rs (λ r. flag_of (new_redb (rows_up ls ms) (edges_up (new_reds ls ms)) r))

length-level_rows : (l : Level) (ms : List ℕ) → length (rows l ms) ≤ length l.cells
unfolding rows
length-level_rows l ms = length-rows_few l.first l.cells l.statuses ms

length-flags : (ls : List Level) (ms : List ℕ) → length (flatten (flags ls ms)) ≤ length (cells_of ls)
unfolding flags cells_of flat_map flatten
length-flags [] ms = omega arith
length-flags (l ∷ ls) ms =
    omega (
      arith,
      length-append (flags_of ls ms (rows l ms)) (flatten (flags ls ms)),
      length-append l.cells (cells_of ls),
      length-flags_of ls ms (rows l ms),
      length-level_rows l ms,
      length-flags ls ms,
    )

-- the coarse level
module _ (n : ℕ) (qs : List (List ℕ)) (ss ms : List ℕ) (t : T (soundb n qs ss)) where
  sound_count : (length ss ≡ length (cells_of (levels_of n qs ss))) × (length (cells_of (levels_of n qs ss)) ≤ most_cells)
  unfolding soundb
  sound_count =
      let ls = levels_of n qs ss in
      let m = length (cells_of ls) in
      let (a, b) = parts (eqb (length ss) m) (leb (length ls) most_levels) (leb m most_cells) (allb closedb ls && apartb (cells_of ls) ss) t in
      (eqb→eq (length ss) m a, leb→le m most_cells b)
    where
      parts : (a b c d : Bool) → T ((a && (b && c)) && d) → T a × T c
      parts a b c d t = search (and_left, and_right)

  flags_few : length (flag_table n qs ss ms) ≤ most_cells
  unfolding flag_table
  flags_few = let (a, b) = sound_count in omega (arith, length-flags (levels_of n qs ss) ms)

  pub rest_start : Rest (length qs) ss (flag_table n qs ss ms) ms 12 0 (coarse_cells n qs) ss
  unfolding levels_of flag_table sizes
  rest_start =
      let (a, b) = sound_count in
      let (l, c) = sound_levels n qs ss t in
      record {
        rest = refl;
        paths = paths_coarse n qs;
        closed = c;
        count = omega (arith, a);
        few = omega (arith, a, b);
        high = omega (arith, l);
        first = omega (arith, length-coarse n qs);
        flagged = refl;
        small = flags_few;
      }

-- a level, and the level above it
module _ (m : ℕ) (ss fs ms : List ℕ) (h k : ℕ) (c : Cell Point) (cs : List (Cell Point)) (rs : List ℕ)
    (r : Rest m ss fs ms (suc h) k (c ∷ cs) rs) where
  abbrev own : List ℕ
  own = take (length (c ∷ cs)) rs

  abbrev upper : List Level
  upper = levels h (k + length (c ∷ cs)) (next k (c ∷ cs) own) (drop (length (c ∷ cs)) rs)

  cells_count : k + (length (c ∷ cs) + length (cells_of upper)) ≡ length ss
  unfolding levels cells_of flat_map flatten
  cells_count = ap (λ (x : ℕ). k + x) (sym (length-append (c ∷ cs) (cells_of upper))) ∙ r.count

  length-own : length own ≡ length (c ∷ cs)
  length-own = length-take-le (length (c ∷ cs)) rs (omega (arith, cells_count, length-drop k ss, ap length r.rest))

  closed_here : T (closedb (here k (c ∷ cs) rs)) × T (allb closedb upper)
  unfolding levels allb
  closed_here = (
    and_left (closedb (here k (c ∷ cs) rs)) (allb closedb upper) r.closed,
    and_right (closedb (here k (c ∷ cs) rs))
        (allb closedb upper) r.closed,
  )

  flags_here : drop k fs ≡ flags_of upper ms (rows (here k (c ∷ cs) rs) ms) ++ flatten (flags upper ms)
  unfolding levels flags flat_map flatten
  flags_here = r.flagged

  length-flags_here : length (flags_of upper ms (rows (here k (c ∷ cs) rs) ms)) ≡ length (c ∷ cs)
  length-flags_here = length-flags_of upper ms (rows (here k (c ∷ cs) rs) ms) ∙ length-rows (here k (c ∷ cs) rs) ms length-own

  high_up_lem : length upper < h
  unfolding levels
  high_up_lem = omega (arith, r.high)

  pub rest_next : Rest m ss fs ms h (k + length (c ∷ cs)) (next k (c ∷ cs) own) (drop (length (c ∷ cs)) rs)
  rest_next =
      record {
        rest = sym (drop-drop (length (c ∷ cs)) k ss) ∙ ap (drop (length (c ∷ cs))) r.rest;
        paths = paths_next k (c ∷ cs) own r.paths;
        closed = closed_here.1;
        count = omega (arith, cells_count);
        few = r.few;
        high = high_up_lem;
        first =
            let e : sizes (take (k + length (c ∷ cs)) ss) ≡ sizes (take k ss) + sizes own =
            ap sizes (take-add k (length (c ∷ cs)) ss) ∙ sizes_append (take k ss) (take (length (c ∷ cs)) (drop k ss))
            ∙ ap (λ (l : List ℕ). sizes (take k ss) + sizes (take (length (c ∷ cs)) l)) r.rest in
            omega (arith, e, r.first, length-next k (c ∷ cs) own (sym length-own));
        flagged =
            sym (drop-drop (length (c ∷ cs)) k fs) ∙ ap (drop (length (c ∷ cs))) flags_here
            ∙ drop_at (flags_of upper ms (rows (here k (c ∷ cs) rs) ms)) (flatten (flags upper ms)) (length (c ∷ cs)) length-flags_here;
        small = r.small;
      }

  follows_here : (t : ℕ) → t < length (c ∷ cs) → Follows (get_or (c ∷ cs) t no_cell) (get_or own t 0)
  follows_here = both_at Follows (c ∷ cs) own length-own (closed_refined (here k (c ∷ cs) rs) closed_here.0)

  status_here : (t : ℕ) → t < length (c ∷ cs) → get_or ss (k + t) 0 ≡ get_or own t 0
  status_here t l =
      sym (get_or-drop k ss t 0) ∙ ap (λ (x : List ℕ). get_or x t 0) r.rest ∙ sym (get_or-take (length (c ∷ cs)) rs t 0 l)

  child_here : (t : ℕ) → t < length (c ∷ cs) → first_child m ss (k + t) ≡ (k + length (c ∷ cs)) + sizes (take t own)
  unfolding first_child
  child_here t l =
      let e : sizes (take (k + t) ss) ≡ sizes (take k ss) + sizes (take t own) =
      ap sizes (take-add k t ss) ∙ sizes_append (take k ss) (take t (drop k ss))
      ∙ ap (λ (x : List ℕ). sizes (take k ss) + sizes x) (ap (take t) r.rest ∙ sym (take-take t (length (c ∷ cs)) rs (omega arith))) in
      omega (arith, e, r.first)

  pub rest_up : Up m ss (here k (c ∷ cs) rs) (here (k + length (c ∷ cs)) (next k (c ∷ cs) own) (drop (length (c ∷ cs)) rs))
  rest_up =
      record {
        known = length-own;
        paths = r.paths;
        reds = λ t l e. (follows_here t l).regular (λ z. omega (arith, e, z));
        status = status_here;
        child = child_here;
        small = r.few;
        cells = refl;
      }

  flag_here : (t : ℕ) → t < length (c ∷ cs) → get_or fs (k + t) 0 ≡ flag_of (new_red_at ms upper (here k (c ∷ cs) rs) t)
  unfolding flags_of
  flag_here t l =
      let l' : t < length (rows (here k (c ∷ cs) rs) ms) = omega (arith, length-rows (here k (c ∷ cs) rs) ms length-own) in
      sym (get_or-drop k fs t 0) ∙ ap (λ (x : List ℕ). get_or x t 0) flags_here
      ∙ get_or-append (flags_of upper ms (rows (here k (c ∷ cs) rs) ms)) (flatten (flags upper ms)) 0 t (omega (arith, length-flags_here))
      ∙ get_d_map (λ r. flag_of (new_redb (rows_up upper ms) (edges_up (new_reds upper ms)) r)) (rows (here k (c ∷ cs) rs) ms) t no_row 0 l'
      ∙ ap (λ (r : Row). flag_of (new_redb (rows_up upper ms) (edges_up (new_reds upper ms)) r)) (rows_at (here k (c ∷ cs) rs) ms length-own t l)

  pub rest_flagged : FlaggedLevel fs ms upper (here k (c ∷ cs) rs)
  rest_flagged = record { known = length-own; paths = r.paths; follows = follows_here; flag = flag_here; small = r.small }
