-- The tables while the steps of an archive are loaded.
--   Load bs from ..    what the tables hold where the scan has come to a place
--   load_start, load_mark, load_step   its turns
--   load_inside, mark_inside, mark_room, step_room   what is read and written is there
--   cells-length, marks-length, ends-length-is       the tables keep their lengths
--   load_cells, load_marks, load_ends                what they hold at the end
-- Assumes nothing.
use mathlib.Core.Path.{◌≡◌, refl, sym, ◌∙◌, ap}
use mathlib.Core.List.{List, [], ◌∷◌, ◌++◌, map, append_assoc, append-nil, flatten}
use Prim.Native.Nat.{ℕ, suc, ◌+◌, ◌≤◌, ◌<◌}
use native.Mathlib.Omega.{arith}
use lib.ListN.{length, get_or, drop, set, length-append, length-map}
use lib.Seq.{get_or-drop, drop-drop}
use Rattle.base.specs.Append.{front_length}
use Rattle.archive.specs.Form.{whole}
use Rattle.archive.specs.Tables.{Mark, cell_of, mark_of, marked_of, marks_of, ends_of, ends_after}
use Rattle.archive.specs.Scan.{mark_in, ScanAt, on_start, on_mark, on_step}
use Rattle.archive.specs.Loaded.{in_front, steps_at, StepsFit}
use Rattle.archive.proofs.Fill.{put}
use Rattle.archive.proofs.Loading.{ok_inside, mark_next, step_next, on_all, marks_room, steps_room}

map_snoc : (g : Mark → ℕ) (a b : List Mark) (x : Mark) → map g (a ++ (b ++ (x ∷ []))) ≡ map g (a ++ b) ++ (g x ∷ [])
map_snoc g [] [] x = refl
map_snoc g [] (y ∷ b) x = ap (λ (t : List ℕ). g y ∷ t) (map_snoc g [] b x)
map_snoc g (y ∷ a) b x = ap (λ (t : List ℕ). g y ∷ t) (map_snoc g a b x)

flatten_one : (s : List (List Mark)) (ms : List Mark) → flatten (s ++ (ms ∷ [])) ++ [] ≡ flatten s ++ ms
unfolding flatten
flatten_one [] ms = append-nil (ms ++ []) ∙ append-nil ms
flatten_one (a ∷ s) ms =
    append_assoc a (flatten (s ++ (ms ∷ []))) []
    ∙ ap (λ (t : List Mark). a ++ t) (flatten_one s ms)
    ∙ sym (append_assoc a (flatten s) ms)

ends-length : (p : ℕ) (s : List (List Mark)) → length (ends_after p s) ≡ length s
unfolding ends_after
ends-length p [] = refl
ends-length p (ms ∷ s) = ap suc (ends-length (p + length ms) s)

ends_snoc : (p : ℕ) (s : List (List Mark)) (ms : List Mark) (m : ℕ) → p + (length (flatten s) + length ms) ≡ m
    → ends_after p (s ++ (ms ∷ [])) ≡ ends_after p s ++ (m ∷ [])
unfolding ends_after flatten
ends_snoc p [] ms m e = let q : p + length ms ≡ m = omega arith in rw q
ends_snoc p (a ∷ s) ms m e =
    ap (λ (t : List ℕ). (p + length a) ∷ t) (ends_snoc (p + length a) s ms m (omega (arith, length-append a (flatten s))))

abbrev passed : {bs : List ℕ} {from at least m s : ℕ} → ScanAt bs from at least m s → List Mark
passed o = flatten o.done ++ o.since

pub record Load (bs : List ℕ) (from : ℕ) (cs₀ ks₀ es₀ cs ks es : List ℕ) (at m s : ℕ) : Type 0 where
  pub least : ℕ
  pub on : ScanAt bs from at least m s
  pub cells : cs ≡ map cell_of (passed on) ++ drop m cs₀
  pub marks : ks ≡ map mark_of (passed on) ++ drop m ks₀
  pub ends : es ≡ ends_of on.done ++ drop s es₀

module _ {bs : List ℕ} {from : ℕ} {cs₀ ks₀ es₀ : List ℕ} (f : StepsFit bs from cs₀ ks₀ es₀) where
  pub load_start : Load bs from cs₀ ks₀ es₀ cs₀ ks₀ es₀ from 0 0
  unfolding on_start flatten ends_of
  load_start = record { least = 0; on = on_start bs from f.inside; cells = refl; marks = refl; ends = refl }

  module _ {cs ks es : List ℕ} {at m s : ℕ} (l : Load bs from cs₀ ks₀ es₀ cs ks es at m s) where
    many : (g : Mark → ℕ) → length (map g (passed l.on)) ≡ m
    many g = length-map (passed l.on) g ∙ omega (arith, length-append (flatten l.on.done) l.on.since, l.on.marks_are)

    ends_many : length (ends_of l.on.done) ≡ s
    unfolding ends_of
    ends_many = ends-length 0 l.on.done ∙ l.on.steps_are

    pub load_inside : at < length bs
    load_inside = ok_inside l.on f.well

    pub cells-length : length cs ≡ length cs₀
    cells-length =
        rw l.cells (front_length (map cell_of (passed l.on)) cs₀ m (many cell_of)
        (omega (arith, marks_room l.on f.well, f.marked_fit)))

    pub marks-length : length ks ≡ length ks₀
    marks-length =
        rw l.marks (front_length (map mark_of (passed l.on)) ks₀ m (many mark_of)
        (omega (arith, marks_room l.on f.well, f.marks_fit)))

    pub ends-length-is : length es ≡ length es₀
    ends-length-is =
        rw l.ends (front_length (ends_of l.on.done) es₀ s ends_many (omega (arith, steps_room l.on f.well, f.ends_fit)))

    module _ (e : get_or bs at 0 ≡ 77) where
      next_mark_lem : (c : ℕ) → c ≡ whole 2 (drop (at + 1) bs) → ScanAt bs from (at + 4) (c + 1) (m + 1) s
      next_mark_lem c q = on_mark l.on (mark_next l.on f.well e) c q

      pub mark_inside : at + 4 ≤ length bs
      mark_inside = (next_mark_lem (whole 2 (drop (at + 1) bs)) refl).near

      pub mark_room : m + 1 ≤ length (flatten (steps_at bs from).steps)
      mark_room = marks_room (next_mark_lem (whole 2 (drop (at + 1) bs)) refl) f.well

      pub load_mark : (c : ℕ) → c ≡ whole 2 (drop (at + 1) bs)
          → Load bs from cs₀ ks₀ es₀ (set cs m c) (set ks m (get_or bs (at + 3) 0)) es (at + 4) (m + 1) s
      unfolding on_mark
      load_mark c q =
          let a : cell_of (mark_in (drop at bs)) ≡ c = rw (drop-drop 1 at bs) (sym q) in
          let b : mark_of (mark_in (drop at bs)) ≡ get_or bs (at + 3) 0 = get_or-drop at bs 3 0 in
          record {
            least = c + 1;
            on = on_mark l.on (mark_next l.on f.well e) c q;
            cells =
                rw (
                  l.cells,
                  put 0 (map cell_of (passed l.on)) cs₀ m c (many cell_of) (omega (arith, mark_room, f.marked_fit)),
                  map_snoc cell_of (flatten l.on.done) l.on.since (mark_in (drop at bs)),
                  a,
                );
            marks =
                rw (
                  l.marks,
                  put 0 (map mark_of (passed l.on)) ks₀ m (get_or bs (at + 3) 0) (many mark_of) (omega (arith, mark_room, f.marks_fit)),
                  map_snoc mark_of (flatten l.on.done) l.on.since (mark_in (drop at bs)),
                  b,
                );
            ends = l.ends;
          }

    module _ (e : get_or bs at 0 ≡ 69 → ⊥) (d : get_or bs at 0 ≡ 77 → ⊥) where
      next_step : ScanAt bs from (at + 1) 0 m (s + 1)
      next_step = let n = step_next l.on f.well e d in on_step l.on n.0 n.1

      pub step_room : s + 1 ≤ length (steps_at bs from).steps
      step_room = steps_room next_step f.well

      pub load_step : Load bs from cs₀ ks₀ es₀ cs ks (set es s m) (at + 1) m (s + 1)
      unfolding on_step ends_of
      load_step =
          let n = step_next l.on f.well e d in
          record {
            least = 0;
            on = on_step l.on n.0 n.1;
            cells = rw (flatten_one l.on.done l.on.since) l.cells;
            marks = rw (flatten_one l.on.done l.on.since) l.marks;
            ends =
                rw (
                  l.ends,
                  put 0 (ends_of l.on.done) es₀ s m ends_many (omega (arith, step_room, f.ends_fit)),
                  ends_snoc 0 l.on.done l.on.since m (omega (arith, l.on.marks_are)),
                );
          }

    module _ (e : get_or bs at 0 ≡ 69) where
      all_done : flatten (steps_at bs from).steps ≡ passed l.on
      all_done = let a = on_all l.on f.well e in rw (a.0, a.1) (sym (append-nil (flatten l.on.done)))

      pub load_cells : cs ≡ in_front (marked_of (steps_at bs from).steps) cs₀
      unfolding marked_of
      load_cells = rw (all_done, many cell_of) l.cells

      pub load_marks : ks ≡ in_front (marks_of (steps_at bs from).steps) ks₀
      unfolding marks_of
      load_marks = rw (all_done, many mark_of) l.marks

      pub load_ends : es ≡ in_front (ends_of (steps_at bs from).steps) es₀
      load_ends = rw ((on_all l.on f.well e).1, ends_many) l.ends
