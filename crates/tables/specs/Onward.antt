-- One turn of the building: what a level's check says of the table, and that the next level stands where it should.
-- Assumes nothing.
use Rattle.std.specs.Prelude.{◌≡◌, refl, Bool, true, false, ◌&&◌, ◌||◌, ℕ, zero, suc, ◌+◌, ◌*◌, ◌-◌, ◌≤◌, ◌<◌, T, eqb, leb, length, get_or, take, drop}
use Rattle.std.proofs.Common.{sym, ◌∙◌, ap, add-zero, zero-add, suc-add, length-append, get_or-take, take-take}
use Rattle.std.proofs.Math.Path.{ap₂}
use mathlib.Core.List.{List, [], ◌∷◌, ◌++◌, map, flat_map, map-append, append_assoc, append-nil}
use native.Mathlib.Omega.{arith}
use Rattle.std.proofs.lemmas.List.{length-map}
use Rattle.std.proofs.Math.Seq.{take-nil}
use Rattle.base.specs.Lists.{sameb, allb}
use Rattle.base.specs.Bools.{and_right}
use Rattle.base.specs.Places.{hasb, has_append}
use Rattle.mesh.specs.Cells.{Cell, red_edges, closed_from, redb, edges, Four}
use Rattle.mesh.specs.Weights.{Point}
use Rattle.mesh.specs.Table.{next, cells_of, soundb, sizes}
use Rattle.mesh.specs.Layout.{Corner, coarse_corners, corners_from, row_of, map_cell, number_in}
use Rattle.edges.specs.Pairs.{Pair, sorted, isb, add_pairs, pairs_of}
use Rattle.pairs.specs.declared.PairTable.{PairTable}
use Rattle.edges.specs.Table.{entries, listed}
use Rattle.rows.specs.Numbered.{cells_at, part, ends_from}
use Rattle.base.specs.Every.{All, all_append, all_more}
use Rattle.base.specs.Each.{allb-take}
use Rattle.numbering.specs.Tests.{numbered_cells, Placed, closed_numbers}
use Rattle.numbering.specs.Refined.{Refined, closed_follows}
use Rattle.numbering.specs.Levels.{placed_kept, cells_kept}
use Rattle.numbering.specs.Stages.{NextStage, stage_next}
use Rattle.numbering.specs.Leaves.{leaf_corners, next_leaves}
use Rattle.numbering.specs.Tables.{corners_append}
use Rattle.closure.specs.Closed.{Lists, lists_added}
use Rattle.growth.specs.Written.{take-written}
use Rattle.growth.specs.Rows.{rows_all, rows_next, length-rows_of, flat_append}
use Rattle.growth.specs.Level.{Grows, Roomy}
use Rattle.rows.specs.Sizes.{status_fits}
use Rattle.rows.specs.Many.{length-next}
use Rattle.tables.specs.Levels.{reached_short, reached_more, reached_high, reached_open, reached_next, reached_end}
use Rattle.tables.specs.Checked.{Statuses, Listed, own_cells, own_statuses, own_reds, own_closed}
use Rattle.tables.specs.Here.{Laying, Here, Roof, Top, Child}
use Rattle.tables.specs.Cells.{strip, cells_at_lem, red_strip, closed_strip, ends_strip, points_strip}
use Rattle.tables.specs.Rising.{deep_next, child_next}
use Rattle.rows.specs.Laws.{length_part}

-- cells over numbers have four points
pub four_in : (ks : List Corner) (cs : List (Cell Point)) → All (Placed ks) cs → All Four (numbered_cells ks cs)
unfolding map_cell
four_in ks [] p = tt
four_in ks (c ∷ cs) p = (length-map c.points (number_in ks) ∙ p.0.four, four_in ks cs p.1)

pub length_in : (ks : List Corner) (cs : List (Cell Point)) → length (numbered_cells ks cs) ≡ length cs
length_in ks cs = length-map cs (map_cell (number_in ks))

-- red edges of two lists, one behind the other
red_append : (cs ds : List (Cell ℕ)) (ss : List ℕ) → red_edges 0 (cs ++ ds) ss ≡ red_edges 0 cs (take (length cs) ss) ++ red_edges 0 ds
    (drop (length cs) ss)
unfolding red_edges
red_append [] ds ss = refl
red_append (c ∷ cs) [] [] = refl
red_append (c ∷ cs) (d ∷ ds) [] = refl
red_append (c ∷ cs) ds (s ∷ ss) = go (redb s) (red_append cs ds ss)
  where
    go : (b : Bool) → red_edges 0 (cs ++ ds) ss ≡ red_edges 0 cs (take (length cs) ss) ++ red_edges 0 ds (drop (length cs) ss)
        → ◌≡◌ {A = List Pair} (elim b [ true ↦ edges 0 c ++ red_edges 0 (cs ++ ds) ss | false ↦ red_edges 0 (cs ++ ds) ss ])
        (◌++◌ {A = Pair} (elim b [ true ↦ edges 0 c ++ red_edges 0 cs (take (length cs) ss) | false ↦ red_edges 0 cs (take (length cs) ss) ])
        (red_edges 0 ds (drop (length cs) ss)))
    go true i = rw i (sym (append_assoc (edges 0 c) (red_edges 0 cs (take (length cs) ss)) (red_edges 0 ds (drop (length cs) ss))))
    go false i = i

-- the entries of a table, in two parts
pairs_split : (xs ys : List ℕ) (k m l : ℕ) → pairs_of xs ys k (m + l) ≡ pairs_of xs ys k m ++ pairs_of xs ys (k + m) l
unfolding pairs_of
pairs_split xs ys k m zero = rw (add-zero m) (sym (append-nil (pairs_of xs ys k m)))
pairs_split xs ys k m (suc l) =
    let e : m + suc l ≡ suc (m + l) = omega arith in
    let w : k + (m + l) ≡ k + m + l = omega arith in
    rw (e, w, pairs_split xs ys k m l)
    (append_assoc (pairs_of xs ys k m) (pairs_of xs ys (k + m) l) ((get_or xs (k + m + l) 0, get_or ys (k + m + l) 0) ∷ []))

-- entries that were kept
pairs_kept : (xs ys xs' ys' : List ℕ) (n : ℕ) → take n xs' ≡ take n xs → take n ys' ≡ take n ys → (k m : ℕ) → k + m ≤ n
    → pairs_of xs' ys' k m ≡ pairs_of xs ys k m
unfolding pairs_of
pairs_kept xs ys xs' ys' n ex ey k zero h = refl
pairs_kept xs ys xs' ys' n ex ey k (suc m) h =
    let a : get_or xs' (k + m) 0 ≡ get_or xs (k + m) 0 = sym (get_or-take n xs' (k + m) 0 (omega arith))
    ∙ ap (λ (l : List ℕ). get_or l (k + m) 0) ex ∙ get_or-take n xs (k + m) 0 (omega arith) in
    let b : get_or ys' (k + m) 0 ≡ get_or ys (k + m) 0 = sym (get_or-take n ys' (k + m) 0 (omega arith))
    ∙ ap (λ (l : List ℕ). get_or l (k + m) 0) ey ∙ get_or-take n ys (k + m) 0 (omega arith) in
    rw (pairs_kept xs ys xs' ys' n ex ey k m (omega arith), a, b)

drop-take : (a b : ℕ) (l : List ℕ) → drop a (take (a + b) l) ≡ take b (drop a l)
drop-take zero b l = rw (zero-add b)
drop-take (suc a) b [] = rw (suc-add a b) (sym (take-nil b))
drop-take (suc a) b (x ∷ l) = rw (suc-add a b) (drop-take a b l)

-- a part of a list that passes a test passes it
all_drop : (f : ℕ → Bool) (m : ℕ) (l : List ℕ) → T (allb f l) → T (allb f (drop m l))
unfolding allb
all_drop f zero l t = t
all_drop f (suc m) [] t = tt
all_drop f (suc m) (x ∷ l) t = all_drop f m l (and_right (f x) (allb f l) t)

part_fits : (ss : List ℕ) → allb (λ s. leb s 64) ss ≡ true → (k m : ℕ) → T (allb (λ s. leb s 64) (part ss k m))
part_fits ss t k m = allb-take (λ s. leb s 64) m (drop k ss) (all_drop (λ s. leb s 64) k ss (rw t tt))

deep_in : (ks : List Corner) (l : ℕ) (cs : List (Cell Point)) → T (allb (λ c. eqb (length c.path) l) cs)
    → T (allb (λ c. eqb (length c.path) l) (numbered_cells ks cs))
unfolding allb map_cell
deep_in ks l [] t = tt
deep_in ks l (c ∷ cs) t = go (eqb (length c.path) l) t (deep_in ks l cs)
  where
    go : (b : Bool) → T (b && allb (λ c. eqb (length c.path) l) cs)
        → (T (allb (λ c. eqb (length c.path) l) cs) → T (allb (λ c. eqb (length c.path) l) (numbered_cells ks cs)))
        → T (b && allb (λ c. eqb (length c.path) l) (numbered_cells ks cs))
    go true u i = i u
    go false u i = u

module _ {n : ℕ} {qs : List (List ℕ)} {ss : List ℕ} {j first last : ℕ} {rows : List ℕ}
    {M K : ℕ} {mids : PairTable M K} (h : Laying n qs ss j first last rows mids) where
  abbrev before : List (Cell Point)
  before = cells_of h.reached.done

  abbrev own : List ℕ
  own = part ss first (length h.cells)

  many : last - first ≡ length h.cells
  many = omega (arith, h.end)

  own_is : own_statuses rows ss first last ≡ part ss first (length h.cells)
  own_is = rw many

  halves : numbered_cells h.corners (before ++ h.cells) ≡ numbered_cells h.corners before ++ numbered_cells h.corners h.cells
  halves = map-append (map_cell (number_in h.corners)) before h.cells

  counted : length (numbered_cells h.corners before) ≡ first
  counted = length_in h.corners before ∙ h.reached.counted

  whole_length : length (numbered_cells h.corners before ++ numbered_cells h.corners h.cells) ≡ last
  whole_length = length-append (numbered_cells h.corners before) (numbered_cells h.corners h.cells)
      ∙ omega (arith, counted, length_in h.corners h.cells, h.end)

  cells_are : own_cells rows ss first last ≡ map strip (numbered_cells h.corners h.cells)
  cells_are =
      let z = cells_at_lem rows (numbered_cells h.corners before) (numbered_cells h.corners h.cells)
      (all_append Four (numbered_cells h.corners before) (numbered_cells h.corners h.cells) (four_in h.corners before h.placed)
      (four_in h.corners h.cells h.stage.placed))
      (rw (whole_length, ← halves) h.table) in
      let e : length (numbered_cells h.corners h.cells) ≡ last - first = length_in h.corners h.cells ∙ sym many in
      rw (counted, e) at z

  reds_are : own_reds rows ss first last ≡ red_edges 0 (numbered_cells h.corners h.cells) own
  reds_are = rw (cells_are, own_is) (red_strip (numbered_cells h.corners h.cells) own)

  pub closed_are : own_closed rows ss first last
      ≡ closed_from [] sameb (red_edges [] h.cells own) h.cells own
  closed_are =
      rw (reds_are, cells_are, own_is)
      (closed_strip (red_edges 0 (numbered_cells h.corners h.cells) own) (numbered_cells h.corners h.cells) own
      ∙ closed_numbers h.corners h.cells own h.stage.placed)

  -- The ways to fail.
  pub fails_short : length ss < last → soundb n qs ss ≡ false
  fails_short g = reached_short n qs ss j first h.cells h.reached h.low h.some (omega (arith, h.end))

  pub fails_more : last ≤ length ss → length ss < last + sizes (own_statuses rows ss first last) → soundb n qs ss ≡ false
  fails_more g l =
      reached_more n qs ss j first h.cells h.reached h.low h.some (omega (arith, h.end, ap sizes own_is))
      (omega (arith, h.end))

  pub fails_high : j ≡ 10 → last ≤ length ss → 0 < sizes (own_statuses rows ss first last) → soundb n qs ss ≡ false
  fails_high e g l = reached_high n qs ss j first h.cells h.reached h.low h.some e (omega (arith, ap sizes own_is))
      (omega (arith, h.end))

  pub fails_open : own_closed rows ss first last ≡ false
      → soundb n qs ss ≡ false
  fails_open e = reached_open n qs ss j first h.cells h.reached h.low h.some (sym closed_are ∙ e)

  -- What is listed after the level's red edges are.
  module _ {N H : ℕ} {t t' : PairTable N H} (g : Listed t (own_reds rows ss first last) t')
      (reds : Lists (listed t.xs t.ys 0 t.n) (red_edges 0 (numbered_cells h.corners before) (take first ss))) where
    both : (p : Pair) → hasb isb (listed t'.xs t'.ys 0 t'.n) p
        ≡ (hasb isb (listed t.xs t.ys 0 t.n) p || hasb isb (map sorted (red_edges 0 (numbered_cells h.corners h.cells) own)) p)
    unfolding pairs_of
    both p =
        let e : t'.n - 0 ≡ t.n + (t'.n - t.n) = omega (arith, g.more) in
        let z : 0 + t.n ≡ t.n = omega arith in
        let u : t.n - 0 ≡ t.n = omega arith in
        let new : pairs_of t'.xs t'.ys (0 + t.n) (t'.n - t.n) ≡ add_pairs [] (own_reds rows ss first last) = rw z g.list in
        let old : pairs_of t'.xs t'.ys 0 t.n ≡ listed t.xs t.ys 0 t.n = rw u
        (pairs_kept t.xs t.ys t'.xs t'.ys t.n g.kept_xs g.kept_ys 0 t.n (omega arith)) in
        let all : listed t'.xs t'.ys 0 t'.n ≡ listed t.xs t.ys 0 t.n ++ add_pairs [] (own_reds rows ss first last) =
        rw e (pairs_split t'.xs t'.ys 0 t.n (t'.n - t.n) ∙ ap₂ ◌++◌ old new) in
        rw all (has_append isb (listed t.xs t.ys 0 t.n) (add_pairs [] (own_reds rows ss first last)) p
        ∙ rw ((lists_added (own_reds rows ss first last)).has p, reds_are))

    red_halves : red_edges 0 (numbered_cells h.corners (before ++ h.cells)) (take last ss)
        ≡ red_edges 0 (numbered_cells h.corners before) (take first ss) ++ red_edges 0 (numbered_cells h.corners h.cells) own
    red_halves =
        let a : take first (take last ss) ≡ take first ss = take-take first last ss (omega (arith, h.end)) in
        let b : drop first (take last ss) ≡ own = rw h.end (drop-take first (length h.cells) ss) in
        rw halves (red_append (numbered_cells h.corners before) (numbered_cells h.corners h.cells) (take last ss)
        ∙ rw (counted, a, b))

    reds_after : Lists (listed t'.xs t'.ys 0 t'.n) (red_edges 0 (numbered_cells h.corners (before ++ h.cells)) (take last ss))
    reds_after =
        record {
          has = λ p.
              both p ∙ ap (λ (b : Bool). b || hasb isb (map sorted (red_edges 0 (numbered_cells h.corners h.cells) own)) p)
              (reds.has p)
              ∙ sym (rw (
                red_halves,
                map-append sorted (red_edges 0 (numbered_cells h.corners before) (take first ss))
                    (red_edges 0 (numbered_cells h.corners h.cells) own),
              )
              (has_append isb (map sorted (red_edges 0 (numbered_cells h.corners before) (take first ss)))
              (map sorted (red_edges 0 (numbered_cells h.corners h.cells) own)) p));
        }

  -- The next level has room.
  pub laying_room : (st : Statuses ss) → last + sizes (own_statuses rows ss first last) ≤ length ss → n ≤ 512 → 8 * length ss ≤ length rows
      → length ss ≤ M → Roomy rows mids ss first last last n
  laying_room st fit c long room =
      record {
        rise = omega (arith, h.end);
        done = omega arith;
        statuses = omega arith;
        small = λ i a b. status_fits ss st.fit i (omega arith);
        in_cells = omega arith;
        most = omega (arith, st.few);
        coarse = c;
        few = h.few_new;
        mids = h.new;
        in_mids = omega arith;
      }

  -- The next level.
  module _ (w : closed_from [] sameb (red_edges [] h.cells own) h.cells own ≡ true) (inside : last ≤ length ss) (high : j < 10)
      (st : Statuses ss)
      (fit : last + sizes (own_statuses rows ss first last) ≤ length ss) (grows : 0 < sizes (own_statuses rows ss first last))
      (long : 8 * length ss ≤ length rows)
      {rows' : List ℕ} {mids' : PairTable M K} {last' : ℕ}
      (g : Grows rows mids ss first (last - first) (suc j) last n rows' mids' last') where
    abbrev up : List (Cell Point)
    up = next first h.cells own

    abbrev ks' : List Corner
    ks' = corners_from h.corners h.cells own

    refined : Refined h.cells own
    refined = closed_follows [] sameb (red_edges [] h.cells own) h.cells own (rw w tt)

    step : NextStage n j first h.corners (entries mids) h.cells own ks'
        (ends_from (entries mids) (numbered_cells h.corners h.cells) own)
    step = stage_next n j first h.corners (entries mids) h.cells own h.stage high refined

    ends_are : entries mids' ≡ ends_from (entries mids) (numbered_cells h.corners h.cells) own
    ends_are = g.list ∙ rw (cells_are, own_is) (ends_strip (entries mids) (numbered_cells h.corners h.cells) own)

    same_length : length h.cells ≡ length own
    same_length = sym (length_part ss first (length h.cells) (omega (arith, h.end)))

    length_up : length up ≡ sizes own
    length_up = length-next first h.cells own same_length

    end_is : last' ≡ last + length up
    end_is = omega (arith, g.next, ap sizes own_is, length_up)

    all_before : All (Placed h.corners) (before ++ h.cells)
    all_before = all_append (Placed h.corners) before h.cells h.placed h.stage.placed

    fits_part : T (allb (λ s. leb s 64) own)
    fits_part = part_fits ss st.fit first (length h.cells)

    new_rows : rows_all (suc j) n (entries mids') first (cells_at rows first (last - first)) (part ss first (last - first)) ≡ flat_map
        row_of (numbered_cells ks' up)
    new_rows =
        rw (cells_are, own_is, ends_are)
        (rows_next (suc j) n (ends_from (entries mids) (numbered_cells h.corners h.cells) own) (omega arith) first
        (map strip (numbered_cells h.corners h.cells)) (numbered_cells h.corners h.cells) own
        (points_strip (numbered_cells h.corners h.cells)) (deep_in h.corners (suc j) h.cells h.deep)
        ∙ ap (flat_map row_of) step.cells)

    table_is : take (8 * last') rows' ≡ flat_map row_of (numbered_cells ks' ((before ++ h.cells) ++ up))
    table_is =
        let vs = rows_all (suc j) n (entries mids') first (cells_at rows first (last - first)) (part ss first (last - first)) in
        let lv : length vs ≡ 8 * sizes own =
        rw (cells_are, own_is) (length-rows_of (suc j) n (entries mids') first (map strip (numbered_cells h.corners h.cells)) own
        (length-map (numbered_cells h.corners h.cells) strip ∙ length_in h.corners h.cells ∙ same_length) fits_part) in
        let e : 8 * last' ≡ 8 * last + length vs = omega (arith, lv, end_is, length_up) in
        let room : 8 * last + length vs ≤ length rows = omega (arith, lv, long, ap sizes own_is) in
        let kept : numbered_cells ks' (before ++ h.cells) ≡ numbered_cells h.corners (before ++ h.cells) = cells_kept h.corners ks'
        step.kept (before ++ h.cells) all_before in
        rw (e, g.rows) (take-written rows (8 * last) vs room
        ∙ ap₂ ◌++◌ h.table new_rows
        ∙ sym (ap (flat_map row_of) (map-append (map_cell (number_in ks')) (before ++ h.cells) up
        ∙ ap (λ (l : List (Cell ℕ)). l ++ numbered_cells ks' up) kept)
        ∙ flat_append (numbered_cells h.corners (before ++ h.cells)) (numbered_cells ks' up)))

    named_next : corners_from (coarse_corners n) (before ++ h.cells) (take last ss) ≡ ks'
    named_next =
        let a : take first (take last ss) ≡ take first ss = take-take first last ss (omega (arith, h.end)) in
        let b : drop first (take last ss) ≡ own = rw h.end (drop-take first (length h.cells) ss) in
        corners_append (coarse_corners n) before h.cells (take last ss) ∙ rw (h.reached.counted, a, b, h.named)

    pub laying_next : Laying n qs ss (suc j) last last' rows' mids'
    laying_next =
        let r = reached_next n qs ss j first h.cells h.reached h.low h.some last h.end w in
        let b : cells_of r.reached.done ≡ before ++ h.cells = r.before in
        let mono : (c : Cell Point) → Child last c → Child last' c = λ c f q. omega (arith, f q, end_is) in
        record {
          cells = up;
          corners = ks';
          reached = r.reached;
          stage = rw ends_are step.stage;
          low = omega arith;
          some = omega (arith, length_up, ap sizes own_is);
          end = end_is;
          few = omega (arith, end_is, length_up, ap sizes own_is, st.few);
          placed = rw b (all_more (Placed h.corners) (Placed ks') (placed_kept h.corners ks' step.kept) (before ++ h.cells)
              all_before);
          named = rw b named_next;
          deep = deep_next (suc j) first h.cells own h.deep;
          children = rw b (all_append (Child last') (before ++ h.cells) up
              (all_more (Child last) (Child last') mono (before ++ h.cells) h.children)
              (child_next last' first h.cells own (omega (arith, h.end, end_is))));
          table = rw b table_is;
          new = g.mids;
          few_new = g.few;
        }

    module _ {N H : ℕ} {t t' : PairTable N H} (g' : Listed t (own_reds rows ss first last) t')
        (reds : Lists (listed t.xs t.ys 0 t.n) (red_edges 0 (numbered_cells h.corners before) (take first ss)))
        (few : 4 * t'.n ≤ 3 * last') where
      pub here_next : Here n qs ss (suc j) last last' rows' t' mids'
      unfolding laying_next
      here_next =
          let r = reached_next n qs ss j first h.cells h.reached h.low h.some last h.end w in
          let b : cells_of r.reached.done ≡ before ++ h.cells = r.before in
          let kept : numbered_cells ks' (before ++ h.cells) ≡ numbered_cells h.corners (before ++ h.cells) = cells_kept h.corners ks'
          step.kept (before ++ h.cells) all_before in
          record { laying = laying_next; reds = rw (b, kept) (reds_after g' reds); few = few }

  -- The highest level.
  module _ (w : closed_from [] sameb (red_edges [] h.cells own) h.cells own ≡ true) (inside : last ≤ length ss) (st : Statuses ss)
      (none : sizes (own_statuses rows ss first last) ≡ 0) where
    abbrev all : List (Cell Point)
    all = before ++ h.cells

    no_size : sizes own ≡ 0
    no_size = sym (ap sizes own_is) ∙ none

    leaves : corners_from h.corners h.cells own ≡ h.corners
    leaves =
        leaf_corners h.corners [] h.cells own
        (next_leaves first h.cells own (closed_follows [] sameb (red_edges [] h.cells own) h.cells own (rw w tt))
        (length-next first h.cells own (sym (length_part ss first (length h.cells) (omega (arith, h.end)))) ∙ no_size))

    named_top : corners_from (coarse_corners n) all (take last ss) ≡ h.corners
    named_top =
        let a : take first (take last ss) ≡ take first ss = take-take first last ss (omega (arith, h.end)) in
        let b : drop first (take last ss) ≡ own = rw h.end (drop-take first (length h.cells) ss) in
        corners_append (coarse_corners n) before h.cells (take last ss) ∙ rw (h.reached.counted, a, b, h.named) leaves

    pub laying_top : Roof n qs ss j last rows mids
    laying_top =
        let e = reached_end n qs ss j first h.cells h.reached h.low h.some w no_size (omega (arith, h.end)) st.few in
        record {
          all = before ++ h.cells;
          corners = h.corners;
          cells = e.cells_all;
          levels = e.high;
          low = h.low;
          sound = rw h.end e.sound;
          counted = length-append before h.cells ∙ omega (arith, h.reached.counted, h.end);
          few = h.few;
          placed = all_append (Placed h.corners) before h.cells h.placed h.stage.placed;
          named = named_top;
          numbered = h.stage.corners;
          children = h.children;
          table = h.table;
          new = h.new;
          few_new = h.few_new;
        }

    pub here_top : {N H : ℕ} {t t' : PairTable N H} → Listed t (own_reds rows ss first last) t'
        → Lists (listed t.xs t.ys 0 t.n) (red_edges 0 (numbered_cells h.corners before) (take first ss)) → Top n qs ss j last rows t' mids
    unfolding laying_top
    here_top g reds = record { roof = laying_top; reds = reds_after g reds }
