-- Level after level: where a level leads, to a refusal, to the end of the table, or to the next level.
--   WriteGoing m ss ks j first last table old   the levels below j are written, and so is level j, whose cells are those from first to last
-- Assumes nothing.
use mathlib.Core.Path.{◌≡◌, refl, sym, ◌∙◌, ap}
use mathlib.Core.Logic.{inl, inr}
use mathlib.Core.List.{List, [], ◌∷◌, ◌++◌, flat_map, flatten, append-nil, append_assoc}
use Prim.Native.Nat.{ℕ, zero, suc, ◌+◌, ◌-◌, ◌≤◌, ◌<◌}
use native.Mathlib.Omega.{arith}
use lib.ListN.{length, get_or, take, drop, length-append}
use lib.Seq.{get_or-take, get_or-drop, take-add, take_at, length-take-le}
use Rattle.base.specs.Every.{all_at}
use Rattle.base.specs.Limits.{most_cells}
use Rattle.base.specs.declared.Refusal.TheVariants.{TooHigh, TooMany}
use Rattle.mesh.specs.Table.{sizes}
use Rattle.rows.specs.Numbered.{part}
use Rattle.rows.specs.Laws.{length_part}
use Rattle.growth.specs.Written.{written, length-written}
use Rattle.lineage.specs.Olds.{olds_next, up_to}
use Rattle.lineage.specs.Firsts.{first_start, first_up}
use Rattle.kept.specs.Kept.{born_next, write_by}
use Rattle.base.specs.Range.{range, length-range}
use Rattle.lineage.specs.Same.{length-olds}
use Rattle.writing.specs.Keeps.{Keeps}
use Rattle.writing.specs.Wrote.{Wrote}
use Rattle.writing.specs.Result.{written_levels, TableWritten, Unwritten}
use Rattle.writing.proofs.Front.{part_of_written}
use Rattle.writing.proofs.Family.{up_from}
use Rattle.writing.proofs.Levels.{length-born, small_born}

-- what stands before
take-front : (l : List ℕ) (i : ℕ) (vs : List ℕ) → i ≤ length l → take i (written l i vs) ≡ take i l
unfolding written
take-front l i vs h = take_at (take i l) (vs ++ drop (i + length vs) l) i (length-take-le i l h)

-- a number of what is written
part_at : (l : List ℕ) (first n c : ℕ) → first ≤ c → c < first + n → get_or l c 0 ≡ get_or (part l first n) (c - first) 0
part_at l first n c a b =
    let w : first + (c - first) ≡ c = omega arith in
    sym (get_or-take n (drop first l) (c - first) 0 (omega arith) ∙ get_or-drop first l (c - first) 0 ∙ rw w)

-- the lowest level of statuses that there are
module _ (m : ℕ) (ss ks : List ℕ) (ts os : List ℕ) where
  write_step : (h : ℕ) → 0 < length ts
      → write_by m ss ks (suc h) ts os ≡ ts ∷ write_by m ss ks h (born_next m ss ks ts os) (olds_next m ss ts os)
  unfolding write_by
  write_step h g = go ts g
    where
      go : (ts : List ℕ) → 0 < length ts
          → write_by m ss ks (suc h) ts os ≡ ts ∷ write_by m ss ks h (born_next m ss ks ts os) (olds_next m ss ts os)
      go [] g = absurd (omega arith)
      go (t ∷ ts) g = refl

  write_none : (h : ℕ) → length ts ≡ 0 → write_by m ss ks h ts os ≡ []
  unfolding write_by
  write_none h g = go h ts g
    where
      go : (h : ℕ) (ts : List ℕ) → length ts ≡ 0 → write_by m ss ks h ts os ≡ []
      go zero ts g = refl
      go (suc h) [] g = refl
      go (suc h) (t ∷ ts) g = absurd (omega arith)

concat_one : (l : List ℕ) (ls : List (List ℕ)) → flatten (l ∷ ls) ≡ l ++ flatten ls
unfolding flat_map flatten
concat_one l ls = refl

pub record WriteGoing (m : ℕ) (ss ks : List ℕ) (j first last : ℕ) (table old : List ℕ) : Type 0 where
  pub low : j ≤ 10
  pub some : first < last
  pub within : last ≤ most_cells
  pub in_table : length table ≡ most_cells
  pub in_old : length old ≡ most_cells
  pub small : (c : ℕ) → first ≤ c → c < last → get_or table c 0 ≤ 64
  pub height : length (written_levels m ss ks) ≡ j + length
      (write_by m ss ks (12 - j) (part table first (last - first)) (part old first (last - first)))
  pub rest : flatten (written_levels m ss ks) ≡ take first table ++ flatten
      (write_by m ss ks (12 - j) (part table first (last - first)) (part old first (last - first)))

-- the coarse cells
module _ {m : ℕ} {ss kids ks : List ℕ} (w : Keeps m ss kids ks) where
  pub coarse_inside : m ≤ length ss
  coarse_inside = omega (arith, first_start m ss, first_up m ss 0 (length ss) (omega arith), w.firsts.whole)

  pub going_start : {table old table₁ old₁ : List ℕ} → length table ≡ most_cells → length old ≡ most_cells
      → Wrote table old 0 (part ks 0 m) (range 0 m) table₁ old₁ → WriteGoing m ss ks 0 0 m table₁ old₁
  going_start {table} {old} {table₁} {old₁} lt lo r =
      let k : length (take m ks) ≡ m - 0 = length-take-le m ks (omega (arith, coarse_inside, w.in_kept)) ∙ omega arith in
      let u : length (range 0 m) ≡ m - 0 = length-range 0 m ∙ omega arith in
      let c = w.coarse in
      let pt : part table₁ 0 (m - 0) ≡ take m ks = ap (λ (l : List ℕ). part l 0 (m - 0)) r.statuses
      ∙ part_of_written table 0 (take m ks) (omega arith) (m - 0) k in
      let po : part old₁ 0 (m - 0) ≡ up_to m = ap (λ (l : List ℕ). part l 0 (m - 0)) r.olds
      ∙ part_of_written old 0 (range 0 m) (omega arith) (m - 0) u ∙ up_from m in
      record {
        low = omega arith;
        some = w.some;
        within = omega arith;
        in_table = ap length r.statuses ∙ length-written table 0 (take m ks) (omega arith) ∙ lt;
        in_old = ap length r.olds ∙ length-written old 0 (range 0 m) (omega arith) ∙ lo;
        small = λ i a b. rw (part_at table₁ 0 (m - 0) i a (omega arith), pt, get_or-take m ks (i - 0) 0 (omega arith))
            (w.kept (i - 0) (omega (arith, coarse_inside)));
        height = rw (pt, po) (omega arith);
        rest = rw (pt, po);
      }

  module _ {j first last : ℕ} {table old : List ℕ} (g : WriteGoing m ss ks j first last table old) where
    abbrev own : List ℕ
    own = part table first (last - first)

    abbrev olds : List ℕ
    olds = part old first (last - first)

    abbrev born : List ℕ
    born = born_next m ss ks own olds

    abbrev above : List (List ℕ)
    above = write_by m ss ks (11 - j) born (olds_next m ss own olds)

    long_own : length own ≡ last - first
    long_own = length_part table first (last - first) (omega (arith, g.some, g.within, g.in_table))

    same_many : length olds ≡ length own
    same_many = length_part old first (last - first) (omega (arith, g.some, g.within, g.in_old)) ∙ sym long_own

    long_born : length born ≡ sizes own
    long_born = length-born w own olds same_many

    step : write_by m ss ks (12 - j) own olds ≡ own ∷ above
    step =
        let e : 12 - j ≡ suc (11 - j) = omega (arith, g.low) in
        rw e (write_step m ss ks own olds (11 - j) (omega (arith, long_own, g.some)))

    front : take last table ≡ take first table ++ own
    front =
        let e : last ≡ first + (last - first) = omega (arith, g.some) in
        ap (λ (n : ℕ). take n table) e ∙ take-add first (last - first) table

    rest_above : flatten (written_levels m ss ks) ≡ take last table ++ flatten above
    rest_above = g.rest ∙ ap (λ (l : List (List ℕ)). take first table ++ flatten l) step
        ∙ ap (λ (l : List ℕ). take first table ++ l) (concat_one own above)
        ∙ sym (append_assoc (take first table) own (flatten above)) ∙ ap (λ (l : List ℕ). l ++ flatten above) (sym front)

    height_above : length (written_levels m ss ks) ≡ suc j + length above
    height_above = g.height ∙ ap (λ (l : List (List ℕ)). j + length l) step ∙ omega arith

    total : length (flatten (written_levels m ss ks)) ≡ last + length (flatten above)
    total = omega (
      arith,
      ap length rest_above ∙ length-append (take last table) (flatten above),
      length-take-le last table (omega (arith, g.within, g.in_table)),
    )

    -- no cells one level up
    module _ (none : sizes own ≡ 0) where
      nothing : above ≡ []
      nothing = write_none m ss ks born (olds_next m ss own olds) (11 - j) (long_born ∙ none)

      all_is : flatten (written_levels m ss ks) ≡ take last table
      unfolding flat_map flatten
      all_is = rest_above ∙ ap (λ (l : List (List ℕ)). take last table ++ flatten l) nothing ∙ append-nil (take last table)

      pub result_end : TableWritten m ss ks table last
      result_end =
          let h : length (written_levels m ss ks) ≡ suc j = omega (arith, height_above, ap length nothing) in
          record {
            low = omega (arith, h, g.low);
            counted = ap length all_is ∙ length-take-le last table (omega (arith, g.within, g.in_table));
            table_is = sym all_is;
            few = g.within;
          }

    -- cells one level up
    module _ (more : 0 < sizes own) where
      step_up : above ≡ born ∷ write_by m ss ks (10 - j) (born_next m ss ks born (olds_next m ss own olds))
          (olds_next m ss born (olds_next m ss own olds))
      step_up =
          let e : 11 - j ≡ suc (10 - j) = omega (arith, g.low) in
          rw e (write_step m ss ks born (olds_next m ss own olds) (10 - j) (omega (arith, long_born)))

      twelve : j ≡ 10 → length (written_levels m ss ks) ≡ 12
      unfolding write_by
      twelve e =
          let z : 10 - j ≡ 0 = omega arith in
          let o : above ≡ born ∷ [] = step_up ∙ rw z in
          omega (arith, height_above, ap length o)

      has_more : last + sizes own ≤ length (flatten (written_levels m ss ks))
      has_more =
          let ls : List (List ℕ) = write_by m ss ks (10 - j) (born_next m ss ks born (olds_next m ss own olds))
          (olds_next m ss born (olds_next m ss own olds)) in
          omega (arith, total, ap length (ap flatten step_up ∙ concat_one born ls) ∙ length-append born (flatten ls), long_born)

      pub result_high : j ≡ 10 → Unwritten m ss ks TooHigh
      result_high e = record { one = inl refl; high = λ q. twelve e; many = λ q. cc }

      pub result_many : most_cells < last + sizes own → Unwritten m ss ks TooMany
      result_many h = record { one = inr refl; high = λ q. cc; many = λ q. omega (arith, has_more) }

      pub going_next : (size : ℕ) → size ≡ sizes own → j < 10 → last + size ≤ most_cells → {table₁ old₁ : List ℕ}
          → Wrote table old last born (olds_next m ss own olds) table₁ old₁ → WriteGoing m ss ks (j + 1) last (last + size) table₁ old₁
      going_next size s low fit {table₁} {old₁} d =
          let k : length born ≡ last + size - last = long_born ∙ omega arith in
          let u : length (olds_next m ss own olds) ≡ last + size - last = length-olds m ss own olds same_many ∙ omega arith in
          let pt : part table₁ last (last + size - last) ≡ born = ap (λ (l : List ℕ). part l last (last + size - last)) d.statuses
          ∙ part_of_written table last born (omega (arith, g.in_table)) (last + size - last) k in
          let po : part old₁ last (last + size - last) ≡ olds_next m ss own olds =
          ap (λ (l : List ℕ). part l last (last + size - last)) d.olds
          ∙ part_of_written old last (olds_next m ss own olds) (omega (arith, g.in_old)) (last + size - last) u in
          let q : 12 - (j + 1) ≡ 11 - j = omega arith in
          record {
            low = omega arith;
            some = omega arith;
            within = fit;
            in_table = ap length d.statuses ∙ length-written table last born (omega (arith, g.in_table)) ∙ g.in_table;
            in_old = ap length d.olds ∙ length-written old last (olds_next m ss own olds) (omega (arith, g.in_old)) ∙ g.in_old;
            small = λ c a b. rw (part_at table₁ last (last + size - last) c a (omega arith), pt)
                (all_at (λ x. x ≤ 64) 0 born (small_born w own olds) (c - last) (omega arith));
            height = rw (pt, po, q) (omega (arith, height_above));
            rest = rw (pt, po, q) (rest_above ∙ ap (λ (l : List ℕ). l ++ flatten above)
                (sym (ap (take last) d.statuses ∙ take-front table last born (omega (arith, g.within, g.in_table)))));
          }
