-- What `merge` answers, by the tests that the code makes.
use mathlib.Core.Path.{◌≡◌, refl, sym, ◌∙◌, ap}
use mathlib.Core.Bool.{Bool, true, false}
use mathlib.Core.List.{List, [], append-nil, flatten}
use Prim.Native.Nat.{ℕ, ◌*◌, ◌≤◌, ◌<◌}
use native.Mathlib.Omega.{arith}
use lib.Dec.{T, eqb, eqb→eq}
use lib.ListN.{length, take}
use lib.Seq.{length-take-le}
use borrow.Author.Tests.{eq-eqb, le-leb, lt-leb}
use Rattle.base.specs.Bools.{and_right, and_both, is_true, not_both}
use Rattle.base.specs.Fours.{fours}
use Rattle.base.specs.Limits.{full_coarse, most_cells, most_coarse_cells, most_coarse_corners, most_parts}
use Rattle.base.specs.Lists.{allb}
use Rattle.base.specs.Refuse.{refuse, answered, number_of, held_after}
use Rattle.base.specs.Answer.{Accepted, Refused}
use Rattle.base.specs.declared.Refusal.{Refusal}
use Rattle.base.specs.declared.Refusal.TheVariants.{Lent, Store}
use Rattle.std.specs.Prelude.{Result, Ok, Err, IfOk, MatchResult, is_err}
use Rattle.mesh.specs.Coarse.{cellsb}
use Rattle.mesh.specs.Table.{soundb}
use Rattle.tables.specs.Sound.{Mesh}
use Rattle.tables.specs.Finish.{unsound_long}
use Rattle.parts.specs.Held.{Entry}
use Rattle.parts.specs.Merge.{masters, merged, filledb, completeb}
use Rattle.store.specs.Fields.{field, full, PARTS, CORNERS, COARSE}
use Rattle.store.specs.Header.{headerb}
use Rattle.store.specs.Headed.{bool_false, Header, header_is}
use Rattle.store.specs.Stores.{stores_by}
use Rattle.merge.specs.declared.masters.Masters.{Masters}
use Rattle.merge.specs.declared.row.Row.{Row}
use Rattle.merge.specs.Merge.{stores_in, alikeb, everyb, merge_cells, merge_entries, merge_table, mergeb, merge_answer}
use Rattle.merge.specs.Merges.{Merges, merges_is, merges_accepted}
use Rattle.merge.specs.Load.{Mastered, Loaded, Overfull, loaded_none}
use Rattle.merge.specs.Sweep.{Failed, coarse_paths}
use Rattle.merge.specs.Steps.{Built, Unbuilt, Assembled, Gathered, Ungathered, HandedOut, Withheld, entries_by}

-- all stores are loaded, and the table is built
module _ (b : List ℕ) (P m : ℕ) (w₀ : Masters) (none : w₀.keys.n ≡ 0) where
  abbrev es : List Entry
  es = entries_by b P

  complete_count : T (completeb es m) → length (masters es) ≡ length (flatten (merged es m))
  unfolding completeb
  complete_count t =
      eqb→eq (length (masters es)) (length (flatten (merged es m)))
      (and_right (filledb 12 es (coarse_paths m)) (eqb (length (masters es)) (length (flatten (merged es m)))) t)

  pub assembled_many : Overfull es w₀ → Failed es m
  assembled_many h k qs u v =
      not_both (soundb k qs (flatten (merged es m))) (is_true (soundb k qs (flatten (merged es m))) v)
      (unsound_long k qs (flatten (merged es m)) (omega (arith, h, none, complete_count u)))

  module _ (w : Masters) (f : Loaded es w₀ w) where
    all_loaded : Mastered es w
    all_loaded = rw (append-nil es) at (f.loaded [] (rw none (loaded_none w₀.keys.xs w₀.keys.ys w₀.statuses)))

    pub assembled_none : Unbuilt w m → Failed es m
    assembled_none h = h.failed es all_loaded

    module _ (row : Row) (g : Built w m row) where
      table_is : flatten (merged es m) ≡ take row.known row.statuses
      table_is = (g.table es all_loaded).0

      table_long : length (flatten (merged es m)) ≡ row.known
      table_long = ap length table_is ∙ length-take-le row.known row.statuses (omega (arith, row.sized.2, row.behind))

      pub assembled_other : (row.known ≡ w.keys.n → ⊥) → Failed es m
      assembled_other d k qs u v = d (sym table_long ∙ sym (complete_count u) ∙ omega (arith, f.count, none))

      pub assembled_all : row.known ≡ w.keys.n → Assembled b P m row
      unfolding completeb
      assembled_all d =
          record {
            table = table_is;
            complete =
                and_both (filledb 12 es (coarse_paths m)) (eqb (length (masters es)) (length (flatten (merged es m))))
                (rw (g.table es all_loaded).1 tt)
                (rw (eq-eqb (length (masters es)) (length (flatten (merged es m))) (omega (arith, f.count, none, table_long))) tt);
          }

-- the table is examined
pub mesh_fits : (mesh : List ℕ) (m n : ℕ) → length mesh ≡ full_coarse → m ≤ most_coarse_cells → 1 ≤ m → n ≤ most_coarse_corners
    → T (cellsb n (fours (take (4 * m) mesh))) → Mesh n (take (4 * m) mesh)
mesh_fits mesh m n long few h g t =
    let l : length (take (4 * m) mesh) ≡ 4 * m = length-take-le (4 * m) mesh (omega arith) in
    record {
      whole = omega arith;
      few = omega arith;
      some = omega arith;
      corners = g;
      cells = t;
    }

module _ {A : Type 0} where
  pub told_unsound : (s : Bool) (r : Result A Refusal) → answered r ≡ refuse 6 s Accepted → is_err r ≡ true → s ≡ false
  unfolding refuse
  told_unsound true (Ok v) e t = sym t
  told_unsound true (Err k) e t = cc
  told_unsound false r e t = refl

  pub told_sound : (s : Bool) (r : Result A Refusal) → answered r ≡ refuse 6 s Accepted → is_err r ≡ false → s ≡ true
  unfolding refuse
  told_sound true r e t = refl
  told_sound false (Ok v) e t = cc
  told_sound false (Err k) e t = sym t

-- the call
module _ (b t : List ℕ) where
  pub record Answered (r : Result ℕ Refusal) (t' : List ℕ) : Type 0 where
    pub answer : answered r ≡ merge_answer b t
    pub cells : IfOk r (λ k. k ≡ length (merge_table (stores_in b) (field b COARSE)))
    pub table_value : t' ≡ held_after (merge_answer b t) (merge_table (stores_in b) (field b COARSE)) t

  refused_by : (k : Refusal) → merge_answer b t ≡ Refused (number_of k) → Answered (Err k) t
  unfolding held_after
  refused_by k e = record { answer = sym e; cells = tt; table_value = rw e }

  pub merge_short : length b < most_parts * full → Answered (Err Lent) t
  unfolding merge_answer refuse
  merge_short h = refused_by Lent (rw (lt-leb (most_parts * full) (length b) h))

  pub merge_narrow : most_parts * full ≤ length b → length t < most_cells → Answered (Err Lent) t
  unfolding merge_answer refuse
  merge_narrow h g = refused_by Lent (rw (le-leb (most_parts * full) (length b) h, lt-leb most_cells (length t) g))

  module _ (h : most_parts * full ≤ length b) (g : most_cells ≤ length t) where
    not_merge : (Merges b → ⊥) → Answered (Err Store) t
    unfolding merge_answer refuse
    not_merge d =
        refused_by Store (rw (
          le-leb (most_parts * full) (length b) h,
          le-leb most_cells (length t) g,
          ← bool_false (mergeb b)
              (λ u. d (merges_is b u)),
        ))

    pub merge_header : headerb b ≡ false → Answered (Err Store) t
    merge_header e = not_merge (λ s. not_both (headerb b) (is_true (headerb b) s.header) e)

    module _ (P : ℕ) (p : P ≡ field b PARTS) where
      stores_are : stores_by b P ≡ stores_in b
      unfolding stores_in
      stores_are = rw p

      entries_are : entries_by b P ≡ merge_entries (stores_in b)
      unfolding merge_entries stores_in
      entries_are = rw p

      pub merge_alike : allb (alikeb b) (stores_by b P) ≡ false → Answered (Err Store) t
      merge_alike e = not_merge (λ s. not_both (allb (alikeb b) (stores_in b)) (is_true (allb (alikeb b) (stores_in b)) s.alike)
          (rw stores_are at e))

      pub merge_every : everyb (stores_by b P) ≡ false → Answered (Err Store) t
      merge_every e = not_merge (λ s. not_both (everyb (stores_in b)) (is_true (everyb (stores_in b)) s.every) (rw stores_are at e))

      module _ (n m : ℕ) (ne : n ≡ field b CORNERS) (me : m ≡ field b COARSE) where
        pub merge_corners : Ungathered b P n m → Answered (Err Store) t
        merge_corners c = not_merge (λ s. c.failed (rw (stores_are, me) s.owned) (rw (stores_are, ne, me) s.cells))

        pub merge_none : Failed (entries_by b P) m → Answered (Err Store) t
        unfolding merge_table
        merge_none a = not_merge (λ s. a (field b CORNERS) (merge_cells (stores_in b) (field b COARSE))
            (rw (entries_are, me) s.complete) (rw (entries_are, me) s.sound))

        module _ (mesh : List ℕ) (c : Gathered b P n m mesh) where
          pub fours_fit : T (cellsb n (fours (take (4 * m) mesh)))
          fours_fit = rw c.mesh c.cells

          module _ (row : Row) (a : Assembled b P m row) (hd : T (headerb b)) (al : allb (alikeb b) (stores_by b P) ≡ true)
              (ev : everyb (stores_by b P) ≡ true) (t' : List ℕ) where
            abbrev qs : List (List ℕ)
            qs = fours (take (4 * m) mesh)

            abbrev ss : List ℕ
            ss = take row.known row.statuses

            merged_is : merge_table (stores_in b) (field b COARSE) ≡ ss
            unfolding merge_table
            merged_is = rw (← entries_are, ← me) a.table

            cells_are : merge_cells (stores_in b) (field b COARSE) ≡ qs
            cells_are = rw (← stores_are, ← me) (sym c.mesh)

            merge_unsound : Withheld n qs ss t t' → Answered (Err Store) t'
            merge_unsound f =
                rw f.same (not_merge (λ s.
                not_both (soundb n qs ss) (is_true (soundb n qs ss) (rw (← cells_are, ← merged_is, ne) s.sound)) f.unsound))

            merge_done : (k : ℕ) → k ≡ row.known → HandedOut n qs ss t t' → Answered (Ok k) t'
            unfolding held_after
            merge_done k q f =
                let s : Merges b =
                record {
                  header = hd;
                  alike = rw (← stores_are) (rw al tt);
                  every = rw (← stores_are) (rw ev tt);
                  owned = rw (← stores_are, ← me) c.owned;
                  cells = rw (← stores_are, ← ne, ← me) c.cells;
                  complete = rw (← entries_are, ← me) a.complete;
                  sound = rw (merged_is, cells_are, ← ne) (rw f.sound tt);
                } in
                let e = merges_accepted b t h g s in
                let l : length ss ≡ row.known = length-take-le row.known row.statuses (omega (arith, row.sized.2, row.behind)) in
                record {
                  answer = sym e;
                  cells = q ∙ sym l ∙ ap length (sym merged_is);
                  table_value = f.written ∙ rw (e, merged_is);
                }

            pub merge_last : (r : Result ℕ Refusal)
                → MatchResult r (λ k. (k ≡ row.known) × HandedOut n qs ss t t') (λ e. (e ≡ Store) × Withheld n qs ss t t') → Answered r t'
            merge_last (Ok k) (q, f) = merge_done k q f
            merge_last (Err e) (q, f) = rw q (merge_unsound f)

pub headed : (b : List ℕ) → headerb b ≡ true → Header b
headed b e = header_is b (rw e tt)

pub passed : (c : Bool) → c ≡ true → T c
passed c e = rw e tt
