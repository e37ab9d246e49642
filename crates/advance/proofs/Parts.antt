-- The work of a step: what its parts ask for, and what they come to.
-- Assumes nothing.
use mathlib.Core.Path.{◌≡◌, refl, sym, ◌∙◌, ap}
use mathlib.Core.Logic.{◌⊎◌, ⊎_elim}
use mathlib.Core.Bool.{Bool, true, false, not}
use mathlib.Core.List.{List, [], ◌++◌, flatten}
use Prim.Native.Nat.{ℕ, suc, ◌*◌, ◌/◌, ◌≤◌, ◌<◌}
use native.Mathlib.Omega.{arith}
use lib.Dec.{leb}
use lib.ListN.{length, get_or, take, drop}
use lib.Seq.{take_at}
use borrow.Author.Tests.{le-leb, lt-leb}
use Rattle.base.specs.Bools.{is_true}
use Rattle.base.specs.Each.{filter_few}
use Rattle.base.specs.Fours.{fours, length-fours}
use Rattle.base.specs.Limits.{most_cells, most_levels}
use Rattle.base.specs.Lists.{anyb, filterb}
use Rattle.std.specs.Prelude.{Result, Ok, Err, IfOk, MatchResult}
use Rattle.base.specs.Refuse.{refuse, number_of, answered}
use Rattle.base.specs.declared.Refusal.{Refusal}
use Rattle.base.specs.declared.Refusal.TheVariants.{TooHigh, TooMany}
use Rattle.base.specs.Answer.{Accepted, Refused}
use Rattle.mesh.specs.Cells.{redb}
use Rattle.mesh.specs.Step.{step_table}
use Rattle.mesh.specs.Table.{soundb, levels_of}
use Rattle.mesh.specs.Answers.{new_table, limits_answer}
use Rattle.mesh.specs.Laws.{sound_count}
use Rattle.lattice.specs.Levels as lattice
use Rattle.lattice.specs.Facts.{sound_regular}
use Rattle.kept.specs.Kept.{kept_table}
use Rattle.kept.specs.KeptAt.{kept-length}
use Rattle.kept.specs.Laws.{kept_small}
use Rattle.lineage.specs.Step.{step_by_lem}
use Rattle.lineage.specs.Deep.{deep}
use Rattle.lineage.specs.Firsts.{Firsts, first_children, firsts_taken, length-firsts}
use Rattle.soundness.specs.Sound.{Sound, sound_parts}
use Rattle.soundness.specs.Steady.{step_sound}
use Rattle.succession.specs.Write.{write_step}
use Rattle.succession.specs.Count.{reds_counted}
use Rattle.writing.specs.Keeps.{Keeps}
use Rattle.writing.specs.Result.{TableWritten, Unwritten, written_levels}
use Rattle.flagging.specs.Old.{limit_of}
use Rattle.keeping.specs.Marked.{Marked, Kept, Unkept}
use Rattle.lineage.specs.Olds.{flags}
use Rattle.keeping.specs.Whole.{sound_firsts}
use Rattle.advance.specs.Advanced.{Held, Advanced, held_statuses}

-- the limits
module _ (n : ℕ) (qs : List (List ℕ)) (ss ms : List ℕ) where
  limits_pass : length (step_table n qs ss ms) ≤ most_levels → length (new_table n qs ss ms) ≤ most_cells → limits_answer n qs ss ms ≡ Accepted
  unfolding limits_answer refuse
  limits_pass a b = rw (le-leb (length (step_table n qs ss ms)) most_levels a, le-leb (length (new_table n qs ss ms)) most_cells b)

  limits_high : leb (length (step_table n qs ss ms)) most_levels ≡ false → limits_answer n qs ss ms ≡ Refused 8
  unfolding limits_answer refuse
  limits_high a = rw a

  limits_many : leb (length (step_table n qs ss ms)) most_levels ≡ true → most_cells < length (new_table n qs ss ms)
      → limits_answer n qs ss ms ≡ Refused 9
  unfolding limits_answer refuse
  limits_many a b = rw (a, lt-leb (length (new_table n qs ss ms)) most_cells b)

module _ (n : ℕ) (mesh rows ss : List ℕ) (h : Held n mesh rows ss) where
  abbrev qs : List (List ℕ)
  qs = fours mesh

  pub held_coarse : length mesh / 4 ≤ 256
  held_coarse = omega (arith, h.accepted.few)

  -- the numbers of first children
  module _ (ks rest : List ℕ) (e : ks ≡ first_children (length mesh / 4) ss ++ rest) where
    firsts : take (suc (length ss)) ks ≡ first_children (length qs) ss
    firsts = firsts_taken (length qs) ss ks rest (rw (length-fours mesh) e)

    pub held_firsts : Firsts (length qs) ss ks
    held_firsts = sound_firsts n qs ss ks (is_true (soundb n qs ss) h.sound) firsts

    pub held_long : length ss < length ks
    held_long = length-firsts (length qs) ss ks firsts

    pub held_marked : (ms kept : List ℕ) → length ms ≡ length ss → length ss ≤ length kept → Marked n mesh rows ss ms ks kept
    held_marked ms kept m r =
        record { accepted = h.accepted; sound = h.sound; table = h.table; marks = m; firsts = firsts; room = r }

  module _ (ms : List ℕ) where
    abbrev keeps : List ℕ
    keeps = kept_table n qs ss ms

    whole : Sound n qs ss
    whole = sound_parts n qs ss h.sound

    long : length keeps ≡ length ss
    long = kept-length n qs ss ms h.sound ∙ sym (sound_count n qs ss h.sound)

    -- the new table is that which the kept statuses are written to
    written_is : written_levels (length qs) ss keeps ≡ step_table n qs ss ms
    written_is =
        write_step n qs ss ms whole (sound_regular n qs ss (lattice.fours_four mesh) h.accepted.cells h.sound)
        ∙ sym (step_by_lem n qs ss ms h.sound)

    reds_many : 8 * length (filterb redb keeps) ≤ length (new_table n qs ss ms)
    reds_many = omega (arith, reds_counted n qs ss ms whole, ap (λ (l : List (List ℕ)). length (flatten l)) (step_by_lem n qs ss ms h.sound))

    abbrev top : Bool
    top = anyb redb (get_or (flags (levels_of n qs ss) ms) 10 [])

    held_deep : leb (length (step_table n qs ss ms)) most_levels ≡ not top
    held_deep = deep n qs ss ms h.sound

    -- 8 where a cell of level 10 will be red, 9 where more than 4,096 cells would arise
    over : top ≡ true → Refused 8 ≡ limits_answer n qs ss ms
    over d = sym (limits_high n qs ss ms (held_deep ∙ ap not d))

    too_many : top ≡ false → most_cells < length (new_table n qs ss ms) → Refused 9 ≡ limits_answer n qs ss ms
    too_many d l = sym (limits_many n qs ss ms (held_deep ∙ ap not d) l)

    -- no room
    pub advanced_full : (room : ℕ) → (3072 ≤ room) ⊎ (6 * length ss ≤ room) → (r : Refusal) → Unkept n qs ss ms room r
        → Refused (number_of r) ≡ limits_answer n qs ss ms
    unfolding limit_of
    advanced_full room enough r u = rw u.limit (go top refl)
      where
        go : (b : Bool) → top ≡ b → Refused (number_of (limit_of b)) ≡ limits_answer n qs ss ms
        go true e = over e
        go false e =
            ⊎_elim (λ (l : 3072 ≤ room). too_many e (omega (arith, u.many, reds_many)))
            (λ (l : 6 * length ss ≤ room). absurd (omega (arith, u.many, filter_few redb keeps, long))) enough

    -- a cell of level 10 will be red
    pub advanced_high : (kept kept' : List ℕ) (high : Bool) → Kept n qs ss ms kept kept' high → high ≡ true
        → Refused 8 ≡ limits_answer n qs ss ms
    advanced_high kept kept' high r e = over (sym r.top ∙ e)

    -- what is kept, where none will
    module _ (kept kept' : List ℕ) (high : Bool) (r : Kept n qs ss ms kept kept' high) (none : high ≡ false) where
      kept_is : take (length ss) kept' ≡ keeps
      kept_is = ap (take (length ss)) r.table ∙ take_at keeps (drop (length ss) kept) (length ss) long

      pub held_keeps : (ks : List ℕ) → Firsts (length qs) ss ks → length ss < length ks
          → Keeps (length mesh / 4) ss ks (take (length ss) kept')
      held_keeps ks f l =
          let s = held_statuses n mesh rows ss h in
          rw (← length-fours mesh, kept_is)
          (record {
            some = omega (arith, length-fours mesh, h.accepted.some, h.accepted.whole);
            coarse = omega (arith, length-fours mesh, held_coarse);
            few = s.few;
            fit = s.fit;
            firsts = f;
            in_kids = l;
            in_kept = omega (arith, long);
            kept = λ c i. kept_small n qs ss ms c;
          })

      -- what the writing leaves
      pub unwritten : (r' : Refusal) → Unwritten (length mesh / 4) ss (take (length ss) kept') r'
          → Refused (number_of r') ≡ limits_answer n qs ss ms
      unwritten r' u =
          let w : Unwritten (length qs) ss keeps r' = rw (kept_is, ← length-fours mesh) at u in
          ⊎_elim
          (λ (e : r' ≡ TooHigh).
          let l : length (step_table n qs ss ms) ≡ 12 = rw written_is at (w.high e) in
          rw e (sym (limits_high n qs ss ms (lt-leb (length (step_table n qs ss ms)) most_levels (omega arith)))))
          (λ (e : r' ≡ TooMany). rw e (too_many (sym r.top ∙ none) (rw written_is at (w.many e))))
          w.one

      module _ (table : List ℕ) (cells : ℕ) (w : TableWritten (length mesh / 4) ss (take (length ss) kept') table cells) where
        written : TableWritten (length qs) ss keeps table cells
        written = rw (kept_is, ← length-fours mesh) at w

        low : length (step_table n qs ss ms) ≤ most_levels
        low = rw written_is at written.low

        counted : length (new_table n qs ss ms) ≡ cells
        counted = rw written_is at written.counted

        few : length (new_table n qs ss ms) ≤ most_cells
        few = omega (arith, counted, written.few)

        pub accepted : Accepted ≡ limits_answer n qs ss ms
        accepted = sym (limits_pass n qs ss ms low few)

        pub advanced : Advanced n mesh ss ms table cells
        advanced =
            record {
              counted = counted;
              few = written.few;
              table_is = rw written_is at written.table_is;
              sound = step_sound n qs ss ms (lattice.fours_four mesh) h.accepted.cells h.sound low few;
            }

      -- what the writing answers
      module _ (table : List ℕ) where
        pub written_answer : (r : Result ℕ Refusal) → MatchResult r (λ k. TableWritten (length mesh / 4) ss (take (length ss) kept') table k)
            (λ e. Unwritten (length mesh / 4) ss (take (length ss) kept') e) → answered r ≡ limits_answer n qs ss ms
        written_answer (Ok k) w = accepted table k w
        written_answer (Err e) u = unwritten e u

        pub written_made : (r : Result ℕ Refusal) → MatchResult r (λ k. TableWritten (length mesh / 4) ss (take (length ss) kept') table k)
            (λ e. Unwritten (length mesh / 4) ss (take (length ss) kept') e) → IfOk r (λ k. Advanced n mesh ss ms table k)
        written_made (Ok k) w = advanced table k w
        written_made (Err e) u = tt
