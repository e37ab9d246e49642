-- What soundness means for a level: it is closed, the cells above it have room, and it is the highest or the next one follows.
-- Assumes nothing.
use mathlib.Core.Path.{◌≡◌, sym, ◌∙◌}
use mathlib.Core.Logic.{⊎_elim}
use mathlib.Core.Bool.{true, ◌&&◌}
use mathlib.Core.List.{List, []}
use Prim.Native.Nat.{ℕ, suc, ◌+◌, ◌*◌, ◌-◌, ◌≤◌, ◌<◌}
use native.Mathlib.Decide.{dec_lt, ℕ_discrete}
use native.Mathlib.Omega.{arith}
use lib.Dec.{T, eqb, eqb→eq}
use lib.ListN.{length}
use Rattle.base.specs.Lists.{sameb}
use Rattle.base.specs.Bools.{is_true, not_both, either, and_left}
use Rattle.mesh.specs.Cells.{closed_from, red_edges}
use Rattle.mesh.specs.Table.{soundb, sizes, apartb}
use Rattle.pairs.specs.declared.PairTable.{PairTable}
use Rattle.rows.specs.Numbered.{part}
use Rattle.counting.specs.Sound.{sound_counted}
use Rattle.growth.specs.Level.{Grows, Roomy}
use Rattle.tables.specs.Checked.{Statuses, own_statuses}
use Rattle.tables.specs.Here.{Laying}
use Rattle.tables.specs.Sound.{LaidSound}
use Rattle.tables.specs.Finish.{roof_sound}
use Rattle.tables.specs.Onward.{fails_short, fails_more, fails_high, fails_open, closed_are, laying_room, laying_next, laying_top}

module _ (n : ℕ) (qs : List (List ℕ)) (ss : List ℕ) (t : T (soundb n qs ss)) where
  sound : soundb n qs ss ≡ true
  sound = is_true (soundb n qs ss) t

  pub sound_statuses : Statuses ss
  sound_statuses = let c = sound_counted n qs ss sound in record { few = c.small; fit = c.statuses }

  module _ {j first last : ℕ} {rows : List ℕ} {M K : ℕ} {mids : PairTable M K} (h : Laying n qs ss j first last rows mids) where
    pub lay_inside : last ≤ length ss
    lay_inside =
        elim (dec_lt (length ss) last) [
          | yes l ↦ not_both (soundb n qs ss) sound (fails_short h l)
          | no l ↦ omega (arith, l)
        ]

    lay_fits : last + sizes (own_statuses rows ss first last) ≤ length ss
    lay_fits =
        elim (dec_lt (length ss) (last + sizes (own_statuses rows ss first last))) [
          | yes l ↦ not_both (soundb n qs ss) sound (fails_more h lay_inside l)
          | no l ↦ omega (arith, l)
        ]

    closed : closed_from [] sameb (red_edges [] h.cells (part ss first (length h.cells))) h.cells (part ss first (length h.cells))
        ≡ true
    closed =
        ⊎_elim (λ e. e)
        (λ e. not_both (soundb n qs ss) sound (fails_open h (closed_are h ∙ e)))
        (either (closed_from [] sameb (red_edges [] h.cells (part ss first (length h.cells))) h.cells
        (part ss first (length h.cells))))

    module _ {size : ℕ} (many : size ≡ sizes (own_statuses rows ss first last)) where
      -- the highest level
      pub lay_ended : size ≡ 0 → LaidSound n qs ss rows mids.xs mids.ys last (suc j) mids.n
      lay_ended z =
          let r = laying_top h closed lay_inside sound_statuses (sym many ∙ z) in
          let e : T (eqb (length ss) last && apartb r.all ss) = rw r.sound at t in
          roof_sound r (eqb→eq (length ss) last (and_left (eqb (length ss) last) (apartb r.all ss) e))

      -- a level below others
      module _ (more : size ≡ 0 → ⊥) where
        lay_low : j < 10
        lay_low =
            elim (ℕ_discrete j 10) [
              | yes e ↦ not_both (soundb n qs ss) sound (fails_high h e lay_inside (omega (arith, more)))
              | no e ↦ omega (arith, e, h.low)
            ]

        module _ (long : 8 * length ss ≤ length rows) where
          pub lay_room : n ≤ 512 → length ss ≤ M → Roomy rows mids ss first last last n
          lay_room c = laying_room h sound_statuses lay_fits c long

          pub lay_next : {rows₂ : List ℕ} {mids₂ : PairTable M K} {last₂ : ℕ}
              → Grows rows mids ss first (last - first) (suc j) last n rows₂ mids₂ last₂ → Laying n qs ss (suc j) last last₂ rows₂ mids₂
          lay_next = laying_next h closed lay_inside lay_low sound_statuses lay_fits (omega (arith, more)) long
