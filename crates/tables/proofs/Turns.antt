-- What the check of a level means for the building: the table fails, the level is the highest, or the next one follows.
-- Assumes nothing.
use Rattle.std.proofs.Common.{◌≡◌, sym, ◌∙◌, true, false, List, [], ℕ, suc, ◌*◌, ◌-◌, ◌≤◌, length, inl, inr, arith}
use Rattle.base.specs.Lists.{sameb}
use Rattle.mesh.specs.Cells.{closed_from, red_edges}
use Rattle.mesh.specs.Table.{soundb, sizes}
use Rattle.pairs.specs.declared.PairTable.{PairTable}
use Rattle.rows.specs.Numbered.{part}
use Rattle.growth.specs.Level.{Grows, Roomy}
use Rattle.tables.specs.Checked.{Statuses, Torn, Closed, own_statuses}
use Rattle.tables.specs.Here.{Here, Top}
use Rattle.tables.specs.Onward.{
  fails_short,
  fails_more,
  fails_high,
  fails_open,
  closed_are,
  laying_room,
  here_next,
  here_top,
}

module _ {n : ℕ} {qs : List (List ℕ)} {ss : List ℕ} {j first last : ℕ} {rows : List ℕ} {N H M K : ℕ} {red : PairTable N H}
    {mids : PairTable M K} (h : Here n qs ss j first last rows red mids) where
  pub turn_torn : Torn rows ss first last → soundb n qs ss ≡ false
  turn_torn (inl l) = fails_short h.laying l
  turn_torn (inr (inl l)) = fails_more h.laying l.0 l.1
  turn_torn (inr (inr e)) = fails_open h.laying e

  module _ {red' : PairTable N H} {size : ℕ} (c : Closed rows ss first last red red' size) (st : Statuses ss) where
    closed : closed_from [] sameb (red_edges [] h.laying.cells (part ss first (length h.laying.cells))) h.laying.cells
        (part ss first (length h.laying.cells))
        ≡ true
    closed = sym (closed_are h.laying) ∙ c.closed

    pub turn_top : size ≡ 0 → Top n qs ss j last rows red' mids
    turn_top z =
        let s : sizes (own_statuses rows ss first last) ≡ 0 = sym c.many ∙ z in
        here_top h.laying closed c.inside st s c.reds h.reds

    pub turn_high : (size ≡ 0 → ⊥) → j ≡ 10 → soundb n qs ss ≡ false
    turn_high z t = fails_high h.laying t c.inside (omega (arith, z, c.many))

    pub turn_room : n ≤ 512 → 8 * length ss ≤ length rows → length ss ≤ M → Roomy rows mids ss first last last n
    turn_room = laying_room h.laying st c.fit

    pub turn_next : (size ≡ 0 → ⊥) → (j ≡ 10 → ⊥) → 8 * length ss ≤ length rows → {rows₂ : List ℕ} {mids₂ : PairTable M K} {last₂ : ℕ}
        → Grows rows mids ss first (last - first) (suc j) last n rows₂ mids₂ last₂ → Here n qs ss (suc j) last last₂ rows₂ red' mids₂
    turn_next z t long g =
        let s = c.many in
        here_next h.laying closed c.inside (omega (arith, t, h.laying.low)) st c.fit (omega (arith, z, s)) long g c.reds h.reds
        (omega (arith, c.few, g.next, s))
