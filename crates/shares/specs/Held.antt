-- The masters and ghosts of a part, entry by entry.
--   HeldBy n qs ss os p e    the cell that the entry e of the part p is of
-- Laws: master_held and ghost_held (each is there), held_is (nothing else is), held_once (no cell twice).
use Rattle.std.specs.Prelude.{◌≡◌, ◌⊎◌, Bool, ℕ, ◌<◌, T, length, get_or}
use Rattle.std.proofs.Math.Path.{refl, sym, ap}
use Rattle.std.proofs.Common.{◌∙◌, arith}
use Rattle.std.proofs.Math.Logic.{inl, inr}
use Rattle.std.proofs.Math.Bool.{true, false}
use mathlib.Core.List.Memᴰ
use mathlib.Core.List.{List, Memᴰ}
use Rattle.base.specs.Bools.{is_true}
use Rattle.base.specs.Range.{range, member_range, range_member}
use Rattle.mesh.specs.Cells.{Cell}
use Rattle.mesh.specs.Weights.{Point}
use Rattle.soundness.specs.Sound.{Sound, lv}
use Rattle.parts.specs.Owners.{nth_cell}
use Rattle.parts.specs.Held.{Entry, masterb, ghostb, entry_of, entries_of}
use Rattle.splitting.specs.Numbers.{at_level, stands, level_at_lem}
use Rattle.splitting.specs.Paths.{one_place}
use Rattle.splitting.specs.Admissible.{ghost_other}
use Rattle.base.specs.Distinct.{in_flat, flat_in, only_one}
use Rattle.shares.specs.Flat.{NoTwice, once_range}
use Rattle.shares.specs.Grow.{entry_by}

module _ (n : ℕ) (qs : List (List ℕ)) (ss os : List ℕ) (p : ℕ) where
  abbrev entry_is : ℕ → Bool → Entry
  entry_is c b = entry_by (nth_cell n qs ss c).path (get_or ss c 0) b

  pub record HeldBy (e : Entry) : Type 0 where
    pub c : ℕ
    pub below : c < length ss
    pub is : e ≡ entry_by (nth_cell n qs ss c).path (get_or ss c 0) e.ghost
    pub kind : ((e.ghost ≡ false) × T (masterb os p c)) ⊎ ((e.ghost ≡ true) × T (ghostb n qs ss os p c))

  in_entries : (c : ℕ) → c < length ss → (e : Entry) → Memᴰ e (entry_of n qs ss os p c) → Memᴰ e (entries_of n qs ss os p)
  unfolding entries_of
  in_entries c h e m = in_flat (entry_of n qs ss os p) (range 0 (length ss)) c e (range_member 0 (length ss) c (omega arith) (omega arith)) m

  pub master_held : (c : ℕ) → c < length ss → T (masterb os p c) → Memᴰ (entry_by (nth_cell n qs ss c).path (get_or ss c 0) false)
      (entries_of n qs ss os p)
  unfolding entry_of
  master_held c h m = in_entries c h (entry_is c false) (rw (is_true (masterb os p c) m, entry_of) (Memᴰ.head refl))

  pub ghost_held : (c : ℕ) → c < length ss → T (ghostb n qs ss os p c) → Memᴰ (entry_by (nth_cell n qs ss c).path (get_or ss c 0) true)
      (entries_of n qs ss os p)
  unfolding entry_of
  ghost_held c h g =
      in_entries c h (entry_is c true)
      (rw (ghost_other n qs ss 0 os p c g, is_true (ghostb n qs ss os p c) g, entry_of) (Memᴰ.head refl))

  one_held : (c : ℕ) → c < length ss → (e : Entry) → Memᴰ e (entry_of n qs ss os p c) → HeldBy e
  unfolding entry_of
  one_held c h e m = go (masterb os p c) refl (ghostb n qs ss os p c) refl
    where
      go : (a : Bool) → masterb os p c ≡ a → (b : Bool) → ghostb n qs ss os p c ≡ b → HeldBy e
      go true u b v =
          let q : e ≡ entry_is c false = only_one e (entry_is c false) (rw (u, entry_of) at m) in
          let g : e.ghost ≡ false = ap (λ (e : Entry). e.ghost) q in
          record { c = c; below = h; is = q ∙ ap (entry_is c) (sym g); kind = inl (g, rw u tt) }
      go false u true v =
          let q : e ≡ entry_is c true = only_one e (entry_is c true) (rw (u, v, entry_of) at m) in
          let g : e.ghost ≡ true = ap (λ (e : Entry). e.ghost) q in
          record { c = c; below = h; is = q ∙ ap (entry_is c) (sym g); kind = inr (g, rw v tt) }
      go false u false v = absurd (Memᴰ.not-nil (rw (u, v, entry_of) at m))

  pub held_is : (e : Entry) → Memᴰ e (entries_of n qs ss os p) → HeldBy e
  unfolding entries_of
  held_is e m =
      let (c, a, x) = flat_in (entry_of n qs ss os p) (range 0 (length ss)) e m in
      let (_, h) = member_range 0 (length ss) c a in
      one_held c (omega arith) e x

  -- no cell twice
  once_one : (c : ℕ) → NoTwice (entry_of n qs ss os p c)
  unfolding entry_of
  once_one c = go (masterb os p c) refl (ghostb n qs ss os p c) refl
    where
      go : (a : Bool) → masterb os p c ≡ a → (b : Bool) → ghostb n qs ss os p c ≡ b → NoTwice (entry_of n qs ss os p c)
      go true u b v = rw (u, entry_of) ((λ f m q. absurd (Memᴰ.not-nil m)), tt)
      go false u true v = rw (u, v, entry_of) ((λ f m q. absurd (Memᴰ.not-nil m)), tt)
      go false u false v = rw (u, v, entry_of) tt

  entry_path : (c : ℕ) (e : Entry) → Memᴰ e (entry_of n qs ss os p c) → e.path ≡ (nth_cell n qs ss c).path
  unfolding entry_of
  entry_path c e m = go (masterb os p c) refl (ghostb n qs ss os p c) refl
    where
      go : (a : Bool) → masterb os p c ≡ a → (b : Bool) → ghostb n qs ss os p c ≡ b → e.path ≡ (nth_cell n qs ss c).path
      go true u b v = ap (λ (e : Entry). e.path) (only_one e (entry_is c false) (rw (u, entry_of) at m))
      go false u true v = ap (λ (e : Entry). e.path) (only_one e (entry_is c true) (rw (u, v, entry_of) at m))
      go false u false v = absurd (Memᴰ.not-nil (rw (u, v, entry_of) at m))

  module _ (s : Sound n qs ss) where
    pub same_path : (c d : ℕ) → c < length ss → d < length ss → (nth_cell n qs ss c).path ≡ (nth_cell n qs ss d).path → c ≡ d
    same_path c d hc hd e =
        let (j, mc) = level_at_lem n qs ss s c hc in
        let (k, md) = level_at_lem n qs ss s d hd in
        let x = stands n qs ss s j c mc in
        let y = stands n qs ss s k d md in
        let a = at_level n qs ss s j x.t x.below in
        let b = at_level n qs ss s k y.t y.below in
        let ca = ap (nth_cell n qs ss) x.number ∙ a.cell_is in
        let cb = ap (nth_cell n qs ss) y.number ∙ b.cell_is in
        let (u, v) = one_place n qs ss j x.t k y.t x.below y.below
        (sym (ap (λ (c : Cell Point). c.path) ca) ∙ e ∙ ap (λ (c : Cell Point). c.path) cb) in
        let w : (lv n qs ss j).first ≡ (lv n qs ss k).first = ap (λ (i : ℕ). (lv n qs ss i).first) u in
        omega (arith, x.number, y.number)

    pub held_once : NoTwice (entries_of n qs ss os p)
    unfolding entries_of
    held_once =
        once_range (entry_of n qs ss os p) 0 (length ss) (λ c m. once_one c)
        (λ x y hx hy d e g m m' q.
        let (_, a) = member_range 0 (length ss) x hx in
        let (_, b) = member_range 0 (length ss) y hy in
        d (same_path x y (omega arith) (omega arith) (sym (entry_path x e m) ∙ sym q ∙ entry_path y g m')))
