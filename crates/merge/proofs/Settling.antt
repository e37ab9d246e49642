-- One cell of the table is found, and all.
use mathlib.Core.Path.{◌≡◌, refl, sym, ◌∙◌, ap}
use mathlib.Core.List.{List}
use mathlib.Core.Logic.{◌⊎◌, ⊎_elim}
use Prim.Native.Nat.{ℕ, suc, ◌+◌, ◌-◌, ◌≤◌, ◌<◌}
use native.Mathlib.Decide.{dec_lt}
use native.Mathlib.Omega.{arith}
use lib.ListN.{get_or, set}
use Rattle.base.specs.Limits.{most_cells, most_coarse_cells}
use Rattle.pairs.specs.Keys.{seek}
use Rattle.mesh.specs.Table.{size_of}
use Rattle.parts.specs.Held.{Entry}
use Rattle.parts.specs.Merge.{lookup}
use Rattle.held.specs.Key.{key_path, Key, key_child}
use Rattle.merge.specs.declared.masters.Masters.{Masters}
use Rattle.merge.specs.declared.row.Row.{Row}
use Rattle.merge.specs.Load.{Mastered, few_keys}
use Rattle.merge.specs.Sweep.{KeyRow, Pushed, Seeded, sweep_start, sweep_on, sweep_out}
use Rattle.merge.specs.Sweep.{no_master, no_status, no_room, no_level_lem}
use Rattle.merge.specs.Steps.{Swept, Settled, Unsettled, Built, Unbuilt}

-- where children are put, there is room for their digits
pub shallow : (size x : ℕ) → ((0 < size) × (x < 2560)) ⊎ (size ≤ 0) → 0 < size → x < 2560
shallow size x e h = ⊎_elim (λ (p : (0 < size) × (x < 2560)). p.1) (λ (p : size ≤ 0). absurd (omega arith)) e

module _ (k : Masters) (w : Row) (g : w.found < w.known) where
  abbrev x : ℕ
  x = get_or w.heads w.found 0

  abbrev y : ℕ
  y = get_or w.digits w.found 0

  pub own : Key x y
  own = w.keys.keys w.found (omega arith) g

  abbrev seek_at : ℕ
  seek_at = seek k.keys.xs k.keys.ys x y k.keys.from (k.keys.n - k.keys.from)

  sought : seek k.keys.xs k.keys.ys x y 0 k.keys.n ≡ seek_at
  sought = let z : k.keys.n - 0 ≡ k.keys.n = omega arith in rw (k.all, z)

  pub settle_none : seek_at ≡ 65535 → Unsettled k w
  settle_none h =
      record { failed = λ es m l s. no_master es m w.heads w.digits w.statuses w.found w.known s g (l.none x y own (sought ∙ h)) }

  module _ (at : ℕ) (q : (at ≡ seek_at) × (at < k.keys.n)) where
    found : seek k.keys.xs k.keys.ys x y 0 k.keys.n ≡ 65535 → ⊥
    found h = omega (arith, sought, q, few_keys k)

    status_is : (es : List Entry) → Mastered es k → lookup es (key_path x y) ≡ get_or k.statuses at 0
    status_is es l = (l.some x y own found).1 ∙ ap (λ (i : ℕ). get_or k.statuses i 0) (sought ∙ sym q.0)

    pub settle_status : 64 < get_or k.statuses at 0 → Unsettled k w
    settle_status h =
        record { failed = λ es m l s. no_status es m w.heads w.digits w.statuses w.found w.known s g (omega (arith, status_is es l)) }

    module _ (size : ℕ) (sz : size ≡ size_of (get_or k.statuses at 0)) (few : size ≤ 8) where
      size_is : (es : List Entry) → Mastered es k → size_of (lookup es (key_path x y)) ≡ size
      size_is es l = ap size_of (status_is es l) ∙ sym sz

      pub settle_deep : 0 < size → 2560 ≤ x → Unsettled k w
      settle_deep s d =
          record {
            failed = λ es m l t. no_level_lem es m w.heads w.digits w.statuses w.found w.known t g l.long (omega arith)
                (omega (arith, size_is es l));
          }

      pub settle_room : most_cells < w.known + size → Unsettled k w
      settle_room d =
          record {
            failed = λ es m l t. no_room es m w.heads w.digits w.statuses w.found w.known t g (omega (arith, w.sized.2, w.behind))
                (omega (arith, size_is es l));
          }

      module _ (deep : 0 < size → x < 2560) (px py : List ℕ) (p : Pushed w.heads w.digits w.known x y size px py) where
        pub settle_keys : KeyRow px py (suc w.found) (w.known + size)
        settle_keys =
            record {
              keys = λ i u v. elim (dec_lt i w.known) [
                | yes h ↦ rw (p.old_heads i h, p.old_digits i h) (w.keys.keys i (omega arith) h)
                | no h ↦ let j : w.known + (i - w.known) ≡ i = omega arith in rw j at (key_new (i - w.known) (omega arith))
              ];
            }
          where
            key_new : (i : ℕ) → i < size → Key (get_or px (w.known + i) 0) (get_or py (w.known + i) 0)
            key_new i h = rw (p.heads i h, p.digits i h) (key_child x y i own (omega (arith, deep (omega arith))) (omega arith)).key

        pub settle_on : (w' : Row) → w'.heads ≡ px → w'.digits ≡ py → w'.statuses ≡ set w.statuses w.found (get_or k.statuses at 0)
            → w'.found ≡ suc w.found → w'.known ≡ w.known + size → Settled k w w'
        settle_on w' a b d e f =
            record {
              next = e;
              went = λ es m l t.
                  rw (a, b, d, e, f) (sweep_on es m w.heads w.digits w.statuses w.found w.known t g x y (get_or k.statuses at 0) size px py
                  refl refl (l.some x y own found).0 (sym (status_is es l)) (omega (arith, w.sized.2, w.behind)) sz few
                  (λ h. omega (arith, deep h)) p);
            }

-- the whole row
module _ (k : Masters) (m : ℕ) where
  pub record Going (w : Row) : Type 0 where
    pub swept : (es : List Entry) → Mastered es k → Swept es m w

  pub going_start : m ≤ most_coarse_cells → (w : Row) → Seeded w.heads w.digits m → w.found ≡ 0 → w.known ≡ m → Going w
  going_start few w s a b = record { swept = λ es l. rw (a, b) (sweep_start es m w.heads w.digits w.statuses few s) }

  pub going_on : (w w' : Row) → Going w → Settled k w w' → Going w'
  going_on w w' v s = record { swept = λ es l. s.went es m l (v.swept es l) }

  pub going_failed : (w : Row) → Going w → Unsettled k w → Unbuilt k m
  going_failed w v s = record { failed = λ es l. s.failed es m l (v.swept es l) }

  pub going_out : (w : Row) → Going w → w.known ≤ w.found → Built k m w
  going_out w v h =
      let i : w.found ≡ w.known = omega (arith, w.behind) in
      record { table = λ es l. rw i at (sweep_out es m w.heads w.digits w.statuses w.found w.known (v.swept es l) h) }
