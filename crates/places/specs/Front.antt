-- Masters and ghosts that are written keep the length and the header but for their count.
--   SameFront x y    y has the length of x, and the numbers 0 to 8
-- Laws: front_self, front_on, front-set, each_front, front_again (one turn of a loop), cells_front, front_usable.
use Rattle.std.specs.Prelude.{◌≡◌, Bool, ◌&&◌, List, eqb, ltb, length, get_or, set}
use Rattle.std.proofs.Math.Path.{refl}
use Rattle.std.proofs.Common.{sym, ◌∙◌, subst, arith, length-set, get_or-set_other}
use Rattle.std.proofs.Math.Bool.{true, false, not}
use Prim.Native.Nat.{ℕ, zero, suc, ◌+◌, ◌-◌, ◌%◌, ◌≤◌, ◌<◌, min, max}
use Rattle.base.specs.Limits.{most_cells, too_many}
use Rattle.mesh.specs.Table.{size_of}
use Rattle.store.specs.Fields.{field, PART, ENTRIES, TOTAL, HIGH, OWNER, FAMILY, STATUS, PLACE_HEAD, PLACE_DIGITS, PLACE_MORE, PLACE_STATUS}
use Rattle.store.specs.declared.Place.{Place}
use Rattle.store.specs.Places.{place_level, child_place}
use Rattle.turns.specs.Loops.{each_from, each_turn}
use Rattle.turns.specs.Usable.{Usable}
use Rattle.places.specs.Status.{new_status, lastsb, remadeb, fresh_bits}
use Rattle.places.specs.Put.{place_at, entry_set, put, put_master, put_leaf, put_leaves, put_child, place_master, place_ghost}
use Rattle.places.specs.Put.{place_family, place_cell, place_old}

pub record SameFront (x y : List ℕ) : Type 0 where
  pub size : length y ≡ length x
  pub head : (i : ℕ) → i < ENTRIES → get_or y i 0 ≡ get_or x i 0

pub front_self : (x : List ℕ) → SameFront x x
front_self x = record { size = refl; head = λ i h. refl }

pub front_on : (x y z : List ℕ) → SameFront x y → SameFront y z → SameFront x z
front_on x y z a b = record { size = b.size ∙ a.size; head = λ i h. b.head i h ∙ a.head i h }

pub front-set : (x : List ℕ) (i n : ℕ) → ENTRIES ≤ i → SameFront x (set x i n)
front-set x i n h = record { size = length-set x i n; head = λ j l. get_or-set_other x i j n 0 (λ z. absurd (omega (arith, z))) }

set_on : (x y : List ℕ) (i n : ℕ) → ENTRIES ≤ i → SameFront x y → SameFront x (set y i n)
set_on x y i n h a = front_on x y (set y i n) a (front-set y i n h)

module _ (f : List ℕ → ℕ → List ℕ) (keeps : (x : List ℕ) (c : ℕ) → SameFront x (f x c)) where
  each_front : (n c : ℕ) (x : List ℕ) → SameFront x (each_from f n c x)
  unfolding each_from
  each_front zero c x = front_self x
  each_front (suc n) c x = front_on x (f x c) (each_from f n (suc c) (f x c)) (keeps x c) (each_front n (suc c) (f x c))

  -- one turn of a loop: the header, and what is left to do
  pub front_again : (m c : ℕ) (x₀ x y w : List ℕ) → SameFront x₀ x × (each_from f (m - c) c x ≡ w) → c < m → y ≡ f x c
      → SameFront x₀ y × (each_from f (m - suc c) (suc c) y ≡ w)
  front_again m c x₀ x y w (a, i) h e =
      (front_on x₀ x y a (subst (SameFront x) (sym e) (keeps x c)), each_turn f m c x y w h e i)

put_same_front : (x : List ℕ) (p : Place) (s : ℕ) → SameFront x (put x p s)
unfolding put entry_set
put_same_front x p s = go (ltb (field x ENTRIES) most_cells) refl
  where
    go : (t : Bool) → ltb (field x ENTRIES) most_cells ≡ t → SameFront x (put x p s)
    go false e = rw (e, put) (front_self x)
    go true e =
        rw (e, put)
        (set_on x _ ENTRIES (field x ENTRIES + 1) (omega arith)
        (set_on x _ (PLACE_STATUS + field x ENTRIES) s (omega arith)
        (set_on x _ (PLACE_MORE + field x ENTRIES) p.more (omega arith)
        (set_on x _ (PLACE_DIGITS + field x ENTRIES) p.digits (omega arith)
        (front-set x (PLACE_HEAD + field x ENTRIES) p.head (omega arith))))))

master_front : (x : List ℕ) (p : Place) (s : ℕ) → SameFront x (put_master x p s)
unfolding put_master
master_front x p s =
    front_on x _ _
    (set_on x _ HIGH (max (field x HIGH) (place_level p)) (omega arith)
    (front-set x TOTAL (min (field x TOTAL + 1) too_many) (omega arith))) (put_same_front _ p s)

pub leaf_front : (p : Place) (x : List ℕ) (i : ℕ) → SameFront x (put_leaf p x i)
unfolding put_leaf
leaf_front p x i = master_front x (child_place p i) 0

leaves_front : (p : Place) (n : ℕ) (x : List ℕ) → SameFront x (put_leaves p n x)
leaves_front p n x = each_front (put_leaf p) (leaf_front p) n 0 x

pub child_front : (p : Place) (f : ℕ → ℕ) (x : List ℕ) (i : ℕ) → SameFront x (put_child p f x i)
unfolding put_child
child_front p f x i = front_on x (put_master x (child_place p i) (f i)) _ (master_front x (child_place p i) (f i))
    (leaves_front (child_place p i) (size_of (f i)) (put_master x (child_place p i) (f i)))

module _ (x : List ℕ) (c : ℕ) where
  place_master_front : SameFront x (place_master x c)
  unfolding place_master
  place_master_front = go (eqb (field x (OWNER + c)) (field x PART) && lastsb x c) refl
    where
      go : (t : Bool) → (eqb (field x (OWNER + c)) (field x PART) && lastsb x c) ≡ t → SameFront x (place_master x c)
      go true e = rw (e, place_master) (master_front x (place_at x c) (new_status x c))
      go false e = rw (e, place_master) (front_self x)

  place_ghost_front : SameFront x (place_ghost x c)
  unfolding place_ghost
  place_ghost_front = go
      (not (eqb (field x (OWNER + c)) (field x PART)) && (eqb (field x (FAMILY + c)) (field x PART) && not (eqb (new_status x c) 0))) refl
    where
      go : (t : Bool)
          → (not (eqb (field x (OWNER + c)) (field x PART)) &&
          (eqb (field x (FAMILY + c)) (field x PART) && not (eqb (new_status x c) 0))) ≡ t
          → SameFront x (place_ghost x c)
      go true e = rw (e, place_ghost) (put_same_front x (place_at x c) (128 + new_status x c))
      go false e = rw (e, place_ghost) (front_self x)

  place_family_front : SameFront x (place_family x c)
  unfolding place_family
  place_family_front = go (remadeb x c) refl (eqb (new_status x c) 64 && not (eqb (field x (STATUS + c)) 0)) refl
    where
      go : (t : Bool) → remadeb x c ≡ t → (s : Bool) → (eqb (new_status x c) 64 && not (eqb (field x (STATUS + c)) 0)) ≡ s
          → SameFront x (place_family x c)
      go true e true d = rw (e, d, place_family)
          (each_front (put_child (place_at x c) (fresh_bits x c)) (child_front (place_at x c) (fresh_bits x c)) 8 0 x)
      go true e false d = rw (e, d, place_family) (leaves_front (place_at x c) (size_of (new_status x c)) x)
      go false e s d = rw (e, place_family) (front_self x)

pub ghost_front : (x y z : List ℕ) (c : ℕ) → y ≡ place_master x c → z ≡ place_ghost y c → SameFront x z
ghost_front x y z c e f =
    front_on x y z (subst (SameFront x) (sym e) (place_master_front x c)) (subst (SameFront y) (sym f) (place_ghost_front y c))

pub cell_front : (x : List ℕ) (c : ℕ) → SameFront x (place_cell x c)
unfolding place_cell
cell_front x c =
    front_on x _ _ (place_master_front x c)
    (front_on (place_master x c) _ _ (place_ghost_front (place_master x c) c) (place_family_front (place_ghost (place_master x c) c) c))

pub old_front : (x : List ℕ) (c : ℕ) → SameFront x (place_old x c)
unfolding place_old
old_front x c = go (eqb (field x (OWNER + c)) (field x PART)) refl (eqb (field x (FAMILY + c)) (field x PART)) refl
  where
    go : (t : Bool) → eqb (field x (OWNER + c)) (field x PART) ≡ t → (s : Bool) → eqb (field x (FAMILY + c)) (field x PART) ≡ s
        → SameFront x (place_old x c)
    go true e s d = rw (e, place_old) (put_same_front x (place_at x c) (field x (STATUS + c)))
    go false e true d = rw (e, d, place_old) (put_same_front x (place_at x c) ((128 + field x (STATUS + c)) % 65536))
    go false e false d = rw (e, d, place_old) (front_self x)

pub cells_front : (n c : ℕ) (x : List ℕ) → SameFront x (each_from place_cell n c x)
cells_front = each_front place_cell cell_front

pub front_usable : (x y : List ℕ) → SameFront x y → Usable x → Usable y
front_usable x y h u = record {
  long = omega (arith, h.size, u.long);
  part_least = omega (arith, h.head 1 (omega arith), u.part_least);
  part_most = omega (arith, h.head 1 (omega arith), h.head 2 (omega arith), u.part_most);
  parts_most = omega (arith, h.head 2 (omega arith), u.parts_most);
  cells_most = omega (arith, h.head 5 (omega arith), u.cells_most);
  levels_least = omega (arith, h.head 6 (omega arith), u.levels_least);
  levels_most = omega (arith, h.head 6 (omega arith), u.levels_most);
}
