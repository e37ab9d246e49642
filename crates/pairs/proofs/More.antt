-- The buckets after a pair is added: its own bucket's last entry is the new one, and no other bucket changes.
-- Assumes nothing.
use mathlib.Core.Path.{◌≡◌, refl, sym, ◌∙◌}
use mathlib.Core.List.{List}
use Prim.Native.Nat.{ℕ, zero, suc, ◌≤◌, ◌<◌}
use native.Mathlib.Numerals.{add-one}
use native.Mathlib.Decide.{ℕ_discrete}
use native.Mathlib.Omega.{arith}
use lib.ListN.{length, get_or, set, length-set}
use lib.Seq.{get_or-set_same, get_or-set_other}
use borrow.Author.Tests.{eq-eqb, ne_eqb}
use Rattle.spots.specs.Spots.{buckets_of, buckets_inside, noted}
use Rattle.spots.specs.Noted.{noted-length, noted_below, spots_stored, spots_noted}
use Rattle.pairs.specs.Keys.{bucket, latest, Keys, Room, Added}

-- a store at n changes nothing below it
latest-set : (w : ℕ) (xs ys : List ℕ) (b n x y m : ℕ) → m ≤ n → latest w (set xs n x) (set ys n y) b m ≡ latest w xs ys b m
unfolding latest
latest-set w xs ys b n x y zero h = refl
latest-set w xs ys b n x y (suc m) h =
    let ne : m ≡ n → ⊥ = λ q. omega arith in
    rw (get_or-set_other xs n m x 0 ne, get_or-set_other ys n m y 0 ne, latest-set w xs ys b n x y m (omega arith))

module _ (xs ys heads links : List ℕ) (n x y : ℕ) (k : Keys xs ys heads links n) (r : Room xs ys links n) where
  abbrev v : ℕ
  v = buckets_of (length heads)

  module _ (in_heads : bucket v x y < v) where
    inside : bucket v x y < length heads
    inside = omega (arith, buckets_inside (length heads) k.in_heads)

    heads_added : (b : ℕ) → b < v → Dec (b ≡ bucket v x y)
        → get_or (set heads (bucket v x y) n) b 0 ≡ latest v (set xs n x) (set ys n y) b (suc n)
    unfolding latest
    heads_added b h (yes q) =
        rw (
          q,
          get_or-set_same heads (bucket v x y) n 0 inside,
          get_or-set_same xs n x 0 r.in_xs,
          get_or-set_same ys n y 0 r.in_ys,
          eq-eqb (bucket v x y) (bucket v x y) refl,
        )
    heads_added b h (no q) =
        let ne : bucket v x y ≡ b → ⊥ = λ e. q (sym e) in
        rw (
          get_or-set_other heads (bucket v x y) b n 0 q,
          get_or-set_same xs n x 0 r.in_xs,
          get_or-set_same ys n y 0 r.in_ys,
          ne_eqb (bucket v x y) b ne,
          latest-set v xs ys b n x y n (omega arith),
        )
        (k.heads_right b h)

    links_added : (e : ℕ) → e < suc n → Dec (e ≡ n)
        → get_or (set links n (get_or heads (bucket v x y) 0)) e 0 ≡ latest v (set xs n x) (set ys n y)
        (bucket v (get_or (set xs n x) e 0) (get_or (set ys n y) e 0)) e
    links_added e h (yes q) =
        rw (
          q,
          get_or-set_same links n (get_or heads (bucket v x y) 0) 0 r.in_links,
          get_or-set_same xs n x 0 r.in_xs,
          get_or-set_same ys n y 0 r.in_ys,
          latest-set v xs ys (bucket v x y) n x y n (omega arith),
        )
        (k.heads_right (bucket v x y) in_heads)
    links_added e h (no q) =
        rw (
          get_or-set_other links n e (get_or heads (bucket v x y) 0) 0 q,
          get_or-set_other xs n e x 0 q,
          get_or-set_other ys n e y 0 q,
          latest-set v xs ys (bucket v (get_or xs e 0) (get_or ys e 0)) n x y e (omega arith),
        )
        (k.links_right e (omega (arith, q)))

    same_heads : length (set heads (bucket v x y) n) ≡ length heads
    same_heads = length-set heads (bucket v x y) n

    added : Added xs ys n x y (set xs n x) (set ys n y) (noted (set heads (bucket v x y) n) n x y)
        (set links n (get_or heads (bucket v x y) 0))
    added =
        let l : length (noted (set heads (bucket v x y) n) n x y) ≡ length heads =
        noted-length (set heads (bucket v x y) n) n x y ∙ same_heads in
        record {
          xs_is = refl;
          ys_is = refl;
          keys =
              rw (add-one n)
              (record {
                small = r.small;
                in_xs = simp length-set r.in_xs;
                in_ys = simp length-set r.in_ys;
                in_links = simp length-set r.in_links;
                in_heads = omega (arith, k.in_heads);
                heads_right = λ b h.
                    let m : b < v = rw l at h in
                    rw l
                    (noted_below (set heads (bucket v x y) n) n x y b (rw same_heads m) ∙ heads_added b m (ℕ_discrete b (bucket v x y)));
                links_right = λ e h. rw l (links_added e h (ℕ_discrete e n));
                spots = spots_noted xs ys (set heads (bucket v x y) n) n
                    (spots_stored xs ys heads n k.spots (bucket v x y) n in_heads) x y r.in_xs r.in_ys;
              });
        }

pub added_at : {xs ys heads links : List ℕ} {n x y : ℕ} → Keys xs ys heads links n → Room xs ys links n → (b : ℕ)
    → b ≡ bucket (buckets_of (length heads)) x y → b < buckets_of (length heads)
    → Added xs ys n x y (set xs n x) (set ys n y) (noted (set heads b n) n x y) (set links n (get_or heads b 0))
added_at {xs} {ys} {heads} {links} {n} {x} {y} k r b e h = rw e (added xs ys heads links n x y k r (rw e at h))
