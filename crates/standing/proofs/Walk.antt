-- The walk of a fetch gives the queue's first message and leaves the rest: by bumped counts, behind a spot that is passed (fetch_first, fetch_rest).
use Rattle.std.specs.Prelude.{◌≡◌, Bool, eqb, length, set}
use Rattle.std.proofs.Math.Path.{refl, sym, ap, ap₂, subst}
use Rattle.std.proofs.Common.{◌∙◌, eq-eqb, ne_eqb}
use Rattle.std.proofs.Math.Bool.{true, false}
use mathlib.Core.List.{List, [], ◌∷◌, ◌++◌, map}
use Prim.Native.Nat.{ℕ, zero, suc, ◌+◌, ◌-◌, ◌%◌, ◌≤◌, ◌<◌}
use native.Mathlib.Omega.{arith}
use Rattle.std.proofs.Math.Decide.{dec_lt, ℕ_discrete}
use Rattle.std.proofs.Math.ListN.{length-set}
use Rattle.std.proofs.Math.Seq.{get_or-set_same, get_or-set_other}
use Rattle.store.specs.Fields.{field, full, CURSOR, BIT, GIVEN, CODE, VALUE, RECEIVERS, most_entries}
use Rattle.store.specs.declared.Spot.{Spot}
use Rattle.store.specs.Fetch.{entry_count, receivers_at, bitb, spot_at, next_to_give, given, passed_by}
use Rattle.store.proofs.Fetching.{written_few}
use Rattle.standing.specs.Walk.{bits_from, spots_from, left_of, cons_head, cons_tail, no_cons, spots, passed_else, passed_entry, Posted, posted_passed, posted_written, bump, given_after, stream, given_to, queue_of, first_of}

-- a fetch moves the cursor and one counter, and nothing else
module _ (x : List ℕ) (s : Spot) where
  module _ (h : full ≤ length x) (g : s.bit < 16) where
    passed_bit : field (passed_by x s) BIT ≡ suc s.bit
    unfolding passed_by
    passed_bit =
        get_or-set_other (set (set x CURSOR s.entry) BIT (s.bit + 1)) (GIVEN + s.bit) BIT ((field x (GIVEN + s.bit) + 1) % 65536) 0
        (λ z. absurd (omega (arith, z)))
        ∙ get_or-set_same (set x CURSOR s.entry) BIT (s.bit + 1) 0 (omega (arith, length-set x CURSOR s.entry)) ∙ omega arith

    passed_count : field (passed_by x s) (GIVEN + s.bit) ≡ (field x (GIVEN + s.bit) + 1) % 65536
    unfolding passed_by
    passed_count =
        get_or-set_same (set (set x CURSOR s.entry) BIT (s.bit + 1)) (GIVEN + s.bit) ((field x (GIVEN + s.bit) + 1) % 65536) 0
        (omega (arith, length-set (set x CURSOR s.entry) BIT (s.bit + 1), length-set x CURSOR s.entry))

module _ (x y : List ℕ) (e : Posted x y) where
  posted_spots : (k j b : ℕ) → j + k ≤ most_entries → spots_from y k j b ≡ spots_from x k j b
  unfolding spots_from
  posted_spots zero j b h = refl
  posted_spots (suc k) j b h =
      ap₂ (λ (m : ℕ) (v : List Spot). map (spot_at j) (bits_from (16 - b) m b)
      ++ v) (e.rest (RECEIVERS + j) (omega arith) (omega arith)) (posted_spots k (suc j) 0 (omega arith))

-- places that stand among the entries
unfoldable EntriesIn : List Spot → Type 0
EntriesIn [] = Unit
EntriesIn (s ∷ l) = (s.entry < most_entries) × (s.bit < 16) × EntriesIn l

Below : List ℕ → Type 0
Below [] = Unit
Below (c ∷ l) = (c < 16) × Below l

bits_below : (k m b : ℕ) → k ≤ 16 - b → Below (bits_from k m b)
unfolding bits_from Below
bits_below zero m b h = tt
bits_below (suc k) m b h = go (bitb m b) refl (bits_below k m (suc b) (omega arith))
  where
    go : (t : Bool) → bitb m b ≡ t → Below (bits_from k m (suc b)) → Below (bits_from (suc k) m b)
    go true e r = rw (e, bits_from) (omega arith, r)
    go false e r = rw (e, bits_from) r

inside-map : (j : ℕ) → j < most_entries → (l : List ℕ) → Below l → (v : List Spot) → EntriesIn v → EntriesIn (map (spot_at j) l ++ v)
unfolding EntriesIn Below
inside-map j h [] t v i = i
inside-map j h (c ∷ l) t v i = (h, t.0, inside-map j h l t.1 v i)

inside_spots : (x : List ℕ) (k j b : ℕ) → j + k ≤ most_entries → EntriesIn (spots_from x k j b)
unfolding spots_from EntriesIn
inside_spots x zero j b h = tt
inside_spots x (suc k) j b h =
    inside-map j (omega arith) (bits_from (16 - b) (receivers_at x j) b) (bits_below (16 - b) (receivers_at x j) b (omega arith))
    (spots_from x k (suc j) 0) (inside_spots x k (suc j) 0 (omega arith))

bump_same : (o u : ℕ → ℕ) → ((c : ℕ) → c < 16 → u c ≡ o c) → (b c : ℕ) → c < 16 → bump u b c ≡ bump o b c
unfolding bump
bump_same o u h b c l = ap (λ (n : ℕ). elim (eqb c b) [ true ↦ (n + 1) % 65536 | false ↦ n ]) (h c l)

stream_same : (x y : List ℕ) → Posted x y → (o u : ℕ → ℕ) → ((c : ℕ) → c < 16 → u c ≡ o c) → (l : List Spot) → EntriesIn l
    → stream y u l ≡ stream x o l
unfolding stream EntriesIn
stream_same x y e o u h [] i = refl
stream_same x y e o u h (s ∷ l) i =
    let a = e.rest (CODE + s.entry) (omega arith) (omega (arith, i.0)) in
    let b = e.rest (VALUE + s.entry) (omega arith) (omega (arith, i.0)) in
    ap₂ ◌∷◌ (rw (e.part, h s.bit i.1, a, b))
    (stream_same x y e (bump o s.bit) (bump u s.bit) (bump_same o u h s.bit) l i.2)

pub after_same : (o u : ℕ → ℕ) → ((c : ℕ) → c < 16 → u c ≡ o c) → (l : List Spot) → (c : ℕ) → c < 16 → given_after u l c ≡ given_after o l c
unfolding given_after
after_same o u h [] c j = h c j
after_same o u h (s ∷ l) c j = after_same (bump o s.bit) (bump u s.bit) (bump_same o u h s.bit) l c j

module _ (x : List ℕ) (h : full ≤ length x) where
  abbrev k : ℕ
  k = entry_count x - field x CURSOR

  bump_passed : (s : Spot) → s.bit < 16 → (c : ℕ) → given_to (passed_by x s) c ≡ bump (given_to x) s.bit c
  unfolding bump
  bump_passed s g c =
      elim (ℕ_discrete c s.bit) [
        | yes e ↦ rw (eq-eqb c s.bit e, bump) (ap (λ (c : ℕ). field (passed_by x s) (GIVEN + c)) e ∙ passed_count x s h g
            ∙ ap (λ (c : ℕ). (field x (GIVEN + c) + 1) % 65536) (sym e))
        | no n ↦ rw (ne_eqb c s.bit n, bump) (passed_else x s (GIVEN + c) (λ z. absurd (omega (arith, z)))
            (λ z. absurd (omega (arith, z))) (λ z. n (omega (arith, z))))
      ]

  module _ (s : Spot) (w : List Spot) (e : left_of x ≡ s ∷ w) where
    facts : (next_to_give x ≡ s) × (s.bit < 16) × (s.entry < most_entries) × (field x CURSOR ≤ entry_count x)
        × (spots_from x (entry_count x - s.entry) s.entry (suc s.bit) ≡ w)
    unfolding left_of next_to_give
    facts = go (dec_lt (entry_count x) (field x CURSOR))
      where
        go : Dec (entry_count x < field x CURSOR) → (next_to_give x ≡ s) × (s.bit < 16) × (s.entry < most_entries)
            × (field x CURSOR ≤ entry_count x)
            × (spots_from x (entry_count x - s.entry) s.entry (suc s.bit) ≡ w)
        go (yes l) =
            let z : entry_count x - field x CURSOR ≡ 0 = omega arith in
            no_cons (sym e ∙ rw (z, spots_from))
        go (no l) =
            let (a, b, c, d) = (spots x k (field x CURSOR) (field x BIT)).first s w e in
            let z : field x CURSOR + (entry_count x - field x CURSOR) ≡ entry_count x = omega arith in
            let y : entry_count x ≤ most_entries = written_few x in
            (a, b, omega arith, omega arith, ap (λ (n : ℕ). spots_from x (n - s.entry) s.entry (suc s.bit)) (sym z) ∙ d)

    -- the walk stops at the first that is left
    some_next : (next_to_give x ≡ s) × (s.bit < 16)
    some_next = (facts.0, facts.1)

    -- behind it the rest is left
    left_passed : left_of (passed_by x s) ≡ w
    unfolding left_of
    left_passed =
        let (a, b, c, l, d) = facts in
        let p = posted_passed x s b in
        let z : s.entry + (entry_count x - s.entry) ≤ most_entries = omega (arith, written_few x) in
        ap₂ (λ (n j : ℕ). spots_from (passed_by x s) (n - j) j (field (passed_by x s) BIT)) (posted_written x (passed_by x s) p)
        (passed_entry x s h b)
        ∙ ap (λ (b : ℕ). spots_from (passed_by x s) (entry_count x - s.entry) s.entry b) (passed_bit x s h b)
        ∙ posted_spots x (passed_by x s) p (entry_count x - s.entry) s.entry (suc s.bit) z ∙ d

    tail_inside : EntriesIn w
    unfolding left_of
    tail_inside =
        let (a, b, c, l, d) = facts in
        subst EntriesIn d (inside_spots x (entry_count x - s.entry) s.entry (suc s.bit) (omega (arith, written_few x)))

    rest_of : queue_of (passed_by x s) ≡ stream x (bump (given_to x) s.bit) w
    unfolding queue_of
    rest_of =
        ap (stream (passed_by x s) (given_to (passed_by x s))) left_passed
        ∙ stream_same x (passed_by x s) (posted_passed x s facts.1) (bump (given_to x) s.bit) (given_to (passed_by x s))
        (λ c j. bump_passed s facts.1 c) w tail_inside

  -- how many are given and left for each receiver does not change
  sent_passed : (s : Spot) (w : List Spot) (e : left_of x ≡ s ∷ w) (c : ℕ) → c < 16
      → given_after (given_to (passed_by x s)) (left_of (passed_by x s)) c ≡ given_after (given_to x) (left_of x) c
  unfolding given_after
  sent_passed s w e c j =
      ap (λ (l : List Spot). given_after (given_to (passed_by x s)) l c) (left_passed s w e)
      ∙ after_same (bump (given_to x) s.bit) (given_to (passed_by x s)) (λ d i. bump_passed s (facts s w e).1 d) w c j
      ∙ sym (ap (λ (l : List Spot). given_after (given_to x) l c) e)

  within_passed : (s : Spot) (w : List Spot) → left_of x ≡ s ∷ w → s.entry < entry_count x
  unfolding left_of
  within_passed s w e = let a = (spots x k (field x CURSOR) (field x BIT)).first s w e in omega (arith, a.2, (facts s w e).3)

  pub fetch_rest : (m : List ℕ) (w : List (List ℕ)) → queue_of x ≡ m ∷ w
      → ((next_to_give x).entry < entry_count x) × ((c : ℕ) → c < 16
      → given_after (given_to (passed_by x (next_to_give x))) (left_of (passed_by x (next_to_give x))) c ≡ given_after (given_to x) (left_of x) c)
  unfolding queue_of stream
  fetch_rest m w e = go (left_of x) refl
    where
      go : (l : List Spot) → left_of x ≡ l → ((next_to_give x).entry < entry_count x)
          × ((c : ℕ) → c < 16 → given_after (given_to (passed_by x (next_to_give x))) (left_of (passed_by x (next_to_give x))) c
          ≡ given_after (given_to x) (left_of x) c)
      go [] i = no_cons (sym e ∙ ap (stream x (given_to x)) i)
      go (s ∷ v) i =
          let (a, b) = some_next s v i in (
            subst (λ (s : Spot). s.entry < entry_count x) (sym a) (within_passed s v i),
            λ c j. subst (λ (s : Spot). given_after (given_to (passed_by x s)) (left_of (passed_by x s)) c ≡ given_after (given_to x) (left_of x) c)
                (sym a) (sent_passed s v i c j),
          )

  pub fetch_first : (m : List ℕ) (w : List (List ℕ)) → queue_of x ≡ m ∷ w → ((next_to_give x).bit < 16) × (given x (next_to_give x) ≡ m)
      × (queue_of (passed_by x (next_to_give x)) ≡ w)
  unfolding queue_of stream
  fetch_first m w e = go (left_of x) refl
    where
      go : (l : List Spot) → left_of x ≡ l → ((next_to_give x).bit < 16) × (given x (next_to_give x) ≡ m)
          × (queue_of (passed_by x (next_to_give x)) ≡ w)
      go [] i = no_cons (sym e ∙ ap (stream x (given_to x)) i)
      go (s ∷ v) i =
          let (a, b) = some_next s v i in
          let f = sym (first_of x h s v i) ∙ e in (
            subst (λ (s : Spot). s.bit < 16) (sym a) b,
            ap (given x) a ∙ cons_head f,
            ap (λ (s : Spot). queue_of (passed_by x s)) a
                ∙ rest_of s v i ∙ cons_tail f,
          )

-- a change elsewhere leaves the queue as it is
pub queue_same : (x y : List ℕ) → Posted x y → field y CURSOR ≡ field x CURSOR → field y BIT ≡ field x BIT
    → ((b : ℕ) → b < 16 → given_to y b ≡ given_to x b) → queue_of y ≡ queue_of x
unfolding queue_of left_of spots_from stream
queue_same x y e a b c =
    elim (dec_lt (entry_count x) (field x CURSOR)) [
      | yes h ↦
          let z : entry_count y - field y CURSOR ≡ 0 = omega (arith, posted_written x y e) in
          let v : entry_count x - field x CURSOR ≡ 0 = omega arith in
          let f : left_of y ≡ [] = rw (z, spots_from) in
          let g : left_of x ≡ [] = rw (v, spots_from) in
          ap (stream y (given_to y)) f ∙ sym (ap (stream x (given_to x)) g)
      | no h ↦
          let g : left_of y ≡ left_of x =
          ap₂ (λ (n j : ℕ). spots_from y (n - j) j (field y BIT)) (posted_written x y e) a
          ∙ ap (spots_from y (entry_count x - field x CURSOR) (field x CURSOR)) b
          ∙ posted_spots x y e (entry_count x - field x CURSOR) (field x CURSOR) (field x BIT) (omega (arith, written_few x)) in
          ap (stream y (given_to y)) g ∙ stream_same x y e (given_to x) (given_to y) c (left_of x)
          (inside_spots x (entry_count x - field x CURSOR) (field x CURSOR) (field x BIT) (omega (arith, written_few x)))
    ]

pub sent_same : (x y : List ℕ) → Posted x y → field y CURSOR ≡ field x CURSOR → field y BIT ≡ field x BIT
    → ((b : ℕ) → b < 16 → given_to y b ≡ given_to x b)
    → (c : ℕ) → c < 16 → given_after (given_to y) (left_of y) c ≡ given_after (given_to x) (left_of x) c
unfolding left_of spots_from
sent_same x y e a b g c j =
    elim (dec_lt (entry_count x) (field x CURSOR)) [
      | yes h ↦
          let z : entry_count y - field y CURSOR ≡ 0 = omega (arith, posted_written x y e) in
          let v : entry_count x - field x CURSOR ≡ 0 = omega arith in
          let f : left_of y ≡ [] = rw (z, spots_from) in
          let t : left_of x ≡ [] = rw (v, spots_from) in
          ap (λ (l : List Spot). given_after (given_to y) l c) f ∙ after_same (given_to x) (given_to y) g [] c j
          ∙ sym (ap (λ (l : List Spot). given_after (given_to x) l c) t)
      | no h ↦
          let f : left_of y ≡ left_of x =
          ap₂ (λ (n j : ℕ). spots_from y (n - j) j (field y BIT)) (posted_written x y e) a
          ∙ ap (spots_from y (entry_count x - field x CURSOR) (field x CURSOR)) b
          ∙ posted_spots x y e (entry_count x - field x CURSOR) (field x CURSOR) (field x BIT) (omega (arith, written_few x)) in
          ap (λ (l : List Spot). given_after (given_to y) l c) f ∙ after_same (given_to x) (given_to y) g (left_of x) c j
    ]
