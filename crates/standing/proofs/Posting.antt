-- Entries that are written are messages behind the queue, in number and order (queue_more, stream_number, step_queue, step_sent).
use Rattle.std.specs.Prelude.{◌≡◌, Bool, eqb}
use Rattle.std.proofs.Math.Path.{refl, sym, ap, ap₂, subst}
use Rattle.std.proofs.Common.{◌∙◌, eq-eqb, ne_eqb, lt-ltb}
use Rattle.std.proofs.Math.Bool.{true, false}
use mathlib.Core.List.{List, [], ◌∷◌, ◌++◌, map, append_assoc}
use Prim.Native.Nat.{ℕ, zero, suc, ◌+◌, ◌-◌, ◌%◌, ◌≤◌, ◌<◌, Fin}
use native.Mathlib.Omega.{arith}
use Rattle.std.proofs.Math.Decide.{ℕ_discrete}
use Rattle.std.proofs.Math.ListN.{length}
use Rattle.exchange.specs.Finite.{parts, upd, upd_same, upd_other}
use Rattle.exchange.specs.Protocol.{numbered, only, only_same, only_other}
use Rattle.rounds.specs.Task.{Task}
use Rattle.rounds.specs.Rounds.{Body}
use Rattle.store.specs.Fields.{field, PART, CURSOR, BIT}
use Rattle.store.specs.declared.Spot.{Spot}
use Rattle.store.specs.Message.{message_of}
use Rattle.store.specs.Fetch.{entry_count, code_at, value_at, receivers_at, bitb, spot_at}
use Rattle.standing.specs.Walk.{bits_from, spots_from, left_of, bump, given_after, stream, queue_of, given_to}
use Rattle.standing.proofs.Walk.{after_same}
use Rattle.standing.specs.Packed.{bodyb, entry_code, entry_value, packed}
use Rattle.standing.specs.Busy.{L, pack, Busy, part_low}
use Rattle.standing.specs.Posting.{Longer}

stream_append : (x : List ℕ) (o : ℕ → ℕ) (l v : List Spot) → stream x o (l ++ v) ≡ stream x o l ++ stream x (given_after o l) v
unfolding stream given_after
stream_append x o [] v = refl
stream_append x o (s ∷ l) v = ap (◌∷◌ (message_of (field x PART) (s.bit + 1) (o s.bit) (code_at x s.entry) (value_at x s.entry)))
    (stream_append x (bump o s.bit) l v)

spots_more : (x : List ℕ) (k n j b : ℕ) → spots_from x (suc k + n) j b ≡ spots_from x (suc k) j b ++ spots_from x n (j + suc k) 0
unfolding spots_from
spots_more x zero n j b =
    let z : j + 1 ≡ suc j = omega arith in
    let y : 1 + n ≡ suc n = omega arith in
    let e : spots_from x (1 + n) j b ≡ map (spot_at j) (bits_from (16 - b) (receivers_at x j) b)
    ++ spots_from x n (suc j) 0 = ap (λ (i : ℕ). spots_from x i j b) y in
    e ∙ ap (λ (i : ℕ). map (spot_at j) (bits_from (16 - b) (receivers_at x j) b) ++ spots_from x n i 0) (sym z)
    ∙ sym (append_assoc (map (spot_at j) (bits_from (16 - b) (receivers_at x j) b)) [] (spots_from x n (j + 1) 0))
spots_more x (suc k) n j b =
    let z : j + suc (suc k) ≡ suc j + suc k = omega arith in
    let y : suc (suc k) + n ≡ suc (suc k + n) = omega arith in
    let e : spots_from x (suc (suc k) + n) j b ≡ map (spot_at j) (bits_from (16 - b) (receivers_at x j) b)
    ++ spots_from x (suc k + n) (suc j) 0 = ap (λ (i : ℕ). spots_from x i j b) y in
    e ∙ ap (λ (v : List Spot). map (spot_at j) (bits_from (16 - b) (receivers_at x j) b) ++ v) (spots_more x k n (suc j) 0
    ∙ ap (λ (i : ℕ). spots_from x (suc k) (suc j) 0 ++ spots_from x n i 0) (sym z))
    ∙ sym (append_assoc (map (spot_at j) (bits_from (16 - b) (receivers_at x j) b)) (spots_from x (suc k) (suc j) 0)
    (spots_from x n (j + suc (suc k)) 0))

stream_nil : (x : List ℕ) (o : ℕ → ℕ) → stream x o [] ≡ []
unfolding stream
stream_nil x o = refl

after_nil : (o : ℕ → ℕ) → given_after o [] ≡ o
unfolding given_after
after_nil o = refl

-- places below a bound
Within : ℕ → List Spot → Type 0
Within n [] = Unit
Within n (s ∷ l) = (s.entry < n) × (s.bit < 16) × Within n l

Low : List ℕ → Type 0
Low [] = Unit
Low (c ∷ l) = (c < 16) × Low l

bits_low : (k m b : ℕ) → k ≤ 16 - b → Low (bits_from k m b)
unfolding bits_from Low
bits_low zero m b h = tt
bits_low (suc k) m b h = go (bitb m b) refl (bits_low k m (suc b) (omega arith))
  where
    go : (t : Bool) → bitb m b ≡ t → Low (bits_from k m (suc b)) → Low (bits_from (suc k) m b)
    go true e r = rw (e, bits_from) (omega arith, r)
    go false e r = rw (e, bits_from) r

within-map : (n j : ℕ) → j < n → (l : List ℕ) → Low l → (v : List Spot) → Within n v → Within n (map (spot_at j) l ++ v)
unfolding Within Low
within-map n j h [] t v i = i
within-map n j h (c ∷ l) t v i = (h, t.0, within-map n j h l t.1 v i)

within_spots : (x : List ℕ) (n k j b : ℕ) → j + k ≤ n → Within n (spots_from x k j b)
unfolding spots_from Within
within_spots x n zero j b h = tt
within_spots x n (suc k) j b h = within-map n j (omega arith) (bits_from (16 - b) (receivers_at x j) b)
    (bits_low (16 - b) (receivers_at x j) b (omega arith)) (spots_from x k (suc j) 0) (within_spots x n k (suc j) 0 (omega arith))

module _ (x y : List ℕ) (n : ℕ) (e : Longer x y n) where
  longer_spots : (k j b : ℕ) → j + k ≤ entry_count x → spots_from y k j b ≡ spots_from x k j b
  unfolding spots_from
  longer_spots zero j b h = refl
  longer_spots (suc k) j b h =
      ap₂ (λ (m : ℕ) (v : List Spot). map (spot_at j) (bits_from (16 - b) m b)
      ++ v) (e.receivers j (omega arith)) (longer_spots k (suc j) 0 (omega arith))

  bump_like : (o u : ℕ → ℕ) → ((c : ℕ) → c < 16 → u c ≡ o c) → (b c : ℕ) → c < 16 → bump u b c ≡ bump o b c
  unfolding bump
  bump_like o u h b c l = ap (λ (n : ℕ). elim (eqb c b) [ true ↦ (n + 1) % 65536 | false ↦ n ]) (h c l)

  longer_stream : (o u : ℕ → ℕ) → ((c : ℕ) → c < 16 → u c ≡ o c) → (l : List Spot) → Within (entry_count x) l → stream y u l ≡ stream x o l
  unfolding stream Within
  longer_stream o u h [] i = refl
  longer_stream o u h (s ∷ l) i =
      ap₂ ◌∷◌ (rw (e.part, h s.bit i.1, e.codes s.entry i.0, e.values s.entry i.0))
      (longer_stream (bump o s.bit) (bump u s.bit) (bump_like o u h s.bit) l i.2)

  left_more : (field x CURSOR < entry_count x) → left_of y ≡ left_of x ++ spots_from y n (entry_count x) 0
  unfolding left_of
  left_more h =
      let k = entry_count x - suc (field x CURSOR) in
      let z : entry_count y - field y CURSOR ≡ suc (entry_count x - suc (field x CURSOR)) + n = omega (arith, e.many, e.entry) in
      let v : entry_count x - field x CURSOR ≡ suc (entry_count x - suc (field x CURSOR)) = omega arith in
      let t : field x CURSOR + suc (entry_count x - suc (field x CURSOR)) ≡ entry_count x = omega arith in
      ap₂ (λ (i j : ℕ). spots_from y i j (field y BIT)) z e.entry
      ∙ ap (spots_from y (suc (entry_count x - suc (field x CURSOR)) + n) (field x CURSOR)) e.bit
      ∙ spots_more y (entry_count x - suc (field x CURSOR)) n (field x CURSOR) (field x BIT)
      ∙ ap₂ (λ (l : List Spot) (i : ℕ). l ++ spots_from y n i 0)
      (longer_spots (suc (entry_count x - suc (field x CURSOR))) (field x CURSOR) (field x BIT) (omega arith)
      ∙ ap (λ (i : ℕ). spots_from x i (field x CURSOR) (field x BIT)) (sym v)) t

  -- where all is given, the cursor stands at the end of the entries
  left_first : field x CURSOR ≡ entry_count x → field x BIT ≡ 0 → (left_of x ≡ []) × (left_of y ≡ spots_from y n (entry_count x) 0)
  unfolding left_of spots_from
  left_first h b =
      let z : entry_count y - field y CURSOR ≡ n = omega (arith, e.many, e.entry) in
      let v : entry_count x - field x CURSOR ≡ 0 = omega arith in (
        rw (v, spots_from),
        ap₂ (λ (i j : ℕ). spots_from y i j (field y BIT)) z (e.entry ∙ h)
            ∙ ap (spots_from y n (entry_count x)) (e.bit ∙ b),
      )

  left_all : (field x CURSOR ≤ entry_count x) → (field x CURSOR ≡ entry_count x → field x BIT ≡ 0)
      → left_of y ≡ left_of x ++ spots_from y n (entry_count x) 0
  left_all h b =
      elim (ℕ_discrete (field x CURSOR) (entry_count x)) [
        | yes i ↦
            let (a, c) = left_first i (b i) in
            c ∙ ap (λ (l : List Spot). l ++ spots_from y n (entry_count x) 0) (sym a)
        | no i ↦ left_more (omega arith)
      ]

  -- ENTRIES PUT BEHIND are messages put behind
  queue_more : (field x CURSOR ≤ entry_count x) → (field x CURSOR ≡ entry_count x → field x BIT ≡ 0) → queue_of y ≡ queue_of x
      ++ stream y (given_after (given_to y) (left_of x)) (spots_from y n (entry_count x) 0)
  unfolding queue_of left_of
  queue_more h b =
      elim (ℕ_discrete (field x CURSOR) (entry_count x)) [
        | yes i ↦
            let (a, c) = left_first i (b i) in
            let f : queue_of x ≡ [] = ap (stream x (given_to x)) a ∙ empty x (given_to x) in
            let g : given_after (given_to y) (left_of x) ≡ given_to y = ap (given_after (given_to y)) a ∙ empty_after (given_to y) in
            ap (stream y (given_to y)) c ∙ ap₂ (λ (l : List (List ℕ)) (o : ℕ → ℕ). l
            ++ stream y o (spots_from y n (entry_count x) 0)) (sym f) (sym g)
        | no i ↦
            ap (stream y (given_to y)) (left_more (omega arith)) ∙ stream_append y (given_to y) (left_of x) (spots_from y n (entry_count x) 0)
            ∙ ap (λ (l : List (List ℕ)). l ++ stream y (given_after (given_to y) (left_of x)) (spots_from y n (entry_count x) 0))
            (longer_stream (given_to x) (given_to y) e.counts (left_of x) (left_within i))
      ]
    where
      empty : (x : List ℕ) (o : ℕ → ℕ) → stream x o [] ≡ []
      empty x o = stream_nil x o

      empty_after : (o : ℕ → ℕ) → given_after o [] ≡ o
      empty_after o = after_nil o

      left_within : (field x CURSOR ≡ entry_count x → ⊥) → Within (entry_count x) (left_of x)
      left_within i = within_spots x (entry_count x) (entry_count x - field x CURSOR) (field x CURSOR) (field x BIT) (omega (arith, i))

fits : (c d : ℕ) → suc d < 65536 → c ≡ d → (c + 1) % 65536 ≡ suc d
fits c d h e = omega arith

-- ENTRIES ARE THE PARCEL: places whose entries hold the bodies of a list with its receivers are that list's messages
module _ (P : ℕ) (J : Task (Fin P)) (p : Fin P) (y : List ℕ) (own : field y PART ≡ suc p.0) where
  abbrev Matches : List (Fin P × Body) → List Spot → Type 0
  Matches = Rattle.standing.specs.Posting.Matches P J p y own

  abbrev Agree : (ℕ → ℕ) → (Fin P → ℕ) → Type 0
  Agree o u = (q : Fin P) → o q.0 ≡ u q

  abbrev CountRoom : (Fin P → ℕ) → List (Fin P × Body) → Type 0
  CountRoom = Rattle.standing.specs.Posting.CountRoom P J p y own

  module _ (o : ℕ → ℕ) (u : Fin P → ℕ) (a : Agree o u) (t : Fin P) (b : Body) (l : List (Fin P × Body)) (h : CountRoom u ((t, b) ∷ l)) where
    first_room : suc (u t) + length (only (parts P) t l) < 65536
    first_room = omega (arith, h t, ap length (only_same (parts P) t b l))

    agree_on : Agree (bump o t.0) (upd (parts P) u t (suc (u t)))
    unfolding bump
    agree_on q =
        elim ((parts P).same? q t) [
          | yes e ↦
              let c : bump o t.0 q.0 ≡ (o q.0 + 1) % 65536 = rw (eq-eqb q.0 t.0 (ap (λ (z : Fin P). z.0) e), bump) in
              let d : upd (parts P) u t (suc (u t)) q ≡ suc (u t) = ap (upd (parts P) u t (suc (u t))) e
              ∙ upd_same (parts P) u t (suc (u t)) in
              c ∙ fits (o q.0) (u t) (omega (arith, first_room)) (a q ∙ ap u e) ∙ sym d
          | no n ↦
              let c : bump o t.0 q.0 ≡ o q.0 = rw (ne_eqb q.0 t.0 (λ z. n (native.Mathlib.Fin.val_path z)), bump) in
              c ∙ a q ∙ sym (upd_other (parts P) u t (suc (u t)) q n)
        ]

    room_on : CountRoom (upd (parts P) u t (suc (u t))) l
    room_on q =
        elim ((parts P).same? q t) [
          | yes e ↦ subst (λ (z : Fin P). upd (parts P) u t (suc (u t)) z + length (only (parts P) z l) < 65536) (sym e)
              (omega (arith, first_room, upd_same (parts P) u t (suc (u t))))
          | no n ↦ omega (arith, h q, upd_other (parts P) u t (suc (u t)) q n, ap length (only_other (parts P) q t b l n))
        ]

    first_is : (s : Spot) → s.bit ≡ t.0 → code_at y s.entry ≡ entry_code b → value_at y s.entry ≡ entry_value b → bodyb b ≡ true
        → message_of (field y PART) (s.bit + 1) (o s.bit) (code_at y s.entry) (value_at y s.entry) ≡ pack P J p t (u t) b
    unfolding packed
    first_is s i c d e =
        let z : s.bit + 1 ≡ suc t.0 = omega (arith, i) in
        let v : o s.bit ≡ u t = ap o i ∙ a t in
        let w : pack P J p t (u t) b ≡ message_of (suc p.0) (suc t.0) (u t) (entry_code b) (entry_value b) =
        rw (lt-ltb (u t) 65536 (omega (arith, first_room)), e, packed) in
        rw (own, z, v, c, d) (sym w)

  stream_number : (l : List (Fin P × Body)) (w : List Spot) → Matches l w → (o : ℕ → ℕ) (u : Fin P → ℕ) → Agree o u → CountRoom u l
      → stream y o w ≡ numbered (parts P) (pack P J) p u l
  unfolding stream numbered Rattle.standing.specs.Posting.Matches
  stream_number [] [] m o u a h = refl
  stream_number [] (s ∷ w) m o u a h = absurd m
  stream_number (t ∷ l) [] m o u a h = absurd m
  stream_number ((t, b) ∷ l) (s ∷ w) (i, c, d, e, m) o u a h =
      ap₂ ◌∷◌ (first_is o u a t b l h s i c d e)
      (ap (λ (k : ℕ). stream y (bump o k) w) i ∙ stream_number l w m (bump o t.0) (upd (parts P) u t (suc (u t)))
      (agree_on o u a t b l h) (room_on o u a t b l h))

  -- A ROUND'S ENTRIES, put behind those of a store that stands at a place, are the queue of the next place
  pub step_queue : (l : L P J) (x : List ℕ) (n : ℕ) → Busy P J p l x → Longer x y n → (t : List (Fin P × Body))
      → Matches t (spots_from y n (entry_count x) 0) → CountRoom l.sent t
      → queue_of y ≡ l.queue ++ numbered (parts P) (pack P J) p l.sent t
  step_queue l x n v e t m h =
      queue_more x y n e v.cursor.0 v.cursor.1
      ∙ ap₂ ◌++◌ v.queue (stream_number t (spots_from y n (entry_count x) 0) m (given_after (given_to y) (left_of x)) l.sent
      (λ q. after_same (given_to x) (given_to y) e.counts (left_of x) q.0 (part_low P J p l x v q) ∙ v.sent q) h)

  after_append : (o : ℕ → ℕ) (l v : List Spot) → given_after o (l ++ v) ≡ given_after (given_after o l) v
  unfolding given_after
  after_append o [] v = refl
  after_append o (s ∷ l) v = after_append (bump o s.bit) l v

  number_after : (l : List (Fin P × Body)) (w : List Spot) → Matches l w → (o : ℕ → ℕ) (u : Fin P → ℕ) → Agree o u → CountRoom u l
      → (q : Fin P) → given_after o w q.0 ≡ u q + length (only (parts P) q l)
  unfolding given_after Rattle.standing.specs.Posting.Matches only
  number_after [] [] m o u a h q = a q ∙ omega arith
  number_after [] (s ∷ w) m o u a h q = absurd m
  number_after (t ∷ l) [] m o u a h q = absurd m
  number_after ((t, b) ∷ l) (s ∷ w) (i, c, d, e, m) o u a h q =
      ap (λ (k : ℕ). given_after (bump o k) w q.0) i
      ∙ number_after l w m (bump o t.0) (upd (parts P) u t (suc (u t))) (agree_on o u a t b l h) (room_on o u a t b l h) q
      ∙ elim ((parts P).same? q t) [
        | yes e ↦ subst (λ (z : Fin P). upd (parts P) u t (suc (u t)) z + length (only (parts P) z l)
            ≡ u z + length (only (parts P) z ((t, b) ∷ l)))
            (sym e) (omega (arith, upd_same (parts P) u t (suc (u t)), ap length (only_same (parts P) t b l)))
        | no n ↦ omega (arith, upd_other (parts P) u t (suc (u t)) q n, ap length (only_other (parts P) q t b l n))
      ]

  pub step_sent : (l : L P J) (x : List ℕ) (n : ℕ) → Busy P J p l x → Longer x y n → (t : List (Fin P × Body))
      → Matches t (spots_from y n (entry_count x) 0) → CountRoom l.sent t
      → (q : Fin P) → given_after (given_to y) (left_of y) q.0 ≡ l.sent q + length (only (parts P) q t)
  step_sent l x n v e t m h q =
      ap (λ (w : List Spot). given_after (given_to y) w q.0) (left_all x y n e v.cursor.0 v.cursor.1)
      ∙ ap (λ (f : ℕ → ℕ). f q.0) (after_append (given_to y) (left_of x) (spots_from y n (entry_count x) 0))
      ∙ number_after t (spots_from y n (entry_count x) 0) m (given_after (given_to y) (left_of x)) l.sent
      (λ q. after_same (given_to x) (given_to y) e.counts (left_of x) q.0 (part_low P J p l x v q) ∙ v.sent q) h q
