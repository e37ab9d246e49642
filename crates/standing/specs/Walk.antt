-- The walk of a fetch (rule 15.8) is the queue: the messages that are left, in order, and a fetch gives the first of them.
--   bits_from k m b       the bits set from b on
--   spots_from x k j b    entries and receivers from a place on
--   left_of x             those that are left
--   stream x o l         their bytes, where o counts the messages given for each receiver
--   queue_of x            the messages that are left, as bytes
-- Laws: none_next, fetch_empty; and in proofs/Walk some_next (the walk stops at the first that is left), left_passed (behind it the rest is
-- left), fetch_first, fetch_rest.
use Rattle.std.specs.Prelude.{◌≡◌, ◌≢◌, Bool, eqb, ltb, length, set}
use Rattle.std.proofs.Math.Path.{refl, sym, ap, ap₂}
use Rattle.std.proofs.Common.{◌∙◌, lt-ltb, le-ltb}
use Rattle.std.proofs.Math.Bool.{true, false}
use mathlib.Core.List.{List, [], ◌∷◌, ◌++◌, map}
use Prim.Native.Nat.{ℕ, zero, suc, ◌+◌, ◌-◌, ◌%◌, ◌≤◌, ◌<◌}
use native.Mathlib.Omega.{arith}
use Rattle.std.proofs.Math.ListN.{length-set}
use Rattle.std.proofs.Math.Seq.{get_or-set_same, get_or-set_other}
use Rattle.store.specs.Fields.{field, full, PART, CURSOR, BIT, WRITTEN, GIVEN, CODE, PLACE_HEAD, most_entries}
use Rattle.store.specs.Message.{message_of}
use Rattle.store.specs.declared.Spot.{Spot}
use Rattle.store.specs.Fetch.{entry_count, code_at, value_at, receivers_at, bitb, bit_from, spot_at, seek_from, next_to_give, given, passed_by}

unfoldable pub bits_from : ℕ → ℕ → ℕ → List ℕ
unfolding bitb
bits_from zero m b = []
bits_from (suc k) m b = elim (bitb m b) [ true ↦ b ∷ bits_from k m (suc b) | false ↦ bits_from k m (suc b) ]

unfoldable pub spots_from : List ℕ → ℕ → ℕ → ℕ → List Spot
unfolding bits_from
spots_from x zero j b = []
spots_from x (suc k) j b = map (spot_at j) (bits_from (16 - b) (receivers_at x j) b) ++ spots_from x k (suc j) 0

unfoldable pub left_of : List ℕ → List Spot
unfolding spots_from entry_count
left_of x = spots_from x (entry_count x - field x CURSOR) (field x CURSOR) (field x BIT)

-- the first bit
record Bits (k m b : ℕ) : Type 0 where
  pub none : bits_from k m b ≡ [] → bit_from k m b ≡ 16
  pub first : (c : ℕ) (w : List ℕ) → bits_from k m b ≡ c ∷ w → (bit_from k m b ≡ c) × (c < b + k) × (b ≤ c)
      × (bits_from (b + k - suc c) m (suc c) ≡ w)

pub cons_head : {A : Type 0} {a b : A} {v w : List A} → a ∷ v ≡ b ∷ w → a ≡ b
cons_head e = cc

pub cons_tail : {A : Type 0} {a b : A} {v w : List A} → a ∷ v ≡ b ∷ w → v ≡ w
cons_tail e = cc

pub no_cons : {A B : Type 0} {a : A} {v : List A} → a ∷ v ≡ [] → B
no_cons {a = a} {v = v} e = let z : suc (length v) ≡ 0 = ap length e in absurd (omega arith)

bits_first : (k m b : ℕ) → Bits k m b
unfolding bits_from bit_from
bits_first zero m b = record { none = λ e. refl; first = λ c w e. no_cons (sym e) }
bits_first (suc k) m b = go (bitb m b) refl (bits_first k m (suc b))
  where
    go : (t : Bool) → bitb m b ≡ t → Bits k m (suc b) → Bits (suc k) m b
    go true e r =
        let u : bits_from (suc k) m b ≡ b ∷ bits_from k m (suc b) = rw (e, bits_from) in
        let v : bit_from (suc k) m b ≡ b = rw (e, bit_from) in
        record {
          none = λ i. no_cons (sym u ∙ i);
          first = λ c w i.
              let h : b ≡ c = cons_head (sym u ∙ i) in
              let z : b + suc k - suc c ≡ k = omega arith in
              (v ∙ h, omega arith, omega arith, ap₂ (λ (n d : ℕ). bits_from n m (suc d)) z (sym h) ∙ cons_tail (sym u ∙ i));
        }
    go false e r =
        let u : bits_from (suc k) m b ≡ bits_from k m (suc b) = rw (e, bits_from) in
        let v : bit_from (suc k) m b ≡ bit_from k m (suc b) = rw (e, bit_from) in
        record {
          none = λ i. v ∙ r.none (sym u ∙ i);
          first = λ c w i.
              let (p, q, o, s) = r.first c w (sym u ∙ i) in
              let z : b + suc k - suc c ≡ suc b + k - suc c = omega arith in
              (v ∙ p, omega arith, omega arith, ap (λ (n : ℕ). bits_from n m (suc c)) z ∙ s);
        }

-- the first place
pub record Spots (x : List ℕ) (k j b : ℕ) : Type 0 where
  pub none : spots_from x k j b ≡ [] → (seek_from x k j b).bit ≡ 16
  pub first : (s : Spot) (w : List Spot) → spots_from x k j b ≡ s ∷ w
      → (seek_from x k j b ≡ s) × (s.bit < 16) × (s.entry < j + k) × (spots_from x (j + k - s.entry) s.entry (suc s.bit) ≡ w)

pub spots : (x : List ℕ) (k j b : ℕ) → Spots x k j b
unfolding spots_from seek_from
spots x zero j b = record { none = λ e. refl; first = λ s w e. no_cons (sym e) }
spots x (suc k) j b = go (bits_from (16 - b) (receivers_at x j) b) refl (bits_first (16 - b) (receivers_at x j) b) (spots x k (suc j) 0)
  where
    m : ℕ
    m = receivers_at x j

    go : (l : List ℕ) → bits_from (16 - b) (receivers_at x j) b ≡ l → Bits (16 - b) (receivers_at x j) b → Spots x k (suc j) 0
        → Spots x (suc k) j b
    go [] e t r =
        let u : spots_from x (suc k) j b ≡ spots_from x k (suc j) 0 = rw (spots_from, e) in
        let f : bit_from (16 - b) (receivers_at x j) b ≡ 16 = t.none e in
        let v : seek_from x (suc k) j b ≡ seek_from x k (suc j) 0 =
        rw (le-ltb (bit_from (16 - b) (receivers_at x j) b) 16 (omega (arith, f)), seek_from) in
        record {
          none = λ i. ap (λ (s : Spot). s.bit) v ∙ r.none (sym u ∙ i);
          first = λ s w i.
              let (p, q, o, n) = r.first s w (sym u ∙ i) in
              let z : j + suc k - s.entry ≡ suc j + k - s.entry = omega arith in
              (v ∙ p, q, omega arith, ap (λ (y : ℕ). spots_from x y s.entry (suc s.bit)) z ∙ n);
        }
    go (c ∷ l) e t r =
        let (f, g, h, n) = t.first c l e in
        let u : spots_from x (suc k) j b ≡ spot_at j c ∷ (map (spot_at j) l ++ spots_from x k (suc j) 0) = rw (spots_from, e) in
        let v : seek_from x (suc k) j b ≡ spot_at j c =
        rw (lt-ltb (bit_from (16 - b) (receivers_at x j) b) 16 (omega (arith, f, g)), seek_from) (ap (spot_at j) f) in
        record {
          none = λ i. no_cons (sym u ∙ i);
          first = λ s w i.
              let a : spot_at j c ≡ s = cons_head (sym u ∙ i) in
              let d : j ≡ s.entry = ap (λ (s : Spot). s.entry) a in
              let y : c ≡ s.bit = ap (λ (s : Spot). s.bit) a in
              let z : j + suc k - j ≡ suc k = omega arith in
              let q : b + (16 - b) - suc c ≡ 16 - suc c = omega (arith, g, h) in
              let rest : spots_from x (j + suc k - j) j (suc c) ≡ map (spot_at j) l ++ spots_from x k (suc j) 0 =
              ap (λ (y : ℕ). spots_from x y j (suc c)) z
              ∙ ap (λ (l : List ℕ). map (spot_at j) l
              ++ spots_from x k (suc j) 0) (ap (λ (y : ℕ). bits_from y (receivers_at x j) (suc c)) (sym q) ∙ n) in (
                v ∙ a,
                omega (arith, g, h, y),
                omega (arith, d),
                ap₂ (λ (e f : ℕ). spots_from x (j + suc k - e) e (suc f)) (sym d) (sym y)
                    ∙ rest ∙ cons_tail (sym u ∙ i),
              );
        }

-- a fetch moves the cursor and one counter, and nothing else
module _ (x : List ℕ) (s : Spot) where
  pub passed_else : (i : ℕ) → i ≢ CURSOR → i ≢ BIT → i ≢ GIVEN + s.bit → field (passed_by x s) i ≡ field x i
  unfolding passed_by
  passed_else i a b c =
      get_or-set_other (set (set x CURSOR s.entry) BIT (s.bit + 1)) (GIVEN + s.bit) i ((field x (GIVEN + s.bit) + 1) % 65536) 0 c
      ∙ get_or-set_other (set x CURSOR s.entry) BIT i (s.bit + 1) 0 b ∙ get_or-set_other x CURSOR i s.entry 0 a

  pub passed_length : length (passed_by x s) ≡ length x
  unfolding passed_by
  passed_length =
      length-set (set (set x CURSOR s.entry) BIT (s.bit + 1)) (GIVEN + s.bit) ((field x (GIVEN + s.bit) + 1) % 65536)
      ∙ length-set (set x CURSOR s.entry) BIT (s.bit + 1) ∙ length-set x CURSOR s.entry

  module _ (h : full ≤ length x) (g : s.bit < 16) where
    pub passed_entry : field (passed_by x s) CURSOR ≡ s.entry
    unfolding passed_by
    passed_entry =
        get_or-set_other (set (set x CURSOR s.entry) BIT (s.bit + 1)) (GIVEN + s.bit) CURSOR ((field x (GIVEN + s.bit) + 1) % 65536) 0
        (λ z. absurd (omega (arith, z)))
        ∙ get_or-set_other (set x CURSOR s.entry) BIT CURSOR (s.bit + 1) 0 (λ z. absurd (omega (arith, z)))
        ∙ get_or-set_same x CURSOR s.entry 0 (omega arith)

-- what is written is the same in two stores
pub record Posted (x y : List ℕ) : Type 0 where
  pub part : field y PART ≡ field x PART
  pub many : field y WRITTEN ≡ field x WRITTEN
  pub rest : (i : ℕ) → CODE ≤ i → i < PLACE_HEAD → field y i ≡ field x i

pub posted_passed : (x : List ℕ) (s : Spot) → s.bit < 16 → Posted x (passed_by x s)
posted_passed x s g = record {
  part = passed_else x s 1 (λ z. absurd (omega (arith, z))) (λ z. absurd (omega (arith, z))) (λ z. absurd (omega (arith, z)));
  many = passed_else x s 14 (λ z. absurd (omega (arith, z))) (λ z. absurd (omega (arith, z))) (λ z. absurd (omega (arith, z)));
  rest = λ i h l. passed_else x s i (λ z. absurd (omega (arith, z))) (λ z. absurd (omega (arith, z))) (λ z. absurd (omega (arith, z)));
}

module _ (x y : List ℕ) (e : Posted x y) where
  pub posted_written : entry_count y ≡ entry_count x
  unfolding entry_count
  posted_written = ap (λ (n : ℕ). elim (ltb n most_entries) [ true ↦ n | false ↦ most_entries ]) e.many

-- a counter for each receiver
unfoldable pub bump : (ℕ → ℕ) → ℕ → ℕ → ℕ
bump o b c = elim (eqb c b) [ true ↦ (o c + 1) % 65536 | false ↦ o c ]

-- the counters behind a list of places
unfoldable pub given_after : (ℕ → ℕ) → List Spot → ℕ → ℕ
unfolding bump
given_after o [] = o
given_after o (s ∷ l) = given_after (bump o s.bit) l

unfoldable pub stream : List ℕ → (ℕ → ℕ) → List Spot → List (List ℕ)
unfolding message_of bump
stream x o [] = []
stream x o (s ∷ l) = message_of (field x PART) (s.bit + 1) (o s.bit) (code_at x s.entry) (value_at x s.entry)
    ∷ stream x (bump o s.bit) l

abbrev pub given_to : List ℕ → ℕ → ℕ
given_to x b = field x (GIVEN + b)

unfoldable pub queue_of : List ℕ → List (List ℕ)
unfolding stream left_of
queue_of x = stream x (given_to x) (left_of x)

module _ (x : List ℕ) (h : full ≤ length x) where
  abbrev k : ℕ
  k = entry_count x - field x CURSOR

  -- NONE TO SEND exactly when all that is written is given
  none_next : left_of x ≡ [] → (next_to_give x).bit ≡ 16
  unfolding left_of next_to_give
  none_next e = (spots x k (field x CURSOR) (field x BIT)).none e

  module _ (s : Spot) (w : List Spot) (e : left_of x ≡ s ∷ w) where
    -- THE FIRST OF THE QUEUE is given, and the queue is then the rest
    pub first_of : queue_of x ≡ given x s ∷ stream x (bump (given_to x) s.bit) w
    unfolding queue_of given stream
    first_of = ap (stream x (given_to x)) e

  pub fetch_empty : queue_of x ≡ [] → (next_to_give x).bit ≡ 16
  unfolding queue_of
  fetch_empty e = go (left_of x) refl
    where
      go : (l : List Spot) → left_of x ≡ l → (next_to_give x).bit ≡ 16
      go [] i = none_next i
      go (s ∷ w) i = no_cons (sym (first_of s w i) ∙ e)
