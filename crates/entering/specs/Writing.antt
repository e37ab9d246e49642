-- Entries that a part writes one behind the other are messages in order.
--   Line               an entry to be written: its body, the parts that it is for as a test, and these as bits
--   Sent p t           the bits are the test's, and the body has room where there is a receiver
--   SameElse x y       y differs from x in its entries and places alone
--   WroteLines p y z ts  z is y with the lines ts written
-- Laws: wrote_none, wrote_cons, wrote_each (a loop that writes a line for each number).
use Rattle.std.specs.Prelude.{◌≡◌, ◌⊎◌, ◌≢◌, Bool, true, set}
use Rattle.std.proofs.Math.Path.{refl, sym, ap, subst}
use Rattle.std.proofs.Common.{◌∙◌, ap₂, inl, inr}
use Rattle.std.proofs.Math.Bool.{false}
use mathlib.Core.List.{List, [], ◌∷◌, ◌++◌, map, flat_map}
use Prim.Native.Nat.{ℕ, zero, suc, ◌+◌, ◌≤◌, ◌<◌, Fin}
use Rattle.std.proofs.Math.Decide.{ℕ_discrete, dec_lt}
use native.Mathlib.Omega.{arith}
use Rattle.std.proofs.Math.ListN.{length, length-set}
use Rattle.std.proofs.Math.Seq.{get_or-set_same, get_or-set_other}
use borrow.Author.Tests.{eq-eqb, ne_eqb, lt-ltb, le-ltb}
use Rattle.base.specs.Limits.{most_parts}
use Rattle.base.specs.Lists.{filterb}
use Rattle.base.specs.Range.{range}
use Rattle.exchange.specs.Finite.{parts}
use Rattle.rounds.specs.Task.{Task}
use Rattle.rounds.specs.Rounds.{Body}
use Rattle.rounds.specs.Order.{to_all}
use Rattle.rounds.specs.Upward.{ups}
use Rattle.store.specs.Fields.{field, full, PART, CURSOR, BIT, WRITTEN, GIVEN, CODE, VALUE, RECEIVERS, PLACE_HEAD, most_entries}
use Rattle.store.specs.Fetch.{entry_count, code_at, value_at, receivers_at, bitb, spot_at}
use Rattle.standing.specs.Walk.{bits_from, spots_from}
use Rattle.standing.specs.Packed.{entry_code, entry_value, bodyb}
use Rattle.standing.specs.Posting.{Longer, Matches}
use Rattle.standing.specs.Receivers.{matches_all}
use Rattle.turns.specs.Loops.{each_from}
use Rattle.turns.specs.Post.{entered, posted}
use Rattle.entering.specs.Bits.{bit_none}

pub record Line (P : ℕ) : Type 0 where
  pub body : Body
  pub test : Fin P → Bool
  pub mask : ℕ

pub record Sent (P : ℕ) (t : Line P) : Type 0 where
  pub room : t.mask ≢ 0 → bodyb t.body ≡ true
  pub bits : (q : Fin P) → bitb t.mask q.0 ≡ t.test q
  pub beyond : (i : ℕ) → P ≤ i → bitb t.mask i ≡ false

-- what writing leaves
pub record SameElse (x y : List ℕ) : Type 0 where
  pub size : length y ≡ length x
  pub else : (i : ℕ) → i ≢ WRITTEN → (i < CODE) ⊎ (PLACE_HEAD ≤ i) → field y i ≡ field x i

pub same_self : (x : List ℕ) → SameElse x x
same_self x = record { size = refl; else = λ i h l. refl }

same_on : (x y z : List ℕ) → SameElse x y → SameElse y z → SameElse x z
same_on x y z a b = record { size = b.size ∙ a.size; else = λ i h l. b.else i h l ∙ a.else i h l }

count_is : (y : List ℕ) → field y WRITTEN ≤ most_entries → entry_count y ≡ field y WRITTEN
unfolding entry_count
count_is y h = elim (dec_lt (field y WRITTEN) most_entries) [
  | yes l ↦ rw (lt-ltb (field y WRITTEN) most_entries l, entry_count)
  | no l ↦
      let e : entry_count y ≡ most_entries = rw (le-ltb (field y WRITTEN) most_entries (omega arith), entry_count) in
      e ∙ omega arith
]

-- one entry
module _ (y : List ℕ) (k v m : ℕ) (long : full ≤ length y) (room : field y WRITTEN < most_entries) where
  abbrev w : ℕ
  w = field y WRITTEN

  abbrev a : List ℕ
  a = set y (CODE + w) k

  abbrev b : List ℕ
  b = set a (VALUE + w) v

  abbrev c : List ℕ
  c = set b (RECEIVERS + w) m

  entered_size : length (entered y k v m) ≡ length y
  unfolding entered
  entered_size = length-set c WRITTEN (w + 1) ∙ length-set b (RECEIVERS + w) m ∙ length-set a (VALUE + w) v ∙ length-set y (CODE + w) k

  entered_else : (i : ℕ) → i ≢ WRITTEN → i ≢ CODE + w → i ≢ VALUE + w → i ≢ RECEIVERS + w → field (entered y k v m) i ≡ field y i
  unfolding entered
  entered_else i e f g h =
      get_or-set_other c WRITTEN i (w + 1) 0 e ∙ get_or-set_other b (RECEIVERS + w) i m 0 h ∙ get_or-set_other a (VALUE + w) i v 0 g
      ∙ get_or-set_other y (CODE + w) i k 0 f

  entered_many : field (entered y k v m) WRITTEN ≡ w + 1
  unfolding entered
  entered_many =
      get_or-set_same c WRITTEN (w + 1) 0
      (omega (arith, length-set b (RECEIVERS + w) m, length-set a (VALUE + w) v, length-set y (CODE + w) k))

  entered_code : code_at (entered y k v m) w ≡ k
  unfolding entered
  entered_code =
      get_or-set_other c WRITTEN (CODE + w) (w + 1) 0 (λ z. absurd (omega (arith, z)))
      ∙ get_or-set_other b (RECEIVERS + w) (CODE + w) m 0 (λ z. absurd (omega (arith, z)))
      ∙ get_or-set_other a (VALUE + w) (CODE + w) v 0 (λ z. absurd (omega (arith, z)))
      ∙ get_or-set_same y (CODE + w) k 0 (omega arith)

  entered_value : value_at (entered y k v m) w ≡ v
  unfolding entered
  entered_value =
      get_or-set_other c WRITTEN (VALUE + w) (w + 1) 0 (λ z. absurd (omega (arith, z)))
      ∙ get_or-set_other b (RECEIVERS + w) (VALUE + w) m 0 (λ z. absurd (omega (arith, z)))
      ∙ get_or-set_same a (VALUE + w) v 0 (omega (arith, length-set y (CODE + w) k))

  entered_mask : receivers_at (entered y k v m) w ≡ m
  unfolding entered
  entered_mask =
      get_or-set_other c WRITTEN (RECEIVERS + w) (w + 1) 0 (λ z. absurd (omega (arith, z)))
      ∙ get_or-set_same b (RECEIVERS + w) m 0 (omega (arith, length-set a (VALUE + w) v, length-set y (CODE + w) k))

  entered_same : SameElse y (entered y k v m)
  entered_same = record {
    size = entered_size;
    else = λ i h l. entered_else i h (apart i l CODE (omega arith) (omega arith)) (apart i l VALUE (omega arith) (omega arith))
        (apart i l RECEIVERS (omega arith) (omega arith));
  }
    where
      apart : (i : ℕ) → (i < CODE) ⊎ (PLACE_HEAD ≤ i) → (o : ℕ) → CODE ≤ o → o ≤ RECEIVERS → i ≢ o + w
      apart i (inl h) o p q z = omega (arith, z)
      apart i (inr h) o p q z = omega (arith, z)

  entered_longer : Longer y (entered y k v m) 1
  entered_longer =
      let n = count_is y (omega arith) in record {
        part = entered_else PART (λ z. absurd (omega (arith, z))) (λ z. absurd (omega (arith, z))) (λ z. absurd (omega (arith, z)))
            (λ z. absurd (omega (arith, z)));
        entry = entered_else CURSOR (λ z. absurd (omega (arith, z))) (λ z. absurd (omega (arith, z))) (λ z. absurd (omega (arith, z)))
            (λ z. absurd (omega (arith, z)));
        bit = entered_else BIT (λ z. absurd (omega (arith, z))) (λ z. absurd (omega (arith, z))) (λ z. absurd (omega (arith, z)))
            (λ z. absurd (omega (arith, z)));
        counts = λ b h. entered_else (GIVEN + b) (λ z. absurd (omega (arith, z))) (λ z. absurd (omega (arith, z)))
            (λ z. absurd (omega (arith, z))) (λ z. absurd (omega (arith, z)));
        many = count_is (entered y k v m) (omega (arith, entered_many)) ∙ entered_many ∙ ap (λ (i : ℕ). i + 1) (sym n);
        codes = λ j h. entered_else (CODE + j) (λ z. absurd (omega (arith, z))) (λ z. absurd (omega (arith, z, n)))
            (λ z. absurd (omega (arith, z, n))) (λ z. absurd (omega (arith, z, n)));
        values = λ j h. entered_else (VALUE + j) (λ z. absurd (omega (arith, z))) (λ z. absurd (omega (arith, z, n)))
            (λ z. absurd (omega (arith, z, n))) (λ z. absurd (omega (arith, z, n)));
        receivers = λ j h. entered_else (RECEIVERS + j) (λ z. absurd (omega (arith, z))) (λ z. absurd (omega (arith, z, n)))
            (λ z. absurd (omega (arith, z, n))) (λ z. absurd (omega (arith, z, n)));
      }

longer_self : (x : List ℕ) → Longer x x 0
longer_self x = record {
  part = refl;
  entry = refl;
  bit = refl;
  counts = λ b h. refl;
  many = omega arith;
  codes = λ j h. refl;
  values = λ j h. refl;
  receivers = λ j h. refl;
}

pub longer_on : (x y z : List ℕ) (m n : ℕ) → Longer x y m → Longer y z n → Longer x z (m + n)
longer_on x y z m n a b =
    let e = a.many in record {
      part = b.part ∙ a.part;
      entry = b.entry ∙ a.entry;
      bit = b.bit ∙ a.bit;
      counts = λ c h. b.counts c h ∙ a.counts c h;
      many = omega (arith, e, b.many);
      codes = λ j h. b.codes j (omega (arith, e)) ∙ a.codes j h;
      values = λ j h. b.values j (omega (arith, e)) ∙ a.values j h;
      receivers = λ j h. b.receivers j (omega (arith, e)) ∙ a.receivers j h;
    }

spots_first : (z : List ℕ) (n j i m c : ℕ) → j ≡ i → receivers_at z i ≡ m → suc j ≡ c
    → spots_from z (suc n) j 0 ≡ map (spot_at i) (bits_from 16 m 0) ++ spots_from z n c 0
unfolding spots_from
spots_first z n j i m c a b d =
    ap₂ (λ (i c : ℕ). map (spot_at i) (bits_from 16 (receivers_at z i) 0) ++ spots_from z n c 0) a d
    ∙ ap (λ (k : ℕ). map (spot_at i) (bits_from 16 k 0) ++ spots_from z n c 0) b

module _ (P : ℕ) (parts_few : P ≤ most_parts) (J : Task (Fin P)) (p : Fin P) where
  unfoldable pub orders_of : List (Line P) → List (Fin P × Body)
  unfolding flat_map to_all
  orders_of ts = flat_map (λ t. to_all (parts P) J (ups P) t.test t.body) ts

  abbrev pub post_line : List ℕ → Line P → List ℕ
  post_line y t = posted y (entry_code t.body) (entry_value t.body) t.mask

  pub record WroteLines (y z : List ℕ) (ts : List (Line P)) : Type 0 where
    pub many : ℕ
    pub few : many ≤ length ts
    pub longer : Longer y z many
    pub same : SameElse y z
    pub written : field z WRITTEN ≡ field y WRITTEN + many
    pub matches : (own : field z PART ≡ suc p.0) → Matches P J p z own (orders_of ts) (spots_from z many (entry_count y) 0)

  pub wrote_none : (y : List ℕ) → WroteLines y y []
  unfolding orders_of Matches spots_from
  wrote_none y = record {
    many = 0;
    few = omega arith;
    longer = longer_self y;
    same = same_self y;
    written = omega arith;
    matches = λ own. tt;
  }

  to_none : (t : Line P) → Sent P t → t.mask ≡ 0 → to_all (parts P) J (ups P) t.test t.body ≡ []
  unfolding to_all filterb
  to_none t s e = ap (map (λ q. (q, t.body))) (none (ups P))
    where
      none : (l : List (Fin P)) → filterb t.test l ≡ []
      none [] = refl
      none (q ∷ l) =
          let f : t.test q ≡ false = sym (s.bits q) ∙ ap (λ (m : ℕ). bitb m q.0) e ∙ bit_none q.0 in
          rw (f, filterb) (none l)

  posted_none : (y : List ℕ) (t : Line P) → t.mask ≡ 0 → post_line y t ≡ y
  unfolding posted
  posted_none y t e = rw (eq-eqb t.mask 0 e, posted)

  posted_some : (y : List ℕ) (t : Line P) → t.mask ≢ 0 → field y WRITTEN < most_entries
      → post_line y t ≡ entered y (entry_code t.body) (entry_value t.body) t.mask
  unfolding posted
  posted_some y t e h = rw (ne_eqb t.mask 0 e, lt-ltb (field y WRITTEN) most_entries h, posted)

  pub posted_same : (y : List ℕ) (t : Line P) → full ≤ length y → field y WRITTEN < most_entries
      → SameElse y (post_line y t) × (field (post_line y t) WRITTEN ≤ field y WRITTEN + 1)
  posted_same y t l h = elim (ℕ_discrete t.mask 0) [
    | yes e ↦
        let f = posted_none y t e in
        (subst (SameElse y) (sym f) (same_self y), omega (arith, ap (λ (x : List ℕ). field x WRITTEN) f))
    | no e ↦
        let f = posted_some y t e h in (
          subst (SameElse y) (sym f) (entered_same y (entry_code t.body) (entry_value t.body) t.mask l h),
          omega (
            arith,
            ap (λ (x : List ℕ). field x WRITTEN) f,
            entered_many y (entry_code t.body) (entry_value t.body) t.mask l h,
          ),
        )
  ]

  -- a line written first
  pub wrote_cons : (y z : List ℕ) (t : Line P) (ts : List (Line P)) → Sent P t → full ≤ length y → field y WRITTEN < most_entries
      → WroteLines (post_line y t) z ts → WroteLines y z (t ∷ ts)
  unfolding orders_of flat_map
  wrote_cons y z t ts s l h w = elim (ℕ_discrete t.mask 0) [ yes e ↦ without e | no e ↦ with_it e ]
    where
      without : t.mask ≡ 0 → WroteLines y z (t ∷ ts)
      without e =
          let v : WroteLines y z ts = subst (λ (x : List ℕ). WroteLines x z ts) (posted_none y t e) w in
          let o : orders_of (t ∷ ts) ≡ orders_of ts = ap (λ (a : List (Fin P × Body)). a ++ orders_of ts) (to_none t s e) in
          record {
            many = v.many;
            few = omega (arith, v.few);
            longer = v.longer;
            same = v.same;
            written = v.written;
            matches = λ own. subst (λ (a : List (Fin P × Body)). Matches P J p z own a (spots_from z v.many (entry_count y) 0)) (sym o)
                (v.matches own);
          }

      with_it : t.mask ≢ 0 → WroteLines y z (t ∷ ts)
      with_it e =
          let k = entry_code t.body in
          let u = entry_value t.body in
          let m = t.mask in
          let v : WroteLines (entered y (entry_code t.body) (entry_value t.body) t.mask) z ts =
          subst (λ (x : List ℕ). WroteLines x z ts) (posted_some y t e h) w in
          let g = entered_longer y k u m l h in
          let n = count_is y (omega arith) in
          let at : entry_count (entered y (entry_code t.body) (entry_value t.body) t.mask) ≡ suc (entry_count y) =
          omega (arith, g.many) in
          let j = field y WRITTEN in
          let below : field y WRITTEN < entry_count (entered y (entry_code t.body) (entry_value t.body) t.mask) =
          omega (arith, at, n) in
          let c : code_at z (field y WRITTEN) ≡ entry_code t.body = v.longer.codes j below ∙ entered_code y k u m l h in
          let d : value_at z (field y WRITTEN) ≡ entry_value t.body = v.longer.values j below ∙ entered_value y k u m l h in
          let r : receivers_at z (field y WRITTEN) ≡ t.mask = v.longer.receivers j below ∙ entered_mask y k u m l h in
          let q : spots_from z (suc v.many) (entry_count y) 0
          ≡ map (spot_at (field y WRITTEN)) (bits_from 16 t.mask 0) ++ spots_from z v.many
          (entry_count (entered y (entry_code t.body) (entry_value t.body) t.mask)) 0 =
          spots_first z v.many (entry_count y) (field y WRITTEN) t.mask
          (entry_count (entered y (entry_code t.body) (entry_value t.body) t.mask)) n r (sym at) in
          record {
            many = suc v.many;
            few = omega (arith, v.few);
            longer = subst (Longer y z) (omega arith)
                (longer_on y (entered y k u m) z 1 v.many g v.longer);
            same = same_on y (entered y k u m) z (entered_same y k u m l h) v.same;
            written = omega (arith, v.written, entered_many y k u m l h);
            matches = λ own. subst (Matches P J p z own (orders_of (t ∷ ts))) (sym q)
                (matches_all P J p z own j t.body c d (s.room e) m t.test s.bits s.beyond (orders_of ts)
                (spots_from z v.many (entry_count (entered y k u m)) 0) (v.matches own) parts_few);
          }

  -- a loop, and what is written behind it
  module _ (x : List ℕ) (long : full ≤ length x) (f : List ℕ → ℕ → List ℕ) (line : ℕ → Line P) (g : List ℕ → List ℕ) (us : List (Line P))
      (rest : (y : List ℕ) → SameElse x y → field y WRITTEN + length us ≤ most_entries → WroteLines y (g y) us) where
    pub wrote_each : (n c : ℕ) (does : (d : ℕ) → c ≤ d → d < c + n → Sent P (line d))
        → ((y : List ℕ) (d : ℕ) → SameElse x y → c ≤ d → d < c + n → f y d ≡ post_line y (line d))
        → (y : List ℕ) → SameElse x y → field y WRITTEN + (n + length us) ≤ most_entries
        → WroteLines y (g (each_from f n c y)) (map line (range c n) ++ us)
    unfolding each_from range
    wrote_each zero c does is y s h = rest y s (omega arith)
    wrote_each (suc n) c does is y s h =
        let e = is y c s (omega arith) (omega arith) in
        let l : full ≤ length y = omega (arith, s.size) in
        let r : field y WRITTEN < most_entries = omega arith in
        let a = posted_same y (line c) l r in
        let v = wrote_each n (suc c) (λ d i j. does d (omega arith) (omega arith)) (λ y d t i j. is y d t (omega arith) (omega arith))
        (post_line y (line c)) (same_on x y (post_line y (line c)) s a.0) (omega (arith, a.1)) in
        subst (λ (w : List ℕ). WroteLines y (g (each_from f n (suc c) w)) (line c ∷ (map line (range (suc c) n) ++ us))) (sym e)
        (wrote_cons y (g (each_from f n (suc c) (post_line y (line c)))) (line c) (map line (range (suc c) n) ++ us)
        (does c (omega arith) (omega arith)) l r v)

  -- and one entry last
  pub wrote_last : (y : List ℕ) (t : Line P) → Sent P t → full ≤ length y → field y WRITTEN < most_entries
      → WroteLines y (post_line y t) (t ∷ [])
  wrote_last y t s l h = wrote_cons y (post_line y t) t [] s l h (wrote_none (post_line y t))
