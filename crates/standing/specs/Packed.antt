-- Messages of the exchange as bytes (rule 15.4).
--   entry_code, entry_value    a body as it is written in an entry
--   bodyb b                  the numbers of the body have room
--   packed q p k b           the bytes; a message without room, or with a count of more than two bytes, is no message
--   Read m q p k b           what the tests and the taking read of the bytes
-- Law: read.
use Rattle.std.specs.Prelude.{◌≡◌, refl, Bool, true, false, ◌&&◌, List, [], ◌++◌, ℕ, suc, ◌+◌, ◌-◌, ◌*◌, ◌/◌, ◌%◌, ◌≤◌, ◌<◌, T, ltb, leb, length, get_or}
use Rattle.std.proofs.Common.{arith, ltb→lt, leb→le}
use Rattle.base.specs.Bools.{one_if, and_left, and_right}
use Rattle.base.specs.Limits.{most_cells, most_levels, most_slots, too_many}
use Rattle.rounds.specs.Rounds.{Body, mark, count, total, end}
use Rattle.store.specs.Fields.{count_code, totals_code}
use Rattle.store.specs.Message.{kind_of, body_of, head_of, message_of}
use Rattle.store.specs.Hand.{number_at}
use Rattle.store.specs.Bytes.{kind_mark, kind_count, kind_total, body_mark, body_count, body_total}

unfoldable pub entry_code : Body → ℕ
entry_code (mark c v) = c
entry_code (count s n) = count_code + s
entry_code (total n h) = totals_code + h
entry_code end = 65535

unfoldable pub entry_value : Body → ℕ
unfolding one_if
entry_value (mark c v) = one_if v
entry_value (count s n) = n
entry_value (total n h) = n
entry_value end = 0

unfoldable pub bodyb : Body → Bool
bodyb (mark c v) = ltb c most_cells
bodyb (count s n) = ltb s most_slots && (leb 1 n && leb n most_cells)
bodyb (total n h) = leb n too_many && leb h most_levels
bodyb end = true

-- Rule 15.4.
unfoldable pub packed : ℕ → ℕ → ℕ → Body → List ℕ
unfolding bodyb entry_code entry_value message_of
packed q p k b = elim (ltb k 65536 && bodyb b) [ true ↦ message_of (suc q) (suc p) k (entry_code b) (entry_value b) | false ↦ [] ]

unfoldable pub Content : List ℕ → Body → Type 0
unfolding one_if
Content m (mark c v) = (get_or m 0 0 ≡ 1) × (length m ≡ 8) × (number_at m 5 ≡ c) × (get_or m 7 0 ≡ one_if v)
Content m (count s n) = (get_or m 0 0 ≡ 2) × (length m ≡ 9) × (number_at m 5 ≡ s) × (number_at m 7 ≡ n)
Content m (total n h) = (get_or m 0 0 ≡ 3) × (length m ≡ 8) × (number_at m 5 ≡ n) × (get_or m 7 0 ≡ h)
Content m end = (get_or m 0 0 ≡ 4) × (length m ≡ 5)

pub record Read (m : List ℕ) (q p k : ℕ) (b : Body) : Type 0 where
  pub from : get_or m 1 0 ≡ suc q
  pub to : get_or m 2 0 ≡ suc p
  pub number : number_at m 3 ≡ k
  pub content : Content m b

both : (x : ℕ) → x < 65536 → x % 256 + 256 * (x / 256 % 256) ≡ x
both x h = omega arith

flag : (v : Bool) → one_if v % 256 ≡ one_if v
unfolding one_if
flag true = refl
flag false = refl

head_read : (q p k : ℕ) (b : Body) (m w : List ℕ) → k < 65536 → m ≡ head_of q p k (entry_code b) ++ w → (get_or m 1 0 ≡ q) × (get_or m 2 0 ≡ p)
    × (number_at m 3 ≡ k) × (get_or m 0 0 ≡ kind_of (entry_code b))
unfolding head_of
head_read q p k b m w h e = rw e (refl, refl, both k h, refl)

content_read : (q p k : ℕ) (b : Body) → T (bodyb b) → Content (message_of q p k (entry_code b) (entry_value b)) b
unfolding Content bodyb entry_code entry_value message_of head_of
content_read q p k (mark c v) t =
    let h : c < most_cells = ltb→lt c most_cells t in
    rw (body_mark c (one_if v) h, ← kind_mark c h) (refl, refl, both c (omega arith), flag v)
content_read q p k (count s n) t =
    let h : s < most_slots = ltb→lt s most_slots (and_left (ltb s most_slots) (leb 1 n && leb n most_cells) t) in
    let g : n ≤ most_cells = leb→le n most_cells (and_right (leb 1 n) (leb n most_cells)
    (and_right (ltb s most_slots) (leb 1 n && leb n most_cells) t)) in
    let z : count_code + s - count_code ≡ s = omega arith in
    rw (body_count (count_code + s) n (omega arith) (omega arith), ← kind_count (count_code + s) (omega arith) (omega arith), z) (
      refl,
      refl,
      both s (omega arith),
      both n (omega arith),
    )
content_read q p k (total n h) t =
    let g : n ≤ too_many = leb→le n too_many (and_left (leb n too_many) (leb h most_levels) t) in
    let f : h ≤ most_levels = leb→le h most_levels (and_right (leb n too_many) (leb h most_levels) t) in
    let z : totals_code + h - totals_code ≡ h = omega arith in
    rw (body_total (totals_code + h) n (omega arith) (omega arith), ← kind_total (totals_code + h) (omega arith) (omega arith), z) (
      refl,
      refl,
      both n (omega arith),
      refl,
    )
content_read q p k end t = (refl, refl)

pub read : (q p k : ℕ) (b : Body) → T (ltb k 65536 && bodyb b) → Read (message_of (suc q) (suc p) k (entry_code b) (entry_value b)) q p k b
unfolding message_of
read q p k b t =
    let h = head_read (suc q) (suc p) k b (message_of (suc q) (suc p) k (entry_code b) (entry_value b)) (body_of (entry_code b) (entry_value b))
    (ltb→lt k 65536 (and_left (ltb k 65536) (bodyb b) t)) refl in
    record { from = h.0; to = h.1; number = h.2; content = content_read (suc q) (suc p) k b (and_right (ltb k 65536) (bodyb b) t) }
