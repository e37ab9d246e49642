-- The bytes of messages.
--   two x           a number's two bytes, least first
--   body_of c v      the bytes behind the heading of the written message c with the value v, and kind_of c its kind
--   message_of p q k c v    the message from p to q with the count k
use Rattle.std.specs.Prelude.{true, false, List, [], ◌∷◌, ◌++◌, ℕ, ◌-◌, ◌/◌, ◌%◌, ltb}
use Rattle.store.specs.Fields.{count_code, end_code, totals_code}

abbrev pub two : ℕ → List ℕ
two x = x % 256 ∷ x / 256 % 256 ∷ []

-- Rule 15.4: below 4,096 a cell's mark, then a slot's count, then totals with the top level, then a round's end
unfoldable pub kind_of : ℕ → ℕ
kind_of c =
    elim (ltb c count_code) [
      | true ↦ 1
      | false ↦ elim (ltb c totals_code) [
        | true ↦ 2
        | false ↦ elim (ltb c end_code) [ true ↦ 3 | false ↦ 4 ]
      ]
    ]

-- Rule 15.4.
unfoldable pub body_of : ℕ → ℕ → List ℕ
body_of c v =
    elim (ltb c count_code) [
      | true ↦ two c ++ (v % 256 ∷ [])
      | false ↦ elim (ltb c totals_code) [
        | true ↦ two (c - count_code) ++ two v
        | false ↦ elim (ltb c end_code) [ true ↦ two v ++ ((c - totals_code) ∷ []) | false ↦ [] ]
      ]
    ]

-- Rule 15.4.
unfoldable pub head_of : ℕ → ℕ → ℕ → ℕ → List ℕ
unfolding kind_of
head_of p q k c = kind_of c ∷ p ∷ q ∷ two k

-- Rule 15.4.
unfoldable pub message_of : ℕ → ℕ → ℕ → ℕ → ℕ → List ℕ
unfolding head_of body_of
message_of p q k c v = head_of p q k c ++ body_of c v
