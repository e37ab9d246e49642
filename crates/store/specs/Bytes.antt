-- A message's bytes as they are stored.
use Rattle.std.specs.Prelude.{◌≡◌, [], ◌∷◌, ◌++◌}
use Prim.Native.Nat.{ℕ, ◌-◌, ◌%◌, ◌≤◌, ◌<◌}
use native.Mathlib.Omega.{arith}
use borrow.Author.Tests.{lt-ltb, le-ltb}
use Rattle.store.specs.Fields.{count_code, end_code, totals_code}
use Rattle.store.specs.Message.{two, kind_of, body_of}

module _ (c : ℕ) where
  pub kind_mark : c < count_code → 1 ≡ kind_of c
  unfolding kind_of
  kind_mark h = rw (lt-ltb c count_code h, kind_of)

  pub kind_count : count_code ≤ c → c < totals_code → 2 ≡ kind_of c
  unfolding kind_of
  kind_count g h = rw (le-ltb c count_code g, lt-ltb c totals_code h, kind_of)

  pub kind_total : totals_code ≤ c → c < end_code → 3 ≡ kind_of c
  unfolding kind_of
  kind_total g h = rw (le-ltb c count_code (omega arith), le-ltb c totals_code g, lt-ltb c end_code h, kind_of)

  module _ (v : ℕ) where
    pub body_mark : c < count_code → body_of c v ≡ two c ++ (v % 256 ∷ [])
    unfolding body_of
    body_mark h = rw (lt-ltb c count_code h, body_of)

    pub body_count : count_code ≤ c → c < totals_code → body_of c v ≡ two (c - count_code) ++ two v
    unfolding body_of
    body_count g h = rw (le-ltb c count_code g, lt-ltb c totals_code h, body_of)

    pub body_total : totals_code ≤ c → c < end_code → body_of c v ≡ two v ++ ((c - totals_code) ∷ [])
    unfolding body_of
    body_total g h = rw (le-ltb c count_code (omega arith), le-ltb c totals_code g, lt-ltb c end_code h, body_of)
