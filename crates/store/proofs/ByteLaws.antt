-- Laws of a message's bytes as they are stored.
use Rattle.std.specs.Prelude.{◌≡◌, List, [], set}
use Rattle.std.proofs.Common.{◌∙◌, ap, length-set}
use Prim.Native.Nat.{ℕ, suc, ◌+◌, ◌-◌, ◌%◌, ◌≤◌, ◌<◌}
use native.Mathlib.Omega.{arith}
use Rattle.std.proofs.Math.ListN.{length}
use Rattle.std.proofs.lemmas.List.Edits.{sets}
use Rattle.std.proofs.Math.Seq.{length-sets}
use borrow.Author.Tests.{le-ltb}
use Rattle.store.specs.Fields.{count_code, end_code, totals_code}
use Rattle.store.specs.Message.{two, kind_of, body_of, head_of, message_of}
use Rattle.store.specs.Bytes.{body_mark, body_count, body_total}

module _ (c : ℕ) where
  pub kind_end : end_code ≤ c → 4 ≡ kind_of c
  unfolding kind_of
  kind_end h = rw (le-ltb c count_code (omega arith), le-ltb c totals_code (omega arith), le-ltb c end_code h, kind_of)

  module _ (v : ℕ) where
    body_end : end_code ≤ c → body_of c v ≡ []
    unfolding body_of
    body_end h = rw (le-ltb c count_code (omega arith), le-ltb c totals_code (omega arith), le-ltb c end_code h, body_of)

    module _ (l : List ℕ) where
      pub stores_mark : (t : List ℕ) → c < count_code → t ≡ sets l 5 (two c) → (8 ≡ 5 + length (body_of c v))
          × (set t 7 (v % 256) ≡ sets l 5 (body_of c v))
      stores_mark t h e = (rw (body_mark c v h), rw (body_mark c v h, e))

      pub stores_count : (t u : List ℕ) → count_code ≤ c → c < totals_code → t ≡ sets l 5 (two (c - count_code)) → u ≡ sets t 7 (two v)
          → (9 ≡ 5 + length (body_of c v)) × (u ≡ sets l 5 (body_of c v))
      stores_count t u g h e d = (rw (body_count c v g h), d ∙ rw (body_count c v g h, e))

      pub stores_total : (t : List ℕ) → totals_code ≤ c → c < end_code → t ≡ sets l 5 (two v) → (8 ≡ 5 + length (body_of c v))
          × (set t 7 (c - totals_code) ≡ sets l 5 (body_of c v))
      stores_total t g h e = (rw (body_total c v g h), rw (body_total c v g h, e))

      pub stores_end : end_code ≤ c → (5 ≡ 5 + length (body_of c v)) × (l ≡ sets l 5 (body_of c v))
      stores_end h = (rw (body_end h), rw (body_end h))

    module _ (p q k : ℕ) (l : List ℕ) where
      -- a heading and a body
      pub stores_message : (a n : ℕ) (t u : List ℕ) → a ≡ kind_of c → t ≡ sets (set (set (set l 0 a) 1 p) 2 q) 3 (two k)
          → n ≡ 5 + length (body_of c v) → u ≡ sets t 5 (body_of c v)
          → (n ≡ length (message_of p q k c v)) × (u ≡ sets l 0 (message_of p q k c v))
      unfolding message_of head_of
      stores_message a n t u i e f d = let z : 5 + length (body_of c v) ≡ suc (suc (suc (suc (suc (length (body_of c v)))))) = omega arith in
          (f ∙ z, d ∙ rw (e, i))

-- stores keep the length
module _ (l : List ℕ) (a p q : ℕ) where
  pub head-length : (t v : List ℕ) → t ≡ sets (set (set (set l 0 a) 1 p) 2 q) 3 v → length t ≡ length l
  head-length t v e = ap length e ∙ length-sets (set (set (set l 0 a) 1 p) 2 q) 3 v ∙ length-set (set (set l 0 a) 1 p) 2 q
      ∙ length-set (set l 0 a) 1 p ∙ length-set l 0 a

  pub whole_length : (t u v w : List ℕ) → t ≡ sets (set (set (set l 0 a) 1 p) 2 q) 3 v → u ≡ sets t 5 w → length u ≡ length l
  whole_length t u v w e d = ap length d ∙ length-sets t 5 w ∙ head-length t v e
