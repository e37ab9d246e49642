-- The stores of a split, one behind the other in a lent table.
--   store_in b j     the store with the number j, from 0, in the table b
--   stores_by b P    the first P of them
-- Laws: store_long, rest_size (lengths), field_in, length-stores, stores_at (what is where).
use Rattle.std.specs.Prelude.{◌≡◌, List, [], map, ℕ, ◌+◌, ◌-◌, ◌*◌, ◌≤◌, ◌<◌, length, get_or, take, drop}
use Rattle.std.proofs.Common.{◌∙◌, ap, arith}
use Rattle.std.proofs.Math.ListN.{length-drop}
use Rattle.std.proofs.lemmas.List.{length-map}
use Rattle.std.proofs.Math.Seq.{length-take-le, get_or-take, get_or-drop}
use Rattle.base.specs.Every.{get_d_map}
use Rattle.base.specs.Limits.{most_parts}
use Rattle.base.specs.Range.{range, length-range, range_at}
use Rattle.store.specs.Fields.{field, full}

-- Rule 15.5.
unfoldable pub store_in : List ℕ → ℕ → List ℕ
store_in b j = take full (drop (full * j) b)

-- Rule 15.5.
abbrev pub stores_by : List ℕ → ℕ → List (List ℕ)
stores_by b P = map (store_in b) (range 0 P)

module _ (b : List ℕ) where
  in_long : (j : ℕ) → full * j + full ≤ length b → length (store_in b j) ≡ full
  unfolding store_in
  in_long j h = length-take-le full (drop (full * j) b) (omega (arith, length-drop (full * j) b))

  pub store_long : (j : ℕ) → most_parts * full ≤ length b → j < most_parts → length (store_in b j) ≡ full
  store_long j h g = in_long j (omega arith)

  pub rest_size : (j k : ℕ) → full * j + full ≤ length b → length (drop k (store_in b j)) ≡ full - k
  rest_size j k h = length-drop k (store_in b j) ∙ ap (λ (m : ℕ). m - k) (in_long j h)

  pub field_in : (j k : ℕ) → k < full → field (store_in b j) k ≡ get_or b (full * j + k) 0
  unfolding store_in
  field_in j k h = get_or-take full (drop (full * j) b) k 0 h ∙ get_or-drop (full * j) b k 0

  pub length-stores : (P : ℕ) → length (stores_by b P) ≡ P
  length-stores P = length-map (range 0 P) (store_in b) ∙ length-range 0 P

  pub stores_at : (P j : ℕ) → j < P → get_or (stores_by b P) j [] ≡ store_in b j
  stores_at P j h =
      get_d_map (store_in b) (range 0 P) j 0 [] (omega (arith, length-range 0 P))
      ∙ ap (store_in b) (range_at 0 P j 0 h ∙ let z : 0 + j ≡ j = omega arith in z)
