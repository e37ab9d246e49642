-- A small store: part 2 of 3 has written a mark for part 1, a count for parts 1 and 3, and an end for both.
use Rattle.std.specs.Prelude.{◌≡◌, refl, List, [], ◌∷◌, true, ℕ, zero, suc, ◌+◌, ◌-◌}
use Rattle.store.specs.Fields.{CODE, GIVEN, count_code, most_entries}
use Rattle.store.specs.Header.{headerb, stageb}
use Rattle.store.specs.Fetch.{spot_at, bitb, bit_from, seek_from, entry_count, next_to_give}
use Rattle.standing.specs.Walk.{queue_of}

zeros : ℕ → List ℕ → List ℕ
zeros zero l = l
zeros (suc n) l = 0 ∷ zeros n l

-- running, part 2 of 3, 4 corners, 1 coarse cell, 9 cells, 2 levels, round 2; three entries, and the mark is given
store : List ℕ
unfolding zeros
store =
    1 ∷ 2 ∷ 3 ∷ 4 ∷ 1 ∷ 9 ∷ 2 ∷ 2 ∷ 0 ∷ 0 ∷ 0 ∷ 0 ∷ 0 ∷ 1 ∷ 3 ∷ zeros (GIVEN - 15) (1 ∷ zeros (CODE - 97)
    (5 ∷ (count_code + 7) ∷ 65535 ∷ zeros (most_entries - 3) (1 ∷ 2 ∷ 0 ∷ zeros (most_entries - 3) (1 ∷ 5 ∷ 5 ∷ []))))

next : next_to_give store ≡ spot_at 1 0
unfolding next_to_give store zeros seek_from entry_count bit_from bitb
next = refl

header : headerb store ≡ true
unfolding headerb store stageb
header = refl

queue : queue_of store ≡ (2 ∷ 2 ∷ 1 ∷ 1 ∷ 0 ∷ 7 ∷ 0 ∷ 2 ∷ 0 ∷ []) ∷ (2 ∷ 2 ∷ 3 ∷ 0 ∷ 0 ∷ 7 ∷ 0 ∷ 2 ∷ 0 ∷ []) ∷ (4 ∷ 2 ∷ 1 ∷ 2 ∷ 0 ∷ [])
    ∷ (4 ∷ 2 ∷ 3 ∷ 1 ∷ 0 ∷ []) ∷ []
unfolding queue_of store zeros
queue = refl
