-- Case B (section 14 of the method) on two parts, cell 0 with part 1 and its family with part 2: what they tell each other. Each has five
-- rounds: marks and counts of level 1, marks and counts of level 0, totals.
--   B, owners            the table and its owners
--   mark, totals         what is told, written short
-- Laws: refined_1, refined_2 (cell 1 marked 1: part 2 tells that cell 0, its ghost, stays red; part 1, whose master it is, counts its six
-- edges; part 2 will have 24 masters), deleted_1, deleted_2 (all eight marked 2: cell 0 will not be red, no edge is counted, and part 2
-- has no masters then), packed (the first messages of part 2 as bytes, with their counts).
use Rattle.std.specs.Prelude.{◌≡◌, refl, List, [], ◌∷◌, ◌++◌, map, ℕ, ◌+◌, replicate}
use Rattle.store.specs.Fields.{count_code, totals_code}
use Rattle.cutting.specs.Rule.{family}
use Rattle.split.specs.Messages.{round_end, told_before, numbered_from, messages_to}

A : List (List ℕ)
A = (0 ∷ 1 ∷ 2 ∷ 3 ∷ []) ∷ []

B : List ℕ
B = 64 ∷ replicate 8 0

owners : List ℕ
owners = 1 ∷ replicate 8 2

abbrev mark : ℕ → ℕ → ℕ × ℕ
mark c v = (c, v)

abbrev totals : ℕ → ℕ → ℕ × ℕ
totals m high = (totals_code + high, m)

-- six edges, one master each
six : List (ℕ × ℕ)
six = map (λ s. (count_code + s, 1)) (0 ∷ 1 ∷ 2 ∷ 3 ∷ 4 ∷ 5 ∷ [])

refined_1 : told_before 4 A B owners (0 ∷ 1 ∷ replicate 7 0) 4 1 2 ≡ round_end ∷ round_end ∷ round_end ∷ (six ++ (round_end ∷ []))
unfolding A B owners six told_before family
refined_1 = refl

refined_2 : told_before 4 A B owners (0 ∷ 1 ∷ replicate 7 0) 6 2 1
    ≡ round_end ∷ round_end ∷ mark 0 1 ∷ round_end ∷ round_end ∷ totals 24 2 ∷ round_end ∷ []
unfolding A B owners told_before family
refined_2 = refl

deleted_1 : told_before 4 A B owners (0 ∷ replicate 8 2) 6 1 2 ≡ round_end ∷ round_end ∷ round_end ∷ round_end ∷ totals 1 0 ∷ round_end ∷ []
unfolding A B owners told_before family
deleted_1 = refl

deleted_2 : told_before 4 A B owners (0 ∷ replicate 8 2) 6 2 1
    ≡ round_end ∷ round_end ∷ mark 0 0 ∷ round_end ∷ round_end ∷ totals 0 0 ∷ round_end ∷ []
unfolding A B owners told_before family
deleted_2 = refl

-- from part 2 to part 1, the third
packed : messages_to 4 A B owners (0 ∷ 1 ∷ replicate 7 0) 3 2 1
    ≡ (4 ∷ 2 ∷ 1 ∷ 0 ∷ 0 ∷ []) ∷ (4 ∷ 2 ∷ 1 ∷ 1 ∷ 0 ∷ []) ∷ (1 ∷ 2 ∷ 1 ∷ 2 ∷ 0 ∷ 0 ∷ 0 ∷ 1 ∷ []) ∷ (4 ∷ 2 ∷ 1 ∷ 3 ∷ 0 ∷ []) ∷ []
unfolding A B owners told_before numbered_from family
packed = refl
