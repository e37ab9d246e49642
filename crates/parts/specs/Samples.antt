-- Case B (section 14 of the method) on two parts, cell 0 with part 1 and its family with part 2: what the definitions give, and what
-- holds them
-- fast.
--   B, owners    the table and its owners
--   C, owners_c  the table after a step with cell 1 marked 1, and its owners
-- Laws: fits (the owners are accepted), torn (a family with two owners is not), split_1 and split_2 (what the parts hold); emptied,
-- emptied_1, emptied_2 (all eight marked 2 leave part 2 empty); kept_c, cut_1, cut_2 (the owners after the step to C, the masters and the
-- ghost there); put_together_lem, whole_c, part_missing (merging them gives the table C; merging part 2 alone gives none).
use Rattle.std.specs.Prelude.{◌≡◌, refl, true, false, List, [], ◌∷◌, ◌++◌, map, ℕ, replicate}
use Rattle.cutting.specs.Rule.{family}
use Rattle.mesh.specs.Step.{step_table}
use Rattle.parts.specs.Owners.{ownersb, owners_after}
use Rattle.parts.specs.Held.{Entry, entries_of}
use Rattle.parts.specs.Merge.{merged, completeb}

A : List (List ℕ)
A = (0 ∷ 1 ∷ 2 ∷ 3 ∷ []) ∷ []

B : List ℕ
B = 64 ∷ replicate 8 0

owners : List ℕ
owners = 1 ∷ replicate 8 2

-- entries written short
abbrev M : List ℕ → ℕ → Entry
M l s = record { path = l; status = s; ghost = false }

abbrev G : List ℕ → ℕ → Entry
G l s = record { path = l; status = s; ghost = true }

fits : ownersb 4 A B 2 owners ≡ true
unfolding A B owners ownersb family
fits = refl

torn : ownersb 4 A B 2 (1 ∷ 1 ∷ replicate 7 2) ≡ false
unfolding A B ownersb family
torn = refl

split_1 : entries_of 4 A B owners 1 ≡ M (0 ∷ []) 64 ∷ []
unfolding A B owners entries_of family
split_1 = refl

split_2 : entries_of 4 A B owners 2 ≡ G (0 ∷ []) 64 ∷ map (λ i. M (0 ∷ i ∷ []) 0) (0 ∷ 1 ∷ 2 ∷ 3 ∷ 4 ∷ 5 ∷ 6 ∷ 7 ∷ [])
unfolding A B owners entries_of family
split_2 = refl

-- all eight marked 2
emptied : step_table 4 A B (0 ∷ replicate 8 2) ≡ (0 ∷ []) ∷ []
unfolding A B step_table family
emptied = refl

emptied_1 : entries_of 4 A (0 ∷ []) (owners_after 4 A B owners (0 ∷ [])) 1 ≡ M (0 ∷ []) 0 ∷ []
unfolding A B owners owners_after entries_of family
emptied_1 = refl

emptied_2 : entries_of 4 A (0 ∷ []) (owners_after 4 A B owners (0 ∷ [])) 2 ≡ []
unfolding A B owners owners_after entries_of family
emptied_2 = refl

-- cell 1 marked 1
C : List ℕ
C = 64 ∷ 64 ∷ 11 ∷ 1 ∷ 0 ∷ 1 ∷ 0 ∷ 0 ∷ 0 ∷ replicate 16 0

owners_c : List ℕ
owners_c = 1 ∷ replicate 24 2

kept_c : owners_after 4 A B owners C ≡ owners_c
unfolding A B C owners owners_c owners_after family
kept_c = refl

cut_1 : entries_of 4 A C owners_c 1 ≡ M (0 ∷ []) 64 ∷ []
unfolding A C owners_c entries_of family
cut_1 = refl

held_2 : List Entry
held_2 =
    G (0 ∷ []) 64 ∷ M (0 ∷ 0 ∷ []) 64 ∷ M (0 ∷ 1 ∷ []) 11 ∷ M (0 ∷ 2 ∷ []) 1 ∷ M (0 ∷ 3 ∷ []) 0 ∷ M (0 ∷ 4 ∷ []) 1
    ∷ map (λ i. M (0 ∷ i ∷ []) 0) (5 ∷ 6 ∷ 7 ∷ [])
    ++ map (λ i. M (0 ∷ 0 ∷ i ∷ []) 0) (0 ∷ 1 ∷ 2 ∷ 3 ∷ 4 ∷ 5 ∷ 6 ∷ 7 ∷ [])
    ++ map (λ i. M (0 ∷ 1 ∷ i ∷ []) 0) (0 ∷ 1 ∷ 2 ∷ 3 ∷ [])
    ++ map (λ i. M (0 ∷ 2 ∷ i ∷ []) 0) (0 ∷ 1 ∷ [])
    ++ map (λ i. M (0 ∷ 4 ∷ i ∷ []) 0) (0 ∷ 1 ∷ [])

cut_2 : entries_of 4 A C owners_c 2 ≡ held_2
unfolding A C owners_c entries_of held_2 family
cut_2 = refl

put_together_lem : merged (held_2 ++ (M (0 ∷ []) 64 ∷ [])) 1 ≡ (64 ∷ []) ∷ (64 ∷ 11 ∷ 1 ∷ 0 ∷ 1 ∷ 0 ∷ 0 ∷ 0 ∷ []) ∷ replicate 16 0 ∷ []
unfolding held_2 merged family
put_together_lem = refl

whole_c : completeb (held_2 ++ (M (0 ∷ []) 64 ∷ [])) 1 ≡ true
unfolding held_2 completeb family
whole_c = refl

-- without part 1, cell 0 has no master
part_missing : completeb held_2 1 ≡ false
unfolding held_2 completeb family
part_missing = refl
