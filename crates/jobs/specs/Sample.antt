-- The case of rule 14.7: mesh A, its cell refined, and then its second child.
--   sample          the bytes of this archive
--   sample_lines     the bytes of its listing
-- Law: sample_listed.
use Rattle.std.specs.Prelude.{◌≡◌, refl, ℕ}
use mathlib.Core.List.{List, [], ◌∷◌, ◌++◌, flatten}
use Rattle.cutting.specs.Rule.{family}
use Rattle.mesh.specs.Counts.{count_table}
use Rattle.replay.specs.Run.{job_table}
use Rattle.listing.specs.Lines.{header}
use Rattle.jobs.specs.Listing.{listing_of}

pub sample : List ℕ
sample =
    86 ∷ 0 ∷ 0 ∷ 0 ∷ 0 ∷ 0 ∷ 0 ∷ 0 ∷ 0 ∷ 0 ∷ 0 ∷ 0 ∷ 0 ∷
    86 ∷ 16 ∷ 0 ∷ 0 ∷ 0 ∷ 0 ∷ 0 ∷ 0 ∷ 0 ∷ 0 ∷ 0 ∷ 0 ∷ 0 ∷
    86 ∷ 0 ∷ 0 ∷ 0 ∷ 0 ∷ 16 ∷ 0 ∷ 0 ∷ 0 ∷ 0 ∷ 0 ∷ 0 ∷ 0 ∷
    86 ∷ 0 ∷ 0 ∷ 0 ∷ 0 ∷ 0 ∷ 0 ∷ 0 ∷ 0 ∷ 16 ∷ 0 ∷ 0 ∷ 0 ∷
    84 ∷ 0 ∷ 0 ∷ 1 ∷ 0 ∷ 2 ∷ 0 ∷ 3 ∷ 0 ∷
    77 ∷ 0 ∷ 0 ∷ 1 ∷
    71 ∷
    77 ∷ 1 ∷ 0 ∷ 1 ∷
    71 ∷
    69 ∷ []

-- Rule 14.7: the header, 0 1 1 0 0, 1 8 1 3 4, 2 16 0 0 16
pub sample_lines : List ℕ
sample_lines =
    header
    ++ (48 ∷ 32 ∷ 49 ∷ 32 ∷ 49 ∷ 32 ∷ 48 ∷ 32 ∷ 48 ∷ 10 ∷
    49 ∷ 32 ∷ 56 ∷ 32 ∷ 49 ∷ 32 ∷ 51 ∷ 32 ∷ 52 ∷ 10 ∷
    50 ∷ 32 ∷ 49 ∷ 54 ∷ 32 ∷ 48 ∷ 32 ∷ 48 ∷ 32 ∷ 49 ∷ 54 ∷ 10 ∷ [])

pub sample_listed : listing_of sample ≡ sample_lines
unfolding sample sample_lines listing_of family count_table job_table flatten
sample_listed = refl
