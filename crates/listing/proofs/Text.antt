-- A text copied to a place; the line of a refusal in two parts.
-- Assumes nothing.
use mathlib.Core.Path.{◌≡◌, refl, sym, ◌∙◌}
use mathlib.Core.List.{List, [], ◌∷◌, ◌++◌, append_assoc}
use Prim.Native.Nat.{ℕ, ◌+◌, ◌≤◌}
use lib.ListN.{length, take, drop}
use lib.Seq.{sets-eq, drop-drop}
use borrow.Rule.Slice.PartMut.{put_mid}
use Rattle.listing.specs.Lines.{decimal, refusal}
use Rattle.listing.specs.Put.{Put}

pub text_put : (l text : List ℕ) (at k : ℕ) → k ≡ length text → at + length text ≤ length l → Put l at text (put_mid at k l text) (at + length text)
text_put l text at k e h =
    record {
      bytes = rw (e, drop-drop (length text) at l) (sym (sets-eq text l at h ∙ append_assoc (take at l) text (drop (at + length text) l)));
      behind = refl;
      inside = h;
    }

pub refusal_is : (j k : ℕ) → j ≡ k → (114 ∷ 101 ∷ 102 ∷ 117 ∷ 115 ∷ 101 ∷ 100 ∷ 32 ∷ []) ++ (decimal j ++ (10 ∷ [])) ≡ refusal k
unfolding refusal
refusal_is j k e = rw e
