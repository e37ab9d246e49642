-- A part of a table that is copied into: the table with these numbers from that place on.
-- Assumes nothing.
use mathlib.Core.Path.{◌≡◌, sym, ◌∙◌}
use mathlib.Core.List.{List, append_assoc}
use Prim.Native.Nat.{ℕ, ◌+◌, ◌≤◌}
use lib.ListN.{length, take, drop}
use lib.Seq.{sets, sets-eq, drop-drop}
use borrow.Rule.Slice.PartMut.{put_mid}

pub put_is : {A : Type 0} (xs ys : List A) (a k : ℕ) → k ≡ length ys → a + length ys ≤ length xs → put_mid a k xs ys ≡ sets xs a ys
put_is xs ys a k e h =
    rw (e, drop-drop (length ys) a xs) (sym (sets-eq ys xs a h ∙ append_assoc (take a xs) ys (drop (a + length ys) xs)))
