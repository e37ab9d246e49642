-- A number and the byte behind it: the room that is left (number_room, field_room), and five of them are a line (five_fields).
-- Assumes nothing.
use mathlib.Core.Path.{◌≡◌}
use mathlib.Core.List.{List, [], ◌∷◌, ◌++◌, append_assoc}
use Prim.Native.Nat.{ℕ, ◌+◌, ◌≤◌, ◌<◌}
use native.Mathlib.Omega.{arith}
use lib.ListN.{length, length-append}
use Rattle.listing.specs.Lines.{decimal, fields}
use Rattle.listing.specs.Put.{Put, put-length}
use Rattle.listing.specs.Sizes.{length-decimal}

pub number_room : {l m : List ℕ} {at r : ℕ} (n : ℕ) → at + 6 ≤ length l → Put l at (decimal n) m r → r < length m
number_room n h p = omega (arith, p.behind, put-length p, length-decimal n)

pub field_room : {l m : List ℕ} {at r : ℕ} (n e k : ℕ) → at + (6 + k) ≤ length l → Put l at (decimal n ++ (e ∷ [])) m r → r + k ≤ length m
field_room n e k h p = omega (arith, p.behind, put-length p, length-decimal n, length-append (decimal n) (e ∷ []))

pub five_fields : (a b c d e : ℕ)
    → (decimal a ++ (32 ∷ [])) ++ ((decimal b ++ (32 ∷ []))
    ++ ((decimal c ++ (32 ∷ [])) ++ ((decimal d ++ (32 ∷ [])) ++ (decimal e ++ (10 ∷ [])))))
    ≡ fields (a ∷ b ∷ c ∷ d ∷ e ∷ [])
unfolding fields
five_fields a b c d e = simp append_assoc
