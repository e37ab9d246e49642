-- Each refusal in turn.
use Rattle.std.proofs.Common.{◌≡◌, ◌+◌, refl}
use denote.Enum.Declared.{tag_of}
use Rattle.base.specs.contracts.Refusal.{the_type}
use Rattle.base.specs.Refuse.{number_of}
use Rattle.base.specs.declared.Refusal.TheVariants.{Counts, Coordinate, Corners, Flat, Repeated, Unsound, Marks, TooHigh, TooMany, Parts, Owners, Message, Taken, Early, Lent, Store, Form}
use Rattle.base.proofs.Refusal.number.Goals as goal

pub returns : goal.returns
returns c =
    elim c.args.self as (λ r. tag_of the_type r + 1 ≡ number_of r) [
      | Counts ↦ refl
      | Coordinate ↦ refl
      | Corners ↦ refl
      | Flat ↦ refl
      | Repeated ↦ refl
      | Unsound ↦ refl
      | Marks ↦ refl
      | TooHigh ↦ refl
      | TooMany ↦ refl
      | Parts ↦ refl
      | Owners ↦ refl
      | Message ↦ refl
      | Taken ↦ refl
      | Early ↦ refl
      | Lent ↦ refl
      | Store ↦ refl
      | Form ↦ refl
    ]
