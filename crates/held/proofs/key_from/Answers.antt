use Rattle.held.specs.Key.{key_place}
use Prim.Native.Nat.{ℕ, ◌+◌, ◌*◌, ◌^◌, ◌%◌}
use mathlib.Core.Path.{ap, ◌∙◌}
use Rattle.held.proofs.key_from.Goals as goal

pub returns : goal.returns
returns c =
    key_place _ _ _ _ _ (ap (λ (l : ℕ). 256 * l + c.args.head % 256) c.level_of-level.ensures.0)
    (ap (λ (l : ℕ). (c.args.digits % 32768 + 32768 * (c.args.more % 32768)) % l)
    (c.power-most.ensures.0 ∙ ap (λ (l : ℕ). 2 ^ (3 * l)) c.level_of-level.ensures.0))
