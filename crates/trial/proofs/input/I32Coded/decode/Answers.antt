-- Four bytes are the 32 bits of an i32.
use Rattle.std.proofs.Common.{◌≡◌, ◌+◌, ◌*◌, ◌<◌, ℕ, get_or, arith, ◌∙◌}
use mir.Syntax.{w32}
use mir.Facts.{to_z-of_z}
use Rattle.trial.specs.Input.{long_at}
use Rattle.trial.proofs.Signed.{twos_is}
use Rattle.trial.proofs.input.I32Coded.decode.Goals as goal

pub returns : goal.returns
returns c =
    let bs = c.args.bytes.now in
    let at : ℕ = 4 * c.args.k in
    let f = c.type_inv.bytes in
    let e : get_or bs at 0 + get_or bs (at + 1) 0 * 256 + get_or bs (at + 2) 0 * 65536 + get_or bs (at + 3) 0 * 16777216 ≡ long_at bs c.args.k =
    omega arith in
    let h : long_at bs c.args.k < 4294967296 = omega (arith, f at, f (at + 1), f (at + 2), f (at + 3)) in
    to_z-of_z {w = w32} (record { sfits = c.from_le_bytes.type_inv }) ∙ c.from_le_bytes.ensures ∙ rw e (twos_is (long_at bs c.args.k) h)
