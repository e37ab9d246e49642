-- Four bytes are the 32 bits of an i32.
use Rattle.std.proofs.Common.{◌≡◌, ◌+◌, ◌*◌, ◌<◌, drop, get_or, arith, ◌∙◌}
use mir.Syntax.{w32}
use mir.Facts.{to_z-of_z}
use Rattle.archive.specs.Form.{whole}
use Rattle.archive.proofs.Tests.{whole_four}
use Rattle.archive.proofs.Signed.{signed_is}
use Rattle.archive.proofs.coordinate.Goals as goal

pub returns : goal.returns
returns c =
    let bs = c.args.bytes.now in
    let at = c.args.at in
    let f = c.type_inv.bytes in
    let e : get_or bs at 0 + get_or bs (at + 1) 0 * 256 + get_or bs (at + 2) 0 * 65536 + get_or bs (at + 3) 0 * 16777216 ≡ whole 4 (drop at bs) =
    omega (arith, whole_four bs at c.requires) in
    let h : whole 4 (drop at bs) < 4294967296 = omega (arith, e, f at, f (at + 1), f (at + 2), f (at + 3)) in
    to_z-of_z {w = w32} (record { sfits = c.from_le_bytes.type_inv }) ∙ c.from_le_bytes.ensures ∙ rw e (signed_is (whole 4 (drop at bs)) h)
