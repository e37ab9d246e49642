-- `filling::Source::fill_head` meets its contract: six numbers over zeros.
use Rattle.std.proofs.Common.{ℕ, ◌/◌, ◌∙◌, ap, length}
use Rattle.std.proofs.Math.ListN.{replicate}
use Rattle.filling.proofs.Passing.{head_is}
use Rattle.filling.proofs.Source.fill_head.Goals as goal

pub returns : goal.returns
returns c =
    let s = c.args.self.now in
    head_is c.fill.new.self c.args.part s.parts s.corners (length s.mesh.now / 4) s.cells s.levels
    (c.fill.ensures.after (λ y e. e) ∙ ap (λ (n : ℕ). replicate n 0) c.requires)
