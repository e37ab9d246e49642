-- `filling::Share::corner_of` meets its contract: the three cases.
use Rattle.filling.proofs.Passing.{corner_beyond, corner_other, corner_here}
use Rattle.filling.proofs.Share.corner_of.Goals.{else-j-mesh-via-then-j-mesh+else-self-j, else-j-mesh-via-else-j-mesh}
use Rattle.filling.proofs.Share.corner_of.Goals as goal

pub returns-then-self-j : goal.returns-then-self-j
returns-then-self-j c =
    let s = c.args.self.now in corner_here s.cols.now c.args.mesh.now s.part c.args.j c.if-j-mesh.true c.if-self-j.true

pub returns-else-j-mesh : goal.returns-else-j-mesh
returns-else-j-mesh c =
    let s = c.args.self.now in
    elim c.else-j-mesh.branch [
      | else-j-mesh-via-then-j-mesh+else-self-j w ↦
          corner_other s.cols.now c.args.mesh.now s.part c.args.j w.if-j-mesh.true w.if-self-j.false
      | else-j-mesh-via-else-j-mesh w ↦ corner_beyond s.cols.now c.args.mesh.now s.part c.args.j w.if-j-mesh.false
    ]
