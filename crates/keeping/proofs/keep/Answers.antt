-- What looking at eleven levels leaves is told by the table's own definitions.
use Rattle.std.proofs.Common.{rules, arith}
use Rattle.std.proofs.lemmas.Result.{MatchResult-weaker}
use Rattle.keeping.proofs.Sound.{marked_old, marked_span, marked_whole, marked_refused}
use Rattle.keeping.proofs.keep.Goals as goal

pub invariant_of-old : goal.invariant_of-old
invariant_of-old g c =
    let a = c.args in
    let o = marked_old a.n a.mesh.now a.rows.now a.status.now a.marks.now a.kids.now a.kept.now c.requires.marked in
    record {
      in_order = record {
        few = o.few;
        rows = o.rows;
        marks = omega (arith, o.marks);
        size = o.size;
        up = o.up;
        top = o.top;
      };
    }

pub treat_all-requires : goal.treat_all-requires
treat_all-requires g c =
    let a = c.args in (
      search rules,
      (
        marked_span a.n a.mesh.now a.rows.now a.status.now a.marks.now a.kids.now a.kept.now c.requires.marked,
        (c.requires.small, c.requires.empty),
      ),
    )

pub returns : goal.returns
returns g c =
    let a = c.args in
    MatchResult-weaker c.treat_all.result c.treat_all.ensures
    (marked_whole a.n a.mesh.now a.rows.now a.status.now a.marks.now a.kids.now a.kept.now c.requires.marked c.treat_all.new.kept)
    (marked_refused a.n a.mesh.now a.rows.now a.status.now a.marks.now a.kids.now a.kept.now c.requires.marked g.row.N)
