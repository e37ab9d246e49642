-- `writing::Keeping::write_level` meets its contract: the invariant is `Families` (crate's proofs).
use Rattle.writing.proofs.Levels.{families_start, families_fit, families_room, families_more}
use Rattle.writing.proofs.Keeping.write_level.Goals as goal

pub loop-c-init : goal.loop-c-init
loop-c-init c = families_start c.args.self.now.keeps c.requires

pub write_family-k-requires : goal.write_family-k-requires
write_family-k-requires c =
    record {
      fits = families_fit c.args.self.now.keeps c.requires c.loop-c.invariant c.loop-c-test.true;
      room = families_room c.args.self.now.keeps c.requires c.loop-c.invariant c.loop-c-test.true;
    }

pub loop-c-preserved : goal.loop-c-preserved
loop-c-preserved c =
    families_more c.args.self.now.keeps c.requires c.loop-c.invariant c.loop-c-test.true c.write_family-k.ensures.behind c.write_family-k.ensures.wrote
