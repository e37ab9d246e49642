-- A pair with no entry gets one with the count 1, and an entry's count grows by one.
use Rattle.std.proofs.Common.{◌≡◌, ◌+◌, ◌<◌, get_or, length, arith, rules, length-set}
use lib.ListN.{get_or-eq_default}
use lib.Seq.{get_or-set_same}
use Rattle.coarse.specs.Tally.{times, times_in}
use Rattle.coarse.proofs.Pairs.{new_same, new_others, old_same, old_others}
use Rattle.coarse.proofs.tally.Tally.count.Goals as goal

pub overflow_add-self : goal.overflow_add-self
unfolding times
overflow_add-self g c =
    let low : get_or c.args.self.now.counts c.in-Some.e 0 < 255 = rw c.in-Some.ensures.0 c.requires.low in
    search rules

pub returns-in-Some : goal.returns-in-Some
returns-in-Some g c =
    let t = c.args.self.now in
    let h : c.in-Some.e < length t.counts = omega (arith, c.in-Some.ensures.1, c.requires.room, t.room.0, t.room.1) in
    let own : times_in t c.args.x c.args.y ≡ get_or t.counts c.in-Some.e 0 = unfold times in rw c.in-Some.ensures.0 in
    let small = t.pairs.in_order.small in
    let k = get_or t.counts c.in-Some.e 0 + 1 in
    record {
      grown = omega arith;
      count_is = rw (get_or-set_same t.counts c.in-Some.e k 0 h, own);
      same = rw (old_same t.pairs.xs t.pairs.ys t.counts t.pairs.from t.pairs.n c.args.x c.args.y t.pairs.up small c.in-Some.e k c.in-Some.ensures.0 c.in-Some.ensures.1 h, own);
      others = old_others t.pairs.xs t.pairs.ys t.counts t.pairs.from t.pairs.n c.args.x c.args.y t.pairs.up small c.in-Some.e k c.in-Some.ensures.0 c.in-Some.ensures.1;
    }

pub returns-in-None : goal.returns-in-None
returns-in-None g c =
    let t = c.args.self.now in
    let a = c.add.ensures.added in
    let o = c.add.ensures.one in
    let none : times_in t c.args.x c.args.y ≡ 0 = unfold times in rw c.in-None.ensures (get_or-eq_default t.counts 0 (omega (arith, t.room.0, t.room.1))) in
    let room = c.requires.room in
    let in_xs : t.pairs.n < length t.pairs.xs = omega (arith, rw (a.xs_is, length-set) at a.keys.in_xs) in
    let in_ys : t.pairs.n < length t.pairs.ys = omega (arith, rw (a.ys_is, length-set) at a.keys.in_ys) in
    let small = t.pairs.in_order.small in
    record {
      grown = omega arith;
      count_is = rw none;
      same = rw (a.xs_is, a.ys_is, o.0, o.1, none) (new_same t.pairs.xs t.pairs.ys t.counts t.pairs.from t.pairs.n c.args.x c.args.y t.pairs.up small in_xs in_ys (omega (arith, t.room.0, t.room.1)));
      others = λ v w ne. rw (a.xs_is, a.ys_is, o.0, o.1) (new_others t.pairs.xs t.pairs.ys t.counts t.pairs.from t.pairs.n c.args.x c.args.y t.pairs.up small in_xs in_ys (omega arith) v w ne);
    }
