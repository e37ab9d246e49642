-- `firsts::first_children` meets its contract: a turn writes the first child of one cell more.
use mathlib.Core.Path.{◌≡◌, refl, sym, ◌∙◌, ap}
use mathlib.Core.List.{List, [], ◌∷◌, ◌++◌, map, map-append, append_assoc}
use Prim.Native.Nat.{ℕ, suc, ◌+◌, ◌<◌}
use native.Mathlib.Omega.{arith}
use lib.ListN.{length, get_or, drop, set, length-map}
use lib.Seq.{drop-cons, set_at}
use Rattle.rows.specs.Sizes.{status_fits}
use Rattle.lineage.specs.Olds.{first_child}
use Rattle.lineage.specs.Firsts.{first_children, first_next, first_start}
use Rattle.base.specs.Range.{range, length-range, range_snoc}
use Rattle.firsts.proofs.first_children.Goals as goal

one_more : (m : ℕ) (ss kids₀ kids : List ℕ) (c at : ℕ) → kids ≡ map (first_child m ss) (range 0 c) ++ drop c kids₀ → c < length kids₀
    → at ≡ first_child m ss c → set kids c at ≡ map (first_child m ss) (range 0 (c + 1)) ++ drop (c + 1) kids₀
one_more m ss kids₀ kids c at e h q =
    let f = first_child m ss in
    let fs = map f (range 0 c) in
    let n : length fs ≡ c = length-map (range 0 c) f ∙ length-range 0 c in
    let k : c + 1 ≡ suc c = omega arith in
    let z : 0 + c ≡ c = omega arith in
    let more : map f (range 0 (suc c)) ≡ fs ++ (f c ∷ []) =
    rw z at (ap (map f) (range_snoc 0 c) ∙ map-append f (range 0 c) ((0 + c) ∷ [])) in
    ap (λ (x : List ℕ). set x c at) (e ∙ ap (λ (x : List ℕ). fs ++ x) (drop-cons kids₀ c 0 h))
    ∙ set_at fs (get_or kids₀ c 0) (drop (suc c) kids₀) at c n ∙ sym (append_assoc fs (at ∷ []) (drop (suc c) kids₀))
    ∙ rw (k, more, q)

pub loop-c-init : goal.loop-c-init
unfolding range
loop-c-init c = (sym (first_start c.args.coarse c.args.status.now), omega (arith, c.requires.status_len_bound.2), refl)

pub size_of-at-requires : goal.size_of-at-requires
size_of-at-requires c = status_fits c.args.status.now c.requires.status_value c.loop-c.c c.loop-c-test.true

pub loop-c-preserved : goal.loop-c-preserved
loop-c-preserved c =
    let e : c.loop-c.c + 1 ≡ suc c.loop-c.c = omega arith in (
      rw e (omega (arith, first_next c.args.coarse c.args.status.now c.loop-c.c c.loop-c-test.true, c.loop-c.invariant.0, c.size_of-at.ensures.0)),
      omega (arith, c.loop-c.invariant.1, c.size_of-at.ensures.1),
      one_more c.args.coarse c.args.status.now c.args.kids.now c.loop-c.kids c.loop-c.c c.loop-c.at c.loop-c.invariant.2
          (omega (arith, c.requires.status_len_bound.1)) c.loop-c.invariant.0,
    )

pub returns : goal.returns
unfolding first_children
returns c =
    let k : c.loop-c.c ≡ length c.args.status.now = omega (arith, c.loop-c.auto.c-end, c.loop-c-test.false) in
    let e : length c.args.status.now + 1 ≡ suc (length c.args.status.now) = omega arith in
    rw k at (one_more c.args.coarse c.args.status.now c.args.kids.now c.loop-c.kids c.loop-c.c c.loop-c.at c.loop-c.invariant.2
    (omega (arith, c.requires.status_len_bound.1)) c.loop-c.invariant.0)
    ∙ rw e
