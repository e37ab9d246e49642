-- The spreading of a step's marks: what the loop holds.
--   Scanned cs ms k out i b   the marks before i are in the table, and the rest decides as the whole does
-- Assumes nothing.
use mathlib.Core.Path.{◌≡◌, refl, sym, ◌∙◌, ap}
use mathlib.Core.Bool.{true, false}
use mathlib.Core.List.{List, ◌++◌}
use Prim.Native.Nat.{ℕ, ◌+◌, ◌≤◌, ◌<◌}
use native.Mathlib.Omega.{arith}
use lib.ListN.{length, get_or, take, drop, set, replicate, length-replicate}
use lib.Seq.{take_at}
use Rattle.base.specs.Bools.{not_both}
use Rattle.archive.specs.Tables.{pairs}
use Rattle.replay.specs.Run.{spread_over, spread, markingb}
use Rattle.replay.specs.Scan.{mayb, marking_from, Spread}
use Rattle.replay.specs.Marking.{from_start, marking_next, marking_miss, spread_next, pairs_end, may_below}

pub record Scanned (cs ms : List ℕ) (k : ℕ) (out : List ℕ) (i b : ℕ) : Type 0 where
  pub passed : i ≤ length cs
  pub decides : marking_from k b (pairs (drop i cs) (drop i ms)) ≡ markingb k (pairs cs ms)
  pub holds : spread_over (take k out) (pairs (drop i cs) (drop i ms)) ≡ spread k (pairs cs ms)

module _ (cs ms : List ℕ) (k : ℕ) where
  pub scan_start : (out rest : List ℕ) → out ≡ replicate k 0 ++ rest → Scanned cs ms k out 0 0
  unfolding spread
  scan_start out rest e =
      let t : take k out ≡ replicate k 0 = rw e (take_at (replicate k 0) rest k (length-replicate k 0)) in
      record { passed = omega arith; decides = from_start k (pairs cs ms); holds = rw t }

  module _ (out : List ℕ) (i b : ℕ) (s : Scanned cs ms k out i b) where
    module _ (h : i < length cs) (e : length cs ≡ length ms) where
      pub scan_next : mayb k b (get_or cs i 0) (get_or ms i 0) ≡ true → Scanned cs ms k (set out (get_or cs i 0) (get_or ms i 0)) (i + 1)
          (get_or cs i 0 + 1)
      scan_next t =
          record {
            passed = omega arith;
            decides = sym (marking_next cs ms i h e k b t) ∙ s.decides;
            holds = sym (spread_next cs ms i h e k out (may_below k b (get_or cs i 0) (get_or ms i 0) t)) ∙ s.holds;
          }

      pub scan_miss : mayb k b (get_or cs i 0) (get_or ms i 0) ≡ false → Spread k (pairs cs ms) out false
      scan_miss t = record { answer = sym (marking_miss cs ms i h e k b t) ∙ s.decides; marks = λ z. not_both false z refl }

    pub scan_end : length cs ≤ i → Spread k (pairs cs ms) out true
    unfolding marking_from spread_over
    scan_end h =
        let p = pairs_end cs ms i h in
        record { answer = sym (ap (marking_from k b) p) ∙ s.decides; marks = λ z. sym (ap (spread_over (take k out)) p) ∙ s.holds }
