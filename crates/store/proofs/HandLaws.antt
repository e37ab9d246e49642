-- Laws of handing a message over: the answer of each refused call, which leaves the store as it is.
use Rattle.std.specs.Prelude.{◌≡◌, false, List, length}
use Rattle.std.proofs.Math.Path.{sym}
use Rattle.std.proofs.Common.{◌∙◌, arith}
use Rattle.std.proofs.Math.Bool.{true}
use Prim.Native.Nat.{ℕ, ◌≤◌, ◌<◌}
use borrow.Author.Tests.{eq-eqb, ne_eqb, le-leb, lt-leb}
use Rattle.base.specs.Refuse.{refuse}
use Rattle.base.specs.Answer.{Refused}
use Rattle.store.specs.Fields.{field, full, STAGE, ROUND}
use Rattle.store.specs.Header.{headerb}
use Rattle.store.specs.Hand.{number_at, wellb, taken_at, ended_at, hand_answer, taken_in, hand_after}
use Rattle.store.specs.Handing.{Hands}

module _ (x m : List ℕ) where
  refused : (k : ℕ) → hand_answer x m ≡ Refused k → Hands x m (Refused k) x
  unfolding hand_after taken_in
  refused k e = record { answer = sym e; after = rw (e, hand_after) }

  pub hand_short : length x < full → Hands x m (Refused 15) x
  unfolding hand_answer refuse
  hand_short h = refused 15 (rw (lt-leb full (length x) h))

  module _ (g : full ≤ length x) where
    pub hand_header : headerb x ≡ false → Hands x m (Refused 16) x
    unfolding hand_answer refuse
    hand_header e = refused 16 (rw (le-leb full (length x) g, e))

    module _ (e : headerb x ≡ true) where
      pub hand_before : field x STAGE ≡ 0 → Hands x m (Refused 16) x
      unfolding hand_answer refuse
      hand_before s = refused 16 (rw (le-leb full (length x) g, e, eq-eqb (field x STAGE) 0 s))

      module _ (s : field x STAGE ≡ 0 → ⊥) where
        pub hand_bad : wellb x m ≡ false → Hands x m (Refused 12) x
        unfolding hand_answer refuse
        hand_bad w = refused 12 (rw (le-leb full (length x) g, e, ne_eqb (field x STAGE) 0 s, w))

        module _ (w : wellb x m ≡ true) (k : ℕ) (i : k ≡ number_at m 3) where
          pub hand_again : k < taken_at x m → Hands x m (Refused 13) x
          unfolding hand_answer refuse
          hand_again h = refused 13 (rw (
            le-leb full (length x) g,
            e,
            ne_eqb (field x STAGE) 0 s,
            w,
            lt-leb (taken_at x m) (number_at m 3) (rw i at h),
          ))

          pub hand_early : taken_at x m < k → Hands x m (Refused 14) x
          unfolding hand_answer refuse
          hand_early h =
              let j : taken_at x m < number_at m 3 = rw i at h in
              refused 14 (rw (
                le-leb full (length x) g,
                e,
                ne_eqb (field x STAGE) 0 s,
                w,
                le-leb (taken_at x m) (number_at m 3) (omega arith),
                lt-leb (number_at m 3) (taken_at x m) j,
              ))

          module _ (d : k ≡ taken_at x m) where
            due : taken_at x m ≡ number_at m 3
            due = sym d ∙ i

            pub hand_done : (field x STAGE ≡ 1 → ⊥) → Hands x m (Refused 14) x
            unfolding hand_answer refuse
            hand_done h =
                refused 14 (rw (
                  le-leb full (length x) g,
                  e,
                  ne_eqb (field x STAGE) 0 s,
                  w,
                  le-leb (taken_at x m) (number_at m 3) (omega (arith, due)),
                  le-leb (number_at m 3) (taken_at x m) (omega (arith, due)),
                  ne_eqb (field x STAGE) 1 h,
                ))

            pub hand_later : field x STAGE ≡ 1 → field x ROUND < ended_at x m → Hands x m (Refused 14) x
            unfolding hand_answer refuse
            hand_later r h =
                refused 14 (rw (
                  le-leb full (length x) g,
                  e,
                  ne_eqb (field x STAGE) 0 s,
                  w,
                  le-leb (taken_at x m) (number_at m 3) (omega (arith, due)),
                  le-leb (number_at m 3) (taken_at x m) (omega (arith, due)),
                  eq-eqb (field x STAGE) 1 r,
                  lt-leb (ended_at x m) (field x ROUND) h,
                ))
