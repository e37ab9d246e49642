-- A part that says that it is done can be read.
-- Laws: says_stage (who says that it is done has that stage), done_read (and its masters and ghosts can be read).
use Rattle.std.specs.Prelude.{◌≡◌, ◌&&◌, List, ℕ, ◌≤◌, eqb, leb, length}
use Rattle.std.proofs.Math.Path.{refl, subst}
use Rattle.std.proofs.Common.{sym, ◌∙◌}
use Rattle.std.proofs.Math.Bool.{not}
use Rattle.std.proofs.Math.Decide.{ℕ_discrete}
use Rattle.std.proofs.Math.Dec.{T}
use borrow.Author.Tests.{eq-eqb, le-leb}
use Rattle.base.specs.Bools.{and_left, and_right, is_true, not_both}
use Rattle.base.specs.Refuse.{refuse}
use Rattle.base.specs.Answer.{Answer}
use Rattle.base.specs.Answer.{Accepted, Refused}
use Rattle.store.specs.Fields.{field, full, STAGE}
use Rattle.store.specs.Header.{headerb, stageb}
use Rattle.store.specs.Headed.{header_is, header_yes, other_no}
use Rattle.store.specs.Handing.{refuse_on}
use Rattle.held.specs.Held.{stage_answer, stage_of, progress_of, full_held, held_answer}
use Rattle.held.specs.Says.{says_of, doneb}

module _ (x : List ℕ) where
  accepted : T (doneb (says_of x)) → stage_answer x ≡ Accepted
  unfolding says_of doneb progress_of
  accepted t = go (stage_answer x) refl
    where
      go : (a : Answer) → stage_answer x ≡ a → stage_answer x ≡ Accepted
      go Accepted e = e
      go (Refused k) e = absurd (subst (λ (b : Answer). T (doneb (progress_of b (stage_of x)))) e t)

  -- who says that it is done has that stage
  pub says_stage : T (doneb (says_of x)) → field x STAGE ≡ 2
  unfolding says_of doneb progress_of stage_answer stage_of
  says_stage t =
      let (a, f) = refuse_on 15 (leb full (length x)) _ (accepted t) in
      let (b, g) = refuse_on 16 (headerb x && not (eqb (field x STAGE) 0)) Accepted f in
      let u : T (headerb x && not (eqb (field x STAGE) 0)) = rw b tt in
      let h = and_left (headerb x) (not (eqb (field x STAGE) 0)) u in
      let z = and_right (headerb x) (not (eqb (field x STAGE) 0)) u in
      let s : T (doneb (stage_of x)) = subst (λ (c : Answer). T (doneb (progress_of c (stage_of x)))) (accepted t) t in
      go h z s (ℕ_discrete (field x STAGE) 0) (ℕ_discrete (field x STAGE) 1) (ℕ_discrete (field x STAGE) 2)
    where
      go : T (headerb x) → T (not (eqb (field x STAGE) 0)) → T (doneb (stage_of x)) → Dec (field x STAGE ≡ 0) → Dec (field x STAGE ≡ 1)
          → Dec (field x STAGE ≡ 2) → field x STAGE ≡ 2
      go h z s a b (yes c) = c
      go h z s (yes a) b (no c) = absurd (rw (eq-eqb (field x STAGE) 0 a) at z)
      go h z s (no a) (yes b) (no c) = absurd (rw (eq-eqb (field x STAGE) 1 b, stage_of) at s)
      go h z s (no a) (no b) (no c) =
          not_both (stageb x) (sym (header_yes x (header_is x h)) ∙ is_true (headerb x) h) (sym (other_no x a b c))

  -- and its masters and ghosts can be read, into any table of full length
  pub done_read : (rows : List ℕ) → T (doneb (says_of x)) → full_held ≤ length rows → held_answer x rows ≡ Accepted
  unfolding held_answer stage_answer refuse
  done_read rows t h =
      let (a, f) = refuse_on 15 (leb full (length x)) _ (accepted t) in
      let (b, g) = refuse_on 16 (headerb x && not (eqb (field x STAGE) 0)) Accepted f in
      let u : T (headerb x && not (eqb (field x STAGE) 0)) = rw b tt in
      let head = is_true (headerb x) (and_left (headerb x) (not (eqb (field x STAGE) 0)) u) in
      rw (a, le-leb full_held (length rows) h, head, eq-eqb (field x STAGE) 2 (says_stage t))
