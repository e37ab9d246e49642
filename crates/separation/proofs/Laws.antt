-- Laws of the third condition at one edge: the edge p that was read is e.
use Rattle.std.specs.Prelude.{◌≡◌, Bool, true, false, ◌||◌, not, eqb, List}
use Rattle.std.proofs.Math.Path.{sym}
use Rattle.std.proofs.Common.{◌∙◌}
use Rattle.std.proofs.Math.Bool.{or-true, or-false}
use Rattle.base.specs.Places.{hasb}
use Rattle.mesh.specs.Cells.{heldb}
use Rattle.edges.specs.Pairs.{Pair, isb, sorted}

module _ (own es : List Pair) (e p : Pair) (q : p ≡ e) (held : Bool) (h : held ≡ hasb isb es (sorted p)) where
  pub free : held ≡ false → true ≡ (heldb eqb own e || not (hasb isb es (sorted e)))
  free f =
      let w : hasb isb es (sorted e) ≡ false = sym (rw q at h) ∙ f in
      rw (w, or-true (heldb eqb own e))

  pub own_or_not : held ≡ true → (r : Bool) → r ≡ heldb eqb own p → r ≡ (heldb eqb own e || not (hasb isb es (sorted e)))
  own_or_not f r g =
      let w : hasb isb es (sorted e) ≡ true = sym (rw q at h) ∙ f in
      rw (w, or-false (heldb eqb own e)) (rw q at g)
