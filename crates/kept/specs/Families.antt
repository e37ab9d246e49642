-- The statuses of the families that are born on a level.
-- Laws: born_green, born_kept, born_fresh (the three cases of a family), length-fresh and fresh_at (new children), born_next_lem (the families
-- of a level one behind the other are a list, by their places in it).
use Rattle.std.specs.Prelude.{◌≡◌, true, false, ℕ, suc, ◌+◌, ◌<◌, replicate}
use Rattle.std.proofs.Math.Path.{refl, sym, ap, ap₂}
use Rattle.std.proofs.Common.{◌∙◌, arith, length-drop, get_or-take, get_or-drop}
use mathlib.Core.List.{List, [], ◌∷◌, ◌++◌, map}
use Rattle.std.proofs.Math.Nat.{zero-add}
use Rattle.std.proofs.Math.ListN.{length, get_or, take, drop, length-map, take-append-drop}
use Rattle.std.proofs.Math.Seq.{ext_get_or, length-take-le}
use Rattle.base.specs.Lists.{memberb}
use Rattle.base.specs.Every.{get_d_map}
use Rattle.base.specs.Range.{range, length-range, range_at}
use Rattle.mesh.specs.Cells.{redb, bits_of}
use Rattle.mesh.specs.Table.{size_of, sizes}
use Rattle.mesh.specs.Layout.{edge_numbers}
use Rattle.rows.specs.Numbered.{part}
use Rattle.lineage.specs.Olds.{first_child}
use Rattle.kept.specs.Kept.{digit_pair, held_pairs, fresh_of, born_by, born_next}

-- new children
module _ (s : ℕ) (ks : List ℕ) (f : ℕ) where
  abbrev bits : ℕ → ℕ
  bits i = bits_of (map (λ y. memberb (digit_pair 63 i y) (held_pairs s ks f)) edge_numbers)

  pub length-fresh : length (fresh_of s ks f) ≡ 8
  unfolding fresh_of
  length-fresh = length-map (range 0 8) bits ∙ length-range 0 8

  pub fresh_at : (i : ℕ) → i < 8
      → get_or (fresh_of s ks f) i 0 ≡ bits_of (map (λ y. memberb (digit_pair 63 i y) (held_pairs s ks f)) edge_numbers)
  unfolding fresh_of
  fresh_at i h = get_d_map bits (range 0 8) i 0 0 (omega (arith, length-range 0 8)) ∙ ap bits (range_at 0 8 i 0 h ∙ zero-add i)

module _ (m : ℕ) (ss ks : List ℕ) where
  module _ (t o : ℕ) where
    pub born_green : redb t ≡ false → born_by m ss ks t o ≡ replicate (size_of t) 0
    unfolding born_by
    born_green e = rw (e, born_by)

    pub born_kept : redb t ≡ true → redb (get_or ss o 0) ≡ true → born_by m ss ks t o ≡ part ks (first_child m ss o) 8
    unfolding born_by
    born_kept e f = rw (e, f, born_by)

    pub born_fresh : redb t ≡ true → redb (get_or ss o 0) ≡ false → born_by m ss ks t o ≡ fresh_of (get_or ss o 0) ks (first_child m ss o)
    unfolding born_by
    born_fresh e f = rw (e, f, born_by)

  -- a level, family by family
  pub born_next_lem : (ts os l : List ℕ) → length os ≡ length ts → length l ≡ sizes ts
      → ((p : ℕ) → p < length ts → length (born_by m ss ks (get_or ts p 0) (get_or os p 0)) ≡ size_of (get_or ts p 0))
      → ((p i : ℕ) → p < length ts → i < size_of (get_or ts p 0)
      → get_or (born_by m ss ks (get_or ts p 0) (get_or os p 0)) i 0 ≡ get_or l (sizes (take p ts) + i) 0)
      → born_next m ss ks ts os ≡ l
  unfolding born_next sizes
  born_next_lem [] os [] e k f g = refl
  born_next_lem [] os (x ∷ l) e k f g = absurd (omega arith)
  born_next_lem (t ∷ ts) [] l e k f g = absurd (omega arith)
  born_next_lem (t ∷ ts) (o ∷ os) l e k f g =
      let many : length (take (size_of t) l) ≡ size_of t = length-take-le (size_of t) l (omega arith) in
      let first : born_by m ss ks t o ≡ take (size_of t) l =
      ext_get_or 0 (born_by m ss ks t o) (take (size_of t) l) (f 0 (omega arith) ∙ sym many) (λ i h.
      let i' : i < size_of t = omega (arith, f 0 (omega arith)) in
      g 0 i (omega arith) i' ∙ ap (λ (x : ℕ). get_or l x 0) (zero-add i) ∙ sym (get_or-take (size_of t) l i 0 i')) in
      let rest : born_next m ss ks ts os ≡ drop (size_of t) l =
      born_next_lem ts os (drop (size_of t) l) (omega arith) (length-drop (size_of t) l ∙ omega arith) (λ p h. f (suc p) (omega arith))
      (λ p i h q.
      g (suc p) i (omega arith) q ∙ ap (λ (x : ℕ). get_or l x 0) (omega arith) ∙ sym (get_or-drop (size_of t) l (sizes (take p ts) + i) 0)) in
      ap₂ ◌++◌ first rest ∙ take-append-drop (size_of t) l
