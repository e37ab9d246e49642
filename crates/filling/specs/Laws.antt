-- Tables of numbers, and how long regions are.
-- Laws: tab-length, zero-length, header_size, tab_at (what a table has), tabled_is (a list by its numbers), between (a part that is lent).
-- Assumes nothing.
use Rattle.std.specs.Prelude.{◌≡◌, refl, List, ℕ, ◌+◌, ◌-◌, ◌≤◌, ◌<◌, length, take, drop}
use Rattle.std.proofs.Common.{sym, ◌∙◌, ap, arith, length-drop, length-take-le, ext_get_or}
use Rattle.std.proofs.lemmas.List.{length-map, length-replicate}
use Rattle.base.specs.Every.{get_d_map}
use Rattle.base.specs.Range.{range, length-range, range_at}
use Rattle.store.specs.Fields.{FIRST_CELL}
use Rattle.filling.specs.Regions.{zeros, tab, head_by, Tabled}

pub tab-length : (k : ℕ) (f : ℕ → ℕ) → length (tab k f) ≡ k
unfolding tab
tab-length k f = length-map (range 0 k) f ∙ length-range 0 k

pub zero-length : (k : ℕ) → length (zeros k) ≡ k
unfolding zeros
zero-length k = length-replicate k 0

pub header_size : (p P n q m l : ℕ) → length (head_by p P n q m l) ≡ FIRST_CELL
unfolding head_by
header_size p P n q m l = refl

pub tab_at : (k : ℕ) (f : ℕ → ℕ) → Tabled k f (tab k f)
unfolding tab
tab_at k f =
    record {
      size = tab-length k f;
      at = λ i h.
          let z : 0 + i ≡ i = omega arith in
          get_d_map f (range 0 k) i 0 0 (omega (arith, length-range 0 k)) ∙ ap f (range_at 0 k i 0 h ∙ z);
    }

pub tabled_is : (k : ℕ) (f : ℕ → ℕ) (x : List ℕ) → Tabled k f x → x ≡ tab k f
tabled_is k f x a =
    let b = tab_at k f in
    ext_get_or 0 x (tab k f) (a.size ∙ sym b.size) (λ i h. let g : i < k = omega (arith, a.size) in a.at i g ∙ sym (b.at i g))

pub between : (x : List ℕ) (a k : ℕ) → a + k ≤ length x → length (take (a + k - a) (drop a x)) ≡ k
between x a k h = let w : a + k - a ≡ k = omega arith in rw w (length-take-le k (drop a x) (simp length-drop (omega arith)))
