-- Tables that are written from a place on.
-- Laws: of a function's numbers over a level over_start, over_next, over_more (one number more), over_left (what is not written yet),
-- over_at, over_part (what is written), over_again (written twice); length-flags, length_kepts; flags_both (a level before the levels above
-- it).
-- Assumes nothing.
use Rattle.std.specs.Prelude.{◌≡◌, Bool, ℕ, suc, ◌+◌, ◌-◌, ◌≤◌, ◌<◌, length, get_or, take, set}
use Rattle.std.proofs.Common.{sym, ◌∙◌, ap, length-append, drop-cons, take_at, drop_at, take-take, length-take-le, get_or-append-add}
use mathlib.Core.List.{List, [], ◌∷◌, ◌++◌, map, map-append, append_assoc, append-nil}
use native.Mathlib.Omega.{arith}
use Rattle.std.proofs.Math.Dec.{eqb}
use Rattle.std.proofs.Math.ListN.{drop, take-append-drop, get_or-append}
use Rattle.std.proofs.lemmas.List.{length-map, set_at, get_or_at, take-append-le}
use Rattle.base.specs.Every.{get_d_map}
use Rattle.edges.specs.Pairs.{Pair}
use Rattle.lineage.specs.Olds.{flag_of}
use Rattle.kept.specs.Kept.{kept_of}
use Rattle.rows.specs.Numbered.{cell_at, part}
use Rattle.flagging.specs.Flags.{red_atb, flags_at, kepts_at}
use Rattle.base.specs.Range.{range, length-range, range_at, range_snoc}

-- one number more behind those that are written
written_more : (l p out : List ℕ) (n v : ℕ) → out ≡ p ++ drop n l → length p ≡ n → n < length l
    → set out n v ≡ (p ++ (v ∷ [])) ++ drop (suc n) l
written_more l p out n v e h g =
    ap (λ (x : List ℕ). set x n v) (e ∙ ap (λ (x : List ℕ). p ++ x) (drop-cons l n 0 g)) ∙ set_at p (get_or l n 0) (drop (suc n) l) v n h
    ∙ sym (append_assoc p (v ∷ []) (drop (suc n) l))

map_snoc : (f : ℕ → ℕ) (k m : ℕ) → map f (range k m) ++ (f (k + m) ∷ []) ≡ map f (range k (suc m))
map_snoc f k m = sym (ap (map f) (range_snoc k m) ∙ map-append f (range k m) ((k + m) ∷ []))

length-map-range : (f : ℕ → ℕ) (k m : ℕ) → length (map f (range k m)) ≡ m
length-map-range f k m = length-map (range k m) f ∙ length-range k m

-- the numbers of f from first to c are written
module _ (f : ℕ → ℕ) (l : List ℕ) (first : ℕ) where
  pub over_start : l ≡ (take first l ++ map f (range first (first - first))) ++ drop first l
  unfolding range
  over_start =
      let z : first - first ≡ 0 = omega arith in
      rw z (sym (ap (λ (x : List ℕ). x ++ drop first l) (append-nil (take first l)) ∙ take-append-drop first l))

  pub over_next : (c : ℕ) → first ≤ c → map f (range first (c + 1 - first)) ≡ map f (range first (c - first)) ++ (f c ∷ [])
  over_next c h =
      let z : first + (c - first) ≡ c = omega arith in
      let y : c + 1 - first ≡ suc (c - first) = omega arith in
      rw y (sym (rw z at (map_snoc f first (c - first))))

  front : (c : ℕ) → first ≤ c → first ≤ length l → length (take first l ++ map f (range first (c - first))) ≡ c
  front c h g =
      length-append (take first l) (map f (range first (c - first)))
      ∙ omega (arith, length-take-le first l g, length-map-range f first (c - first))

  module _ (out : List ℕ) (c : ℕ) (h : first ≤ c) (g : c < length l)
      (e : out ≡ (take first l ++ map f (range first (c - first))) ++ drop c l) where
    pub over_more : (v : ℕ) → v ≡ f c → set out c v ≡ (take first l ++ map f (range first (c + 1 - first))) ++ drop (c + 1) l
    over_more v q =
        let fs = map f (range first (c - first)) in
        let x : c + 1 ≡ suc c = omega arith in
        rw (over_next c h, x, ← q)
        (written_more l (take first l ++ fs) out c v e (front c h (omega arith)) g
        ∙ ap (λ (p : List ℕ). p ++ drop (suc c) l) (append_assoc (take first l) fs (v ∷ [])))

    -- what is not written yet
    pub over_left : get_or out c 0 ≡ get_or l c 0
    over_left =
        let fs = map f (range first (c - first)) in
        ap (λ (x : List ℕ). get_or x c 0) (e ∙ ap (λ (x : List ℕ). (take first l ++ fs) ++ x) (drop-cons l c 0 g))
        ∙ get_or_at (take first l ++ fs) (get_or l c 0) (drop (suc c) l) 0 c (front c h (omega arith))

-- a level's numbers
module _ (f : ℕ → ℕ) (l : List ℕ) (first last : ℕ) (h : first ≤ last) (g : last ≤ length l) (rest : List ℕ) where
  -- one of them
  pub over_at : (c : ℕ) → first ≤ c → c < last → get_or (take first l ++ (map f (range first (last - first)) ++ rest)) c 0 ≡ f c
  over_at c i j =
      let k : length (take first l) + (c - first) ≡ c = omega (arith, length-take-le first l (omega arith)) in
      let w : first + (c - first) ≡ c = omega arith in
      let fs = map f (range first (last - first)) in
      let n : length fs ≡ last - first = length-map-range f first (last - first) in
      let a : get_or (take first l ++ (fs ++ rest)) c 0 ≡ get_or (fs ++ rest) (c - first) 0 =
      rw k at (get_or-append-add (take first l) (fs ++ rest) (c - first) 0) in
      a ∙ get_or-append fs rest 0 (c - first) (omega arith)
      ∙ get_d_map f (range first (last - first)) (c - first) 0 0 (omega (arith, length-range first (last - first)))
      ∙ ap f (range_at first (last - first) (c - first) 0 (omega arith) ∙ w)

  -- all of them
  pub over_part : part (take first l ++ (map f (range first (last - first)) ++ rest)) first (last - first) ≡ map f
      (range first (last - first))
  over_part =
      let fs = map f (range first (last - first)) in
      ap (take (last - first)) (drop_at (take first l) (fs ++ rest) first (length-take-le first l (omega arith)))
      ∙ take_at fs rest (last - first) (length-map-range f first (last - first))

-- a level written over again
pub over_again : (l x y a b : List ℕ) (first last : ℕ) → first ≤ last → last ≤ length l → length x ≡ last - first
    → a ≡ take first l ++ (x ++ drop last l) → b ≡ take first a ++ (y ++ drop last a) → b ≡ take first l ++ (y ++ drop last l)
over_again l x y a b first last h g n e f =
    let k : length (take first l) ≡ first = length-take-le first l (omega arith) in
    let u : take first a ≡ take first l = ap (take first) e ∙ take_at (take first l) (x ++ drop last l) first k in
    let m : length (take first l ++ x) ≡ last = length-append (take first l) x ∙ omega arith in
    let v : drop last a ≡ drop last l =
    ap (drop last) (e ∙ sym (append_assoc (take first l) x (drop last l))) ∙ drop_at (take first l ++ x) (drop last l) last m in
    f ∙ rw (u, v)

module _ (t ss ms ks : List ℕ) (held : Pair → Bool) where
  pub length-flags : (k m : ℕ) → length (flags_at t ss ms ks held k m) ≡ m
  unfolding flags_at
  length-flags k m = length-map-range (λ k. flag_of (red_atb t ss ms ks held k)) k m

  pub length_kepts : (es : List Pair) (k m : ℕ) → length (kepts_at t ss ms ks held es k m) ≡ m
  unfolding kepts_at
  length_kepts es k m = length-map-range (λ k. kept_of 0 eqb es (red_atb t ss ms ks held k) (cell_at t k)) k m

-- what a level writes below what is written above it
pub flags_both : (l a b x y : List ℕ) (first last : ℕ) → first ≤ last → last ≤ length l → length x ≡ last - first
    → a ≡ take last l ++ (y ++ drop (last + length y) l)
    → b ≡ take first a ++ (x ++ drop last a) → b ≡ take first l ++ ((x ++ y) ++ drop (first + length (x ++ y)) l)
flags_both l a b x y first last h g n e f =
    let k : length (take last l) ≡ last = length-take-le last l g in
    let rest = drop (last + length y) l in
    let u : take first a ≡ take first l =
    ap (take first) e ∙ take-append-le first (take last l) (y ++ rest) (omega arith) ∙ take-take first last l h in
    let v : drop last a ≡ y ++ rest = ap (drop last) e ∙ drop_at (take last l) (y ++ rest) last k in
    let w : last + length y ≡ first + length (x ++ y) = omega (arith, length-append x y) in
    f ∙ rw (u, v, ← w, append_assoc x y rest)
