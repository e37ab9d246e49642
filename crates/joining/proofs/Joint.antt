-- The entries of all parts, by part, in whatever order of the parts (specs/Joint).
-- Laws: order_count and order_within (so l has P numbers, each a part), joint_merged and joint_complete (what merging
-- makes of them), joint_old (the entries of a split table), joint_new (the entries
-- of the parts after the rounds).
use Rattle.std.specs.Prelude.{◌≡◌, ℕ, zero, suc, ◌≤◌, ◌<◌, T, length, get_or}
use Rattle.std.proofs.Math.Path.{refl, ap}
use Rattle.std.proofs.Common.{sym, ◌∙◌, subst, ⊎_elim, arith}
use mathlib.Core.List.Memᴰ
use mathlib.Core.List.{List, [], ◌∷◌, ◌++◌, map, flat_map, flatten, Memᴰ}
use Rattle.base.specs.Lists.{memberb}
use Rattle.soundness.specs.Sound.{Sound}
use Rattle.exchange.specs.Finite.{Finite}
use Rattle.base.specs.Member.{Member, member_head, member_tail, member_cases}
use Rattle.base.specs.Range.{range, length-range, member_range, range_member}
use Rattle.parts.specs.Owners.{ownersb}
use Rattle.parts.specs.Held.{Entry, entries_of}
use Rattle.parts.specs.Merge.{merged, completeb}
use Rattle.shares.specs.Settled.{Settled, entries_in}
use Rattle.shares.specs.Share.{Named, table_in}
use Rattle.base.specs.Distinct.{NoDup, no_more, place_of, mem_at}
use Rattle.merging.specs.Merge.{merged_table}
use Rattle.merging.specs.Complete.{complete_is}
use Rattle.merging.specs.Covered.{covered, split_apart}
use Rattle.merging.specs.All.{entries_all, entries_cover, all_apart}
use Rattle.joining.specs.Joint.{Order, Joint}

member_mem : (x : ℕ) (l : List ℕ) → Member x l → Memᴰ x l
unfolding memberb
member_mem x [] m = absurd m
member_mem x (y ∷ l) m =
    ⊎_elim (λ (e : x ≡ y). Memᴰ.head e) (λ (v : Member x l). Memᴰ.tail (member_mem x l v)) (member_cases x y l m)

mem_member : (x : ℕ) (l : List ℕ) → Memᴰ x l → Member x l
mem_member x [] m = absurd (Memᴰ.not-nil m)
mem_member x (y ∷ l) m =
    ⊎_elim (λ (e : x ≡ y). subst (λ (z : ℕ). Member x (z ∷ l)) e (member_head x l))
    (λ (v : Memᴰ x l). member_tail x y l (mem_member x l v)) (Memᴰ.cases_cons m)

range_apart : (k m : ℕ) → NoDup (range k m)
unfolding range
range_apart k zero = tt
range_apart k (suc m) = (
  (λ i. let (a, b) = member_range (suc k) m k (mem_member k (range (suc k) m) i) in absurd (omega arith)),
  range_apart (suc k) m,
)

module _ (P : ℕ) (l : List ℕ) (o : Order P l) where
  pub order_count : length l ≡ P
  order_count =
      let up = no_more l (range 1 P) o.once (λ x m.
      let (a, b) = (o.these x).0 (mem_member x l m) in
      member_mem x (range 1 P) (range_member 1 P x a (omega arith))) in
      let down = no_more (range 1 P) l (range_apart 1 P) (λ x m.
      let (a, b) = member_range 1 P x (mem_member x (range 1 P) m) in
      member_mem x l ((o.these x).1 a (omega arith))) in
      omega (arith, up, down, length-range 1 P)

  pub order_within : (j : ℕ) → j < length l → (1 ≤ get_or l j 0) × (get_or l j 0 ≤ P)
  order_within j h = (o.these (get_or l j 0)).0 (mem_member (get_or l j 0) l (mem_at 0 l j h))

module _ (n : ℕ) (qs : List (List ℕ)) (ss : List ℕ) (P : ℕ) (s : Sound n qs ss) where
  module _ (es : ℕ → List Entry) (j : Joint n qs ss P es) (l : List ℕ) (o : Order P l) where
    pub joint_merged : flatten (merged (flat_map es l) (length qs)) ≡ ss
    joint_merged = merged_table n qs ss (flat_map es l) (j.cover l o) s

    pub joint_complete : T (completeb (flat_map es l) (length qs))
    joint_complete = complete_is n qs ss (flat_map es l) s (j.cover l o) (j.apart l o)

  -- the table that was split
  pub joint_old : (os : List ℕ) → T (ownersb n qs ss P os) → Joint n qs ss P (entries_of n qs ss os)
  joint_old os t =
      record {
        cover = λ l o. covered n qs ss s P os t l (λ p. (o.these p).1);
        apart = λ l o. split_apart n qs ss s P os t l o.once;
      }

mem_map : {A : Type 0} (f : ℕ → A) (x : ℕ) {l : List ℕ} → Memᴰ x l → Memᴰ (f x) (map f l)
mem_map f x (Memᴰ.head e) = Memᴰ.head (ap f e)
mem_map f x (Memᴰ.tail m) = Memᴰ.tail (mem_map f x m)

-- after the rounds
module _ {Part : Type 0} {F : Finite Part} (X : Settled F) (P : ℕ) (part : ℕ → Part) (number : Part → ℕ) (names : Named P part number)
    (least : (p : Part) → 1 ≤ number p) (most : (p : Part) → number p ≤ P) where
  abbrev pub entries_at : ℕ → List Entry
  entries_at p = entries_in X (part p)

  flat_all : (l : List ℕ) → flat_map entries_at l ≡ entries_all X (map part l)
  unfolding flat_map entries_all
  flat_all [] = refl
  flat_all (p ∷ l) = ap (λ (es : List Entry). entries_at p ++ es) (flat_all l)

  named_once : (l : List ℕ) → ((j : ℕ) → j < length l → (1 ≤ get_or l j 0) × (get_or l j 0 ≤ P)) → NoDup l → NoDup (map part l)
  named_once [] w d = tt
  named_once (p ∷ l) w d = (
    (λ m.
        let (q, u, e) = Memᴰ.of_map part l m in
        let (j, h, g) = place_of 0 u in
        let (a, b) = w 0 (omega arith) in
        let (c, k) = w (suc j) (omega arith) in
        let v : q ≡ p = sym (names.forth q (rw g at c) (rw g at k)) ∙ ap number e ∙ names.forth p a b in
        d.0 (subst (λ (x : ℕ). Memᴰ x l) v u)),
    named_once l (λ j h. w (suc j) (omega arith)) d.1,
  )

  each_part : (l : List ℕ) → Order P l → (p : Part) → Memᴰ p (map part l)
  each_part l o p =
      subst (λ (x : Part). Memᴰ x (map part l)) (names.back p)
      (mem_map part (number p) (member_mem (number p) l ((o.these (number p)).1 (least p) (most p))))

  pub joint_new : Joint X.n X.qs (table_in X) P entries_at
  joint_new =
      record {
        cover = λ l o. rw (flat_all l) (entries_cover X (map part l) (each_part l o));
        apart = λ l o. rw (flat_all l) (all_apart X (map part l) (named_once l (order_within P l o) o.once));
      }
