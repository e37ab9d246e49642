-- Done stores of all parts, in any order, merge to the table that their masters are of.
-- Laws: joined_merges, joined_accepted and joined_table: THE THEOREM, that merging is accepted and makes the table.
use Rattle.std.specs.Prelude.{◌≡◌, refl, Bool, true, false, ℕ, suc, ◌+◌, ◌*◌, ◌≤◌, ◌<◌, T, length, get_or, take, drop}
use Rattle.std.proofs.Math.Path.{sym, ap}
use Rattle.std.proofs.Common.{◌∙◌, ap₂, add-zero, eqb→eq, ext_get_or, eq-eqb}
use mathlib.Core.List.{List, [], ◌∷◌, ◌++◌, map, flat_map}
use native.Mathlib.Omega.{arith}
use Rattle.std.proofs.Math.Dec.{eqb}
use Rattle.std.proofs.lemmas.List.{length-map}
use Rattle.base.specs.Bools.{is_true}
use Rattle.base.specs.Every.{get_d_map, any_at, all_each}
use Rattle.base.specs.Limits.{most_cells, most_parts, most_coarse_cells}
use Rattle.base.specs.Lists.{allb, anyb, member_place}
use Rattle.base.specs.Range.{range, length-range, range_at}
use Rattle.base.specs.Answer.{Accepted}
use Rattle.soundness.specs.Sound.{sound_parts}
use Rattle.parts.specs.Held.{Entry}
use Rattle.store.specs.Fields.{field, full, PART, PARTS, CORNERS, COARSE, RESULT, OWNER, CORNER}
use Rattle.store.specs.Header.{headerb}
use Rattle.store.specs.Headed.{Header, header_is}
use Rattle.store.specs.Stores.{store_in, stores_by, store_long, field_in, length-stores, stores_at}
use Rattle.held.specs.Held.{held_in}
use Rattle.merge.specs.Merge.{stores_in, alikeb, everyb, ownsb, corners_among, merge_cells, merge_entries, merge_table}
use Rattle.merge.specs.Merge.{merge_answer}
use Rattle.merge.specs.Merges.{Merges, merges_accepted}
use Rattle.merge.specs.Stores.{alike_yes}
use Rattle.joining.proofs.Joint.{order_count, order_within, joint_merged, joint_complete}
use Rattle.joining.specs.Done.{PartDone, header_agrees, done_same}
use Rattle.joining.specs.Joined.{Joining}

-- the first store that has a coarse cell
corners_first : (i : ℕ) (q : List ℕ) (xs : List (List ℕ))
    → ((j : ℕ) → j < length xs → ownsb i (get_or xs j []) ≡ true → take 4 (drop (CORNER + 4 * i) (get_or xs j [])) ≡ q)
    → T (anyb (ownsb i) xs) → corners_among xs i ≡ q
unfolding anyb corners_among
corners_first i q [] f t = absurd t
corners_first i q (x ∷ xs) f t = go (ownsb i x) refl (corners_first i q xs (λ j h. f (suc j) (omega arith)))
  where
    go : (c : Bool) → ownsb i x ≡ c → (T (anyb (ownsb i) xs) → corners_among xs i ≡ q) → corners_among (x ∷ xs) i ≡ q
    go true e r = rw (e, corners_among) (f 0 (omega arith) e)
    go false e r = rw (e, corners_among) (r (rw e at t))

map-all : (f : ℕ → List ℕ) (qs : List (List ℕ)) → ((i : ℕ) → i < length qs → f i ≡ get_or qs i []) → map f (range 0 (length qs)) ≡ qs
map-all f qs h =
    let m : length (map f (range 0 (length qs))) ≡ length qs = length-map (range 0 (length qs)) f ∙ length-range 0 (length qs) in
    ext_get_or [] (map f (range 0 (length qs))) qs m (λ i l.
    let g : i < length qs = omega arith in
    get_d_map f (range 0 (length qs)) i 0 [] (omega (arith, length-range 0 (length qs)))
    ∙ ap f (range_at 0 (length qs) i 0 g ∙ let z : 0 + i ≡ i = omega arith in z) ∙ h i g)

flat_same : (b : List ℕ) (es : ℕ → List Entry) (l : List ℕ) (k : ℕ)
    → ((j : ℕ) → j < length l → held_in (store_in b (k + j)) ≡ es (get_or l j 0))
    → flat_map held_in (map (store_in b) (range k (length l))) ≡ flat_map es l
unfolding flat_map range
flat_same b es [] k f = refl
flat_same b es (p ∷ l) k f =
    ap₂ ◌++◌ (ap (λ (j : ℕ). held_in (store_in b j)) (sym (add-zero k)) ∙ f 0 (omega arith))
    (flat_same b es l (suc k) (λ j h. let z : suc k + j ≡ k + suc j = omega arith in rw z (f (suc j) (omega arith))))

module _ (b : List ℕ) (P n result : ℕ) (qs : List (List ℕ)) (ss : List ℕ) (es : ℕ → List Entry) (X : ℕ → List ℕ) (l : List ℕ) where
  module _ (s : Joining b P n result qs ss es X l) where
    abbrev part_at : ℕ → ℕ
    part_at j = get_or l j 0

    same_at : (j : ℕ) → j < P → (k : ℕ) → k < full → field (store_in b j) k ≡ field (X (part_at j)) k
    same_at j h k g = field_in b j k g ∙ s.at j k h g

    done_at : (j : ℕ) → j < P → PartDone P n result qs (es (part_at j)) (part_at j) (store_in b j)
    done_at j h =
        let (a, c) = order_within P l s.order j (omega (arith, order_count P l s.order)) in
        let d = s.done (part_at j) a c in
        let few : j < most_parts = omega (arith, d.parts, (header_is (X (part_at j)) d.header).parts_most) in
        done_same (store_in b j) (X (part_at j)) (same_at j h) P n result qs (es (part_at j)) (part_at j)
        (omega (arith, store_long b j s.room few)) d

    first : PartDone P n result qs (es (part_at 0)) (part_at 0) (store_in b 0)
    first = done_at 0 s.some

    own : (k : ℕ) → k < full → field b k ≡ field (store_in b 0) k
    own k h = let z : full * 0 + k ≡ k = omega arith in sym (field_in b 0 k h ∙ ap (λ (i : ℕ). get_or b i 0) z)

    headed : Header (store_in b 0)
    headed = header_is (store_in b 0) first.header

    parts_are : field b PARTS ≡ P
    parts_are = own PARTS (omega arith) ∙ first.parts

    corners_are : field b CORNERS ≡ n
    corners_are = own CORNERS (omega arith) ∙ first.corners

    coarse_are : field b COARSE ≡ length qs
    coarse_are = own COARSE (omega arith) ∙ first.coarse

    stores_are : stores_in b ≡ stores_by b P
    unfolding stores_in
    stores_are = rw parts_are

    few : length qs ≤ most_coarse_cells
    few = omega (arith, headed.coarse_most, first.coarse)

    -- a part's place
    placed : (p : ℕ) → 1 ≤ p → p ≤ P → (j : ℕ) × (j < P) × (part_at j ≡ p)
    placed p a c = let (j, h, e) = member_place p l ((s.order.these p).1 a c) in (j, omega (arith, order_count P l s.order), e)

    found : (f : List ℕ → Bool) (j : ℕ) → j < P → f (store_in b j) ≡ true → T (anyb f (stores_by b P))
    found f j h e = any_at f [] (stores_by b P) j (omega (arith, length-stores b P)) (rw (stores_at b P j h, e) tt)

    alike_at : (j : ℕ) → j < P → T (alikeb b (store_in b j))
    alike_at j h =
        let d = done_at j h in
        let r : field (store_in b j) RESULT ≡ field b RESULT = d.ended ∙ sym (own RESULT (omega arith) ∙ first.ended) in
        let e : eqb (field (store_in b j) RESULT) (field b RESULT) ≡ alikeb b (store_in b j) =
        alike_yes b (store_in b j) (is_true (headerb (store_in b j)) d.header) d.stage (d.parts ∙ sym parts_are)
        (d.corners ∙ sym corners_are) (d.coarse ∙ sym coarse_are) in
        rw (← e, eq-eqb (field (store_in b j) RESULT) (field b RESULT) r) tt

    alike_all : T (allb (alikeb b) (stores_by b P))
    alike_all =
        all_each (alikeb b) [] (stores_by b P) (λ j h.
        let g : j < P = omega (arith, length-stores b P) in rw (stores_at b P j g) (alike_at j g))

    every_part : T (everyb (stores_by b P))
    unfolding everyb
    every_part =
        rw (length-stores b P) (all_each (λ p. anyb (λ x. eqb (field x PART) p) (stores_by b P)) 0 (range 1 P) (λ i h.
        let g : i < P = omega (arith, length-range 1 P) in
        let (j, k, e) = placed (1 + i) (omega arith) (omega arith) in
        rw (range_at 1 P i 0 g) (found (λ x. eqb (field x PART) (1 + i)) j k
        (eq-eqb (field (store_in b j) PART) (1 + i) ((done_at j k).part ∙ e)))))

    owned_at : (i : ℕ) → i < length qs → T (anyb (ownsb i) (stores_by b P))
    unfolding ownsb
    owned_at i h =
        let (p, a, c, o) = s.owner i h in
        let (j, k, e) = placed p a c in
        let u : field (store_in b j) (OWNER + i) ≡ p =
        same_at j k (OWNER + i) (omega (arith, few)) ∙ ap (λ (q : ℕ). field (X q) (OWNER + i)) e ∙ o in
        found (ownsb i) j k (eq-eqb (field (store_in b j) (OWNER + i)) (field (store_in b j) PART) (u ∙ sym ((done_at j k).part ∙ e)))

    owned_all : T (allb (λ i. anyb (ownsb i) (stores_by b P)) (range 0 (length qs)))
    owned_all =
        all_each (λ i. anyb (ownsb i) (stores_by b P)) 0 (range 0 (length qs)) (λ i h.
        let g : i < length qs = omega (arith, length-range 0 (length qs)) in
        let z : 0 + i ≡ i = omega arith in
        rw (range_at 0 (length qs) i 0 g, z) (owned_at i g))

    cells_are : merge_cells (stores_by b P) (length qs) ≡ qs
    unfolding merge_cells ownsb
    cells_are =
        map-all (corners_among (stores_by b P)) qs (λ i h.
        corners_first i (get_or qs i []) (stores_by b P) (λ j k.
        let g : j < P = omega (arith, length-stores b P) in
        rw (stores_at b P j g) (λ e.
        let d = done_at j g in
        d.corner i h (eqb→eq (field (store_in b j) (OWNER + i)) (field (store_in b j) PART) (rw e tt) ∙ d.part)))
        (owned_at i h))

    entries_are : merge_entries (stores_by b P) ≡ flat_map es l
    unfolding merge_entries
    entries_are =
        rw (← order_count P l s.order) (flat_same b es l 0 (λ j h.
        let z : 0 + j ≡ j = omega arith in rw z (done_at j (omega (arith, order_count P l s.order))).held))

    table_is : merge_table (stores_by b P) (length qs) ≡ ss
    unfolding merge_table
    table_is = rw entries_are (joint_merged n qs ss P (sound_parts n qs ss s.sound) es s.joint l s.order)

    joined_merges : Merges b
    joined_merges =
        record {
          header = rw (header_agrees b (store_in b 0) (λ k h. own k (omega arith))) first.header;
          alike = rw stores_are alike_all;
          every = rw stores_are every_part;
          owned = rw (stores_are, coarse_are) owned_all;
          cells = rw (stores_are, coarse_are, corners_are, cells_are) s.cells;
          complete = rw (stores_are, coarse_are, entries_are)
              (joint_complete n qs ss P (sound_parts n qs ss s.sound) es s.joint l s.order);
          sound = rw (stores_are, coarse_are, corners_are, cells_are, table_is) s.sound;
        }

    -- THE THEOREM: merging is accepted, and the table is the one whose masters they hold
    pub joined_table : merge_table (stores_in b) (field b COARSE) ≡ ss
    joined_table = rw (stores_are, coarse_are) table_is

    pub joined_accepted : (t : List ℕ) → most_cells ≤ length t → merge_answer b t ≡ Accepted
    joined_accepted t h = merges_accepted b t s.room h joined_merges
