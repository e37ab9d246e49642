-- The order in which a part writes the messages of a round: by cell or slot, then by receiver; then the ends.
--   to_all ps t b     a message for the parts of the list ps that pass a test
--   order_of ps f p s   the messages with their receivers
-- Law: ordered (those for one part are what the part writes for it), where each part stands once in ps.
use Rattle.std.specs.Prelude.{◌≡◌, Bool, ◌&&◌, ℕ, ◌-◌, eqb}
use Rattle.std.proofs.Math.Path.{refl, sym, ap, ap₂, subst}
use Rattle.std.proofs.Common.{◌∙◌}
use Rattle.std.proofs.Math.Bool.{true, false, not}
use mathlib.Core.List.{List, [], ◌∷◌, ◌++◌, map, flat_map}
use Rattle.base.specs.Lists.{filterb}
use Rattle.base.specs.Bools.{not_both}
use Rattle.exchange.specs.Finite.{Finite}
use Rattle.exchange.specs.Protocol.{only, only_same, only_other}
use Rattle.rounds.specs.Task.{Task}
use Rattle.rounds.specs.Among.{is_same, is_not}
use Rattle.rounds.specs.Rounds.{Body, mark, count, total, end, Phase, marks, counts, totals, over, State, is_part, holdsb, ghost_marks}
use Rattle.rounds.specs.Rounds.{edge_counts, says, writing}

module _ {Part : Type 0} (F : Finite Part) (J : Task Part) (ps : List Part) where
  -- one message for the parts that pass a test
  unfoldable pub to_all : (Part → Bool) → Body → List (Part × Body)
  unfolding filterb
  to_all t b = map (λ q. (q, b)) (filterb t ps)

  abbrev pub otherb : Part → Part → Bool
  otherb p q = not (is_part F p q)

  unfoldable pub order_of : Phase → Part → State → List (Part × Body)
  unfolding flat_map to_all is_part holdsb
  order_of (marks i) p s =
      flat_map (λ c. to_all (λ q. otherb p q && (is_part F (J.family c) p && is_part F (J.owner c) q)) (mark c (s.red c)))
      (J.cells (J.top - i))
      ++ to_all (otherb p) end
  order_of (counts i) p s =
      flat_map (λ x. to_all (λ q. otherb p q && (holdsb F J p (J.top - i) x && (holdsb F J q (J.top - i) x && not (eqb (s.own x) 0))))
      (count x (s.own x))) (J.slots (J.top - i))
      ++ to_all (otherb p) end
  order_of totals p s = to_all (otherb p) (total s.total s.high) ++ to_all (otherb p) end
  order_of over p s = []

  -- each part stands once
  abbrev pub Once : Type 0
  Once = (q : Part) → filterb (λ y. is_part F q y) ps ≡ q ∷ []

  only_append : (q : Part) (l v : List (Part × Body)) → only F q (l ++ v) ≡ only F q l ++ only F q v
  unfolding only
  only_append q [] v = refl
  only_append q (t ∷ l) v = go (F.same? q t.0) (only_append q l v)
    where
      go : (d : Dec (q ≡ t.0)) → only F q (l ++ v) ≡ only F q l ++ only F q v
          → elim d [ yes e ↦ t.1 ∷ only F q (l ++ v) | no n ↦ only F q (l ++ v) ]
          ≡ elim d [ yes e ↦ t.1 ∷ only F q l | no n ↦ only F q l ] ++ only F q v
      go (yes e) i = ap (◌∷◌ t.1) i
      go (no n) i = i

  -- those of one message for one part
  unfoldable just : Bool → Body → List Body
  just true b = b ∷ []
  just false b = []

  keep : (f : Part → Bool) (y : Part) (l : List Part) → f y ≡ true → filterb f (y ∷ l) ≡ y ∷ filterb f l
  unfolding filterb
  keep f y l e = rw (e, filterb)

  skip : (f : Part → Bool) (y : Part) (l : List Part) → f y ≡ false → filterb f (y ∷ l) ≡ filterb f l
  unfolding filterb
  skip f y l e = rw (e, filterb)

  module _ (q : Part) (t : Part → Bool) (b : Body) where
    abbrev sends : List Part → List (Part × Body)
    sends l = map (λ y. (y, b)) (filterb t l)

    abbrev copies : List Part → List Body
    copies l = map (λ y. b) (filterb (λ y. is_part F q y) l)

    only_none : t q ≡ false → (l : List Part) → only F q (sends l) ≡ []
    unfolding only filterb
    only_none e [] = refl
    only_none e (y ∷ l) = go (F.same? q y) (t y) refl (only_none e l)
      where
        go : Dec (q ≡ y) → (c : Bool) → t y ≡ c → only F q (sends l) ≡ [] → only F q (sends (y ∷ l)) ≡ []
        go d false f i = ap (λ (l : List Part). only F q (map (λ y. (y, b)) l)) (skip t y l f) ∙ i
        go (yes d) true f i = not_both (t y) f (subst (λ z. t z ≡ false) d e)
        go (no d) true f i = ap (λ (l : List Part). only F q (map (λ y. (y, b)) l)) (keep t y l f) ∙ only_other F q y b (sends l) d ∙ i

    only_some : t q ≡ true → (l : List Part) → only F q (sends l) ≡ copies l
    unfolding only filterb
    only_some e [] = refl
    only_some e (y ∷ l) = go (F.same? q y) (t y) refl (only_some e l)
      where
        go : Dec (q ≡ y) → (c : Bool) → t y ≡ c → only F q (sends l) ≡ copies l → only F q (sends (y ∷ l)) ≡ copies (y ∷ l)
        go (yes d) c f i =
            let g : t y ≡ true = subst (λ z. t z ≡ true) d e in
            ap (λ (l : List Part). only F q (map (λ y. (y, b)) l)) (keep t y l g)
            ∙ subst (λ z. only F q ((z, b) ∷ sends l) ≡ b ∷ only F q (sends l)) d (only_same F q b (sends l))
            ∙ ap (◌∷◌ b) i ∙ sym (ap (map (λ y. b)) (keep (λ y. is_part F q y) y l (is_same F q y d)))
        go (no d) true f i =
            ap (λ (l : List Part). only F q (map (λ y. (y, b)) l)) (keep t y l f) ∙ only_other F q y b (sends l) d ∙ i
            ∙ sym (ap (map (λ y. b)) (skip (λ y. is_part F q y) y l (is_not F q y d)))
        go (no d) false f i =
            ap (λ (l : List Part). only F q (map (λ y. (y, b)) l)) (skip t y l f) ∙ i
            ∙ sym (ap (map (λ y. b)) (skip (λ y. is_part F q y) y l (is_not F q y d)))

    only_all : Once → only F q (to_all t b) ≡ just (t q) b
    unfolding to_all just
    only_all once = go (t q) refl
      where
        go : (c : Bool) → t q ≡ c → only F q (to_all t b) ≡ just (t q) b
        go true e = only_some e ps ∙ ap (map (λ y. b)) (once q) ∙ ap (λ (c : Bool). just c b) (sym e)
        go false e = only_none e ps ∙ ap (λ (c : Bool). just c b) (sym e)

  -- a rule for each number of a list
  only_spread : Once → (q : Part) (t : ℕ → Part → Bool) (f : ℕ → Body) (l : List ℕ)
      → only F q (flat_map (λ c. to_all (t c) (f c)) l) ≡ map f (filterb (λ c. t c q) l)
  unfolding flat_map filterb only just
  only_spread once q t f [] = refl
  only_spread once q t f (c ∷ l) =
      only_append q (to_all (t c) (f c)) (flat_map (λ c. to_all (t c) (f c)) l)
      ∙ ap₂ ◌++◌ (only_all q (t c) (f c) once) (only_spread once q t f l) ∙ go (t c q) refl
    where
      go : (a : Bool) → t c q ≡ a → just (t c q) (f c) ++ map f (filterb (λ c. t c q) l) ≡ map f (filterb (λ c. t c q) (c ∷ l))
      go true e = rw (e, just, filterb)
      go false e = rw (e, just, filterb)

  filter_none : (f : ℕ → Bool) (l : List ℕ) → ((c : ℕ) → f c ≡ false) → filterb f l ≡ []
  unfolding filterb
  filter_none f [] h = refl
  filter_none f (c ∷ l) h = rw (h c, filterb) (filter_none f l h)

  filter_same : (f g : ℕ → Bool) (l : List ℕ) → ((c : ℕ) → f c ≡ g c) → filterb f l ≡ filterb g l
  unfolding filterb
  filter_same f g [] h = refl
  filter_same f g (c ∷ l) h = ap₂ (λ (a : Bool) (v : List ℕ). elim a [ true ↦ c ∷ v | false ↦ v ]) (h c) (filter_same f g l h)

  to_none : Once → (p q : Part) (b : Body) → is_part F p q ≡ true → only F q (to_all (otherb p) b) ≡ []
  unfolding just
  to_none once p q b e = only_all q (otherb p) b once ∙ ap (λ (c : Bool). just (not c) b) e

  to_one : Once → (p q : Part) (b : Body) → is_part F p q ≡ false → only F q (to_all (otherb p) b) ≡ b ∷ []
  unfolding just
  to_one once p q b e = only_all q (otherb p) b once ∙ ap (λ (c : Bool). just (not c) b) e

  -- THOSE FOR ONE PART are what is written for it
  pub ordered : Once → (f : Phase) (p q : Part) (s : State) → only F q (order_of f p s) ≡ writing F J f p q s
  unfolding order_of writing just says ghost_marks edge_counts only
  ordered once f p q s = go (is_part F p q) refl f
    where
      go : (a : Bool) → is_part F p q ≡ a → (f : Phase) → only F q (order_of f p s) ≡ writing F J f p q s
      go true e (marks i) =
          only_append q (flat_map (λ c. to_all (λ q. otherb p q && (is_part F (J.family c) p && is_part F (J.owner c) q)) (mark c (s.red c)))
          (J.cells (J.top - i))) (to_all (otherb p) end)
          ∙ ap₂ ◌++◌ (only_spread once q (λ c q. otherb p q
          && (is_part F (J.family c) p && is_part F (J.owner c) q)) (λ c. mark c (s.red c)) (J.cells (J.top - i))
          ∙ ap (map (λ c. mark c (s.red c))) (filter_none (λ c. otherb p q
          && (is_part F (J.family c) p && is_part F (J.owner c) q)) (J.cells (J.top - i)) (λ c. rw e)))
          (to_none once p q end e) ∙ rw (e, writing)
      go true e (counts i) =
          only_append q (flat_map (λ x. to_all (λ q. otherb p q
          && (holdsb F J p (J.top - i) x && (holdsb F J q (J.top - i) x && not (eqb (s.own x) 0)))) (count x (s.own x)))
          (J.slots (J.top - i))) (to_all (otherb p) end)
          ∙ ap₂ ◌++◌ (only_spread once q (λ x q. otherb p q
          && (holdsb F J p (J.top - i) x && (holdsb F J q (J.top - i) x && not (eqb (s.own x) 0)))) (λ x. count x (s.own x))
          (J.slots (J.top - i))
          ∙ ap (map (λ x. count x (s.own x))) (filter_none (λ x. otherb p q
          && (holdsb F J p (J.top - i) x && (holdsb F J q (J.top - i) x && not (eqb (s.own x) 0)))) (J.slots (J.top - i)) (λ c. rw e)))
          (to_none once p q end e) ∙ rw (e, writing)
      go true e totals = only_append q (to_all (otherb p) (total s.total s.high)) (to_all (otherb p) end)
          ∙ ap₂ ◌++◌ (to_none once p q (total s.total s.high) e) (to_none once p q end e) ∙ rw (e, writing)
      go true e over = rw (e, writing)
      go false e (marks i) =
          only_append q (flat_map (λ c. to_all (λ q. otherb p q && (is_part F (J.family c) p && is_part F (J.owner c) q)) (mark c (s.red c)))
          (J.cells (J.top - i))) (to_all (otherb p) end)
          ∙ ap₂ ◌++◌ (only_spread once q (λ c q. otherb p q
          && (is_part F (J.family c) p && is_part F (J.owner c) q)) (λ c. mark c (s.red c)) (J.cells (J.top - i))
          ∙ ap (map (λ c. mark c (s.red c))) (filter_same (λ c. otherb p q
          && (is_part F (J.family c) p && is_part F (J.owner c) q)) (λ c. is_part F (J.family c) p
          && is_part F (J.owner c) q) (J.cells (J.top - i)) (λ c. rw e)))
          (to_one once p q end e) ∙ rw (e, writing)
      go false e (counts i) =
          only_append q (flat_map (λ x. to_all (λ q. otherb p q
          && (holdsb F J p (J.top - i) x && (holdsb F J q (J.top - i) x && not (eqb (s.own x) 0)))) (count x (s.own x)))
          (J.slots (J.top - i))) (to_all (otherb p) end)
          ∙ ap₂ ◌++◌ (only_spread once q (λ x q. otherb p q
          && (holdsb F J p (J.top - i) x && (holdsb F J q (J.top - i) x && not (eqb (s.own x) 0)))) (λ x. count x (s.own x))
          (J.slots (J.top - i))
          ∙ ap (map (λ x. count x (s.own x))) (filter_same (λ x. otherb p q
          && (holdsb F J p (J.top - i) x && (holdsb F J q (J.top - i) x && not (eqb (s.own x) 0)))) (λ x. holdsb F J p (J.top - i) x
          && (holdsb F J q (J.top - i) x && not (eqb (s.own x) 0))) (J.slots (J.top - i)) (λ c. rw e)))
          (to_one once p q end e) ∙ rw (e, writing)
      go false e totals = only_append q (to_all (otherb p) (total s.total s.high)) (to_all (otherb p) end)
          ∙ ap₂ ◌++◌ (to_one once p q (total s.total s.high) e) (to_one once p q end e) ∙ rw (e, writing)
      go false e over = rw (e, writing)
