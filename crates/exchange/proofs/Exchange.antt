-- The laws of lists of calls: each part's store is the one that its place determines, some call moves the exchange on, such calls are bounded.
use Prim.Native.Nat.{ℕ, zero, suc, ◌+◌, ◌≤◌, ◌<◌, pred, ◌-◌, Fin}
use native.Mathlib.Omega.{arith}
use Rattle.std.proofs.Math.Decide.{dec_lt, le_ind}
use Rattle.std.proofs.Math.Nat.{le_refl, le_trans}
use Rattle.std.proofs.Math.Path.{◌≡◌, refl, sym, ap, subst, fun_ext}
use Rattle.std.proofs.Common.{subst₂, ◌∙◌, get_or-set_same, get_or-set_other}
use Rattle.std.specs.Prelude.{◌⊎◌, Bool, get_or, set}
use Rattle.std.proofs.Math.Logic.{inl, inr, ⊎_elim}
use Rattle.std.proofs.Math.Bool.{true, false}
use Rattle.std.proofs.Math.Option.{Option, none, some, Option-elim}
use mathlib.Core.List.{List, [], ◌∷◌, ◌++◌, append-nil, append_assoc, Memᴰ}
use Rattle.std.proofs.Math.Dec.{eqb}
use Rattle.std.proofs.Math.ListN.{length, length-set}
use borrow.Author.Tests.{eq-eqb, ne_eqb, eqb-true}
use Rattle.exchange.specs.Calls.{Request, Start, Step, Fetch, Hand, Call, World, Program, answer, changed, play, moves, begun}
use Rattle.exchange.specs.Calls.{started_with, to_come, IsWritten, Fair, Lawful}
use Rattle.exchange.specs.Played.{mem_get_d, get_d_mem, answer_at_lem, answer_there, play_none, play_some, moves_none, moves_some}
use Rattle.exchange.specs.Played.{lawful_none, lawful_some, started_none, started_some, play_append, moves_append}
use Rattle.exchange.specs.Played.{lawful_split, started_append}
use Rattle.exchange.specs.Finite.{Finite, parts, sum_over, sum_le, sum_lt, find, upd, upd_all, upd_same, upd_other}
use Rattle.exchange.specs.Places.{Place, Plan, Ok, Counted, Laws, Live, home, on, took, gave, ok_on, ok_begin, ok_give}
use Rattle.exchange.specs.Places.{ok-take}
use Rattle.exchange.specs.Exchange.{store_at, more_lawful}

mono : (f : ℕ → ℕ) → ((n : ℕ) → f n ≤ f (suc n)) → (a b : ℕ) → a ≤ b → f a ≤ f b
mono f up a b h = le_ind {n = a} (λ m. f a ≤ f m) (omega arith) (λ m _ ih. omega (arith, up m, ih)) b h

-- whether a request is a start
unfoldable startb : {In Msg : Type 0} → Request In Msg → Bool
startb (Start i) = true
startb Step = false
startb Fetch = false
startb (Hand m) = false

module _ {In Msg Store : Type 0} (P : ℕ) (act : Program In Msg Store) (void : Store) (E : Plan (Fin P) In Msg Store) where
  abbrev F : Finite (Fin P)
  F = parts P

  abbrev AtHome : (w : World Msg Store) → Type 0
  AtHome = Rattle.exchange.specs.Exchange.AtHome P act void E

  -- a message of the exchange
  Real : Msg → Type 0
  Real m = (q : Fin P) × (j : ℕ) × (j < E.written E.last q) × (m ≡ E.msg q j)

  -- one that was fetched
  Gone : (Fin P → Place (Fin P)) → Msg → Type 0
  Gone g m = (q : Fin P) × (j : ℕ) × (j < (g q).fetched) × (m ≡ E.msg q j)

  record Inv (w : World Msg Store) (g : Fin P → Place (Fin P)) : Type 0 where
    many : length w.stores ≡ P
    same : (p : Fin P) → E.Is p (g p) (store_at void w p)
    ok : (p : Fin P) → Ok E p (g p)
    gone : (m : Msg) → Memᴰ m w.given → Gone g m
    full : (q : Fin P) (j : ℕ) → j < (g q).fetched → Memᴰ (E.msg q j) w.given

  size : Place (Fin P) → ℕ
  size g = g.phase + sum_over g.taken F.list + g.fetched

  total : (Fin P → Place (Fin P)) → ℕ
  total g = sum_over (λ p. size (g p)) F.list

  -- where an accepted call leads its part; c is what was asked
  record Moved (c : Request In Msg) (p : Fin P) (g : Place (Fin P)) (y : Store × List Msg) : Type 0 where
    to : Place (Fin P)
    store_is : E.Is p to y.0
    fine : Ok E p to
    more : size g < size to
    rises : g.phase ≤ to.phase
    woken : startb c ≡ true → g.phase ≡ 0
    awake : 0 < to.phase
    before : startb c ≡ false → 0 < g.phase
    kept : g.fetched ≤ to.fetched
    gone_out : (m : Msg) → Memᴰ m y.1 → (j : ℕ) × (j < to.fetched) × (m ≡ E.msg p j)
    logged : (j : ℕ) → j < to.fetched → (j < g.fetched) ⊎ Memᴰ (E.msg p j) y.1

  module _ (K : Laws F act E) where
    abbrev N : Counted E
    N = K.counted

    reach : (q : Fin P) (φ : ℕ) → φ ≤ E.last → E.written φ q ≤ E.written E.last q
    reach q φ h = mono (λ x. E.written x q) (λ x. N.written_up x q) φ E.last h

    real_comes : (q : Fin P) (m : Msg) (n : ℕ) (x : Store) → Memᴰ m (to_come act n x) → (g : Place (Fin P)) → Ok E q g → E.Is q g x
        → Real m
    unfolding to_come Real Option-elim
    real_comes q m zero x i g o a = absurd (mathlib.Core.List.Memᴰ.not-nil i)
    real_comes q m (suc n) x i g o a = go (act Fetch x) refl (λ y k h t b. real_comes q m n y k h t b)
      where
        go : (r : Option (Store × List Msg)) → act Fetch x ≡ r
            → ((y : Store) → Memᴰ m (to_come act n y) → (h : Place (Fin P)) → Ok E q h → E.Is q h y → Real m) → Real m
        go none e r = absurd (mathlib.Core.List.Memᴰ.not-nil (rw (e, Option-elim) at i))
        go (some y) e r =
            let j : Memᴰ m (y.1 ++ to_come act n y.0) = rw (e, Option-elim) at i in
            let (s, f, b, l) = K.fetch_is q g o x a y e in
            ⊎_elim (λ k. (q, g.fetched, omega (arith, f, reach q g.phase o.top), mathlib.Core.List.Memᴰ.eq_of_singleton (rw l at k)))
            (λ k. r y.0 k (gave g) (ok_give F E N q g o f) b)
            (mathlib.Core.List.Memᴰ.append_cases y.1 j)

    known_real : (w : World Msg Store) (g : Fin P → Place (Fin P)) → Inv w g → (m : Msg) → IsWritten act w m → Real m
    unfolding IsWritten Gone Real
    known_real w g v m (inl i) =
        let (q, j, h, e) = v.gone m i in
        (q, j, omega (arith, h, (v.ok q).sent, reach q (g q).phase (v.ok q).top), e)
    known_real w g v m (inr (x, s, n, i)) =
        let (j, h, e) = get_d_mem void s in
        let q : Fin P = (j, omega (arith, h, v.many)) in
        real_comes q m n x i (g q) (v.ok q) (subst (E.Is q (g q)) e (v.same q))

    on_moved : (c : Request In Msg) (p : Fin P) (g : Place (Fin P)) → Ok E p (on g) → (startb c ≡ true → g.phase ≡ 0)
        → (startb c ≡ false → 0 < g.phase)
        → (y : Store × List Msg) → E.Is p (on g) y.0 → y.1 ≡ [] → Moved c p g y
    unfolding size
    on_moved c p g o u v y a e = record {
      to = on g;
      store_is = a;
      fine = o;
      more = omega arith;
      rises = omega arith;
      woken = u;
      awake = omega arith;
      before = v;
      kept = omega arith;
      gone_out = λ m i. absurd (mathlib.Core.List.Memᴰ.not-nil (rw e at i));
      logged = λ j k. inl k;
    }

    take_more : (q : Fin P) (g : Place (Fin P)) → sum_over g.taken F.list < sum_over (took F q g).taken F.list
    take_more q g = sum_lt g.taken (took F q g).taken
        (upd_all F {C = ℕ} (λ r a _. g.taken r ≤ a) g.taken g.taken q (suc (g.taken q)) 0 (omega arith) (λ r. le_refl _))
        (F.all q) (rw upd_same (omega arith))

    take-moved : (m : Msg) (p q : Fin P) (g : Place (Fin P)) → Ok E p g → 0 < g.phase → g.taken q < E.count g.phase q p
        → (y : Store × List Msg) → E.Is p (took F q g) y.0 → y.1 ≡ [] → Moved (Hand m) p g y
    unfolding size startb
    take-moved m p q g o s l y a e = record {
      to = took F q g;
      store_is = a;
      fine = ok-take F E N p g o q l;
      more = omega (arith, take_more q g);
      rises = omega arith;
      woken = λ e. differ e;
      awake = s;
      before = λ e. s;
      kept = omega arith;
      gone_out = λ m i. absurd (mathlib.Core.List.Memᴰ.not-nil (rw e at i));
      logged = λ j k. inl k;
    }
      where
        differ : false ≡ true → g.phase ≡ 0
        differ e = let z : ◌≡◌ {A = ℕ} 0 1 = cc in absurd (omega arith)

    give_moved : (p : Fin P) (g : Place (Fin P)) → Ok E p g → 0 < g.phase → g.fetched < E.written g.phase p
        → (y : Store × List Msg) → E.Is p (gave g) y.0 → y.1 ≡ E.msg p g.fetched ∷ [] → Moved Fetch p g y
    unfolding size startb
    give_moved p g o s l y a e = record {
      to = gave g;
      store_is = a;
      fine = ok_give F E N p g o l;
      more = omega arith;
      rises = omega arith;
      woken = λ e. differ e;
      awake = s;
      before = λ e. s;
      kept = omega arith;
      gone_out = λ m i. (g.fetched, omega arith, mathlib.Core.List.Memᴰ.eq_of_singleton (rw e at i));
      logged = λ j k. split j k (dec_lt j g.fetched);
    }
      where
        differ : false ≡ true → g.phase ≡ 0
        differ e = let z : ◌≡◌ {A = ℕ} 0 1 = cc in absurd (omega arith)

        split : (j : ℕ) → j < suc g.fetched → Dec (j < g.fetched) → (j < g.fetched) ⊎ Memᴰ (E.msg p j) y.1
        split j k (yes h) = inl h
        split j k (no h) = let z : j ≡ g.fetched = omega arith in inr (rw e (mathlib.Core.List.Memᴰ.head (ap (E.msg p) z)))

    -- what holds of the calls that were made: each part was started with its input
    moved : (w : World Msg Store) (g : Fin P → Place (Fin P)) → Inv w g → (p : Fin P) (c : Request In Msg) → Fair act c w
        → ((g p).phase ≡ 0 → (i : In) → c ≡ Start i → i ≡ E.input p) → (y : Store × List Msg) → act c (store_at void w p) ≡ some y
        → Moved c p (g p) y
    unfolding Fair startb Real
    moved w g v p (Start i) fair meant y e =
        let (z, k) = K.start_is p (g p) (v.ok p) _ (v.same p) i y e in
        let (a, b) = k (meant z i refl) in
        on_moved (Start i) p (g p) (ok_begin F E N p (g p) (v.ok p) z) (λ _. z) (λ e. differ e) y a b
      where
        differ : true ≡ false → 0 < (g p).phase
        differ e = let z : ◌≡◌ {A = ℕ} 0 1 = cc in absurd (omega arith)
    moved w g v p Step fair meant y e =
        let (s, l, h, a, b) = K.step_is p (g p) (v.ok p) _ (v.same p) y e in
        on_moved Step p (g p) (ok_on F E N p (g p) (v.ok p) l h) (λ e. differ e) (λ _. s) y a b
      where
        differ : false ≡ true → (g p).phase ≡ 0
        differ e = let z : ◌≡◌ {A = ℕ} 0 1 = cc in absurd (omega arith)
    moved w g v p Fetch fair meant y e =
        let (s, l, a, b) = K.fetch_is p (g p) (v.ok p) _ (v.same p) y e in
        give_moved p (g p) (v.ok p) s l y a b
    moved w g v p (Hand m) fair meant y e =
        let (q, j, h, z) = known_real w g v m fair in
        let (s, l, a, b) = K.hand_is p (g p) (v.ok p) _ (v.same p) q j h y (subst (λ n. act (Hand n) (store_at void w p) ≡ some y) z e) in
        take-moved m p q (g p) (v.ok p) s l y a b

    -- the stores after a call
    store-set : (xs : List Store) (p : Fin P) (x : Store) → length xs ≡ P → (q : Fin P)
        → upd F (λ (r : Fin P). get_or xs r.0 void) p x q ≡ get_or (set xs p.0 x) q.0 void
    store-set xs p x h q =
        elim (F.same? q p) [
          | yes e ↦
              subst (λ r. upd F (λ (r : Fin P). get_or xs r.0 void) p x r ≡ get_or (set xs p.0 x) r.0 void) (sym e)
              (upd_same F (λ (r : Fin P). get_or xs r.0 void) p x ∙ sym (get_or-set_same xs p.0 x void (omega (arith, p.1))))
          | no n ↦ upd_other F (λ (r : Fin P). get_or xs r.0 void) p x q n
              ∙ sym (get_or-set_other xs p.0 q.0 x void (λ e. n (native.Mathlib.Fin.val_path e)))
        ]

    inv_moved : (w : World Msg Store) (g : Fin P → Place (Fin P)) → Inv w g
        → (c : Request In Msg) (p : Fin P) (y : Store × List Msg) (d : Moved c p (g p) y)
        → Inv (changed act p.0 w (some y)) (upd F g p d.to)
    unfolding changed Gone
    inv_moved w g v c p y d = record {
      many = length-set w.stores p.0 y.0 ∙ v.many;
      same = λ q. subst (E.Is q (upd F g p d.to q)) (store-set w.stores p y.0 v.many q)
          (upd_all F (λ q x h. E.Is q h x) (store_at void w) g p y.0 d.to d.store_is v.same q);
      ok = upd_all F {C = ℕ} (λ q h _. Ok E q h) g (λ q. 0) p d.to 0 d.fine v.ok;
      gone = λ m i. ⊎_elim
          (λ (t : Memᴰ m y.1).
          let (j, h, e) = d.gone_out m t in
          (p, j, subst (λ (t : Place (Fin P)). j < t.fetched) (sym (upd_same F g p d.to)) h, e))
          (λ (t : Memᴰ m w.given).
          let (q, j, h, e) = v.gone m t in
          let up = upd_all F {C = ℕ} (λ q t _. (g q).fetched ≤ t.fetched) g (λ q. 0) p d.to 0 d.kept (λ q. le_refl _) q in
          (q, j, le_trans h up, e))
          (mathlib.Core.List.Memᴰ.append_cases y.1 i);
      full = upd_all F {C = ℕ} (λ q h _. (j : ℕ) → j < h.fetched → Memᴰ (E.msg q j) (y.1 ++ w.given)) g (λ q. 0) p d.to 0
          (λ j k. ⊎_elim (λ l. mathlib.Core.List.Memᴰ.append_right y.1 (v.full p j l)) (mathlib.Core.List.Memᴰ.append_left w.given) (d.logged j k))
          (λ q j k. mathlib.Core.List.Memᴰ.append_right y.1 (v.full q j k));
    }

    total_more : (g : Fin P → Place (Fin P)) (p : Fin P) (h : Place (Fin P)) → size (g p) < size h → total g < total (upd F g p h)
    unfolding total
    total_more g p h l = sum_lt (λ q. size (g q)) (λ q. size (upd F g p h q))
        (upd_all F {B = Place (Fin P)} {C = ℕ} (λ q k _. size (g q) ≤ size k) g (λ q. 0) p h 0 (omega arith) (λ q. le_refl _))
        (F.all p) (rw upd_same l)

    -- the parts that are still at home start with their inputs
    Meant : List (Call In Msg) → World Msg Store → (Fin P → Place (Fin P)) → Type 0
    Meant cs w g = (p : Fin P) → (g p).phase ≡ 0 → (i : In) → started_with act cs w p.0 ≡ some i → i ≡ E.input p

    -- what a list of calls comes to
    record Went (cs ds : List (Call In Msg)) (w : World Msg Store) (g : Fin P → Place (Fin P)) : Type 0 where
      places : Fin P → Place (Fin P)
      inv : Inv (play act cs w) places
      grown : moves act cs w + total g ≤ total places
      risen : (p : Fin P) → (g p).phase ≤ (places p).phase
      starts : (p : Fin P) → 0 < (places p).phase → (0 < (g p).phase) ⊎ ((i : In) × (started_with act cs w p.0 ≡ some i))
      rest : Meant ds (play act cs w) places

    -- a start of another part
    begun_other : (p q : ℕ) (c : Request In Msg) (r : Option In) → (p ≡ q → ⊥) → begun act p q c true r ≡ r
    unfolding begun
    begun_other p q (Start i) r h = rw (ne_eqb p q h, begun)
    begun_other p q Step r h = refl
    begun_other p q Fetch r h = refl
    begun_other p q (Hand m) r h = refl

    begun_start : (p : ℕ) (i : In) (r : Option In) → begun act p p (Start i) true r ≡ some i
    unfolding begun
    begun_start p i r = rw (eq-eqb p p refl, begun)

    begun_which : (p q : ℕ) (c : Request In Msg) (i : In) → begun act p q c true none ≡ some i → (c ≡ Start i) × (p ≡ q)
    unfolding begun
    begun_which p q (Start j) i e = go (eqb p q) refl
      where
        go : (b : Bool) → eqb p q ≡ b → (◌≡◌ {A = Request In Msg} (Start j) (Start i)) × (p ≡ q)
        go true z = let f : ◌≡◌ {A = Option In} (some j) (some i) = rw (z, begun) at e in (ap Start cc, eqb-true p q z)
        go false z = absurd (never (rw (z, begun) at e))
          where
            never : ◌≡◌ {A = Option In} none (some i) → ⊥
            never f = let y : ◌≡◌ {A = ℕ} 0 1 = cc in absurd (omega arith)
    begun_which p q Step i e = let y : ◌≡◌ {A = ℕ} 0 1 = cc in absurd (omega arith)
    begun_which p q Fetch i e = let y : ◌≡◌ {A = ℕ} 0 1 = cc in absurd (omega arith)
    begun_which p q (Hand m) i e = let y : ◌≡◌ {A = ℕ} 0 1 = cc in absurd (omega arith)

    -- a call that is refused
    went_none : (c : Call In Msg) (cs ds : List (Call In Msg)) (w : World Msg Store) (g : Fin P → Place (Fin P)) → answer act c w ≡ none
        → Went cs ds w g → Went (c ∷ cs) ds w g
    went_none c cs ds w g e b = record {
      places = b.places;
      inv = subst (λ u. Inv u b.places) (sym (play_none act c cs w e)) b.inv;
      grown = omega (arith, b.grown, moves_none act c cs w e);
      risen = b.risen;
      starts = λ p h. ⊎_elim inl (λ (k : (i : In) × (started_with act cs w p.0 ≡ some i)).
          inr (k.0, started_none act c cs w p.0 e ∙ k.1)) (b.starts p h);
      rest = subst (λ u. Meant ds u b.places) (sym (play_none act c cs w e)) b.rest;
    }

    -- a call that is accepted
    module _ (c : Call In Msg) (cs ds : List (Call In Msg)) (w : World Msg Store) (g : Fin P → Place (Fin P)) (y : Store
        × List Msg) (e : answer act c w ≡ some y)
        (p : Fin P) (here : p.0 ≡ c.part) (d : Moved c.request p (g p) y) where
      abbrev next : World Msg Store
      next = changed act c.part w (some y)

      abbrev there : Fin P → Place (Fin P)
      there = upd F g p d.to

      tail_other : (q : Fin P) → (q ≡ p → ⊥) → (ds : List (Call In Msg))
          → started_with act (c ∷ ds) w q.0 ≡ started_with act ds next q.0
      tail_other q n ds = started_some act c ds w q.0 y e
          ∙ begun_other q.0 c.part c.request _ (λ z. n (native.Mathlib.Fin.val_path (z ∙ sym here)))

      meant_next : Meant (c ∷ (cs ++ ds)) w g → Meant (cs ++ ds) next there
      unfolding Meant
      meant_next m q z i f =
          elim (F.same? q p) [
            | yes n ↦ absurd (omega (
              arith,
              d.awake,
              subst (λ r. (upd F g p d.to r).phase ≡ 0) n z,
              ap (λ (h : Place (Fin P)). h.phase) (upd_same F g p d.to),
            ))
            | no n ↦ m q (subst (λ (h : Place (Fin P)). h.phase ≡ 0) (upd_other F g p d.to q n) z) i (tail_other q n (cs ++ ds) ∙ f)
          ]

      started_now : (q : Fin P) → q ≡ p → (k : Request In Msg) → c.request ≡ k → (0 < (g q).phase)
          ⊎ ((i : In) × (started_with act (c ∷ cs) w q.0 ≡ some i))
      unfolding startb
      started_now q n (Start i) z = inr (
        i,
        started_some act c cs w q.0 y e
            ∙ ap (λ k. begun act q.0 c.part k true (started_with act cs next q.0)) z
            ∙ ap (λ r. begun act q.0 r (Start i) true (started_with act cs next q.0)) (sym here ∙ ap (λ (r : Fin P). r.0) (sym n))
            ∙ begun_start q.0 i (started_with act cs next q.0),
      )
      started_now q n Step z = inl (subst (λ r. 0 < (g r).phase) (sym n) (d.before (ap startb z)))
      started_now q n Fetch z = inl (subst (λ r. 0 < (g r).phase) (sym n) (d.before (ap startb z)))
      started_now q n (Hand m) z = inl (subst (λ r. 0 < (g r).phase) (sym n) (d.before (ap startb z)))

      went_some : Went cs ds next there → Went (c ∷ cs) ds w g
      went_some b = record {
        places = b.places;
        inv = subst (λ u. Inv u b.places) (sym (play_some act c cs w y e)) b.inv;
        grown = omega (arith, b.grown, moves_some act c cs w y e, total_more g p d.to d.more);
        risen = λ q. le_trans (upd_all F {C = ℕ} (λ q h _. (g q).phase ≤ h.phase) g (λ q. 0) p d.to 0 d.rises (λ q. le_refl _) q)
            (b.risen q);
        starts = λ q h. elim (F.same? q p) [
          | yes n ↦ started_now q n c.request refl
          | no n ↦ ⊎_elim (λ (k : 0 < (there q).phase). inl (subst (λ (h : Place (Fin P)). 0 < h.phase) (upd_other F g p d.to q n) k))
              (λ (k : (i : In) × (started_with act cs next q.0 ≡ some i)). inr (k.0, tail_other q n cs ∙ k.1)) (b.starts q h)
        ];
        rest = subst (λ u. Meant ds u b.places) (sym (play_some act c cs w y e)) b.rest;
      }

    went : (cs ds : List (Call In Msg)) (w : World Msg Store) (g : Fin P → Place (Fin P)) → Inv w g → Lawful act cs w → Meant (cs ++ ds) w g
        → Went cs ds w g
    unfolding play moves Meant answer
    went [] ds w g v h m = record { places = g; inv = v; grown = omega arith; risen = λ p. le_refl _; starts = λ p l. inl l; rest = m }
    went (c ∷ cs) ds w g v h m = go (answer act c w) refl (went cs ds)
      where
        go : (o : Option (Store × List Msg)) → answer act c w ≡ o
            → ((u : World Msg Store) (k : Fin P → Place (Fin P)) → Inv u k → Lawful act cs u → Meant (cs ++ ds) u k → Went cs ds u k)
            → Went (c ∷ cs) ds w g
        go none e r = went_none c cs ds w g e (r w g v (lawful_none act c cs w e h)
            (λ p z i f. m p z i (started_none act c (cs ++ ds) w p.0 e ∙ f)))
        go (some y) e r =
            let l : c.part < length w.stores = answer_there act void c.request w.stores c.part y e in
            let p : Fin P = (c.part, subst (λ (n : ℕ). c.part < n) v.many l) in
            let (f, t) = lawful_some act c cs w y e h in
            let a : act c.request (store_at void w p) ≡ some y = sym (answer_at_lem act void c.request w.stores c.part l) ∙ e in
            let d = moved w g v p c.request f (λ z i k. m p z i (started_some act c (cs ++ ds) w c.part y e
            ∙ ap (λ k. begun act c.part c.part k true (started_with act (cs ++ ds) (changed act c.part w (some y)) c.part)) k
            ∙ begun_start c.part i (started_with act (cs ++ ds) (changed act c.part w (some y)) c.part))) y a in
            went_some c cs ds w g y e p refl d
            (r (changed act c.part w (some y)) (upd F g p d.to) (inv_moved w g v c.request p y d) t
            (meant_next c cs ds w g y e p refl d m))

    homely : (w : World Msg Store) → AtHome w → Inv w home
    homely w b = record {
      many = b.all;
      same = b.homes;
      ok = λ p. record { top = omega arith; low = λ q. N.none_yet q p; high = λ q. omega arith; sent = omega arith };
      gone = λ m i. absurd (mathlib.Core.List.Memᴰ.not-nil (rw b.empty at i));
      full = λ q j h. absurd (omega arith);
    }

    abbrev Inputs : List (Call In Msg) → World Msg Store → Type 0
    Inputs = Rattle.exchange.specs.Exchange.Inputs P act void E K

    module _ (w : World Msg Store) (b : AtHome w) (cs : List (Call In Msg)) where
      all_went : (ds : List (Call In Msg)) → Lawful act cs w → Inputs (cs ++ ds) w → Went cs ds w home
      unfolding Meant
      all_went ds h m = went cs ds w home (homely w b) h (λ p _ i e. m p i e)

      only_went : Lawful act cs w → Inputs cs w → Went cs [] w home
      only_went h m = all_went [] h (rw append-nil m)

      -- DETERMINISM: after any calls each part's store is one of its place, and its messages that were fetched are given
      pub determined : Lawful act cs w → Inputs cs w → (p : Fin P) → (g : Place (Fin P)) × Ok E p g
          × E.Is p g (store_at void (play act cs w) p)
          × ((j : ℕ) → j < g.fetched → Memᴰ (E.msg p j) (play act cs w).given)
      determined h m p = let k = only_went h m in (k.places p, k.inv.ok p, k.inv.same p, k.inv.full p)

      -- AND NO OTHERS: each message that was given is one that its sender had written up to its phase
      pub given_only : Lawful act cs w → Inputs cs w → (m : Msg) → Memᴰ m (play act cs w).given
          → (q : Fin P) × (j : ℕ) × (E.phase_of_lem q (store_at void (play act cs w) q) ≤ E.last)
          × (j < E.written (E.phase_of_lem q (store_at void (play act cs w) q)) q) × (m ≡ E.msg q j)
      unfolding Gone
      given_only h l m i =
          let k = only_went h l in
          let (q, j, b, e) = k.inv.gone m i in (
            q,
            j,
            rw (K.phase_is q (k.places q) _ (k.inv.same q)) (k.inv.ok q).top,
            rw (K.phase_is q (k.places q) _ (k.inv.same q)) (omega (arith, b, (k.inv.ok q).sent)),
            e,
          )

      stores_kept : Lawful act cs w → Inputs cs w → length (play act cs w).stores ≡ P
      stores_kept h m = (only_went h m).inv.many

      -- a part past its start was started
      pub started : Lawful act cs w → Inputs cs w → (p : Fin P) → 0 < E.phase_of_lem p (store_at void (play act cs w) p)
          → (i : In) × (started_with act cs w p.0 ≡ some i)
      started h m p l =
          let k = only_went h m in
          ⊎_elim (λ (z : 0 < 0). absurd (omega arith)) (λ r. r)
          (k.starts p (subst (λ (n : ℕ). 0 < n) (K.phase_is p (k.places p) _ (k.inv.same p)) l))

      all_taken : (p : Fin P) (g : Place (Fin P)) → Ok E p g → g.phase ≡ E.last → g.taken ≡ (λ q. E.count E.last q p)
      all_taken p g o e = fun_ext (λ q.
          let a : E.count (pred E.last) q p ≤ g.taken q = subst (λ φ. E.count (pred φ) q p ≤ g.taken q) e (o.low q) in
          let b : g.taken q ≤ E.count E.last q p = subst (λ φ. g.taken q ≤ E.count φ q p) e (o.high q) in
          omega (arith, N.quiet q p))

      -- the end of a part: only how many of its messages were fetched is open
      pub ended : Lawful act cs w → Inputs cs w → (p : Fin P) → E.phase_of_lem p (store_at void (play act cs w) p) ≡ E.last
          → (f : ℕ) × (f ≤ E.written E.last p)
          × E.Is p (record { phase = E.last; taken = λ q. E.count E.last q p; fetched = f }) (store_at void (play act cs w) p)
      ended h m p e =
          let d = determined h m p in
          let g = d.0 in
          let z : g.phase ≡ E.last = sym (K.phase_is p g _ d.2) ∙ e in (
            g.fetched,
            subst (λ φ. g.fetched ≤ E.written φ p) z d.1.sent,
            subst₂ (λ φ n. E.Is p (record { phase = φ; taken = n; fetched = g.fetched }) (store_at void (play act cs w) p)) z
                (all_taken p g d.1 z) d.2,
          )

      -- DONE STAYS: no part's phase ever falls, or passes the last
      pub rises_only : (ds : List (Call In Msg)) → Lawful act (cs ++ ds) w → Inputs (cs ++ ds) w → (p : Fin P)
          → (E.phase_of_lem p (store_at void (play act cs w) p) ≤ E.phase_of_lem p (store_at void (play act (cs ++ ds) w) p))
          × (E.phase_of_lem p (store_at void (play act (cs ++ ds) w) p) ≤ E.last)
      unfolding Meant
      rises_only ds h m p =
          let (a, c) = lawful_split act cs ds w h in
          let k = all_went ds a m in
          let u = went ds [] (play act cs w) k.places k.inv c (rw append-nil k.rest) in
          rw (play_append act cs ds w, K.phase_is p (k.places p) _ (k.inv.same p), K.phase_is p (u.places p) _ (u.inv.same p))
          (u.risen p, (u.inv.ok p).top)

    abbrev most : ℕ
    most = Rattle.exchange.specs.Exchange.most P act void E K

    size_most : (p : Fin P) (g : Place (Fin P)) → Ok E p g
        → size g ≤ E.last + sum_over (λ q. E.count E.last q p) F.list + E.written E.last p
    unfolding size
    size_most p g o = omega (
      arith,
      o.top,
      o.sent,
      reach p g.phase o.top,
      sum_le g.taken (λ q. E.count E.last q p)
          (λ q. le_trans (o.high q) (mono (λ x. E.count x q p) (λ x. N.count_up x q p) g.phase E.last o.top)) F.list,
    )

    -- BOUND
    pub bounded : (w : World Msg Store) → AtHome w → (cs : List (Call In Msg)) → Lawful act cs w → Inputs cs w → moves act cs w ≤ most
    unfolding Rattle.exchange.specs.Exchange.most total
    bounded w b cs h m =
        let k = only_went w b cs h m in
        omega (arith, k.grown, sum_le (λ p. size (k.places p)) _ (λ p. size_most p (k.places p) (k.inv.ok p)) F.list)

    module _ (G : Live F act E) where
      comes : (q : Fin P) (j d : ℕ) (g : Place (Fin P)) → Ok E q g → (x : Store) → E.Is q g x → j ≡ g.fetched + d
          → j < E.written g.phase q
          → (n : ℕ) × Memᴰ (E.msg q j) (to_come act n x)
      unfolding to_come Option-elim
      comes q j zero g o x i e l =
          let (y, a) = G.fetch_does q g o x i (omega arith) in
          let (s, f, t, k) = K.fetch_is q g o x i y a in
          let z : j ≡ g.fetched = omega arith in
          (1, rw (a, Option-elim) (mathlib.Core.List.Memᴰ.append_left {s = y.1} (to_come act 0 y.0) (rw k (mathlib.Core.List.Memᴰ.head (ap (E.msg q) z)))))
      comes q j (suc d) g o x i e l =
          let (y, a) = G.fetch_does q g o x i (omega arith) in
          let (s, f, t, k) = K.fetch_is q g o x i y a in
          let (n, r) = comes q j d (gave g) (ok_give F E N q g o f) y.0 t (omega arith) l in
          (suc n, rw (a, Option-elim) (mathlib.Core.List.Memᴰ.append_right y.1 {t = to_come act n y.0} r))

      known : (w : World Msg Store) (g : Fin P → Place (Fin P)) → Inv w g → (q : Fin P) (j : ℕ) → j < E.written (g q).phase q
          → IsWritten act w (E.msg q j)
      unfolding IsWritten
      known w g v q j l = go (dec_lt j (g q).fetched)
        where
          go : Dec (j < (g q).fetched) → IsWritten act w (E.msg q j)
          go (yes h) = inl (v.full q j h)
          go (no h) =
              let (n, r) = comes q j (j - (g q).fetched) (g q) (v.ok q) (store_at void w q) (v.same q) (omega arith) l in
              inr (store_at void w q, mem_get_d void w.stores q.0 (omega (arith, q.1, v.many)), n, r)

      Lowest : (Fin P → Place (Fin P)) → Type 0
      Lowest g = (p : Fin P) × ((g p).phase < E.last) × ((q : Fin P) → (g p).phase ≤ (g q).phase)

      -- every part is at this phase or past it, or there is a lowest part before the end
      climb : (g : Fin P → Place (Fin P)) (φ : ℕ) → φ ≤ E.last → ((p : Fin P) → φ ≤ (g p).phase) ⊎ Lowest g
      unfolding Lowest
      climb g zero h = inl (λ p. omega arith)
      climb g (suc φ) h = go (climb g φ (omega arith))
        where
          cut : (p : Fin P) → Dec ((g p).phase < suc φ) → ((g p).phase < suc φ) ⊎ (suc φ ≤ (g p).phase)
          cut p (yes l) = inl l
          cut p (no l) = inr (omega arith)

          turn : ((p : Fin P) → φ ≤ (g p).phase) → ((p : Fin P) × ((g p).phase < suc φ)) ⊎ ((p : Fin P) → suc φ ≤ (g p).phase)
              → ((p : Fin P) → suc φ ≤ (g p).phase) ⊎ Lowest g
          turn a (inl w) = inr (w.0, omega (arith, w.1), λ q. omega (arith, w.1, a q))
          turn a (inr b) = inl b

          go : ((p : Fin P) → φ ≤ (g p).phase) ⊎ Lowest g → ((p : Fin P) → suc φ ≤ (g p).phase) ⊎ Lowest g
          go (inr w) = inr w
          go (inl a) = turn a (find F (λ p. cut p (dec_lt (g p).phase (suc φ))))

      abbrev Goes : (w : World Msg Store) → Type 0
      Goes = Rattle.exchange.specs.Exchange.Goes P act void E K G

      start_same : (i j : In) → ◌≡◌ {A = Request In Msg} (Start i) (Start j) → j ≡ i
      start_same i j e = cc

      no_start : (k : Request In Msg) (j : In) → startb k ≡ false → k ≡ Start j → ⊥
      unfolding startb
      no_start (Start i) j b e = let z : ◌≡◌ {A = ℕ} 0 1 = cc in absurd (omega arith)
      no_start Step j b e = let z : ◌≡◌ {A = Bool} false true = ap startb e in let y : ◌≡◌ {A = ℕ} 0 1 = cc in absurd (omega arith)
      no_start Fetch j b e = let z : ◌≡◌ {A = Bool} false true = ap startb e in let y : ◌≡◌ {A = ℕ} 0 1 = cc in absurd (omega arith)
      no_start (Hand m) j b e = let z : ◌≡◌ {A = Bool} false true = ap startb e in let y : ◌≡◌ {A = ℕ} 0 1 = cc in absurd (omega arith)

      lowest_goes : (w : World Msg Store) (g : Fin P → Place (Fin P)) → Inv w g → Lowest g → Goes w
      unfolding Lowest Fair startb
      lowest_goes w g v u = begin (dec_lt 0 (g p).phase)
        where
          p : Fin P
          p = u.0

          cut : (q : Fin P) → Dec ((g p).taken q < E.count (g p).phase q p)
              → ((g p).taken q < E.count (g p).phase q p) ⊎ (E.count (g p).phase q p ≤ (g p).taken q)
          cut q (yes l) = inl l
          cut q (no l) = inr (omega arith)

          rest : 0 < (g p).phase → ((q : Fin P) × ((g p).taken q < E.count (g p).phase q p))
              ⊎ ((q : Fin P) → E.count (g p).phase q p ≤ (g p).taken q)
              → Goes w
          rest o (inl k) =
              let a = G.hand_does p (g p) (v.ok p) _ (v.same p) k.0 k.1 in
              let l : E.written (g p).phase k.0 ≤ E.written (g k.0).phase k.0 =
              mono (λ x. E.written x k.0) (λ x. N.written_up x k.0) _ _ (u.2 k.0) in
              record {
                part = p;
                request = Hand (E.msg k.0 a.0);
                fair = known w g v k.0 a.0 (omega (arith, a.1));
                input =
                    λ i e. absurd (no_start (Hand (E.msg k.0 a.0)) i refl e);
                accepts = a.2;
              }
          rest o (inr k) = record {
            part = p;
            request = Step;
            fair = tt;
            input = λ i e. absurd (no_start Step i refl e);
            accepts =
                G.step_does p (g p) (v.ok p) _ (v.same p) o u.1 k;
          }

          begin : Dec (0 < (g p).phase) → Goes w
          begin (yes o) = rest o (find F (λ q. cut q (dec_lt ((g p).taken q) (E.count (g p).phase q p))))
          begin (no o) = record {
            part = p;
            request = Start (E.input p);
            fair = tt;
            input = λ i e. start_same (E.input p) i e;
            accepts =
                G.start_does p (g p) (v.ok p) _ (v.same p) (omega arith);
          }

      abbrev AllDone : World Msg Store → Type 0
      AllDone = Rattle.exchange.specs.Exchange.AllDone P act void E K G

      -- PROGRESS: every part is at the end, or some call that may be made moves the exchange on
      pub progress : (w : World Msg Store) → AtHome w → (cs : List (Call In Msg)) → Lawful act cs w → Inputs cs w → AllDone (play act cs w)
          ⊎ Goes (play act cs w)
      progress w b cs h m = go (climb k.places E.last (le_refl _))
        where
          k : Went cs [] w home
          k = only_went w b cs h m

          go : ((p : Fin P) → E.last ≤ (k.places p).phase) ⊎ Lowest k.places → AllDone (play act cs w) ⊎ Goes (play act cs w)
          go (inl a) = inl (λ p. rw (K.phase_is p (k.places p) _ (k.inv.same p)) (omega (arith, a p, (k.inv.ok p).top)))
          go (inr l) = inr (lowest_goes (play act cs w) k.places k.inv l)

      abbrev call_of : (w : World Msg Store) → Goes w → Call In Msg
      call_of = Rattle.exchange.specs.Exchange.call_of P act void E K G

      module _ (w : World Msg Store) (b : AtHome w) (cs : List (Call In Msg)) (h : Lawful act cs w) (m : Inputs cs w)
          (k : Goes (play act cs w)) where
        abbrev one : List (Call In Msg)
        one = call_of (play act cs w) k ∷ []

        answered : answer act (call_of (play act cs w) k) (play act cs w) ≡ some k.accepts.0
        unfolding answer
        answered = answer_at_lem act void k.request (play act cs w).stores k.part.0 (omega (arith, k.part.1, stores_kept w b cs h m))
            ∙ k.accepts.1

        pub more_moves : moves act (cs ++ one) w ≡ suc (moves act cs w)
        unfolding moves
        more_moves =
            omega (arith, moves_append act cs one w, moves_some act (call_of (play act cs w) k) [] (play act cs w) k.accepts.0 answered)

        pub more_inputs : Inputs (cs ++ one) w
        unfolding started_with Option-elim
        more_inputs p i e = go (started_with act cs w p.0) refl
          where
            go : (r : Option In) → started_with act cs w p.0 ≡ r → i ≡ E.input p
            go (some j) z =
                m p i (z ∙ sym (ap (λ r. Option-elim r (started_with act one (play act cs w) p.0) some) z)
                ∙ sym (started_append act cs one w p.0) ∙ e)
            go none z =
                let f : started_with act one (play act cs w) p.0 ≡ some i =
                sym (started_append act cs one w p.0 ∙ ap (λ r. Option-elim r (started_with act one (play act cs w) p.0) some) z)
                ∙ e in
                let (a, d) = begun_which p.0 k.part.0 k.request i
                (sym (started_some act (call_of (play act cs w) k) [] (play act cs w) p.0 k.accepts.0 answered) ∙ f) in
                k.input i a ∙ ap E.input (native.Mathlib.Fin.val_path (sym d))

      abbrev Ending : World Msg Store → List (Call In Msg) → Type 0
      Ending = Rattle.exchange.specs.Exchange.Ending P act void E K G

      completes_within : (k : ℕ) (w : World Msg Store) → AtHome w → (cs : List (Call In Msg)) → Lawful act cs w → Inputs cs w
          → most < moves act cs w + k
          → Ending w cs
      completes_within zero w b cs h m l = absurd (omega (arith, bounded w b cs h m))
      completes_within (suc k) w b cs h m l = go (λ c. completes_within k w b (cs ++ (c ∷ []))) (progress w b cs h m)
        where
          go : ((c : Call In Msg) → Lawful act (cs ++ (c ∷ [])) w → Inputs (cs ++ (c ∷ [])) w → most < moves act (cs ++ (c ∷ [])) w + k
              → Ending w (cs ++ (c ∷ [])))
              → AllDone (play act cs w) ⊎ Goes (play act cs w) → Ending w cs
          go r (inl e) = ([], rw append-nil h, rw append-nil m, rw append-nil e)
          go r (inr u) =
              let c = call_of (play act cs w) u in
              let (ds, a, i, d) = r c (more_lawful P act void E K G w b cs h m u) (more_inputs w b cs h m u) (omega (arith, more_moves w b cs h m u)) in
              let z : (cs ++ (c ∷ [])) ++ ds ≡ cs ++ (c ∷ ds) = append_assoc cs (c ∷ []) ds in
              (c ∷ ds, subst (λ l. Lawful act l w) z a, subst (λ l. Inputs l w) z i, subst (λ l. AllDone (play act l w)) z d)

      -- COMPLETION: whatever calls were made, further calls bring every part to the end
      pub completes : (w : World Msg Store) → AtHome w → (cs : List (Call In Msg)) → Lawful act cs w → Inputs cs w → Ending w cs
      completes w b cs h m = completes_within (suc most) w b cs h m (omega arith)
