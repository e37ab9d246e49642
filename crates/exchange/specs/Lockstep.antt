-- The rounds in lockstep, and the laws of `Places` from those of one part alone.
--   lock r p         what p knows at the beginning of the round r, all parts together
--   mail, mail_count  what one part writes for another in a round, and how many messages in all rounds before
--   post φ q         all that q has written up to a phase
--   letters φ q p    what of it is for p, each message with its count
--   local p r n f    what p's store stands for in the round r, with n messages taken and f fetched
-- Laws: laws, live, post-length, prefix (what is written first stays first), post_letter and letter_post (all that is written is for some
-- part).
use Prim.Native.Nat.{ℕ, zero, suc, ◌+◌, ◌-◌, ◌≤◌, ◌<◌}
use native.Mathlib.Omega.{arith}
use Rattle.std.proofs.Math.Decide.{dec_lt, le_ind}
use Rattle.std.proofs.Common.{le_trans, sym, ◌∙◌, inl, inr, drop_of_length-le, take-suc, drop-cons}
use Rattle.std.specs.Prelude.{◌≡◌, ◌⊎◌, Bool, false, drop}
use Rattle.std.proofs.Math.Path.{refl, ap, ap₂, subst, fun_ext}
use Rattle.std.proofs.Math.Logic.{⊎_elim}
use Rattle.std.proofs.Math.Bool.{true}
use Rattle.std.proofs.Math.Option.{Option, none, some}
use mathlib.Core.List.Memᴰ
use mathlib.Core.List.{List, [], ◌∷◌, ◌++◌, Memᴰ}
use Rattle.std.proofs.Math.ListN.{length, get_or, take, length-append, get_or-append}
use Rattle.std.proofs.Math.Seq.{take_all, length-take-le}
use Rattle.std.proofs.lemmas.List.{drop-append-le}
use Rattle.exchange.specs.Calls.{Request, Start, Step, Fetch, Hand}
use Rattle.exchange.specs.Finite.{Finite, sum_over, sum_lt, upd, upd_all, upd_same, upd_other}
use Rattle.exchange.specs.Places.{Place, Plan, Ok, Counted, Laws, Live, Accepts, ok_on, ok_begin, ok-take}
use Rattle.exchange.specs.Protocol.{Local, Protocol, Machine, only, only_same, only_other, numbered, Ordered, parcel, at_start}
use Rattle.exchange.specs.Protocol.{following, with_body, Gives, Alone}
use Rattle.exchange.specs.Played.{mem_get_d, get_d_mem}

-- what an answer says
module _ {Part In Body Msg St Store : Type 0} (Z : Machine Part In Body Msg St Store) (c : Request In Msg) (x : Store) where
  never : {B : Type 0} (y : Store × List Msg) → Z.act c x ≡ none → Z.act c x ≡ some y → B
  never y e f = let z : ◌≡◌ {A = ℕ} 0 1 = cc in absurd (omega arith)

  gives_to : {F : Finite Part} {Q : Protocol Part In Body Msg St} (B : Store → Type 0) (w : List Msg) → Gives F Q Z c x B w
      → (y : Store × List Msg) → Z.act c x ≡ some y → B y.0 × (y.1 ≡ w)
  gives_to B w g y e =
      let z : ◌≡◌ {A = Option (Store × List Msg)} (some (g.after, w)) (some y) = sym g.does ∙ e in
      let u : ◌≡◌ {A = Store × List Msg} (g.after, w) y = cc in
      (subst (λ (v : Store × List Msg). B v.0) u g.stands, ap (λ (v : Store × List Msg). v.1) (sym u))

module _ {Part In Body Msg St : Type 0} (F : Finite Part) (Q : Protocol Part In Body Msg St) where
  abbrev re : Local Part Body Msg St → (Part → List Body) → List Msg → Local Part Body Msg St
  re l t w = record { round = l.round; state = l.state; before = l.before; got = t; sent = l.sent; queue = w }

  module _ (input : Part → In) where
    -- the state of each part at the beginning of each round, all parts together
    unfoldable pub lock : ℕ → Part → St
    lock zero p = Q.init p (input p)
    lock (suc r) p = Q.next r p (lock r p) (λ q. Q.out r q p (lock r q))

    abbrev pub mail : ℕ → Part → Part → List Body
    mail r q p = Q.out r q p (lock r q)

    unfoldable pub mail_count : ℕ → Part → Part → ℕ
    mail_count zero q p = 0
    mail_count (suc r) q p = mail_count r q p + length (mail r q p)

    unfoldable pub post : ℕ → Part → List Msg
    post zero q = []
    post (suc r) q = post r q ++ parcel F Q r q (lock r q) (λ p. mail_count r q p)

    unfoldable pub addressed : Part → Part → ℕ → List Body → List Msg
    addressed q p k [] = []
    addressed q p k (b ∷ l) = Q.pack q p k b ∷ addressed q p (suc k) l

    unfoldable pub letters : ℕ → Part → Part → List Msg
    unfolding addressed
    letters zero q p = []
    letters (suc r) q p = letters r q p ++ addressed q p (mail_count r q p) (mail r q p)

    abbrev pub local : Part → ℕ → (Part → ℕ) → ℕ → Local Part Body Msg St
    local p r n f = record {
      round = r;
      state = lock r p;
      before = λ q. mail_count r q p;
      got = λ q. take (n q - mail_count r q p) (mail r q p);
      sent = λ q. mail_count (suc r) p q;
      queue = drop f (post (suc r) p);
    }

    module _ {Store : Type 0} (Z : Machine Part In Body Msg St Store) (blank : Body) (junk : Msg) where
      unfoldable pub place : Part → ℕ → (Part → ℕ) → ℕ → Store → Type 0
      place p zero n f = Z.Idle p
      place p (suc r) n f = Z.Busy p (local p r n f)

      abbrev pub plan : Plan Part In Msg Store
      plan = record {
        input = input;
        last = suc Q.rounds;
        count = mail_count;
        written = λ φ q. length (post φ q);
        msg = λ q j. get_or (post (suc Q.rounds) q) j junk;
        Is = λ p g. place p g.phase g.taken g.fetched;
        phase_of_lem = Z.phase_of_lem;
      }

      abbrev Among : Part → (Part → ℕ) → List (Part × Body) → Msg → Type 0
      Among p o l m = (q : Part) × (i : ℕ) × (i < length (only F q l)) × (m ≡ Q.pack p q (o q + i) (get_or (only F q l) i blank))

      number_in : (p : Part) (o : Part → ℕ) (l : List (Part × Body)) (m : Msg) → Memᴰ m (numbered F Q.pack p o l) → Among p o l m
      unfolding numbered
      number_in p o [] m h = absurd (Memᴰ.not-nil h)
      number_in p o ((t, b) ∷ l) m h = go (λ k. number_in p (upd F o t (suc (o t))) l m k) (Memᴰ.cases_cons h)
        where
          later : Among p (upd F o t (suc (o t))) l m → Among p o ((t, b) ∷ l) m
          later u =
              let q = u.0 in
              elim (F.same? q t) [
                | yes e ↦
                    let a : only F u.0 ((t, b) ∷ l) ≡ b ∷ only F u.0 l =
                    subst (λ z. only F z ((t, b) ∷ l) ≡ b ∷ only F z l) (sym e) (only_same F t b l) in
                    let c : upd F o t (suc (o t)) u.0 ≡ suc (o u.0) =
                    subst (λ z. upd F o t (suc (o t)) z ≡ suc (o z)) (sym e) (upd_same F o t (suc (o t))) in
                    let z : upd F o t (suc (o t)) u.0 + u.1 ≡ o u.0 + suc u.1 = omega arith in (
                      u.0,
                      suc u.1,
                      rw a (omega (arith, u.2)),
                      u.3
                          ∙ ap (λ k. Q.pack p u.0 k (get_or (only F u.0 l) u.1 blank)) z
                          ∙ ap (λ v. Q.pack p u.0 (o u.0 + suc u.1) (get_or v (suc u.1) blank)) (sym a),
                    )
                | no n ↦
                    let a = only_other F u.0 t b l n in
                    let c = upd_other F o t (suc (o t)) u.0 n in
                    (u.0, u.1, rw a u.2, u.3 ∙ ap₂ (λ k v. Q.pack p u.0 (k + u.1) (get_or v u.1 blank)) c (sym a))
              ]

          go : (Memᴰ m (numbered F Q.pack p (upd F o t (suc (o t))) l) → Among p (upd F o t (suc (o t))) l m)
              → (m ≡ Q.pack p t (o t) b)
              ⊎ Memᴰ m (numbered F Q.pack p (upd F o t (suc (o t))) l) → Among p o ((t, b) ∷ l) m
          go r (inl e) =
              let a = only_same F t b l in
              let z : o t ≡ o t + 0 = omega arith in
              (t, 0, rw a (omega arith), e ∙ ap (λ k. Q.pack p t k b) z ∙ ap (λ v. Q.pack p t (o t + 0) (get_or v 0 blank)) (sym a))
          go r (inr k) = later (r k)

      in_number : (p : Part) (o : Part → ℕ) (l : List (Part × Body)) (q : Part) (i : ℕ) → i < length (only F q l)
          → Memᴰ (Q.pack p q (o q + i) (get_or (only F q l) i blank)) (numbered F Q.pack p o l)
      unfolding numbered only
      in_number p o [] q i h = absurd (omega arith)
      in_number p o ((t, b) ∷ l) q i h = go (F.same? q t) i h (λ k g. in_number p (upd F o t (suc (o t))) l q k g)
        where
          go : Dec (q ≡ t) → (i : ℕ) → i < length (only F q ((t, b) ∷ l))
              → ((k : ℕ) → k < length (only F q l) → Memᴰ (Q.pack p q (upd F o t (suc (o t)) q + k) (get_or (only F q l) k blank))
              (numbered F Q.pack p (upd F o t (suc (o t))) l))
              → Memᴰ (Q.pack p q (o q + i) (get_or (only F q ((t, b) ∷ l)) i blank)) (numbered F Q.pack p o ((t, b) ∷ l))
          go (yes e) zero g r =
              let a : only F q ((t, b) ∷ l) ≡ b ∷ only F q l =
              subst (λ z. only F z ((t, b) ∷ l) ≡ b ∷ only F z l) (sym e) (only_same F t b l) in
              let z : o q + 0 ≡ o q = omega arith in
              Memᴰ.head (ap (λ v. Q.pack p q (o q + 0) (get_or v 0 blank)) a ∙ ap (λ k. Q.pack p q k b) z
              ∙ ap (λ y. Q.pack p y (o y) b) e)
          go (yes e) (suc k) g r =
              let a : only F q ((t, b) ∷ l) ≡ b ∷ only F q l =
              subst (λ z. only F z ((t, b) ∷ l) ≡ b ∷ only F z l) (sym e) (only_same F t b l) in
              let c : upd F o t (suc (o t)) q ≡ suc (o q) =
              subst (λ z. upd F o t (suc (o t)) z ≡ suc (o z)) (sym e) (upd_same F o t (suc (o t))) in
              let z : upd F o t (suc (o t)) q + k ≡ o q + suc k = omega arith in
              let d : Q.pack p q (upd F o t (suc (o t)) q + k) (get_or (only F q l) k blank)
              ≡ Q.pack p q (o q + suc k) (get_or (only F q ((t, b) ∷ l)) (suc k) blank) =
              ap (λ n. Q.pack p q n (get_or (only F q l) k blank)) z ∙ ap (λ v. Q.pack p q (o q + suc k) (get_or v (suc k) blank)) (sym a) in
              Memᴰ.tail (subst (λ y. Memᴰ y (numbered F Q.pack p (upd F o t (suc (o t))) l)) d
              (r k (omega (arith, ap length a))))
          go (no n) i g r =
              let a = only_other F q t b l n in
              let c = upd_other F o t (suc (o t)) q n in
              let d : Q.pack p q (upd F o t (suc (o t)) q + i) (get_or (only F q l) i blank)
              ≡ Q.pack p q (o q + i) (get_or (only F q ((t, b) ∷ l)) i blank) =
              ap₂ (λ k v. Q.pack p q (k + i) (get_or v i blank)) c (sym a) in
              Memᴰ.tail (subst (λ y. Memᴰ y (numbered F Q.pack p (upd F o t (suc (o t))) l)) d
              (r i (omega (arith, ap length a))))

      -- a message of the first rounds
      abbrev Sent : Part → Msg → Type 0
      Sent q m = (p : Part) × (r : ℕ) × (i : ℕ) × (i < length (mail r q p))
          × (m ≡ Q.pack q p (mail_count r q p + i) (get_or (mail r q p) i blank))

      post_in : Ordered F Q → (φ : ℕ) (q : Part) (m : Msg) → Memᴰ m (post φ q) → Sent q m
      unfolding post parcel
      post_in ord zero q m h = absurd (Memᴰ.not-nil h)
      post_in ord (suc r) q m h = ⊎_elim (λ t. post_in ord r q m t) new (Memᴰ.append_cases (post r q) h)
        where
          new : Memᴰ m (numbered F Q.pack q (λ p. mail_count r q p) (Q.order r q (lock r q))) → Sent q m
          new t =
              let b = number_in q (λ p. mail_count r q p) (Q.order r q (lock r q)) m t in
              let e = ord r q b.0 (lock r q) in
              (b.0, r, b.1, rw (← e) b.2, b.3 ∙ ap (λ v. Q.pack q b.0 (mail_count r q b.0 + b.1) (get_or v b.1 blank)) e)

      in_post : Ordered F Q → (r : ℕ) (q p : Part) (i : ℕ) → i < length (mail r q p)
          → Memᴰ (Q.pack q p (mail_count r q p + i) (get_or (mail r q p) i blank)) (post (suc r) q)
      unfolding post parcel
      in_post ord r q p i h =
          let e = ord r q p (lock r q) in
          Memᴰ.append_right (post r q) (subst (λ v. Memᴰ (Q.pack q p (mail_count r q p + i) (get_or v i blank))
          (numbered F Q.pack q (λ p. mail_count r q p) (Q.order r q (lock r q)))) e
          (in_number q (λ p. mail_count r q p) (Q.order r q (lock r q)) p i (rw e h)))

      addressed_at : (q p : Part) (k : ℕ) (l : List Body) (i : ℕ) → i < length l
          → Memᴰ (Q.pack q p (k + i) (get_or l i blank)) (addressed q p k l)
      unfolding addressed
      addressed_at q p k [] i h = absurd (omega arith)
      addressed_at q p k (b ∷ l) zero h = let z : k + 0 ≡ k = omega arith in Memᴰ.head (ap (λ j. Q.pack q p j b) z)
      addressed_at q p k (b ∷ l) (suc i) h =
          let z : suc k + i ≡ k + suc i = omega arith in
          Memᴰ.tail (subst (λ j. Memᴰ (Q.pack q p j (get_or l i blank)) (addressed q p (suc k) l)) z
          (addressed_at q p (suc k) l i (omega arith)))

      at_addressed : (q p : Part) (k : ℕ) (l : List Body) (m : Msg) → Memᴰ m (addressed q p k l)
          → (i : ℕ) × (i < length l) × (m ≡ Q.pack q p (k + i) (get_or l i blank))
      unfolding addressed
      at_addressed q p k [] m h = absurd (Memᴰ.not-nil h)
      at_addressed q p k (b ∷ l) m h =
          let z : k ≡ k + 0 = omega arith in
          ⊎_elim (λ (e : m ≡ Q.pack q p k b). (0, omega arith, e ∙ ap (λ j. Q.pack q p j b) z))
          (λ (t : Memᴰ m (addressed q p (suc k) l)).
          let (i, g, e) = at_addressed q p (suc k) l m t in
          let y : suc k + i ≡ k + suc i = omega arith in
          (suc i, omega arith, e ∙ ap (λ j. Q.pack q p j (get_or l i blank)) y)) (Memᴰ.cases_cons h)

      pub post_letter : Ordered F Q → (φ : ℕ) (q : Part) (m : Msg) → Memᴰ m (post φ q) → (p : Part) × Memᴰ m (letters φ q p)
      unfolding post parcel letters
      post_letter ord zero q m h = absurd (Memᴰ.not-nil h)
      post_letter ord (suc r) q m h = ⊎_elim
          (λ (t : Memᴰ m (post r q)).
          let (p, u) = post_letter ord r q m t in
          (p, Memᴰ.append_left (addressed q p (mail_count r q p) (mail r q p)) u))
          new (Memᴰ.append_cases (post r q) h)
        where
          new : Memᴰ m (numbered F Q.pack q (λ p. mail_count r q p) (Q.order r q (lock r q)))
              → (p : Part) × Memᴰ m (letters (suc r) q p)
          new t =
              let b = number_in q (λ p. mail_count r q p) (Q.order r q (lock r q)) m t in
              let e = ord r q b.0 (lock r q) in
              let f : m ≡ Q.pack q b.0 (mail_count r q b.0 + b.1) (get_or (mail r q b.0) b.1 blank) =
              b.3 ∙ ap (λ v. Q.pack q b.0 (mail_count r q b.0 + b.1) (get_or v b.1 blank)) e in (
                b.0,
                Memᴰ.append_right (letters r q b.0)
                    (subst (λ n. Memᴰ n (addressed q b.0 (mail_count r q b.0) (mail r q b.0)))
                    (sym f) (addressed_at q b.0 (mail_count r q b.0) (mail r q b.0) b.1 (rw (← e) b.2))),
              )

      pub letter_post : Ordered F Q → (φ : ℕ) (q p : Part) (m : Msg) → Memᴰ m (letters φ q p) → Memᴰ m (post φ q)
      unfolding post letters
      letter_post ord zero q p m h = absurd (Memᴰ.not-nil h)
      letter_post ord (suc r) q p m h = ⊎_elim
          (λ (t : Memᴰ m (letters r q p)).
          Memᴰ.append_left (parcel F Q r q (lock r q) (λ p. mail_count r q p)) (letter_post ord r q p m t))
          (λ (t : Memᴰ m (addressed q p (mail_count r q p) (mail r q p))).
          let (i, g, e) = at_addressed q p (mail_count r q p) (mail r q p) m t in
          subst (λ n. Memᴰ n (post (suc r) q)) (sym e) (in_post ord r q p i g))
          (Memᴰ.append_cases (letters r q p) h)

      number-length : (p : Part) (o : Part → ℕ) (l : List (Part × Body)) → length (numbered F Q.pack p o l) ≡ length l
      unfolding numbered
      number-length p o [] = refl
      number-length p o (t ∷ l) = ap suc (number-length p (upd F o t.0 (suc (o t.0))) l)

      -- each message is for some part
      order-length : (l : List (Part × Body)) → length l ≤ sum_over (λ q. length (only F q l)) F.list
      order-length [] = omega arith
      order-length ((t, b) ∷ l) =
          omega (
            arith,
            order-length l,
            sum_lt (λ q. length (only F q l)) (λ q. length (only F q ((t, b) ∷ l))) grows (F.all t)
                (rw (only_same F t b l) (omega arith)),
          )
        where
          grows : (q : Part) → length (only F q l) ≤ length (only F q ((t, b) ∷ l))
          grows q = elim (F.same? q t) [
            | yes e ↦ subst (λ z. length (only F z l) ≤ length (only F z ((t, b) ∷ l))) (sym e) (rw (only_same F t b l) (omega arith))
            | no n ↦ rw (only_other F q t b l n) (omega arith)
          ]

      sums : (r : ℕ) (q : Part) (l : List Part)
          → sum_over (λ p. length (mail r q p)) l + sum_over (mail_count r q) l ≡ sum_over (mail_count (suc r) q) l
      unfolding sum_over mail_count
      sums r q [] = refl
      sums r q (p ∷ l) = omega (arith, sums r q l)

      -- a part writes what it writes for the parts
      pub post-length : Ordered F Q → (φ : ℕ) (q : Part) → length (post φ q) ≤ sum_over (mail_count φ q) F.list
      unfolding post parcel mail_count
      post-length ord zero q = omega arith
      post-length ord (suc r) q =
          let e : sum_over (λ p. length (only F p (Q.order r q (lock r q)))) F.list ≡ sum_over (λ p. length (mail r q p)) F.list =
          ap (λ f. sum_over f F.list) (fun_ext (λ p. ap length (ord r q p (lock r q)))) in
          rw length-append (omega (
            arith,
            post-length ord r q,
            number-length q (λ p. mail_count r q p) (Q.order r q (lock r q)),
            order-length (Q.order r q (lock r q)),
            e,
            sums r q F.list,
          ))

      count_mono : (q p : Part) (a b : ℕ) → a ≤ b → mail_count a q p ≤ mail_count b q p
      unfolding mail_count
      count_mono q p a b h = le_ind {n = a} (λ m. mail_count a q p ≤ mail_count m q p) (omega arith) (λ m _ ih. omega (arith, ih)) b h

      post_grows : (q : Part) (φ : ℕ) → length (post φ q) ≤ length (post (suc φ) q)
      unfolding post
      post_grows q φ = rw length-append (omega arith)

      pub prefix : (q : Part) (j a b : ℕ) → a ≤ b → j < length (post a q) → (length (post a q) ≤ length (post b q))
          × (get_or (post b q) j junk ≡ get_or (post a q) j junk)
      unfolding post
      prefix q j a b h l = le_ind {n = a} (λ m. (length (post a q) ≤ length (post m q))
          × (get_or (post m q) j junk ≡ get_or (post a q) j junk)) (omega arith, refl)
          (λ m _ ih. (le_trans ih.0 (post_grows q m), get_or-append (post m q) _ junk j (omega (arith, ih.0)) ∙ ih.1)) b h

      abbrev pub at_place : ℕ → (Part → ℕ) → ℕ → Place Part
      at_place φ n f = record { phase = φ; taken = n; fetched = f }

      module _ (Good : Part → Local Part Body Msg St → Type 0) (Fine : Part → In → Type 0) (A : Alone F Q Z Good Fine)
          (fine : (p : Part) → Fine p (input p))
          (good : (p : Part) (r : ℕ) (n : Part → ℕ) (f : ℕ) → Ok plan p (at_place (suc r) n f) → Good p (local p r n f)) where
        quiet_go : (q p : Part) → mail_count (suc Q.rounds) q p ≤ mail_count Q.rounds q p
        unfolding mail_count
        quiet_go q p = rw (A.silent q p (lock Q.rounds q)) (omega arith)

        counted : Counted plan
        unfolding mail_count
        counted = record {
          count_up = λ φ q p. omega arith;
          written_up = λ φ q. post_grows q φ;
          none_yet = λ q p. omega arith;
          some_phase =
              omega arith;
          quiet = quiet_go;
        }

        open_short : (r : ℕ) (q p : Part) (k : ℕ) → Q.whole r q p (take k (mail r q p)) ≡ false → k < length (mail r q p)
        open_short r q p k e = go (dec_lt k (length (mail r q p)))
          where
            go : Dec (k < length (mail r q p)) → k < length (mail r q p)
            go (yes h) = h
            go (no h) =
                let a : take k (mail r q p) ≡ mail r q p = take_all k (mail r q p) (omega arith) in
                let b : Q.whole r q p (mail r q p) ≡ true = A.whole_all r q p (lock r q) in
                let z : ◌≡◌ {A = ℕ} 0 1 = cc in absurd (omega arith)

        short_open : (r : ℕ) (q p : Part) (k : ℕ) → k < length (mail r q p) → Q.whole r q p (take k (mail r q p)) ≡ false
        short_open r q p k h = go (Q.whole r q p (take k (mail r q p))) refl
          where
            go : (b : Bool) → Q.whole r q p (take k (mail r q p)) ≡ b → b ≡ false
            go true e = absurd (omega (arith, A.whole_is r q p (lock r q) k (omega arith) e))
            go false e = refl

        -- the numbers at a place of a started part
        taken_fits : (p : Part) (r : ℕ) (n : Part → ℕ) (f : ℕ) → Ok plan p (at_place (suc r) n f) → (q : Part) → (mail_count r q p ≤ n q)
            × (n q ≤ mail_count r q p + length (mail r q p))
        unfolding mail_count
        taken_fits p r n f o q = (o.low q, o.high q)

        first_is : (p : Part) (n : Part → ℕ) (f : ℕ) → Ok plan p (at_place 0 n f) → at_start F Q p (input p) ≡ local p 0 n f
        unfolding lock mail_count post
        first_is p n f o =
            let z : f ≡ 0 = omega (arith, o.sent) in
            ap₂ (re (at_start F Q p (input p)))
            (fun_ext (λ q. let z : n q - 0 ≡ 0 = omega (arith, o.high q) in rw z))
            (rw z)

        following_is : (p : Part) (r : ℕ) (n : Part → ℕ) (f : ℕ) → Ok plan p (at_place (suc r) n f)
            → ((q : Part) → mail_count (suc r) q p ≤ n q) → following F Q p (local p r n f) ≡ local p (suc r) n f
        unfolding lock mail_count post
        following_is p r n f o h =
            ap (λ t. following F Q p (re (local p r n f) t (drop f (post (suc r) p))))
            (fun_ext (λ q. take_all (n q - mail_count r q p) (mail r q p) (omega (arith, h q))))
            ∙ ap₂ (re (following F Q p (re (local p r n f) (λ q. mail r q p) (drop f (post (suc r) p)))))
            (fun_ext (λ q. let z : n q - mail_count (suc r) q p ≡ 0 = omega (arith, o.high q) in rw z))
            (sym (drop-append-le f (post (suc r) p) _ o.sent))

        with_body_is : (p : Part) (r : ℕ) (n : Part → ℕ) (f : ℕ) → Ok plan p (at_place (suc r) n f) → (q : Part)
            → n q < mail_count (suc r) q p
            → with_body F (local p r n f) q (get_or (mail r q p) (n q - mail_count r q p) blank) ≡ local p r (upd F n q (suc (n q))) f
        unfolding mail_count
        with_body_is p r n f o q h = ap (λ t. re (local p r n f) t (drop f (post (suc r) p))) (fun_ext
            (upd_all F (λ x a c. a ≡ take (c - mail_count r x p) (mail r x p)) (λ x. take (n x - mail_count r x p) (mail r x p)) n q _ _ grown
            (λ x. refl)))
          where
            grown : take (n q - mail_count r q p) (mail r q p)
                ++ (get_or (mail r q p) (n q - mail_count r q p) blank ∷ []) ≡ take (suc (n q) - mail_count r q p) (mail r q p)
            grown =
                let z : suc (n q) - mail_count r q p ≡ suc (n q - mail_count r q p) = omega (arith, o.low q) in
                rw z (sym (take-suc (mail r q p) (n q - mail_count r q p) blank (omega (arith, o.low q))))

        start_gives : (p : Part) (n : Part → ℕ) (f : ℕ) → Ok plan p (at_place 0 n f) → (x : Store) → Z.Idle p x
            → Gives F Q Z (Start (input p)) x (Z.Busy p (local p 0 n f)) []
        start_gives p n f o x a = subst (λ l. Good p l
            → Gives F Q Z (Start (input p)) x (Z.Busy p l) []) (first_is p n f o) (A.idle_start p x a (input p) (fine p))
            (good p 0 n f (ok_begin F plan counted p (at_place 0 n f) o refl))

        start_go : (p : Part) (φ : ℕ) (n : Part → ℕ) (f : ℕ) → Ok plan p (at_place φ n f) → (x : Store) → place p φ n f x
            → (i : In) (y : Store × List Msg) → Z.act (Start i) x ≡ some y
            → (φ ≡ 0) × (i ≡ input p → (place p (suc φ) n f y.0 × (y.1 ≡ [])))
        unfolding place
        start_go p zero n f o x a i y e =
            (refl, λ h. gives_to Z (Start (input p)) x _ _ (start_gives p n f o x a) y (subst (λ j. Z.act (Start j) x ≡ some y) h e))
        start_go p (suc r) n f o x a i y e = never Z (Start i) x y (A.busy_start p (local p r n f) x a i) e

        all_got : (p : Part) (r : ℕ) (n : Part → ℕ) (f : ℕ) → Ok plan p (at_place (suc r) n f) → ((q : Part) → mail_count (suc r) q p ≤ n q)
            → (q : Part) → Q.whole r q p ((local p r n f).got q) ≡ true
        unfolding mail_count
        all_got p r n f o h q = rw (take_all (n q - mail_count r q p) (mail r q p) (omega (arith, h q))) (A.whole_all r q p (lock r q))

        step_gives : (p : Part) (r : ℕ) (n : Part → ℕ) (f : ℕ) → Ok plan p (at_place (suc r) n f) → r < Q.rounds
            → ((q : Part) → mail_count (suc r) q p ≤ n q) → (x : Store) → Z.Busy p (local p r n f) x
            → Gives F Q Z Step x (Z.Busy p (local p (suc r) n f)) []
        step_gives p r n f o k h x a =
            subst (λ l. Good p l → Gives F Q Z Step x (Z.Busy p l) []) (following_is p r n f o h)
            (λ g. A.step_does p (local p r n f) x a g k (all_got p r n f o h))
            (good p (suc r) n f (ok_on F plan counted p (at_place (suc r) n f) o (omega arith) h))

        step_go : (p : Part) (φ : ℕ) (n : Part → ℕ) (f : ℕ) → Ok plan p (at_place φ n f) → (x : Store) → place p φ n f x
            → (y : Store × List Msg) → Z.act Step x ≡ some y
            → (0 < φ) × (φ < suc Q.rounds) × ((q : Part) → mail_count φ q p ≤ n q) × place p (suc φ) n f y.0 × (y.1 ≡ [])
        unfolding place mail_count
        step_go p zero n f o x a y e = never Z Step x y (A.idle_step p x a) e
        step_go p (suc r) n f o x a y e =
            let k = A.step_is p (local p r n f) x a y e in
            let h : (q : Part) → mail_count (suc r) q p ≤ n q = λ q. fits q (k.1 q) in
            let g = gives_to Z Step x _ _ (step_gives p r n f o k.0 h x a) y e in
            (omega arith, omega (arith, k.0), h, g.0, g.1)
          where
            fits : (q : Part) → Q.whole r q p (take (n q - mail_count r q p) (mail r q p)) ≡ true → mail_count (suc r) q p ≤ n q
            fits q w = omega (
              arith,
              taken_fits p r n f o q,
              A.whole_is r q p (lock r q) (n q - mail_count r q p) (omega (arith, taken_fits p r n f o q)) w,
            )

        fetch_gives : (p : Part) (r : ℕ) (n : Part → ℕ) (f : ℕ) → Ok plan p (at_place (suc r) n f) → f < length (post (suc r) p)
            → (x : Store) → Z.Busy p (local p r n f) x
            → Gives F Q Z Fetch x (Z.Busy p (local p r n (suc f))) (get_or (post (suc Q.rounds) p) f junk ∷ [])
        fetch_gives p r n f o h x a =
            rw (prefix p f (suc r) (suc Q.rounds) o.top h).1
            (A.fetch_some p (local p r n f) x a _ _ (drop-cons (post (suc r) p) f junk h))

        fetch_go : (p : Part) (φ : ℕ) (n : Part → ℕ) (f : ℕ) → Ok plan p (at_place φ n f) → (x : Store) → place p φ n f x
            → (y : Store × List Msg) → Z.act Fetch x ≡ some y
            → (0 < φ) × (f < length (post φ p)) × place p φ n (suc f) y.0 × (y.1 ≡ get_or (post (suc Q.rounds) p) f junk ∷ [])
        unfolding place
        fetch_go p zero n f o x a y e = never Z Fetch x y (A.idle_fetch p x a) e
        fetch_go p (suc r) n f o x a y e = go (dec_lt f (length (post (suc r) p)))
          where
            go : Dec (f < length (post (suc r) p)) → (0 < suc r) × (f < length (post (suc r) p)) × Z.Busy p (local p r n (suc f)) y.0
                × (y.1 ≡ get_or (post (suc Q.rounds) p) f junk ∷ [])
            go (yes h) = let g = gives_to Z Fetch x _ _ (fetch_gives p r n f o h x a) y e in (omega arith, h, g.0, g.1)
            go (no h) = never Z Fetch x y (A.fetch_none p (local p r n f) x a (drop_of_length-le (post (suc r) p) {i = f} (omega arith))) e

        -- the numbered F Q.pack of a message tells its round
        same_round : (q p : Part) (r r' : ℕ) (k : ℕ) → mail_count r q p ≤ k → k < mail_count (suc r) q p → mail_count r' q p ≤ k
            → k < mail_count (suc r') q p → r' ≡ r
        same_round q p r r' k a b c d = go (dec_lt r r') (dec_lt r' r)
          where
            go : Dec (r < r') → Dec (r' < r) → r' ≡ r
            go (yes h) t = absurd (omega (arith, count_mono q p (suc r) r' h))
            go (no h) (yes t) = absurd (omega (arith, count_mono q p (suc r') r t))
            go (no h) (no t) = omega arith

        -- the message that is due
        due : Part → ℕ → (Part → ℕ) → Part → Msg
        due p r n q = Q.pack q p (mail_count r q p + length (take (n q - mail_count r q p) (mail r q p)))
            (get_or (mail r q p) (n q - mail_count r q p) blank)

        due_gives : (p : Part) (r : ℕ) (n : Part → ℕ) (f : ℕ) → Ok plan p (at_place (suc r) n f) → (q : Part) → n q < mail_count (suc r) q p
            → (x : Store) → Z.Busy p (local p r n f) x
            → Gives F Q Z (Hand (due p r n q)) x (Z.Busy p (local p r (upd F n q (suc (n q))) f)) []
        unfolding due mail_count
        due_gives p r n f o q h x a =
            subst (λ l. Good p l → Gives F Q Z (Hand (due p r n q)) x (Z.Busy p l) []) (with_body_is p r n f o q h)
            (λ g. A.hand_does p (local p r n f) x a q _ g
            (short_open r q p (n q - mail_count r q p) (omega (arith, taken_fits p r n f o q))))
            (good p r (upd F n q (suc (n q))) f (ok-take F plan counted p (at_place (suc r) n f) o q h))

        -- a message of q for p that has the numbered F Q.pack that is due is the one that is due
        is_due : (p : Part) (r : ℕ) (n : Part → ℕ) (f : ℕ) → Ok plan p (at_place (suc r) n f) → (q : Part) (m : Msg)
            → Q.whole r q p (take (n q - mail_count r q p) (mail r q p)) ≡ false
            → (r' : ℕ) (i : ℕ) → i < length (mail r' q p) → m ≡ Q.pack q p (mail_count r' q p + i) (get_or (mail r' q p) i blank)
            → mail_count r' q p + i ≡ mail_count r q p + length (take (n q - mail_count r q p) (mail r q p))
            → (n q < mail_count (suc r) q p) × (m ≡ due p r n q)
        unfolding due mail_count
        is_due p r n f o q m w r' i h e k =
            let l = open_short r q p (n q - mail_count r q p) w in
            let t = length-take-le (n q - mail_count r q p) (mail r q p) (omega arith) in
            let u = taken_fits p r n f o q in
            let a = same_round q p r r' (n q) u.0 (omega (arith, l, u)) (omega (arith, k, t, u)) (omega (arith, k, t, u, h)) in
            let c : mail_count r' q p ≡ mail_count r q p = ap (λ x. mail_count x q p) a in
            (omega (arith, l, u), e ∙ ap₂ (Q.pack q p) k (ap₂ (λ x j. get_or (mail x q p) j blank) a (omega (arith, k, t, c, u))))

        hand_go : (p : Part) (φ : ℕ) (n : Part → ℕ) (f : ℕ) → Ok plan p (at_place φ n f) → (x : Store) → place p φ n f x
            → (q : Part) (m : Msg) → Sent q m → (y : Store × List Msg) → Z.act (Hand m) x ≡ some y
            → (0 < φ) × (n q < mail_count φ q p) × place p φ (upd F n q (suc (n q))) f y.0 × (y.1 ≡ [])
        unfolding place
        hand_go p zero n f o x a q m s y e = never Z (Hand m) x y (A.idle_hand p x a m) e
        hand_go p (suc r) n f o x a q m s y e =
            let k = A.hand_is p (local p r n f) x a q s.0 (mail_count s.1 q s.0 + s.2) (get_or (mail s.1 q s.0) s.2 blank)
            y
            (subst (λ z. Z.act (Hand z) x ≡ some y) s.4 e) in
            let t = subst (λ z. (r' : ℕ) × (i : ℕ) × (i < length (mail r' q z))
            × (m ≡ Q.pack q z (mail_count r' q z + i) (get_or (mail r' q z) i blank))
            × (mail_count r' q z + i ≡ mail_count r q p + length (take (n q - mail_count r q p) (mail r q p)))) k.0 (
              s.1,
              s.2,
              s.3,
              s.4,
              k.2,
            ) in
            let d = is_due p r n f o q m k.1 t.0 t.1 t.2 t.3 t.4 in
            let g = gives_to Z (Hand (due p r n q)) x _ _ (due_gives p r n f o q d.0 x a) y
            (subst (λ z. Z.act (Hand z) x ≡ some y) d.1 e) in
            (omega arith, d.0, g.0, g.1)

        phase_go : (p : Part) (φ : ℕ) (n : Part → ℕ) (f : ℕ) (x : Store) → place p φ n f x → Z.phase_of_lem p x ≡ φ
        unfolding place
        phase_go p zero n f = A.phase_idle p
        phase_go p (suc r) n f = A.phase_busy p (local p r n f)

        -- THE LAWS OF THE EXCHANGE
        pub laws : Laws F Z.act plan
        laws = record {
          counted = counted;
          phase_is = λ p g. phase_go p g.phase g.taken g.fetched;
          start_is = λ p g. start_go p g.phase g.taken g.fetched;
          step_is = λ p g. step_go p g.phase g.taken g.fetched;
          fetch_is = λ p g. fetch_go p g.phase g.taken g.fetched;
          hand_is = λ p g o x a q j h. hand_go p g.phase g.taken g.fetched o x a q (get_or (post (suc Q.rounds) q) j junk)
              (post_in A.ordered (suc Q.rounds) q _ (mem_get_d junk (post (suc Q.rounds) q) j h));
        }

        abbrev Takes : Request In Msg → Store → Type 0
        Takes c x = Accepts F Z.act plan c x

        takes : {c : Request In Msg} {x : Store} {B : Store → Type 0} {w : List Msg} → Gives F Q Z c x B w → Takes c x
        takes {w = w} g = ((g.after, w), g.does)

        start_live : (p : Part) (φ : ℕ) (n : Part → ℕ) (f : ℕ) → Ok plan p (at_place φ n f) → (x : Store) → place p φ n f x → φ ≡ 0
            → Takes (Start (input p)) x
        unfolding place
        start_live p zero n f o x a e = takes (start_gives p n f o x a)
        start_live p (suc r) n f o x a e = absurd (omega arith)

        step_live : (p : Part) (φ : ℕ) (n : Part → ℕ) (f : ℕ) → Ok plan p (at_place φ n f) → (x : Store) → place p φ n f x → 0 < φ
            → φ < suc Q.rounds → ((q : Part) → mail_count φ q p ≤ n q) → Takes Step x
        unfolding place
        step_live p zero n f o x a b c h = absurd (omega arith)
        step_live p (suc r) n f o x a b c h = takes (step_gives p r n f o (omega arith) h x a)

        fetch_live : (p : Part) (φ : ℕ) (n : Part → ℕ) (f : ℕ) → Ok plan p (at_place φ n f) → (x : Store) → place p φ n f x
            → f < length (post φ p) → Takes Fetch x
        unfolding place post
        fetch_live p zero n f o x a h = absurd (omega arith)
        fetch_live p (suc r) n f o x a h = takes (fetch_gives p r n f o h x a)

        hand_live : (p : Part) (φ : ℕ) (n : Part → ℕ) (f : ℕ) → Ok plan p (at_place φ n f) → (x : Store) → place p φ n f x → (q : Part)
            → n q < mail_count φ q p
            → (j : ℕ) × (j < length (post φ q)) × Takes (Hand (get_or (post (suc Q.rounds) q) j junk)) x
        unfolding place mail_count due
        hand_live p zero n f o x a q h = absurd (omega arith)
        hand_live p (suc r) n f o x a q h =
            let u = taken_fits p r n f o q in
            let t = length-take-le (n q - mail_count r q p) (mail r q p) (omega (arith, u)) in
            let w = get_d_mem junk (in_post A.ordered r q p (n q - mail_count r q p) (omega (arith, u))) in
            let e : get_or (post (suc Q.rounds) q) w.0 junk ≡ due p r n q = (prefix q w.0 (suc r) (suc Q.rounds) o.top w.1).1
            ∙ w.2 ∙ ap (λ k. Q.pack q p (mail_count r q p + k) (get_or (mail r q p) (n q - mail_count r q p) blank)) (sym t) in
            (w.0, w.1, subst (λ m. Takes (Hand m) x) (sym e) (takes (due_gives p r n f o q h x a)))

        pub live : Live F Z.act plan
        live = record {
          start_does = λ p g. start_live p g.phase g.taken g.fetched;
          step_does = λ p g. step_live p g.phase g.taken g.fetched;
          fetch_does = λ p g. fetch_live p g.phase g.taken g.fetched;
          hand_does = λ p g. hand_live p g.phase g.taken g.fetched;
        }
