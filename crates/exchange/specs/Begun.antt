-- What a part was started with is an input that it takes.
-- Law: first_fine.
use Prim.Native.Nat.{ℕ, ◌<◌, Fin}
use Rattle.std.proofs.Common.{arith, ap, ◌∙◌, length-set, get_or-set_other, eq-eqb, ne_eqb}
use Rattle.std.proofs.Math.Decide.{ℕ_discrete}
use Rattle.std.proofs.Math.Path.{◌≡◌, refl, sym, subst}
use Rattle.std.specs.Prelude.{get_or}
use Rattle.std.proofs.Math.Bool.{true}
use Rattle.std.proofs.Math.Option.{Option, none, some}
use mathlib.Core.List.{List, [], ◌∷◌}
use Rattle.std.proofs.Math.ListN.{length}
use Rattle.exchange.specs.Calls.{Request, Start, Step, Fetch, Hand, Call, World, answer, changed, begun, started_with}
use Rattle.exchange.specs.Played.{answer_at_lem, started_none, started_some}
use Rattle.exchange.specs.Finite.{parts}
use Rattle.exchange.specs.Protocol.{Protocol, Machine, Local, Alone}
use Rattle.exchange.specs.Exchange.{store_at}

module _ {In Body Msg St Store : Type 0} (P : ℕ) (Q : Protocol (Fin P) In Body Msg St) (Z : Machine (Fin P) In Body Msg St Store)
    (Good : Fin P → Local (Fin P) Body Msg St → Type 0) (Fine : Fin P → In → Type 0) (A : Alone (parts P) Q Z Good Fine) (void : Store)
    (p : Fin P) (i : In) where
  none_some : {B : Type 0} (o : Option In) → o ≡ none → o ≡ some i → B
  none_some o e f = let z : ◌≡◌ {A = ℕ} 0 1 = cc in absurd (omega arith)

  refused : {B : Type 0} (x : Store) (c : Request In Msg) (y : Store × List Msg) → Z.act c x ≡ none → Z.act c x ≡ some y → B
  refused x c y e f = let z : ◌≡◌ {A = ℕ} 0 1 = cc in absurd (omega arith)

  begun_own : (j : In) (q : ℕ) (r : Option In) → q ≡ p.0 → begun Z.act p.0 q (Start j) true r ≡ some j
  unfolding begun
  begun_own j q r e = rw (eq-eqb p.0 q (sym e), begun)

  -- an accepted call at an idle store is a start
  own_call : (x : Store) → Z.Idle p x → (c : Request In Msg) (q : ℕ) → q ≡ p.0 → (y : Store × List Msg) → Z.act c x ≡ some y
      → (r : Option In) → begun Z.act p.0 q c true r ≡ some i → Fine p i
  unfolding begun
  own_call x a (Start j) q e y k r h =
      let z : ◌≡◌ {A = Option In} (some j) (some i) = sym (begun_own j q r e) ∙ h in
      let w : j ≡ i = cc in
      subst (Fine p) w (A.idle_fine p x a j y k)
  own_call x a Step q e y k r h = refused x Step y (A.idle_step p x a) k
  own_call x a Fetch q e y k r h = refused x Fetch y (A.idle_fetch p x a) k
  own_call x a (Hand m) q e y k r h = refused x (Hand m) y (A.idle_hand p x a m) k

  other_call : (c : Request In Msg) (q : ℕ) → (q ≡ p.0 → ⊥) → (r : Option In) → begun Z.act p.0 q c true r ≡ r
  unfolding begun
  other_call (Start j) q n r = rw (ne_eqb p.0 q (λ e. n (sym e)), begun)
  other_call Step q n r = refl
  other_call Fetch q n r = refl
  other_call (Hand m) q n r = refl

  pub first_fine : (cs : List (Call In Msg)) (w : World Msg Store) → p.0 < length w.stores → Z.Idle p (store_at void w p)
      → started_with Z.act cs w p.0 ≡ some i → Fine p i
  unfolding started_with answer changed
  first_fine [] w h a e = none_some (started_with Z.act [] w p.0) refl e
  first_fine (c ∷ cs) w h a e = go (answer Z.act c w) refl (first_fine cs)
    where
      go : (o : Option (Store × List Msg)) → answer Z.act c w ≡ o
          → ((v : World Msg Store) → p.0 < length v.stores → Z.Idle p (store_at void v p)
          → started_with Z.act cs v p.0 ≡ some i → Fine p i)
          → Fine p i
      go none k r = r w h a (sym (started_none Z.act c cs w p.0 k) ∙ e)
      go (some y) k r = part_is (ℕ_discrete c.part p.0)
        where
          f : begun Z.act p.0 c.part c.request true (started_with Z.act cs (changed Z.act c.part w (some y)) p.0)
              ≡ some i
          f = sym (started_some Z.act c cs w p.0 y k) ∙ e

          part_is : Dec (c.part ≡ p.0) → Fine p i
          part_is (yes q) =
              let l : c.part < length w.stores = omega (arith, q, h) in
              let g : Z.act c.request (store_at void w p) ≡ some y =
              ap (λ (j : ℕ). Z.act c.request (get_or w.stores j void)) (sym q)
              ∙ sym (answer_at_lem Z.act void c.request w.stores c.part l) ∙ k in
              own_call (store_at void w p) a c.request c.part q y g _ f
          part_is (no n) =
              r (changed Z.act c.part w (some y)) (rw (length-set w.stores c.part y.0) h)
              (subst (Z.Idle p) (sym (get_or-set_other w.stores c.part p.0 y.0 void (λ z. n (sym z)))) a)
              (sym (other_call c.request c.part n (started_with Z.act cs (changed Z.act c.part w (some y)) p.0)) ∙ f)
