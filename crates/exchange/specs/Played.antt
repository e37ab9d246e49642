-- Laws of lists of calls.
--   mem_get_d, get_d_mem                    what is in a list has a place there
--   answer_at_lem, answer_there               the answer is that of the part's store, where there is one
--   play_none, play_some, ..              a refused call changes nothing, an accepted one its part's store
--   play_append, moves_append, ..         one list behind another
--   play-length                           there are as many stores as before
use Prim.Native.Nat.{ℕ, zero, suc, ◌+◌, ◌<◌}
use native.Mathlib.Omega.{arith}
use Rattle.std.proofs.Math.Path.{◌≡◌, refl, ap, subst}
use Rattle.std.proofs.Common.{sym, ◌∙◌}
use Rattle.std.specs.Prelude.{Bool, eqb, length, get_or}
use Rattle.std.proofs.Math.Bool.{true, false}
use Rattle.std.proofs.Math.Option.{Option, none, some, Option-elim}
use mathlib.Core.List.{List, [], ◌∷◌, ◌++◌, Memᴰ}
use Rattle.std.proofs.Math.Dec.{T}
use Rattle.std.proofs.Math.ListN.{length-set}
use Rattle.base.specs.Bools.{one_if}
use Rattle.exchange.specs.Calls.{Request, Start, Step, Fetch, Hand, Call, World, Program, answer_at, answer, changed, apply, play}
use Rattle.exchange.specs.Calls.{acceptsb, moves, begun, started_with, Fair, Lawful}

-- the j-th of a list is in it, and what is in it is the j-th for some j
module _ {A : Type 0} (d : A) where
  pub mem_get_d : (l : List A) (j : ℕ) → j < length l → Memᴰ (get_or l j d) l
  mem_get_d [] j h = absurd (omega arith)
  mem_get_d (x ∷ l) zero h = Memᴰ.head refl
  mem_get_d (x ∷ l) (suc j) h = Memᴰ.tail (mem_get_d l j (omega arith))

  pub get_d_mem : {a : A} {l : List A} → Memᴰ a l → (j : ℕ) × (j < length l) × (get_or l j d ≡ a)
  get_d_mem (Memᴰ.head e) = (0, omega arith, sym e)
  get_d_mem (Memᴰ.tail m) = let r = get_d_mem m in (suc r.0, omega (arith, r.1), r.2)

module _ {In Msg Store : Type 0} (act : Program In Msg Store) (void : Store) (c : Request In Msg) where
  -- the answer is that of the part's store, where there is one
  pub answer_at_lem : (xs : List Store) (p : ℕ) → p < length xs → answer_at act c xs p ≡ act c (get_or xs p void)
  unfolding answer_at
  answer_at_lem [] p h = absurd (omega arith)
  answer_at_lem (x ∷ xs) zero h = refl
  answer_at_lem (x ∷ xs) (suc p) h = answer_at_lem xs p (omega arith)

  pub answer_there : (xs : List Store) (p : ℕ) (y : Store × List Msg) → answer_at act c xs p ≡ some y → p < length xs
  unfolding answer_at
  answer_there [] p y e = let z : ◌≡◌ {A = ℕ} 0 1 = cc in absurd (omega arith)
  answer_there (x ∷ xs) zero y e = omega arith
  answer_there (x ∷ xs) (suc p) y e = omega (arith, answer_there xs p y e)

module _ {In Msg Store : Type 0} (act : Program In Msg Store) (c : Call In Msg) (cs : List (Call In Msg)) (w : World Msg Store) where
  -- a refused call changes nothing; an accepted one changes its part's store
  pub play_none : answer act c w ≡ none → play act (c ∷ cs) w ≡ play act cs w
  unfolding play changed
  play_none e = ap (λ o. play act cs (changed act c.part w o)) e

  pub moves_none : answer act c w ≡ none → moves act (c ∷ cs) w ≡ moves act cs w
  unfolding moves changed acceptsb one_if
  moves_none e =
      let h : moves act (c ∷ cs) w ≡ 0 + moves act cs w = ap (λ o. one_if (acceptsb act o) + moves act cs (changed act c.part w o)) e in
      omega arith

  pub play_some : (y : Store × List Msg) → answer act c w ≡ some y → play act (c ∷ cs) w ≡ play act cs (changed act c.part w (some y))
  unfolding play
  play_some y e = ap (λ o. play act cs (changed act c.part w o)) e

  pub moves_some : (y : Store × List Msg) → answer act c w ≡ some y
      → moves act (c ∷ cs) w ≡ 1 + moves act cs (changed act c.part w (some y))
  unfolding moves acceptsb one_if
  moves_some y e = ap (λ o. one_if (acceptsb act o) + moves act cs (changed act c.part w o)) e

  pub lawful_none : answer act c w ≡ none → Lawful act (c ∷ cs) w → Lawful act cs w
  unfolding Lawful changed
  lawful_none e h = subst (λ o. Lawful act cs (changed act c.part w o)) e h.1

  pub lawful_some : (y : Store × List Msg) → answer act c w ≡ some y → Lawful act (c ∷ cs) w
      → Fair act c.request w × Lawful act cs (changed act c.part w (some y))
  unfolding Lawful acceptsb
  lawful_some y e h =
      (h.0 (subst (λ o. T (acceptsb act o)) (sym e) tt), subst (λ o. Lawful act cs (changed act c.part w o)) e h.1)

  module _ (p : ℕ) where
    pub started_none : answer act c w ≡ none → started_with act (c ∷ cs) w p ≡ started_with act cs w p
    unfolding started_with changed acceptsb begun
    started_none e = ap (λ o. begun act p c.part c.request (acceptsb act o) (started_with act cs (changed act c.part w o) p)) e
        ∙ go c.request
      where
        go : (k : Request In Msg) → begun act p c.part k false (started_with act cs w p) ≡ started_with act cs w p
        go (Start i) = refl
        go Step = refl
        go Fetch = refl
        go (Hand m) = refl

    pub started_some : (y : Store × List Msg) → answer act c w ≡ some y
        → started_with act (c ∷ cs) w p ≡ begun act p c.part c.request true (started_with act cs (changed act c.part w (some y)) p)
    unfolding started_with acceptsb
    started_some y e = ap (λ o. begun act p c.part c.request (acceptsb act o) (started_with act cs (changed act c.part w o) p)) e

-- one list behind another
module _ {In Msg Store : Type 0} (act : Program In Msg Store) where
  pub play_append : (cs ds : List (Call In Msg)) (w : World Msg Store) → play act (cs ++ ds) w ≡ play act ds (play act cs w)
  unfolding play
  play_append [] ds w = refl
  play_append (c ∷ cs) ds w = play_append cs ds (apply act c w)

  pub moves_append : (cs ds : List (Call In Msg)) (w : World Msg Store)
      → moves act (cs ++ ds) w ≡ moves act cs w + moves act ds (play act cs w)
  unfolding play moves
  moves_append [] ds w = omega arith
  moves_append (c ∷ cs) ds w = omega (arith, moves_append cs ds (apply act c w))

  pub lawful_append : (cs ds : List (Call In Msg)) (w : World Msg Store) → Lawful act cs w → Lawful act ds (play act cs w)
      → Lawful act (cs ++ ds) w
  unfolding play Lawful
  lawful_append [] ds w h k = k
  lawful_append (c ∷ cs) ds w h k = (h.0, lawful_append cs ds (apply act c w) h.1 k)

  pub lawful_split : (cs ds : List (Call In Msg)) (w : World Msg Store) → Lawful act (cs ++ ds) w → Lawful act cs w
      × Lawful act ds (play act cs w)
  unfolding play Lawful
  lawful_split [] ds w h = (tt, h)
  lawful_split (c ∷ cs) ds w h = let (a, b) = lawful_split cs ds (apply act c w) h.1 in ((h.0, a), b)

  pub started_append : (cs ds : List (Call In Msg)) (w : World Msg Store) (p : ℕ)
      → started_with act (cs ++ ds) w p ≡ Option-elim (started_with act cs w p) (started_with act ds (play act cs w) p) some
  unfolding play started_with Option-elim begun
  started_append [] ds w p = refl
  started_append (c ∷ cs) ds w p =
      ap (begun act p c.part c.request (acceptsb act (answer act c w))) (started_append cs ds (apply act c w) p)
      ∙ go c.request (acceptsb act (answer act c w)) (started_with act cs (apply act c w) p)
      (started_with act ds (play act cs (apply act c w)) p)
    where
      go : (k : Request In Msg) (b : Bool) (r s : Option In)
          → begun act p c.part k b (Option-elim r s some) ≡ Option-elim (begun act p c.part k b r) s some
      go (Start i) true r s = pick_one (eqb p c.part)
        where
          pick_one : (t : Bool) → elim t [ true ↦ some i | false ↦ Option-elim r s some ]
              ≡ Option-elim (elim t [ true ↦ some i | false ↦ r ]) s some
          pick_one true = refl
          pick_one false = refl
      go (Start i) false r s = refl
      go Step b r s = refl
      go Fetch b r s = refl
      go (Hand m) b r s = refl

  -- as many stores as before
  changed-length : (p : ℕ) (w : World Msg Store) (o : Option (Store × List Msg)) → length (changed act p w o).stores ≡ length w.stores
  unfolding changed
  changed-length p w none = refl
  changed-length p w (some y) = length-set w.stores p y.0

  pub play-length : (cs : List (Call In Msg)) (w : World Msg Store) → length (play act cs w).stores ≡ length w.stores
  unfolding play
  play-length [] w = refl
  play-length (c ∷ cs) w = play-length cs (apply act c w) ∙ changed-length c.part w (answer act c w)
