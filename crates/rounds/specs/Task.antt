-- A table that is split, by cell numbers: what the step needs of it, and who holds what. `Part` is any finite type.
--   Task                    the cells of each level with status, children, slots of edges, and owners
--   kids c                 the children of c
--   has c s                an edge of c has the slot s
--   rule h ms c            c will be red, where h tells the slots that new red cells one level up have
--   red_at ms i c           c, of the level i below the highest, will be red
--   hit_at ms i s           a new red cell of that level has the slot s
--   Fit                    what holds of a task that comes from a sound table and valid owners
use Rattle.std.specs.Prelude.{◌≡◌, Bool, ◌&&◌, ◌||◌, List}
use Rattle.std.proofs.Math.Path.{refl, ap, ap₂}
use Rattle.std.proofs.Math.Bool.{true, false, not}
use Prim.Native.Nat.{ℕ, zero, suc, ◌-◌}
use Rattle.std.proofs.Math.Dec.{eqb}
use Rattle.std.proofs.Common.{eqb-true}
use Rattle.base.specs.Lists.{allb, anyb}
use Rattle.mesh.specs.Layout.{edge_numbers}
use Rattle.base.specs.Member.{Member, any_agree, all_agree}

pub record Task (Part : Type 0) : Type 0 where
  pub top : ℕ  -- the highest level
  pub cells : ℕ → List ℕ  -- the numbers of the cells of a level
  pub slots : ℕ → List ℕ  -- the slots of the edges of a level
  pub status : ℕ → ℕ
  pub regular : ℕ → Bool
  pub kids : ℕ → List ℕ
  pub inner : ℕ → ℕ → Bool  -- the edge of a cell is not also its parent's
  pub slot : ℕ → ℕ → ℕ  -- the slot of an edge of a cell
  pub path : ℕ → List ℕ  -- the coarse cell, then child numbers down to it
  pub parent : ℕ → ℕ
  pub owner : ℕ → Part
  pub family : ℕ → Part  -- the owner of its children; of a leaf, its own

module _ {Part : Type 0} (J : Task Part) where
  -- Rule 5.4.
  unfoldable pub has : ℕ → ℕ → Bool
  unfolding anyb
  has c s = anyb (λ e. eqb (J.slot c e) s) edge_numbers

  -- Rule 7.3.
  unfoldable pub idle : (ℕ → Bool) → (ℕ → ℕ) → ℕ → Bool
  unfolding allb
  idle h ms k = (eqb (J.status k) 0 && eqb (ms k) 2) && allb (λ e. not (h (J.slot k e))) edge_numbers

  -- Rule 7.5.
  unfoldable pub pulled : (ℕ → Bool) → (ℕ → ℕ) → ℕ → Bool
  unfolding anyb
  pulled h ms k = eqb (ms k) 1 || anyb (λ e. J.inner k e && h (J.slot k e)) edge_numbers

  -- Rules 7.3, 7.4, 7.5: the three rules of new red cells
  unfoldable pub rule : (ℕ → Bool) → (ℕ → ℕ) → ℕ → Bool
  unfolding idle pulled allb anyb
  rule h ms c =
      elim (eqb (J.status c) 64) [
        | true ↦ not (allb (idle h ms) (J.kids c))
        | false ↦ elim (eqb (J.status c) 0) [
          | true ↦ J.regular c && eqb (ms c) 1
          | false ↦ anyb (pulled h ms) (J.kids c)
        ]
      ]

  -- Rule 7.2.
  unfoldable pub red_at : (ℕ → ℕ) → ℕ → ℕ → Bool
  unfolding rule has anyb
  red_at ms zero c = rule (λ s. false) ms c
  red_at ms (suc i) c = rule (λ s. anyb (λ d. red_at ms i d && has d s) (J.cells (J.top - i))) ms c

  abbrev pub hit_at : (ℕ → ℕ) → ℕ → ℕ → Bool
  hit_at ms i s = anyb (λ d. red_at ms i d && has d s) (J.cells (J.top - i))

  pub record Fit : Type 0 where
    pub kid_level : (k c j : ℕ) → Member c (J.cells k) → Member j (J.kids c) → Member j (J.cells (suc k))
    pub kid_owner : (k c j : ℕ) → Member c (J.cells k) → Member j (J.kids c) → J.owner j ≡ J.family c
    pub leaf_family : (k c : ℕ) → Member c (J.cells k) → J.status c ≡ 0 → J.family c ≡ J.owner c
    pub slot_level : (k c e : ℕ) → Member c (J.cells k) → Member e edge_numbers → Member (J.slot c e) (J.slots k)
    pub one_level : (j k c : ℕ) → Member c (J.cells j) → Member c (J.cells k) → j ≡ k
    pub one_slot : (j k s : ℕ) → Member s (J.slots j) → Member s (J.slots k) → j ≡ k

  -- the rule looks at the slots of the children's edges, and at the marks of the cell and its children
  module _ (h g : ℕ → Bool) (ms ns : ℕ → ℕ) (c : ℕ) (own : J.status c ≡ 0 → ms c ≡ ns c) (marks : (j : ℕ) → Member j (J.kids c)
      → ms j ≡ ns j)
      (hits : (j e : ℕ) → Member j (J.kids c) → Member e edge_numbers → h (J.slot j e) ≡ g (J.slot j e)) where
    idle_same : (j : ℕ) → Member j (J.kids c) → idle h ms j ≡ idle g ns j
    unfolding idle
    idle_same j m =
        ap₂ (λ (x : ℕ) (b : Bool). (eqb (J.status j) 0 && eqb x 2) && b) (marks j m)
        (all_agree (λ e. not (h (J.slot j e))) (λ e. not (g (J.slot j e))) edge_numbers (λ e n. ap not (hits j e m n)))

    pulled_same : (j : ℕ) → Member j (J.kids c) → pulled h ms j ≡ pulled g ns j
    unfolding pulled
    pulled_same j m =
        ap₂ (λ (x : ℕ) (b : Bool). eqb x 1 || b) (marks j m)
        (any_agree (λ e. J.inner j e && h (J.slot j e)) (λ e. J.inner j e
        && g (J.slot j e)) edge_numbers (λ e n. ap (λ (b : Bool). J.inner j e && b) (hits j e m n)))

    pub rule_same : rule h ms c ≡ rule g ns c
    unfolding rule
    rule_same = go (eqb (J.status c) 64) refl (eqb (J.status c) 0) refl
      where
        go : (a : Bool) → eqb (J.status c) 64 ≡ a → (b : Bool) → eqb (J.status c) 0 ≡ b → rule h ms c ≡ rule g ns c
        go true p b q = rw (p, rule) (ap not (all_agree (idle h ms) (idle g ns) (J.kids c) idle_same))
        go false p true q = rw (p, q, rule) (ap (λ (x : ℕ). J.regular c && eqb x 1) (own (eqb-true (J.status c) 0 q)))
        go false p false q = rw (p, q, rule) (any_agree (pulled h ms) (pulled g ns) (J.kids c) pulled_same)
