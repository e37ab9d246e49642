-- What a part makes is what the step makes.
-- Laws: known_red and known_held (what the part knows of a cell and of an edge), kept_status (a cell that was there), pair and
-- fresh_status_lem (a new child of a cell that was not red).
use Rattle.std.proofs.Math.Path.{◌≡◌, refl, sym, ap, ap₂, subst}
use Rattle.std.proofs.Common.{◌∙◌, eqb-true}
use Rattle.std.specs.Prelude.{Bool, ◌&&◌, ℕ, suc, ◌+◌, ◌-◌, ◌<◌, eqb}
use Rattle.std.proofs.Math.Bool.{true, false}
use mathlib.Core.List.{List, [], map}
use Rattle.std.proofs.Math.Nat.{suc-pred-eq_of_pos}
use native.Mathlib.Omega.{arith}
use Rattle.std.proofs.Math.Dec.{T, eqb→eq, eqb_refl}
use Rattle.std.proofs.Math.ListN.{length, get_or}
use Rattle.mesh.specs.Laws.{six_below, below_six}
use Rattle.base.specs.Lists.{anyb, sameb}
use Rattle.base.specs.Bools.{is_true, and_left, and_right, and_both, or_first, same_test}
use Rattle.cutting.specs.Rule.{family}
use Rattle.mesh.specs.Cells.{Cell, redb, pattern_of, edge, edges, heldb, bits_of, no_cell}
use Rattle.mesh.specs.Weights.{Point, point}
use Rattle.mesh.specs.Table.{Level, levels_of}
use Rattle.mesh.specs.Layout.{edge_numbers}
use Rattle.base.specs.Every.{All}
use Rattle.lattice.specs.Levels.{IfRegular}
use Rattle.lineage.specs.Met.{Matched, Fostered, old_above}
use Rattle.exchange.specs.Finite.{Finite}
use Rattle.carriers.specs.Joins.{Edge}
use Rattle.families.specs.Children.{digits_of, low_digit, high_digit, digits_rise, digits_below_lem}
use Rattle.carriers.specs.Child.{child_edge}
use Rattle.carriers.specs.Refined.{asked_small}
use Rattle.soundness.specs.Held.{closed_at}
use Rattle.soundness.specs.Family.{child_parent, born_of}
use Rattle.soundness.specs.Sound.{Sound, lv, level_closed, level_next, level_there}
use Rattle.soundness.specs.Meets.{edges_alike, point_same}
use Rattle.base.specs.Member.{Member, any_member, member_any, map-agree}
use Rattle.rounds.specs.Task.{Task, red_at, hit_at}
use Rattle.rounds.specs.Rounds.{State, is_part, mine}
use Rattle.rounds.specs.Among.{is_same}
use Rattle.rounds.specs.Enough.{Known, holds_by, member_has}
use Rattle.parts.specs.Owners.{nth_cell, children_of}
use Rattle.splitting.specs.Numbers.{numbers_of, row_by, at_level, stands, kid, kid_in, row_of_cell}
use Rattle.succession.specs.After.{new_edges, new_red_row, new_status_lem}
use Rattle.succession.specs.FreshEdge.{fresh_edge}
use Rattle.splitting.specs.Split.{Slots, Owners, fits}
use Rattle.splitting.proofs.Split.{flags_red, hits}
use Rattle.shares.specs.Grow.{last_of, last_snoc, held_now, status_new, pair_held, fresh_status, fresh_is}
use Rattle.shares.specs.Settled.{Settled, task_in, new_level_in, num_in}

eq_t : (a b : ℕ) → a ≡ b → T (eqb a b)
eq_t a b e = subst (λ (x : ℕ). T (eqb a x)) e (eqb_refl a)

-- what a part that knows of the new red cells makes
module _ {Part : Type 0} {F : Finite Part} (X : Settled F) (p : Part) where
  abbrev n : ℕ
  n = X.n

  abbrev qs : List (List ℕ)
  qs = X.qs

  abbrev ss : List ℕ
  ss = X.ss

  abbrev ms : List ℕ
  ms = X.ms

  abbrev os : List ℕ
  os = X.os

  abbrev part : ℕ → Part
  part = X.part

  abbrev slot : ℕ → ℕ → ℕ
  slot = X.slot

  abbrev slots : ℕ → List ℕ
  slots = X.slots

  abbrev s : Sound n qs ss
  s = X.sound

  abbrev regular : (i : ℕ) → All (IfRegular n i) (lv n qs ss i).cells
  regular = X.regular

  abbrev sl : Slots n qs ss slot slots
  sl = X.numbered

  abbrev own : Owners n qs ss os
  own = X.owned

  abbrev J : Task Part
  J = task_in X

  abbrev mark : ℕ → ℕ
  mark c = get_or ms c 0

  abbrev st : State
  st = X.state p

  abbrev known : Known F J mark (suc J.top) p st
  known = X.known p

  abbrev new : ℕ → Level
  new = new_level_in X

  abbrev new_cell : ℕ → ℕ → Cell Point
  new_cell k i = get_or (new k).cells i no_cell

  abbrev new_status : ℕ → ℕ → ℕ
  new_status k i = get_or (new k).statuses i 0

  abbrev num : ℕ → ℕ → ℕ
  num = num_in X

  -- the level k is so far below the highest
  record Below (k c : ℕ) : Type 0 where
    pub j : ℕ
    pub few : j < suc J.top
    pub some : 0 < length (levels_of n qs ss)
    pub level : J.top - j ≡ k

  below : (k c : ℕ) → Member c (numbers_of n qs ss k) → Below k c
  below k c m =
      let w = stands n qs ss s k c m in
      let h = level_there n qs ss k w.t w.below in
      let z : suc J.top ≡ length (levels_of n qs ss) = suc-pred-eq_of_pos (omega arith) in
      record { j = J.top - k; few = omega arith; some = omega arith; level = omega arith }

  pub known_red : (k c : ℕ) → Member c (numbers_of n qs ss k) → T (mine F J p c)
      → st.red c ≡ new_red_row n qs ss ms k (row_by n qs ss ms c)
  known_red k c m o =
      let b = below k c m in
      let u : Member c (numbers_of n qs ss (J.top - b.j)) = subst (λ (x : ℕ). Member c (numbers_of n qs ss x)) (sym b.level) m in
      known.red b.j c b.few u o
      ∙ subst (λ (x : ℕ). red_at J mark b.j c ≡ new_red_row n qs ss ms x (row_by n qs ss ms c)) b.level
      (flags_red n qs ss s slot slots sl os own part ms b.j (omega (arith, b.few)) b.some c u)

  known_held : (k c e : ℕ) → Member c (numbers_of n qs ss k) → T (mine F J p c) → Member e edge_numbers
      → held_now J st (slot c e) ≡ heldb sameb (new_edges n qs ss ms k) (edge [] (nth_cell n qs ss c) e)
  known_held k c e m o q =
      let b = below k c m in
      let u : Member c (numbers_of n qs ss (J.top - b.j)) = subst (λ (x : ℕ). Member c (numbers_of n qs ss x)) (sym b.level) m in
      let f = fits n qs ss s slot slots sl os own part in
      known.hit b.j (slot c e) b.few (sl.there (J.top - b.j) c e u q) (holds_by F J p (J.top - b.j) (slot c e) c u o
      (member_has F J mark f c e q))
      ∙ subst (λ (x : ℕ). hit_at J mark b.j (slot c e) ≡ heldb sameb (new_edges n qs ss ms x) (edge [] (nth_cell n qs ss c) e)) b.level
      (hits n qs ss s slot slots sl os own part ms b.j (omega (arith, b.few)) b.some c e u q)

  edges_six : (f : Edge → Bool) (c : Cell Point) → map f (edges [] c) ≡ map (λ e. f (edge [] c e)) edge_numbers
  unfolding edges
  edges_six f c = refl

  -- a cell that was there
  pub kept_status : (k i : ℕ) → k < 12 → i < length (new k).cells → T (new_cell k i).regular
      → (w : Matched ms (old_above n qs ss k) (lv n qs ss k) (new_cell k i) (new_status k i))
      → T (mine F J p (num k w.t)) → new_status k i ≡ status_new J st (num k w.t)
  unfolding status_new
  kept_status k i g h r w o =
      let c = num k w.t in
      let a = at_level n qs ss s k w.t w.is.below in
      let reg : (nth_cell n qs ss (num k w.t)).regular ≡ true = ap (λ (c : Cell Point). c.regular) a.cell_is
      ∙ is_true (get_or (lv n qs ss k).cells w.t no_cell).regular w.is.regular in
      let red : st.red (num k w.t) ≡ redb (new_status k i) =
      known_red k (num k w.t) a.here o
      ∙ ap (new_red_row n qs ss ms k) (row_of_cell n qs ss s ms k w.t w.is.below) ∙ sym w.red in
      go reg red (redb (new_status k i)) refl a.here a.cell_is
    where
      go : (nth_cell n qs ss (num k w.t)).regular ≡ true → st.red (num k w.t) ≡ redb (new_status k i)
          → (b : Bool) → redb (new_status k i) ≡ b → Member (num k w.t) (numbers_of n qs ss k)
          → nth_cell n qs ss (num k w.t) ≡ get_or (lv n qs ss k).cells w.t no_cell → new_status k i ≡ status_new J st (num k w.t)
      go reg red true e m q = rw (reg, red ∙ e, status_new) (eqb-true (new_status k i) 64 e)
      go reg red false e m q =
          rw (reg, red ∙ e, status_new)
          (new_status_lem n qs ss ms s k g i h r e
          ∙ ap (λ (es : List Edge). bits_of (map (heldb sameb (new_edges n qs ss ms k)) es))
          (sym (edges_alike (nth_cell n qs ss (num k w.t)) (new_cell k i) (ap (λ (c : Cell Point). c.points) q ∙ w.is.points)))
          ∙ ap bits_of (edges_six (heldb sameb (new_edges n qs ss ms k)) (nth_cell n qs ss (num k w.t))
          ∙ map-agree (λ e. heldb sameb (new_edges n qs ss ms k) (edge [] (nth_cell n qs ss (num k w.t)) e))
          (λ e. held_now J st (slot (num k w.t) e)) edge_numbers (λ e b. sym (known_held k (num k w.t) e m o b))))

  -- an edge with two digits of a cell whose family is here
  module _ (k t : ℕ) (ht : t < length (lv n qs ss k).cells) (rt : T (get_or (lv n qs ss k).cells t no_cell).regular)
      (fam : J.family (num k t) ≡ p) where
    abbrev G : Cell Point
    G = get_or (lv n qs ss k).cells t no_cell

    abbrev s_old : ℕ
    s_old = get_or (lv n qs ss k).statuses t 0

    kid_mine : (d : ℕ) → Member d (children_of n qs ss (num k t)) → T (mine F J p d)
    kid_mine d m =
        or_first (is_part F (J.owner d) p) (is_part F (J.family d) p)
        (rw (is_same F (J.owner d) p ((fits n qs ss s slot slots sl os own part).kid_owner k (num k t) d
        (at_level n qs ss s k t ht).here m ∙ fam)) tt)

    abbrev fits_digits : ℕ → ℕ → ℕ → ℕ → Bool
    fits_digits a b d y = eqb a (low_digit (pattern_of (get_or ss (num k t) 0)) (last_of (nth_cell n qs ss d).path) y)
        && eqb b (high_digit (pattern_of (get_or ss (num k t) 0)) (last_of (nth_cell n qs ss d).path) y)

    pair_up : (a b : ℕ) → a < b → b < 10 → T (heldb sameb (new_edges n qs ss ms (suc k)) (point G a, point G b))
        → T (pair_held J st (num k t) a b)
    unfolding pair_held
    pair_up a b ab hb held =
        let w = fresh_edge n qs ss ms s regular k t ht rt a b ab hb held in
        let l = lv n qs ss k in
        let up = lv n qs ss (suc k) in
        let d = num (suc k) w.child.u in
        let o = at_level n qs ss s (suc k) w.child.u w.child.below in
        let z = at_level n qs ss s k t ht in
        let m : Member (num (suc k) w.child.u) (children_of n qs ss (num k t)) =
        kid_in n qs ss s (suc k) (num k t) (num (suc k) w.child.u) o.here (ap (λ (c : Cell Point). c.parent) o.cell_is
        ∙ child_parent l up t w.i w.child) in
        let last : last_of (nth_cell n qs ss (num (suc k) w.child.u)).path ≡ w.i =
        ap (λ (c : Cell Point). last_of c.path) (o.cell_is ∙ w.child.is) ∙ last_snoc G.path w.i in
        let held' : T (held_now J st (slot (num (suc k) w.child.u) w.y)) =
        rw (
          known_held (suc k) (num (suc k) w.child.u) w.y o.here (kid_mine (num (suc k) w.child.u) m)
              (below_six w.y w.below),
          o.cell_is,
        ) w.held in
        let q : T (fits_digits a b (num (suc k) w.child.u) w.y) =
        and_both (eqb a (low_digit (pattern_of (get_or ss (num k t) 0)) (last_of (nth_cell n qs ss (num (suc k) w.child.u)).path) w.y))
        (eqb b (high_digit (pattern_of (get_or ss (num k t) 0)) (last_of (nth_cell n qs ss (num (suc k) w.child.u)).path) w.y))
        (eq_t a (low_digit (pattern_of (get_or ss (num k t) 0)) (last_of (nth_cell n qs ss (num (suc k) w.child.u)).path) w.y)
        (w.low_is ∙ sym (ap₂ (λ (x i : ℕ). low_digit (pattern_of x) i w.y) z.status_is last)))
        (eq_t b (high_digit (pattern_of (get_or ss (num k t) 0)) (last_of (nth_cell n qs ss (num (suc k) w.child.u)).path) w.y)
        (w.high_is ∙ sym (ap₂ (λ (x i : ℕ). high_digit (pattern_of x) i w.y) z.status_is last))) in
        member_any (λ d. anyb (λ y. fits_digits a b d y && held_now J st (slot d y)) edge_numbers) (children_of n qs ss (num k t))
        (num (suc k) w.child.u) m
        (member_any (λ y. fits_digits a b (num (suc k) w.child.u) y && held_now J st (slot (num (suc k) w.child.u) y)) edge_numbers
        w.y
        (below_six w.y w.below)
        (and_both (fits_digits a b (num (suc k) w.child.u) w.y) (held_now J st (slot (num (suc k) w.child.u) w.y)) q held'))

    pair_down : (a b : ℕ) → T (pair_held J st (num k t) a b) → T (heldb sameb (new_edges n qs ss ms (suc k)) (point G a, point G b))
    unfolding pair_held
    pair_down a b r =
        let (d, m, r1) = any_member (λ d. anyb (λ y. fits_digits a b d y && held_now J st (slot d y)) edge_numbers)
        (children_of n qs ss (num k t))
        r in
        let (y, hy, r2) = any_member (λ y. fits_digits a b d y && held_now J st (slot d y)) edge_numbers r1 in
        let r3 = and_left (fits_digits a b d y) (held_now J st (slot d y)) r2 in
        let z = at_level n qs ss s k t ht in
        let kd = kid n qs ss s k (num k t) d z.here m in
        let pl = stands n qs ss s (suc k) d kd.up in
        let o = at_level n qs ss s (suc k) pl.t pl.below in
        let top = level_there n qs ss (suc k) pl.t pl.below in
        let l = lv n qs ss k in
        let b' = born_of l (lv n qs ss (suc k)) (level_next n qs ss k (omega (arith, s.high))) pl.t pl.below in
        let cd : nth_cell n qs ss d ≡ get_or (lv n qs ss (suc k)).cells pl.t no_cell = ap (nth_cell n qs ss) pl.number ∙ o.cell_is in
        let pp : l.first + b'.p ≡ num k t = sym (ap (λ (c : Cell Point). c.parent) (cd ∙ b'.is)) ∙ kd.parent in
        let pt : b'.p ≡ t = omega arith in
        let last : last_of (nth_cell n qs ss d).path ≡ b'.i = ap (λ (c : Cell Point). last_of c.path) (cd ∙ b'.is)
        ∙ last_snoc (get_or l.cells b'.p no_cell).path b'.i in
        let st' = (closed_at l (level_closed n qs ss s.closed k) t ht).1 in
        let small : pattern_of s_old < 64 = asked_small _ G s_old st' in
        let inside : b'.i < length (family (pattern_of s_old)) =
        subst (λ (x : ℕ). b'.i < length (family (pattern_of (get_or l.statuses x 0)))) pt b'.child in
        let pts : (nth_cell n qs ss d).points ≡ map (point G) (digits_of (pattern_of s_old) b'.i) =
        ap (λ (c : Cell Point). c.points) (cd ∙ b'.is)
        ∙ ap (λ (x : ℕ). map (point (get_or l.cells x no_cell)) (digits_of (pattern_of (get_or l.statuses x 0)) b'.i)) pt in
        let ce = child_edge (pattern_of s_old) b'.i small inside y (six_below y hy) G (nth_cell n qs ss d) pts in
        let ea : a ≡ low_digit (pattern_of s_old) b'.i y =
        eqb→eq a (low_digit (pattern_of (get_or ss (num k t) 0)) (last_of (nth_cell n qs ss d).path) y)
        (and_left (eqb a (low_digit (pattern_of (get_or ss (num k t) 0)) (last_of (nth_cell n qs ss d).path) y))
        (eqb b (high_digit (pattern_of (get_or ss (num k t) 0)) (last_of (nth_cell n qs ss d).path) y)) r3)
        ∙ ap₂ (λ (x i : ℕ). low_digit (pattern_of x) i y) z.status_is last in
        let eb : b ≡ high_digit (pattern_of s_old) b'.i y =
        eqb→eq b (high_digit (pattern_of (get_or ss (num k t) 0)) (last_of (nth_cell n qs ss d).path) y)
        (and_right (eqb a (low_digit (pattern_of (get_or ss (num k t) 0)) (last_of (nth_cell n qs ss d).path) y))
        (eqb b (high_digit (pattern_of (get_or ss (num k t) 0)) (last_of (nth_cell n qs ss d).path) y)) r3)
        ∙ ap₂ (λ (x i : ℕ). high_digit (pattern_of x) i y) z.status_is last in
        let held : T (heldb sameb (new_edges n qs ss ms (suc k)) (edge [] (nth_cell n qs ss d) y)) =
        rw (known_held (suc k) d y kd.up (kid_mine d m) hy) at (and_right (fits_digits a b d y) (held_now J st (slot d y)) r2) in
        let same : ◌≡◌ {A = Edge} (edge [] (nth_cell n qs ss d) y) (point G a, point G b) =
        ce ∙ ap₂ {A = ℕ} {B = ℕ} {C = Edge} (λ x i. (point G x, point G i)) (sym ea) (sym eb) in
        subst (λ (f : Edge). T (heldb sameb (new_edges n qs ss ms (suc k)) f)) same held

    pair : (a b : ℕ) → a < b → b < 10 → heldb sameb (new_edges n qs ss ms (suc k)) (point G a, point G b) ≡ pair_held J st (num k t) a b
    pair a b ab hb = same_test (heldb sameb (new_edges n qs ss ms (suc k)) (point G a, point G b)) (pair_held J st (num k t) a b)
        (pair_up a b ab hb) (pair_down a b)

  -- a new child of a cell that was not red
  fresh_pair : (k i : ℕ) (f : Fostered (lv n qs ss k) (new k) (new_cell (suc k) i)) → J.family (num k f.t) ≡ p → (y : ℕ) → y < 6
      → heldb sameb (new_edges n qs ss ms (suc k)) (edge [] (new_cell (suc k) i) y) ≡ pair_held J st (num k f.t)
      (low_digit 63 f.born.i y) (high_digit 63 f.born.i y)
  unfolding pattern_of
  fresh_pair k i f fam y hy =
      let c = new_cell (suc k) i in
      let G' = new_cell k f.born.p in
      let G = get_or (lv n qs ss k).cells f.t no_cell in
      let up63 : 63 < 64 = omega arith in
      let hi : f.born.i < length (family 63) = rw f.parent_red at f.born.child in
      let pts : c.points ≡ map (point G') (digits_of 63 f.born.i) =
      rw f.parent_red at (ap (λ (c : Cell Point). c.points) f.born.is) in
      let a = low_digit 63 f.born.i y in
      let b = high_digit 63 f.born.i y in
      let ce = child_edge 63 f.born.i up63 hi y hy G' c pts in
      let same : ◌≡◌ {A = Edge} (edge [] c y) (point G a, point G b) =
      ce ∙ ap₂ {A = Point} {B = Point} {C = Edge} (λ a b. (a, b)) (sym (point_same G G' f.is.points a))
      (sym (point_same G G' f.is.points b)) in
      ap (heldb sameb (new_edges n qs ss ms (suc k))) same
      ∙ pair k f.t f.is.below f.is.regular fam a b (digits_rise 63 f.born.i up63 hi y hy)
      (digits_below_lem 63 f.born.i up63 hi y hy)

  pub fresh_status_lem : (k i : ℕ) → suc k < 12 → i < length (new (suc k)).cells → T (new_cell (suc k) i).regular
      → redb (new_status (suc k) i) ≡ false
      → (f : Fostered (lv n qs ss k) (new k) (new_cell (suc k) i)) → J.family (num k f.t) ≡ p
      → new_status (suc k) i ≡ fresh_status J st (num k f.t) f.born.i
  fresh_status_lem k i g h r e f fam =
      new_status_lem n qs ss ms s (suc k) g i h r e
      ∙ ap bits_of (edges_six (heldb sameb (new_edges n qs ss ms (suc k))) (new_cell (suc k) i)
      ∙ map-agree (λ y. heldb sameb (new_edges n qs ss ms (suc k)) (edge [] (new_cell (suc k) i) y))
      (λ y. pair_held J st (num k f.t) (low_digit 63 f.born.i y) (high_digit 63 f.born.i y)) edge_numbers
      (λ y m. fresh_pair k i f fam y (six_below y m)))
      ∙ sym (fresh_is J st (num k f.t) f.born.i)
