-- The flags of the split table's task are the new red cells (flags_red), and its slots of new red cells are their edges (hits).
use Rattle.std.specs.Prelude.{◌≡◌, ◌||◌, drop}
use Rattle.std.proofs.Math.Path.{refl, sym, ap, ap₂, subst}
use Rattle.std.proofs.Common.{◌∙◌, eqb→eq, drop-cons, eq-eqb}
use Rattle.std.proofs.Math.Bool.{Bool, true, false, ◌&&◌, not}
use mathlib.Core.List.{List, [], ◌∷◌, map, flat_map}
use Prim.Native.Nat.{ℕ, zero, suc, ◌-◌, ◌≤◌, ◌<◌}
use Rattle.std.proofs.Math.Nat.{suc-pred-eq_of_pos}
use native.Mathlib.Omega.{arith}
use Rattle.std.proofs.Math.Dec.{eqb}
use Rattle.std.proofs.Math.ListN.{length, get_or}
use Rattle.base.specs.Lists.{allb, anyb, filterb, sameb}
use Rattle.base.specs.Each.{filter_map, all_through}
use Rattle.mesh.specs.Cells.{edge, edges, joinsb, heldb}
use Rattle.mesh.specs.Table.{Level, levels_of}
use Rattle.mesh.specs.Step.{Row, kids, deletedb, turnedb, rows_up, edges_up, new_reds, red_afterb}
use Rattle.mesh.specs.Layout.{edge_numbers}
use Rattle.mesh.specs.Laws.{held_append}
use Rattle.lattice.specs.Levels.{no_level}
use Rattle.lineage.specs.Stays.{up_rows}
use Rattle.carriers.specs.Joins.{Edge}
use Rattle.soundness.specs.Sound.{Sound, level_there}
use Rattle.succession.specs.After.{new_edges, new_red_row}
use Rattle.base.specs.Member.{Member, any_agree, all_agree, filtered_member, member_filtered}
use Rattle.rounds.specs.Task.{Task, has, idle, pulled, rule, red_at, hit_at}
use Rattle.parts.specs.Owners.{nth_cell, children_of}
use Rattle.splitting.specs.Members.{any_members, all_members, any_mapped_by}
use Rattle.splitting.specs.Numbers.{numbers_of, row_by, kid, kid_in, rows_numbers, stands}
use Rattle.splitting.specs.Split.{Slots, Owners, inner_of, task_of}

-- the edges of chosen rows
module _ (g : ℕ → Row) (f : Row → Bool) (e : Edge) where
  held_rows : (l : List ℕ) → heldb sameb (flat_map (λ (r : Row). edges [] r.cell) (filterb f (map g l))) e ≡ anyb
      (λ d. f (g d) && heldb sameb (edges [] (g d).cell) e) l
  unfolding filterb flat_map anyb heldb
  held_rows [] = refl
  held_rows (x ∷ l) = go (f (g x)) refl (held_rows l)
    where
      rest : List Edge
      rest = flat_map (λ (r : Row). edges [] r.cell) (filterb f (map g l))

      go : (b : Bool) → f (g x) ≡ b → heldb sameb rest e ≡ anyb (λ d. f (g d) && heldb sameb (edges [] (g d).cell) e) l
          → heldb sameb (flat_map (λ (r : Row). edges [] r.cell) (filterb f (map g (x ∷ l)))) e
          ≡ ((f (g x) && heldb sameb (edges [] (g x).cell) e) || anyb (λ d. f (g d) && heldb sameb (edges [] (g d).cell) e) l)
      go true q i = rw (q, filterb) (held_append sameb (edges [] (g x).cell) rest e
          ∙ ap (λ (b : Bool). heldb sameb (edges [] (g x).cell) e || b) i)
      go false q i = rw (q, filterb) i

module _ {Part : Type 0} (n : ℕ) (qs : List (List ℕ)) (ss : List ℕ) (s : Sound n qs ss) (slot : ℕ → ℕ → ℕ) (slots : ℕ → List ℕ)
    (sl : Slots n qs ss slot slots)
    (os : List ℕ) (own : Owners n qs ss os) (part : ℕ → Part) where
  abbrev J : Task Part
  J = task_of n qs ss slot slots os part

  module _ (ms : List ℕ) where
    abbrev mark : ℕ → ℕ
    mark c = get_or ms c 0

    -- the new red cells, by number
    abbrev new_red : ℕ → ℕ → Bool
    new_red k c = new_red_row n qs ss ms k (row_by n qs ss ms c)

    rows_above : (k : ℕ) → rows_up (drop (suc k) (levels_of n qs ss)) ms ≡ map (row_by n qs ss ms) (numbers_of n qs ss (suc k))
    rows_above k = up_rows n qs ss ms k ∙ rows_numbers n qs ss s ms (suc k)

    -- the edges of the new red cells of a level
    edges_at : (k : ℕ) → k < length (levels_of n qs ss)
        → new_edges n qs ss ms k ≡ flat_map (λ (r : Row). edges [] r.cell)
        (filterb (new_red_row n qs ss ms k) (map (row_by n qs ss ms) (numbers_of n qs ss k)))
    unfolding edges_up new_reds
    edges_at k h =
        ap (λ (ls : List Level). edges_up (new_reds ls ms)) (drop-cons (levels_of n qs ss) k no_level h)
        ∙ ap (λ (rs : List Row). flat_map (λ (r : Row). edges [] r.cell) (filterb (new_red_row n qs ss ms k) rs))
        (rows_numbers n qs ss s ms k)

    -- a slot stands for its edge
    has_held : (k c d e : ℕ) → Member c (numbers_of n qs ss k) → Member d (numbers_of n qs ss k) → Member e edge_numbers
        → has J d (slot c e) ≡ heldb sameb (edges [] (nth_cell n qs ss d)) (edge [] (nth_cell n qs ss c) e)
    unfolding has heldb edges anyb
    has_held k c d e m q b =
        any_agree (λ f. eqb (slot d f) (slot c e)) (λ f. joinsb sameb (edge [] (nth_cell n qs ss c) e) (edge [] (nth_cell n qs ss d) f))
        edge_numbers
        (λ f g. sl.same k c d e f m q b g)

    module _ (k : ℕ) (h : ℕ → Bool) (c : ℕ) (m : Member c (numbers_of n qs ss k))
        (hits : (d e : ℕ) → Member d (numbers_of n qs ss (suc k)) → Member e edge_numbers
        → h (slot d e) ≡ heldb sameb (new_edges n qs ss ms (suc k))
        (edge [] (nth_cell n qs ss d) e)) where
      abbrev es : List Edge
      es = new_edges n qs ss ms (suc k)

      abbrev mineb : ℕ → Bool
      mineb d = eqb (nth_cell n qs ss d).parent c

      kids_are : kids (rows_up (drop (suc k) (levels_of n qs ss)) ms) c ≡ map (row_by n qs ss ms) (filterb mineb (numbers_of n qs ss (suc k)))
      unfolding kids row_by
      kids_are = ap (λ (rs : List Row). kids rs c) (rows_above k) ∙ filter_map (λ r. eqb r.cell.parent c) (row_by n qs ss ms)
          (numbers_of n qs ss (suc k))

      kids_up : (x : ℕ) → Member x (filterb mineb (numbers_of n qs ss (suc k))) → Member x (children_of n qs ss c)
      kids_up x q = let (a, b) = filtered_member mineb (numbers_of n qs ss (suc k)) x q in kid_in n qs ss s (suc k) c x a
          (eqb→eq (nth_cell n qs ss x).parent c b)

      kids_down : (x : ℕ) → Member x (children_of n qs ss c) → Member x (filterb mineb (numbers_of n qs ss (suc k)))
      kids_down x q =
          let w = kid n qs ss s k c x m q in
          member_filtered mineb (numbers_of n qs ss (suc k)) x w.up (rw (eq-eqb (nth_cell n qs ss x).parent c w.parent) tt)

      deleted_same : deletedb (kids (rows_up (drop (suc k) (levels_of n qs ss)) ms) c) es ≡ allb (idle J h mark) (children_of n qs ss c)
      unfolding deletedb idle edges allb row_by
      deleted_same =
          let f : Row → Bool = λ r. (eqb r.status 0 && eqb r.mark 2) && allb (λ e. not (heldb sameb es e)) (edges [] r.cell) in
          ap (λ (rs : List Row). deletedb rs es) kids_are ∙ all_through (row_by n qs ss ms) f (filterb mineb (numbers_of n qs ss (suc k)))
          ∙ all_members (λ d. f (row_by n qs ss ms d)) (filterb mineb (numbers_of n qs ss (suc k))) (children_of n qs ss c) kids_up kids_down
          ∙ all_agree (λ d. f (row_by n qs ss ms d)) (idle J h mark) (children_of n qs ss c) (λ d q.
          ap (λ (b : Bool). (eqb (get_or ss d 0) 0 && eqb (get_or ms d 0) 2) && b)
          (all_agree (λ e. not (heldb sameb es (edge [] (nth_cell n qs ss d) e))) (λ e. not (h (slot d e))) edge_numbers
          (λ e b. ap not (sym (hits d e (kid n qs ss s k c d m q).up b)))))

      turned_same : turnedb (edges [] (nth_cell n qs ss c)) (kids (rows_up (drop (suc k) (levels_of n qs ss)) ms) c) es
          ≡ anyb (pulled J h mark) (children_of n qs ss c)
      unfolding turnedb pulled edges anyb row_by inner_of
      turned_same =
          let f : Row → Bool = λ r. eqb r.mark 1 || anyb (λ e. not (heldb sameb (edges [] (nth_cell n qs ss c)) e) && heldb sameb es e)
          (edges [] r.cell) in
          ap (λ (rs : List Row). turnedb (edges [] (nth_cell n qs ss c)) rs es) kids_are ∙ any_mapped_by (row_by n qs ss ms) f
          (filterb mineb (numbers_of n qs ss (suc k)))
          ∙ any_members (λ d. f (row_by n qs ss ms d)) (filterb mineb (numbers_of n qs ss (suc k))) (children_of n qs ss c) kids_up kids_down
          ∙ any_agree (λ d. f (row_by n qs ss ms d)) (pulled J h mark) (children_of n qs ss c) (λ d q.
          ap (λ (b : Bool). eqb (get_or ms d 0) 1 || b)
          (any_agree (λ e. not (heldb sameb (edges [] (nth_cell n qs ss c)) (edge [] (nth_cell n qs ss d) e)) && heldb sameb es
          (edge [] (nth_cell n qs ss d) e)) (λ e. inner_of n qs ss d e && h (slot d e)) edge_numbers (λ e b.
          ap₂ ◌&&◌ (ap (λ (x : ℕ). not (heldb sameb (edges [] (nth_cell n qs ss x)) (edge [] (nth_cell n qs ss d) e)))
          (sym (kid n qs ss s k c d m q).parent)) (sym (hits d e (kid n qs ss s k c d m q).up b)))))

      rule_is : rule J h mark c ≡ new_red k c
      unfolding rule red_afterb row_by
      rule_is = go (eqb (get_or ss c 0) 64) refl (eqb (get_or ss c 0) 0) refl
        where
          go : (a : Bool) → eqb (get_or ss c 0) 64 ≡ a → (b : Bool) → eqb (get_or ss c 0) 0 ≡ b → rule J h mark c ≡ new_red k c
          go true p b q = rw (p, rule, red_afterb) (ap not (sym deleted_same))
          go false p true q = rw (p, q, rule, red_afterb) refl
          go false p false q = rw (p, q, rule, red_afterb) (sym turned_same)

    -- from the highest level down
    top_level_lem : (c : ℕ) (k : ℕ) → Member c (numbers_of n qs ss k) → k ≤ J.top
    top_level_lem c k m =
        let p = stands n qs ss s k c m in
        let h = level_there n qs ss k p.t p.below in
        let z : suc J.top ≡ length (levels_of n qs ss) = suc-pred-eq_of_pos (omega arith) in omega arith

    hit_is : (i : ℕ) → i ≤ J.top → 0 < length (levels_of n qs ss) → ((c : ℕ) → Member c (numbers_of n qs ss (J.top - i)) → red_at J mark i c
        ≡ new_red (J.top - i) c)
        → (d e : ℕ) → Member d (numbers_of n qs ss (J.top - i)) → Member e edge_numbers
        → hit_at J mark i (slot d e) ≡ heldb sameb (new_edges n qs ss ms (J.top - i)) (edge [] (nth_cell n qs ss d) e)
    unfolding row_by
    hit_is i h l f d e m b =
        let z : suc J.top ≡ length (levels_of n qs ss) = suc-pred-eq_of_pos l in
        any_agree (λ c. red_at J mark i c && has J c (slot d e)) (λ c. new_red (J.top - i) c && heldb sameb (edges [] (nth_cell n qs ss c))
        (edge [] (nth_cell n qs ss d) e)) (numbers_of n qs ss (J.top - i))
        (λ c q. ap₂ ◌&&◌ (f c q) (has_held (J.top - i) d c e m q b))
        ∙ sym (ap (λ (es : List Edge). heldb sameb es (edge [] (nth_cell n qs ss d) e)) (edges_at (J.top - i) (omega arith))
        ∙ held_rows (row_by n qs ss ms) (new_red_row n qs ss ms (J.top - i)) (edge [] (nth_cell n qs ss d) e) (numbers_of n qs ss (J.top - i)))

    pub flags_red : (i : ℕ) → i ≤ J.top → 0 < length (levels_of n qs ss) → (c : ℕ) → Member c (numbers_of n qs ss (J.top - i))
        → red_at J mark i c ≡ new_red (J.top - i) c
    unfolding red_at heldb anyb
    flags_red zero h l c m =
        rule_is (J.top - 0) (λ x. false) c m (λ d e q b.
        absurd (let z = top_level_lem d (suc (J.top - 0)) q in omega arith))
    flags_red (suc i) h l c m =
        let z : suc (J.top - suc i) ≡ J.top - i = omega arith in
        rule_is (J.top - suc i) (λ x. hit_at J mark i x) c m (λ d e q b.
        let u : Member d (numbers_of n qs ss (J.top - i)) = subst (λ (k : ℕ). Member d (numbers_of n qs ss k)) z q in
        subst (λ (k : ℕ). hit_at J mark i (slot d e) ≡ heldb sameb (new_edges n qs ss ms k) (edge [] (nth_cell n qs ss d) e)) (sym z)
        (hit_is i (omega arith) l (λ c w. flags_red i (omega arith) l c w) d e u b))

    pub hits : (i : ℕ) → i ≤ J.top → 0 < length (levels_of n qs ss) → (d e : ℕ) → Member d (numbers_of n qs ss (J.top - i))
        → Member e edge_numbers
        → hit_at J mark i (slot d e) ≡ heldb sameb (new_edges n qs ss ms (J.top - i)) (edge [] (nth_cell n qs ss d) e)
    hits i h l d e m b = hit_is i h l (flags_red i h l) d e m b
