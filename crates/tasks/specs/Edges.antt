-- Slots by first appearance: each level's edges stand as pairs of corner numbers, each once.
--   key c e       the pair of the edge e of the cell c; slots_on k the slots of level k
-- Laws: cell_placed (the points of a cell are corners), edge_number (an edge over numbers), key_means (pairs tell edges apart), keyed
-- (slots by these keys). That slots_on are slots is in proofs/Edges.
use Rattle.std.specs.Prelude.{◌≡◌, true, ℕ, suc, ◌+◌, ◌<◌, length}
use Rattle.std.proofs.Math.Path.{refl, sym, ap}
use Rattle.std.proofs.Common.{◌∙◌, ap₂, subst, arith}
use Rattle.std.proofs.Math.Logic.{⊎_elim}
use Rattle.std.proofs.Math.Bool.{or-false}
use mathlib.Core.List.{List, [], ◌∷◌, map, flat_map, map-append}
use Rattle.std.proofs.Math.Dec.{T, eqb}
use Rattle.mesh.specs.Laws.{six_below}
use Rattle.base.specs.Lists.{anyb, sameb, memberb}
use Rattle.base.specs.Bools.{is_true, or_first, or_second}
use Rattle.base.specs.Every.{All, all_at}
use Rattle.base.specs.Places.{hasb, has_append}
use Rattle.mesh.specs.Cells.{edge, edges, joinsb, heldb, no_cell}
use Rattle.mesh.specs.Weights.{Point}
use Rattle.mesh.specs.Coarse.{cellsb}
use Rattle.mesh.specs.Table.{levels_of, cells_of, soundb}
use Rattle.mesh.specs.Layout.{Corner, number_in, edge_numbers}
use Rattle.edges.specs.Pairs.{Pair, sorted, isb, add_pairs, same_pair, joins_sorted, has_pairs}
use Rattle.numbering.specs.Corners.{Has}
use Rattle.numbering.specs.Tests.{edge_in, Placed, EndsPlaced, held_numbers}
use Rattle.numbering.specs.Renamed.{edge_in_lem, edge-map}
use Rattle.numbering.proofs.Tables.{sound_numbers}
use Rattle.soundness.specs.Sound.{Sound, sound_parts}
use Rattle.base.specs.Member.{Member, member_cases}
use Rattle.parts.specs.Owners.{nth_cell}
use Rattle.splitting.specs.Numbers.{numbers_of, number_inside}
use Rattle.splitting.specs.Split.{Slots}
use Rattle.splitting.specs.Keyed.{keyed_slot, keyed_slots}
use Rattle.splitting.proofs.Keyed.{keyed_slots_lem}
use Rattle.split.specs.Columns.{numbered_cell, keys_at, slots_below}
use Rattle.split.specs.Messages.{level_slots}
use Rattle.tasks.specs.Levels.{level_range}
use Rattle.tables.specs.Sound.{examined_corners}

module _ (n : ℕ) (qs : List (List ℕ)) (ss : List ℕ) where
  abbrev key : ℕ → ℕ → Pair
  key c e = sorted (edge 0 (numbered_cell n qs ss c) e)

  abbrev pub slots_on : ℕ → List ℕ
  slots_on k = level_slots n qs ss k

  six_of : ℕ → List Pair
  six_of c = edges 0 (numbered_cell n qs ss c)

  has_six : (c e : ℕ) → Member e edge_numbers → (l : List ℕ) → Member e l
      → T (hasb isb (map sorted (map (edge 0 (numbered_cell n qs ss c)) l)) (key c e))
  unfolding hasb memberb
  has_six c e b [] m = absurd m
  has_six c e b (x ∷ l) m =
      let rest = hasb isb (map sorted (map (edge 0 (numbered_cell n qs ss c)) l)) (key c e) in
      ⊎_elim (λ (q : e ≡ x). or_first (isb (key c x) (key c e)) rest
      (subst (λ (z : ℕ). T (isb (key c z) (key c e))) q (rw (same_pair.self (key c e)) tt)))
      (λ (q : Member e l). or_second (isb (key c x) (key c e)) rest (has_six c e b l q))
      (member_cases e x l m)

  six-map : (c : ℕ) → six_of c ≡ map (edge 0 (numbered_cell n qs ss c)) edge_numbers
  unfolding six_of edges
  six-map c = refl

  has_flat : (l : List ℕ) (c e : ℕ) → Member c l → Member e edge_numbers → T (hasb isb (map sorted (flat_map six_of l)) (key c e))
  unfolding flat_map memberb
  has_flat [] c e m b = absurd m
  has_flat (x ∷ l) c e m b =
      rw (map-append sorted (six_of x) (flat_map six_of l), has_append isb (map sorted (six_of x)) (map sorted (flat_map six_of l)) (key c e))
      (⊎_elim (λ (q : c ≡ x). or_first (hasb isb (map sorted (six_of x)) (key c e)) (hasb isb (map sorted (flat_map six_of l)) (key c e))
      (subst (λ (z : ℕ). T (hasb isb (map sorted (six_of z)) (key c e))) q (rw (six-map c) (has_six c e b edge_numbers b))))
      (λ (q : Member c l). or_second (hasb isb (map sorted (six_of x)) (key c e)) (hasb isb (map sorted (flat_map six_of l)) (key c e))
      (has_flat l c e q b))
      (member_cases c x l m))

  keys_are : (k : ℕ) → keys_at n qs ss k ≡ add_pairs [] (flat_map six_of (numbers_of n qs ss k))
  unfolding keys_at six_of
  keys_are k = ap (λ (l : List ℕ). add_pairs [] (flat_map six_of l)) (sym (level_range n qs ss k))

  key_there : (k c e : ℕ) → Member c (numbers_of n qs ss k) → Member e edge_numbers → hasb isb (keys_at n qs ss k) (key c e) ≡ true
  unfolding hasb
  key_there k c e m b =
      ap (λ (l : List Pair). hasb isb l (key c e)) (keys_are k) ∙ has_pairs [] (flat_map six_of (numbers_of n qs ss k)) (key c e)
      ∙ is_true (hasb isb (map sorted (flat_map six_of (numbers_of n qs ss k))) (key c e)) (has_flat (numbers_of n qs ss k) c e m b)

  pub slots_follow : (k : ℕ) → slots_below n qs ss (suc k) ≡ slots_below n qs ss k + length (keys_at n qs ss k)
  unfolding slots_below
  slots_follow k = refl

  module _ (four : All (λ q. length q ≡ 4) qs) (accepted : T (cellsb n qs)) (sound : T (soundb n qs ss)) where
    abbrev s : Sound n qs ss
    s = sound_parts n qs ss sound

    abbrev ks : List Corner
    ks = examined_corners n qs ss

    pub cell_placed : (c : ℕ) → c < length ss → Placed (examined_corners n qs ss) (nth_cell n qs ss c)
    unfolding nth_cell
    cell_placed c h =
        all_at (Placed (examined_corners n qs ss)) no_cell (cells_of (levels_of n qs ss)) (sound_numbers n qs ss four accepted sound).placed c
        (omega (arith, s.many))

    pub edge_placed : (c e : ℕ) → c < length ss → e < 6 → EndsPlaced (examined_corners n qs ss) (edge [] (nth_cell n qs ss c) e)
    edge_placed c e h g = edge_in_lem [] 0 (number_in ks) (Has ks) (nth_cell n qs ss c) (cell_placed c h) e g

    pub edge_number : (c e : ℕ) → c < length ss → e < 6
        → edge 0 (numbered_cell n qs ss c) e ≡ edge_in (examined_corners n qs ss) (edge [] (nth_cell n qs ss c) e)
    unfolding numbered_cell
    edge_number c e h g = edge-map [] 0 (number_in ks) (Has ks) (nth_cell n qs ss c) (cell_placed c h) e g

    joins_number : (e f : Point × Point) → EndsPlaced ks e → EndsPlaced ks f → joinsb eqb (edge_in ks e) (edge_in ks f) ≡ joinsb sameb e f
    unfolding heldb anyb
    joins_number e f p q =
        sym (or-false (joinsb eqb (edge_in ks e) (edge_in ks f))) ∙ held_numbers ks (f ∷ []) e (q, tt) p ∙ or-false (joinsb sameb e f)

    key_means : (c d e f : ℕ) → c < length ss → d < length ss → e < 6 → f < 6
        → isb (key d f) (key c e) ≡ joinsb sameb (edge [] (nth_cell n qs ss c) e) (edge [] (nth_cell n qs ss d) f)
    key_means c d e f hc hd he hf =
        sym (joins_sorted (edge 0 (numbered_cell n qs ss c) e) (edge 0 (numbered_cell n qs ss d) f))
        ∙ ap₂ (joinsb eqb) (edge_number c e hc he) (edge_number d f hd hf)
        ∙ joins_number (edge [] (nth_cell n qs ss c) e) (edge [] (nth_cell n qs ss d) f) (edge_placed c e hc he) (edge_placed d f hd hf)

    pub keyed : Slots n qs ss (keyed_slot n qs ss isb (keys_at n qs ss) (slots_below n qs ss) key)
        (keyed_slots n qs ss isb (keys_at n qs ss) (slots_below n qs ss) key)
    keyed =
        keyed_slots_lem n qs ss isb (keys_at n qs ss) (slots_below n qs ss) key s (0, 0) same_pair slots_follow key_there
        (λ k c d e f m q b g.
        key_means c d e f (number_inside n qs ss s k c m) (number_inside n qs ss s k d q) (six_below e b) (six_below f g))
