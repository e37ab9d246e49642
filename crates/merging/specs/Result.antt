-- What the rounds of a split step come to, for every accepted mesh, sound table, accepted owners and marks, once each part knows of the
-- new red cells among its own: the statements for the exchange's theorem, readable alone.
--   settle    the split table after the rounds, with any slots
-- Laws: serial_table (merging gives the step's table, in whatever order of the parts), serial_answer (the result from the totals is the
-- serial step's; proofs/Result), held_each_once, just_held, share_few (a part holds its masters and ghosts, each once, and nothing else),
-- serial_complete (merging finds them all), owners_after_lem, coarse_owner, family_same, family_new (the owners after the step are accepted,
-- and what they keep), admissible_after (A1 to A6).
use Rattle.std.specs.Prelude.{◌≡◌, ◌≢◌, ℕ, suc, ◌≤◌, ◌<◌, pred, T, length, get_or}
use Rattle.std.proofs.Common.{sym, ◌∙◌, ap, subst, arith}
use mathlib.Core.List.{List, Memᴰ, flatten}
use Rattle.base.specs.Limits.{most_cells, most_levels}
use Rattle.mesh.specs.Coarse.{cellsb}
use Rattle.mesh.specs.Table.{Level, levels_of, soundb}
use Rattle.mesh.specs.Step.{step_table}
use Rattle.base.specs.Every.{All}
use Rattle.lattice.specs.Facts.{sound_regular}
use Rattle.lineage.specs.Paths.{path_at}
use Rattle.lineage.specs.Step.{step_by_lem}
use Rattle.soundness.specs.Sound.{Sound, sound_parts}
use Rattle.soundness.specs.Steady.{step_sound}
use Rattle.exchange.specs.Finite.{Finite}
use Rattle.rounds.specs.Rounds.{State}
use Rattle.rounds.specs.Enough.{Known}
use Rattle.parts.specs.Owners.{nth_cell, family_of, ownersb, owners_after}
use Rattle.parts.specs.Held.{Entry, entries_of}
use Rattle.parts.specs.Merge.{merged, completeb}
use Rattle.splitting.specs.Paths.{new_lv}
use Rattle.splitting.specs.Split.{Slots, task_of, owners_fit}
use Rattle.splitting.specs.Admissible.{Admissible}
use Rattle.splitting.specs.Heirs.{heirs, heirs_admissible}
use Rattle.shares.specs.Flat.{NoTwice}
use Rattle.shares.specs.Settled.{Settled, entries_in}
use Rattle.shares.proofs.Entries.{entries_are}
use Rattle.shares.proofs.Once.{each_once}
use Rattle.shares.specs.Share.{Named, table_in}
use Rattle.shares.proofs.Share.{share_held, held_share}
use Rattle.shares.specs.Keeps.{coarse_keeps, family_keeps, family_first}
use Rattle.base.specs.Distinct.{NoDup}
use Rattle.merging.specs.Merge.{merged_step}
use Rattle.merging.specs.Complete.{no_more_held, complete_is}
use Rattle.merging.specs.All.{entries_all, entries_cover, all_apart}

module _ {Part : Type 0} (F : Finite Part) (n : ℕ) (qs : List (List ℕ)) (ss ms : List ℕ) (four : All (λ q. length q ≡ 4) qs)
    (accepted : T (cellsb n qs)) (sound : T (soundb n qs ss)) (P : ℕ) (os : List ℕ) (owners : T (ownersb n qs ss P os))
    (slot : ℕ → ℕ → ℕ) (slots : ℕ → List ℕ) (numbered : Slots n qs ss slot slots) (part : ℕ → Part) (number : Part → ℕ)
    (names : Named P part number) (state : Part → State) (known : (p : Part)
    → Known F (task_of n qs ss slot slots os part) (λ c. get_or ms c 0)
    (suc (pred (length (levels_of n qs ss)))) p (state p)) where
  abbrev s : Sound n qs ss
  s = sound_parts n qs ss sound

  abbrev pub settle : Settled F
  settle =
      record {
        n = n;
        qs = qs;
        ss = ss;
        ms = ms;
        os = os;
        part = part;
        slot = slot;
        slots = slots;
        state = state;
        sound = s;
        regular = sound_regular n qs ss four accepted sound;
        numbered = numbered;
        owned = owners_fit n qs ss P os owners;
        known = known;
      }

  -- merging the parts' entries gives the step's table
  pub serial_table : (l : List Part) → ((p : Part) → Memᴰ p l) → merged (entries_all settle l) (length qs) ≡ step_table n qs ss ms
  serial_table l every = merged_step n qs ss ms (entries_all settle l) sound (entries_cover settle l every)

  pub held_each_once : (p : Part) → NoTwice (entries_in settle p)
  held_each_once p = each_once settle p

  -- within the limits: what each part holds, and the conditions after the step
  module _ (low : length (step_table n qs ss ms) ≤ most_levels) (few : length (flatten (step_table n qs ss ms)) ≤ most_cells) where
    abbrev ts : List ℕ
    ts = flatten (step_table n qs ss ms)

    abbrev os' : List ℕ
    os' = owners_after n qs ss os ts

    by : ts ≡ table_in settle
    by = ap flatten (step_by_lem n qs ss ms sound)

    new_sound : Sound n qs ts
    new_sound = sound_parts n qs ts (step_sound n qs ss ms four accepted sound low few)

    pub just_held : (p : Part) (e : Entry)
        → (Memᴰ e (entries_in settle p) → Memᴰ e (entries_of n qs ts os' (number p)))
        × (Memᴰ e (entries_of n qs ts os' (number p)) → Memᴰ e (entries_in settle p))
    just_held p e =
        let u : Sound n qs (table_in settle) = subst (Sound n qs) by new_sound in
        subst (λ (t : List ℕ). (Memᴰ e (entries_in settle p) → Memᴰ e (entries_of n qs t (owners_after n qs ss os t) (number p)))
        × (Memᴰ e (entries_of n qs t (owners_after n qs ss os t) (number p)) → Memᴰ e (entries_in settle p))) (sym by)
        (share_held settle P number names owners u p e, held_share settle P number names owners u p e)

    -- merging finds each place, and no other masters
    pub serial_complete : (l : List Part) → ((p : Part) → Memᴰ p l) → NoDup l → T (completeb (entries_all settle l) (length qs))
    serial_complete l every d =
        complete_is n qs (table_in settle) (entries_all settle l) (subst (Sound n qs) by new_sound) (entries_cover settle l every)
        (all_apart settle l d)

    pub share_few : (p : Part) → length (entries_in settle p) ≤ length ts
    share_few p =
        let u : Sound n qs (table_in settle) = subst (Sound n qs) by new_sound in
        let up = no_more_held n qs (table_in settle) (entries_in settle p) (each_once settle p) (λ e m.
        let w = entries_are settle p e m in
        let q = sym (new_lv n qs ss ms w.k) in (
          w.k,
          w.i,
          subst (λ (v : Level). w.i < length v.cells) q w.below,
          w.path
              ∙ ap (λ (v : Level). path_at v.cells w.i) q,
        )) in
        omega (arith, u.many, ap length by)

    -- the owners after the step: accepted again; what they keep
    pub owners_after_lem : T (ownersb n qs ts P os')
    owners_after_lem = heirs n qs ss os ts new_sound s P owners

    pub coarse_owner : (c : ℕ) → c < length qs → get_or os' c 0 ≡ get_or os c 0
    coarse_owner = coarse_keeps n qs ss os ts s new_sound

    pub family_same : (c d : ℕ) → c < length ss → d < length ts → (nth_cell n qs ss c).path ≡ (nth_cell n qs ts d).path → get_or ss c 0 ≢ 0
        → get_or ts d 0 ≢ 0 → family_of n qs ts os' d ≡ family_of n qs ss os c
    family_same = family_keeps n qs ss os ts s new_sound

    pub family_new : (d : ℕ) → d < length ts
        → ((c : ℕ) → c < length ss → (nth_cell n qs ss c).path ≡ (nth_cell n qs ts d).path → get_or ss c 0 ≡ 0)
        → family_of n qs ts os' d ≡ get_or os' d 0
    family_new = family_first n qs ss os ts s new_sound

    pub admissible_after : Admissible n qs ts P os'
    admissible_after = heirs_admissible n qs ss os ts new_sound s P owners
