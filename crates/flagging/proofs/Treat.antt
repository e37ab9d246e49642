-- Treating a level: its flags are written, the edges of its new red cells listed, and what its cells keep is written.
-- Laws: entries_none, kept_many (how many will be red, of what is kept), red_many (how many edges there are), reds_range, reds_ready (what listing asks
-- for), treated (what is left).
-- Assumes nothing.
use mathlib.Core.Path.{◌≡◌, refl, sym, ◌∙◌, ap, ap₂}
use mathlib.Core.Bool.{Bool, true, false}
use mathlib.Core.List.{List, [], ◌∷◌, ◌++◌, map}
use Prim.Native.Nat.{ℕ, ◌+◌, ◌*◌, ◌-◌, ◌≤◌, ◌<◌}
use native.Mathlib.Omega.{arith}
use lib.Dec.{eqb}
use lib.ListN.{length, get_or, take, drop}
use Rattle.base.specs.Bools.{one_if}
use Rattle.base.specs.Range.{range, map_range}
use Rattle.mesh.specs.Cells.{redb, red_edges}
use Rattle.edges.specs.Pairs.{Pair, add_pairs, pairs_of}
use Rattle.pairs.specs.declared.PairTable.{PairTable}
use Rattle.edges.specs.Table.{Grown, entries}
use Rattle.edges.specs.Seek.{none_listed}
use Rattle.rows.specs.Numbered.{cell_at, cells_at, part}
use Rattle.rows.specs.Laws.{length-cells}
use Rattle.redlist.specs.Ready.{Ready, Range, red_count}
use Rattle.redlist.specs.Steps.{length-reds}
use Rattle.closure.specs.Closed.{Lists, lists_added, pattern_listed}
use Rattle.lineage.specs.Olds.{flag_of}
use Rattle.lineage.specs.Flags.{flag_red}
use Rattle.kept.specs.Kept.{kept_of}
use Rattle.kept.specs.Laws.{kept_is_red}
use Rattle.flagging.specs.Flags.{red_atb, flags_at, kepts_at, closed_at, closed_over}
use Rattle.flagging.specs.Old.{OldRows, Span, Flagged, high_of, Treated, level_reds}
use Rattle.flagging.specs.Writes.{over_at, over_part, over_again, length-flags}

pub entries_none : {N H : ℕ} (table : PairTable N H) → table.from ≡ table.n → entries table ≡ []
unfolding pairs_of
entries_none table e = let z : table.n - table.from ≡ 0 = omega arith in rw z

-- where the edges of new red cells are listed, a cell keeps its pattern
closed_is : (es reds : List Pair) → Lists es reds → (t : List ℕ) (c : ℕ) (b : Bool) → closed_at es t (flag_of b) c ≡ kept_of 0 eqb reds b
    (cell_at t c)
unfolding closed_at kept_of flag_of
closed_is es reds m t c true = refl
closed_is es reds m t c false = pattern_listed es reds m (cell_at t c)

count_same : (f g : ℕ → ℕ) → ((c : ℕ) → redb (f c) ≡ redb (g c)) → (l : List ℕ) → red_count (map f l) ≡ red_count (map g l)
unfolding red_count
count_same f g h [] = refl
count_same f g h (c ∷ l) = ap₂ ◌+◌ (ap one_if (h c)) (count_same f g h l)

module _ (t ss ms ks : List ℕ) (held : Pair → Bool) where
  pub kept_many : (es : List Pair) (k m : ℕ) → red_count (kepts_at t ss ms ks held es k m) ≡ red_count (flags_at t ss ms ks held k m)
  unfolding kepts_at flags_at
  kept_many es k m =
      count_same (λ c. kept_of 0 eqb es (red_atb t ss ms ks held c) (cell_at t c)) (λ c. flag_of (red_atb t ss ms ks held c))
      (λ c. kept_is_red 0 eqb es (red_atb t ss ms ks held c) (cell_at t c) ∙ sym (flag_red (red_atb t ss ms ks held c))) (range k m)

  module _ (first last : ℕ) where
    abbrev own : List ℕ
    own = flags_at t ss ms ks held first (last - first)

    pub red_many : length (level_reds t ss ms ks held first last) ≡ 6 * red_count own
    red_many =
        length-reds (cells_at t first (last - first)) own
        (length-cells t first (last - first) ∙ sym (length-flags t ss ms ks held first (last - first)))

    module _ (kept kept₁ : List ℕ) (reds : ℕ) (f : Flagged t ss ms ks held first last kept kept₁ reds) (s : Span ss kept first last) where
      own_part : part kept₁ first (last - first) ≡ own
      unfolding flags_at
      own_part =
          ap (λ (l : List ℕ). part l first (last - first)) f.flags
          ∙ over_part (λ c. flag_of (red_atb t ss ms ks held c)) kept first last s.up (omega (arith, s.inside, s.room)) (drop last kept)

      own_at : (c : ℕ) → first ≤ c → c < last → get_or kept₁ c 0 ≡ flag_of (red_atb t ss ms ks held c)
      unfolding flags_at
      own_at c i j =
          ap (λ (l : List ℕ). get_or l c 0) f.flags
          ∙ over_at (λ c. flag_of (red_atb t ss ms ks held c)) kept first last s.up (omega (arith, s.inside, s.room)) (drop last kept) c
          i j

      pub reds_range : length kept₁ ≡ length kept → Range kept₁ first last
      reds_range e = record { up = s.up; inside = omega (arith, s.inside, s.room) }

      -- what is kept, from the flags
      kepts_are : (es reds : List Pair) → Lists es reds
          → closed_over es t kept₁ first (last - first) ≡ kepts_at t ss ms ks held reds first (last - first)
      unfolding closed_over kepts_at
      kepts_are es reds m =
          map_range (λ c. closed_at es t (get_or kept₁ c 0) c) (λ c. kept_of 0 eqb reds (red_atb t ss ms ks held c) (cell_at t c)) first
          (last - first)
          (λ c i j. ap (λ (x : ℕ). closed_at es t x c) (own_at c i (omega (arith, s.up)))
          ∙ closed_is es reds m t c (red_atb t ss ms ks held c))

      module _ {N H : ℕ} (table table₁ : PairTable N H) (from_is : table₁.from ≡ table.n) (n_is : table₁.n ≡ table.n) where
        pub reds_ready : OldRows t ss ms ks → N ≤ 65535 → table.n + 6 * reds ≤ N
            → Ready t last table₁ (6 * red_count (part kept₁ first (last - first)))
        reds_ready o small h =
            let e : red_count (part kept₁ first (last - first)) ≡ reds = ap red_count own_part ∙ sym f.count in
            rw e
            (record {
              rows = omega (arith, o.rows, s.inside);
              edges = none_listed table₁ (from_is ∙ sym n_is);
              space = record { small = omega (arith, n_is); inside = omega (arith, n_is) };
            })

        module _ (table₂ : PairTable N H)
            (g : Grown table₁ (red_edges 0 (cells_at t first (last - first)) (part kept₁ first (last - first))) table₂) where
          own_grown : Grown table₁ (level_reds t ss ms ks held first last) table₂
          own_grown = rw own_part at g

          pub treated : (kept₂ : List ℕ)
              → kept₂ ≡ take first kept₁ ++ (closed_over (entries table₂) t kept₁ first (last - first) ++ drop last kept₁)
              → (highest above high : Bool) → high ≡ high_of highest reds above
              → Treated t ss ms ks held first last kept highest above table kept₂ table₂ high
          treated kept₂ e highest above high top =
              let es : List Pair = level_reds t ss ms ks held first last in
              let none : entries table₁ ≡ [] = entries_none table₁ (from_is ∙ sym n_is) in
              let l : entries table₂ ≡ add_pairs [] es = own_grown.list ∙ ap (λ (x : List Pair). add_pairs x es) none in
              let k : Lists (entries table₂) es = rw l (lists_added es) in
              let w : closed_over (entries table₂) t kept₁ first (last - first) ≡ kepts_at t ss ms ks held es first (last - first) =
              kepts_are (entries table₂) es k in
              record {
                written = over_again kept own (kepts_at t ss ms ks held es first (last - first)) kept₁ kept₂ first last s.up
                    (omega (arith, s.inside, s.room)) (length-flags t ss ms ks held first (last - first)) f.flags
                    (e ∙ ap (λ (x : List ℕ). take first kept₁ ++ (x ++ drop last kept₁)) w);
                list = l;
                most = omega (arith, own_grown.most, n_is, red_many);
                top = rw f.count at top;
              }
