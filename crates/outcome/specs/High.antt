-- The masters after a step of a table of at most eleven levels are on levels up to 11.
--   Levelled J      cells are on levels up to the highest, and their paths are as long as their level says
-- Law: masters_high.
use Rattle.std.specs.Prelude.{◌≡◌, Bool, ◌&&◌, ℕ, suc, ◌+◌, ◌*◌, ◌≤◌, pred, length}
use Rattle.std.proofs.Math.Path.{refl}
use Rattle.std.proofs.Common.{◌∙◌, ap, ap₂, arith, length-append}
use Rattle.std.proofs.Math.Bool.{true, false, not}
use mathlib.Core.List.{List, [], ◌∷◌, ◌++◌, map, flat_map}
use Rattle.std.proofs.Math.Dec.{eqb}
use Rattle.base.specs.Limits.{most_levels}
use Rattle.base.specs.Lists.{anyb}
use Rattle.base.specs.Bools.{one_if}
use Rattle.base.specs.Range.{range}
use Rattle.base.specs.Every.{All, all_append}
use Rattle.mesh.specs.Cells.{bits_of}
use Rattle.mesh.specs.Table.{size_of}
use Rattle.mesh.specs.Layout.{edge_numbers}
use Rattle.families.specs.Children.{low_digit, high_digit}
use Rattle.parts.specs.Held.{Entry}
use Rattle.exchange.specs.Finite.{Finite}
use Rattle.base.specs.Member.{Member, member_head, member_tail}
use Rattle.rounds.specs.Task.{Task, Fit}
use Rattle.rounds.specs.Rounds.{State, largest, is_part}
use Rattle.shares.specs.Grow.{entry_by, status_new, pair_held, fresh_status, fresh_is, staysb, master_entry, ghost_entry, anewb, child_status}
use Rattle.shares.specs.Grow.{child_entries, fresh_entries, cell_entries, level_entries, entries}
use Rattle.merging.specs.Complete.{master_paths}
use Rattle.merging.specs.Limits.{top_of}

pub record Levelled {Part : Type 0} (J : Task Part) : Type 0 where
  pub levels : J.top ≤ 10
  pub no_cells : (k c : ℕ) → Member c (J.cells k) → k ≤ J.top
  pub paths : (k c : ℕ) → Member c (J.cells k) → length (J.path c) ≡ suc k

all_flat : {A : Type 0} (P : A → Type 0) (f : ℕ → List A) (l : List ℕ) → ((x : ℕ) → Member x l → All P (f x)) → All P (flat_map f l)
unfolding flat_map
all_flat P f [] h = tt
all_flat P f (x ∷ l) h = all_append P (f x) (flat_map f l) (h x (member_head x l)) (all_flat P f l (λ y m. h y (member_tail y x l m)))

all_map : {A : Type 0} (P : A → Type 0) (f : ℕ → A) (l : List ℕ) → ((x : ℕ) → P (f x)) → All P (map f l)
all_map P f [] h = tt
all_map P f (x ∷ l) h = (h x, all_map P f l h)

no_bits : (f : ℕ → Bool) (l : List ℕ) → ((y : ℕ) → f y ≡ false) → bits_of (map f l) ≡ 0
unfolding bits_of one_if
no_bits f [] h = refl
no_bits f (y ∷ l) h = ap₂ (λ (b : Bool) (n : ℕ). one_if b + 2 * n) (h y) (no_bits f l h)

abbrev Low : Entry → Type 0
Low e = pred (length e.path) ≤ most_levels

low_by : (l : List ℕ) (n : ℕ) → length l ≡ suc n → n ≤ most_levels → pred (length l) ≤ most_levels
low_by l n e h = omega (arith, ap pred e)

masters_low : (es : List Entry) → All Low es → top_of (master_paths es) ≤ most_levels
unfolding master_paths top_of largest
masters_low [] t = omega arith
masters_low (e ∷ es) t = go e.ghost refl (masters_low es t.1)
  where
    go : (b : Bool) → e.ghost ≡ b → top_of (master_paths es) ≤ most_levels → top_of (master_paths (e ∷ es)) ≤ most_levels
    go true g i = rw (g, master_paths) i
    go false g i = rw (g, master_paths) (omega (arith, t.0, i))

module _ {Part : Type 0} (F : Finite Part) (J : Task Part) (fit : Fit J) (lev : Levelled J) (p : Part) (st : State) where
  -- a cell without children has no fresh child that is refined
  module _ (c : ℕ) (none : J.kids c ≡ []) where
    no_pair : (a b : ℕ) → pair_held J st c a b ≡ false
    unfolding pair_held anyb
    no_pair a b = rw (none, pair_held)

    no_fresh : (i : ℕ) → fresh_status J st c i ≡ 0
    no_fresh i = fresh_is J st c i ∙ no_bits (λ y. pair_held J st c (low_digit 63 i y) (high_digit 63 i y)) edge_numbers
        (λ y. no_pair (low_digit 63 i y) (high_digit 63 i y))

    no_status : (i : ℕ) → child_status F J p st c i ≡ 0
    unfolding child_status
    no_status i = go (eqb (status_new J st c) 64) refl
      where
        go : (b : Bool) → eqb (status_new J st c) 64 ≡ b → child_status F J p st c i ≡ 0
        go true e = rw (e, child_status) (no_fresh i)
        go false e = rw (e, child_status)

  module _ (k c : ℕ) (m : Member c (J.cells k)) where
    here : pred (length (J.path c)) ≤ most_levels
    here = low_by (J.path c) k (lev.paths k c m) (omega (arith, lev.no_cells k c m, lev.levels))

    child_long : (i : ℕ) → length (J.path c ++ (i ∷ [])) ≡ suc (suc k)
    child_long i = omega (arith, length-append (J.path c) (i ∷ []), lev.paths k c m)

    child_low : (i : ℕ) → pred (length (J.path c ++ (i ∷ []))) ≤ most_levels
    child_low i = low_by (J.path c ++ (i ∷ [])) (suc k) (child_long i) (omega (arith, lev.no_cells k c m, lev.levels))

    second_low : (i j : ℕ) → suc k ≤ J.top → pred (length ((J.path c ++ (i ∷ [])) ++ (j ∷ []))) ≤ most_levels
    second_low i j h = low_by ((J.path c ++ (i ∷ [])) ++ (j ∷ [])) (suc (suc k))
        (omega (arith, length-append (J.path c ++ (i ∷ [])) (j ∷ []), child_long i)) (omega (arith, h, lev.levels))

    child_entries_lem : (i : ℕ) → All Low (child_entries F J p st c i)
    unfolding child_entries
    child_entries_lem i = (child_low i, go (J.kids c) refl)
      where
        go : (l : List ℕ) → J.kids c ≡ l
            → All Low (map (λ j. entry_by ((J.path c ++ (i ∷ [])) ++ (j ∷ [])) 0 false) (range 0 (size_of (child_status F J p st c i))))
        go [] e = rw (no_status c e i) tt
        go (d ∷ l) e =
            let t : Member d (J.kids c) = rw e (member_head d l) in
            let h = lev.no_cells (suc k) d (fit.kid_level k c d m t) in
            all_map Low (λ j. entry_by ((J.path c ++ (i ∷ [])) ++ (j ∷ [])) 0 false) (range 0 (size_of (child_status F J p st c i)))
            (λ j. second_low i j h)

    fresh_entries_lem : All Low (fresh_entries F J p st k c)
    unfolding fresh_entries
    fresh_entries_lem = go (anewb F J p st k c) refl
      where
        go : (b : Bool) → anewb F J p st k c ≡ b → All Low (fresh_entries F J p st k c)
        go true e = rw (e, fresh_entries) (all_flat Low (child_entries F J p st c) (range 0 (size_of (status_new J st c)))
            (λ i n. child_entries_lem i))
        go false e = rw (e, fresh_entries) tt

    master_entry_lem : All Low (master_entry F J p st k c)
    unfolding master_entry
    master_entry_lem = go (is_part F (J.owner c) p && staysb F J p st k c) refl
      where
        go : (b : Bool) → (is_part F (J.owner c) p && staysb F J p st k c) ≡ b → All Low (master_entry F J p st k c)
        go true e = rw (e, master_entry) (here, tt)
        go false e = rw (e, master_entry) tt

    ghost_entry_lem : All Low (ghost_entry F J p st c)
    unfolding ghost_entry
    ghost_entry_lem = go (not (is_part F (J.owner c) p) && (is_part F (J.family c) p && not (eqb (status_new J st c) 0))) refl
      where
        go : (b : Bool) → (not (is_part F (J.owner c) p) && (is_part F (J.family c) p && not (eqb (status_new J st c) 0))) ≡ b
            → All Low (ghost_entry F J p st c)
        go true e = rw (e, ghost_entry) (here, tt)
        go false e = rw (e, ghost_entry) tt

    cell_entries_lem : All Low (cell_entries F J p st k c)
    cell_entries_lem = all_append Low (master_entry F J p st k c) (ghost_entry F J p st c ++ fresh_entries F J p st k c) master_entry_lem
        (all_append Low (ghost_entry F J p st c) (fresh_entries F J p st k c) ghost_entry_lem fresh_entries_lem)

  entries_low : All Low (entries F J p st)
  unfolding entries
  entries_low = all_flat Low (level_entries F J p st) (range 0 (suc J.top))
      (λ k n. all_flat Low (cell_entries F J p st k) (J.cells k) (λ c m. cell_entries_lem k c m))

  pub masters_high : top_of (master_paths (entries F J p st)) ≤ most_levels
  masters_high = masters_low (entries F J p st) entries_low
