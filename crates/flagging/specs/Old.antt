-- What the functions ask for and leave. The old table has the rows t, the statuses ss and the marks ms, and ks are the numbers of
-- first children.
--   OldRows t ss ms ks   the old table, as far as it matters for looking at it
--   Span ..              cells of the old table from first to last, and what is kept of all cells
--   OneLevel ..          a level
--   Flagged ..           what writing the flags of a level leaves
--   level_reds held ..   the edges of a level's new red cells
--   limit_of high        the limit that is met where there is no room: 8 where a cell of the highest level will be red, else 9
--   high_of highest n b  whether a cell of the highest level will be red: one of the n of this level where it is that, else as b says
--   Treated ..           what treating a level leaves: its cells' new red edges are listed and what they keep is written
--   Untreated ..         why it is refused: there is no room for six edges of each cell that will be red; 8 where one is on the highest level
--   Kept ..              what the cells of h levels from this one on keep is written; whether a cell of the highest will be red
--   Above ..             the same, and the edges of this level's new red cells are listed
--   Unkept ..            why h levels from this one on are refused
use Rattle.std.specs.Prelude.{◌≡◌, Bool, true, false, List, [], ◌++◌, ℕ, ◌+◌, ◌*◌, ◌-◌, ◌≤◌, ◌<◌, length, get_or, take, drop}
use Rattle.base.specs.Limits.{most_cells}
use Rattle.base.specs.declared.Refusal.{Refusal}
use Rattle.base.specs.declared.Refusal.TheVariants.{TooHigh, TooMany}
use Rattle.mesh.specs.Cells.{red_edges}
use Rattle.pairs.specs.declared.PairTable.{PairTable}
use Rattle.edges.specs.Pairs.{Pair, add_pairs}
use Rattle.edges.specs.Table.{entries}
use Rattle.rows.specs.Numbered.{cells_at}
use Rattle.redlist.specs.Ready.{red_count}
use Rattle.closure.specs.Closed.{Lists}
use Rattle.std.proofs.Math.Dec.{ltb}
use Rattle.flagging.specs.Flags.{flags_at, kepts_at, reds_up, kept_up, high_up}

pub record OldRows (t ss ms ks : List ℕ) : Type 0 where
  pub few : length ss ≤ most_cells
  pub rows : 8 * length ss ≤ length t
  pub marks : length ms ≡ length ss
  pub size : length ss < length ks
  pub up : (a b : ℕ) → a ≤ b → b ≤ length ss → get_or ks a 0 ≤ get_or ks b 0
  pub top : (c : ℕ) → c ≤ length ss → get_or ks c 0 ≤ length ss

pub record Span (ss kept : List ℕ) (first last : ℕ) : Type 0 where
  pub up : first ≤ last
  pub inside : last ≤ length ss
  pub room : length ss ≤ length kept

pub record OneLevel (ss ks kept : List ℕ) (first last : ℕ) : Type 0 where
  pub span : Span ss kept first last
  pub children : last ≡ get_or ks first 0

-- Rules 7.7, 7.8: 8 goes before 9.
unfoldable pub limit_of : Bool → Refusal
limit_of high = elim high [ true ↦ TooHigh | false ↦ TooMany ]

unfoldable pub high_of : Bool → ℕ → Bool → Bool
high_of highest n above = elim highest [ true ↦ ltb 0 n | false ↦ above ]

module _ (t ss ms ks : List ℕ) where
  -- the flags of a level, and how many there are
  pub record Flagged (held : Pair → Bool) (first last : ℕ) (kept kept' : List ℕ) (reds : ℕ) : Type 0 where
    pub flags : kept' ≡ take first kept ++ (flags_at t ss ms ks held first (last - first) ++ drop last kept)
    pub count : reds ≡ red_count (flags_at t ss ms ks held first (last - first))
    pub few : reds ≤ last - first

  -- the edges of a level's new red cells, where held tells those one level up
  abbrev pub level_reds : (Pair → Bool) → ℕ → ℕ → List Pair
  level_reds held first last = red_edges 0 (cells_at t first (last - first)) (flags_at t ss ms ks held first (last - first))

  module _ {N H : ℕ} (held : Pair → Bool) (first last : ℕ) where
    pub record Treated (kept : List ℕ) (highest above : Bool) (table : PairTable N H) (kept' : List ℕ) (table' : PairTable N H) (high : Bool)
        : Type 0 where
      pub written : kept' ≡ take first kept ++ (kepts_at t ss ms ks held (level_reds held first last) first (last - first) ++ drop last kept)
      pub list : entries table' ≡ add_pairs [] (level_reds held first last)
      pub most : table'.n ≤ table.n + 6 * red_count (flags_at t ss ms ks held first (last - first))
      pub top : high ≡ high_of highest (red_count (flags_at t ss ms ks held first (last - first))) above

    pub record Untreated (highest above : Bool) (table : PairTable N H) (r : Refusal) : Type 0 where
      pub limit : r ≡ limit_of (high_of highest (red_count (flags_at t ss ms ks held first (last - first))) above)
      pub many : N < table.n + 6 * red_count (flags_at t ss ms ks held first (last - first))

  module _ (h first last : ℕ) where
    abbrev pub KeptWritten : List ℕ → List ℕ → Type 0
    KeptWritten kept kept' = kept' ≡ take first kept ++ (kept_up t ss ms ks h first last ++ drop
        (first + length (kept_up t ss ms ks h first last)) kept)

    pub record Kept (kept kept' : List ℕ) (high : Bool) : Type 0 where
      pub written : KeptWritten kept kept'
      pub top : high ≡ high_up t ss ms ks h first last

    pub record Above {N H : ℕ} (kept kept' : List ℕ) (table' : PairTable N H) (high : Bool) : Type 0 where
      pub keeps : Kept kept kept' high
      pub lists : Lists (entries table') (reds_up t ss ms ks h first last)
      pub few : table'.n ≤ 6 * red_count (kept_up t ss ms ks h first last)

    pub record Unkept (room : ℕ) (r : Refusal) : Type 0 where
      pub limit : r ≡ limit_of (high_up t ss ms ks h first last)
      pub many : room < 6 * red_count (kept_up t ss ms ks h first last)
