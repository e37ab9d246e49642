-- Calls on good input: what is accepted once is taken by every call (rules 12.4 to 12.17, 13.3), so that none of them refuses all. What
-- each then gives is its contract's (docs/METHOD.md, section 12).
--   TakesTable ps ts ss    every call that takes a table takes this one
--   TakesArchive bs        every call that takes an archive takes this one
-- Laws: status_there (each status has its cell), takes_table, takes_archive.
use Rattle.std.specs.Prelude.{◌≡◌, List, ℕ, ◌*◌, ◌≤◌, ◌<◌, T, ℤ, length}
use Rattle.std.proofs.Common.{◌∙◌, arith}
use borrow.Author.Tests.{le-leb, lt-ltb}
use Rattle.base.specs.Bools.{is_true}
use Rattle.base.specs.Fours.{fours}
use Rattle.base.specs.Limits.{most_cells, most_parts, full_rows, full_ends, full_sums, full_counts}
use Rattle.base.specs.Refuse.{refuse, and_then}
use Rattle.base.specs.Answer.{Accepted}
use Rattle.mesh.specs.Coarse.{coarse_corner_count, mesh_answer}
use Rattle.mesh.specs.Answers.{cells_in, table_answer, marksb, limits_answer, marked_answer}
use Rattle.soundness.specs.Sound.{sound_parts}
use Rattle.conformity.specs.Accepted.{table_parts}
use Rattle.layout.specs.Calls.{layout_answer, layout_examines}
use Rattle.queries.specs.Calls.{ancestor_answer, counts_answer}
use Rattle.step.specs.Calls.{step_answer}
use Rattle.jobs.specs.Calls.{archive_answer, roomb, replay_answer, read_answer}
use Rattle.parts.specs.Owners.{ownersb}
use Rattle.store.specs.Fields.{full}
use Rattle.split.specs.Split.{split_answer}

-- Rules 12.5, 12.7, 12.9 to 12.11, 15.14: beside 15, 7 of a cell or of marks, 8, 9, 10 and 11 nothing refuses it.
pub record TakesTable (ps : List ℤ) (ts ss : List ℕ) : Type 0 where
  pub mesh : mesh_answer ps ts ≡ Accepted
  pub lay_out : (table ends : List ℕ) (sums : List ℤ) → full_rows ≤ length table → full_ends ≤ length ends → full_sums ≤ length sums
      → layout_answer ps ts ss table ends sums ≡ Accepted
  pub ancestor : (c : ℕ) → c < length ss → ancestor_answer ps ts ss c ≡ Accepted
  pub counts : (counts : List ℕ) → full_counts ≤ length counts → counts_answer ps ts ss counts ≡ Accepted
  pub step : (ms table : List ℕ) → T (marksb ss ms) → most_cells ≤ length table
      → step_answer ps ts ss ms table ≡ limits_answer (coarse_corner_count ps) (fours ts) ss ms
  pub split : (P : ℕ) (os stores : List ℕ) → 1 ≤ P → P ≤ most_parts → T (ownersb (coarse_corner_count ps) (fours ts) ss P os)
      → most_parts * full ≤ length stores → split_answer ps ts ss P os stores ≡ Accepted

-- Rules 12.13, 12.15: beside 15 nothing refuses it.
pub record TakesArchive (bs : List ℕ) : Type 0 where
  pub replay : (table counts : List ℕ) → most_cells ≤ length table → full_counts ≤ length counts → replay_answer bs table counts ≡ Accepted
  pub read : (ps : List ℤ) (ts cs ms es : List ℕ) → T (roomb ps ts cs ms es) → read_answer bs ps ts cs ms es ≡ Accepted

module _ (ps : List ℤ) (ts ss : List ℕ) (e : table_answer ps ts ss ≡ Accepted) where
  pub status_there : (c : ℕ) → c < length ss → c < length (cells_in ps ts ss)
  status_there c h = omega (arith, h, (sound_parts (coarse_corner_count ps) (fours ts) ss (table_parts ps ts ss e).1).many)

  pub takes_table : TakesTable ps ts ss
  unfolding ancestor_answer counts_answer step_answer marked_answer split_answer and_then refuse
  takes_table =
      record {
        mesh = (table_parts ps ts ss e).0;
        lay_out = λ table ends sums a b c. layout_examines ps ts ss table ends sums a b c ∙ e;
        ancestor = λ c h. rw (e, lt-ltb c (length (cells_in ps ts ss)) (status_there c h));
        counts = λ counts h. rw (le-leb full_counts (length counts) h, e);
        step = λ ms table t h. rw (le-leb most_cells (length table) h, e, is_true (marksb ss ms) t);
        split = λ P os stores a b t h. rw (
          le-leb (most_parts * full) (length stores) h,
          e,
          le-leb 1 P a,
          le-leb P most_parts b,
          is_true (ownersb (coarse_corner_count ps) (fours ts) ss P os) t,
        );
      }

pub takes_archive : (bs : List ℕ) → archive_answer bs ≡ Accepted → TakesArchive bs
unfolding replay_answer read_answer refuse
takes_archive bs e =
    record {
      replay = λ table counts a b. rw (le-leb most_cells (length table) a, le-leb full_counts (length counts) b, e);
      read = λ ps ts cs ms es t. rw (is_true (roomb ps ts cs ms es) t, e);
    }
