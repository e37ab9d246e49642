-- Demand 2: the serial step gives the cells, families, corner numbers and positions of the method, leaves meet face to face, and archives
-- go both ways. What a family, a step, a corner number and a sum are is said in specs/ of `cutting` (`Rule`) and `mesh`.
--   FaceToFace ps ts ss   no leaf edge has a corner in its middle, and each leaf face is in two leaves, or in one and on the coarse
--                         boundary (`conformity` `Leaves`)
--   TakesTable, TakesArchive   see `Takes`
--   Exactly, sums_after    see `Positions`; ReadAgain, WrittenAgain: `jobs` `Round`; Starred: `cases`; StarredAccepted: `Accepting`
use Rattle.std.specs.Prelude.{◌≡◌, ◌≢◌, false, ℕ, ◌≤◌, ◌<◌, T, ℤ, pos, length, get_or, drop}
use mathlib.Core.List.{List, [], ◌++◌, flatten}
use Rattle.base.specs.Fours.{fours}
use Rattle.base.specs.Lists.{memberb}
use Rattle.base.specs.Limits.{most_bytes}
use Rattle.base.specs.Refuse.{held_after}
use Rattle.base.specs.Answer.{Accepted}
use Rattle.cutting.specs.Rule.{present, family}
use Rattle.cutting.specs.Answer.{cut_into, cut_of, cut_of_accepted}
use Rattle.mesh.specs.Coarse.{coarse_corner_count}
use Rattle.mesh.specs.Step.{step_table}
use Rattle.mesh.specs.Layout.{cell_table, end_table}
use Rattle.mesh.specs.Answers.{cells_in, corners_in, table_answer, new_table}
use Rattle.cases.specs.Starred.{Starred, starred}
use Rattle.numbering.specs.Corners.{weights_at}
use Rattle.conformity.specs.Leaves.{openb, meetb}
use Rattle.conformity.specs.Accepted.{examined_open}
use Rattle.conformity.proofs.Accepted.{examined_meets}
use Rattle.position.specs.Position.{position_of}
use Rattle.layout.specs.Calls.{layout_answer}
use Rattle.step.specs.Calls.{step_answer}
use Rattle.archive.specs.Job.{Job}
use Rattle.archive.specs.Form.{job_of}
use Rattle.archive.specs.Bytes.{Octets}
use Rattle.replay.specs.Run.{job_answer, job_table}
use Rattle.jobs.specs.Calls.{archive_answer, write_answer}
use Rattle.jobs.specs.Round.{ReadAgain, WrittenAgain, write_read, read_write}
use Rattle.demands.specs.Ties.{corners4, rise_over, child_no_tie}
use Rattle.demands.specs.Again.{step_again, job_again, archive_again}
use Rattle.demands.specs.Positions.{Exactly, sums_after, position_exact}
use Rattle.demands.specs.Takes.{TakesTable, TakesArchive, takes_table, takes_archive}
use Rattle.demands.specs.Accepting.{StarredAccepted, starred_accepted}

-- Rules 13.1, 13.2.
abbrev pub FaceToFace : List ℤ → List ℕ → List ℕ → Type 0
FaceToFace ps ts ss = T (openb (coarse_corner_count ps) (fours ts) ss) × T (meetb (coarse_corner_count ps) (fours ts) ss)

pub record Demand2 : Type 0 where
  -- cutting gives the family of the height rule (Rules 2.5 to 2.7)
  pub families : (p : ℕ) → p < 64 → cut_of p ≡ cut_into (family p)
  -- and that rule never meets a tie: a present point is not on the affine function of a child that it is not a point of
  pub no_tie : (p k x : ℕ) → p < 64 → k < length (family p) → T (memberb x (present p))
      → memberb x (corners4 (get_or (family p) k [])) ≡ false → rise_over (get_or (family p) k []) x ≢ pos 0
  -- the step (Rules 7.1 to 7.8): its table, level after level, in front of the lent one
  pub step_table_lem : (ps : List ℤ) (ts ss ms table : List ℕ) → step_answer ps ts ss ms table ≡ Accepted
      → held_after (step_answer ps ts ss ms table) (new_table (coarse_corner_count ps) (fours ts) ss ms) table
      ≡ flatten (step_table (coarse_corner_count ps) (fours ts) ss ms) ++ drop (length (flatten (step_table (coarse_corner_count ps) (fours ts) ss ms))) table
  -- its result, and that of a job, is accepted by every call that takes a table (Rule 13.3)
  pub step_again : (ps : List ℤ) (ts ss ms table : List ℕ) → step_answer ps ts ss ms table ≡ Accepted
      → table_answer ps ts (new_table (coarse_corner_count ps) (fours ts) ss ms) ≡ Accepted
  pub job_again : (j : Job) → job_answer j ≡ Accepted → table_answer j.positions j.cells (job_table j) ≡ Accepted
  pub archive_again : (bs : List ℕ) → archive_answer bs ≡ Accepted
      → table_answer (job_of bs).positions (job_of bs).cells (job_table (job_of bs)) ≡ Accepted
  -- and whatever table or archive is accepted, every call takes it
  pub takes_table : (ps : List ℤ) (ts ss : List ℕ) → table_answer ps ts ss ≡ Accepted → TakesTable ps ts ss
  pub takes_archive : (bs : List ℕ) → archive_answer bs ≡ Accepted → TakesArchive bs
  -- corner numbers (Rule 5.5): the rows of the cells and the ends of the corners that laying out leaves
  pub rows : (ps : List ℤ) (ts ss table ends : List ℕ) (sums : List ℤ) → layout_answer ps ts ss table ends sums ≡ Accepted
      → held_after (layout_answer ps ts ss table ends sums) (cell_table (corners_in ps ts ss) (cells_in ps ts ss)) table
      ≡ cell_table (corners_in ps ts ss) (cells_in ps ts ss) ++ drop (length (cell_table (corners_in ps ts ss) (cells_in ps ts ss))) table
  pub ends : (ps : List ℤ) (ts ss table ends : List ℕ) (sums : List ℤ) → layout_answer ps ts ss table ends sums ≡ Accepted
      → held_after (layout_answer ps ts ss table ends sums) (end_table (corners_in ps ts ss)) ends
      ≡ end_table (corners_in ps ts ss) ++ drop (length (end_table (corners_in ps ts ss))) ends
  -- positions (Rules 8.1, 8.2): of each corner, from the sums that laying out left, the weighted sum over 1,024, exactly
  pub positions : (ps : List ℤ) (ts ss table ends : List ℕ) (sums : List ℤ) → layout_answer ps ts ss table ends sums ≡ Accepted
      → (i : ℕ) → i < length (corners_in ps ts ss)
      → Exactly ps (weights_at (corners_in ps ts ss) i) (position_of (sums_after ps ts ss table ends sums) (length (corners_in ps ts ss)) i)
  -- leaves (Rules 13.1, 13.2): of an examined table, of a step, of a job, of an archive
  pub table_leaves : (ps : List ℤ) (ts ss : List ℕ) → table_answer ps ts ss ≡ Accepted → FaceToFace ps ts ss
  pub step_leaves : (ps : List ℤ) (ts ss ms table : List ℕ) → step_answer ps ts ss ms table ≡ Accepted
      → FaceToFace ps ts (new_table (coarse_corner_count ps) (fours ts) ss ms)
  pub job_leaves : (j : Job) → job_answer j ≡ Accepted → FaceToFace j.positions j.cells (job_table j)
  pub archive_leaves : (bs : List ℕ) → archive_answer bs ≡ Accepted
      → FaceToFace (job_of bs).positions (job_of bs).cells (job_table (job_of bs))
  -- archives (Rules 10.7, 13.4): what is written is read again, and what is read is written again
  pub write_read : (ps : List ℤ) (ts cs ms es out : List ℕ) → write_answer ps ts cs ms es out ≡ Accepted → ReadAgain ps ts cs ms es
  pub read_write : (bs : List ℕ) → Octets bs → archive_answer bs ≡ Accepted → (out : List ℕ) → most_bytes ≤ length out → WrittenAgain bs out
  -- the starred cases (Rules 14.1 to 14.6): families and tables, and that these steps are accepted
  pub cases : Starred
  pub cases_accepted : StarredAccepted

faces : (ps : List ℤ) (ts ss : List ℕ) → table_answer ps ts ss ≡ Accepted → FaceToFace ps ts ss
faces ps ts ss e = (examined_open ps ts ss e, examined_meets ps ts ss e)

pub demand2 : Demand2
unfolding held_after
demand2 =
    record {
      families = cut_of_accepted;
      no_tie = child_no_tie;
      step_table_lem = λ ps ts ss ms table e. rw e;
      step_again = step_again;
      job_again = job_again;
      archive_again = archive_again;
      takes_table = takes_table;
      takes_archive = takes_archive;
      rows = λ ps ts ss table ends sums e. rw e;
      ends = λ ps ts ss table ends sums e. rw e;
      positions = position_exact;
      table_leaves = faces;
      step_leaves = λ ps ts ss ms table e. faces ps ts (new_table (coarse_corner_count ps) (fours ts) ss ms) (step_again ps ts ss ms table e);
      job_leaves = λ j e. faces j.positions j.cells (job_table j) (job_again j e);
      archive_leaves = λ bs e. faces (job_of bs).positions (job_of bs).cells (job_table (job_of bs)) (archive_again bs e);
      write_read = write_read;
      read_write = read_write;
      cases = starred;
      cases_accepted = starred_accepted;
    }
