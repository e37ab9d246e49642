-- Demand 1: every call is answered with a result or one of its numbered refusals, and a refusal changes nothing (Rules 12.1 to 12.17).
-- A contract (src/ of `cutting`, `coarse`, `layout`, `position`, `queries`, `step`, `jobs`, and of `yuccadice` for the library; for the
-- calls on parts see `PartCalls`) says: the call answers as its definition does; afterwards a lent table is `held_after` of that answer, a
-- lent number `value_after` of it. What follows:
--   Answered a ts ns   the answer a is that of the tests ts in order (`Tests`), the first that fails giving its number; so a is
--                      accepted, or its number is one of ns
-- No contract of a call has a `requires`: it holds on any bytes, numbers and tables. That no fault can happen is part of every proof.
use Rattle.std.specs.Prelude.{◌≡◌, List, [], ◌∷◌, ◌++◌, ℕ, ◌≤◌, T, leb, ltb, ℤ, length, drop}
use Rattle.std.proofs.Common.{◌∙◌}
use Rattle.base.specs.Fours.{fours}
use Rattle.base.specs.Lists.{allb, memberb}
use Rattle.base.specs.Limits.{most_bytes, full_rows, full_ends, full_sums}
use Rattle.base.specs.Refuse.{held_after, value_after}
use Rattle.base.specs.Answer.{Answer}
use Rattle.base.specs.Answer.{Accepted, Refused}
use Rattle.cutting.specs.Answer.{cut_of}
use Rattle.mesh.specs.Coarse.{coarse_corner_count, mesh_answer}
use Rattle.mesh.specs.Answers.{table_answer}
use Rattle.position.specs.Position.{corner_answer}
use Rattle.layout.specs.Calls.{layout_answer, layout_examines}
use Rattle.queries.specs.Calls.{ancestor_answer, counts_answer}
use Rattle.step.specs.Calls.{step_answer}
use Rattle.archive.specs.Job.{job_bytes}
use Rattle.archive.specs.Form.{job_of}
use Rattle.archive.specs.Stored.{job_from}
use Rattle.archive.specs.Tables.{pairs}
use Rattle.replay.specs.Run.{rest_table}
use Rattle.listing.specs.Lines.{listing, refusal}
use Rattle.jobs.specs.Calls.{archive_answer, job_counts, replay_answer, read_answer, write_answer}
use Rattle.jobs.specs.Listing.{listed_bytes, listing_of, archive_fits}
use Rattle.yuccadice.specs.After.{cut_answer}
use Rattle.demands.specs.Order.{Test, Answered, numbersb, answered_by}
use Rattle.demands.specs.Tests.{cut_tests, mesh_tests, table_tests, layout_tests, corner_tests, ancestor_tests, counts_tests, step_tests}
use Rattle.demands.specs.PartCalls.{PartCalls, part_calls}
use Rattle.demands.specs.Tests.{archive_tests, replay_tests, read_tests, flat_tests, write_tests}
use Rattle.demands.specs.Answered.{cut_six, cut_first, corner_first, mesh_first, table_first, layout_first, ancestor_first}
use Rattle.demands.specs.Answered.{counts_first, step_first, replay_first, read_first, write_first, run_numbers, flat_numbers}

pub record Demand1 : Type 1 where
  -- the calls, each with its numbers in order
  pub cut : (p : ℕ) → Answered (cut_of p).answer ((6, ltb p 64) ∷ []) (6 ∷ [])
  pub yd_cut : (p : ℕ) (digits : List ℕ) → Answered (cut_answer p digits) (cut_tests p digits) (15 ∷ 6 ∷ [])
  pub examine_mesh : (ps : List ℤ) (ts : List ℕ) → Answered (mesh_answer ps ts) (mesh_tests ps ts) (1 ∷ 2 ∷ 3 ∷ 4 ∷ 5 ∷ [])
  pub examine_table : (ps : List ℤ) (ts ss : List ℕ) → Answered (table_answer ps ts ss) (table_tests ps ts ss) (1 ∷ 2 ∷ 3 ∷ 4 ∷ 5 ∷ 6 ∷ [])
  pub lay_out : (ps : List ℤ) (ts ss table ends : List ℕ) (sums : List ℤ)
      → Answered (layout_answer ps ts ss table ends sums) (layout_tests ps ts ss table ends sums) (15 ∷ 1 ∷ 2 ∷ 3 ∷ 4 ∷ 5 ∷ 6 ∷ [])
  pub position_of_lem : (sums : List ℤ) (n k : ℕ) → Answered (corner_answer sums n k) (corner_tests sums n k) (15 ∷ 7 ∷ [])
  pub ancestor : (ps : List ℤ) (ts ss : List ℕ) (c : ℕ)
      → Answered (ancestor_answer ps ts ss c) (ancestor_tests ps ts ss c) (1 ∷ 2 ∷ 3 ∷ 4 ∷ 5 ∷ 6 ∷ 7 ∷ [])
  pub counts : (ps : List ℤ) (ts ss counts : List ℕ)
      → Answered (counts_answer ps ts ss counts) (counts_tests ps ts ss counts) (15 ∷ 1 ∷ 2 ∷ 3 ∷ 4 ∷ 5 ∷ 6 ∷ [])
  pub step : (ps : List ℤ) (ts ss ms table : List ℕ)
      → Answered (step_answer ps ts ss ms table) (step_tests ps ts ss ms table) (15 ∷ 1 ∷ 2 ∷ 3 ∷ 4 ∷ 5 ∷ 6 ∷ 7 ∷ 8 ∷ 9 ∷ [])
  pub read : (bs : List ℕ) (ps : List ℤ) (ts cs ms es : List ℕ)
      → Answered (read_answer bs ps ts cs ms es) (read_tests bs ps ts cs ms es) (15 ∷ 17 ∷ 1 ∷ 2 ∷ 3 ∷ 4 ∷ 5 ∷ 7 ∷ 8 ∷ 9 ∷ [])
  pub write : (ps : List ℤ) (ts cs ms es out : List ℕ)
      → Answered (write_answer ps ts cs ms es out) (write_tests ps ts cs ms es out) (15 ∷ 1 ∷ 2 ∷ 3 ∷ 4 ∷ 5 ∷ 7 ∷ 8 ∷ 9 ∷ 17 ∷ [])
  pub replay : (bs table counts : List ℕ)
      → Answered (replay_answer bs table counts) (replay_tests bs table counts) (15 ∷ 17 ∷ 1 ∷ 2 ∷ 3 ∷ 4 ∷ 5 ∷ 7 ∷ 8 ∷ 9 ∷ [])
  -- the examination of a mesh with a table is `lay_out`: lent full tables, it answers `table_answer`, which is that of their tests
  pub examination : (ps : List ℤ) (ts ss table ends : List ℕ) (sums : List ℤ) → full_rows ≤ length table → full_ends ≤ length ends
      → full_sums ≤ length sums → layout_answer ps ts ss table ends sums ≡ table_answer ps ts ss
  pub examined : (ps : List ℤ) (ts ss table ends : List ℕ) (sums : List ℤ) → full_rows ≤ length table → full_ends ≤ length ends
      → full_sums ≤ length sums → Answered (layout_answer ps ts ss table ends sums) (table_tests ps ts ss) (1 ∷ 2 ∷ 3 ∷ 4 ∷ 5 ∷ 6 ∷ [])
  -- the calls on parts (`PartCalls`)
  pub parts : PartCalls
  -- listing has no refusal: it prints the lines of the counts, or the line of the archive's refusal, and these fit
  pub list_accepted : (bs : List ℕ) → archive_answer bs ≡ Accepted → listing_of bs ≡ listing (job_counts (job_of bs))
  pub list_refused : (bs : List ℕ) (k : ℕ) → archive_answer bs ≡ Refused k → listing_of bs ≡ refusal k
  pub list_fits : (bs : List ℕ) → length (listing_of bs) ≤ 512
  -- beside a refusal lent tables and numbers are as they were; beside a result a table is changed in front alone
  pub refused_table : {A : Type 0} (a : Answer) (k : ℕ) (new old : List A) → a ≡ Refused k → held_after a new old ≡ old
  pub refused_value : {A : Type 0} (a : Answer) (k : ℕ) (new old : A) → a ≡ Refused k → value_after a new old ≡ old
  pub accepted_table : {A : Type 0} (a : Answer) (new old : List A) → a ≡ Accepted → held_after a new old ≡ new ++ drop (length new) old
  pub accepted_value : {A : Type 0} (a : Answer) (new old : A) → a ≡ Accepted → value_after a new old ≡ new

steps_numbers : (bs : List ℕ) → T (numbersb (15 ∷ 17 ∷ 1 ∷ 2 ∷ 3 ∷ 4 ∷ 5 ∷ 7 ∷ 8 ∷ 9 ∷ []) (archive_tests bs))
unfolding allb memberb
steps_numbers bs =
    let j = job_of bs in
    let ns : List ℕ = 15 ∷ 17 ∷ 1 ∷ 2 ∷ 3 ∷ 4 ∷ 5 ∷ 7 ∷ 8 ∷ 9 ∷ [] in
    run_numbers (coarse_corner_count j.positions) (fours j.cells) ns tt tt tt (rest_table (fours j.cells)) j.steps

write_numbers : (ps : List ℤ) (ts cs ms es : List ℕ)
    → T (numbersb (15 ∷ 1 ∷ 2 ∷ 3 ∷ 4 ∷ 5 ∷ 7 ∷ 8 ∷ 9 ∷ 17 ∷ [])
    (flat_tests (coarse_corner_count ps) (fours ts) (rest_table (fours ts)) 0 (pairs cs ms) es
    ++ ((17, leb (length (job_bytes (job_from ps ts cs ms es))) most_bytes) ∷ [])))
unfolding allb memberb
write_numbers ps ts cs ms es =
    let last : List Test = (17, leb (length (job_bytes (job_from ps ts cs ms es))) most_bytes) ∷ [] in
    let ns : List ℕ = 15 ∷ 1 ∷ 2 ∷ 3 ∷ 4 ∷ 5 ∷ 7 ∷ 8 ∷ 9 ∷ 17 ∷ [] in
    flat_numbers (coarse_corner_count ps) (fours ts) ns tt tt tt last tt (rest_table (fours ts)) 0 (pairs cs ms) es

pub demand1 : Demand1
unfolding allb memberb held_after value_after listing_of listed_bytes
demand1 =
    record {
      cut = λ p. answered_by _ ((6, ltb p 64) ∷ []) _ (cut_six p) tt;
      yd_cut = λ p digits. answered_by _ (cut_tests p digits) _ (cut_first p digits) tt;
      examine_mesh = λ ps ts. answered_by _ (mesh_tests ps ts) _ (mesh_first ps ts) tt;
      examine_table = λ ps ts ss. answered_by _ (table_tests ps ts ss) _ (table_first ps ts ss) tt;
      lay_out = λ ps ts ss t es sums. answered_by _ (layout_tests ps ts ss t es sums) _ (layout_first ps ts ss t es sums) tt;
      position_of_lem = λ sums n k. answered_by _ (corner_tests sums n k) _ (corner_first sums n k) tt;
      ancestor = λ ps ts ss c. answered_by _ (ancestor_tests ps ts ss c) _ (ancestor_first ps ts ss c) tt;
      counts = λ ps ts ss counts. answered_by _ (counts_tests ps ts ss counts) _ (counts_first ps ts ss counts) tt;
      step = λ ps ts ss ms table. answered_by _ (step_tests ps ts ss ms table) _ (step_first ps ts ss ms table) tt;
      read = λ bs ps ts cs ms es. answered_by _ (read_tests bs ps ts cs ms es) _ (read_first bs ps ts cs ms es) (steps_numbers bs);
      write = λ ps ts cs ms es out.
          answered_by _ (write_tests ps ts cs ms es out) _ (write_first ps ts cs ms es out) (write_numbers ps ts cs ms es);
      replay = λ bs table counts. answered_by _ (replay_tests bs table counts) _ (replay_first bs table counts) (steps_numbers bs);
      examination = layout_examines;
      examined = λ ps ts ss t es sums a b c.
          answered_by _ (table_tests ps ts ss) _ (layout_examines ps ts ss t es sums a b c ∙ table_first ps ts ss) tt;
      parts = part_calls;
      list_accepted = λ bs e. rw e;
      list_refused = λ bs k e. rw e;
      list_fits = archive_fits;
      refused_table = λ a k new old e. rw e;
      refused_value = λ a k new old e. rw e;
      accepted_table = λ a new old e. rw e;
      accepted_value = λ a new old e. rw e;
    }
