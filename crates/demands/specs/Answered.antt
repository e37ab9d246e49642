-- Each call answers as its tests in order do.
-- Laws: after (an answer, and the tests behind it), mesh_first, table_first, .. (the equations), run_numbers, flat_numbers (no step has
-- a number but 7, 8, 9).
use Rattle.std.specs.Prelude.{◌≡◌, Bool, true, false, ◌&&◌, ℕ, ◌-◌, T, eqb, ℤ, length, drop}
use Rattle.std.proofs.Math.Path.{refl, ap}
use Rattle.std.proofs.Common.{sym, ◌∙◌}
use mathlib.Core.List.{List, [], ◌∷◌, ◌++◌}
use Rattle.std.proofs.Math.Dec.{leb, ltb}
use Rattle.std.proofs.Math.ListN.{take}
use Rattle.base.specs.Lists.{allb, memberb}
use Rattle.base.specs.Bools.{and_both}
use Rattle.base.specs.Fours.{fours}
use Rattle.base.specs.Refuse.{refuse, and_then}
use Rattle.base.specs.Limits.{most_cells, most_bytes, full_counts}
use Rattle.base.specs.Answer.{Answer}
use Rattle.base.specs.Answer.{Accepted}
use Rattle.cutting.specs.Answer.{cut_of}
use Rattle.mesh.specs.Coarse.{coarse_corner_count, mesh_answer}
use Rattle.mesh.specs.Table.{soundb}
use Rattle.mesh.specs.Answers.{cells_in, table_answer, marksb, limits_answer, marked_answer}
use Rattle.position.specs.Position.{corner_answer}
use Rattle.layout.specs.Calls.{lentb, layout_answer}
use Rattle.queries.specs.Calls.{ancestor_answer, counts_answer}
use Rattle.step.specs.Calls.{step_answer}
use Rattle.archive.specs.Job.{Job, job_bytes}
use Rattle.archive.specs.Form.{formb, job_of}
use Rattle.archive.specs.Stored.{job_from}
use Rattle.archive.specs.Tables.{pairs}
use Rattle.replay.specs.Run.{one_answer, one_table, run_answer, rest_table, job_answer, flat_answer, tables_answer}
use Rattle.jobs.specs.Calls.{archive_answer, replay_answer, roomb, read_answer, write_answer}
use Rattle.yuccadice.specs.After.{cut_answer}
use Rattle.demands.specs.Order.{Test, first_of, numbersb, first_then}
use Rattle.demands.specs.Tests.{cut_tests, mesh_tests, table_tests, layout_tests, corner_tests, ancestor_tests, counts_tests, limit_tests}
use Rattle.demands.specs.Tests.{step_tests, one_tests, run_tests, job_tests, archive_tests, replay_tests, read_tests, flat_tests}
use Rattle.demands.specs.Tests.{write_tests}

after : (a : Answer) (ts us : List Test) → a ≡ first_of ts → and_then a (first_of us) ≡ first_of (ts ++ us)
after a ts us e = ap (λ (b : Answer). and_then b (first_of us)) e ∙ sym (first_then ts us)

pub cut_six : (p : ℕ) → (cut_of p).answer ≡ first_of ((6, ltb p 64) ∷ [])
unfolding cut_of first_of
cut_six p = go (ltb p 64) refl
  where
    go : (b : Bool) → ltb p 64 ≡ b → (cut_of p).answer ≡ refuse 6 b Accepted
    go true e = rw (e, cut_of)
    go false e = rw (e, cut_of)

pub cut_first : (p : ℕ) (digits : List ℕ) → cut_answer p digits ≡ first_of (cut_tests p digits)
unfolding cut_answer first_of
cut_first p digits = ap (refuse 15 (leb 32 (length digits))) (cut_six p)

pub corner_first : (sums : List ℤ) (n k : ℕ) → corner_answer sums n k ≡ first_of (corner_tests sums n k)
unfolding corner_answer first_of
corner_first sums n k = refl

module _ (ps : List ℤ) (ts : List ℕ) where
  pub mesh_first : mesh_answer ps ts ≡ first_of (mesh_tests ps ts)
  unfolding mesh_answer first_of
  mesh_first = refl

  module _ (ss : List ℕ) where
    pub table_first : table_answer ps ts ss ≡ first_of (table_tests ps ts ss)
    unfolding table_answer first_of
    table_first = after (mesh_answer ps ts) (mesh_tests ps ts) ((6, soundb (coarse_corner_count ps) (fours ts) ss) ∷ []) mesh_first

    pub layout_first : (table ends : List ℕ) (sums : List ℤ)
        → layout_answer ps ts ss table ends sums ≡ first_of (layout_tests ps ts ss table ends sums)
    unfolding layout_answer first_of
    layout_first table ends sums = ap (refuse 15 (lentb table ends sums)) table_first

    pub ancestor_first : (c : ℕ) → ancestor_answer ps ts ss c ≡ first_of (ancestor_tests ps ts ss c)
    unfolding ancestor_answer first_of
    ancestor_first c = after (table_answer ps ts ss) (table_tests ps ts ss) ((7, ltb c (length (cells_in ps ts ss))) ∷ []) table_first

    pub counts_first : (counts : List ℕ) → counts_answer ps ts ss counts ≡ first_of (counts_tests ps ts ss counts)
    unfolding counts_answer first_of
    counts_first counts = ap (refuse 15 (leb full_counts (length counts))) table_first

    pub step_first : (ms table : List ℕ) → step_answer ps ts ss ms table ≡ first_of (step_tests ps ts ss ms table)
    unfolding step_answer marked_answer limits_answer first_of
    step_first ms table =
        let last : List Test = (7, marksb ss ms) ∷ limit_tests (coarse_corner_count ps) (fours ts) ss ms in
        ap (refuse 15 (leb most_cells (length table))) (after (table_answer ps ts ss) (table_tests ps ts ss) last table_first)

module _ (n : ℕ) (qs : List (List ℕ)) where
  one_first : (t : List ℕ) (m : List (ℕ × ℕ)) → one_answer n qs t m ≡ first_of (one_tests n qs t m)
  unfolding one_answer limits_answer first_of
  one_first t m = refl

  run_first : (t : List ℕ) (ms : List (List (ℕ × ℕ))) → run_answer n qs t ms ≡ first_of (run_tests n qs t ms)
  unfolding run_answer run_tests first_of
  run_first t [] = refl
  run_first t (m ∷ ms) =
      let rest = run_tests n qs (one_table n qs t m) ms in
      ap (and_then (one_answer n qs t m)) (run_first (one_table n qs t m) ms)
      ∙ after (one_answer n qs t m) (one_tests n qs t m) rest (one_first t m)

  flat_first : (t : List ℕ) (p : ℕ) (ms : List (ℕ × ℕ)) (es : List ℕ) → flat_answer n qs t p ms es ≡ first_of (flat_tests n qs t p ms es)
  unfolding flat_answer flat_tests first_of
  flat_first t p ms [] = refl
  flat_first t p ms (e ∷ es) =
      let m = take (e - p) (drop p ms) in
      let rest = flat_tests n qs (one_table n qs t m) e ms es in
      ap (refuse 7 (leb p e && leb e (length ms)))
      (ap (and_then (one_answer n qs t m)) (flat_first (one_table n qs t m) e ms es)
      ∙ after (one_answer n qs t m) (one_tests n qs t m) rest (one_first t m))

  module _ (ns : List ℕ) (seven : T (memberb 7 ns)) (eight : T (memberb 8 ns)) (nine : T (memberb 9 ns)) where
    one_numbers : (b : Bool) → T b → T (memberb 7 ns && (memberb 8 ns && (memberb 9 ns && b)))
    one_numbers b t =
        and_both (memberb 7 ns) (memberb 8 ns && (memberb 9 ns && b)) seven
        (and_both (memberb 8 ns) (memberb 9 ns && b) eight (and_both (memberb 9 ns) b nine t))

    pub run_numbers : (t : List ℕ) (ms : List (List (ℕ × ℕ))) → T (numbersb ns (run_tests n qs t ms))
    unfolding run_tests allb
    run_numbers t [] = tt
    run_numbers t (m ∷ ms) = one_numbers (numbersb ns (run_tests n qs (one_table n qs t m) ms)) (run_numbers (one_table n qs t m) ms)

    pub flat_numbers : (last : List Test) → T (numbersb ns last) → (t : List ℕ) (p : ℕ) (ms : List (ℕ × ℕ)) (es : List ℕ)
        → T (numbersb ns (flat_tests n qs t p ms es ++ last))
    unfolding flat_tests allb
    flat_numbers last h t p ms [] = and_both (memberb 7 ns) (numbersb ns last) seven h
    flat_numbers last h t p ms (e ∷ es) =
        let u = one_table n qs t (take (e - p) (drop p ms)) in
        let rest = numbersb ns (flat_tests n qs u e ms es ++ last) in
        and_both (memberb 7 ns) (memberb 7 ns && (memberb 8 ns && (memberb 9 ns && rest))) seven
        (one_numbers rest (flat_numbers last h u e ms es))

job_first : (j : Job) → job_answer j ≡ first_of (job_tests j)
unfolding job_answer
job_first j =
    let n = coarse_corner_count j.positions in
    let qs = fours j.cells in
    ap (and_then (mesh_answer j.positions j.cells)) (run_first n qs (rest_table qs) j.steps)
    ∙ after (mesh_answer j.positions j.cells) (mesh_tests j.positions j.cells) (run_tests n qs (rest_table qs) j.steps)
    (mesh_first j.positions j.cells)

archive_first : (bs : List ℕ) → archive_answer bs ≡ first_of (archive_tests bs)
unfolding archive_answer first_of
archive_first bs = ap (refuse 17 (formb bs)) (job_first (job_of bs))

pub replay_first : (bs table counts : List ℕ) → replay_answer bs table counts ≡ first_of (replay_tests bs table counts)
unfolding replay_answer first_of
replay_first bs table counts = ap (refuse 15 (leb most_cells (length table) && leb full_counts (length counts))) (archive_first bs)

pub read_first : (bs : List ℕ) (ps : List ℤ) (ts cs ms es : List ℕ) → read_answer bs ps ts cs ms es ≡ first_of (read_tests bs ps ts cs ms es)
unfolding read_answer first_of
read_first bs ps ts cs ms es = ap (refuse 15 (roomb ps ts cs ms es)) (archive_first bs)

pub write_first : (ps : List ℤ) (ts cs ms es out : List ℕ) → write_answer ps ts cs ms es out ≡ first_of (write_tests ps ts cs ms es out)
unfolding write_answer tables_answer first_of
write_first ps ts cs ms es out =
    let n = coarse_corner_count ps in
    let qs = fours ts in
    let seven = eqb (length cs) (length ms) in
    let steps : List Test = (7, seven) ∷ flat_tests n qs (rest_table qs) 0 (pairs cs ms) es in
    let tables : tables_answer ps ts cs ms es ≡ first_of (mesh_tests ps ts ++ steps) =
    ap (λ (a : Answer). and_then (mesh_answer ps ts) (refuse 7 seven a)) (flat_first n qs (rest_table qs) 0 (pairs cs ms) es)
    ∙ after (mesh_answer ps ts) (mesh_tests ps ts) steps (mesh_first ps ts) in
    let last : List Test = (17, leb (length (job_bytes (job_from ps ts cs ms es))) most_bytes) ∷ [] in
    ap (refuse 15 (leb most_bytes (length out))) (after (tables_answer ps ts cs ms es) (mesh_tests ps ts ++ steps) last tables)
