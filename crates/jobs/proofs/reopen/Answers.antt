-- The form is examined, the job is read, and its steps are done again.
use Rattle.std.proofs.Common.{◌≡◌, ◌∙◌, refl, sym, arith, rules, length-take-le, Err}
use Rattle.archive.specs.Bytes.{Octets}
use Rattle.jobs.proofs.Jobs.{unformed, reopened_corners, reopened_cells, job_room, job_marks, job_steps, reopened_answer, reopened}
use Rattle.jobs.proofs.reopen.Goals.{
  then-form-gt-MOST_COARSE_CORNERS-via-then-form-gt-MOST_COARSE_CORNERS,
  then-form-gt-MOST_COARSE_CORNERS-via-else-form-gt-MOST_COARSE_CORNERS+then-form-gt-MOST_COARSE_CELLS,
}
use Rattle.jobs.proofs.reopen.Goals as goal

pub returns-in_default-clause-answer : goal.returns-in_default-clause-answer
returns-in_default-clause-answer c = unformed c.args.bytes.now c.in_default.ensures

pub returns-then-form-gt-MOST_COARSE_CORNERS-clause-answer : goal.returns-then-form-gt-MOST_COARSE_CORNERS-clause-answer
returns-then-form-gt-MOST_COARSE_CORNERS-clause-answer c =
    let e = c.in-Some.ensures in
    elim c.then-form-gt-MOST_COARSE_CORNERS.branch [
      | then-form-gt-MOST_COARSE_CORNERS-via-then-form-gt-MOST_COARSE_CORNERS w ↦
          reopened_corners c.args.bytes.now e.0 _ _ _ _ e.1 (omega (arith, w.if-form-gt-MOST_COARSE_CORNERS.true))
      | then-form-gt-MOST_COARSE_CORNERS-via-else-form-gt-MOST_COARSE_CORNERS+then-form-gt-MOST_COARSE_CELLS w ↦
          reopened_cells c.args.bytes.now e.0 _ _ _ _ e.1 (omega (arith, w.if-form-gt-MOST_COARSE_CELLS.true))
    ]

pub load-requires-clause-load_room : goal.load-requires-clause-load_room
load-requires-clause-load_room c =
    let o : Octets c.args.bytes.now = record { small = λ i h. omega (arith, c.type_inv.bytes i) } in
    job_room c.args.bytes.now c.in-Some.ensures.0 _ _ _ _ c.in-Some.ensures.1 o (omega (arith, c.if-form-gt-MOST_COARSE_CORNERS.false))
    (omega (arith, c.if-form-gt-MOST_COARSE_CELLS.false)) _ _ _ _ _ (omega arith) (omega arith) (omega arith) (omega arith) (omega arith)

pub slice_bounds-marked-end : goal.slice_bounds-marked-end
slice_bounds-marked-end c =
    let o : Octets c.args.bytes.now = record { small = λ i h. omega (arith, c.type_inv.bytes i) } in
    omega (arith, c.load.auto.marked, job_marks c.args.bytes.now c.in-Some.ensures.0 _ _ _ _ c.in-Some.ensures.1 o)

pub slice_bounds-run-end-3 : goal.slice_bounds-run-end-3
slice_bounds-run-end-3 c =
    let o : Octets c.args.bytes.now = record { small = λ i h. omega (arith, c.type_inv.bytes i) } in
    sym (length-take-le c.in-Some.form.marks _ (omega (arith, c.load.auto.marked, job_marks c.args.bytes.now c.in-Some.ensures.0 _ _ _ _ c.in-Some.ensures.1 o)))

pub slice_bounds-marks-end : goal.slice_bounds-marks-end
slice_bounds-marks-end c =
    let o : Octets c.args.bytes.now = record { small = λ i h. omega (arith, c.type_inv.bytes i) } in
    omega (arith, c.load.auto.marks, job_marks c.args.bytes.now c.in-Some.ensures.0 _ _ _ _ c.in-Some.ensures.1 o)

pub slice_bounds-run-end-4 : goal.slice_bounds-run-end-4
slice_bounds-run-end-4 c =
    let o : Octets c.args.bytes.now = record { small = λ i h. omega (arith, c.type_inv.bytes i) } in
    sym (length-take-le c.in-Some.form.marks _ (omega (arith, c.load.auto.marks, job_marks c.args.bytes.now c.in-Some.ensures.0 _ _ _ _ c.in-Some.ensures.1 o)))

pub slice_bounds-ends-end : goal.slice_bounds-ends-end
slice_bounds-ends-end c =
    let o : Octets c.args.bytes.now = record { small = λ i h. omega (arith, c.type_inv.bytes i) } in
    omega (arith, c.load.auto.ends, job_steps c.args.bytes.now c.in-Some.ensures.0 _ _ _ _ c.in-Some.ensures.1 o)

pub slice_bounds-run-end-5 : goal.slice_bounds-run-end-5
slice_bounds-run-end-5 c =
    let o : Octets c.args.bytes.now = record { small = λ i h. omega (arith, c.type_inv.bytes i) } in
    sym (length-take-le c.in-Some.form.steps _ (omega (arith, c.load.auto.ends, job_steps c.args.bytes.now c.in-Some.ensures.0 _ _ _ _ c.in-Some.ensures.1 o)))

pub returns-in_err-laid-clause-answer : goal.returns-in_err-laid-clause-answer
returns-in_err-laid-clause-answer c =
    let r : c.from_residual.result ≡ Err c.in_err-laid.field-0.0 = search rules in
    rw r (c.in_err-laid.ensures.answer
    ∙ reopened_answer c.args.bytes.now c.in-Some.ensures.0 _ _ _ _ c.in-Some.ensures.1 _ _ _ _ _ _ _ _ _ _ c.load.ensures _ _ refl refl)

pub returns-clause-answer : goal.returns-clause-answer
returns-clause-answer c =
    c.in_ok-laid.ensures.answer
    ∙ reopened_answer c.args.bytes.now c.in-Some.ensures.0 _ _ _ _ c.in-Some.ensures.1 _ _ _ _ _ _ _ _ _ _ c.load.ensures _ _ refl refl

pub returns-clause-reopened : goal.returns-clause-reopened
returns-clause-reopened c =
    reopened c.args.bytes.now c.in-Some.ensures.0 _ _ _ _ c.in-Some.ensures.1 _ _ _ _ _ _ _ _ _ _ c.load.ensures _ _ refl refl _ _ _ c.in_ok-laid.ensures.replayed
