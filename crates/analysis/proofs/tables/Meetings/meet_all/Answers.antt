use Rattle.std.proofs.Common.{◌≡◌, ℕ, ◌+◌, ◌<◌, Bool, true, false, not, ◌&&◌, eqb, ltb, List, map, length, get_or, sym, ap, ◌∙◌, subst, arith}
use Rattle.std.proofs.lemmas.Bool.{eq-eqb, ne_eqb}
use Rattle.plan.specs.declared.closed.ClosedPlan.{ClosedPlan}
use Rattle.plan.specs.declared.rows.Task.{Task}
use Rattle.plan.specs.Plans.{closed}
use Rattle.plan.specs.Rows.{row, row_of}
use Rattle.date_check.proofs.Reading.{kept_of, read_count, read_row}
use Rattle.consistency.specs.Dates.{Table, finish}
use Rattle.analysis.specs.declared.tables.Meetings.{Meetings}
use Rattle.analysis.specs.Workings.{Loaded, MetInPart, marked, meet, release_in, response_in}
use Rattle.analysis.proofs.Raising.{met_added, met_kept}
use Rattle.analysis.proofs.tables.Meetings.meet_all.Goals as goal
use Rattle.analysis.proofs.tables.Meetings.meet_all.Goals.{then-not-self-k+then-task-other+then-overlap, else-not-self-k, else-not-self-k-via-then-not-self-k+then-task-other+else-overlap, else-not-self-k-via-then-not-self-k+else-task-other, else-not-self-k-via-else-not-self-k}

-- By the places as they are read.
module _ (plan : ClosedPlan) (tasks : List Task) (same : map row_of tasks ≡ (closed plan).rows) (i k : ℕ) (t u : Task) (h : i < length tasks) (j : k < length tasks) (is : t ≡ get_or tasks i t) (of : u ≡ get_or tasks k u) (rel res : Table) where
  apart : (b : Bool) → eqb t.place u.place ≡ b → meet (closed plan).rows rel res i (res i) k ≡ (not b && (ltb (rel i) (finish rel res k) && ltb (rel k) (finish rel res i)))
  apart b e =
      ap (λ x. not x && (ltb (rel i) (finish rel res k) && ltb (rel k) (rel i + res i)))
      (ap (λ r. eqb r.place (row (closed plan).rows k).place) (sym (read_row plan tasks same i t h is)) ∙ ap (λ r. eqb t.place r.place) (sym (read_row plan tasks same k u j of)) ∙ e)

pub loop-k-preserved : goal.loop-k-preserved
loop-k-preserved c =
    let plan = c.args.plan.now in
    let tasks = c.tasks-tasks.result.now in
    let count = read_count plan tasks c.tasks-tasks.ensures in
    let rel = release_in c.args.windows.now in
    let res = response_in c.args.windows.now in
    let i = c.args.i in
    let k = c.loop-k.k in
    let t = c.index-tasks-i.result in
    let u = c.index-tasks-k.result in
    let s = c.loop-k.self in
    let meets = apart plan tasks c.tasks-tasks.ensures i k t u (omega (arith, count, c.requires.known)) c.loop-k-test.true c.index-tasks-i.is c.index-tasks-k.is rel res in
    let inside : k < length s.met = omega (arith, (kept_of plan).few, count, c.loop-k-test.true, s.marks) in
    elim c.if-not-self-k.branch [
      | then-not-self-k+then-task-other+then-overlap w ↦
          met_added (closed plan).rows rel i res s k c.loop-k.invariant.0 c.loop-k.invariant.1 c.if-not-self-k.self inside (ap (λ (x : Meetings). x.met) w.self-is ∙ w.add.ensures.marks) (subst (Loaded (closed plan).rows) (sym w.self-is) w.add.ensures.loads)
          (meets false (ne_eqb t.place u.place w.if-task-other.true) ∙ sym w.if-overlap.ensures)
      | else-not-self-k w ↦
          let same : marked s.met k ≡ meet (closed plan).rows rel res i (res i) k =
          elim w.else-not-self-k.branch [
            | else-not-self-k-via-then-not-self-k+then-task-other+else-overlap w' ↦ w'.if-not-self-k.true ∙ w'.if-overlap.ensures ∙ sym (meets false (ne_eqb t.place u.place w'.if-task-other.true))
            | else-not-self-k-via-then-not-self-k+else-task-other w' ↦ w'.if-not-self-k.true ∙ sym (meets true (eq-eqb t.place u.place w'.if-task-other.false))
            | else-not-self-k-via-else-not-self-k w' ↦ w'.if-not-self-k.false ∙ sym (c.loop-k.invariant.0.right k (omega (arith, count, c.loop-k-test.true)) w'.if-not-self-k.false)
          ] in
          subst (λ (x : Meetings). MetInPart (closed plan).rows rel res i x × ((j : ℕ) → j < k + 1 → marked x.met j ≡ meet (closed plan).rows rel res i (res i) j)) (sym w.self-is) (met_kept (closed plan).rows rel i res s k c.loop-k.invariant.0 c.loop-k.invariant.1 same)
    ]
