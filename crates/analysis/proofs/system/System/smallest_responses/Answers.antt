use Rattle.std.proofs.Common.{◌≡◌, ℕ, ◌<◌, ◌≤◌, Bool, true, false, List, length, replicate, take, sym, refl, ap, ◌∙◌, subst, arith}
use Rattle.std.proofs.lemmas.List.{get_or-take, length-set, length-take-le}
use Rattle.arbiter.proofs.Lists.{getD_replicate_same}
use Rattle.consistency.specs.Dates.{Table}
use Rattle.analysis.specs.Systems.{plan_in, system_of}
use Rattle.analysis.specs.Workings.{FirstOpen, Settled, column, marked, response_in}
use Rattle.analysis.proofs.Raising.{in_order_all, in_order_more, in_order_none, rising_alone, unmarked_less}
use Rattle.analysis.proofs.Times.{kept, lawful_system}
use Rattle.analysis.proofs.system.System.smallest_responses.Goals as goal

-- The first open row of the tasks' marks is that of all of them.
module _ (marks : List Bool) (rel : Table) (n m : ℕ) (same : m ≡ n) (enough : n ≤ length marks) where
  length_is : length (take m marks) ≡ n
  length_is = length-take-le m marks (omega arith) ∙ same

  mark_is : (k : ℕ) → k < n → marked (take m marks) k ≡ marked marks k
  mark_is k l = get_or-take m marks k false (omega arith)

  first_of : (i : ℕ) → FirstOpen (take m marks) rel (length (take m marks)) i → FirstOpen marks rel n i
  first_of i f =
      let below : i < n = omega (arith, f.task, length_is) in
      record {
        task = below;
        unmarked = sym (mark_is i below) ∙ f.unmarked;
        earliest = λ k l e. f.earliest k (omega (arith, length_is)) (mark_is k l ∙ e);
      }

  all_of : ((k : ℕ) → k < length (take m marks) → marked (take m marks) k ≡ true) → (k : ℕ) → k < n → marked marks k ≡ true
  all_of h k l = sym (mark_is k l) ∙ h k (omega (arith, length_is))

pub loop-i-init : goal.loop-i-init
loop-i-init g c =
    let y = system_of c.args.self.now in
    let l = lawful_system c.args.self.now g.met.A.Arbiter.lawful in
    let rel = column c.args.releases.now in (
      in_order_none y l rel (column c.args.alone.now) (replicate 256 false) (rising_alone y l rel (column c.args.alone.now) c.requires) (λ k. getD_replicate_same 256 k false),
      refl,
      refl,
    )

pub loop-i-preserved : goal.loop-i-preserved
loop-i-preserved g c =
    let s = c.args.self.now in
    let marks = c.loop-i.settled in
    let i = c.in-Some.i in
    let enough : length (plan_in s).rows ≤ length marks = omega (arith, (kept s).few, c.loop-i.invariant.2) in
    let first = first_of marks (column c.args.releases.now) (length (plan_in s).rows) c.len-tasks.result c.len-tasks.ensures enough i c.in-Some.ensures in
    let rel_is = ap (λ r. column r) c.loop-i.invariant.1 in
    let settled = subst (λ rel. Settled (system_of s) rel (response_in c.loop-i.windows) (response_in c.settle.new.windows) i) rel_is c.settle.ensures.settled in (
      in_order_more (system_of s) (lawful_system s g.met.A.Arbiter.lawful) (column c.args.releases.now) (response_in c.loop-i.windows) (response_in c.settle.new.windows) marks i (omega (arith, first.task, enough)) first settled c.loop-i.invariant.0,
      c.settle.ensures.releases ∙ c.loop-i.invariant.1,
      length-set marks i true ∙ c.loop-i.invariant.2,
    )

pub loop-i-smaller : goal.loop-i-smaller
loop-i-smaller g c =
    let s = c.args.self.now in
    let marks = c.loop-i.settled in
    let enough : length (plan_in s).rows ≤ length marks = omega (arith, (kept s).few, c.loop-i.invariant.2) in
    let first = first_of marks (column c.args.releases.now) (length (plan_in s).rows) c.len-tasks.result c.len-tasks.ensures enough c.in-Some.i c.in-Some.ensures in
    unmarked_less marks (length (plan_in s).rows) c.in-Some.i (omega (arith, first.task, enough)) first.task first.unmarked

pub returns : goal.returns
returns g c =
    let s = c.args.self.now in
    in_order_all (system_of s) (lawful_system s g.met.A.Arbiter.lawful) (column c.args.releases.now) (response_in c.loop-i.windows) c.loop-i.settled
    (all_of c.loop-i.settled (column c.args.releases.now) (length (plan_in s).rows) c.len-tasks.result c.len-tasks.ensures (omega (arith, (kept s).few, c.loop-i.invariant.2)) c.in_default.ensures)
    c.loop-i.invariant.0
