use Rattle.std.proofs.Common.{◌≡◌, ℕ, ◌+◌, ◌*◌, ◌^◌, ◌<◌, ◌≤◌, false, [], length, get_or, drop, Ok, Result, sym, refl, ap, ◌∙◌, subst, arith, List, map}
use Rattle.std.specs.Result.{IsOk, result_and}
use Rattle.std.proofs.ByRecursion.{All-get_or}
use Rattle.std.proofs.lemmas.List.{drop_all}
use Rattle.plan.specs.declared.rows.Task.{Task}
use Rattle.plan.specs.Rows.{accesses, row, row_of}
use Rattle.plan.specs.Rules.{latency_of, places_of}
use Rattle.arbiter.specs.declared.Arbiter.{Ghosts}
use Rattle.arbiter.specs.declared.refusal.Refusal.{Refusal}
use Rattle.arbiter.specs.Answers.{Accepts, bound_answer}
use Rattle.arbiter.specs.Counts.{limit}
use Rattle.arbiter.specs.Given.{model}
use Rattle.arbiter.specs.Laws.{Lawful}
use Rattle.date_check.specs.Sound.{loads, services, work}
use Rattle.date_check.proofs.Limits.{bound_accepted, bound_limit, latency_limit, read_accepted, read_bound, services_few, services_more, work_limit}
use Rattle.date_check.proofs.Reading.{low_latency, read_count, read_row}
use Rattle.analysis.specs.declared.system.System.{System}
use Rattle.analysis.specs.declared.tables.Meetings.{Meetings}
use Rattle.analysis.specs.Systems.{plan_in}
use Rattle.analysis.specs.Workings.{Loaded, marked}
use Rattle.analysis.proofs.Times.{few_arbiters, kept, wide}
use Rattle.analysis.proofs.system.System.work_time.Goals as goal
use Rattle.analysis.proofs.system.System.work_time.Goals.{then-own-gt0, else-own-gt0}

-- Task i was read, and meets these tasks.
record Asked {S : Type 0} (d : Ghosts S) (s : System S d) (i : ℕ) (t : Task) (meetings : Meetings) : Type 0 where
  laws : Lawful (model d)
  below : i < length (plan_in s).rows
  at : row_of t ≡ row (plan_in s).rows i
  loaded : Loaded (plan_in s).rows meetings
  alone : marked meetings.met i ≡ false

module _ {S : Type 0} {d : Ghosts S} {s : System S d} {i : ℕ} {t : Task} {meetings : Meetings} (k : Asked d s i t meetings) where
  -- Its bound on a bank, and its services.
  abbrev bound_on : ℕ → S → ℕ
  bound_on bank a = (model d).bound a (row (plan_in s).rows i).place (accesses (row (plan_in s).rows i) bank) (loads (plan_in s).rows (marked meetings.met) bank)

  abbrev from_on : ℕ → ℕ
  from_on bank = services (model d) (plan_in s).rows (marked meetings.met) i bank (drop bank s.arbiters.now)

  -- The bank that is next.
  module _ (bank : ℕ) (next : bank < length s.arbiters.now) (a : S) (is : a ≡ get_or s.arbiters.now bank a) where
    low : bank < 16
    low = omega (arith, few_arbiters s)

    enough : places_of (plan_in s).head ≤ (model d).width a
    enough = subst (λ x. places_of (plan_in s).head ≤ (model d).width x) (sym is) (All-get_or (λ x. places_of (plan_in s).head ≤ (model d).width x) s.arbiters.now bank a next (wide s))

    accepted : Accepts ((model d).width a) t.place (accesses (row_of t) bank) (get_or meetings.loads bank [])
    accepted = read_accepted (plan_in s) (kept s) (marked meetings.met) (model d) k.laws a i bank (row_of t) (get_or meetings.loads bank []) k.below enough k.at (k.loaded bank low)

    bound_is : (n : ℕ) → n ≡ (model d).bound a t.place (accesses (row_of t) bank) (get_or meetings.loads bank []) → n ≡ bound_on bank a
    bound_is n e = read_bound (plan_in s) (kept s) (marked meetings.met) (model d) k.laws a i bank (row_of t) (get_or meetings.loads bank []) k.below enough k.at (k.loaded bank low) n e

    bound_few : bound_on bank a ≤ limit
    bound_few = bound_limit (plan_in s) (kept s) (marked meetings.met) (model d) k.laws a i bank k.below k.alone enough

    none : accesses (row_of t) bank ≡ 0 → bound_on bank a ≡ 0
    none e =
        let r = row (plan_in s).rows i in
        let met = marked meetings.met in
        let own : accesses r bank ≡ 0 = ap (λ q. accesses q bank) (sym k.at) ∙ e in
        ap (λ n. (model d).bound a r.place n (loads (plan_in s).rows met bank)) own
        ∙ k.laws.without_own a r.place (loads (plan_in s).rows met bank) (subst (λ n. Accepts ((model d).width a) r.place n (loads (plan_in s).rows met bank)) own (bound_accepted (plan_in s) (kept s) met (model d) k.laws a i bank k.below enough))

    -- The answer is the bound.
    answered : (r : Result ℕ Refusal) → r ≡ bound_answer ((model d).width a) ((model d).bound a) t.place (accesses (row_of t) bank) (get_or meetings.loads bank []) → r ≡ Ok ((model d).bound a t.place (accesses (row_of t) bank) (get_or meetings.loads bank []))
    answered r e = e ∙ ap (λ x. result_and x (Ok ((model d).bound a t.place (accesses (row_of t) bank) (get_or meetings.loads bank [])))) accepted

    read_answer : (r : Result ℕ Refusal) (n : ℕ) → r ≡ bound_answer ((model d).width a) ((model d).bound a) t.place (accesses (row_of t) bank) (get_or meetings.loads bank []) → r ≡ Ok n → n ≡ bound_on bank a
    read_answer r n e f = let same = answered r e in bound_is n (cc)

    -- One bank counted.
    counted : (count n new : ℕ) → n ≡ bound_on bank a → new ≡ count + n → (count + from_on bank ≡ from_on 0) × (count ≤ bank * limit) → (new + from_on (bank + 1) ≡ from_on 0) × (new ≤ (bank + 1) * limit)
    counted count n new f e (whole, few) = (
      omega (arith, services_more (plan_in s) (kept s) (marked meetings.met) (model d) k.laws i bank s.arbiters.now a next is),
      omega (arith, bound_few),
    )

  -- What was counted in the end.
  module _ (n bank latency : ℕ) (counted : n + from_on bank ≡ from_on 0) (done : length s.arbiters.now ≤ bank) (wait : latency ≡ latency_of (plan_in s).head) where
    all : n ≡ from_on 0
    all = omega (arith, counted, ap (services (model d) (plan_in s).rows (marked meetings.met) i bank) (drop_all bank s.arbiters.now done))

    latency_low : latency * n ≤ 17179607040
    latency_low =
        latency_limit latency n (omega (arith, low_latency (plan_in s).head (kept s).headed)) (omega (arith, all, services_few (plan_in s) (kept s) (marked meetings.met) (model d) k.laws s.arbiters.now i (few_arbiters s) (wide s) k.below k.alone))

    value : t.cycles + latency * n ≡ work (model d) (plan_in s) s.arbiters.now i (marked meetings.met)
    value = ap (λ r. r.cycles + latency * n) k.at ∙ ap (λ x. (row (plan_in s).rows i).cycles + latency * x) all ∙ ap (λ x. (row (plan_in s).rows i).cycles + x * from_on 0) wait

    work_low : t.cycles + latency * n < 2 ^ 35
    work_low = omega (arith, value, work_limit (plan_in s) (kept s) (marked meetings.met) (model d) k.laws s.arbiters.now i (few_arbiters s) (wide s) k.below k.alone)

read_task : {S : Type 0} {d : Ghosts S} (s : System S d) → Lawful (model d) → (i : ℕ) (meetings : Meetings) → i < length (plan_in s).rows → Loaded (plan_in s).rows meetings → marked meetings.met i ≡ false → (tasks : List Task) → map row_of tasks ≡ (plan_in s).rows → (t : Task) → t ≡ get_or tasks i t → Asked d s i t meetings
read_task s laws i meetings below loaded alone tasks same t is =
    record { laws = laws; below = below; at = read_row s.plan.now tasks same i t (omega (arith, read_count s.plan.now tasks same)) is; loaded = loaded; alone = alone }

pub bounds-task-bank : goal.bounds-task-bank
bounds-task-bank g c = omega (arith, few_arbiters c.args.self.now)

pub bounds-meetings-bank : goal.bounds-meetings-bank
bounds-meetings-bank g c = omega (arith, few_arbiters c.args.self.now)

pub offset_bounds-meetings-bank : goal.offset_bounds-meetings-bank
offset_bounds-meetings-bank g c = omega (arith, few_arbiters c.args.self.now)

pub unwrap-services-requires : goal.unwrap-services-requires
unwrap-services-requires g c =
    let k = read_task c.args.self.now g.met.A.Arbiter.lawful c.args.i c.args.meetings.now c.requires.known c.requires.loaded c.requires.alone c.tasks.result.now c.tasks.ensures c.index-tasks-i.result c.index-tasks-i.is in
    let r : c.bound.result ≡ Ok _ = answered k c.loop-bank.bank c.loop-bank-test.true c.arbiter-item.result c.arbiter-item.is c.bound.result c.bound.ensures in
    subst IsOk (sym r) refl

pub overflow_add-services : goal.overflow_add-services
overflow_add-services g c =
    let k = read_task c.args.self.now g.met.A.Arbiter.lawful c.args.i c.args.meetings.now c.requires.known c.requires.loaded c.requires.alone c.tasks.result.now c.tasks.ensures c.index-tasks-i.result c.index-tasks-i.is in
    omega (arith, c.loop-bank.invariant.1, low k c.loop-bank.bank c.loop-bank-test.true c.arbiter-item.result c.arbiter-item.is, read_answer k c.loop-bank.bank c.loop-bank-test.true c.arbiter-item.result c.arbiter-item.is c.bound.result c.unwrap-services.result c.bound.ensures c.unwrap-services.ensures, bound_few k c.loop-bank.bank c.loop-bank-test.true c.arbiter-item.result c.arbiter-item.is)

pub loop-bank-preserved : goal.loop-bank-preserved
loop-bank-preserved g c =
    let k = read_task c.args.self.now g.met.A.Arbiter.lawful c.args.i c.args.meetings.now c.requires.known c.requires.loaded c.requires.alone c.tasks.result.now c.tasks.ensures c.index-tasks-i.result c.index-tasks-i.is in
    elim c.if-own-gt0.branch [
      | then-own-gt0 w ↦ counted k c.loop-bank.bank c.loop-bank-test.true c.arbiter-item.result c.arbiter-item.is c.loop-bank.services w.unwrap-services.result c.if-own-gt0.services (read_answer k c.loop-bank.bank c.loop-bank-test.true c.arbiter-item.result c.arbiter-item.is w.bound.result w.unwrap-services.result w.bound.ensures w.unwrap-services.ensures) w.services-is c.loop-bank.invariant
      | else-own-gt0 w ↦ counted k c.loop-bank.bank c.loop-bank-test.true c.arbiter-item.result c.arbiter-item.is c.loop-bank.services 0 c.if-own-gt0.services (sym (none k c.loop-bank.bank c.loop-bank-test.true c.arbiter-item.result c.arbiter-item.is (omega (arith, w.if-own-gt0.false)))) (omega (arith, w.services-is)) c.loop-bank.invariant
    ]

pub overflow_mul-result : goal.overflow_mul-result
overflow_mul-result g c =
    let k = read_task c.args.self.now g.met.A.Arbiter.lawful c.args.i c.args.meetings.now c.requires.known c.requires.loaded c.requires.alone c.tasks.result.now c.tasks.ensures c.index-tasks-i.result c.index-tasks-i.is in
    omega (arith, latency_low k c.loop-bank.services c.loop-bank.bank c.extent.result.latency c.loop-bank.invariant.0 c.loop-bank-test.false c.extent.ensures.latency)

pub overflow_add-result : goal.overflow_add-result
overflow_add-result g c =
    let k = read_task c.args.self.now g.met.A.Arbiter.lawful c.args.i c.args.meetings.now c.requires.known c.requires.loaded c.requires.alone c.tasks.result.now c.tasks.ensures c.index-tasks-i.result c.index-tasks-i.is in
    omega (arith, work_low k c.loop-bank.services c.loop-bank.bank c.extent.result.latency c.loop-bank.invariant.0 c.loop-bank-test.false c.extent.ensures.latency)

pub returns : goal.returns
returns g c =
    let k = read_task c.args.self.now g.met.A.Arbiter.lawful c.args.i c.args.meetings.now c.requires.known c.requires.loaded c.requires.alone c.tasks.result.now c.tasks.ensures c.index-tasks-i.result c.index-tasks-i.is in
    record { value = value k c.loop-bank.services c.loop-bank.bank c.extent.result.latency c.loop-bank.invariant.0 c.loop-bank-test.false c.extent.ensures.latency; low = work_low k c.loop-bank.services c.loop-bank.bank c.extent.result.latency c.loop-bank.invariant.0 c.loop-bank-test.false c.extent.ensures.latency }
