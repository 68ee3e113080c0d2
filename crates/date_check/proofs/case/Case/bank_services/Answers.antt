use Rattle.std.proofs.Common.{◌≡◌, ℕ, List, Ok, sym, ap, ◌∙◌, arith, rules}
use Rattle.std.specs.Result.{result_and}
use Rattle.plan.specs.Plans.{closed}
use Rattle.plan.specs.Rows.{accesses, row_of}
use Rattle.arbiter.specs.Answers.{Accepts, bound_answer}
use Rattle.arbiter.specs.Given.{model}
use Rattle.date_check.specs.Sound.{meets}
use Rattle.date_check.proofs.Limits.{bound_limit, meets_alone, read_accepted, read_bound}
use Rattle.date_check.proofs.Reading.{kept_of}
use Rattle.date_check.proofs.case.Case.bank_services.Goals as goal

-- What an arbiter answers where it accepts.
told : (n : ℕ) (bound : ℕ → ℕ → List ℕ → ℕ) (s own : ℕ) (xs : List ℕ) (r : ℕ) → Accepts n s own xs → Ok r ≡ bound_answer n bound s own xs → r ≡ bound s own xs
told n bound s own xs r a e = let h = e ∙ ap (λ x. result_and x (Ok (bound s own xs))) a in cc

pub unwrap-requires : goal.unwrap-requires
unwrap-requires g c =
    let plan = c.args.self.now.plan.now in
    let t = row_of c.task-task.result.now in
    let accepted : Accepts ((model g.A.Arbiter).width c.args.arbiter.now) t.place (accesses t c.args.bank) c.count_loads-counts.result = read_accepted (closed plan) (kept_of plan) (meets (closed plan).rows c.args.self.now.dates.now c.args.i) (model g.A.Arbiter) g.met.A.Arbiter.lawful c.args.arbiter.now c.args.i c.args.bank t c.count_loads-counts.result c.requires.0 c.requires.2 c.task-task.ensures c.count_loads-counts.ensures in
    search rules

pub returns : goal.returns
returns g c =
    let plan = c.args.self.now.plan.now in
    let m = model g.A.Arbiter in
    let met = meets (closed plan).rows c.args.self.now.dates.now c.args.i in
    let a = c.args.arbiter.now in
    let bank = c.args.bank in
    let t = row_of c.task-task.result.now in
    let xs = c.count_loads-counts.result in
    let accepted = read_accepted (closed plan) (kept_of plan) met m g.met.A.Arbiter.lawful a c.args.i bank t xs c.requires.0 c.requires.2 c.task-task.ensures c.count_loads-counts.ensures in
    let read = read_bound (closed plan) (kept_of plan) met m g.met.A.Arbiter.lawful a c.args.i bank t xs c.requires.0 c.requires.2 c.task-task.ensures c.count_loads-counts.ensures c.unwrap.result (told (m.width a) (m.bound a) t.place (accesses t bank) xs c.unwrap.result accepted (sym c.unwrap.ensures ∙ c.bound.ensures)) in
    record {
      value = read;
      bound = omega (arith, read, bound_limit (closed plan) (kept_of plan) met m g.met.A.Arbiter.lawful a c.args.i bank c.requires.0 (meets_alone (closed plan).rows c.args.self.now.dates.now c.args.i) c.requires.2);
    }
