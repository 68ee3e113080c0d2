use Rattle.std.proofs.Common.{◌≡◌, ℕ, ◌<◌, ◌≤◌, List, length, get_or, sym, ap, subst, arith}
use Rattle.std.proofs.ByRecursion.{All-get_or}
use Rattle.std.proofs.lemmas.List.{drop_all}
use Rattle.std.specs.List.{AllByRecursion}
use Rattle.plan.specs.Plans.{closed}
use Rattle.plan.specs.Rules.{banks_of, places_of}
use Rattle.plan.specs.declared.closed.ClosedPlan.{ClosedPlan}
use Rattle.plan.proofs.Keeping.{few_banks}
use Rattle.arbiter.specs.Given.{model}
use Rattle.arbiter.specs.Meaning.{Model}
use Rattle.date_check.specs.Sound.{meets, services}
use Rattle.date_check.proofs.Limits.{meets_alone, services_few, services_more}
use Rattle.date_check.proofs.Reading.{kept_of}
use Rattle.date_check.proofs.case.Case.count_services.Goals as goal

below_16 : (plan : ClosedPlan) (bank n : ℕ) → bank < n → n ≡ banks_of (closed plan).head → bank < 16
below_16 plan bank n l e = omega (arith, few_banks (closed plan).head (kept_of plan).headed)

wide_at : {S : Type 0} (m : Model S) (places bank : ℕ) (arbiters : List S) (a : S) → bank < length arbiters → a ≡ get_or arbiters bank a → AllByRecursion (λ x. places ≤ m.width x) arbiters → places ≤ m.width a
wide_at m places bank arbiters a l e all = subst (λ x. places ≤ m.width x) (sym e) (All-get_or (λ x. places ≤ m.width x) arbiters bank a l all)

pub bank_services-count-requires : goal.bank_services-count-requires
bank_services-count-requires g c =
    let case = c.args.self.now in
    let plan = case.plan.now in
    let bank = c.loop-bank.bank in
    let arbiters = case.arbiters.now in (
      c.requires,
      below_16 plan bank (length arbiters) c.loop-bank-test.true case.fits.one_per_bank,
      wide_at (model g.A.Arbiter) (places_of (closed plan).head) bank arbiters c.arbiter-item.result c.loop-bank-test.true c.arbiter-item.is case.fits.wide,
    )

pub overflow_add-count : goal.overflow_add-count
overflow_add-count g c = omega (arith, c.loop-bank.invariant.1, c.bank_services-count.ensures.bound, below_16 c.args.self.now.plan.now c.loop-bank.bank (length c.args.self.now.arbiters.now) c.loop-bank-test.true c.args.self.now.fits.one_per_bank)

pub loop-bank-preserved : goal.loop-bank-preserved
loop-bank-preserved g c =
    let plan = c.args.self.now.plan.now in (
      omega (arith, c.loop-bank.invariant.0, c.bank_services-count.ensures.value, services_more (closed plan) (kept_of plan) (meets (closed plan).rows c.args.self.now.dates.now c.args.i) (model g.A.Arbiter) g.met.A.Arbiter.lawful c.args.i c.loop-bank.bank c.args.self.now.arbiters.now c.arbiter-item.result c.loop-bank-test.true c.arbiter-item.is),
      omega (arith, c.loop-bank.invariant.1, c.bank_services-count.ensures.bound),
    )

pub returns : goal.returns
returns g c =
    let m = model g.A.Arbiter in
    let plan = c.args.self.now.plan.now in
    let arbiters = c.args.self.now.arbiters.now in
    let none = ap (services m (closed plan).rows (meets (closed plan).rows c.args.self.now.dates.now c.args.i) c.args.i c.loop-bank.bank) (drop_all c.loop-bank.bank arbiters c.loop-bank-test.false) in
    let all : c.loop-bank.count ≡ services m (closed plan).rows (meets (closed plan).rows c.args.self.now.dates.now c.args.i) c.args.i 0 arbiters = omega (arith, c.loop-bank.invariant.0, none) in
    record { value = all; bound = omega (arith, all, services_few (closed plan) (kept_of plan) (meets (closed plan).rows c.args.self.now.dates.now c.args.i) m g.met.A.Arbiter.lawful arbiters c.args.i (omega (arith, c.args.self.now.fits.one_per_bank, few_banks (closed plan).head (kept_of plan).headed)) c.args.self.now.fits.wide c.requires (meets_alone (closed plan).rows c.args.self.now.dates.now c.args.i)) }
