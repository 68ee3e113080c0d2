use Rattle.std.proofs.Common.{◌≡◌, ℕ, ◌-◌, ◌*◌, ◌≤◌, true, false, eqb, length, get_or, take, sym, refl, ap, ◌∙◌, inl, inr, arith}
use Rattle.std.specs.Cmp.Lexicographic.{pointwise, same_text, other_text}
use Rattle.std.proofs.lemmas.List.{ext_get_or, get_or-take, length-take-le}
use Rattle.arbiter.specs.declared.Arbiter.{Ghosts}
use Rattle.arbiter.specs.Given.{model}
use Rattle.arbiter.specs.Laws as arbiters_keep
use Rattle.consistency.specs.Dates.{Changed, Reached, Same, Table, alone, first}
use Rattle.consistency.proofs.Limit.{limit}
use Rattle.consistency.proofs.Releases.{released_same}
use Rattle.consistency.proofs.Rounds.{changed_or_same, reached_last, reached_next}
use Rattle.analysis.specs.declared.system.System.{System}
use Rattle.analysis.specs.declared.tables.Column.{Column}
use Rattle.analysis.specs.Systems.{plan_in, system_of}
use Rattle.analysis.specs.Workings.{column}
use Rattle.analysis.proofs.Times.{kept, lawful_system}
use Rattle.analysis.proofs.system.System.find_dates.Goals as goal

-- At most 2(n − 1) rounds change a release.
changing_few : {S : Type 0} {d : Ghosts S} (s : System S d) → arbiters_keep.Lawful (model d) → {j : ℕ} {rel : Table} → Reached (system_of s) j rel → j ≤ 2 * (length (plan_in s).rows - 1)
changing_few s laws r = limit (system_of s) (lawful_system s laws) r

-- What the comparison of the tasks' releases tells.
module _ {S : Type 0} {d : Ghosts S} (s : System S d) (old new : Column 44) (n : ℕ) (all : n ≡ length (plan_in s).rows) where
  alike : true ≡ pointwise eqb (take n old.rows) (take n new.rows) → Same (system_of s) (column old) (column new)
  alike e i l = sym (get_or-take n old.rows i 0 (omega arith)) ∙ ap (λ xs. get_or xs i 0) (same_text (take n old.rows) (take n new.rows) e) ∙ get_or-take n new.rows i 0 (omega arith)

  same_front : Same (system_of s) (column old) (column new) → take n old.rows ≡ take n new.rows
  same_front h =
      let few : n ≤ 256 = omega (arith, (kept s).few) in
      let old_length : length (take n old.rows) ≡ n = length-take-le n old.rows (omega (arith, old.full)) in
      let new_length : length (take n new.rows) ≡ n = length-take-le n new.rows (omega (arith, new.full)) in
      ext_get_or 0 (take n old.rows) (take n new.rows) (old_length ∙ sym new_length)
      (λ i l. get_or-take n old.rows i 0 (omega (arith, old_length)) ∙ h i (omega (arith, old_length)) ∙ sym (get_or-take n new.rows i 0 (omega (arith, old_length))))

  changed : false ≡ pointwise eqb (take n old.rows) (take n new.rows) → Changed (system_of s) (column old) (column new)
  changed e = elim (changed_or_same (system_of s) (column old) (column new)) [ inl c ↦ c | inr h ↦ absurd (other_text (take n old.rows) (take n new.rows) e (same_front h)) ]

pub loop-alone-init : goal.loop-alone-init
loop-alone-init g c =
    let y = system_of c.args.self.now in
    let rel = column c.renew-releases.result in
    first (released_same y rel (column c.times_alone-alone.result) rel (alone y) (λ i h. refl) c.times_alone-alone.ensures c.renew-releases.ensures)

pub overflow_add-result : goal.overflow_add-result
overflow_add-result g c = omega (arith, changing_few c.args.self.now g.met.A.Arbiter.lawful c.loop-alone.invariant, (kept c.args.self.now).few)

pub returns-then-eq : goal.returns-then-eq
returns-then-eq g c =
    let s = c.args.self.now in
    reached_last (system_of s) (lawful_system s g.met.A.Arbiter.lawful) c.loop-alone.invariant c.smallest_responses-responses.ensures c.renew-renewed.ensures (alike s c.loop-alone.releases c.renew-renewed.result c.len-tasks.result c.len-tasks.ensures c.if-eq.ensures)

pub overflow_add-changing : goal.overflow_add-changing
overflow_add-changing g c = omega (arith, changing_few c.args.self.now g.met.A.Arbiter.lawful c.loop-alone.invariant, (kept c.args.self.now).few)

pub loop-alone-smaller : goal.loop-alone-smaller
loop-alone-smaller g c =
    let s = c.args.self.now in
    omega (arith, changing_few s g.met.A.Arbiter.lawful c.loop-alone.invariant, (changed s c.loop-alone.releases c.renew-renewed.result c.len-tasks.result c.len-tasks.ensures c.if-eq.ensures).task)

pub loop-alone-preserved : goal.loop-alone-preserved
loop-alone-preserved g c =
    let s = c.args.self.now in
    reached_next c.loop-alone.invariant c.smallest_responses-responses.ensures c.renew-renewed.ensures (changed s c.loop-alone.releases c.renew-renewed.result c.len-tasks.result c.len-tasks.ensures c.if-eq.ensures)
