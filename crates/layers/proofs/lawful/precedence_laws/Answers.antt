use Rattle.arbiter.specs.Given.{model}
use Rattle.layers.specs.MakeLaws.{precedence_too_wide}
use Rattle.layers.proofs.lawful.precedence_laws.Goals as goal

pub returns-clause-alone : goal.returns-clause-alone
returns-clause-alone g c = λ a h.
    let k = precedence_too_wide (model g.L.Arbiter) (model g.R.Arbiter) g.met.L.Arbiter.lawful g.met.R.Arbiter.lawful a.pair h in
    record { width = k.width; waiting = k.waiting; bound = k.bound; posted = λ s b p. k.posted s b.pair p; picked = λ s b p. k.picked s b.pair p }
