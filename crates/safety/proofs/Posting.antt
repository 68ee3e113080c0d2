-- Whoever stands at a bank has posted there.
use Rattle.std.proofs.Common.{◌≡◌, ℕ, ◌≤◌, Bool, true, false, ◌||◌, Some, None, Option, sym, refl, inl, inr, arith}
use Rattle.std.proofs.lemmas.Bool.{cases_lt}
use Rattle.arbiter.specs.Events.{posts, serves}
use Rattle.arbiter.proofs.Services.{idle_delay}
use Rattle.arbiter.proofs.Traces.{Extension, delay_append, extension_idle, extension_served, posts_append, trace_append}
use Rattle.safety.proofs.Accounts.{Past, Watched}
use Rattle.safety.proofs.Setting.{Setting, home}

module _ {A : Type 0} (c : Setting A) where
  -- How the past of a task that stands at a bank can go on to the end of a service.
  goes_on : (a : A) (u : Option ℕ) (s : ℕ) → (c.model.waiting a s || serves u s) ≡ true → Extension c.model c.laws.steps s a u
  goes_on a None s e = extension_idle c.model c.laws.steps s a (only (c.model.waiting a s) e)
    where
      only : (x : Bool) → (x || false) ≡ true → x ≡ true
      only true f = refl
      only false f = f
  goes_on a (Some q) s e = extension_served c.model c.laws.steps s a q e

  -- Without a post there is no delay, and the service that must still come is one.
  pub has_posted : (a : A) (u : Option ℕ) (left : ℕ) (others : ℕ → ℕ) (x : Past A) (t b : ℕ) → Watched c a u left others x t b → (c.model.waiting a (home c t) || serves u (home c t)) ≡ true → 1 ≤ posts (home c t) x.seen
  has_posted a u left others x t b h e =
      let more = goes_on a u (home c t) e in
      elim (cases_lt 0 (posts (home c t) x.seen)) [
        | inl some ↦ some
        | inr none ↦ absurd (omega (
          arith,
          idle_delay c.model c.laws.steps (home c t) h.begins.idle h.begins.other (omega (arith, posts_append (home c t) x.seen more.events, more.quiet (home c t))) (trace_append h.trace more.trace),
          delay_append c.model c.laws.steps more.events (home c t) false (sym h.begins.idle) h.trace,
          more.counts,
        ))
      ]
