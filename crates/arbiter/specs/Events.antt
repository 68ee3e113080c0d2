-- Events on one arbiter, what is counted in a list of them, and the traces that an arbiter can go through.
use Rattle.std.specs.Prelude.{◌≡◌, ℕ, ◌+◌, Bool, false, cond, not, ◌&&◌, ◌||◌, List, [], ◌∷◌, Some, None, Option, ◌==◌}

-- An accepted post of a source, a pick that answers a source and starts its service, and the end of the service.
pub data Event : Type 0 where
  post : ℕ → Event
  pick : ℕ → Event
  done : Event

-- A test as a number.
abbrev pub one : Bool → ℕ
one b = cond b 1 0

-- Is s the source in service?
abbrev pub serves : Option ℕ → ℕ → Bool
serves None s = false
serves (Some o) s = o == s

-- How often s posts.
abbrev pub posts : ℕ → List Event → ℕ
posts s [] = 0
posts s (post o ∷ es) = one (o == s) + posts s es
posts s (pick o ∷ es) = posts s es
posts s (done ∷ es) = posts s es

-- The delay of s: services of others that end while s waits, and ended services of s.
-- At the start w says whether s waits, and v is the source in service.
abbrev pub delay : ℕ → Bool → Option ℕ → List Event → ℕ
delay s w v [] = 0
delay s w v (post o ∷ es) = delay s (w || o == s) v es
delay s w v (pick o ∷ es) = delay s (w && not (o == s)) (Some o) es
delay s w v (done ∷ es) = one (w || serves v s) + delay s w None es

-- The events lead from arbiter a with v in service to arbiter b with u in service.
-- No source posts in its own service, and a service ends before the next pick.
pub data Trace {S : Type 0} (posted : S → ℕ → S → Type 0) (picked : S → ℕ → S → Type 0) : S → Option ℕ → List Event → S → Option ℕ → Type 0 where
  stop : {a : S} {v : Option ℕ} → Trace posted picked a v [] a v
  then_post : {a b c : S} {v u : Option ℕ} {o : ℕ} {es : List Event} → serves v o ≡ false → posted a o b → Trace posted picked b v es c u → Trace posted picked a v (post o ∷ es) c u
  then_pick : {a b c : S} {u : Option ℕ} {o : ℕ} {es : List Event} → picked a o b → Trace posted picked b (Some o) es c u → Trace posted picked a None (pick o ∷ es) c u
  then_done : {a c : S} {u : Option ℕ} {o : ℕ} {es : List Event} → Trace posted picked a None es c u → Trace posted picked a (Some o) (done ∷ es) c u
