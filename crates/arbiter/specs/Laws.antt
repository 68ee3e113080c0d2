-- What every arbiter keeps to.
use Rattle.std.specs.Prelude.{◌≡◌, ℕ, ◌+◌, ◌<◌, ◌≤◌, true, false, ◌||◌, ◌≢◌, List, Some, Option, slice_index}
use Rattle.arbiter.specs.Events.{Event, Trace, serves, posts, delay, one}
use Rattle.arbiter.specs.Counts.{counted, sum_below}
use Rattle.arbiter.specs.Meaning.{Model, Post, Pick, Keeps}
use Rattle.arbiter.specs.Answers.{Accepts}

-- Where a trace may start for s: s does not wait, and nothing is in service, or the last picked source is, neither s nor waiting.
pub record Start {S : Type 0} (m : Model S) (s : ℕ) (a : S) (v : Option ℕ) : Type 0 where
  pub idle : m.waiting a s ≡ false
  pub other : serves v s ≡ false
  pub picked : (o : ℕ) → v ≡ Some o → (m.last a ≡ Some o) × (m.waiting a o ≡ false)

-- The accesses of o in a trace: one if it waits or is served at the start, and one for each post.
abbrev pub accesses : {S : Type 0} → Model S → S → Option ℕ → List Event → ℕ → ℕ
accesses m a v es o = one (m.waiting a o || serves v o) + posts o es

-- What the calls do.
pub record Steps {S : Type 0} (m : Model S) : Type 0 where
  -- There are 1 to 32 sources.
  pub width_limits : (a : S) → (1 ≤ m.width a) × (m.width a ≤ 32)
  -- Only a source waits, and only a source was picked last.
  pub waiting_below : (a : S) (s : ℕ) → m.waiting a s ≡ true → s < m.width a
  pub last_below : (a : S) (s : ℕ) → m.last a ≡ Some s → s < m.width a
  -- An accepted post makes its source wait, and a pick that serves takes a waiting source.
  pub post_shows : (a b : S) (s : ℕ) → m.posted a s b → Post m a s b
  pub pick_shows : (a b : S) (s : ℕ) → m.picked a s b → Pick m a s b
  -- The width and the bounds are the same in every state.
  pub post_keeps : (a b : S) (s : ℕ) → m.posted a s b → Keeps m a b
  pub pick_keeps : (a b : S) (s : ℕ) → m.picked a s b → Keeps m a b
  -- Where somebody waits, some source can be picked.
  pub pick_exists : (a : S) (s : ℕ) → m.waiting a s ≡ true → (o : ℕ) × (b : S) × m.picked a o b

-- What the calls do, and the laws of the bound wherever it is accepted.
pub record Lawful {S : Type 0} (m : Model S) : Type 0 where
  pub steps : Steps m
  -- Without own accesses the bound is 0.
  pub without_own : (a : S) (s : ℕ) (xs : List ℕ) → Accepts (m.width a) s 0 xs → m.bound a s 0 xs ≡ 0
  -- The bound is at least the own accesses.
  pub at_least_own : (a : S) (s own : ℕ) (xs : List ℕ) → Accepts (m.width a) s own xs → own ≤ m.bound a s own xs
  -- The bound is at most all accesses together.
  pub at_most_all : (a : S) (s own : ℕ) (xs : List ℕ) → Accepts (m.width a) s own xs → m.bound a s own xs ≤ own + sum_below (m.width a) (counted s xs)
  -- The bound never falls when the own accesses or the entry of another source grow.
  pub monotone : (a : S) (s own more : ℕ) (xs ys : List ℕ) → Accepts (m.width a) s own xs → Accepts (m.width a) s more ys → own ≤ more → ((o : ℕ) → o < m.width a → o ≢ s → slice_index xs o ≤ slice_index ys o) → m.bound a s own xs ≤ m.bound a s more ys
  -- The bound covers the delay of s in every trace of the arbiter's own states that may start for s: own counts the posts of s, and the entries count the other sources' accesses.
  pub covers : (a b : S) (v u : Option ℕ) (es : List Event) (s : ℕ) (xs : List ℕ) → Trace m.posted m.picked a v es b u → Start m s a v → Accepts (m.width a) s (posts s es) xs → ((o : ℕ) → o < m.width a → o ≢ s → slice_index xs o ≡ accesses m a v es o) → delay s false v es ≤ m.bound a s (posts s es) xs
