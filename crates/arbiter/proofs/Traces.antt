-- Traces one after the other, and the services that must still come.
use Rattle.std.proofs.Common.{◌≡◌, ℕ, ◌+◌, ◌≤◌, Bool, true, false, not, ◌&&◌, ◌||◌, eqb, List, [], ◌∷◌, ◌++◌, Some, None, Option, sym, refl, ap, ◌∙◌, arith}
use Rattle.arbiter.specs.Events.{Event, post, pick, done, Trace, stop, then_post, then_pick, then_done, posts, delay, one}
use Rattle.arbiter.specs.Meaning.{Model}
use Rattle.arbiter.specs.Laws.{Steps}
use Rattle.arbiter.proofs.Services.{post_waits, pick_waits}

pub trace_append : {K : Type 0} {posted : K → ℕ → K → Type 0} {picked : K → ℕ → K → Type 0} {x y z : K} {V U W : Option ℕ} {es fs : List Event} → Trace posted picked x V es y U → Trace posted picked y U fs z W → Trace posted picked x V (es ++ fs) z W
trace_append stop q = q
trace_append (then_post f h r) q = then_post f h (trace_append r q)
trace_append (then_pick h r) q = then_pick h (trace_append r q)
trace_append (then_done r) q = then_done (trace_append r q)

pub posts_append : (o : ℕ) (es fs : List Event) → posts o (es ++ fs) ≡ posts o es + posts o fs
posts_append o [] fs = omega arith
posts_append o (post p ∷ es) fs = omega (arith, posts_append o es fs)
posts_append o (pick p ∷ es) fs = posts_append o es fs
posts_append o (done ∷ es) fs = posts_append o es fs

module _ {K : Type 0} (k : Model K) (laws : Steps k) where
  pub delay_append : {x y : K} {V U : Option ℕ} {es : List Event} → (fs : List Event) (s : ℕ) (w : Bool) → w ≡ k.waiting x s → Trace k.posted k.picked x V es y U → delay s w V (es ++ fs) ≡ delay s w V es + delay s (k.waiting y s) U fs
  delay_append {V = V} fs s w e stop = ap (λ b. delay s b V fs) e ∙ omega arith
  delay_append fs s w e (then_post {a = a} {b = b} {o = p} free h r) = delay_append fs s (w || eqb p s) (ap (λ z. z || eqb p s) e ∙ sym (post_waits k laws a b p s h)) r
  delay_append fs s w e (then_pick {a = a} {b = b} {o = p} h r) = delay_append fs s (w && not (eqb p s)) (ap (λ z. z && not (eqb p s)) e ∙ sym (pick_waits k laws a b p s h)) r
  delay_append fs s w e (then_done r) = omega (arith, delay_append fs s w e r)

  -- How a trace can go on without a post to the end of a service that counts for s.
  pub record Extension (s : ℕ) (y : K) (U : Option ℕ) : Type 0 where
    pub events : List Event
    pub state : K
    pub serving : Option ℕ
    pub trace : Trace k.posted k.picked y U events state serving
    pub quiet : (o : ℕ) → posts o events ≡ 0
    pub counts : 1 ≤ delay s (k.waiting y s) U events

  one_or : (x : Bool) → 1 ≤ one (not x || x) + 0
  one_or true = omega arith
  one_or false = omega arith

  -- While s waits and nothing is in service: a pick, whoever it takes, and its end.
  pub extension_idle : (s : ℕ) (y : K) → k.waiting y s ≡ true → Extension s y None
  extension_idle s y h =
      let p = laws.pick_exists y s h in
      record {
        events = pick p.0 ∷ (done ∷ []);
        state = p.1;
        serving = None;
        trace = then_pick p.2 (then_done stop);
        quiet = λ o. refl;
        counts = rw h (one_or (eqb p.0 s));
      }

  -- While s waits or is served, and q is in service: its end.
  pub extension_served : (s : ℕ) (y : K) (q : ℕ) → (k.waiting y s || eqb q s) ≡ true → Extension s y (Some q)
  extension_served s y q h = record {
    events = done ∷ [];
    state = y;
    serving = None;
    trace = then_done stop;
    quiet = λ o. refl;
    counts = omega (arith, ap one h);
  }
