-- A value that holds an arbiter and behaves as it keeps its laws.
use Rattle.std.proofs.Common.{◌≡◌, ℕ, List, Some, None, Option, sym, subst}
use Rattle.arbiter.specs.Events.{Event, Trace, stop, then_post, then_pick, then_done}
use Rattle.arbiter.specs.Answers.{AfterPick}
use Rattle.arbiter.specs.Meaning.{Model}
use Rattle.arbiter.specs.Laws.{Steps, Lawful}
use Rattle.arbiter.specs.Held.{held}

module _ {S T : Type 0} (f : T → S) (make : S → T) (found : (x : S) → f (make x) ≡ x) (m : Model S) (laws : Lawful m) where
  -- The value's traces are the arbiter's.
  held_trace : {a b : T} {v u : Option ℕ} {es : List Event} → Trace (held f m).posted (held f m).picked a v es b u → Trace m.posted m.picked (f a) v es (f b) u
  held_trace stop = stop
  held_trace (then_post free h r) = then_post free h (held_trace r)
  held_trace (then_pick h r) = then_pick h (held_trace r)
  held_trace (then_done r) = then_done (held_trace r)

  held_steps : Steps (held f m)
  held_steps =
      let k = laws.steps in
      record {
        width_limits = λ a. k.width_limits (f a);
        waiting_below = λ a s h. k.waiting_below (f a) s h;
        last_below = λ a s h. k.last_below (f a) s h;
        post_shows = λ a b s h. (let p = k.post_shows (f a) (f b) s h in record { known = p.known; free = p.free; now = p.now; others = p.others; same = p.same });
        pick_shows = λ a b s h. (let p = k.pick_shows (f a) (f b) s h in record { waited = p.waited; gone = p.gone; others = p.others; now = p.now });
        post_keeps = λ a b s h. (let p = k.post_keeps (f a) (f b) s h in record { width = p.width; bound = p.bound });
        pick_keeps = λ a b s h. (let p = k.pick_keeps (f a) (f b) s h in record { width = p.width; bound = p.bound });
        pick_exists = λ a s h. (let p = k.pick_exists (f a) s h in (p.0, make p.1, subst (λ x. m.picked (f a) p.0 x) (sym (found p.1)) p.2));
      }

  pub held_lawful : Lawful (held f m)
  held_lawful = record {
    steps = held_steps;
    without_own = λ a s xs h. laws.without_own (f a) s xs h;
    at_least_own = λ a s own xs h. laws.at_least_own (f a) s own xs h;
    at_most_all = λ a s own xs h. laws.at_most_all (f a) s own xs h;
    monotone = λ a s own more xs ys h k le each. laws.monotone (f a) s own more xs ys h k le each;
    covers = λ a b v u es s xs r st ok count. laws.covers (f a) (f b) v u es s xs (held_trace r) record { idle = st.idle; other = st.other; picked = st.picked } ok count;
  }

-- A pick of the arbiter inside is a pick of the value.
pub held_picking : {S T : Type 0} (f : T → S) (m : Model S) (a b : T) (e : Option ℕ) → (f b ≡ f a → b ≡ a) → AfterPick m (f a) (f b) e → AfterPick (held f m) a b e
held_picking f m a b None same h = (same h.0, h.1)
held_picking f m a b (Some s) same h = h
