-- The run that breaks its dates, call by call.
-- Assumes nothing.
use Rattle.std.proofs.Common.{◌≡◌, ℕ, suc, Bool, true, false, ltb, List, [], ◌∷◌, get_or, replicate, Some, None, Ok, Err, Option, sym, refl, ap, ◌∙◌, subst, arith}
use Rattle.std.proofs.lemmas.Bool.{false≢true, cond-false, cond-true, le-leb, lt-ltb}
use Rattle.arbiter.proofs.Lists.{getD_replicate_same}
use Rattle.arbiter.proofs.Someone.{no_one}
use Rattle.arbiter.specs.Answers.{AfterPick, post_answer}
use Rattle.rings.specs.declared.ring.Ring.{Ring}
use Rattle.rings.specs.Kept.{Known}
use Rattle.rings.specs.Order.{First}
use Rattle.rings.specs.Rings.{NewRing, Posted, ring, ring_waiting}
use Rattle.cluster.specs.declared.breach.Breach.{Breach}
use Rattle.cluster.specs.declared.breach.Breach.TheVariants.{Overdue}
use Rattle.cluster.specs.declared.place.Event.TheVariants.{Asked}
use Rattle.cluster.specs.declared.place.Job.{Job}
use Rattle.cluster.specs.declared.place.Place.{Place}
use Rattle.cluster.specs.declared.place.Place.TheVariants.{Idle, Waiting, Working}
use Rattle.cluster.specs.declared.stage.Stage.{Stage}
use Rattle.cluster.specs.declared.stage.Stage.TheVariants.{Ahead, AtWork, Done}
use Rattle.cluster.specs.Calls.{Ask, Asking, Cycle, CycleOf, ask_refusal}
use Rattle.cluster.specs.Cycles.{Picking, TurnOf, Turns, close, next_turn, no_turn, picked, worked}
use Rattle.cluster.specs.Runs.{Comes, asks, cycles, sets_up}
use Rattle.cluster.specs.States.{State, happen, service_of, with_arbiters}
use Rattle.worked.specs.Breaches.{CallAnswer, BreachWorked, Call, Leads, ask, calls, cycle, plan, short_dates, stop, then_ask, then_cycle}
use Rattle.worked.proofs.TwoSources.{At, first_of, known_0, known_1, known_none, new_at, pick_is, pick_none, picked_0, picked_1, post_0, post_1, posted_0, posted_1, two, waiters}

-- Where calls lead, a run comes.
leads_comes : {a : Ring} {s t : State Ring} {cs : List Call} {rs : List CallAnswer} → Leads s cs rs t → Comes ring plan short_dates (a ∷ []) s → Comes ring plan short_dates (a ∷ []) t
leads_comes stop k = k
leads_comes (then_ask {q = q} {b = b} {r = r} h more) k = leads_comes more (asks q b r k h)
leads_comes (then_cycle {r = r} h more) k = leads_comes more (cycles r k h)

-- A state with this ring.
abbrev holding : State Ring → Ring → State Ring
holding s a = with_arbiters s (a ∷ [])

-- What an ask at the one bank, and a cycle, make of a state.
abbrev after_ask : ℕ → State Ring → Ring → State Ring
after_ask q s b = happen (holding s b) q (Asked 0)

abbrev after_cycle : Option ℕ → State Ring → Ring → State Ring
after_cycle o s b = close plan short_dates (worked plan (picked ring 1 0 o (holding s b)))

-- An ask that the rules and the ring take is accepted.
record AskTaken (s : State Ring) (a : Ring) (q : ℕ) (cs : List Call) (rs : List CallAnswer) (u : State Ring) : Type 0 where
  ring_after : Ring
  rest : List CallAnswer
  answers : rs ≡ Ok tt ∷ rest
  posts : Posted a q ring_after
  leads : Leads (after_ask q s ring_after) cs rest u

asking : (s : State Ring) (a : Ring) (q : ℕ) (r : CallAnswer) (t : State Ring) → post_answer a.width (ring_waiting a) q ≡ Ok tt → Asking ring None (holding s a) q 0 r t → (r ≡ Ok tt) × (b : Ring) × Posted a q b × (t ≡ after_ask q s b)
asking s a q (Ok u) t free h = (refl, h.after, subst (λ x. Posted x q h.after) (before_is h.stood) h.posts, h.leaves)
  where
    before_is : {x : Ring} → Some a ≡ Some x → x ≡ a
    before_is e = cc
asking s a q (Err f) t free h = absurd (never h.2.stood h.2.refuses)
  where
    never : {x : Ring} → Some a ≡ Some x → post_answer x.width (ring_waiting x) q ≡ Err h.2.refusal → ⊥
    never e k = cc

ask_taken : (s : State Ring) (a : Ring) (q : ℕ) {cs : List Call} {rs : List CallAnswer} {u : State Ring} → ask_refusal plan (holding s a) q 0 ≡ None → post_answer a.width (ring_waiting a) q ≡ Ok tt → Leads (holding s a) (ask q 0 ∷ cs) rs u → AskTaken s a q cs rs u
ask_taken s a q {cs} {u = u} free fits (then_ask {t = t} {r = r} {rs = rs} h more) =
    let (e, b, p, l) = asking s a q r t fits (subst (λ f. Asking ring f (holding s a) q 0 r t) free h) in
    record { ring_after = b; rest = rs; answers = ap (λ x. x ∷ rs) e; posts = p; leads = subst (λ x. Leads x cs rs u) l more }

-- A cycle in which the bank is free picks.
record CycleTaken (s : State Ring) (a : Ring) (cs : List Call) (rs : List CallAnswer) (u : State Ring) : Type 0 where
  ring_after : Ring
  answer : Option ℕ
  rest : List CallAnswer
  answers : rs ≡ Ok tt ∷ rest
  picks : AfterPick ring a ring_after answer
  leads : Leads (after_cycle answer s ring_after) cs rest u

picking : (s : State Ring) (a : Ring) (t : State Ring) → service_of s 0 ≡ None → Turns ring 1 1 (holding s a) t → (b : Ring) × (o : Option ℕ) × AfterPick ring a b o × (t ≡ picked ring 1 0 o (holding s b))
picking s a t free (next_turn no_turn turn) = go (subst (λ v. TurnOf ring 1 v 0 (holding s a) t) free turn)
  where
    go : Picking ring 1 0 (holding s a) t → (b : Ring) × (o : Option ℕ) × AfterPick ring a b o × (t ≡ picked ring 1 0 o (holding s b))
    go h = (h.after, h.answer, subst (λ x. AfterPick ring x h.after h.answer) (before_is h.stood) h.picks, h.leaves)
      where
        before_is : {x : Ring} → Some a ≡ Some x → x ≡ a
        before_is e = cc

cycle_taken : (s : State Ring) (a : Ring) {cs : List Call} {rs : List CallAnswer} {u : State Ring} → s.breach ≡ None → service_of s 0 ≡ None → Leads (holding s a) (cycle ∷ cs) rs u → CycleTaken s a cs rs u
cycle_taken s a {cs} {u = u} unbroken free (then_cycle {t = t} {r = r} {rs = rs} h more) =
    let k = subst (λ x. CycleOf ring x plan short_dates (holding s a) r t) unbroken h in
    let (b, o, p, l) = picking s a k.1.picked free k.1.turns in
    record { ring_after = b; answer = o; rest = rs; answers = ap (λ x. x ∷ rs) k.0; picks = p; leads = subst (λ x. Leads x cs rs u) (k.1.leaves ∙ ap (λ x. close plan short_dates (worked plan x)) l) more }

-- A post that can happen is answered so.
posted_answer : {a b : Ring} {q : ℕ} → Posted a q b → post_answer a.width (ring_waiting a) q ≡ Ok tt
posted_answer {a} {b} {q} p =
    cond-true (ltb q a.width) _ _ (lt-ltb q a.width p.known) ∙ cond-false (ring_waiting a q) _ _ p.free

-- From s, with a ring in this state, the calls are all accepted, and every run through them ends as said.
record Sure (x y : Bool) (l : Option ℕ) (s : State Ring) (cs : List Call) (n : ℕ) (end : State Ring) : Type 0 where
  some : (a : Ring) → At x y l a → (u : State Ring) × Leads (holding s a) cs (replicate n (Ok tt)) u
  every : (a : Ring) → At x y l a → (rs : List CallAnswer) (u : State Ring) → Leads (holding s a) cs rs u → (rs ≡ replicate n (Ok tt)) × (b : Ring) × (u ≡ holding end b)

sure_end : {x y : Bool} {l : Option ℕ} {end : State Ring} → Sure x y l end [] 0 end
sure_end {end = end} = record { some = λ a at. (holding end a, stop); every = λ a at rs u h. stopped h }
  where
    stopped : {a : Ring} {rs : List CallAnswer} {u : State Ring} → Leads (holding end a) [] rs u → (rs ≡ []) × (b : Ring) × (u ≡ holding end b)
    stopped {a} stop = (refl, a, refl)

module _ {x y x' y' : Bool} {l l' : Option ℕ} {s next end : State Ring} {cs : List Call} {n : ℕ} where
  -- One more ask in front.
  sure_ask : (q : ℕ) → ask_refusal plan s q 0 ≡ None → happen s q (Asked 0) ≡ next → ((a : Ring) → At x y l a → (b : Ring) × Posted a q b) → ((a b : Ring) → At x y l a → Posted a q b → At x' y' l' b) → Sure x' y' l' next cs n end → Sure x y l s (ask q 0 ∷ cs) (suc n) end
  sure_ask q free e exists shows rest = record { some = some; every = every }
    where
      some : (a : Ring) → At x y l a → (u : State Ring) × Leads (holding s a) (ask q 0 ∷ cs) (replicate (suc n) (Ok tt)) u
      some a at =
          let (b, p) = exists a at in
          let (u, k) = rest.some b (shows a b at p) in
          let h : Ask ring plan (holding s a) q 0 (Ok tt) (holding next b) = subst (λ f. Asking ring f (holding s a) q 0 (Ok tt) (holding next b)) (sym free) (record { before = a; after = b; stood = refl; posts = p; leaves = ap (λ t. holding t b) (sym e) }) in
          (u, then_ask h k)

      every : (a : Ring) → At x y l a → (rs : List CallAnswer) (u : State Ring) → Leads (holding s a) (ask q 0 ∷ cs) rs u → (rs ≡ replicate (suc n) (Ok tt)) × (b : Ring) × (u ≡ holding end b)
      every a at rs u h =
          let p = (exists a at).1 in
          let k = ask_taken s a q free (posted_answer p) h in
          let (t, b, w) = rest.every k.ring_after (shows a k.ring_after at k.posts) k.rest u (subst (λ z. Leads (holding z k.ring_after) cs k.rest u) e k.leads) in
          (k.answers ∙ ap (λ r. Ok tt ∷ r) t, b, w)

  -- One more cycle in front, in which the free bank picks as said.
  sure_cycle : (o : Option ℕ) → s.breach ≡ None → service_of s 0 ≡ None → ((b : Ring) → after_cycle o s b ≡ holding next b) → ((a : Ring) → At x y l a → (b : Ring) × AfterPick ring a b o) → ((a b : Ring) (r : Option ℕ) → At x y l a → AfterPick ring a b r → (r ≡ o) × At x' y' l' b) → Sure x' y' l' next cs n end → Sure x y l s (cycle ∷ cs) (suc n) end
  sure_cycle o unbroken free e exists shows rest = record { some = some; every = every }
    where
      some : (a : Ring) → At x y l a → (u : State Ring) × Leads (holding s a) (cycle ∷ cs) (replicate (suc n) (Ok tt)) u
      some a at =
          let (b, p) = exists a at in
          let (u, k) = rest.some b (shows a b o at p).1 in
          let turn = subst (λ v. TurnOf ring 1 v 0 (holding s a) (picked ring 1 0 o (holding s b))) (sym free) (record { before = a; after = b; answer = o; stood = refl; picks = p; leaves = refl }) in
          let h : Cycle ring plan short_dates (holding s a) (Ok tt) (holding next b) = subst (λ z. CycleOf ring z plan short_dates (holding s a) (Ok tt) (holding next b)) (sym unbroken) (refl, record { picked = picked ring 1 0 o (holding s b); turns = next_turn no_turn turn; leaves = sym (e b) }) in
          (u, then_cycle h k)

      every : (a : Ring) → At x y l a → (rs : List CallAnswer) (u : State Ring) → Leads (holding s a) (cycle ∷ cs) rs u → (rs ≡ replicate (suc n) (Ok tt)) × (b : Ring) × (u ≡ holding end b)
      every a at rs u h =
          let k = cycle_taken s a unbroken free h in
          let (is, after) = shows a k.ring_after k.answer at k.picks in
          let more = subst (λ r. Leads (after_cycle r s k.ring_after) cs k.rest u) is k.leads in
          let (t, b, w) = rest.every k.ring_after after k.rest u (subst (λ z. Leads z cs k.rest u) (e k.ring_after) more) in
          (k.answers ∙ ap (λ r. Ok tt ∷ r) t, b, w)

-- The steps of a ring of two.
module _ {l : Option ℕ} (known : Known l 2) {s next end : State Ring} {cs : List Call} {n : ℕ} where
  ask_0 : {y : Bool} → ask_refusal plan s 0 0 ≡ None → happen s 0 (Asked 0) ≡ next → Sure true y l next cs n end → Sure false y l s (ask 0 0 ∷ cs) (suc n) end
  ask_0 {y} free e = sure_ask 0 free e (λ a at. (two true y l known, posted_0 known at)) (λ a b at. post_0 at)

  ask_1 : {x : Bool} → ask_refusal plan s 1 0 ≡ None → happen s 1 (Asked 0) ≡ next → Sure x true l next cs n end → Sure x false l s (ask 1 0 ∷ cs) (suc n) end
  ask_1 {x} free e = sure_ask 1 free e (λ a at. (two x true l known, posted_1 known at)) (λ a b at. post_1 at)

  cycle_0 : {y : Bool} → First 2 l (λ k. get_or (waiters true y) k false) 0 → s.breach ≡ None → service_of s 0 ≡ None → ((b : Ring) → after_cycle (Some 0) s b ≡ holding next b) → Sure false y (Some 0) next cs n end → Sure true y l s (cycle ∷ cs) (suc n) end
  cycle_0 {y} f unbroken free e =
      sure_cycle (Some 0) unbroken free e
      (λ a at. (two false y (Some 0) known_0, picked_0 at f))
      (λ a b r at h. let k = pick_is 0 r known at f h in (k.answer, record { waiting = k.waiting; last = k.last; width = k.width }))

  cycle_1 : {x : Bool} → First 2 l (λ k. get_or (waiters x true) k false) 1 → s.breach ≡ None → service_of s 0 ≡ None → ((b : Ring) → after_cycle (Some 1) s b ≡ holding next b) → Sure x false (Some 1) next cs n end → Sure x true l s (cycle ∷ cs) (suc n) end
  cycle_1 {x} f unbroken free e =
      sure_cycle (Some 1) unbroken free e
      (λ a at. (two x false (Some 1) known_1, picked_1 at f))
      (λ a b r at h. let k = pick_is 1 r known at f h in (k.answer, record { waiting = k.waiting; last = k.last; width = k.width }))

  cycle_none : s.breach ≡ None → service_of s 0 ≡ None → ((b : Ring) → after_cycle None s b ≡ holding next b) → Sure false false l next cs n end → Sure false false l s (cycle ∷ cs) (suc n) end
  cycle_none unbroken free e =
      sure_cycle None unbroken free e
      (λ a at. (a, (refl, λ o. ap (λ w. get_or w o false) at.waiting ∙ getD_replicate_same 32 o false)))
      (λ a b r at h. let k = pick_none r at h in (k.0, subst (λ z. At false false l z) (sym k.1) at))

-- A task at work, by its cycles and accesses left, and the states of the run.
abbrev job : ℕ → ℕ → ℕ → Job
job i work left = record { task = i; cycles = work; accesses = left ∷ replicate 15 0 }

abbrev scan_works : ℕ → ℕ → Place
scan_works work left = Working (job 0 work left)

abbrev steam_works : ℕ → ℕ → Place
steam_works work left = Working (job 1 work left)

abbrev scan_waits : ℕ → ℕ → Place
scan_waits work left = Waiting (job 0 work left) 0

abbrev steam_waits : ℕ → ℕ → Place
steam_waits work left = Waiting (job 1 work left) 0

abbrev at_time : ℕ → Stage → Place → Place → Option Breach → State Ring
at_time time steam scan_place steam_place breach = record {
  time = time;
  stages = AtWork ∷ steam ∷ replicate 254 Ahead;
  places = scan_place ∷ steam_place ∷ replicate 30 Idle;
  services = replicate 16 None;
  arbiters = [];
  breach = breach;
}

abbrev end : State Ring
end = at_time 8 Done (scan_works 1 0) Idle (Some (Overdue 0))

run_from_5 : Sure false false (Some 0) (at_time 4 AtWork (scan_works 5 0) (steam_works 2 1) None) (cycle ∷ cycle ∷ cycle ∷ cycle ∷ []) 4 end
run_from_5 =
    cycle_none known_0 {next = at_time 5 AtWork (scan_works 4 0) (steam_works 1 1) None} refl refl (λ b. refl)
    (cycle_none known_0 {next = at_time 6 Done (scan_works 3 0) Idle None} refl refl (λ b. refl)
    (cycle_none known_0 {next = at_time 7 Done (scan_works 2 0) Idle None} refl refl (λ b. refl)
    (cycle_none known_0 {next = end} refl refl (λ b. refl) sure_end)))

run : Sure false false None (at_time 0 AtWork (scan_works 5 3) (steam_works 4 2) None) calls 12 end
run =
    ask_0 known_none {next = at_time 0 AtWork (scan_waits 5 2) (steam_works 4 2) None} refl refl
    (ask_1 known_none {next = at_time 0 AtWork (scan_waits 5 2) (steam_waits 4 1) None} refl refl
    (cycle_0 known_none {next = at_time 1 AtWork (scan_works 5 2) (steam_waits 4 1) None} (first_of true true None 0 refl (λ h. omega arith) (λ h. omega arith)) refl refl (λ b. refl)
    (ask_0 known_0 {next = at_time 1 AtWork (scan_waits 5 1) (steam_waits 4 1) None} refl refl
    (cycle_1 known_0 {next = at_time 2 AtWork (scan_waits 5 1) (steam_works 4 1) None} (first_of true true (Some 0) 1 refl (λ h. omega arith) (λ h. omega arith)) refl refl (λ b. refl)
    (cycle_0 known_1 {next = at_time 3 AtWork (scan_works 5 1) (steam_works 3 1) None} (first_of true false (Some 1) 0 refl (λ h. omega arith) (λ h. absurd (false≢true h))) refl refl (λ b. refl)
    (ask_0 known_0 {next = at_time 3 AtWork (scan_waits 5 0) (steam_works 3 1) None} refl refl
    (cycle_0 known_0 {next = at_time 4 AtWork (scan_works 5 0) (steam_works 2 1) None} (first_of true false (Some 0) 0 refl (λ h. omega arith) (λ h. absurd (false≢true h))) refl refl (λ b. refl)
    run_from_5)))))))

pub breach_worked : (a : Ring) → NewRing 2 a → BreachWorked a
breach_worked a new =
    let at = new_at a new in
    record {
      set_up_taken = rw (le-leb 2 a.width (omega (arith, new.width)), no_one a.width (ring_waiting a) (λ o h. new.idle o));
      some_run = run.some a at;
      every_run = λ t rs h.
          let (e, b, w) = run.every a at rs t h in
          (e, record { comes = leads_comes h sets_up; breach = ap (λ u. u.breach) w; time = ap (λ u. u.time) w });
    }
