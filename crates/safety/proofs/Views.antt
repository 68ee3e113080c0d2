-- A state seen as functions of row, place and bank, and its steps seen so.
use Rattle.std.proofs.Common.{◌≡◌, ℕ, ◌<◌, length, get_or, set, replicate, None, Option, sym, refl, ◌∙◌, arith}
use Rattle.arbiter.proofs.Lists.{getD_replicate_same}
use Rattle.cluster.specs.declared.place.Place.{Place}
use Rattle.cluster.specs.declared.place.Place.TheVariants.{Idle}
use Rattle.cluster.specs.declared.place.Event.TheVariants.{CycleUsed}
use Rattle.cluster.specs.declared.service.Service.{Service}
use Rattle.cluster.specs.declared.stage.Stage.{Stage}
use Rattle.cluster.specs.declared.stage.Stage.TheVariants.{Ahead}
use Rattle.cluster.specs.Cycles as cycles
use Rattle.cluster.specs.Places.{after}
use Rattle.cluster.specs.States.{State, fresh, place_of, service_of, stage_of, with_arbiters, with_place, with_service, with_stage, with_stages}
use Rattle.safety.proofs.Setting.{Setting, banks, first}
use Rattle.safety.proofs.Updates.{map_at, set_at, upd, upd_old}

pub record View (A : Type 0) : Type 0 where
  pub stage : ℕ → Stage
  pub place : ℕ → Place
  pub service : ℕ → Option Service
  pub arbiter : ℕ → A

module _ {A : Type 0} where
  -- Place q and bank b change.
  abbrev pub exchanged : View A → ℕ → ℕ → Place → A → Option Service → View A
  exchanged v q b x a u = record { stage = v.stage; place = upd v.place q x; service = upd v.service b u; arbiter = upd v.arbiter b a }

  -- Place q and the stage of task t change.
  abbrev pub handed : View A → ℕ → Place → ℕ → Stage → View A
  handed v q x t y = record { stage = upd v.stage t y; place = upd v.place q x; service = v.service; arbiter = v.arbiter }

  -- All places and services use a cycle.
  abbrev pub used : View A → View A
  used v = record { stage = v.stage; place = λ q. after (v.place q) CycleUsed; service = λ b. cycles.service_used (v.service b); arbiter = v.arbiter }

  -- All tasks are ahead.
  abbrev pub renewed : View A → View A
  renewed v = record { stage = λ t. Ahead; place = v.place; service = v.service; arbiter = v.arbiter }

  same_view : (v w : View A) → ((i : ℕ) → v.stage i ≡ w.stage i) → ((i : ℕ) → v.place i ≡ w.place i) → ((i : ℕ) → v.service i ≡ w.service i) → ((i : ℕ) → v.arbiter i ≡ w.arbiter i) → v ≡ w
  same_view v w s p u a = λ i. record { stage = λ j. s j i; place = λ j. p j i; service = λ j. u j i; arbiter = λ j. a j i }

module _ {A : Type 0} (c : Setting A) where
  abbrev pub view : State A → View A
  view s = record { stage = stage_of s; place = place_of s; service = service_of s; arbiter = λ b. get_or s.arbiters b c.some }

  -- Each list has its length.
  pub record Sized (s : State A) : Type 0 where
    pub stages : length s.stages ≡ 256
    pub places : length s.places ≡ 32
    pub services : length s.services ≡ 16
    pub arbiters : length s.arbiters ≡ banks c

  module _ (s : State A) (sized : Sized s) where
    -- An ask changes a place and an arbiter.
    pub view_ask : (q b : ℕ) (x : Place) (a : A) → q < 32 → b < banks c → view (with_place (with_arbiters s (set s.arbiters b a)) q x) ≡ exchanged (view s) q b x a (service_of s b)
    view_ask q b x a i j =
        same_view _ _ (λ k. refl) (λ k. set_at s.places q k x Idle (omega (arith, sized.places))) (λ k. upd_old (service_of s) b k (service_of s b) refl)
        (λ k. set_at s.arbiters b k a c.some (omega (arith, sized.arbiters)))

    -- A pick changes a place, an arbiter and a service.
    pub view_pick : (q b : ℕ) (x : Place) (a : A) (u : Option Service) → q < 32 → b < banks c → b < 16 → view (with_service (with_place (with_arbiters s (set s.arbiters b a)) q x) b u) ≡ exchanged (view s) q b x a u
    view_pick q b x a u i j l =
        same_view _ _ (λ k. refl) (λ k. set_at s.places q k x Idle (omega (arith, sized.places))) (λ k. set_at s.services b k u None (omega (arith, sized.services)))
        (λ k. set_at s.arbiters b k a c.some (omega (arith, sized.arbiters)))

    -- An arbiter put back.
    pub view_idle : (b : ℕ) (a : A) → b < banks c → get_or s.arbiters b c.some ≡ a → view (with_arbiters s (set s.arbiters b a)) ≡ view s
    view_idle b a j e =
        same_view _ _ (λ k. refl) (λ k. refl) (λ k. refl)
        (λ k. set_at s.arbiters b k a c.some (omega (arith, sized.arbiters)) ∙ sym (upd_old (λ i. get_or s.arbiters i c.some) b k a (sym e)))

    -- The end of a service changes a place and a service.
    pub view_end : (q b : ℕ) (x : Place) (u : Option Service) → q < 32 → b < 16 → view (with_place (with_service s b u) q x) ≡ exchanged (view s) q b x (get_or s.arbiters b c.some) u
    view_end q b x u i l =
        same_view _ _ (λ k. refl) (λ k. set_at s.places q k x Idle (omega (arith, sized.places))) (λ k. set_at s.services b k u None (omega (arith, sized.services)))
        (λ k. upd_old (λ i. get_or s.arbiters i c.some) b k (get_or s.arbiters b c.some) refl)

    -- A task that starts or is done changes its place and its stage.
    pub view_hand : (q t : ℕ) (x : Place) (y : Stage) → q < 32 → t < 256 → view (with_stage (with_place s q x) t y) ≡ handed (view s) q x t y
    view_hand q t x y i l =
        same_view _ _ (λ k. set_at s.stages t k y Ahead (omega (arith, sized.stages))) (λ k. set_at s.places q k x Idle (omega (arith, sized.places))) (λ k. refl) (λ k. refl)

  pub view_used : (s : State A) → view (cycles.used s) ≡ used (view s)
  view_used s = same_view _ _ (λ k. refl) (λ k. map_at (λ x. after x CycleUsed) s.places k Idle refl) (λ k. map_at cycles.service_used s.services k None refl) (λ k. refl)

  pub view_renewed : (s : State A) → view (with_stages s (replicate 256 Ahead)) ≡ renewed (view s)
  view_renewed s = same_view _ _ (λ k. getD_replicate_same 256 k Ahead) (λ k. refl) (λ k. refl) (λ k. refl)

  -- At first.
  abbrev pub blank : View A
  blank = record { stage = λ t. Ahead; place = λ q. Idle; service = λ b. None; arbiter = first c }

  pub view_fresh : view (fresh c.arbiters) ≡ blank
  view_fresh = same_view _ _ (λ k. getD_replicate_same 256 k Ahead) (λ k. getD_replicate_same 32 k Idle) (λ k. getD_replicate_same 16 k None) (λ k. refl)
