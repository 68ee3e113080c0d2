-- Places, banks, arbiters and tasks agree, and each task at work is in its window.
use Rattle.std.proofs.Common.{◌≡◌, ℕ, ◌<◌, ◌≤◌, true, false, ◌||◌, ◌⊎◌, Some, sym, refl, ap, ◌∙◌, inl, inr, arith}
use Rattle.std.proofs.lemmas.Bool.{false≢true}
use Rattle.plan.specs.Rules.{places_of}
use Rattle.plan.proofs.Keeping.{few_banks}
use Rattle.date_check.proofs.Reading.{few_places}
use Rattle.arbiter.specs.Events.{serves}
use Rattle.arbiter.specs.Meaning.{Keeps}
use Rattle.cluster.specs.declared.place.Place.{Place}
use Rattle.cluster.specs.declared.place.Place.TheVariants.{Idle, Working, Waiting, Served}
use Rattle.cluster.specs.declared.stage.Stage.TheVariants.{AtWork}
use Rattle.safety.proofs.Setting.{Setting, banks, due, first, home, release, rows}
use Rattle.safety.proofs.Standing.{holder, served, served_at, stands_at, waits_at}
use Rattle.safety.proofs.Views.{View}

-- A place that stands at a bank is held, and one that is not held is idle.
pub stands_held : (x : Place) (b : ℕ) → stands_at x b ≡ true → (t : ℕ) × (holder x ≡ Some t)
stands_held Idle b e = absurd (false≢true e)
stands_held (Working j) b e = absurd (false≢true e)
stands_held (Waiting j bank) b e = (j.task, refl)
stands_held (Served j bank) b e = (j.task, refl)

pub idle_or_held : (x : Place) → (x ≡ Idle) ⊎ ((t : ℕ) × (holder x ≡ Some t))
idle_or_held Idle = inl refl
idle_or_held (Working j) = inr (j.task, refl)
idle_or_held (Waiting j bank) = inr (j.task, refl)
idle_or_held (Served j bank) = inr (j.task, refl)

pub served_not_waits : (x : Place) (b : ℕ) → served_at x b ≡ true → waits_at x b ≡ false
served_not_waits Idle b e = refl
served_not_waits (Working j) b e = refl
served_not_waits (Waiting j bank) b e = absurd (false≢true e)
served_not_waits (Served j bank) b e = refl

module _ {A : Type 0} (c : Setting A) where
  -- Task t is at work, and q is its place.
  pub record IsAtWork (v : View A) (t q : ℕ) : Type 0 where
    pub known : t < rows c
    pub here : home c t ≡ q
    pub stage : v.stage t ≡ AtWork

  pub record Linked (v : View A) : Type 0 where
    pub keeps : (b : ℕ) → b < banks c → Keeps c.model (first c b) (v.arbiter b)
    -- A place waits or is served at a bank exactly if the bank says so.
    pub waiting : (b q : ℕ) → b < banks c → c.model.waiting (v.arbiter b) q ≡ waits_at (v.place q) b
    pub serving : (b q : ℕ) → b < banks c → serves (served (v.service b)) q ≡ served_at (v.place q) b
    pub last : (b o : ℕ) → b < banks c → served (v.service b) ≡ Some o → c.model.last (v.arbiter b) ≡ Some o
    pub inside : (q b : ℕ) → stands_at (v.place q) b ≡ true → b < banks c
    -- A task at work holds its place, and no other does.
    pub holds : (q t : ℕ) → holder (v.place q) ≡ Some t → IsAtWork v t q
    pub held : (t : ℕ) → t < rows c → v.stage t ≡ AtWork → holder (v.place (home c t)) ≡ Some t

  -- At time n each task at work is in its window.
  pub record Timely (n : ℕ) (v : View A) : Type 0 where
    pub begun : (t : ℕ) → t < rows c → v.stage t ≡ AtWork → release c t ≤ n
    pub unfinished : (t : ℕ) → t < rows c → v.stage t ≡ AtWork → n < due c t

  pub bank_below : (b : ℕ) → b < banks c → b < 16
  bank_below b l = omega (arith, few_banks c.plan.head c.kept.headed)

  pub home_below : (t : ℕ) → t < rows c → home c t < 32
  home_below t l = omega (arith, (c.kept.legal t l).placed, few_places c.plan.head c.kept.headed)

  module _ (v : View A) (lk : Linked v) where
    pub held_below : (q t : ℕ) → holder (v.place q) ≡ Some t → (q < places_of c.plan.head) × (q < 32)
    held_below q t e =
        let w = lk.holds q t e in
        (omega (arith, w.here, (c.kept.legal t w.known).placed), omega (arith, w.here, home_below t w.known))

    -- Whom an arbiter or a bank knows stands there.
    pub known_stands : (b q : ℕ) → b < banks c → (c.model.waiting (v.arbiter b) q || serves (served (v.service b)) q) ≡ stands_at (v.place q) b
    known_stands b q l = ap (λ x. x || serves (served (v.service b)) q) (lk.waiting b q l) ∙ ap (λ x. waits_at (v.place q) b || x) (lk.serving b q l)

    -- One task at a place at a time.
    pub same_holder : (q t u : ℕ) → holder (v.place q) ≡ Some t → u < rows c → v.stage u ≡ AtWork → home c u ≡ q → u ≡ t
    same_holder q t u e l w h = let f : Some u ≡ Some t = sym (lk.held u l w) ∙ ap (λ x. holder (v.place x)) h ∙ e in cc
