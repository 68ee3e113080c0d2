-- What an ask that the rules take answers, by what the arbiter answered.
-- Assumes nothing.
use Rattle.std.proofs.Common.{◌≡◌, ℕ, true, false, Some, None, Ok, Err, Result, sym}
use Rattle.std.specs.List.{slice_get}
use Rattle.std.specs.Result.{is_err}
use Rattle.arbiter.specs.Answers.{AfterPost, post_answer}
use Rattle.arbiter.specs.Meaning.{Model}
use Rattle.arbiter.specs.declared.refusal.Refusal.{Refusal}
use Rattle.cluster.specs.declared.refusal.CallRefusal.{CallRefusal}
use Rattle.cluster.specs.declared.refusal.CallRefusal.TheVariants.{Busy}
use Rattle.cluster.specs.Calls.{Asking, TurnedAway}
use Rattle.cluster.specs.States.{State}

module _ {A : Type 0} (m : Model A) where
  pub turned_away : (s : State A) (q b : ℕ) (x y : A) (r : Result (Unit {0}) Refusal) → is_err r ≡ true → slice_get s.arbiters b ≡ Some x → r ≡ post_answer (m.width x) (m.waiting x) q → AfterPost m x q y r → TurnedAway m s q b
  turned_away s q b x y (Ok u) is stood answer state = cc
  turned_away s q b x y (Err f) is stood answer state = record { arbiter = x; refusal = f; stood = stood; refuses = sym answer }

  pub unchanged : (q : ℕ) (x y : A) (r : Result (Unit {0}) Refusal) → is_err r ≡ true → AfterPost m x q y r → y ≡ x
  unchanged q x y (Ok u) is state = cc
  unchanged q x y (Err f) is state = state

  pub posted : (q : ℕ) (x y : A) (r : Result (Unit {0}) Refusal) → is_err r ≡ false → AfterPost m x q y r → m.posted x q y
  posted q x y (Ok u) is state = state
  posted q x y (Err f) is state = cc

  pub asking_busy : (s t : State A) (q b : ℕ) (r : Result (Unit {0}) CallRefusal) → r ≡ Err Busy → t ≡ s → TurnedAway m s q b → Asking m None s q b r t
  asking_busy s t q b (Ok u) is same turned = cc
  asking_busy s t q b (Err f) is same turned = (cc, same, turned)
