-- The meaning of a value that holds an arbiter and behaves as it.
use Rattle.arbiter.specs.Meaning.{Model}

-- T means what the arbiter that f finds in it means.
abbrev pub held : {S T : Type 0} → (T → S) → Model S → Model T
held f m = record {
  width = λ a. m.width (f a);
  waiting = λ a s. m.waiting (f a) s;
  last = λ a. m.last (f a);
  bound = λ a s own xs. m.bound (f a) s own xs;
  posted = λ a s b. m.posted (f a) s (f b);
  picked = λ a s b. m.picked (f a) s (f b);
}
