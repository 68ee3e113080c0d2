-- Options, and questions that give a refusal or none.
use Rattle.std.proofs.Common.{◌≡◌, Bool, true, false, Some, None, Option, refl}
use Rattle.cluster.specs.Calls.{asked}

pub none_some : {X : Type 0} (x : X) → None ≡ Some x → ⊥
none_some x e = cc

-- A question without a refusal had a yes, and so had the rest.
pub passed : {F : Type 0} (answer : Bool) (refusal : F) (rest : Option F) → asked answer refusal rest ≡ None → (answer ≡ true) × (rest ≡ None)
passed true refusal rest e = (refl, e)
passed false refusal rest e = cc

pub pass : {F : Type 0} (answer : Bool) (refusal : F) (rest : Option F) → answer ≡ true → rest ≡ None → asked answer refusal rest ≡ None
pass true refusal rest a e = e
pass false refusal rest a e = cc
