-- Two arbiters under one numbering: the first side's sources come first.
use Rattle.std.specs.Prelude.{◌≡◌, ℕ, ◌+◌, ◌-◌, ◌<◌, Bool, true, false, cond, ◌&&◌, Some, None, Ok, Err, Option, Result, nat_le, nat_lt}
use Rattle.std.specs.Option.{option_map}
use Rattle.arbiter.specs.Answers.{someone}
use Rattle.arbiter.specs.Meaning.{Model}
use Rattle.arbiter.specs.declared.refusal.Refusal.{Refusal}
use Rattle.layers.specs.declared.pair.Pair.{Pair}
use Rattle.layers.specs.declared.pair.Side.{Side}
use Rattle.layers.specs.declared.pair.Side.TheVariants.{First, Second}

-- The sides as they are, and none picked from yet.
abbrev pub new_pair : {L R : Type 0} → L → R → Pair L R
new_pair first second = record { first = first; second = second; latest = None }

-- Was the first side picked from last?
abbrev pub is_first : Option Side → Bool
is_first None = false
is_first (Some First) = true
is_first (Some Second) = false

-- The last pick of the side that was picked from last: x of the first, y of the second, whose sources come behind n others if they fit.
abbrev pub last_of : ℕ → Bool → Option ℕ → Option ℕ → Option Side → Option ℕ
last_of n fit x y None = None
last_of n fit x y (Some First) = x
last_of n fit x y (Some Second) = cond fit (option_map (λ o. n + o) y) None

module _ {L R : Type 0} (l : Model L) (r : Model R) where
  -- Are there at most 32 sources in all?
  abbrev pub fits : Pair L R → Bool
  fits a = nat_le (l.width a.first + r.width a.second) 32

  -- Where there are more, the first side's sources alone count.
  abbrev pub pair_width : Pair L R → ℕ
  pair_width a = cond (fits a) (l.width a.first + r.width a.second) (l.width a.first)

  -- A source waits where it waits at its side.
  abbrev pub pair_waiting : Pair L R → ℕ → Bool
  pair_waiting a s = cond (nat_lt s (l.width a.first)) (l.waiting a.first s) (fits a && r.waiting a.second (s - l.width a.first))

  -- The last pick of the pair is that of the side picked from last.
  abbrev pub pair_last : Pair L R → Option ℕ
  pair_last a = last_of (l.width a.first) (fits a) (l.last a.first) (r.last a.second) a.latest

  -- Does anybody wait at the first side, at the second?
  abbrev pub first_waits : Pair L R → Bool
  first_waits a = someone (l.width a.first) (l.waiting a.first)

  abbrev pub second_waits : Pair L R → Bool
  second_waits a = fits a && someone (r.width a.second) (r.waiting a.second)

  -- A post goes to the side of its source.
  pub data PairPosted (a : Pair L R) (s : ℕ) (b : Pair L R) : Type 0 where
    to_first : s < l.width a.first → l.posted a.first s b.first → b.second ≡ a.second → b.latest ≡ a.latest → PairPosted a s b
    to_second : (o : ℕ) → fits a ≡ true → s ≡ l.width a.first + o → r.posted a.second o b.second → b.first ≡ a.first → b.latest ≡ a.latest → PairPosted a s b

  -- A pick from the first side (true) or from the second (false), which is then the side picked from last.
  pub data Drawn (a : Pair L R) (s : ℕ) (b : Pair L R) : Bool → Type 0 where
    from_first : l.picked a.first s b.first → b.second ≡ a.second → b.latest ≡ Some First → Drawn a s b true
    from_second : (o : ℕ) → fits a ≡ true → s ≡ l.width a.first + o → r.picked a.second o b.second → b.first ≡ a.first → b.latest ≡ Some Second → Drawn a s b false

  -- A refused post changes nothing.
  abbrev pub AfterPairPost : Pair L R → ℕ → Pair L R → Result (Unit {0}) Refusal → Type 0
  AfterPairPost a s b (Ok u) = PairPosted a s b
  AfterPairPost a s b (Err e) = b ≡ a

  -- A pick from one side answers none where nobody waits there.
  abbrev pub AfterDraw : Bool → Pair L R → Pair L R → Option ℕ → Type 0
  AfterDraw true a b None = (b ≡ a) × ((s : ℕ) → l.waiting a.first s ≡ false)
  AfterDraw false a b None = (b ≡ a) × (fits a ≡ true → (s : ℕ) → r.waiting a.second s ≡ false)
  AfterDraw true a b (Some s) = Drawn a s b true
  AfterDraw false a b (Some s) = Drawn a s b false
