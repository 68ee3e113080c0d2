-- What a task waits for, and when all of it has finished.
-- Assumes nothing.
use Rattle.std.proofs.Common.{◌≡◌, ℕ, zero, suc, ◌<◌, ◌≤◌, Bool, true, false, not, ◌||◌, eqb, leb, List, [], ◌∷◌, length, get_or, IfSome, MatchOption, Some, None, Decides, Option, sym, refl, ap, ◌∙◌, subst, ⊎_elim, arith}
use Rattle.std.proofs.lemmas.Bool.{cond_both, eq-eqb, eqb-true, le-leb, leb-true, or_cases, or_left, or_right}
use Rattle.std.proofs.lemmas.Bool.Decides.{Decides-below_and, same_from_decides}
use Rattle.std.specs.List.{All}
use Rattle.plan.specs.Rows.{Plan, Row, row}
use Rattle.plan.specs.Rules.{Kept, member}
use Rattle.plan.specs.Waits.{holds, latest_at, previous_of, waits_for}
use Rattle.plan.proofs.Waiting.{waits_below}
use Rattle.date_check.specs.declared.dates.Dates.{Dates}
use Rattle.date_check.specs.Sound.{dated, finish}
use Rattle.date_check.specs.Verdict.{all_finished}

-- The entries of a list are its members, and no others are.
member_any : (xs : List ℕ) (j d : ℕ) → j < length xs → member (get_or xs j d) xs ≡ true
member_any [] j d l = absurd (omega arith)
member_any (x ∷ xs) zero d l = or_left (eqb x x) (member x xs) (eq-eqb x x refl)
member_any (x ∷ xs) (suc j) d l = or_right (eqb x (get_or xs j d)) (member (get_or xs j d) xs) (member_any xs j d (omega arith))

pub member_at : (xs : List ℕ) (j : ℕ) → j < length xs → member (get_or xs j 0) xs ≡ true
member_at xs j l = member_any xs j 0 l

pub member_every : (P : ℕ → Type 0) (xs : List ℕ) → ((j : ℕ) → j < length xs → P (get_or xs j 0)) → (k : ℕ) → member k xs ≡ true → P k
member_every P [] each k h = let z : ◌≡◌ {A = ℕ} 0 1 = cc in absurd (omega arith)
member_every P (x ∷ xs) each k h =
    ⊎_elim
    (λ here. subst P (eqb-true x k here) (each 0 (omega arith)))
    (λ there. member_every P xs (λ j l. each (suc j) (omega arith)) k there)
    (or_cases (eqb x k) (member k xs) h)

-- A fact of all entries is a fact of all members.
pub members_decide : (r : Bool) (P : ℕ → Type 0) (xs : List ℕ) → Decides r (All P xs) → Decides r ((k : ℕ) → member k xs ≡ true → P k)
members_decide r P xs h = (λ e. member_every P xs (λ j l. h.0 e j 0 l), λ all. h.1 (λ j d l. all (get_or xs j d) (member_any xs j d l)))

pub all_members : (P : ℕ → Type 0) (xs : List ℕ) → ((k : ℕ) → member k xs ≡ true → P k) → All P xs
all_members P xs h j d l = h (get_or xs j d) (member_any xs j d l)

pub latest_earlier : (rows : List Row) (place i : ℕ) → IfSome (latest_at rows place i) (λ k. k < i)
latest_earlier rows place zero = tt
latest_earlier rows place (suc i) =
    cond_both (eqb (row rows i).place place) (Some i) (latest_at rows place i) (λ o. IfSome o (λ k. k < suc i))
    (λ here. omega arith)
    (λ away. later (latest_at rows place i) (latest_earlier rows place i))
  where
    later : (o : Option ℕ) → IfSome o (λ k. k < i) → IfSome o (λ k. k < suc i)
    later None h = tt
    later (Some k) h = omega arith

implied : (waits : Bool) (f t : ℕ) → Decides (not waits || leb f t) (waits ≡ true → f ≤ t)
implied true f t = (λ e w. leb-true f t e, λ h. le-leb f t (h refl))
implied false f t = (λ e w. let z : ◌≡◌ {A = ℕ} 0 1 = cc in absurd (omega arith), λ h. refl)

module _ (p : Plan) (kept : Kept p) (table : List Dates) (i : ℕ) (l : i < length p.rows) where
  -- All that i waits for has finished when it is released.
  abbrev pub Finished : Type 0
  Finished = (k : ℕ) → waits_for p.rows i k ≡ true → finish (dated table k) ≤ (dated table i).release

  pub all_finished_decides : Decides (all_finished p.rows table i (length p.rows)) Finished
  all_finished_decides =
      let d = Decides-below_and (λ k. not (waits_for p.rows i k) || leb (finish (dated table k)) (dated table i).release) (λ k. waits_for p.rows i k ≡ true → finish (dated table k) ≤ (dated table i).release) (all_finished p.rows table i) (λ k. implied (waits_for p.rows i k) (finish (dated table k)) (dated table i).release) refl (λ n. refl) (length p.rows) in
      (λ e k w. d.0 e k (omega (arith, waits_below p i k kept l w)) w, λ h. d.1 (λ k j w. h k w))

  -- The same by what i names, xs, and by the task before it at its place, o; t is its release.
  module _ (xs : List ℕ) (t : ℕ) (named : xs ≡ (row p.rows i).after) (released : t ≡ (dated table i).release) where
    pub named_earlier : (k : ℕ) → member k xs ≡ true → k < i
    named_earlier k h = (kept.legal i l).earlier k (ap (member k) (sym named) ∙ h)

    pub named_late : Decides false ((k : ℕ) → member k xs ≡ true → finish (dated table k) ≤ t) → false ≡ all_finished p.rows table i (length p.rows)
    named_late d =
        same_from_decides false (all_finished p.rows table i (length p.rows))
        (λ e. let z : ◌≡◌ {A = ℕ} 0 1 = cc in absurd (omega arith), λ h. d.1 (λ k w. omega (arith, h k (or_left (member k (row p.rows i).after) (holds (previous_of p.rows i) k) (ap (member k) (sym named) ∙ w)))))
        all_finished_decides

    pub previous_decides : (r : Bool) (o : Option ℕ) → o ≡ previous_of p.rows i → ((k : ℕ) → member k xs ≡ true → finish (dated table k) ≤ t) → Decides r ((k : ℕ) → holds o k ≡ true → finish (dated table k) ≤ t) → r ≡ all_finished p.rows table i (length p.rows)
    previous_decides r o before each d =
        same_from_decides r (all_finished p.rows table i (length p.rows)) (
          λ e k w. ⊎_elim
              (λ h. omega (arith, each k (ap (member k) named ∙ h)))
              (λ h. omega (arith, d.0 e k (ap (λ x. holds x k) before ∙ h)))
              (or_cases (member k (row p.rows i).after) (holds (previous_of p.rows i) k) w),
          λ h. d.1 (λ k w. omega (arith, h k (or_right (member k (row p.rows i).after) (holds (previous_of p.rows i) k) (ap (λ x. holds x k) (sym before) ∙ w)))),
        )
        all_finished_decides

-- The row before, if there is one, finishes by t.
pub before_finished : (table : List Dates) (t : ℕ) (o : Option ℕ) (r : Bool) → MatchOption o (r ≡ true) (λ k. r ≡ leb (finish (dated table k)) t) → Decides r ((j : ℕ) → holds o j ≡ true → finish (dated table j) ≤ t)
before_finished table t None r e = (λ yes j h. let z : ◌≡◌ {A = ℕ} 0 1 = cc in absurd (omega arith), λ h. e)
before_finished table t (Some k) r e = (
  λ yes j h. omega (arith, leb-true (finish (dated table k)) t (sym e ∙ yes), ap (λ x. finish (dated table x)) (eqb-true k j h)),
  λ h. e ∙ le-leb (finish (dated table k)) t (h k (eq-eqb k k refl)),
)
