-- A plan with new arbiters of one make has one listing.
-- Assumes nothing.
use Rattle.std.proofs.Common.{◌≡◌, ℕ, ◌+◌, ◌<◌, ◌≤◌, false, List, [], ◌∷◌, ◌++◌, map, length, Ok, Err, codes, Result, sym, refl, ap, ◌∙◌, subst, inl, inr, arith}
use Rattle.std.proofs.lemmas.List.{ext_get_or, get_or-map, length-map}
use Rattle.std.proofs.lemmas.Bool.{cases_lt}
use Rattle.std.specs.List.{AllByRecursion}
use Rattle.plan.specs.Rows.{Plan}
use Rattle.plan.specs.Rules.{Kept, places_of}
use Rattle.arbiter.specs.Meaning.{Model}
use Rattle.sheet.specs.Columns.{column, justified}
use Rattle.date_check.specs.declared.dates.Dates.{Dates}
use Rattle.date_check.specs.Keeping.{AllKeep}
use Rattle.date_check.specs.Sound.{Fits, dated}
use Rattle.date_check.specs.Verdict.{arbiters_fit}
use Rattle.consistency.specs.Dates.{Consistent, Rounds, Same, Table, finish}
use Rattle.consistency.specs.System.{System}
use Rattle.analysis.specs.Answers as analysis
use Rattle.analysis.specs.Plans.{PlansAreDated, releases, responses, system}
use Rattle.analysis.specs.declared.refusal.Refusal.{Refusal}
use Rattle.analysis.specs.declared.refusal.Refusal.TheVariants.{NoTask, Arbiters, Table as ShortTable, Late}
use Rattle.listing.specs.Listing.{granted, late, rounds_line, row_line, row_lines}
use Rattle.listing.specs.declared.answer.Row.{Row}
use Rattle.answering.specs.Listings.{ListsAnswer, ListsGranted, ListsPlan}
use Rattle.answering.proofs.OneSystem.{fit_keep, system_same, they_fit}

-- The line of a task, by its dates and its name.
abbrev line : ℕ → ℕ → ℕ → List ℕ → List ℕ
line k a b name = codes "R" ++ column 10 k ++ column 10 a ++ column 10 b ++ column 10 (a + b) ++ codes " " ++ justified 12 name ++ codes "\n"

lines_same : (k : ℕ) (rs qs : List Row) → map (λ r. r.release) rs ≡ map (λ r. r.release) qs → map (λ r. r.response) rs ≡ map (λ r. r.response) qs → map (λ r. r.name.now) rs ≡ map (λ r. r.name.now) qs → row_lines k rs ≡ row_lines k qs
lines_same k [] [] a b c = refl
lines_same k [] (q ∷ qs) a b c = absurd (omega (arith, ap length a))
lines_same k (r ∷ rs) [] a b c = absurd (omega (arith, ap length a))
lines_same k (r ∷ rs) (q ∷ qs) a b c =
    let x : r.release ≡ q.release = cc in
    let y : r.response ≡ q.response = cc in
    let z : r.name.now ≡ q.name.now = cc in
    let one : row_line k r ≡ row_line k q = ap (λ n. line k n r.response r.name.now) x ∙ ap (λ n. line k q.release n r.name.now) y ∙ ap (λ n. line k q.release q.response n) z in
    ap (λ t. t ++ row_lines (k + 1) rs) one ∙ ap (λ t. row_line k q ++ t) (lines_same (k + 1) rs qs (cc) (cc) (cc))

-- Two tables that agree in all rows have the same columns.
column_same : (f : Dates → ℕ) (n : ℕ) (ds es : List Dates) → length ds ≡ n → length es ≡ n → ((i : ℕ) → i < n → f (dated ds i) ≡ f (dated es i)) → map f ds ≡ map f es
column_same f n ds es l k h =
    ext_get_or 0 (map f ds) (map f es) (omega (arith, length-map ds f, length-map es f))
    (λ i below. get_or-map f ds i (record { release = 0; response = 0 }) 0 (omega (arith, length-map ds f)) ∙ h i (omega (arith, length-map ds f)) ∙ sym (get_or-map f es i (record { release = 0; response = 0 }) 0 (omega (arith, length-map ds f))))

granted_same : (n : ℕ) (ds es : List Dates) (names : List (List ℕ)) (r s : ℕ) (t u : List ℕ) → length ds ≡ n → length es ≡ n → r ≡ s → ((i : ℕ) → i < n → releases ds i ≡ releases es i) → ((i : ℕ) → i < n → responses ds i ≡ responses es i) → ListsGranted r ds names t → ListsGranted s es names u → t ≡ u
granted_same n ds es names r s t u l k e a b x y =
    let first = x.told.releases ∙ column_same (λ d. d.release) n ds es l k a ∙ sym y.told.releases in
    let second = x.told.responses ∙ column_same (λ d. d.response) n ds es l k b ∙ sym y.told.responses in
    let third = x.told.named ∙ sym y.told.named in
    x.lines ∙ ap (λ c. granted c x.rows) e ∙ ap (λ w. rounds_line s ++ w) (lines_same 0 x.rows y.rows first second third) ∙ sym y.lines

module _ {S : Type 0} (m : Model S) (theory : PlansAreDated m) (p : Plan) (kept : Kept p) (xs ys : List S) (alike : AllKeep m xs ys) where
  theirs : {rel res : Table} → Consistent (system m p ys) rel res → Consistent (system m p xs) rel res
  theirs {rel} {res} c = subst (λ (y : System). Consistent y rel res) (sym (system_same m p xs ys alike)) c

  theirs_counted : {count : ℕ} {rel res : Table} → Rounds (system m p ys) count rel res → Rounds (system m p xs) count rel res
  theirs_counted {count} {rel} {res} c = subst (λ (y : System). Rounds y count rel res) (sym (system_same m p xs ys alike)) c

  same_dates : AllByRecursion (λ a. places_of p.head ≤ m.width a) xs → (rel res rel' res' : Table) → Consistent (system m p xs) rel res → Consistent (system m p ys) rel' res' → Same (system m p xs) rel rel' × Same (system m p xs) res res'
  same_dates wide rel res rel' res' c d = (theory p xs kept wide).determined.dates_unique rel res rel' res' c (theirs d)

  same_finish : (rel res rel' res' : Table) (i : ℕ) → i < length p.rows → Same (system m p xs) rel rel' × Same (system m p xs) res res' → finish rel res i ≡ finish rel' res' i
  same_finish rel res rel' res' i l same = omega (arith, same.0 i l, same.1 i l)

  -- The lowest late row is one row.
  late_same : (i j f g : ℕ) → AllByRecursion (λ a. places_of p.head ≤ m.width a) xs → analysis.LateRow m p xs i f → analysis.LateRow m p ys j g → late i f ≡ late j g
  late_same i j f g wide x y =
      let same = same_dates wide x.rel x.res y.rel y.res x.consistent y.consistent in
      elim (cases_lt i j) [
        | inl less ↦ absurd (omega (arith, y.lowest i less, same_finish x.rel x.res y.rel y.res i x.task same, x.ends, x.late))
        | inr more ↦ elim (cases_lt j i) [
          | inl less ↦ absurd (omega (arith, x.lowest j less, same_finish x.rel x.res y.rel y.res j y.task same, y.ends, y.late))
          | inr most ↦
              let at : i ≡ j = omega arith in
              let ends : f ≡ g = x.ends ∙ same_finish x.rel x.res y.rel y.res i x.task same ∙ ap (finish y.rel y.res) at ∙ sym y.ends in
              ap (λ n. late n f) at ∙ ap (late j) ends
        ]
      ]

  -- Granted dates leave no row late.
  not_late : (old new : List Dates) (rounds i f : ℕ) → AllByRecursion (λ a. places_of p.head ≤ m.width a) xs → analysis.Granted m p xs old new rounds → analysis.LateRow m p ys i f → ⊥
  not_late old new rounds i f wide x y =
      let same = same_dates wide (releases new) (responses new) y.rel y.res x.consistent y.consistent in
      omega (arith, x.in_period i y.task, same_finish (releases new) (responses new) y.rel y.res i y.task same, y.ends, y.late)

  all_same : (names : List (List ℕ)) (old new old' new' : List Dates) (r s : ℕ) (t u : List ℕ) → length old ≡ length p.rows → length old' ≡ length p.rows → AllByRecursion (λ a. places_of p.head ≤ m.width a) xs → analysis.Granted m p xs old new r → analysis.Granted m p ys old' new' s → ListsGranted r new names t → ListsGranted s new' names u → t ≡ u
  all_same names old new old' new' r s t u l k wide x y =
      let same = same_dates wide (releases new) (responses new) (releases new') (responses new') x.consistent y.consistent in
      let counts = (theory p xs kept wide).ending.count_unique r s (releases new) (responses new) (releases new') (responses new') x.counted (theirs_counted y.counted) in
      granted_same (length p.rows) new new' names r s t u (x.same_length ∙ l) (y.same_length ∙ k) counts same.0 same.1

-- One listing for all such arbiters.
module _ {S : Type 0} (m : Model S) (theory : PlansAreDated m) (p : Plan) (kept : Kept p) (names : List (List ℕ)) where
  unfit : (xs ys : List S) (table : List Dates) → AllKeep m xs ys → Fits m p xs table → arbiters_fit m p ys ≡ false → ⊥
  unfit xs ys table alike fits narrow =
      let yes = sym (they_fit m p xs table fits) ∙ fit_keep m p xs ys alike ∙ narrow in
      cc

  back : (xs ys : List S) → AllKeep m xs ys → AllKeep m ys xs
  back [] [] h = tt
  back [] (y ∷ ys) h = absurd h
  back (x ∷ xs) [] h = absurd h
  back (x ∷ xs) (y ∷ ys) h = (record { width = sym h.0.width; bound = λ s own zs. sym (h.0.bound s own zs) }, back xs ys h.1)

  module _ (xs ys : List S) (alike : AllKeep m xs ys) (old new old' new' : List Dates) (l : length old ≡ length p.rows) (k : length old' ≡ length p.rows) (t u : List ℕ) where
    after_granted : (r : ℕ) (s : Result ℕ Refusal) → analysis.Answer m p xs old new (Ok r) → analysis.Answer m p ys old' new' s → ListsAnswer (Ok r) new names t → ListsAnswer s new' names u → t ≡ u
    after_granted r (Ok s) a b x y = all_same m theory p kept xs ys alike names old new old' new' r s t u l k a.0.wide a.1 b.1 x y
    after_granted r (Err NoTask) a b x y = absurd (omega (arith, a.0.some, b.0))
    after_granted r (Err Arbiters) a b x y = absurd (unfit xs ys old alike a.0 b.1)
    after_granted r (Err ShortTable) a b x y = absurd (omega (arith, b.2))
    after_granted r (Err (Late i f)) a b x y = absurd (not_late m theory p kept xs ys alike old new r i f a.0.wide a.1 b.1)

    after_late : (i f : ℕ) (s : Result ℕ Refusal) → analysis.Answer m p xs old new (Err (Late i f)) → analysis.Answer m p ys old' new' s → ListsAnswer (Err (Late i f)) new names t → ListsAnswer s new' names u → t ≡ u
    after_late i f (Ok s) a b x y = absurd (not_late m theory p kept ys xs (back xs ys alike) old' new' s i f b.0.wide b.1 a.1)
    after_late i f (Err NoTask) a b x y = absurd (omega (arith, a.0.some, b.0))
    after_late i f (Err Arbiters) a b x y = absurd (unfit xs ys old alike a.0 b.1)
    after_late i f (Err ShortTable) a b x y = absurd (omega (arith, b.2))
    after_late i f (Err (Late j g)) a b x y = x ∙ late_same m theory p kept xs ys alike i j f g a.0.wide a.1 b.1 ∙ sym y

    after_narrow : (s : Result ℕ Refusal) → analysis.Answer m p xs old new (Err Arbiters) → analysis.Answer m p ys old' new' s → ListsAnswer (Err Arbiters) new names t → ListsAnswer s new' names u → t ≡ u
    after_narrow (Ok s) a b x y = absurd (unfit ys xs old' (back xs ys alike) b.0 a.1)
    after_narrow (Err NoTask) a b x y = absurd (omega (arith, a.0, b.0))
    after_narrow (Err Arbiters) a b x y = x ∙ sym y
    after_narrow (Err ShortTable) a b x y = absurd (omega (arith, b.2))
    after_narrow (Err (Late j g)) a b x y = absurd (unfit ys xs old' (back xs ys alike) b.0 a.1)

    after_none : (s : Result ℕ Refusal) → analysis.Answer m p xs old new (Err NoTask) → analysis.Answer m p ys old' new' s → ListsAnswer (Err NoTask) new names t → ListsAnswer s new' names u → t ≡ u
    after_none (Ok s) a b x y = absurd (omega (arith, b.0.some, a.0))
    after_none (Err NoTask) a b x y = x ∙ sym y
    after_none (Err Arbiters) a b x y = absurd (omega (arith, b.0, a.0))
    after_none (Err ShortTable) a b x y = absurd (omega (arith, b.2))
    after_none (Err (Late j g)) a b x y = absurd (omega (arith, b.0.some, a.0))

    answers_same : (r s : Result ℕ Refusal) → analysis.Answer m p xs old new r → analysis.Answer m p ys old' new' s → ListsAnswer r new names t → ListsAnswer s new' names u → t ≡ u
    answers_same (Ok r) s a b x y = after_granted r s a b x y
    answers_same (Err NoTask) s a b x y = after_none s a b x y
    answers_same (Err Arbiters) s a b x y = after_narrow s a b x y
    answers_same (Err ShortTable) s a b x y = absurd (omega (arith, a.2))
    answers_same (Err (Late i f)) s a b x y = after_late i f s a b x y

  pub plans_same : (xs ys : List S) → AllKeep m xs ys → (t u : List ℕ) → ListsPlan m p xs names t → ListsPlan m p ys names u → t ≡ u
  plans_same xs ys alike t u x y =
      answers_same xs ys alike x.old x.dates y.old y.dates x.row_per_task y.row_per_task t u x.result y.result x.answer y.answer x.listed y.listed
