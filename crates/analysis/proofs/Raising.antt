-- Responses raised from below, in the order of release.
-- Assumes nothing.
use Rattle.std.proofs.Common.{◌≡◌, ℕ, ◌+◌, ◌<◌, ◌≤◌, Bool, true, false, not, ◌&&◌, eqb, ltb, ◌≢◌, List, length, set, sym, refl, ap, ◌∙◌, subst, inl, inr, arith}
use Rattle.std.proofs.lemmas.List.{get_or-set_other, get_or-set_same}
use Rattle.std.proofs.lemmas.Bool.{and_from, and_parts, both_ways, cases_eq, eq-eqb, lt-ltb, ltb-true, not_from_false, not_from_true, true≢false}
use Rattle.plan.specs.Rows.{Row, row}
use Rattle.consistency.specs.System.{System, Lawful}
use Rattle.consistency.specs.Dates.{Same, SmallestResponses, Table, alone, finish, worst}
use Rattle.consistency.proofs.Counting.{count, count_more}
use Rattle.consistency.proofs.Responses.{alone_below, raised_below, smallest_from_below}
use Rattle.consistency.proofs.Worst.{worst_earlier, worst_positive}
use Rattle.analysis.specs.Workings.{FirstOpen, Loaded, MetAll, MetInPart, Rising, Settled, marked, meet}
use Rattle.analysis.specs.declared.tables.Meetings.{Meetings}

-- The same tasks that are met make the same work.
pub work_same : (y : System) → Lawful y → (i : ℕ) → i < y.tasks → (some other : ℕ → Bool) → ((k : ℕ) → k < y.tasks → some k ≡ other k) → y.work i some ≡ y.work i other
work_same y l i h some other same = omega (arith, l.work_grows i h some other (λ k j e. sym (same k j) ∙ e), l.work_grows i h other some (λ k j e. same k j ∙ e))

-- The marked tasks are covered, and were released no later than the others.
pub record InOrder (y : System) (rel res : Table) (marks : List Bool) : Type 0 where
  pub rising : Rising y rel res
  pub covered : (k : ℕ) → k < y.tasks → marked marks k ≡ true → worst y rel res k (res k) ≤ res k
  pub order : (k j : ℕ) → k < y.tasks → j < y.tasks → marked marks k ≡ true → marked marks j ≡ false → rel k ≤ rel j

module _ (y : System) (l : Lawful y) (rel : Table) where
  -- The times without meetings are a start,
  pub rising_alone : (res : Table) → Same y res (alone y) → Rising y rel res
  rising_alone res same = record {
    below = λ best g i h. omega (arith, same i h, alone_below y l rel best g i h);
    positive = λ k h. omega (arith, same k h, l.work_positive k h (λ _. false));
  }

  -- and a response may be raised to what its task takes at worst.
  pub rising_raised : (res new : Table) (i : ℕ) → i < y.tasks → Rising y rel res → new i ≡ worst y rel res i (res i) → ((k : ℕ) → k ≢ i → new k ≡ res k) → Rising y rel new
  rising_raised res new i h r here others = record {
    below = raised_below y l rel res new i h r.below here others;
    positive = λ k j. elim (cases_eq k i) [
      | inl e ↦ omega (arith, ap new e, worst_positive y l rel res i (res i) h)
      | inr d ↦ omega (arith, others k d, r.positive k j)
    ];
  }

  pub in_order_none : (res : Table) (marks : List Bool) → Rising y rel res → ((k : ℕ) → marked marks k ≡ false) → InOrder y rel res marks
  in_order_none res marks r none = record {
    rising = r;
    covered = λ k h m. absurd (both_ways (marked marks k) (none k) m);
    order = λ k j h i m. absurd (both_ways (marked marks k) (none k) m);
  }

  -- The next task in the order is settled; the others stay so, since none of them is released after it.
  pub in_order_more : (old new : Table) (marks : List Bool) (i : ℕ) → i < length marks → FirstOpen marks rel y.tasks i → Settled y rel old new i → InOrder y rel old marks → InOrder y rel new (set marks i true)
  in_order_more old new marks i inside f s o = record { rising = s.rising; covered = covered; order = order }
    where
      here : marked (set marks i true) i ≡ true
      here = get_or-set_same marks i true false inside

      there : (k : ℕ) → k ≢ i → marked (set marks i true) k ≡ marked marks k
      there k d = get_or-set_other marks i k true false d

      covered : (k : ℕ) → k < y.tasks → marked (set marks i true) k ≡ true → worst y rel new k (new k) ≤ new k
      covered k h m =
          elim (cases_eq k i) [
            | inl e ↦ subst (λ x. worst y rel new x (new x) ≤ new x) (sym e) s.covered
            | inr d ↦
                let was : marked marks k ≡ true = sym (there k d) ∙ m in
                let first = o.order k i h f.task was f.unmarked in
                let same = worst_earlier y l rel old new (λ j q. (o.rising.positive j q, s.rising.positive j q)) k (old k) h (λ j q b. sym (s.others j (λ e. omega (arith, ap rel e)))) in
                subst (λ x. worst y rel new k x ≤ x) (sym (s.others k d)) (omega (arith, o.covered k h was))
          ]

      order : (k j : ℕ) → k < y.tasks → j < y.tasks → marked (set marks i true) k ≡ true → marked (set marks i true) j ≡ false → rel k ≤ rel j
      order k j h q m n =
          let other : j ≢ i = λ e. both_ways (marked (set marks i true) i) (subst (λ x. marked (set marks i true) x ≡ false) e n) here in
          let unmarked_still : marked marks j ≡ false = sym (there j other) ∙ n in
          elim (cases_eq k i) [
            | inl e ↦ omega (arith, ap rel e, f.earliest j q unmarked_still)
            | inr d ↦ o.order k j h q (sym (there k d) ∙ m) unmarked_still
          ]

  pub in_order_all : (res : Table) (marks : List Bool) → ((k : ℕ) → k < y.tasks → marked marks k ≡ true) → InOrder y rel res marks → SmallestResponses y rel res
  in_order_all res marks all o = smallest_from_below y l rel res o.rising.below (λ k h. o.covered k h (all k h))

-- How many of the first n tasks are not marked.
abbrev pub unmarked : List Bool → ℕ → ℕ
unmarked marks n = count (λ k. not (marked marks k)) n

pub unmarked_less : (marks : List Bool) (n i : ℕ) → i < length marks → i < n → marked marks i ≡ false → unmarked (set marks i true) n < unmarked marks n
unmarked_less marks n i inside h free =
    count_more (λ k. not (marked (set marks i true) k)) (λ k. not (marked marks k)) n
    (λ k q e. elim (cases_eq k i) [
      | inl same ↦ absurd (true≢false (sym e ∙ ap (λ x. not (marked (set marks i true) x)) same ∙ ap not (get_or-set_same marks i true false inside)))
      | inr d ↦ ap not (sym (get_or-set_other marks i k true false d)) ∙ e
    ])
    i h (not_from_true (marked (set marks i true) i) (get_or-set_same marks i true false inside)) (not_from_false (marked marks i) free)

-- Meetings while the response of task i grows.
module _ (rows : List Row) (rel : Table) (i : ℕ) where
  -- No task meets itself.
  pub not_itself : (res : Table) (r : ℕ) → meet rows rel res i r i ≡ false
  not_itself res r = ap (λ b. not b && (ltb (rel i) (finish rel res i) && ltb (rel i) (rel i + r))) (eq-eqb (row rows i).place (row rows i).place refl)

  -- Who was met is met still.
  pub still_met : (old new : Table) (t : Meetings) → MetAll rows rel old i t → ((k : ℕ) → k ≢ i → new k ≡ old k) → old i ≤ new i → MetInPart rows rel new i t
  still_met old new t m others up = record { loaded = m.loaded; right = right }
    where
      right : (k : ℕ) → k < length rows → marked t.met k ≡ true → meet rows rel new i (new i) k ≡ true
      right k h e =
          let was : meet rows rel old i (old i) k ≡ true = sym (m.exact k h) ∙ e in
          let other : k ≢ i = λ q. both_ways (meet rows rel old i (old i) i) (not_itself old (old i)) (subst (λ x. meet rows rel old i (old i) x ≡ true) q was) in
          let p = and_parts (not (eqb (row rows i).place (row rows k).place)) (ltb (rel i) (finish rel old k) && ltb (rel k) (rel i + old i)) was in
          let q = and_parts (ltb (rel i) (finish rel old k)) (ltb (rel k) (rel i + old i)) p.1 in
          and_from (not (eqb (row rows i).place (row rows k).place)) (ltb (rel i) (finish rel new k) && ltb (rel k) (rel i + new i)) p.0
          (and_from (ltb (rel i) (finish rel new k)) (ltb (rel k) (rel i + new i))
          (lt-ltb (rel i) (finish rel new k) (omega (arith, others k other, ltb-true (rel i) (finish rel old k) q.0)))
          (lt-ltb (rel k) (rel i + new i) (omega (arith, ltb-true (rel k) (rel i + old i) q.1))))

  -- One row further: task k is added, or is marked already exactly if it is met.
  module _ (res : Table) (t : Meetings) (k : ℕ) (h : MetInPart rows rel res i t) (exact : (j : ℕ) → j < k → marked t.met j ≡ meet rows rel res i (res i) j) where
    pub met_added : (t' : Meetings) → k < length t.met → t'.met ≡ set t.met k true → Loaded rows t' → meet rows rel res i (res i) k ≡ true → MetInPart rows rel res i t' × ((j : ℕ) → j < k + 1 → marked t'.met j ≡ meet rows rel res i (res i) j)
    met_added t' inside e loaded met = (record { loaded = loaded; right = right }, all)
      where
        here : marked t'.met k ≡ true
        here = ap (λ xs. marked xs k) e ∙ get_or-set_same t.met k true false inside

        there : (j : ℕ) → j ≢ k → marked t'.met j ≡ marked t.met j
        there j d = ap (λ xs. marked xs j) e ∙ get_or-set_other t.met k j true false d

        right : (j : ℕ) → j < length rows → marked t'.met j ≡ true → meet rows rel res i (res i) j ≡ true
        right j l m = elim (cases_eq j k) [ inl q ↦ ap (meet rows rel res i (res i)) q ∙ met | inr d ↦ h.right j l (sym (there j d) ∙ m) ]

        all : (j : ℕ) → j < k + 1 → marked t'.met j ≡ meet rows rel res i (res i) j
        all j l =
            elim (cases_eq j k) [
              | inl q ↦ ap (marked t'.met) q ∙ here ∙ sym (ap (meet rows rel res i (res i)) q ∙ met)
              | inr d ↦ there j d ∙ exact j (omega arith)
            ]

    pub met_kept : marked t.met k ≡ meet rows rel res i (res i) k → MetInPart rows rel res i t × ((j : ℕ) → j < k + 1 → marked t.met j ≡ meet rows rel res i (res i) j)
    met_kept e = (
      h,
      λ j l. elim (cases_eq j k) [ inl q ↦ ap (marked t.met) q ∙ e ∙ sym (ap (meet rows rel res i (res i)) q) | inr d ↦ exact j (omega arith) ],
    )
