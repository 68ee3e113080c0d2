-- What is kept of each task at work: its past at each bank, and how its time was spent.
use Rattle.std.proofs.Common.{◌≡◌, ℕ, ◌+◌, ◌-◌, ◌*◌, ◌<◌, ◌≤◌, Bool, true, false, cond, ◌&&◌, eqb, ◌≢◌, List, ◌++◌, Option, sym, ap, arith}
use Rattle.arbiter.specs.Counts.{sum_below}
use Rattle.arbiter.specs.Events.{Event, Trace, delay, posts}
use Rattle.arbiter.specs.Laws.{Start, accesses}
use Rattle.arbiter.specs.Meaning.{Keeps}
use Rattle.arbiter.proofs.Sums.{sum_below_le}
use Rattle.arbiter.proofs.Traces.{delay_append, posts_append, trace_append}
use Rattle.cluster.specs.declared.service.Service.{Service}
use Rattle.cluster.specs.declared.stage.Stage.{Stage}
use Rattle.cluster.specs.declared.stage.Stage.TheVariants.{Ahead, AtWork, Done}
use Rattle.safety.proofs.Setting.{Setting, banks, cycles, demand, first, gone, home, latency, met_by, release, rows}
use Rattle.safety.proofs.Standing.{cycles_of, left_of, served, stands_at}
use Rattle.safety.proofs.Sums.{cond_le, sum_below_plus}
use Rattle.safety.proofs.Views.{View}

-- Of a task at a bank: the arbiter and whom it served when the task started, and the events since.
pub record Past (A : Type 0) : Type 0 where
  pub from : A
  pub amid : Option ℕ
  pub seen : List Event

abbrev pub longer : {A : Type 0} → Past A → List Event → Past A
longer x es = record { from = x.from; amid = x.amid; seen = x.seen ++ es }

-- The accesses that a task has used, of its demand and with these left. A task that is done has used what it had.
abbrev pub used_by : Stage → ℕ → ℕ → ℕ
used_by Ahead all left = 0
used_by AtWork all left = all - left
used_by Done all left = all

pub used_by_less : (x : Stage) (all left less : ℕ) → less ≤ left → used_by x all left ≤ used_by x all less
used_by_less Ahead all left less h = omega arith
used_by_less AtWork all left less h = omega arith
used_by_less Done all left less h = omega arith

pub used_by_all : (x : Stage) (all left : ℕ) → used_by x all left ≤ all
used_by_all Ahead all left = omega arith
used_by_all AtWork all left = omega arith
used_by_all Done all left = omega arith

module _ {A : Type 0} (c : Setting A) where
  -- The accesses of task k to bank b so far.
  abbrev pub used : View A → ℕ → ℕ → ℕ
  used v k b = used_by (v.stage k) (demand c k b) (left_of (v.place (home c k)) b)

  -- Is k a task at place o that task t meets?
  abbrev pub counts : ℕ → ℕ → ℕ → Bool
  counts t o k = eqb (home c k) o && met_by c t k

  -- The accesses so far to bank b of the tasks at place o that task t meets.
  abbrev pub met : View A → ℕ → ℕ → ℕ → ℕ
  met v t b o = sum_below (rows c) (λ k. cond (counts t o k) (used v k b) 0)

  -- What is known of task t and bank b, with arbiter a, whom the bank serves, the accesses left to t, and the others' accesses.
  pub record Watched (a : A) (u : Option ℕ) (left : ℕ) (others : ℕ → ℕ) (x : Past A) (t b : ℕ) : Type 0 where
    pub trace : Trace c.model.posted c.model.picked x.from x.amid x.seen a u
    pub begins : Start c.model (home c t) x.from x.amid
    pub keeps : Keeps c.model (first c b) x.from
    pub own : posts (home c t) x.seen + left ≤ demand c t b
    pub all : (o : ℕ) → o ≢ home c t → accesses c.model x.from x.amid x.seen o ≤ others o

  abbrev pub WatchedAt : View A → Past A → ℕ → ℕ → Type 0
  WatchedAt v x t b = Watched (v.arbiter b) (served (v.service b)) (left_of (v.place (home c t)) b) (met v t b) x t b

  -- The cycles that task t spent at a bank: all of its delay, and what the present service has had if t stands there.
  abbrev pub spent : Bool → Option Service → Past A → ℕ → ℕ
  spent stands u x t = latency c * delay (home c t) false x.amid x.seen + cond stands (gone c u) 0

  abbrev pub spent_at : View A → (ℕ → Past A) → ℕ → ℕ → ℕ
  spent_at v x t b = spent (stands_at (v.place (home c t)) b) (v.service b) (x b) t

  -- All this of the tasks at work at clock n.
  pub record Paid (n : ℕ) (v : View A) (past : ℕ → ℕ → Past A) : Type 0 where
    pub watched : (t b : ℕ) → t < rows c → v.stage t ≡ AtWork → b < banks c → WatchedAt v (past t b) t b
    pub account : (t : ℕ) → t < rows c → v.stage t ≡ AtWork → n + cycles_of (v.place (home c t)) ≤ release c t + cycles c t + sum_below (banks c) (spent_at v (past t) t)

  pub met_le : (v w : View A) (t b o : ℕ) → ((k : ℕ) → k < rows c → used v k b ≤ used w k b) → met v t b o ≤ met w t b o
  met_le v w t b o h =
      sum_below_le (rows c) (λ k. cond (counts t o k) (used v k b) 0) (λ k. cond (counts t o k) (used w k b) 0)
      (λ k l. cond_le (counts t o k) (used v k b) (used w k b) (h k l))

  pub met_plus : (v w : View A) (t b o k more : ℕ) → k < rows c → ((i : ℕ) → used v i b ≤ used w i b) → counts t o k ≡ true → more + used v k b ≤ used w k b → more + met v t b o ≤ met w t b o
  met_plus v w t b o k more l h e grows =
      sum_below_plus (rows c) more (λ i. cond (counts t o i) (used v i b) 0) (λ i. cond (counts t o i) (used w i b) 0) k l
      (λ i. cond_le (counts t o i) (used v i b) (used w i b) (h i))
      (rw e grows)

  module _ (a : A) (u : Option ℕ) (left less : ℕ) (others more : ℕ → ℕ) (x : Past A) (t b : ℕ) where
    -- The same task with more counted of others.
    pub watched_on : Watched a u left others x t b → less ≤ left → ((o : ℕ) → o ≢ home c t → others o ≤ more o) → Watched a u less more x t b
    watched_on h own all = record { trace = h.trace; begins = h.begins; keeps = h.keeps; own = omega (arith, h.own); all = λ o ne. omega (arith, h.all o ne, all o ne) }

    -- More events.
    pub watched_grows : (z : A) (w : Option ℕ) (es : List Event) → Watched a u left others x t b → Trace c.model.posted c.model.picked a u es z w → posts (home c t) es + less ≤ left → ((o : ℕ) → o ≢ home c t → posts o es + others o ≤ more o) → Watched z w less more (longer x es) t b
    watched_grows z w es h r own all = record {
      trace = trace_append h.trace r;
      begins = h.begins;
      keeps = h.keeps;
      own = omega (arith, posts_append (home c t) x.seen es, h.own);
      all = λ o ne. omega (arith, posts_append o x.seen es, h.all o ne, all o ne);
    }

  -- What was spent, after more events.
  pub spent_grows : (a : A) (v : Option ℕ) (u w : Option Service) (stands then : Bool) (left : ℕ) (others : ℕ → ℕ) (x : Past A) (t b : ℕ) (es : List Event) → Watched a v left others x t b → cond stands (gone c u) 0 ≤ latency c * delay (home c t) (c.model.waiting a (home c t)) v es + cond then (gone c w) 0 → spent stands u x t ≤ spent then w (longer x es) t
  spent_grows a v u w stands then left others x t b es h le =
      let e = delay_append c.model c.laws.steps es (home c t) false (sym h.begins.idle) h.trace in
      omega (arith, ap (λ n. latency c * n) e, le)
