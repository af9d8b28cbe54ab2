-- What every run of the step machine keeps, and what one more call keeps of it. Assumes nothing.
use Rattle.std.specs.Prelude.{ℕ, List, [], ◌∷◌, length}
use Rattle.rule.specs.Verdicts.{Lawful}
use Rattle.rule.specs.declared.Contact.{Contact}
use Rattle.rule.specs.declared.Verdict.{Verdict}
use Rattle.machine.specs.Machine.{State, fresh, Call, Answer, step}
use Rattle.machine.specs.Log.{Exchange, and_then, account_of}
use Rattle.machine.specs.Runs.{Steps, Leads, run, SerialCommits, ConsistentReads, CausedYields, Changes}
use Rattle.machine.specs.States.{Sound, CountsOf, SameTransactions, AccountWithin, IfDeclined}

-- Under every lawful rule, every log that leads a new engine to a state has P.
abbrev pub OfEveryRun : ((Contact → Verdict) → Steps → List ℕ → List Exchange → State → Type 0) → Type 0
OfEveryRun P = (v : Contact → Verdict) → Lawful v → (start : List ℕ) (log : List Exchange) (s : State) → Leads (step v) start log s → P v (step v) start log s

abbrev pub CommitsAreSerial : Type 0
CommitsAreSerial = OfEveryRun (λ v m start log s. SerialCommits start log s)

abbrev pub ReadsAreConsistent : Type 0
ReadsAreConsistent = OfEveryRun (λ v m start log s. ConsistentReads start log)

abbrev pub YieldsAreCaused : Type 0
YieldsAreCaused = OfEveryRun (λ v m start log s. CausedYields v m start log s)

-- the counts, the clients, the tables and the transactions held
abbrev pub StatesAreSound : Type 0
StatesAreSound = OfEveryRun (λ v m start log s. Sound start s × CountsOf log s × SameTransactions s (account_of log) × AccountWithin (length start) (account_of log))

-- at the next call each client changes in one of the listed ways
abbrev pub NoOtherChanges : Type 0
NoOtherChanges = OfEveryRun (λ v m start log s. (k : Call) → Changes v s (account_of log) k (m s k).0 (m s k).1)

-- All that a run of the machine m keeps under the rule v.
pub record WellRun (v : Contact → Verdict) (m : Steps) (start : List ℕ) (log : List Exchange) (s : State) : Type 0 where
  pub leads : Leads m start log s
  pub serial_commits : SerialCommits start log s
  pub consistent_reads : ConsistentReads start log
  pub caused_yields : CausedYields v m start log s
  pub sound : Sound start s
  pub counts : CountsOf log s
  pub same_transactions : SameTransactions s (account_of log)
  pub account_within : AccountWithin (length start) (account_of log)

-- The log led to s, where the call k is answered r and leaves t: what is kept under the rule v.
pub record Kept (v : Contact → Verdict) (m : Steps) (start : List ℕ) (log : List Exchange) (s : State) (k : Call) (r : Answer) (t : State) : Type 0 where
  pub well_run : WellRun v m start (and_then log k r) t
  pub changes : Changes v s (account_of log) k r t
  pub if_declined : IfDeclined s k r t

abbrev pub EveryCallKeeps : Type 0
EveryCallKeeps = OfEveryRun (λ v m start log s. (k : Call) → Kept v m start log s k (m s k).0 (m s k).1)

-- the empty log leads to a new engine
abbrev pub NewEngineKeeps : Type 0
NewEngineKeeps = (v : Contact → Verdict) → Lawful v → (start : List ℕ) → WellRun v (step v) start [] (fresh start)

-- calls with their answers
abbrev pub log_of : List Call → List Answer → List Exchange
log_of [] rs = []
log_of (k ∷ ks) [] = []
log_of (k ∷ ks) (r ∷ rs) = record { call = k; answer = r } ∷ log_of ks rs

-- A list of calls gives a log, which leads to the state after them.
abbrev pub ListsOfCallsLead : Type 0
ListsOfCallsLead = (m : Steps) (start : List ℕ) (calls : List Call) → Leads m start (log_of calls (run m (fresh start) calls).0) (run m (fresh start) calls).1
