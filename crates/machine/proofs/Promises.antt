-- What every run keeps, and what one more call keeps of it. Assumes nothing.
use Rattle.std.proofs.Common.{ℕ, List, [], ◌∷◌, ◌++◌, get_or, Some, None, Option, sym, refl, subst, append_assoc, append-nil}
use Rattle.rule.specs.Verdicts.{Lawful}
use Rattle.rule.specs.declared.Contact.{Contact}
use Rattle.rule.specs.declared.Verdict.{Verdict}
use Rattle.machine.specs.Machine.{State, Standing, idle, open_with, marked, Call, step}
use Rattle.machine.specs.Log.{Exchange, Transaction, transaction_of, account_of}
use Rattle.machine.specs.Runs.{Steps, Leads, new, more, run}
use Rattle.machine.specs.States.{SameTransaction, SameTransactions}
use Rattle.machine.specs.Promises.{CommitsAreSerial, ReadsAreConsistent, YieldsAreCaused, StatesAreSound, NoOtherChanges, WellRun, EveryCallKeeps, NewEngineKeeps, log_of, ListsOfCallsLead}
use Rattle.machine.proofs.Sound.{sound}
use Rattle.machine.proofs.Counts.{counts}
use Rattle.machine.proofs.Ties.{Fits, tied}
use Rattle.machine.proofs.Within.{within}
use Rattle.machine.proofs.Serial.{serial}
use Rattle.machine.proofs.History.{consistent}
use Rattle.machine.proofs.Causes.{changes}
use Rattle.machine.proofs.Yields.{caused}
use Rattle.machine.proofs.Declined.{if_declined}

same_from : (cells : List ℕ) (st : Standing) (t : Option Transaction) → Fits cells st t → SameTransaction st t
same_from cells idle None h = refl
same_from cells idle (Some t) h = absurd h
same_from cells (open_with n es) None h = absurd h
same_from cells (open_with n es) (Some t) h = (t, refl, h.1, h.0.is_table)
same_from cells (marked w x) None h = absurd h
same_from cells (marked w x) (Some t) h = (t, refl)

same : (v : Contact → Verdict) → Lawful v → (start : List ℕ) {log : List Exchange} {s : State} → Leads (step v) start log s → SameTransactions s (account_of log)
same v law start {log = log} {s = s} r = let i = tied v law start r in
    record { of_each = λ c l. same_from s.cells (get_or s.clients c idle) (transaction_of (account_of log) c) (i.fits c); no_others = i.as_many }

well_run : (v : Contact → Verdict) → Lawful v → (start : List ℕ) {log : List Exchange} {s : State} → Leads (step v) start log s → WellRun v (step v) start log s
well_run v law start r = record {
  leads = r;
  serial_commits = serial v law start r;
  consistent_reads = consistent v law start r;
  caused_yields = caused v law start r;
  sound = sound v start r;
  counts = counts v start r;
  same_transactions = same v law start r;
  account_within = within v start r;
}

pub commits_are_serial_lem : CommitsAreSerial
commits_are_serial_lem v law start log s r = serial v law start r

pub reads_are_consistent_lem : ReadsAreConsistent
reads_are_consistent_lem v law start log s r = consistent v law start r

pub yields_are_caused_lem : YieldsAreCaused
yields_are_caused_lem v law start log s r = caused v law start r

pub states_are_sound_lem : StatesAreSound
states_are_sound_lem v law start log s r = (sound v start r, counts v start r, same v law start r, within v start r)

pub no_other_changes_lem : NoOtherChanges
no_other_changes_lem v law start log s r k = changes v law start r k

pub new_engine_keeps_lem : NewEngineKeeps
new_engine_keeps_lem v law start = well_run v law start new

pub every_call_keeps_lem : EveryCallKeeps
every_call_keeps_lem v law start log s r k = record { well_run = well_run v law start (more r k); changes = changes v law start r k; if_declined = if_declined v s k }

runs_from : (m : Steps) (start : List ℕ) (calls : List Call) {log : List Exchange} {s : State} → Leads m start log s → Leads m start (log ++ log_of calls (run m s calls).0) (run m s calls).1
runs_from m start [] {log = log} {s = s} r = subst (λ (z : List Exchange). Leads m start z s) (sym (append-nil log)) r
runs_from m start (k ∷ calls) {log = log} {s = s} r = subst (λ (z : List Exchange). Leads m start z (run m (m s k).1 calls).1) (append_assoc log _ _) (runs_from m start calls (more r k))

pub lists_of_calls_lead_lem : ListsOfCallsLead
lists_of_calls_lead_lem m start calls = runs_from m start calls new
