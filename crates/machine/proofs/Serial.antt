-- The committed transactions of a log, run alone one after another, read as they did and leave the cells. Assumes nothing.
use Rattle.std.proofs.Common.{◌≡◌, ℕ, List, [], ◌∷◌, ◌++◌, length, sym, refl, ap, ◌∙◌, subst, append-nil}
use Rattle.rule.specs.Verdicts.{Lawful}
use Rattle.rule.specs.declared.Contact.{Contact}
use Rattle.rule.specs.declared.Verdict.{Verdict}
use Rattle.machine.specs.Machine.{State, Call, caller_of, Answer, step}
use Rattle.machine.specs.Log.{Exchange, Operation, by_commit, EndedTransaction, Account, account_of, if_commit, commits_of, left_by, left_by_all}
use Rattle.machine.specs.Runs.{Leads, new, more, ReadsAlone, Leaves, Serially, SerialCommits}
use Rattle.machine.proofs.Turns.{Turn, none, begins, reads_on, writes_on, ends_commit, ends_cancel, ends_yield, turn, recorded_push}
use Rattle.machine.proofs.Ties.{Tied, commits_push, open_alone, tied}
use Rattle.machine.specs.States.{Within, AccountWithin}
use Rattle.machine.proofs.Within.{Grants, within_at, grants, within}
use Rattle.machine.proofs.Meaning.{left_all_long, leaves, reads_alone}

serially_push : (start middle : List ℕ) (ts : List (List Operation)) (t : List Operation) → Serially start ts middle → ReadsAlone t middle → Leaves t middle (left_by t middle) → Serially start (ts ++ (t ∷ [])) (left_by t middle)
serially_push start middle [] t h r l = (subst (ReadsAlone t) h r, subst (λ (z : List ℕ). Leaves t z (left_by t z)) h l, ap (left_by t) h)
serially_push start middle (u ∷ ts) t h r l = (h.0, h.1, serially_push (left_by u start) middle ts t h.2 r l)

serially_left : (start after : List ℕ) (ts : List (List Operation)) → Serially start ts after → after ≡ left_by_all ts start
serially_left start after [] h = h
serially_left start after (t ∷ ts) h = serially_left (left_by t start) after ts h.2

abbrev SerialAccount : List ℕ → Account → Type 0
SerialAccount start a = Serially start (commits_of a.ended) (left_by_all (commits_of a.ended) start)

serially_same : (start : List ℕ) (ts us : List (List Operation)) → ts ≡ us → Serially start us (left_by_all us start) → Serially start ts (left_by_all ts start)
serially_same start ts us e h = subst (λ (z : List (List Operation)). Serially start z (left_by_all z start)) (sym e) h

otherwise : (start : List ℕ) (es : List EndedTransaction) (e : EndedTransaction) → if_commit e.how e.transaction.operations [] ≡ [] → Serially start (commits_of es) (left_by_all (commits_of es) start)
    → Serially start (commits_of (es ++ (e ∷ []))) (left_by_all (commits_of (es ++ (e ∷ []))) start)
otherwise start es e n h = serially_same start _ (commits_of es) (commits_push es e ∙ ap (λ (z : List (List Operation)). commits_of es ++ z) n ∙ append-nil (commits_of es)) h

serial_turn : (start : List ℕ) (s u : State) {a b : Account} {k : Call} {r : Answer} → Turn a k r b → SerialAccount start a → Tied start s a → AccountWithin (length start) a → Grants (length start) s k r u → SerialAccount start b
serial_turn start s u none h i w g = h
serial_turn start s u begins h i w g = h
serial_turn start s u (reads_on t p) h i w g = h
serial_turn start s u (writes_on t p) h i w g = h
serial_turn start s u {a = a} (ends_commit {k = k} t p) h i w g =
    let inside : Within (length (left_by_all (commits_of a.ended) start)) t.operations = subst (λ (n : ℕ). Within n t.operations) (sym (left_all_long (commits_of a.ended) start)) (within_at (length start) a (caller_of k) t w p) in
    let all = serially_push start (left_by_all (commits_of a.ended) start) (commits_of a.ended) t.operations h (reads_alone t.operations _ inside (open_alone start s a (caller_of k) t i g p)) (leaves t.operations _ inside) in
    let one = serially_left start _ (commits_of a.ended ++ (t.operations ∷ [])) all in
    serially_same start _ (commits_of a.ended ++ (t.operations ∷ [])) (commits_push a.ended (record { client = caller_of k; transaction = t; how = by_commit })) (subst (Serially start (commits_of a.ended ++ (t.operations ∷ []))) one all)
serial_turn start s u {a = a} (ends_cancel t p) h i w g = otherwise start a.ended _ refl h
serial_turn start s u {a = a} (ends_yield t p) h i w g = otherwise start a.ended _ refl h

serial_account : (v : Contact → Verdict) → Lawful v → (start : List ℕ) {log : List Exchange} {s : State} → Leads (step v) start log s → SerialAccount start (account_of log)
serial_account v law start new = refl
serial_account v law start (more {log = log} {s = s} r k) = subst (SerialAccount start) (sym (recorded_push _ log _))
    (serial_turn start s (step v s k).1 (turn (account_of log) k (step v s k).0) (serial_account v law start r) (tied v law start r) (within v start r) (grants v start r k))

pub serial : (v : Contact → Verdict) → Lawful v → (start : List ℕ) {log : List Exchange} {s : State} → Leads (step v) start log s → SerialCommits start log s
serial v law start {log = log} r = subst (Serially start (commits_of (account_of log).ended)) (sym (tied v law start r).same) (serial_account v law start r)
