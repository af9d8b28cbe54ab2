-- What a rule is asked, the two laws that every rule keeps, and the verdicts of the three rules. Assumes nothing.
use Rattle.std.specs.Prelude.{◌≡◌, ℕ, ◌<◌, Bool, true, false, cond, ◌&&◌, ◌||◌, ◌⊎◌, ◌≢◌, nat_lt}
use Rattle.rule.specs.declared.Contact.{Contact}
use Rattle.rule.specs.declared.Side.{Side}
use Rattle.rule.specs.declared.Event.{Event}
use Rattle.rule.specs.declared.Event.TheVariants.{Read, Write, Close}
use Rattle.rule.specs.declared.Verdict.{Verdict}
use Rattle.rule.specs.declared.Verdict.TheVariants.{BothStand, CallerYields, OtherYields}

-- ---- contacts

abbrev pub touched : Side → Bool
touched s = s.read || s.written

-- Does the side include the request? At a read it has read the cell, at a write it has written it, at a close it has
-- touched it.
abbrev pub includes : Event → Side → Bool
includes Read s = s.read
includes Write s = s.written
includes Close s = touched s

-- A contact as an engine makes it: the caller's side includes the request, and two different clients meet, both with
-- numbers from 0 to 7.
pub record Proper (k : Contact) : Type 0 where
  pub requested : includes k.event k.caller ≡ true
  pub apart : k.caller.client ≡ k.other.client → ⊥
  pub caller_below : k.caller.client < 8
  pub other_below : k.other.client < 8

-- The caller has written the cell, and the other has read it.
abbrev pub invalidates : Contact → Bool
invalidates k = k.caller.written && k.other.read

-- The caller closes, having written what the other has read.
abbrev pub closes_over_a_reader : Contact → Bool
closes_over_a_reader k = elim k.event [ Read ↦ false | Write ↦ false | Close ↦ invalidates k ]

-- ---- the laws

-- Both have touched the cell, and at least one has written it.
abbrev pub Conflict : Contact → Type 0
Conflict k = (touched k.caller ≡ true) × (touched k.other ≡ true) × ((k.caller.written ≡ true) ⊎ (k.other.written ≡ true))

-- The law of enough: at a close, where the caller has written the cell and the other has read it, somebody yields.
abbrev pub Enough : (Contact → Verdict) → Type 0
Enough v = (k : Contact) → Proper k → k.event ≡ Close → k.caller.written ≡ true → k.other.read ≡ true → v k ≢ BothStand

-- The law of cause: somebody yields only where there is a conflict.
abbrev pub OnlyForCause : (Contact → Verdict) → Type 0
OnlyForCause v = (k : Contact) → Proper k → (v k ≢ BothStand) → Conflict k

pub record Lawful (v : Contact → Verdict) : Type 0 where
  pub enough : Enough v
  pub cause : OnlyForCause v

-- ---- the three rules

abbrev pub closer_wins : Contact → Verdict
closer_wins k = elim k.event [ Read ↦ BothStand | Write ↦ BothStand | Close ↦ cond (invalidates k) OtherYields BothStand ]

abbrev pub newcomer_yields : Contact → Verdict
newcomer_yields k = elim k.event [ Read ↦ cond k.other.written CallerYields BothStand | Write ↦ cond (touched k.other) CallerYields BothStand | Close ↦ cond (invalidates k) CallerYields BothStand ]

-- The smaller opening number stands; the caller yields if they are equal.
abbrev pub elder_verdict : ℕ → ℕ → Verdict
elder_verdict caller other = cond (nat_lt caller other) OtherYields CallerYields

abbrev pub oldest_stands : Contact → Verdict
oldest_stands k = elim k.event [ Read ↦ BothStand | Write ↦ BothStand | Close ↦ cond (invalidates k) (elder_verdict k.caller.number k.other.number) BothStand ]
