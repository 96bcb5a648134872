-- What was told, after a call that was refused.
use Rattle.std.proofs.Common.{◌≡◌, ◌≢◌, ◌⊎◌, ◌≤◌, inl, inr, ℕ, List, Option, refl, sym, subst, arith}
use Rattle.scp_line.specs.scp_types.specs.declared.fault.Fault.{Fault}
use Rattle.scp_line.specs.scp_types.specs.declared.fault.Fault.TheVariants.{NoMemory, Malformed, TooLong, Insane, Full, NotOpen, AlreadyOpen, LivesSpent, BadConfig, Failed, JournalFull, BadScript, Refused, Device}
use Rattle.scp_line.specs.scp_device.specs.Device.{Gains, Fails}
use Rattle.scp_line.specs.declared.playing.PlayFault.{PlayFault}
use Rattle.std.specs.Prelude.{Result, Ok, Err, OnOk, OnErr, IfSome, length, ◌<◌}
use Rattle.scp_line.specs.scp_types.specs.declared.limits.TheConstants.{SCRIPT_LIMIT}
use Rattle.scp_line.specs.scp_script.specs.Script.{IsScript, IsBadLine, commands_in}
use Rattle.scp_line.specs.Outcome.{status_of, IsCheckFault, IsPlayFault}
use Rattle.scp_line.specs.Play.{IsNamed, Stops, Overflows}
use Rattle.scp_line.specs.Threads.{IsThreadsFault, IsOfTheNodes, AreGivenUp}
use Rattle.scp_line.specs.scp_types.specs.declared.fault.Stage.{Stage}
use Rattle.scp_line_cli.specs.inside.Serving.{IsWritten, IsTold, IsUnplayed, IsUnplayedInThreads}

pub status_is : (fault : Fault) → (status_of fault ≡ 1) ⊎ (status_of fault ≡ 3)
status_is NoMemory = inr refl
status_is (Malformed place) = inl refl
status_is TooLong = inl refl
status_is Insane = inr refl
status_is Full = inr refl
status_is NotOpen = inr refl
status_is AlreadyOpen = inr refl
status_is LivesSpent = inr refl
status_is BadConfig = inr refl
status_is Failed = inr refl
status_is JournalFull = inr refl
status_is (BadScript line) = inl refl
status_is (Refused stage) = inr refl
status_is Device = inr refl

pub some_status : (fault : Fault) → 1 ≤ status_of fault
some_status fault = elim (status_is fault) [ inl e ↦ omega (arith, e) | inr e ↦ omega (arith, e) ]

pub few_status : (fault : Fault) → status_of fault ≤ 3
few_status fault = elim (status_is fault) [ inl e ↦ omega (arith, e) | inr e ↦ omega (arith, e) ]

pub no_usage : (fault : Fault) → status_of fault ≢ 2
no_usage fault two = elim (status_is fault) [ inl e ↦ omega (arith, e, two) | inr e ↦ omega (arith, e, two) ]

more_fails : (a b c : ℕ) → Fails a b → Fails b c → Fails a c
more_fails a b c p q = (omega (arith, p.0, q.0), λ h. omega (arith, p.1 h, q.0))

-- a call that was refused wrote nothing or its writer failed, and then its fault was told
pub told_after : {W : Type 0} (written : W → Option (List ℕ)) (failures : W → ℕ) (old mid new : W) (fault : PlayFault)
    → (mid ≡ old) ⊎ Fails (failures old) (failures mid) → IsTold written failures mid fault new → IsTold written failures old fault new
told_after {W} written failures old mid new fault (inl same) told = subst (λ (w : W). IsTold written failures w fault new) same told
told_after written failures old mid new fault (inr failed) (inl line) = inr (subst (λ (n : ℕ). Fails (failures old) n) (sym line.1) failed)
told_after written failures old mid new fault (inr failed) (inr again) = inr (more_fails (failures old) (failures mid) (failures new) failed again)

-- a line was written whole, or the writer failed
pub told_by : {W : Type 0} (written : W → Option (List ℕ)) (failures : W → ℕ) (old new : W) (text : List ℕ) (r : Result (Unit {0}) Fault)
    → OnOk r (Gains (written old) text (written new)) → OnOk r (failures new ≡ failures old) → OnErr r (Fails (failures old) (failures new)) → IsWritten written failures old text new
told_by written failures old new text (Ok done) whole kept raised = inl (whole, kept)
told_by written failures old new text (Err fault) whole kept raised = inr raised

-- ---- why a script wasn't played or found to be one

abbrev pub IsTooLong : Option (List ℕ) → Type 0
IsTooLong left = IfSome left (λ all. SCRIPT_LIMIT < length all)

abbrev pub IsBadAt : Option (List ℕ) → ℕ → Type 0
IsBadAt left line = IfSome left (λ all. (length all ≤ SCRIPT_LIMIT) × IsBadLine all line)

abbrev pub IsStoppedAt : Option (List ℕ) → ℕ → Type 0
IsStoppedAt left node = IfSome left (λ all. (length all ≤ SCRIPT_LIMIT) × IsScript all × Stops (commands_in all) node)

abbrev pub IsOverfull : Option (List ℕ) → Type 0
IsOverfull left = IfSome left (λ all. (length all ≤ SCRIPT_LIMIT) × IsScript all × Overflows (commands_in all))

pub unplayed : (left : Option (List ℕ)) (fault : PlayFault) → IsPlayFault fault.fault → IsNamed fault.node fault.fault → (fault.fault ≡ TooLong → IsTooLong left)
    → ((line : ℕ) → fault.fault ≡ BadScript line → IsBadAt left line) → (fault.fault ≡ Failed → IsStoppedAt left fault.node) → (fault.fault ≡ Full → IsOverfull left) → IsUnplayed left fault
unplayed left fault cause named too_long line stops full = record { cause = cause; named = named; too_long = too_long; line = line; stops = stops; full = full }

abbrev pub IsOfScript : Option (List ℕ) → Type 0
IsOfScript left = IfSome left (λ all. (length all ≤ SCRIPT_LIMIT) × IsScript all)

pub unplayed_in_threads : (left : Option (List ℕ)) (fault : PlayFault) → IsThreadsFault fault.fault → IsNamed fault.node fault.fault → (fault.fault ≡ TooLong → IsTooLong left)
    → ((line : ℕ) → fault.fault ≡ BadScript line → IsBadAt left line) → ((stage : Stage) → fault.fault ≡ Refused stage → IsOfScript left) → (fault.fault ≡ Full → IsOfScript left) → (IsOfTheNodes fault.fault → IfSome left (λ all. AreGivenUp all fault.node fault.fault)) → IsUnplayedInThreads left fault
unplayed_in_threads left fault cause named too_long line stage full given_up = record { cause = cause; named = named; too_long = too_long; line = line; stage = stage; full = full; given_up = given_up }

plays : (fault : Fault) → IsCheckFault fault → IsPlayFault fault
plays NoMemory h = tt
plays TooLong h = tt
plays Device h = tt
plays (BadScript line) h = tt
plays (Malformed place) h = absurd h
plays Insane h = absurd h
plays Full h = absurd h
plays NotOpen h = absurd h
plays AlreadyOpen h = absurd h
plays LivesSpent h = absurd h
plays BadConfig h = absurd h
plays Failed h = absurd h
plays JournalFull h = absurd h
plays (Refused stage) h = absurd h

unnamed : (node : ℕ) (fault : Fault) → IsCheckFault fault → node ≡ 0 → IsNamed node fault
unnamed node NoMemory h e = e
unnamed node TooLong h e = e
unnamed node Device h e = e
unnamed node (BadScript line) h e = e
unnamed node (Malformed place) h e = absurd h
unnamed node Insane h e = absurd h
unnamed node Full h e = absurd h
unnamed node NotOpen h e = absurd h
unnamed node AlreadyOpen h e = absurd h
unnamed node LivesSpent h e = absurd h
unnamed node BadConfig h e = absurd h
unnamed node Failed h e = absurd h
unnamed node JournalFull h e = absurd h
unnamed node (Refused stage) h e = absurd h

pub unchecked : (left : Option (List ℕ)) (fault : PlayFault) → IsCheckFault fault.fault → fault.node ≡ 0 → (fault.fault ≡ TooLong → IsTooLong left)
    → ((line : ℕ) → fault.fault ≡ BadScript line → IsBadAt left line) → IsUnplayed left fault
unchecked left fault cause zero too_long line = record {
  cause = plays fault.fault cause;
  named = unnamed fault.node fault.fault cause zero;
  too_long = too_long;
  line = line;
  stops = λ e. absurd (subst (λ (f : Fault). IsCheckFault f) e cause);
  full = λ e. absurd (subst (λ (f : Fault). IsCheckFault f) e cause);
}
