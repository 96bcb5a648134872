-- How a run ends that isn't served to its end.
use Rattle.std.proofs.Common.{◌≡◌, ℕ, Bool, true, List, [], sym, ap, subst, inl, inr, ⊎_elim}
use Rattle.std.specs.Prelude.{◌≢◌, ◌⊎◌, Result, Ok, Err, IfErr, IsErrOf}
use Rattle.scp_stand_node.specs.scp_types.specs.declared.fault.Fault.{Fault}
use Rattle.scp_stand_node.specs.scp_types.specs.declared.fault.Fault.TheVariants.{NoMemory, TooLong, BadConfig, JournalFull, Device}
use Rattle.scp_stand_node.specs.scp_core.specs.Config.{IsConfigOfMany}
use Rattle.scp_stand_node.specs.scp_core.specs.History.{Exchange}
use Rattle.scp_stand_node.specs.scp_core.specs.Kv.{TheoremGivesLedger, LedgerGivesHeadline}
use Rattle.scp_stand_node.specs.scp_turn.specs.Episode.{finds_full}
use Rattle.scp_batches.specs.scp_live_log.specs.declared.kept.Kept.{Kept}
use Rattle.scp_batches.specs.scp_live_log.specs.declared.kept.LogFault.{LogFault}
use Rattle.scp_batches.specs.scp_live_log.specs.declared.kept.LogFault.TheVariants.{Failed}
use Rattle.scp_batches.specs.scp_live_log.specs.declared.wanted.Wanted.{Wanted}
use Rattle.scp_live.specs.scp_live_config.specs.declared.settings.Settings.{Settings}
use Rattle.scp_live.specs.Live.{LiveView}
use Rattle.scp_live.specs.Beginning.{IsNew, config_in, digest_of, header_of}
use Rattle.scp_live.specs.Failing.{IsReported}
use Rattle.scp_live.proofs.Going.{Heard}
use Rattle.scp_live_process.specs.Ending.{Streams, writing, Reports, HasFailed, NoneFailed, IsServeFault, StopsBy, IsReportedAs, Stops}

-- the four ways in which a node isn't served to the end
pub serve_fault : {T : Type 0} (old new : Streams) (disk disk' : ℕ) (heard : List Exchange) (f : Fault)
    → (IsErrOf {T = T} (Err f) Device → HasFailed old new disk disk') → (f ≢ Device → NoneFailed old new disk disk') → (IsErrOf {T = T} (Err f) JournalFull → finds_full heard ≡ true)
    → (f ≡ NoMemory) ⊎ ((f ≡ JournalFull) ⊎ ((f ≡ TooLong) ⊎ (f ≡ Device))) → IsServeFault old new disk disk' heard f
serve_fault {T} old new disk disk' heard f device quiet full only =
    let Is : Fault → Type 0 = λ g. IsServeFault old new disk disk' heard g in
    let err : (g : Fault) → f ≡ g → IsErrOf {T = T} (Err f) g = λ g e. ap (λ (h : Fault). Err h) e in
    ⊎_elim
    (λ (e : f ≡ NoMemory). subst Is (sym e) (quiet (λ d. cc)))
    (λ (more : (f ≡ JournalFull) ⊎ ((f ≡ TooLong) ⊎ (f ≡ Device))).
    ⊎_elim
    (λ (e : f ≡ JournalFull). subst Is (sym e) (full (err JournalFull e)))
    (λ (more : (f ≡ TooLong) ⊎ (f ≡ Device)).
    ⊎_elim
    (λ (e : f ≡ TooLong). subst Is (sym e) (quiet (λ d. cc)))
    (λ (e : f ≡ Device). subst Is (sym e) (device (err Device e)))
    more)
    more)
    only

-- why no node is made
pub unmade : (settings : Settings) (f : Fault) → (f ≡ NoMemory) ⊎ ((f ≡ BadConfig) × ¬ (IsConfigOfMany (config_in settings))) → (Failed f ≡ Failed NoMemory) ⊎ ((Failed f ≡ Failed BadConfig) × ¬ (IsConfigOfMany (config_in settings)))
unmade settings f only =
    ⊎_elim
    (λ (e : f ≡ NoMemory). inl (ap (λ (x : Fault). Failed x) e))
    (λ (bad : (f ≡ BadConfig) × ¬ (IsConfigOfMany (config_in settings))). inr (ap (λ (x : Fault). Failed x) bad.0, bad.1))
    only

-- what stopped from a new node holds its ledger and its headline
pub stops_as : {L : Type 0} {wanted : Wanted} (holds may_leave : L → List ℕ → Type 0) (faults : L → ℕ) (moved : L → Bool) (cause fault : LogFault) (settings : Settings) (before after' : Streams) (log : L) (u v : LiveView) (empty kept : Kept L) (header : List ℕ) → header ≡ header_of (digest_of settings) → IsNew settings u → empty.log ≡ log → TheoremGivesLedger → LedgerGivesHeadline
    → IsReportedAs (moved kept.log) cause fault
    → Heard u.node v.node (λ heard. StopsBy holds may_leave faults wanted header before after' empty kept u heard v cause)
    → Stops holds may_leave faults moved wanted settings before after' log fault
stops_as {L} {wanted} holds may_leave faults moved cause fault settings before after' log u v empty kept header is new on ledger headline told g =
    let theorem = g.theorem [] new.theorem in
    let holds_ledger = ledger g.heard v.node theorem in
    inr (record {
      begun = u;
      is_new = new;
      empty = empty;
      on_log = on;
      kept = kept;
      heard = g.heard;
      node = v;
      cause = cause;
      stops = subst (λ (h : List ℕ). StopsBy holds may_leave faults wanted h before after' empty kept u g.heard v cause) is g.is;
      told = told;
      theorem = theorem;
      ledger = holds_ledger;
      headline = headline g.heard v.node holds_ledger;
    })

-- what is reported of a configuration, where nothing was read
pub told_so : (line other : List ℕ) (status : ℕ) (old new : Streams) (result : ℕ) → new ≡ record old { written = new.written; writes_failed = new.writes_failed }
    → IsReported line status (writing old) (writing new) result ⊎ IsReported other 3 (writing old) (writing new) result → Reports line status old new result ⊎ Reports other 3 old new result
told_so line other status old new result same told =
    ⊎_elim
    (λ (l : IsReported line status (writing old) (writing new) result). inl (same, l))
    (λ (o : IsReported other 3 (writing old) (writing new) result). inr (same, o))
    told
