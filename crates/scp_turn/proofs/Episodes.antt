-- An episode is the event's step, and what follows.
use Rattle.std.proofs.Common.{◌≡◌, ◌≢◌, Bool, true, false, List, [], ◌∷◌, ◌++◌, refl, sym, ◌∙◌, ap, subst, append-nil}
use Rattle.std.specs.Prelude.{Result, Ok, Err, IfOk, OnOk, IsErrOf, ◌↔◌, None}
use Rattle.std.proofs.lemmas.Result.{on_ok_weaker}
use Rattle.std.proofs.lemmas.Grind.{flat_map-append}
use Rattle.scp_core.specs.scp_driver.specs.Driver.{Says}
use Rattle.scp_core.specs.scp_types.specs.declared.fault.Fault.{Fault}
use Rattle.scp_core.specs.scp_types.specs.declared.fault.Fault.TheVariants.{JournalFull, Failed}
use Rattle.scp_core.specs.declared.event.Event.{Event}
use Rattle.scp_core.specs.declared.event.Event.TheVariants as event
use Rattle.scp_core.specs.declared.event.Reply.{Reply}
use Rattle.scp_core.specs.declared.event.Reply.TheVariants as reply
use Rattle.scp_core.specs.History.{Exchange}
use Rattle.scp_core.specs.scp_wire.specs.declared.link.Bytes.{Bytes}
use Rattle.scp_core.specs.Node.{NodeView, SendsOut, Step, StepsSayWhy, TakesMemory}
use Rattle.scp_core.specs.Theorem.{LedgerTheorem}
use Rattle.scp_turn.specs.Turn.{Goes, Does, links_of}
use Rattle.scp_turn.specs.Watch.{Noting, Watched}
use Rattle.scp_turn.specs.Rest.{Rests}
use Rattle.scp_turn.specs.declared.playing.Played.{Played}
use Rattle.scp_turn.specs.inside.Cause.{cause_of}
use Rattle.scp_turn.specs.declared.sending.Sending.{Sending}
use Rattle.scp_turn.specs.Episode.{IsOfHost, IsEpisode, FollowsOn, drains_of, sent_by, sent_in, is_full_reply, finds_full}
use Rattle.scp_turn.specs.inside.Draining.{Drained, GoesDraws, GoesFollowed}
use Rattle.scp_turn.proofs.Going.{goes_nothing, goes_as, goes_then, watched_on}
use Rattle.scp_turn.proofs.GoingOn.{Saying, goes_one, watched_one}
use Rattle.scp_turn.proofs.Causes.{clash, fell, cause_told}
use Rattle.scp_turn.proofs.Quiet.{RestsWatched, rest_sends_none, host_sends_none}

module _ {D : Type 0} (says : Says D) where
  -- what follows of an event with this reply, with what was sent
  abbrev pub FollowedBy : Reply → List Sending → List Sending → Saying D
  FollowedBy r before after' o heard n = FollowsOn says r o heard n × (after' ≡ before ++ sent_in heard)

  followed : (calm : Bool) (a m b : NodeView D) (x y : List Exchange) (before after' : List Sending) → Does says m y b → Rests says calm a x m → Drained (drains_of m (links_of m)) before after' y → FollowedBy reply.Accepted before after' a (x ++ y) b
  followed calm a m b x y before after' does r d = (
    record { calm = calm; rested = m; turns = x; drains = y; split = refl; rests = r; does = does; all = d.events_are; sent = d.sent },
    d.added ∙ ap (λ (l : List Sending). before ++ l) (sym (flat_map-append (λ (e : Exchange). sent_by e.0 e.1) x y ∙ ap (λ (l : List Sending). l ++ sent_in y) (rest_sends_none says calm a m x r))),
  )

  -- what follows, as a watch was shown it
  abbrev pub Follow : {W : Type 0} → Noting D W → Result (Unit {0}) Fault → Reply → W → List Sending → List Sending → W → Saying D
  Follow {W} Note s r w before after' z o heard n = OnOk s (FollowsOn says r o heard n × (after' ≡ before ++ sent_in heard)) × Watched says Note 1 w o heard n z

  -- a step of the turns failed the node
  pub rests_and_fails : {W : Type 0} (Note : Noting D W) (f : Fault) (calm : Bool) (w z : W) (a b : NodeView D) (before after' : List Sending) → RestsWatched says Note (Rests says calm) w a b z → GoesFollowed says Note (Err f) reply.Accepted w a b before after' z
  rests_and_fails Note f calm w z a b before after' g =
      goes_as says a b (λ o heard n. Rests says calm o heard n × Watched says Note 1 w o heard n z) (Follow Note (Err f) reply.Accepted w before after' z)
      (λ heard does p. (tt, p.1)) g

  -- the node came to rest, and what waits went out, unless that was refused
  pub rests_and_drains : {W : Type 0} (Note : Noting D W) (r : Result (Unit {0}) Fault) (calm : Bool) (w v z : W) (a m b : NodeView D) (before after' : List Sending) → RestsWatched says Note (Rests says calm) w a m v → GoesDraws says Note r v m b (λ heard. Drained (drains_of m (links_of m)) before after' heard) z → GoesFollowed says Note r reply.Accepted w a b before after' z
  rests_and_drains Note r calm w v z a m b before after' f g =
      goes_then says a m b (λ o heard n. Rests says calm o heard n × Watched says Note 1 w o heard n v) (λ o heard n. OnOk r (Drained (drains_of m (links_of m)) before after' heard) × Watched says Note 1 v o heard n z) (Follow Note r reply.Accepted w before after' z)
      (λ x y dx dy p q. (on_ok_weaker r (followed calm a m b x y before after' dy p.0) q.0, watched_on says Note 1 w v z a m b x y p.1 q.1)) f g

  nothing_follows : (r : Reply) (v : NodeView D) → r ≢ reply.Accepted → FollowsOn says r v [] v
  nothing_follows reply.Accepted v other = absurd (other refl)
  nothing_follows reply.Moved v other = (refl, refl)
  nothing_follows (reply.Sent bytes) v other = (refl, refl)
  nothing_follows reply.Idle v other = (refl, refl)
  nothing_follows reply.Blocked v other = (refl, refl)
  nothing_follows reply.Full v other = (refl, refl)
  nothing_follows reply.NotOpen v other = (refl, refl)
  nothing_follows reply.AlreadyOpen v other = (refl, refl)
  nothing_follows reply.LivesSpent v other = (refl, refl)
  nothing_follows reply.NoLink v other = (refl, refl)
  nothing_follows reply.Failed v other = (refl, refl)
  nothing_follows reply.JournalFull v other = (refl, refl)
  nothing_follows reply.NoMemory v other = (refl, refl)

  -- nothing follows of an event that was refused
  pub none_follows : {W : Type 0} (Note : Noting D W) (r : Reply) (w : W) (v : NodeView D) (sent : List Sending) → r ≢ reply.Accepted → GoesFollowed says Note (Ok tt) r w v v sent sent w
  none_follows Note r w v sent other = goes_nothing says v (Follow Note (Ok tt) r w sent sent w) ((nothing_follows r v other, sym (append-nil sent)), (refl, refl))

  host_not_full : (v w : NodeView D) (e : Event) (r : Reply) → IsOfHost e → Step says v e r w → is_full_reply r ≡ false
  host_not_full v w e reply.Accepted h s = refl
  host_not_full v w e reply.Moved h s = refl
  host_not_full v w e (reply.Sent bytes) h s = refl
  host_not_full v w e reply.Idle h s = refl
  host_not_full v w e reply.Blocked h s = refl
  host_not_full v w e reply.Full h s = refl
  host_not_full v w e reply.NotOpen h s = refl
  host_not_full v w e reply.AlreadyOpen h s = refl
  host_not_full v w e reply.LivesSpent h s = refl
  host_not_full v w e reply.NoLink h s = refl
  host_not_full v w e reply.Failed h s = refl
  host_not_full v w e reply.NoMemory h s = refl
  host_not_full v w (event.Open l) reply.JournalFull h s = absurd s.1
  host_not_full v w (event.Send l bytes) reply.JournalFull h s = absurd s.1
  host_not_full v w (event.Close l) reply.JournalFull h s = absurd s.1
  host_not_full v w (event.Local command) reply.JournalFull h s = absurd s.1
  host_not_full v w (event.ReaderTake l) reply.JournalFull h s = absurd h
  host_not_full v w (event.ReaderPut l) reply.JournalFull h s = absurd h
  host_not_full v w event.PendTake reply.JournalFull h s = absurd h
  host_not_full v w event.PendPut reply.JournalFull h s = absurd h
  host_not_full v w event.SlotTake reply.JournalFull h s = absurd h
  host_not_full v w event.SlotPut reply.JournalFull h s = absurd h
  host_not_full v w event.ApplyTake reply.JournalFull h s = absurd h
  host_not_full v w (event.Drain l) reply.JournalFull h s = absurd h

  -- a node that ran runs after a host's event
  pub host_runs : (v w : NodeView D) (e : Event) (r : Reply) → IsOfHost e → v.failed ≡ false → Step says v e r w → w.failed ≡ false
  host_runs v w (event.Open l) reply.Accepted h run s = ap (λ (u : NodeView D). u.failed) s.1.2.3 ∙ run
  host_runs v w (event.Send l bytes) reply.Accepted h run s = ap (λ (u : NodeView D). u.failed) s.1.2.2 ∙ run
  host_runs v w (event.Close l) reply.Accepted h run s = ap (λ (u : NodeView D). u.failed) s.1.2.2 ∙ run
  host_runs v w (event.Local command) reply.Accepted h run s = ap (λ (u : NodeView D). u.failed) s.1.2 ∙ run
  host_runs v w (event.ReaderTake l) reply.Accepted h run s = absurd h
  host_runs v w (event.ReaderPut l) reply.Accepted h run s = absurd h
  host_runs v w event.PendTake reply.Accepted h run s = absurd h
  host_runs v w event.PendPut reply.Accepted h run s = absurd h
  host_runs v w event.SlotTake reply.Accepted h run s = absurd h
  host_runs v w event.SlotPut reply.Accepted h run s = absurd h
  host_runs v w event.ApplyTake reply.Accepted h run s = absurd h
  host_runs v w (event.Drain l) reply.Accepted h run s = absurd h
  host_runs v w (event.Open l) reply.Moved h run s = absurd s.1
  host_runs v w (event.Send l bytes) reply.Moved h run s = absurd s.1
  host_runs v w (event.Close l) reply.Moved h run s = absurd s.1
  host_runs v w (event.Local command) reply.Moved h run s = absurd s.1
  host_runs v w (event.ReaderTake l) reply.Moved h run s = absurd h
  host_runs v w (event.ReaderPut l) reply.Moved h run s = absurd h
  host_runs v w event.PendTake reply.Moved h run s = absurd h
  host_runs v w event.PendPut reply.Moved h run s = absurd h
  host_runs v w event.SlotTake reply.Moved h run s = absurd h
  host_runs v w event.SlotPut reply.Moved h run s = absurd h
  host_runs v w event.ApplyTake reply.Moved h run s = absurd h
  host_runs v w (event.Drain l) reply.Moved h run s = absurd h
  host_runs v w e (reply.Sent bytes) h run s = sent_none e bytes h s.1
    where
      sent_none : (e : Event) (bytes : Bytes) → IsOfHost e → SendsOut v e bytes w → w.failed ≡ false
      sent_none (event.Open l) bytes h s = absurd s
      sent_none (event.Send l x) bytes h s = absurd s
      sent_none (event.Close l) bytes h s = absurd s
      sent_none (event.Local command) bytes h s = absurd s
      sent_none (event.ReaderTake l) bytes h s = absurd h
      sent_none (event.ReaderPut l) bytes h s = absurd h
      sent_none event.PendTake bytes h s = absurd h
      sent_none event.PendPut bytes h s = absurd h
      sent_none event.SlotTake bytes h s = absurd h
      sent_none event.SlotPut bytes h s = absurd h
      sent_none event.ApplyTake bytes h s = absurd h
      sent_none (event.Drain l) bytes h s = absurd h
  host_runs v w e reply.Idle h run s = ap (λ (u : NodeView D). u.failed) s.2 ∙ run
  host_runs v w e reply.Blocked h run s = ap (λ (u : NodeView D). u.failed) s.2 ∙ run
  host_runs v w e reply.Full h run s = ap (λ (u : NodeView D). u.failed) s.2 ∙ run
  host_runs v w e reply.NotOpen h run s = ap (λ (u : NodeView D). u.failed) s.2 ∙ run
  host_runs v w e reply.AlreadyOpen h run s = ap (λ (u : NodeView D). u.failed) s.2 ∙ run
  host_runs v w e reply.LivesSpent h run s = ap (λ (u : NodeView D). u.failed) s.2 ∙ run
  host_runs v w e reply.NoLink h run s = ap (λ (u : NodeView D). u.failed) s.2 ∙ run
  host_runs v w e reply.Failed h run s = let e : true ≡ false = sym s.0 ∙ run in absurd cc
  host_runs v w e reply.JournalFull h run s = let none = host_not_full v w e reply.JournalFull h s in absurd cc
  host_runs v w e reply.NoMemory h run s = takes_none e h s.1
    where
      takes_none : (e : Event) → IsOfHost e → TakesMemory v e → w.failed ≡ false
      takes_none (event.Open l) h s = absurd s
      takes_none (event.Send l x) h s = absurd s
      takes_none (event.Close l) h s = absurd s
      takes_none (event.Local command) h s = absurd s
      takes_none (event.ReaderTake l) h s = absurd h
      takes_none (event.ReaderPut l) h s = absurd h
      takes_none event.PendTake h s = absurd h
      takes_none event.PendPut h s = absurd h
      takes_none event.SlotTake h s = absurd h
      takes_none event.SlotPut h s = absurd h
      takes_none event.ApplyTake h s = absurd h
      takes_none (event.Drain l) h s = absurd h

  -- ---- the whole

  -- what a node heard is an episode, unless it was refused
  abbrev pub IsPlayed : Result Played Fault → Event → Saying D
  IsPlayed r e a heard b = IfOk r (λ played. IsEpisode says e played.reply a heard b × (played.sent.items ≡ sent_in heard))

  -- and a watch was shown it
  abbrev pub GoesSteps : {W : Type 0} → Noting D W → Result Played Fault → Event → W → NodeView D → NodeView D → W → Type 0
  GoesSteps {W} Note r e w old new z = Goes says old new (λ a heard b. IsPlayed r e a heard b × Watched says Note 1 w a heard b z)

  -- and a full journal is reported exactly if one was found
  abbrev pub GoesWatched : {W : Type 0} → Noting D W → Result Played Fault → Event → W → NodeView D → NodeView D → W → Type 0
  GoesWatched {W} Note r e w old new z = Goes says old new (λ a heard b. IsPlayed r e a heard b × Watched says Note 1 w a heard b z × (IsErrOf r JournalFull ↔ (finds_full heard ≡ true)))

  -- a node that had failed hears nothing
  pub had_failed : {W : Type 0} (Note : Noting D W) (e : Event) (w : W) (a : NodeView D) → GoesWatched Note (Err Failed) e w a a w
  had_failed Note e w a = goes_nothing says a (λ o heard n. IsPlayed (Err Failed) e o heard n × Watched says Note 1 w o heard n w × (IsErrOf {T = Played} {E = Fault} (Err Failed) JournalFull ↔ (finds_full heard ≡ true))) (tt, (refl, refl), (λ is. absurd cc, λ found. let none : false ≡ true = found in absurd cc))

  -- the event's step, and then what follows
  steps_then : {W : Type 0} (Note : Noting D W) (s : Result (Unit {0}) Fault) (t : Result Played Fault) (e : Event) (r : Reply) (w v z : W) (a m b : NodeView D) (before after' : List Sending) → Step says a e r m → ((past : List Exchange) → LedgerTheorem says past a → LedgerTheorem says (past ++ (e, r) ∷ []) m) → Note w 1 e r a m v → ((y : List Exchange) → OnOk s (FollowsOn says r m y b × (after' ≡ before ++ sent_in y)) → IsPlayed t e a ((e, r) ∷ y) b) → GoesFollowed says Note s r v m b before after' z → GoesSteps Note t e w a b z
  steps_then Note s t e r w v z a m b before after' step theorem note all g =
      goes_then says a m b (λ o heard n. (heard ≡ (e, r) ∷ []) × Watched says Note 1 w o heard n v) (Follow Note s r v before after' z) (λ o heard n. IsPlayed t e o heard n × Watched says Note 1 w o heard n z)
      (λ x y dx dy p q. (subst (λ (l : List Exchange). IsPlayed t e a (l ++ y) b) (sym p.0) (all y q.0), watched_on says Note 1 w v z a m b x y p.1 q.1))
      (goes_one says a m e r (λ o heard n. (heard ≡ (e, r) ∷ []) × Watched says Note 1 w o heard n v) step theorem (refl, watched_one says Note w v a m e r step note)) g

  -- it was refused after the event's step
  pub refused : {W : Type 0} (Note : Noting D W) (s : Result (Unit {0}) Fault) (e : Event) (r : Reply) (w v z : W) (a m b : NodeView D) (before after' : List Sending) → StepsSayWhy says → a.fault ≡ None → Step says a e r m → ((past : List Exchange) → LedgerTheorem says past a → LedgerTheorem says (past ++ (e, r) ∷ []) m) → Note w 1 e r a m v → GoesFollowed says Note s r v m b before after' z → GoesWatched Note (Err (cause_of b.fault)) e w a b z
  refused Note s e r w v z a m b before after' why none step theorem note g =
      let told : Result Played Fault = Err (cause_of b.fault) in
      goes_as says a b (λ o heard n. IsPlayed told e o heard n × Watched says Note 1 w o heard n z) (λ o heard n. IsPlayed told e o heard n × Watched says Note 1 w o heard n z × (IsErrOf told JournalFull ↔ (finds_full heard ≡ true)))
      (λ heard does p. (p.0, p.1, cause_told says why heard a b none does)) (steps_then Note s told e r w v z a m b before after' step theorem note (λ y q. tt) g)

  -- the event's step and what follows are an episode
  pub plays : {W : Type 0} (Note : Noting D W) (e : Event) (r : Reply) (w v z : W) (a m b : NodeView D) (played : Played) → played.reply ≡ r → IsOfHost e → b.failed ≡ false → Step says a e r m → ((past : List Exchange) → LedgerTheorem says past a → LedgerTheorem says (past ++ (e, r) ∷ []) m) → Note w 1 e r a m v → GoesFollowed says Note (Ok tt) r v m b [] played.sent.items z → GoesWatched Note (Ok played) e w a b z
  plays Note e r w v z a m b played same host runs step theorem note g =
      goes_as says a b (λ o heard n. IsPlayed (Ok played) e o heard n × Watched says Note 1 w o heard n z) (λ o heard n. IsPlayed (Ok played) e o heard n × Watched says Note 1 w o heard n z × (IsErrOf {T = Played} {E = Fault} (Ok played) JournalFull ↔ (finds_full heard ≡ true)))
      (λ heard does p. (p.0, p.1, (λ is. absurd cc, λ found. absurd (clash b.failed runs (fell says heard a b does found)))))
      (steps_then Note (Ok tt) (Ok played) e r w v z a m b [] played.sent.items step theorem note
      (λ y q. (
        subst (λ (x : Reply). IsEpisode says e x a ((e, r) ∷ y) b) (sym same) (record { stepped = m; rest = y; is = refl; step = step; follows = q.0 }),
        q.1 ∙ ap (λ (l : List Sending). l ++ sent_in y) (sym (host_sends_none e r host)),
      )) g)
