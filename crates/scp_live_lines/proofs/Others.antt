-- What is told of an event beside its `send` lines.
use Rattle.std.proofs.Common.{◌≡◌, ℕ, zero, suc, Bool, true, false, List, [], ◌∷◌, ◌++◌, Option, Some, None, codes, refl, subst, append_assoc, flat_map}
use Rattle.std.specs.Prelude.{All, position, if◌then◌else◌}
use Rattle.std.specs.Fmt.{decimal}
use Rattle.std.proofs.lemmas.List.Elements.{All-head, All-tail}
use Rattle.scp_core.specs.scp_types.specs.declared.names.ConnId.{ConnId}
use Rattle.scp_core.specs.scp_types.specs.declared.names.NodeId.{NodeId}
use Rattle.scp_core.specs.scp_types.specs.Same.{same_node}
use Rattle.scp_core.specs.scp_wire.specs.declared.link.Cause.{Cause}
use Rattle.scp_core.specs.scp_wire.specs.declared.link.Cause.TheVariants as cause
use Rattle.scp_core.specs.scp_pending.specs.declared.ready.DropCause.{DropCause}
use Rattle.scp_core.specs.scp_pending.specs.declared.ready.DropCause.TheVariants as drop
use Rattle.scp_core.specs.scp_ledger.specs.declared.journal.Verdict.{Verdict}
use Rattle.scp_core.specs.scp_ledger.specs.declared.journal.Verdict.TheVariants as verdict
use Rattle.scp_core.specs.scp_ledger.specs.declared.took.CommandFate.{CommandFate}
use Rattle.scp_core.specs.scp_ledger.specs.declared.took.CommandFate.TheVariants as fates
use Rattle.scp_core.specs.scp_ledger.specs.declared.journal.Fate.{Fate}
use Rattle.scp_core.specs.scp_ledger.specs.declared.journal.Fate.TheVariants.{Taken, Dropped, Closed}
use Rattle.scp_core.specs.scp_ledger.specs.declared.journal.Origin.{Origin}
use Rattle.scp_core.specs.scp_ledger.specs.declared.journal.Origin.TheVariants.{Machine, Named}
use Rattle.scp_core.specs.scp_ledger.specs.declared.journal.Decision.{Decision}
use Rattle.scp_core.specs.scp_slot.specs.declared.timers.Timer.{Timer}
use Rattle.scp_core.specs.scp_slot.specs.declared.timers.Timer.TheVariants.{Round, Ballot}
use Rattle.scp_core.specs.declared.event.Reply.{Reply}
use Rattle.scp_core.specs.declared.event.Reply.TheVariants as reply
use Rattle.scp_words.specs.Words.{verdict_word, cause_word, drop_word, fate_word, hex_word}
use Rattle.scp_script.specs.Words.{same}
use Rattle.scp_live_lines.specs.Names.{name_at, name_if, name_of}
use Rattle.scp_live_lines.specs.Fates.{conn_words, end_words, fate_line}
use Rattle.scp_live_lines.specs.Decisions.{origin_words, decided_line, applied_line}
use Rattle.scp_live_lines.specs.Timers.{runs_in, timer_line, missing_line, changes}
use Rattle.scp_live_lines.specs.Replies.{reply_word, refused_line, changes_nothing, ignored_lines, ok_line}
use Rattle.scp_live_lines.specs.Back.{IsWord, SaysNothing}
use Rattle.scp_live_lines.specs.Others.{AreOthers}
use Rattle.scp_live_lines.proofs.Clear.{clear, clear_both, spaced, hex_clear, word_clear, number_clear, is_plain, other_line, nothing_both, nothing_each}

verdict_clear : (v : Verdict) → clear (verdict_word v) ≡ true
verdict_clear verdict.OldSlot = refl
verdict_clear verdict.FarSlot = refl
verdict_clear verdict.Already = refl
verdict_clear verdict.Unasked = refl
verdict_clear verdict.Own = refl
verdict_clear verdict.BadStatement = refl
verdict_clear verdict.BadValue = refl
verdict_clear verdict.Stale = refl
verdict_clear verdict.Idle = refl
verdict_clear verdict.Fresh = refl
verdict_clear verdict.Forwarded = refl
verdict_clear verdict.Decided = refl

cause_clear : (c : Cause) → clear (cause_word c) ≡ true
cause_clear cause.Malformed = refl
cause_clear cause.Link = refl
cause_clear cause.Spent = refl
cause_clear cause.ParkedFull = refl

drop_clear : (c : DropCause) → clear (drop_word c) ≡ true
drop_clear drop.BadSet = refl
drop_clear drop.GaveUp = refl
drop_clear drop.Closed = refl
drop_clear drop.ParkedFull = refl

reply_clear : (r : Reply) → clear (reply_word r) ≡ true
reply_clear reply.Accepted = refl
reply_clear reply.Moved = refl
reply_clear (reply.Sent bytes) = refl
reply_clear reply.Idle = refl
reply_clear reply.Blocked = refl
reply_clear reply.Full = refl
reply_clear reply.NotOpen = refl
reply_clear reply.AlreadyOpen = refl
reply_clear reply.LivesSpent = refl
reply_clear reply.NoLink = refl
reply_clear reply.Failed = refl
reply_clear reply.JournalFull = refl
reply_clear reply.NoMemory = refl

fate_clear : (f : CommandFate) → clear (fate_word f) ≡ true
fate_clear fates.OldSlot = refl
fate_clear fates.FarSlot = refl
fate_clear fates.Decided = refl
fate_clear fates.BadValue = refl
fate_clear fates.ProposedBefore = refl
fate_clear fates.Proposed = refl
fate_clear fates.NoRoundLeft = refl
fate_clear fates.RoundAdded = refl
fate_clear fates.NoBallot = refl
fate_clear fates.BallotStays = refl
fate_clear fates.BallotMoved = refl
fate_clear fates.AskedBefore = refl
fate_clear fates.Asked = refl

-- ---- names

at_clear : (names : List (List ℕ)) (i : ℕ) → All IsWord names → clear (name_at names i) ≡ true
at_clear [] i h = refl
at_clear (n ∷ ns) zero h = word_clear n (All-head IsWord n ns h)
at_clear (n ∷ ns) (suc i) h = at_clear ns i (All-tail IsWord n ns h)

if_clear : (names : List (List ℕ)) (o : Option ℕ) → All IsWord names → clear (name_if names o) ≡ true
if_clear names None h = refl
if_clear names (Some i) h = at_clear names i h

conn_clear : (names : List (List ℕ)) (peers : List NodeId) (conn : ConnId) → All IsWord names → clear (conn_words names peers conn) ≡ true
conn_clear names peers conn h = spaced (name_of names peers conn.from) (decimal conn.life) (if_clear names (position (λ peer. same_node peer conn.from) peers) h) (number_clear conn.life)

-- ---- the lines

end_says : (conn what word : List ℕ) (seq : ℕ) → clear conn ≡ true → clear what ≡ true → clear word ≡ true → SaysNothing (codes "fate " ++ conn ++ end_words seq what word)
end_says conn what word seq c w v =
    subst SaysNothing (pieces conn (decimal seq) what word)
    (other_line (codes "fate") (conn ++ codes " " ++ decimal seq ++ codes " " ++ what ++ codes " " ++ word) refl refl (spaced (conn ++ codes " " ++ decimal seq ++ codes " " ++ what) word (spaced (conn ++ codes " " ++ decimal seq) what (spaced conn (decimal seq) c (number_clear seq)) w) v))
  where
    pieces : (n s w v : List ℕ) → codes "fate" ++ 32 ∷ ((n ++ codes " " ++ s ++ codes " " ++ w ++ codes " " ++ v) ++ 10 ∷ []) ≡ codes "fate " ++ n ++ (codes " " ++ s ++ codes " " ++ w ++ codes " " ++ v ++ codes "\n")
    pieces n s w v = simp append_assoc

fate_says : (names : List (List ℕ)) (peers : List NodeId) → All IsWord names → (fate : Fate) → SaysNothing (fate_line names peers fate)
fate_says names peers h (Taken conn seq message set v) = end_says (conn_words names peers conn) (codes "taken") (verdict_word v) seq.0 (conn_clear names peers conn h) refl (verdict_clear v)
fate_says names peers h (Dropped conn seq c) = end_says (conn_words names peers conn) (codes "dropped") (drop_word c) seq.0 (conn_clear names peers conn h) refl (drop_clear c)
fate_says names peers h (Closed conn c) =
    let words = conn_words names peers conn in
    subst SaysNothing (pieces words (cause_word c))
    (other_line (codes "fate") (words ++ codes " closed " ++ cause_word c) refl refl (clear_both (words ++ codes " closed ") (cause_word c) (clear_both words (codes " closed ") (conn_clear names peers conn h) refl) (cause_clear c)))
  where
    pieces : (n v : List ℕ) → codes "fate" ++ 32 ∷ ((n ++ codes " closed " ++ v) ++ 10 ∷ []) ≡ codes "fate " ++ n ++ codes " closed " ++ v ++ codes "\n"
    pieces n v = simp append_assoc

origin_clear : (names : List (List ℕ)) (peers : List NodeId) → All IsWord names → (origin : Origin) → clear (origin_words names peers origin) ≡ true
origin_clear names peers h (Machine n quorum own) = refl
origin_clear names peers h (Named conn seq) =
    let words = conn_words names peers conn in
    spaced (codes "record " ++ words) (decimal seq.0) (clear_both (codes "record ") words refl (conn_clear names peers conn h)) (number_clear seq.0)

decided_says : (names : List (List ℕ)) (peers : List NodeId) → All IsWord names → (d : Decision) → SaysNothing (decided_line names peers d)
decided_says names peers h d =
    let slot = decimal d.slot.0 in
    let value = hex_word d.value in
    let origin = origin_words names peers d.origin in
    subst SaysNothing (pieces slot value origin)
    (other_line (codes "decided") (slot ++ codes " " ++ value ++ codes " " ++ origin) refl refl (spaced (slot ++ codes " " ++ value) origin (spaced slot value (number_clear d.slot.0) (hex_clear d.value)) (origin_clear names peers h d.origin)))
  where
    pieces : (s v o : List ℕ) → codes "decided" ++ 32 ∷ ((s ++ codes " " ++ v ++ codes " " ++ o) ++ 10 ∷ []) ≡ codes "decided " ++ s ++ codes " " ++ v ++ codes " " ++ o ++ codes "\n"
    pieces s v o = simp append_assoc

applied_says : (d : Decision) → SaysNothing (applied_line d)
applied_says d =
    let slot = decimal d.slot.0 in
    let value = hex_word d.value in
    subst SaysNothing (pieces slot value) (other_line (codes "applied") (slot ++ codes " " ++ value) refl refl (spaced slot value (number_clear d.slot.0) (hex_clear d.value)))
  where
    pieces : (s v : List ℕ) → codes "applied" ++ 32 ∷ ((s ++ codes " " ++ v) ++ 10 ∷ []) ≡ codes "applied " ++ s ++ codes " " ++ v ++ codes "\n"
    pieces s v = simp append_assoc

timer_says : (verb : List ℕ) → is_plain verb ≡ true → same verb (codes "send") ≡ false → (timer : Timer) → SaysNothing (timer_line verb timer)
timer_says verb p s (Round slot n) =
    subst SaysNothing (pieces verb (decimal slot.0) (decimal n))
    (other_line verb (codes "round " ++ decimal slot.0 ++ codes " " ++ decimal n) p s (spaced (codes "round " ++ decimal slot.0) (decimal n) (clear_both (codes "round ") (decimal slot.0) refl (number_clear slot.0)) (number_clear n)))
  where
    pieces : (w a b : List ℕ) → w ++ 32 ∷ ((codes "round " ++ a ++ codes " " ++ b) ++ 10 ∷ []) ≡ w ++ codes " round " ++ a ++ codes " " ++ b ++ codes "\n"
    pieces w a b = simp append_assoc
timer_says verb p s (Ballot slot n) =
    subst SaysNothing (pieces verb (decimal slot.0) (decimal n))
    (other_line verb (codes "ballot " ++ decimal slot.0 ++ codes " " ++ decimal n) p s (spaced (codes "ballot " ++ decimal slot.0) (decimal n) (clear_both (codes "ballot ") (decimal slot.0) refl (number_clear slot.0)) (number_clear n)))
  where
    pieces : (w a b : List ℕ) → w ++ 32 ∷ ((codes "ballot " ++ a ++ codes " " ++ b) ++ 10 ∷ []) ≡ w ++ codes " ballot " ++ a ++ codes " " ++ b ++ codes "\n"
    pieces w a b = simp append_assoc

missing_says : (verb : List ℕ) → is_plain verb ≡ true → same verb (codes "send") ≡ false → (timers : List Timer) (timer : Timer) → SaysNothing (missing_line verb timers timer)
missing_says verb p s timers timer = by (runs_in timers timer) (timer_says verb p s timer)
  where
    by : (b : Bool) → SaysNothing (timer_line verb timer) → SaysNothing (if b then [] else timer_line verb timer)
    by true h = λ more. refl
    by false h = h

changes_say : (old new : List Timer) → SaysNothing (changes old new)
changes_say old new =
    nothing_both (flat_map (missing_line (codes "stop") new) old) (flat_map (missing_line (codes "start") old) new)
    (nothing_each (missing_line (codes "stop") new) (missing_says (codes "stop") refl refl new) old)
    (nothing_each (missing_line (codes "start") old) (missing_says (codes "start") refl refl old) new)

refusal_says : (r : Reply) → SaysNothing (refused_line r)
refusal_says r = subst SaysNothing (pieces (reply_word r)) (other_line (codes "refused") (reply_word r) refl refl (reply_clear r))
  where
    pieces : (w : List ℕ) → codes "refused" ++ 32 ∷ (w ++ 10 ∷ []) ≡ codes "refused " ++ w ++ codes "\n"
    pieces w = simp append_assoc

ignored_says : (f : CommandFate) → SaysNothing (ignored_lines f)
ignored_says f = by (changes_nothing f) (subst SaysNothing (pieces (fate_word f)) (other_line (codes "ignored") (fate_word f) refl refl (fate_clear f)))
  where
    pieces : (w : List ℕ) → codes "ignored" ++ 32 ∷ (w ++ 10 ∷ []) ≡ codes "ignored " ++ w ++ codes "\n"
    pieces w = simp append_assoc

    by : (b : Bool) → SaysNothing (codes "ignored " ++ fate_word f ++ codes "\n") → SaysNothing (if b then codes "ignored " ++ fate_word f ++ codes "\n" else [])
    by true h = h
    by false h = λ more. refl

end_of_answer_says : (number : ℕ) → SaysNothing (ok_line number)
end_of_answer_says number = subst SaysNothing (pieces (decimal number)) (other_line (codes "ok") (decimal number) refl refl (number_clear number))
  where
    pieces : (w : List ℕ) → codes "ok" ++ 32 ∷ (w ++ 10 ∷ []) ≡ codes "ok " ++ w ++ codes "\n"
    pieces w = simp append_assoc

pub are_others : (names : List (List ℕ)) (peers : List NodeId) → All IsWord names → AreOthers names peers
are_others names peers h = record {
  fates = fate_says names peers h;
  decisions = decided_says names peers h;
  applied = applied_says;
  timers = changes_say;
  refusals = refusal_says;
  ignored = ignored_says;
  ends = end_of_answer_says;
}
