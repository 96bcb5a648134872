-- What is told of an episode, put together.
use Rattle.std.proofs.Common.{◌≡◌, ℕ, true, List, ◌++◌, sym, ◌∙◌, ap, subst, append_assoc}
use Rattle.std.specs.Prelude.{Option, Result, Ok, Err, IfOk, IsErrOf, IsOkUnless, ◌↔◌, length, flat_map}
use Rattle.std.proofs.lemmas.Result.{IfOk-at_ok}
use Rattle.sha2.specs.Sha256.{sha256}
use Rattle.scp_again.specs.scp_types.specs.declared.fault.Fault.{Fault}
use Rattle.scp_again.specs.scp_types.specs.declared.fault.Fault.TheVariants.{JournalFull, NoMemory}
use Rattle.scp_again.specs.scp_types.specs.declared.names.Hash.{Hash}
use Rattle.scp_again.specs.scp_slot.specs.declared.timers.Timer.{Timer}
use Rattle.scp_again.specs.scp_ledger.specs.declared.took.CommandFate.{CommandFate}
use Rattle.scp_again.specs.scp_core.specs.declared.event.Event.{Event}
use Rattle.scp_again.specs.scp_core.specs.declared.event.Reply.{Reply}
use Rattle.scp_again.specs.scp_core.specs.History.{Exchange}
use Rattle.scp_again.specs.scp_core.specs.Kv.{NodeView}
use Rattle.scp_turn.specs.Kv.{Goes, IsEpisode}
use Rattle.scp_turn.specs.declared.sending.Sending.{Sending}
use Rattle.scp_turn.specs.declared.playing.Played.{Played}
use Rattle.scp_turn.specs.Episode.{sent_in, finds_full}
use Rattle.scp_live_lines.specs.Timers.{changes}
use Rattle.scp_live.specs.Live.{IsTold, has_fate, fate_at, outcome, sent_line, new_fates, new_decisions, newly_applied, told_of}

-- a text that is made of all that is told, by counts
abbrev pub longer_by : List (List ℕ) → List Timer → List Timer → Reply → Option CommandFate → List Sending → ℕ → ℕ → ℕ → NodeView → List ℕ → List ℕ
longer_by names before after' reply fate sent f d a v text =
    (text ++ outcome reply fate ++ flat_map (sent_line names) sent) ++ (new_fates names f v ++ new_decisions names d v ++ newly_applied a v) ++ changes before after'

regrouped : (t r s f d a c : List ℕ) → (t ++ r ++ s) ++ (f ++ d ++ a) ++ c ≡ t ++ (r ++ s ++ f ++ d ++ a ++ c)
regrouped t r s f d a c = simp append_assoc

lines_are : (event : Event) (names : List (List ℕ)) (before after' : List Timer) (reply : Reply) (fate : Option CommandFate) (old new : NodeView) (heard : List Exchange) (sent : List Sending) (f d a : ℕ) (text longer : List ℕ) → fate ≡ fate_at new (has_fate event) → sent ≡ sent_in heard → f ≡ length old.ledger.journal → d ≡ length old.ledger.decisions → a ≡ length old.applier.applied → longer ≡ longer_by names before after' reply fate sent f d a new text → longer ≡ text ++ told_of event names before after' reply old heard new
lines_are event names before after' reply fate old new heard sent f d a text longer o s p q r is =
    let fate' : Option CommandFate = fate_at new (has_fate event) in
    is ∙ ap (λ (c : Option CommandFate). longer_by names before after' reply c sent f d a new text) o
    ∙ ap (λ (l : List Sending). longer_by names before after' reply fate' l f d a new text) s
    ∙ ap (λ (n : ℕ). longer_by names before after' reply fate' (sent_in heard) n d a new text) p
    ∙ ap (λ (n : ℕ). longer_by names before after' reply fate' (sent_in heard) (length old.ledger.journal) n a new text) q
    ∙ ap (λ (n : ℕ). longer_by names before after' reply fate' (sent_in heard) (length old.ledger.journal) (length old.ledger.decisions) n new text) r
    ∙ regrouped text (outcome reply fate') (flat_map (sent_line names) (sent_in heard)) (new_fates names (length old.ledger.journal) new) (new_decisions names (length old.ledger.decisions) new) (newly_applied (length old.applier.applied) new) (changes before after')

-- what was told of an episode, where all of it was
told_so : (s : Result Hash Fault) (played : Played) (event : Event) (names : List (List ℕ)) (before after' : List Timer) (fate : Option CommandFate) (old new : NodeView) (heard : List Exchange) (f d a : ℕ) (text longer : List ℕ) → fate ≡ fate_at new (has_fate event) → f ≡ length old.ledger.journal → d ≡ length old.ledger.decisions → a ≡ length old.applier.applied → IsEpisode event played.reply old heard new × (played.sent.items ≡ sent_in heard)
    → IfOk s (λ hash. longer ≡ longer_by names before after' played.reply fate played.sent.items f d a new text) → IfOk s (λ hash. hash.0 ≡ sha256 (flat_map (sent_line names) played.sent.items)) → IfOk s (λ hash. IsTold event names before after' old heard new text longer hash.0)
told_so (Ok hash) played event names before after' fate old new heard f d a text longer o p q t e l h = record {
  reply = played.reply;
  episode = e.0;
  lines = lines_are event names before after' played.reply fate old new heard played.sent.items f d a text longer o e.1 p q t l;
  digest_is = h ∙ ap (λ (x : List Sending). sha256 (flat_map (sent_line names) x)) e.1;
}
told_so (Err fault) played event names before after' fate old new heard f d a text longer o p q t e l h = tt

-- what a node heard: this holds of it if it isn't refused, and this holds of all of it; and it is refused by a full journal exactly if one was
-- found
abbrev pub GoesBeside : {T : Type 0} → Result T Fault → NodeView → NodeView → (T → NodeView → List Exchange → NodeView → Type 0) → (NodeView → List Exchange → NodeView → Type 0) → Type 0
GoesBeside r old new P E = Goes old new (λ a heard b. IfOk r (λ x. P x a heard b) × E a heard b × (IsErrOf r JournalFull ↔ (finds_full heard ≡ true)))

-- a call that returns something has no fault
pub ok_isnt : {T : Type 0} (r : Result T Fault) (x : T) (f : Fault) → r ≡ Ok x → IsErrOf r f → ⊥
ok_isnt {T} r x f is err = let e : IsErrOf {T = T} (Ok x) f = sym is ∙ err in absurd cc

-- no full journal is reported if there was no memory to report it
lines_arent : (s : Result Hash Fault) → IsOkUnless s NoMemory → IsErrOf s JournalFull → ⊥
lines_arent (Ok hash) only full = absurd cc
lines_arent (Err fault) only full = cc

pub same_fault : (f g : Fault) → IsErrOf {T = Hash} (Err f) g → f ≡ g
same_fault f g e = cc

pub same_cause : (f g : Fault) → IsErrOf {T = Played} (Err f) g → f ≡ g
same_cause f g e = cc

-- all of it was told, or there was no memory to tell it
pub acts_beside : (r : Result Played Fault) (s : Result Hash Fault) (played : Played) (event : Event) (names : List (List ℕ)) (before after' : List Timer) (fate : Option CommandFate) (old new : NodeView) (f d a : ℕ) (text longer : List ℕ) (E : NodeView → List Exchange → NodeView → Type 0) → r ≡ Ok played → fate ≡ fate_at new (has_fate event) → f ≡ length old.ledger.journal → d ≡ length old.ledger.decisions → a ≡ length old.applier.applied
    → IfOk s (λ hash. longer ≡ longer_by names before after' played.reply fate played.sent.items f d a new text) → IfOk s (λ hash. hash.0 ≡ sha256 (flat_map (sent_line names) played.sent.items))
    → IsOkUnless s NoMemory → GoesBeside r old new (λ p o heard n. IsEpisode event p.reply o heard n × (p.sent.items ≡ sent_in heard)) E → GoesBeside s old new (λ hash o heard n. IsTold event names before after' o heard n text longer hash.0) E
acts_beside r s played event names before after' fate old new f d a text longer E is o p q t lines digest only g = record {
  heard = g.heard;
  is = (told_so s played event names before after' fate old new g.heard f d a text longer o p q t (IfOk-at_ok (λ (x : Played). IsEpisode event x.reply old g.heard new × (x.sent.items ≡ sent_in g.heard)) is g.is.0) lines digest, g.is.1, (λ full. absurd (lines_arent s only full), λ found. absurd (ok_isnt r played JournalFull is (g.is.2.1 found))));
  does = g.does;
  theorem = g.theorem;
}

-- it was refused
pub refuses_beside : (r : Result Played Fault) (fault : Fault) (event : Event) (names : List (List ℕ)) (before after' : List Timer) (old new : NodeView) (text longer : List ℕ) (E : NodeView → List Exchange → NodeView → Type 0)
    → r ≡ Err fault → GoesBeside r old new (λ p o heard n. IsEpisode event p.reply o heard n × (p.sent.items ≡ sent_in heard)) E → GoesBeside {T = Hash} (Err fault) old new (λ hash o heard n. IsTold event names before after' o heard n text longer hash.0) E
refuses_beside r fault event names before after' old new text longer E is g = record {
  heard = g.heard;
  is = (tt, g.is.1, (λ full. g.is.2.0 (is ∙ ap (λ (f : Fault). Err f) (same_fault fault JournalFull full)), λ found. ap (λ (f : Fault). Err f) (same_cause fault JournalFull (sym is ∙ g.is.2.1 found))));
  does = g.does;
  theorem = g.theorem;
}

-- the same of equal names, timers and nodes
pub acts_beside_as : (r : Result Hash Fault) (event : Event) (names names' : List (List ℕ)) (before before' after' : List Timer) (old old' new : NodeView) (text longer : List ℕ) (E : NodeView → List Exchange → NodeView → Type 0) → names ≡ names' → before ≡ before' → old ≡ old' → GoesBeside r old new (λ hash o heard n. IsTold event names before after' o heard n text longer hash.0) E → GoesBeside r old' new (λ hash o heard n. IsTold event names' before' after' o heard n text longer hash.0) E
acts_beside_as r event names names' before before' after' old old' new text longer E p q s g =
    subst (λ (m : NodeView). GoesBeside r m new (λ hash o heard n. IsTold event names' before' after' o heard n text longer hash.0) E) s
    (subst (λ (ts : List Timer). GoesBeside r old new (λ hash o heard n. IsTold event names' ts after' o heard n text longer hash.0) E) q
    (subst (λ (ns : List (List ℕ)). GoesBeside r old new (λ hash o heard n. IsTold event ns before after' o heard n text longer hash.0) E) p g))
