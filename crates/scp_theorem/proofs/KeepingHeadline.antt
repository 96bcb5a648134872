-- What keeps the ledger keeps the headline.
use Rattle.std.proofs.Common.{ℕ, ◌≡◌, List, [], ◌∷◌, ◌++◌, Option, Some, None, refl, sym, ◌∙◌, ap, subst, append_assoc}
use Rattle.std.specs.Prelude.{IfSome, IsSomeAnd, Contains, map, option_map}
use Rattle.std.proofs.lemmas.Grind.{flat_map-append}
use Rattle.std.proofs.lemmas.List.Elements.{All-weaker}
use Rattle.scp_outbox.specs.scp_types.specs.declared.names.ConnId.{ConnId}
use Rattle.scp_outbox.specs.scp_quorum.specs.QuorumKind.{set_hash}
use Rattle.scp_outbox.specs.scp_quorum.specs.SharedSet.{SharedSet}
use Rattle.scp_apply.specs.scp_driver.specs.declared.driver.Level.{Level}
use Rattle.scp_outbox.specs.scp_wire.specs.declared.link.Cause.TheVariants.{ParkedFull}
use Rattle.scp_outbox.specs.scp_wire.specs.declared.message.Message.{Message}
use Rattle.scp_outbox.specs.scp_wire.specs.declared.message.Message.TheVariants.{Envelope, GetSet, Set, NoSet, GetRecord, Record, Records}
use Rattle.scp_outbox.specs.scp_wire.specs.Lanes.{in_lane}
use Rattle.scp_outbox.specs.scp_wire.specs.Marks.{Mark, number, ended, IsWhole, marks_in}
use Rattle.scp_outbox.specs.scp_wire.specs.Sets.{IsSetOf}
use Rattle.scp_apply.specs.scp_pending.specs.declared.parked.Parked.{Parked}
use Rattle.scp_apply.specs.scp_pending.specs.Line.{ready_mark, marks_of as marks_ready, marks_parked, parked_mark}
use Rattle.scp_apply.specs.scp_pending.specs.Queues.{is_open, named, parked_of, seq_of}
use Rattle.scp_apply.specs.scp_pending.specs.Rules.{settled_by}
use Rattle.scp_apply.specs.scp_ledger.specs.declared.journal.Decision.{Decision}
use Rattle.scp_apply.specs.scp_ledger.specs.declared.journal.Fate.{Fate}
use Rattle.scp_apply.specs.scp_ledger.specs.declared.journal.Fate.TheVariants.{Taken, Dropped, Closed}
use Rattle.scp_apply.specs.scp_ledger.specs.declared.journal.Origin.{Origin}
use Rattle.scp_apply.specs.scp_ledger.specs.declared.journal.Origin.TheVariants.{Machine, Named}
use Rattle.scp_apply.specs.scp_ledger.specs.Decisions.{IsFounded}
use Rattle.scp_apply.specs.scp_ledger.specs.Decisions.{RestsOn as IsFoundedOn}
use Rattle.scp_apply.specs.scp_ledger.specs.Marks.{marks_of as marks_on}
use Rattle.scp_apply.specs.scp_ledger.specs.Verdicts.{HasItsSet, link_of}
use Rattle.scp_apply.specs.Applied.{AreInOrder}
use Rattle.scp_theorem.specs.Account.{Account}
use Rattle.scp_theorem.specs.Kept.{HasItsFates, leaving, line_held, line_sent, slots_sent, start_of}
use Rattle.scp_theorem.specs.Books.{waiter_of, books_of, LedgerKeepsHeadline}
use Rattle.scp_theorem.specs.Headline.{Waiter, HasFates, HasNamedSet, RestsOn, AreAllUpTo, held_of, numbers_in}
use Rattle.scp_theorem.proofs.Cutting.{none_missing}
use Rattle.scp_theorem.proofs.Waiting.{delays_none}

-- ---- what is held

marks_waiting : (ps : List Parked) → map (λ (w : Waiter). number w.place) (map waiter_of ps) ≡ map parked_mark ps
marks_waiting [] = refl
marks_waiting (p ∷ ps) = ap (λ (ms : List Mark). number (seq_of p).0 ∷ ms) (marks_waiting ps)

in_parts : (ms ns os ps : List Mark) → ms ++ ((ns ++ os) ++ ps) ≡ (ms ++ ns) ++ (os ++ ps)
in_parts ms ns os ps = ap (λ qs. ms ++ qs) (append_assoc ns os ps) ∙ sym (append_assoc ms ns (os ++ ps))

held_is : {D : Type 0} (a : Account D) (l : ℕ) (c : ConnId) → line_held a l c ≡ held_of (books_of a) l c
held_is a l c =
    let behind = marks_in c a.inbox ++ marks_in c (a.upcoming l) in
    let ahead = marks_ready c a.on_way ++ marks_ready c a.pending.leaving in
    in_parts (marks_ready c a.on_way) (marks_ready c a.pending.leaving) (marks_parked c a.pending.settled.queues) behind
    ∙ ap (λ (ms : List Mark). ahead ++ (ms ++ behind)) (sym (marks_waiting (parked_of c a.pending.settled.queues)))

-- what is on its way and what is ready
ready_in_parts : {D : Type 0} (a : Account D) (c : ConnId) → marks_ready c (leaving a) ≡ marks_ready c a.on_way ++ marks_ready c a.pending.leaving
ready_in_parts a c = flat_map-append (ready_mark c) a.on_way a.pending.leaving

fates_at : {D : Type 0} (a : Account D) (l : ℕ) (c : ConnId) → HasItsFates a l c → HasFates (books_of a) l c
fates_at a l c has = record {
  fates = has.fates;
  nothing_lost = λ s. subst (λ (ms : List Mark). IsWhole (in_lane (slots_sent a l c) s (line_sent a l c)) (in_lane (slots_sent a l c) s (marks_on c a.ledger.journal ++ ms))) (held_is a l c) (has.whole s);
  none_missing = λ cut. subst (λ (ms : List Mark). AreAllUpTo (numbers_in (marks_on c a.ledger.journal ++ ms))) (ready_in_parts a c) (none_missing (start_of a) (slots_sent a l c) a.came c (is_open c (settled_by (start_of a) a.came).queues) a.ledger.journal (leaving a) has.ends (subst (λ (ms : List Mark). Contains (marks_on c a.ledger.journal ++ ms) (ended ParkedFull)) (sym (ready_in_parts a c)) cut));
}

-- ---- sets

set_named : (message : Message) (set : Option SharedSet) → IsSetOf message (option_map (λ s. s.value) set) → IfSome (named message) (λ hash. IsSomeAnd set (λ s. hash.0 ≡ set_hash s.value))
set_named (Envelope envelope) (Some s) is = is.1
set_named (Envelope envelope) None is = is
set_named (GetSet hash) set is = tt
set_named (Set inside) set is = tt
set_named (NoSet hash) set is = tt
set_named (GetRecord slot) set is = tt
set_named (Record slot value) set is = tt
set_named (Records first values) set is = tt

has_named : (fate : Fate) → HasItsSet fate → HasNamedSet fate
has_named (Taken conn seq message set verdict) is = set_named message set is
has_named (Dropped conn seq cause) is = tt
has_named (Closed conn cause) is = tt

-- ---- decisions

rests_on : {D : Type 0} (a : Account D) (d : Decision) (origin : Origin) → IsFoundedOn a.me a.set (link_of a.peers) a.ledger.asked a.ledger.journal d origin → RestsOn (books_of a) d origin
rests_on a d (Machine n quorum own) is = is.0
rests_on a d (Named conn seq) is = is.0

-- ---- all of it

pub ledger_keeps_headline : {D : Type 0} (level : D → ℕ → List ℕ → Level) (extracted : D → ℕ → List ℕ → Option (List ℕ)) (combined : D → ℕ → List (List ℕ) → List ℕ) (place : D → ℕ → ℕ → ℕ → ℕ) → LedgerKeepsHeadline level extracted combined place
ledger_keeps_headline level extracted combined place = λ a keeps. record {
  fates = λ l peer at life. fates_at a l (record { from = peer; to = a.me; life = life }) (keeps.fates l peer at life);
  no_others = keeps.of_links;
  sets = All-weaker HasItsSet HasNamedSet has_named a.ledger.journal keeps.decisions.sets;
  delays_none = delays_none a.pending.settled keeps.led;
  one_decision = keeps.decisions.one;
  grounds = All-weaker (IsFounded a.me a.set (link_of a.peers) a.ledger.asked a.ledger.journal) (λ (d : Decision). RestsOn (books_of a) d d.origin) (λ d is. rests_on a d d.origin is) a.ledger.decisions keeps.decisions.founded;
  in_order = subst (λ (first : ℕ). AreInOrder first a.applier.applied) keeps.applied.first keeps.applied.in_order;
  decided = keeps.applied.decided;
}
