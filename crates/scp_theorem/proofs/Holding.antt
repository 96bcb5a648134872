-- What is held of a connection is messages, and what is live of it is so by its place.
use Rattle.std.proofs.Common.{◌≡◌, ℕ, true, List, [], ◌∷◌, ◌++◌, sym, ◌∙◌, ap, subst, Option}
use Rattle.std.specs.Prelude.{Some, slice_get}
use Rattle.std.specs.List.{AllByRecursion}
use Rattle.std.proofs.lemmas.List.{append-nil}
use Rattle.scp_outbox.specs.scp_types.specs.declared.names.ConnId.{ConnId}
use Rattle.scp_outbox.specs.scp_types.specs.declared.names.NodeId.{NodeId}
use Rattle.scp_outbox.specs.scp_types.specs.declared.names.Seq.{Seq}
use Rattle.scp_outbox.specs.scp_quorum.specs.Sane.{IsSane}
use Rattle.scp_apply.specs.scp_driver.specs.declared.driver.Level.{Level}
use Rattle.scp_outbox.specs.scp_wire.specs.declared.carried.Carried.{Carried}
use Rattle.scp_outbox.specs.scp_wire.specs.declared.message.Message.{Message}
use Rattle.scp_outbox.specs.scp_wire.specs.declared.link.Inbound.{Inbound}
use Rattle.scp_outbox.specs.scp_wire.specs.declared.link.Inbound.TheVariants as inbound
use Rattle.scp_outbox.specs.scp_wire.specs.Connections.{conn_at, same_conn}
use Rattle.scp_outbox.specs.scp_wire.specs.LinkReading.{unread, readings}
use Rattle.scp_outbox.specs.scp_wire.specs.Marks.{messages_in}
use Rattle.scp_outbox.specs.scp_wire.specs.Parts.{IsNumbered}
use Rattle.scp_outbox.specs.scp_wire.specs.Shape.{HasShape, AreInOrder, nothing_came, of_peer}
use Rattle.scp_apply.specs.scp_pending.specs.declared.ready.Ready.{Ready}
use Rattle.scp_apply.specs.scp_pending.specs.declared.ready.Ready.TheVariants as ready
use Rattle.scp_apply.specs.scp_pending.specs.Causes.{Place, HasCause}
use Rattle.scp_apply.specs.scp_pending.specs.Line.{HasItsMessage, HaveMessages}
use Rattle.scp_apply.specs.scp_pending.specs.Pends.{start_of as start_by}
use Rattle.scp_apply.specs.scp_pending.specs.Rules.{Settled}
use Rattle.scp_theorem.specs.Account.{Account, Ran}
use Rattle.scp_theorem.specs.Kept.{start_of, leaving, messages_sent, HeldAreMessages, IsLiveByPlace}
use Rattle.scp_theorem.proofs.Causes.{left_caused, all_front}
use Rattle.scp_theorem.proofs.StageLaws.{Laws}

-- ---- plain lists

all_back : {X : Type 0} (P : X → Type 0) (xs ys : List X) → AllByRecursion P (xs ++ ys) → AllByRecursion P ys
all_back P [] ys a = a
all_back P (x ∷ xs) ys a = all_back P xs ys a.1

at_its_place : {X : Type 0} (P : X → Type 0) (all before after' : List X) (x : X) → all ≡ before ++ x ∷ after' → AllByRecursion P all → P x
at_its_place P all before after' x e a = (all_back P before (x ∷ after') (subst (λ xs. AllByRecursion P xs) e a)).0

-- ---- by the causes of what left

-- what was taken has the message of its number
has_message : (start : Settled) (came : List Inbound) (c : ConnId) (messages : List Message) → AllByRecursion (IsNumbered c messages) came → (r : Ready) → HasCause start came r → HasItsMessage c messages r
has_message start came c messages a (ready.Deliver d) k = λ mine.
    let right : same_conn k.x.conn c ≡ true → slice_get messages k.x.seq.0 ≡ Some k.x.message = at_its_place (IsNumbered c messages) came k.place.before k.place.after (inbound.Carried k.x) k.place.at a in
    ap (λ (n : Seq). slice_get messages n.0) (sym k.seq) ∙ right (ap (λ (e : ConnId). same_conn e c) k.conn ∙ mine) ∙ ap (λ (m : Message). Some m) k.message
has_message start came c messages a (ready.Dropped conn seq cause) k = tt
has_message start came c messages a (ready.Closed conn cause) k = tt
has_message start came c messages a (ready.Local command) k = tt

have_messages : (start : Settled) (came : List Inbound) (c : ConnId) (messages : List Message) → AllByRecursion (IsNumbered c messages) came → (rs : List Ready) → AllByRecursion (HasCause start came) rs → HaveMessages c messages rs
have_messages start came c messages a [] k = tt
have_messages start came c messages a (r ∷ rs) k = (has_message start came c messages a r k.0, have_messages start came c messages a rs k.1)

parked_messages : (start : Settled) (came : List Inbound) (c : ConnId) (messages : List Message) → AllByRecursion (IsNumbered c messages) came → (parked : List Carried) → AllByRecursion (Place start came) parked → AllByRecursion (λ (x : Carried). IsNumbered c messages (inbound.Carried x)) parked
parked_messages start came c messages a [] k = tt
parked_messages start came c messages a (x ∷ xs) k = (at_its_place (IsNumbered c messages) came k.0.before k.0.after (inbound.Carried x) k.0.at a, parked_messages start came c messages a xs k.1)

-- ---- one connection

module _ (laws : Laws) {D : Type 0} {level : D → ℕ → List ℕ → Level} {extracted : D → ℕ → List ℕ → Option (List ℕ)} {combined : D → ℕ → List (List ℕ) → List ℕ} {place : D → ℕ → ℕ → ℕ → ℕ} (a : Account D) (r : Ran level extracted combined place a) (l : ℕ) (peer : NodeId) (at : slice_get a.peers l ≡ Some peer) (life : ℕ) (read_is : readings unread (a.sent l) ≡ of_peer peer a.came ++ (of_peer peer a.inbox ++ a.upcoming l)) (in_order : AreInOrder peer a.me nothing_came (readings unread (a.sent l))) (shape : HasShape a.me a.peers a.came) where
  abbrev it : ConnId
  it = conn_at peer a.me life

  abbrev messages : List Message
  messages = messages_sent a l it

  -- all that is read of the link, and so all that came to the inbox or comes yet
  all_read : AllByRecursion (IsNumbered it messages) (readings unread (a.sent l))
  all_read =
      let xs = readings unread (a.sent l) in
      let own : AreInOrder peer a.me nothing_came (of_peer peer xs) = subst (λ (ys : List Inbound). AreInOrder peer a.me nothing_came ys) (sym (laws.of_peer peer a.me nothing_came xs in_order)) in_order in
      subst (λ (ms : List Message). AllByRecursion (IsNumbered it ms) xs) (append-nil (messages_in it xs) ∙ (laws.sent_is peer a.me (a.sent l) (r.links l peer at) life).messages) (laws.numbers peer a.me xs own life []).messages_are

  all_by_place : AllByRecursion (IsNumbered it messages) (of_peer peer a.came ++ (of_peer peer a.inbox ++ a.upcoming l))
  all_by_place = subst (λ (xs : List Inbound). AllByRecursion (IsNumbered it messages) xs) read_is all_read

  behind_all : AllByRecursion (IsNumbered it messages) (of_peer peer a.inbox ++ a.upcoming l)
  behind_all = all_back (IsNumbered it messages) (of_peer peer a.came) (of_peer peer a.inbox ++ a.upcoming l) all_by_place

  came_all : AllByRecursion (IsNumbered it messages) a.came
  came_all = laws.others it messages a.came (all_front (IsNumbered it messages) (of_peer peer a.came) (of_peer peer a.inbox ++ a.upcoming l) all_by_place)

  inbox_all : AllByRecursion (IsNumbered it messages) a.inbox
  inbox_all = laws.others it messages a.inbox (all_front (IsNumbered it messages) (of_peer peer a.inbox) (a.upcoming l) behind_all)

  pub held_are_messages : HeldAreMessages a l it
  held_are_messages = record {
    on_way = have_messages (start_of a) a.came it messages came_all (leaving a) (all_back (HasCause (start_of a) a.came) r.took (leaving a) (left_caused laws a r));
    parked = λ parked are. parked_messages (start_by a.me a.peers a.pending) a.came it messages came_all parked (laws.parked a.me a.peers a.came r.given a.pending parked r.pends are).came;
    inbox = inbox_all;
    upcoming = all_back (IsNumbered it messages) (of_peer peer a.inbox) (a.upcoming l) behind_all;
  }

  pub is_live_by_place : IsLiveByPlace a it
  is_live_by_place before rest e =
      let sane : IsSane a.set = subst IsSane r.local r.pends.local_is_sane in
      laws.live a.me a.peers a.set before rest sane (subst (λ (xs : List Inbound). HasShape a.me a.peers xs) e shape) l peer at life
