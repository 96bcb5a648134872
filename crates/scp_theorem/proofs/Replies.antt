-- What the pending stage replies may be sent.
use Rattle.std.proofs.Common.{◌≡◌, ℕ, List, [], ◌∷◌, ◌++◌, refl, sym, ◌∙◌, ap, subst}
use Rattle.std.specs.Prelude.{Option, Some, None, Any, slice_get}
use Rattle.std.proofs.lemmas.List.Quantifiers.{Any-push}
use Rattle.scp_outbox.specs.scp_types.specs.declared.names.ConnId.{ConnId}
use Rattle.scp_outbox.specs.scp_types.specs.declared.names.Hash.{Hash}
use Rattle.scp_outbox.specs.scp_types.specs.declared.names.NodeId.{NodeId}
use Rattle.scp_outbox.specs.scp_wire.specs.declared.message.Message.{Message}
use Rattle.scp_outbox.specs.scp_wire.specs.declared.message.Message.TheVariants.{Envelope, GetSet, Set, NoSet, GetRecord, Record, Records}
use Rattle.scp_outbox.specs.scp_wire.specs.declared.link.Inbound.{Inbound}
use Rattle.scp_outbox.specs.scp_wire.specs.declared.link.Inbound.TheVariants as inbound
use Rattle.scp_outbox.specs.scp_wire.specs.Connections.{conn_at}
use Rattle.scp_apply.specs.scp_pending.specs.Fetching.{IsToBeAsked, IsAskedFor, IsReplied, IfReplied, RepliesAreAskedFor}
use Rattle.scp_apply.specs.scp_pending.specs.Linked.{NothingIsOfAStranger, WhoItIsStays}
use Rattle.scp_apply.specs.scp_pending.specs.Rules.{Settled, settled_by, reply}
use Rattle.scp_theorem.specs.Grounds.{Grounds, start_of, IsLifeOf, NamesSet, AsksForSet}
use Rattle.scp_theorem.specs.Laws.{MayAnswer}
use Rattle.scp_theorem.proofs.Growing.{Grows, may_more}

-- no reply, or one that may be sent, and is no statement
abbrev pub MayReply : Grounds → Option (ℕ × Message) → Type 0
MayReply g None = Unit {0}
MayReply g (Some a) = MayAnswer g a.0 a.1

-- by the laws of the pending stage
module _ (asked : RepliesAreAskedFor) (stays : WhoItIsStays) (links : NothingIsOfAStranger) (g : Grounds) (items : List Inbound) where
  abbrev s : Settled
  s = settled_by (start_of g.who) items

  -- a connection over the link is one of its lives
  life_of : (link : ℕ) (conn : ConnId) → slice_get s.peers link ≡ Some conn.from → conn.to ≡ g.who.me → IsLifeOf g.who link conn
  life_of link conn over to = record {
    peer = conn.from;
    there = subst (λ (peers : List NodeId). slice_get peers link ≡ Some conn.from) (stays (start_of g.who) items).peers over;
    life = conn.life;
    is = ap (λ (n : NodeId). conn_at conn.from n conn.life) to;
  }

  names_it : (x : Inbound) (link : ℕ) (hash : Hash) → g.taken ≡ items ++ x ∷ [] → IsToBeAsked s x link hash → Any (NamesSet hash) g.taken
  names_it x link hash at w =
      subst (λ (xs : List Inbound). Any (NamesSet hash) xs) (sym (at ∙ ap (λ (y : Inbound). items ++ y ∷ []) w.came))
      (Any-push (NamesSet hash) items (inbound.Carried w.x) w.names)

  asks_it : (x : Inbound) (link : ℕ) (hash : Hash) → g.taken ≡ items ++ x ∷ [] → IsAskedFor s x link hash → AsksForSet g link hash
  asks_it x link hash at w = record {
    conn = w.conn;
    of_link = life_of link w.conn w.over ((links g.who.me g.who.peers g.who.set items).opened w.conn w.live).to;
    before = items;
    rest = [];
    at = at ∙ ap (λ (y : Inbound). items ++ y ∷ []) w.came;
    live = w.live;
  }

  replied_may : (x : Inbound) (link : ℕ) (m : Message) → g.taken ≡ items ++ x ∷ [] → IsReplied s x link m → MayAnswer g link m
  replied_may x link (Envelope e) at w = absurd w
  replied_may x link (GetSet hash) at w = (names_it x link hash at w, refl)
  replied_may x link (Set set) at w = (asks_it x link _ at w.0, refl)
  replied_may x link (NoSet hash) at w = (asks_it x link hash at w.0, refl)
  replied_may x link (GetRecord slot) at w = absurd w
  replied_may x link (Record slot value) at w = absurd w
  replied_may x link (Records first values) at w = absurd w

  if_replied : (x : Inbound) (o : Option (ℕ × Message)) → g.taken ≡ items ++ x ∷ [] → IfReplied s x o → MayReply g o
  if_replied x None at w = tt
  if_replied x (Some r) at w = replied_may x r.0 r.1 at w

  pub reply_may : (x : Inbound) → g.taken ≡ items ++ x ∷ [] → MayReply g (reply s x)
  reply_may x at = if_replied x (reply s x) at (asked g.who.me g.who.peers g.who.set items x)

pub reply_more : (g h : Grounds) (answer : Option (ℕ × Message)) → Grows g h → MayReply g answer → MayReply h answer
reply_more g h None k may = tt
reply_more g h (Some a) k may = (may_more g h a.0 a.1 k may.0, may.1)
