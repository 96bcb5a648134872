-- What contracts see of a courier, and of what it ends with.
use Rattle.std.specs.Prelude.{◌≡◌, ℕ, Bool, true, false, Option, IfSome, List, [], ◌∷◌, ◌++◌}
use Rattle.std.specs.List.{AllByRecursion}
use Rattle.scp_theorem.specs.scp_wire.specs.declared.link.LinkItem.{LinkItem}
use Rattle.scp_theorem.specs.scp_wire.specs.declared.link.LinkItem.TheVariants as item
use Rattle.scp_theorem.specs.scp_wire.specs.declared.message.Message.{Message}
use Rattle.scp_theorem.specs.scp_wire.specs.Message.{message_value, SpellsMessage}
use Rattle.scp_theorem.specs.scp_outbox.specs.declared.mark.Mark.{Mark}
use Rattle.scp_theorem.specs.scp_outbox.specs.declared.mark.Mark.TheVariants.{Opened, Closed, Stop}
use Rattle.scp_theorem.specs.scp_outbox.specs.declared.mark.Out.{Out}
use Rattle.scp_theorem.specs.scp_outbox.specs.declared.mark.Out.TheVariants as out
use Rattle.scp_ends.specs.Links.{LinkEnd, stands, conn_now, conn_next, with_item}
use Rattle.scp_shared_outbox.specs.Ends.{TakerView}

-- ---- what goes over a link

-- bytes that were sent encode a message
abbrev pub IsSpelt : LinkItem → Type 0
IsSpelt (item.Opened conn) = Unit {0}
IsSpelt (item.Bytes conn bytes) = (message : Message) × SpellsMessage bytes (message_value message)
IsSpelt (item.Closed conn) = Unit {0}

-- all bytes among the items encode messages
abbrev pub AreSpelt : List LinkItem → Type 0
AreSpelt items = AllByRecursion IsSpelt items

-- a mark opens or closes the link; Stop is for the end
abbrev pub Tells : Mark → LinkEnd → LinkEnd → Type 0
Tells Opened old new = new ≡ with_item old (item.Opened (conn_next old))
Tells Closed old new = new ≡ with_item old (item.Closed (conn_now old))
Tells Stop old new = new ≡ old

-- what was given is what was sent: a mark, or the encoding of a message
abbrev pub Carries : Out → LinkEnd → LinkEnd → Type 0
Carries (out.Mark mark) old new = Tells mark old new
Carries (out.Message message) old new = (bytes : List ℕ) × SpellsMessage bytes (message_value message) × (new ≡ with_item old (item.Bytes (conn_now old) bytes))
Carries out.Nothing old new = new ≡ old

-- each of these was carried, one after the other
abbrev pub Carried : List Out → LinkEnd → LinkEnd → Type 0
Carried [] old new = new ≡ old
Carried (x ∷ xs) old new = (between : LinkEnd) × Carries x old between × Carried xs between new

-- the link before anything was sent over it
abbrev pub unsent : LinkEnd → LinkEnd
unsent k = record k { tail = record k.tail { sent = [] } }

-- ---- what it was given

-- it is the mark that ends a courier
abbrev pub is_stop : Out → Bool
is_stop (out.Mark Stop) = true
is_stop (out.Mark Opened) = false
is_stop (out.Mark Closed) = false
is_stop (out.Message message) = false
is_stop out.Nothing = false

-- none of these is Stop
abbrev pub HaveNoStop : List Out → Type 0
HaveNoStop outs = AllByRecursion (λ x. is_stop x ≡ false) outs

-- the last one is Stop, and no other
pub record EndAtStop (outs : List Out) : Type 0 where
  pub front : List Out
  pub last : outs ≡ front ++ out.Mark Stop ∷ []
  pub no_other : HaveNoStop front

-- ---- a courier

-- what contracts see of a courier that works: the sending end of its link, the end of the outbox
-- through which it is given what waits, and whether it failed
pub record CourierWorking : Type 0 where
  pub link : LinkEnd
  pub taker : TakerView
  pub failed : Bool

-- what a courier ends with: its link's end, if it ended well; the end of the outbox; how
-- often it opened the link; and whether it left the link open
pub record CourierEnd : Type 0 where
  pub link : Option LinkEnd
  pub taker : TakerView
  pub lives : ℕ
  pub is_open : Bool

-- the link was opened this often and is open or not as this says, and all bytes that went over it encode messages
pub record IsCarried (lives : ℕ) (is_open : Bool) (k : LinkEnd) : Type 0 where
  pub opened : (stands k).life ≡ lives
  pub left_open : (stands k).is_open ≡ is_open
  pub spelt : AreSpelt k.tail.sent

-- the last that it was given is Stop, and no other is; what it sent is all of that, in order, from the first on
pub record HasCarried (given : List Out) (k : LinkEnd) : Type 0 where
  pub ends : EndAtStop given
  pub carried : Carried given (unsent k) k

-- it is the same link
pub record IsSameLink (k now : LinkEnd) : Type 0 where
  pub from : now.from ≡ k.from
  pub to : now.to ≡ k.to
  pub line : now.tail.line ≡ k.tail.line
  pub number : now.tail.number ≡ k.tail.number

-- it is the same end of an outbox
pub record IsSameTaker (t now : TakerView) : Type 0 where
  pub desk : now.desk ≡ t.desk
  pub producers : now.producers ≡ t.producers

-- it has the link and the end of the outbox that the courier was given
pub record Holds (w : CourierWorking) (e : CourierEnd) : Type 0 where
  pub link : IfSome e.link (IsSameLink w.link)
  pub taker : IsSameTaker w.taker e.taker
