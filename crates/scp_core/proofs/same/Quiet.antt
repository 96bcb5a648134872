-- The steps in which neither the ledger nor the applier has a part: what each comes to.
use Rattle.std.proofs.Common.{◌≡◌, ◌≢◌, ℕ, ◌+◌, Bool, true, false, List, [], ◌∷◌, ◌++◌, length, refl, sym, ◌∙◌, ap, subst, eq-eqb, arith}
use Rattle.std.specs.Prelude.{Option, Some, None, IsSome, is_some, nat_eq, slice_get, slice_set}
use Rattle.std.proofs.lemmas.Bool.{ne_eqb}
use Rattle.scp_theorem.specs.scp_driver.specs.Driver.{Says}
use Rattle.scp_theorem.specs.scp_wire.specs.declared.link.Command.{Command}
use Rattle.scp_theorem.specs.scp_wire.specs.declared.link.Command.TheVariants.{Propose, Round, Timer, Tick, Ask}
use Rattle.scp_theorem.specs.scp_wire.specs.declared.link.Inbound.{Inbound}
use Rattle.scp_theorem.specs.scp_wire.specs.declared.link.Inbound.TheVariants as inbound
use Rattle.scp_theorem.specs.scp_wire.specs.declared.link.LinkItem.{LinkItem}
use Rattle.scp_theorem.specs.scp_wire.specs.declared.link.LinkItem.TheVariants as item
use Rattle.scp_theorem.specs.scp_wire.specs.Connections.{conn_at}
use Rattle.scp_theorem.specs.scp_wire.specs.LinkReading.{reading, after}
use Rattle.scp_theorem.specs.scp_pending.specs.declared.ready.Ready.{Ready}
use Rattle.scp_theorem.specs.scp_ledger.specs.Seen.{LedgerView}
use Rattle.scp_theorem.specs.scp_ledger.specs.declared.took.Onward.{Onward}
use Rattle.scp_theorem.specs.scp_apply.specs.Applier.{ApplierView}
use Rattle.scp_theorem.proofs.Basics.{some_there}
use Rattle.scp_core.specs.History.{peer_at}
use Rattle.scp_core.specs.Node.{LinkView, NodeView, with_link, HasLink, Step}
use Rattle.scp_core.specs.declared.event.Event.TheVariants.{Open, Send, Close, Local, ReaderTake, ReaderPut, PendPut, SlotPut}
use Rattle.scp_core.specs.declared.event.Reply.{Reply}
use Rattle.scp_core.specs.declared.event.Reply.TheVariants.{Failed, NoLink, AlreadyOpen, LivesSpent, NotOpen, Full, Accepted, Blocked, Idle, Moved, NoMemory}

-- a reply, and the node then
pub record Outcome (D : Type 0) : Type 0 where
  pub reply : Reply
  pub node : NodeView D

module _ {D : Type 0} where
  abbrev pub comes : Reply → NodeView D → Outcome D
  comes reply node = record { reply = reply; node = node }

  -- the same node with another ledger and another applier
  abbrev pub with_stages : NodeView D → LedgerView D → ApplierView → NodeView D
  with_stages v ledger applier = record v { ledger = ledger; applier = applier }

  abbrev pub with_outcome : Outcome D → LedgerView D → ApplierView → Outcome D
  with_outcome o ledger applier = comes o.reply (with_stages o.node ledger applier)

  -- the outcome has no part of the ledger and the applier
  pub record IsQuiet (v : NodeView D) (ledger : LedgerView D) (applier : ApplierView) (here there : Outcome D) : Type 0 where
    pub alike : there ≡ with_outcome here ledger applier
    pub ledger_is : here.node.ledger ≡ v.ledger
    pub applier_is : here.node.applier ≡ v.applier

  stays : (reply : Reply) (new old : NodeView D) → new ≡ old → comes reply new ≡ comes reply old
  stays reply new old e = ap (comes reply) e

clash : (b : Bool) → b ≡ false → b ≡ true → ⊥
clash b f t = cc

-- ---- the tail of a link

module _ {D : Type 0} where
  abbrev open_by : NodeView D → ℕ → LinkView → Bool → Bool → Bool → Outcome D
  open_by v l k true spent full = comes AlreadyOpen v
  open_by v l k false true full = comes LivesSpent v
  open_by v l k false false true = comes Full v
  open_by v l k false false false = comes Accepted (with_link v l (record k { life = k.life + 1; is_open = true; queue = k.queue ++ item.Opened (conn_at (peer_at v.config l) v.config.me (k.life + 1)) ∷ [] }))

  abbrev open_at : NodeView D → ℕ → Option LinkView → Outcome D
  open_at v l None = comes NoLink v
  open_at v l (Some k) = open_by v l k k.is_open (nat_eq k.life 65535) (nat_eq (length k.queue) k.room)

  open_tests : (v : NodeView D) (l : ℕ) (k : LinkView) (a b c : Bool) → slice_get v.links l ≡ Some k → k.is_open ≡ a → nat_eq k.life 65535 ≡ b → nat_eq (length k.queue) k.room ≡ c → open_by v l k a b c ≡ open_at v l (slice_get v.links l)
  open_tests v l k a b c at x y z = (λ i. open_by v l k (sym x i) (sym y i) (sym z i)) ∙ ap (open_at v l) (sym at)

  open_frame : (v : NodeView D) (l : ℕ) (k : LinkView) (ledger : LedgerView D) (applier : ApplierView) (a b c : Bool) → IsQuiet v ledger applier (open_by v l k a b c) (open_by (with_stages v ledger applier) l k a b c)
  open_frame v l k ledger applier true spent full = record { alike = refl; ledger_is = refl; applier_is = refl }
  open_frame v l k ledger applier false true full = record { alike = refl; ledger_is = refl; applier_is = refl }
  open_frame v l k ledger applier false false true = record { alike = refl; ledger_is = refl; applier_is = refl }
  open_frame v l k ledger applier false false false = record { alike = refl; ledger_is = refl; applier_is = refl }

  open_quiet : (v : NodeView D) (l : ℕ) (ledger : LedgerView D) (applier : ApplierView) (o : Option LinkView) → IsQuiet v ledger applier (open_at v l o) (open_at (with_stages v ledger applier) l o)
  open_quiet v l ledger applier None = record { alike = refl; ledger_is = refl; applier_is = refl }
  open_quiet v l ledger applier (Some k) = open_frame v l k ledger applier k.is_open (nat_eq k.life 65535) (nat_eq (length k.queue) k.room)

module _ {D : Type 0} (says : Says D) where
  open_is : (v new : NodeView D) (l : ℕ) (reply : Reply) → v.failed ≡ false → Step says v (Open l) reply new → comes reply new ≡ open_at v l (slice_get v.links l)
  open_is v new l Failed runs h = absurd (clash v.failed runs h.0)
  open_is v new l NoLink runs h = stays NoLink new v h.2 ∙ ap (open_at v l) (sym h.1)
  open_is v new l AlreadyOpen runs h = stays AlreadyOpen new v h.2 ∙ open_tests v l h.1.0 true _ _ h.1.1 h.1.2 refl refl
  open_is v new l LivesSpent runs h = stays LivesSpent new v h.2 ∙ open_tests v l h.1.0 false true _ h.1.1 h.1.2.0 (eq-eqb h.1.0.life 65535 h.1.2.1) refl
  open_is v new l Full runs h = stays Full new v h.2 ∙ open_tests v l h.1.0 false false true h.1.1 h.1.2.0 (ne_eqb h.1.0.life 65535 (λ e. omega (arith, e, h.1.2.1))) (eq-eqb (length h.1.0.queue) h.1.0.room h.1.2.2)
  open_is v new l Accepted runs h = stays Accepted new _ h.1.2.3 ∙ open_tests v l h.1.0 false false false h.1.1 h.1.2.0 (ne_eqb h.1.0.life 65535 (λ e. omega (arith, e, h.1.2.1))) (ne_eqb (length h.1.0.queue) h.1.0.room h.1.2.2)
  open_is v new l reply runs h = absurd h.1

module _ {D : Type 0} where
  abbrev send_by : NodeView D → ℕ → List ℕ → LinkView → Bool → Bool → Outcome D
  send_by v l bytes k false full = comes NotOpen v
  send_by v l bytes k true true = comes Full v
  send_by v l bytes k true false = comes Accepted (with_link v l (record k { queue = k.queue ++ item.Bytes (conn_at (peer_at v.config l) v.config.me k.life) bytes ∷ [] }))

  abbrev send_at : NodeView D → ℕ → List ℕ → Option LinkView → Outcome D
  send_at v l bytes None = comes NoLink v
  send_at v l bytes (Some k) = send_by v l bytes k k.is_open (nat_eq (length k.queue) k.room)

  send_tests : (v : NodeView D) (l : ℕ) (bytes : List ℕ) (k : LinkView) (a b : Bool) → slice_get v.links l ≡ Some k → k.is_open ≡ a → nat_eq (length k.queue) k.room ≡ b → send_by v l bytes k a b ≡ send_at v l bytes (slice_get v.links l)
  send_tests v l bytes k a b at x y = (λ i. send_by v l bytes k (sym x i) (sym y i)) ∙ ap (send_at v l bytes) (sym at)

  send_frame : (v : NodeView D) (l : ℕ) (bytes : List ℕ) (k : LinkView) (ledger : LedgerView D) (applier : ApplierView) (a b : Bool) → IsQuiet v ledger applier (send_by v l bytes k a b) (send_by (with_stages v ledger applier) l bytes k a b)
  send_frame v l bytes k ledger applier false full = record { alike = refl; ledger_is = refl; applier_is = refl }
  send_frame v l bytes k ledger applier true true = record { alike = refl; ledger_is = refl; applier_is = refl }
  send_frame v l bytes k ledger applier true false = record { alike = refl; ledger_is = refl; applier_is = refl }

  send_quiet : (v : NodeView D) (l : ℕ) (bytes : List ℕ) (ledger : LedgerView D) (applier : ApplierView) (o : Option LinkView) → IsQuiet v ledger applier (send_at v l bytes o) (send_at (with_stages v ledger applier) l bytes o)
  send_quiet v l bytes ledger applier None = record { alike = refl; ledger_is = refl; applier_is = refl }
  send_quiet v l bytes ledger applier (Some k) = send_frame v l bytes k ledger applier k.is_open (nat_eq (length k.queue) k.room)

module _ {D : Type 0} (says : Says D) where
  send_is : (v new : NodeView D) (l : ℕ) (bytes : List ℕ) (reply : Reply) → v.failed ≡ false → Step says v (Send l bytes) reply new → comes reply new ≡ send_at v l bytes (slice_get v.links l)
  send_is v new l bytes Failed runs h = absurd (clash v.failed runs h.0)
  send_is v new l bytes NoLink runs h = stays NoLink new v h.2 ∙ ap (send_at v l bytes) (sym h.1)
  send_is v new l bytes NotOpen runs h = stays NotOpen new v h.2 ∙ send_tests v l bytes h.1.0 false _ h.1.1 h.1.2 refl
  send_is v new l bytes Full runs h = stays Full new v h.2 ∙ send_tests v l bytes h.1.0 true true h.1.1 h.1.2.0 (eq-eqb (length h.1.0.queue) h.1.0.room h.1.2.1)
  send_is v new l bytes Accepted runs h = stays Accepted new _ h.1.2.2 ∙ send_tests v l bytes h.1.0 true false h.1.1 h.1.2.0 (ne_eqb (length h.1.0.queue) h.1.0.room h.1.2.1)
  send_is v new l bytes reply runs h = absurd h.1

module _ {D : Type 0} where
  abbrev close_by : NodeView D → ℕ → LinkView → Bool → Bool → Outcome D
  close_by v l k false full = comes NotOpen v
  close_by v l k true true = comes Full v
  close_by v l k true false = comes Accepted (with_link v l (record k { is_open = false; queue = k.queue ++ item.Closed (conn_at (peer_at v.config l) v.config.me k.life) ∷ [] }))

  abbrev close_at : NodeView D → ℕ → Option LinkView → Outcome D
  close_at v l None = comes NoLink v
  close_at v l (Some k) = close_by v l k k.is_open (nat_eq (length k.queue) k.room)

  close_tests : (v : NodeView D) (l : ℕ) (k : LinkView) (a b : Bool) → slice_get v.links l ≡ Some k → k.is_open ≡ a → nat_eq (length k.queue) k.room ≡ b → close_by v l k a b ≡ close_at v l (slice_get v.links l)
  close_tests v l k a b at x y = (λ i. close_by v l k (sym x i) (sym y i)) ∙ ap (close_at v l) (sym at)

  close_frame : (v : NodeView D) (l : ℕ) (k : LinkView) (ledger : LedgerView D) (applier : ApplierView) (a b : Bool) → IsQuiet v ledger applier (close_by v l k a b) (close_by (with_stages v ledger applier) l k a b)
  close_frame v l k ledger applier false full = record { alike = refl; ledger_is = refl; applier_is = refl }
  close_frame v l k ledger applier true true = record { alike = refl; ledger_is = refl; applier_is = refl }
  close_frame v l k ledger applier true false = record { alike = refl; ledger_is = refl; applier_is = refl }

  close_quiet : (v : NodeView D) (l : ℕ) (ledger : LedgerView D) (applier : ApplierView) (o : Option LinkView) → IsQuiet v ledger applier (close_at v l o) (close_at (with_stages v ledger applier) l o)
  close_quiet v l ledger applier None = record { alike = refl; ledger_is = refl; applier_is = refl }
  close_quiet v l ledger applier (Some k) = close_frame v l k ledger applier k.is_open (nat_eq (length k.queue) k.room)

module _ {D : Type 0} (says : Says D) where
  close_is : (v new : NodeView D) (l : ℕ) (reply : Reply) → v.failed ≡ false → Step says v (Close l) reply new → comes reply new ≡ close_at v l (slice_get v.links l)
  close_is v new l Failed runs h = absurd (clash v.failed runs h.0)
  close_is v new l NoLink runs h = stays NoLink new v h.2 ∙ ap (close_at v l) (sym h.1)
  close_is v new l NotOpen runs h = stays NotOpen new v h.2 ∙ close_tests v l h.1.0 false _ h.1.1 h.1.2 refl
  close_is v new l Full runs h = stays Full new v h.2 ∙ close_tests v l h.1.0 true true h.1.1 h.1.2.0 (eq-eqb (length h.1.0.queue) h.1.0.room h.1.2.1)
  close_is v new l Accepted runs h = stays Accepted new _ h.1.2.2 ∙ close_tests v l h.1.0 true false h.1.1 h.1.2.0 (ne_eqb (length h.1.0.queue) h.1.0.room h.1.2.1)
  close_is v new l reply runs h = absurd h.1

-- ---- a command

module _ {D : Type 0} where
  has_link : NodeView D → Command → Bool
  has_link v (Propose at value) = true
  has_link v (Round at) = true
  has_link v (Timer at) = true
  has_link v Tick = true
  has_link v (Ask link at) = is_some (slice_get v.links link)

  link_there : (v : NodeView D) (command : Command) → HasLink v command → has_link v command ≡ true
  unfolding has_link
  link_there v (Propose at value) h = refl
  link_there v (Round at) h = refl
  link_there v (Timer at) h = refl
  link_there v Tick h = refl
  link_there v (Ask link at) h = h

  no_link : (v : NodeView D) (command : Command) → (HasLink v command → ⊥) → has_link v command ≡ false
  unfolding has_link
  no_link v (Propose at value) h = absurd (h tt)
  no_link v (Round at) h = absurd (h tt)
  no_link v (Timer at) h = absurd (h tt)
  no_link v Tick h = absurd (h tt)
  no_link v (Ask link at) h = not_some (slice_get v.links link) h
    where
      not_some : (o : Option LinkView) → (IsSome o → ⊥) → is_some o ≡ false
      not_some None h = refl
      not_some (Some k) h = absurd (h refl)

  abbrev local_by : NodeView D → Command → Bool → Bool → Outcome D
  local_by v command false full = comes NoLink v
  local_by v command true true = comes Full v
  local_by v command true false = comes Accepted (record v { inbox = v.inbox ++ inbound.Local command ∷ [] })

  abbrev local_at : NodeView D → Command → Outcome D
  local_at v command = local_by v command (has_link v command) (nat_eq (length v.inbox) v.inbox_room)

  local_tests : (v : NodeView D) (command : Command) (a b : Bool) → has_link v command ≡ a → nat_eq (length v.inbox) v.inbox_room ≡ b → local_by v command a b ≡ local_at v command
  local_tests v command a b x y = λ i. local_by v command (sym x i) (sym y i)

  local_frame : (v : NodeView D) (command : Command) (ledger : LedgerView D) (applier : ApplierView) (a b : Bool) → IsQuiet v ledger applier (local_by v command a b) (local_by (with_stages v ledger applier) command a b)
  local_frame v command ledger applier false full = record { alike = refl; ledger_is = refl; applier_is = refl }
  local_frame v command ledger applier true true = record { alike = refl; ledger_is = refl; applier_is = refl }
  local_frame v command ledger applier true false = record { alike = refl; ledger_is = refl; applier_is = refl }

  same_link : (v : NodeView D) (command : Command) (ledger : LedgerView D) (applier : ApplierView) → has_link (with_stages v ledger applier) command ≡ has_link v command
  unfolding has_link
  same_link v (Propose at value) ledger applier = refl
  same_link v (Round at) ledger applier = refl
  same_link v (Timer at) ledger applier = refl
  same_link v Tick ledger applier = refl
  same_link v (Ask link at) ledger applier = refl

  local_quiet : (v : NodeView D) (command : Command) (ledger : LedgerView D) (applier : ApplierView) → IsQuiet v ledger applier (local_at v command) (local_at (with_stages v ledger applier) command)
  local_quiet v command ledger applier = subst (λ (b : Bool). IsQuiet v ledger applier (local_at v command) (local_by (with_stages v ledger applier) command b (nat_eq (length v.inbox) v.inbox_room))) (sym (same_link v command ledger applier)) (local_frame v command ledger applier (has_link v command) (nat_eq (length v.inbox) v.inbox_room))

module _ {D : Type 0} (says : Says D) where
  local_is : (v new : NodeView D) (command : Command) (reply : Reply) → v.failed ≡ false → Step says v (Local command) reply new → comes reply new ≡ local_at v command
  local_is v new command Failed runs h = absurd (clash v.failed runs h.0)
  local_is v new command NoLink runs h = stays NoLink new v h.2 ∙ local_tests v command false _ (no_link v command h.1) refl
  local_is v new command Full runs h = stays Full new v h.2 ∙ local_tests v command true true (link_there v command h.1.0) (eq-eqb (length v.inbox) v.inbox_room h.1.1)
  local_is v new command Accepted runs h = stays Accepted new _ h.1.2 ∙ local_tests v command true false (link_there v command h.1.0) (ne_eqb (length v.inbox) v.inbox_room h.1.1)
  local_is v new command reply runs h = absurd h.1

-- ---- the reader of a link

module _ {D : Type 0} where
  abbrev read_by : NodeView D → ℕ → LinkView → List Inbound → List LinkItem → Outcome D
  read_by v l k (x ∷ xs) queue = comes Blocked v
  read_by v l k [] [] = comes Idle v
  read_by v l k [] (x ∷ rest) = comes Moved (with_link v l (record k { queue = rest; reader = after k.reader x; hand = reading k.reader x }))

  abbrev read_at : NodeView D → ℕ → Option LinkView → Outcome D
  read_at v l None = comes NoLink v
  read_at v l (Some k) = read_by v l k k.hand k.queue

  read_tests : (v : NodeView D) (l : ℕ) (k : LinkView) (hand : List Inbound) (queue : List LinkItem) → slice_get v.links l ≡ Some k → k.hand ≡ hand → k.queue ≡ queue → read_by v l k hand queue ≡ read_at v l (slice_get v.links l)
  read_tests v l k hand queue at x y = (λ i. read_by v l k (sym x i) (sym y i)) ∙ ap (read_at v l) (sym at)

  read_frame : (v : NodeView D) (l : ℕ) (k : LinkView) (ledger : LedgerView D) (applier : ApplierView) (hand : List Inbound) (queue : List LinkItem) → IsQuiet v ledger applier (read_by v l k hand queue) (read_by (with_stages v ledger applier) l k hand queue)
  read_frame v l k ledger applier (x ∷ xs) queue = record { alike = refl; ledger_is = refl; applier_is = refl }
  read_frame v l k ledger applier [] [] = record { alike = refl; ledger_is = refl; applier_is = refl }
  read_frame v l k ledger applier [] (x ∷ rest) = record { alike = refl; ledger_is = refl; applier_is = refl }

  read_quiet : (v : NodeView D) (l : ℕ) (ledger : LedgerView D) (applier : ApplierView) (o : Option LinkView) → IsQuiet v ledger applier (read_at v l o) (read_at (with_stages v ledger applier) l o)
  read_quiet v l ledger applier None = record { alike = refl; ledger_is = refl; applier_is = refl }
  read_quiet v l ledger applier (Some k) = read_frame v l k ledger applier k.hand k.queue

pub some_first : {X : Type 0} (xs : List X) → xs ≢ [] → (x : X) × (rest : List X) × (xs ≡ x ∷ rest)
some_first [] h = absurd (h refl)
some_first (x ∷ rest) h = (x, rest, refl)

module _ {D : Type 0} (says : Says D) where
  read_is : (v new : NodeView D) (l : ℕ) (reply : Reply) → v.failed ≡ false → reply ≢ NoMemory → Step says v (ReaderTake l) reply new → comes reply new ≡ read_at v l (slice_get v.links l)
  read_is v new l Failed runs memory h = absurd (clash v.failed runs h.0)
  read_is v new l NoLink runs memory h = stays NoLink new v h.2 ∙ ap (read_at v l) (sym h.1)
  read_is v new l Blocked runs memory h = let some = some_first h.1.0.hand h.1.2 in stays Blocked new v h.2 ∙ read_tests v l h.1.0 (some.0 ∷ some.1) h.1.0.queue h.1.1 some.2 refl
  read_is v new l Idle runs memory h = stays Idle new v h.2 ∙ read_tests v l h.1.0 [] [] h.1.1 h.1.2.0 h.1.2.1
  read_is v new l Moved runs memory h = stays Moved new _ h.1.2.4 ∙ read_tests v l h.1.0 [] (h.1.2.1 ∷ h.1.2.2) h.1.1 h.1.2.0 h.1.2.3
  read_is v new l NoMemory runs memory h = absurd (memory refl)
  read_is v new l reply runs memory h = absurd h.1

module _ {D : Type 0} where
  abbrev give_by : NodeView D → ℕ → LinkView → List Inbound → Bool → Outcome D
  give_by v l k [] full = comes Idle v
  give_by v l k (x ∷ xs) true = comes Blocked v
  give_by v l k (x ∷ xs) false = comes Moved (record v { links = slice_set v.links l (record k { hand = xs }); inbox = v.inbox ++ x ∷ [] })

  abbrev give_at : NodeView D → ℕ → Option LinkView → Outcome D
  give_at v l None = comes NoLink v
  give_at v l (Some k) = give_by v l k k.hand (nat_eq (length v.inbox) v.inbox_room)

  give_tests : (v : NodeView D) (l : ℕ) (k : LinkView) (hand : List Inbound) (full : Bool) → slice_get v.links l ≡ Some k → k.hand ≡ hand → nat_eq (length v.inbox) v.inbox_room ≡ full → give_by v l k hand full ≡ give_at v l (slice_get v.links l)
  give_tests v l k hand full at x y = (λ i. give_by v l k (sym x i) (sym y i)) ∙ ap (give_at v l) (sym at)

  give_frame : (v : NodeView D) (l : ℕ) (k : LinkView) (ledger : LedgerView D) (applier : ApplierView) (hand : List Inbound) (full : Bool) → IsQuiet v ledger applier (give_by v l k hand full) (give_by (with_stages v ledger applier) l k hand full)
  give_frame v l k ledger applier [] full = record { alike = refl; ledger_is = refl; applier_is = refl }
  give_frame v l k ledger applier (x ∷ xs) true = record { alike = refl; ledger_is = refl; applier_is = refl }
  give_frame v l k ledger applier (x ∷ xs) false = record { alike = refl; ledger_is = refl; applier_is = refl }

  give_quiet : (v : NodeView D) (l : ℕ) (ledger : LedgerView D) (applier : ApplierView) (o : Option LinkView) → IsQuiet v ledger applier (give_at v l o) (give_at (with_stages v ledger applier) l o)
  give_quiet v l ledger applier None = record { alike = refl; ledger_is = refl; applier_is = refl }
  give_quiet v l ledger applier (Some k) = give_frame v l k ledger applier k.hand (nat_eq (length v.inbox) v.inbox_room)

module _ {D : Type 0} (says : Says D) where
  give_is : (v new : NodeView D) (l : ℕ) (reply : Reply) → v.failed ≡ false → Step says v (ReaderPut l) reply new → comes reply new ≡ give_at v l (slice_get v.links l)
  give_is v new l Failed runs h = absurd (clash v.failed runs h.0)
  give_is v new l NoLink runs h = stays NoLink new v h.2 ∙ ap (give_at v l) (sym h.1)
  give_is v new l Idle runs h = stays Idle new v h.2 ∙ give_tests v l h.1.0 [] _ h.1.1 h.1.2 refl
  give_is v new l Blocked runs h = let some = some_first h.1.0.hand h.1.2.0 in stays Blocked new v h.2 ∙ give_tests v l h.1.0 (some.0 ∷ some.1) true h.1.1 some.2 (eq-eqb (length v.inbox) v.inbox_room h.1.2.1)
  give_is v new l Moved runs h = stays Moved new _ h.1.2.4 ∙ give_tests v l h.1.0 (h.1.2.1 ∷ h.1.2.2) false h.1.1 h.1.2.3 (ne_eqb (length v.inbox) v.inbox_room h.1.2.0)
  give_is v new l reply runs h = absurd h.1

-- ---- hands into queues

module _ {D : Type 0} where
  abbrev ready_by : NodeView D → Option Ready → Bool → Outcome D
  ready_by v None full = comes Idle v
  ready_by v (Some x) true = comes Blocked v
  ready_by v (Some x) false = comes Moved (record v { pend_hand = None; ready = v.ready ++ x ∷ [] })

  abbrev ready_at : NodeView D → Outcome D
  ready_at v = ready_by v v.pend_hand (nat_eq (length v.ready) v.ready_room)

  ready_tests : (v : NodeView D) (hand : Option Ready) (full : Bool) → v.pend_hand ≡ hand → nat_eq (length v.ready) v.ready_room ≡ full → ready_by v hand full ≡ ready_at v
  ready_tests v hand full x y = λ i. ready_by v (sym x i) (sym y i)

  ready_frame : (v : NodeView D) (ledger : LedgerView D) (applier : ApplierView) (hand : Option Ready) (full : Bool) → IsQuiet v ledger applier (ready_by v hand full) (ready_by (with_stages v ledger applier) hand full)
  ready_frame v ledger applier None full = record { alike = refl; ledger_is = refl; applier_is = refl }
  ready_frame v ledger applier (Some x) true = record { alike = refl; ledger_is = refl; applier_is = refl }
  ready_frame v ledger applier (Some x) false = record { alike = refl; ledger_is = refl; applier_is = refl }

module _ {D : Type 0} (says : Says D) where
  ready_is : (v new : NodeView D) (reply : Reply) → v.failed ≡ false → Step says v PendPut reply new → comes reply new ≡ ready_at v
  ready_is v new Failed runs h = absurd (clash v.failed runs h.0)
  ready_is v new Idle runs h = stays Idle new v h.2 ∙ ready_tests v None _ h.1 refl
  ready_is v new Blocked runs h = let some = some_there v.pend_hand h.1.0 in stays Blocked new v h.2 ∙ ready_tests v (Some some.0) true some.1 (eq-eqb (length v.ready) v.ready_room h.1.1)
  ready_is v new Moved runs h = stays Moved new _ h.1.3 ∙ ready_tests v (Some h.1.1) false h.1.2 (ne_eqb (length v.ready) v.ready_room h.1.0)
  ready_is v new reply runs h = absurd h.1

module _ {D : Type 0} where
  abbrev decided_by : NodeView D → Option Onward → Bool → Outcome D
  decided_by v None full = comes Idle v
  decided_by v (Some x) true = comes Blocked v
  decided_by v (Some x) false = comes Moved (record v { slot_hand = None; decided = v.decided ++ x ∷ [] })

  abbrev decided_at : NodeView D → Outcome D
  decided_at v = decided_by v v.slot_hand (nat_eq (length v.decided) v.decided_room)

  decided_tests : (v : NodeView D) (hand : Option Onward) (full : Bool) → v.slot_hand ≡ hand → nat_eq (length v.decided) v.decided_room ≡ full → decided_by v hand full ≡ decided_at v
  decided_tests v hand full x y = λ i. decided_by v (sym x i) (sym y i)

  decided_frame : (v : NodeView D) (ledger : LedgerView D) (applier : ApplierView) (hand : Option Onward) (full : Bool) → IsQuiet v ledger applier (decided_by v hand full) (decided_by (with_stages v ledger applier) hand full)
  decided_frame v ledger applier None full = record { alike = refl; ledger_is = refl; applier_is = refl }
  decided_frame v ledger applier (Some x) true = record { alike = refl; ledger_is = refl; applier_is = refl }
  decided_frame v ledger applier (Some x) false = record { alike = refl; ledger_is = refl; applier_is = refl }

module _ {D : Type 0} (says : Says D) where
  decided_is : (v new : NodeView D) (reply : Reply) → v.failed ≡ false → Step says v SlotPut reply new → comes reply new ≡ decided_at v
  decided_is v new Failed runs h = absurd (clash v.failed runs h.0)
  decided_is v new Idle runs h = stays Idle new v h.2 ∙ decided_tests v None _ h.1 refl
  decided_is v new Blocked runs h = let some = some_there v.slot_hand h.1.0 in stays Blocked new v h.2 ∙ decided_tests v (Some some.0) true some.1 (eq-eqb (length v.decided) v.decided_room h.1.1)
  decided_is v new Moved runs h = stays Moved new _ h.1.3 ∙ decided_tests v (Some h.1.1) false h.1.2 (ne_eqb (length v.decided) v.decided_room h.1.0)
  decided_is v new reply runs h = absurd h.1

-- ---- all of them

module _ {D : Type 0} where
  -- of two nodes that differ in the ledger and the applier alone: one reply, and nodes that differ so again
  pub record QuietStep (v : NodeView D) (ledger : LedgerView D) (applier : ApplierView) (reply other : Reply) (new there : NodeView D) : Type 0 where
    pub same : reply ≡ other
    pub alike : there ≡ with_stages new ledger applier
    pub ledger_is : new.ledger ≡ v.ledger
    pub applier_is : new.applier ≡ v.applier

  quiet : (v : NodeView D) (ledger : LedgerView D) (applier : ApplierView) (reply other : Reply) (new there : NodeView D) (here beside : Outcome D) → comes reply new ≡ here → comes other there ≡ beside → IsQuiet v ledger applier here beside → QuietStep v ledger applier reply other new there
  quiet v ledger applier reply other new there here beside x y q = record {
    same = ap (λ (o : Outcome D). o.reply) x ∙ sym (ap (λ (o : Outcome D). o.reply) q.alike) ∙ sym (ap (λ (o : Outcome D). o.reply) y);
    alike = ap (λ (o : Outcome D). o.node) y ∙ ap (λ (o : Outcome D). o.node) q.alike ∙ ap (λ (o : Outcome D). with_stages o.node ledger applier) (sym x);
    ledger_is = ap (λ (o : Outcome D). o.node.ledger) x ∙ q.ledger_is;
    applier_is = ap (λ (o : Outcome D). o.node.applier) x ∙ q.applier_is;
  }

module _ {D : Type 0} (says : Says D) where
  module _ (v : NodeView D) (ledger : LedgerView D) (applier : ApplierView) (reply other : Reply) (new there : NodeView D) (runs : v.failed ≡ false) (memory : reply ≢ NoMemory) (enough : other ≢ NoMemory) where
    abbrev u : NodeView D
    u = with_stages v ledger applier

    pub opens_alike : (l : ℕ) → Step says v (Open l) reply new → Step says u (Open l) other there → QuietStep v ledger applier reply other new there
    opens_alike l x y = quiet v ledger applier reply other new there _ _ (open_is says v new l reply runs x) (open_is says u there l other runs y) (open_quiet v l ledger applier (slice_get v.links l))

    pub sends_alike : (l : ℕ) (bytes : List ℕ) → Step says v (Send l bytes) reply new → Step says u (Send l bytes) other there → QuietStep v ledger applier reply other new there
    sends_alike l bytes x y = quiet v ledger applier reply other new there _ _ (send_is says v new l bytes reply runs x) (send_is says u there l bytes other runs y) (send_quiet v l bytes ledger applier (slice_get v.links l))

    pub closes_alike : (l : ℕ) → Step says v (Close l) reply new → Step says u (Close l) other there → QuietStep v ledger applier reply other new there
    closes_alike l x y = quiet v ledger applier reply other new there _ _ (close_is says v new l reply runs x) (close_is says u there l other runs y) (close_quiet v l ledger applier (slice_get v.links l))

    pub enters_alike : (command : Command) → Step says v (Local command) reply new → Step says u (Local command) other there → QuietStep v ledger applier reply other new there
    enters_alike command x y = quiet v ledger applier reply other new there _ _ (local_is says v new command reply runs x) (local_is says u there command other runs y) (local_quiet v command ledger applier)

    pub reads_alike : (l : ℕ) → Step says v (ReaderTake l) reply new → Step says u (ReaderTake l) other there → QuietStep v ledger applier reply other new there
    reads_alike l x y = quiet v ledger applier reply other new there _ _ (read_is says v new l reply runs memory x) (read_is says u there l other runs enough y) (read_quiet v l ledger applier (slice_get v.links l))

    pub gives_alike : (l : ℕ) → Step says v (ReaderPut l) reply new → Step says u (ReaderPut l) other there → QuietStep v ledger applier reply other new there
    gives_alike l x y = quiet v ledger applier reply other new there _ _ (give_is says v new l reply runs x) (give_is says u there l other runs y) (give_quiet v l ledger applier (slice_get v.links l))

    pub pends_alike : Step says v PendPut reply new → Step says u PendPut other there → QuietStep v ledger applier reply other new there
    pends_alike x y = quiet v ledger applier reply other new there _ _ (ready_is says v new reply runs x) (ready_is says u there other runs y) (ready_frame v ledger applier v.pend_hand (nat_eq (length v.ready) v.ready_room))

    pub puts_alike : Step says v SlotPut reply new → Step says u SlotPut other there → QuietStep v ledger applier reply other new there
    puts_alike x y = quiet v ledger applier reply other new there _ _ (decided_is says v new reply runs x) (decided_is says u there other runs y) (decided_frame v ledger applier v.slot_hand (nat_eq (length v.decided) v.decided_room))
