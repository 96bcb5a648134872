-- What a node's stages hand out may be sent.
use Rattle.std.specs.Prelude.{◌≡◌, ℕ, List, All, None}
use Rattle.scp_apply.specs.scp_driver.specs.Driver.{Says}
use Rattle.scp_outbox.specs.scp_wire.specs.declared.message.Message.{Message}
use Rattle.scp_outbox.specs.Sent.{statement_of, AreNewer}
use Rattle.scp_apply.specs.scp_ledger.specs.declared.took.Outgoing.{Outgoing}
use Rattle.scp_apply.specs.scp_ledger.specs.Runs.{Taking, things, onwards_of, nothing_taken}
use Rattle.scp_theorem.specs.Account.{Account, Ran}
use Rattle.scp_theorem.specs.Grounds.{Grounds, MaySend}
use Rattle.scp_theorem.specs.Handed.{handed_by, replies_from, outs_of, ServesEach, nothing_applied, AnswersEach}
use Rattle.scp_theorem.specs.Kept.{start_of}

module _ {D : Type 0} where
  -- who the node is, what its pending stage took, and what its slot stage and its applier made of that
  abbrev pub grounds_in : Account D → Grounds
  grounds_in a = record {
    who = record { me = a.me; peers = a.peers; set = a.set };
    taken = a.came;
    journal = a.ledger.journal;
    decisions = a.ledger.decisions;
    applied = a.applier.applied;
  }

module _ {D : Type 0} (says : Says D) where
  -- Exactly what the three stages of a node handed out, each list in order. Each stage took, in order, what the one before it gave, except what
  -- is still between them, and began with nothing. The pending stage: its replies to all that came. The slot stage: what its ledger gave with each
  -- thing that it took. The applier: its answers to each thing that it took.
  pub record AreHandedOut (a : Account D) (replies said answers : List Outgoing) : Type 0 where
    pub ran : Ran says.level says.extracted says.combined says.place a
    pub replies_are : replies ≡ replies_from (start_of a) a.came
    pub takes : List Taking
    pub took_are : things takes ≡ ran.took
    pub onwards_are : onwards_of takes ≡ ran.onwards
    pub served : ServesEach says (nothing_taken a.me a.set a.ledger.driver a.peers a.ledger.first) takes a.ledger
    pub said_are : said ≡ outs_of takes
    pub answered : AnswersEach (nothing_applied a.ledger.first a.applier.base) ran.applied answers a.applier

-- the message may be sent over the link, and is no statement
abbrev pub MayAnswer : Grounds → ℕ → Message → Type 0
MayAnswer g link m = MaySend g link m × (statement_of m ≡ None)

-- All that is handed out for a link may be sent over it. Only the slot stage hands out statements,
-- and each is newer than those of its slot and kind before it.
pub record MayGo (g : Grounds) (link : ℕ) (replies said answers : List Message) : Type 0 where
  pub replies_may : All (MayAnswer g link) replies
  pub said_may : All (MaySend g link) said
  pub newer : AreNewer said
  pub answers_may : All (MayAnswer g link) answers

module _ {D : Type 0} (says : Says D) where
  -- all that a node's stages hand out is so
  abbrev pub HandedOutMayGo : Type 0
  HandedOutMayGo = (a : Account D) (replies said answers : List Outgoing) → AreHandedOut says a replies said answers → (link : ℕ) → MayGo (grounds_in a) link (handed_by replies link) (handed_by said link) (handed_by answers link)
