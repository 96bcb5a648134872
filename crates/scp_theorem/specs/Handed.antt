-- What the stages of a node hand out for its links (this project's profile).
use Rattle.std.specs.Prelude.{◌≡◌, ℕ, false, List, [], ◌∷◌, ◌++◌, Option, Some, None, flat_map}
use Rattle.scp_apply.specs.scp_driver.specs.Driver.{Says}
use Rattle.scp_outbox.specs.scp_wire.specs.declared.link.Inbound.{Inbound}
use Rattle.scp_outbox.specs.scp_wire.specs.declared.message.Message.{Message}
use Rattle.scp_outbox.specs.scp_wire.specs.declared.message.Message.TheVariants.{Envelope}
use Rattle.scp_outbox.specs.Handing.{to_link}
use Rattle.scp_apply.specs.scp_pending.specs.Rules.{Settled, rules, reply}
use Rattle.scp_apply.specs.scp_ledger.specs.declared.took.Onward.{Onward}
use Rattle.scp_apply.specs.scp_ledger.specs.declared.took.Outgoing.{Outgoing}
use Rattle.scp_apply.specs.scp_ledger.specs.declared.took.Outgoing.TheVariants.{ToAll, To}
use Rattle.scp_apply.specs.scp_ledger.specs.By.{TakesBy, TellsBy, RunsBy}
use Rattle.scp_apply.specs.scp_ledger.specs.Ledger.{IsLedger}
use Rattle.scp_apply.specs.scp_ledger.specs.Runs.{Taking}
use Rattle.scp_apply.specs.scp_ledger.specs.Seen.{LedgerView}
use Rattle.scp_apply.specs.Applier.{ApplierView, IsApplier, IsRunning, Takes}

-- ---- for each link

-- what goes out to all peers is for each link
abbrev pub messages_for : ℕ → Outgoing → List Message
messages_for link (ToAll envelope) = Envelope (record { value = envelope }) ∷ []
messages_for link (To l message) = to_link l message link

-- all that goes out, for each link
abbrev pub handed_by : List Outgoing → ℕ → List Message
handed_by outgoing link = flat_map (messages_for link) outgoing

-- ---- of each stage

-- an answer goes to its link
abbrev pub out_of : Option (ℕ × Message) → List Outgoing
out_of None = []
out_of (Some answer) = To answer.0 answer.1 ∷ []

-- a pending stage hands out its replies to the items that it takes, one after another
abbrev pub replies_from : Settled → List Inbound → List Outgoing
replies_from s [] = []
replies_from s (item ∷ items) = out_of (reply s item) ++ replies_from (rules s item) items

-- the slot stage hands out what its ledger gives with each thing
abbrev pub out_by : Taking → List Outgoing
out_by t = t.gave.outgoing

-- what the slot stage hands out with each of these, in order
abbrev pub outs_of : List Taking → List Outgoing
outs_of takes = flat_map out_by takes

module _ {D : Type 0} (says : Says D) where
  -- A ledger took this thing, gave this, reported this of it if it is a command, and is the new one then. The new one runs, so its lowest slot is
  -- the first without a decision.
  pub record Serves (old : LedgerView D) (t : Taking) (new : LedgerView D) : Type 0 where
    pub takes : TakesBy says old t.thing t.gave new
    pub tells : TellsBy says old t.thing t.gave
    pub known : IsLedger new
    pub running : RunsBy says new

  -- each thing was taken by the ledger that the one before it left
  abbrev pub ServesEach : LedgerView D → List Taking → LedgerView D → Type 0
  ServesEach old [] new = new ≡ old
  ServesEach old (t ∷ takes) new = (between : LedgerView D) × Serves old t between × ServesEach between takes new

-- an applier that took nothing, and began with this first slot and with the state that these bytes say
abbrev pub nothing_applied : ℕ → List ℕ → ApplierView
nothing_applied first base = record { first = first; base = base; failed = false; applied = []; buffer = [] }

-- An applier took this thing, gave this answer, and is the new one then. The new one runs, so the slot that is next isn't buffered.
pub record Answers (old : ApplierView) (x : Onward) (answer : Option (ℕ × Message)) (new : ApplierView) : Type 0 where
  pub takes : Takes old x answer new
  pub known : IsApplier new
  pub running : IsRunning new

-- each thing was taken by the applier that the one before it left; these are the answers, in order: to each thing one, or none
abbrev pub AnswersEach : ApplierView → List Onward → List Outgoing → ApplierView → Type 0
AnswersEach old [] out new = (out ≡ []) × (new ≡ old)
AnswersEach old (x ∷ xs) out new = (answer : Option (ℕ × Message)) × (between : ApplierView) × Answers old x answer between × (rest : List Outgoing) × (out ≡ out_of answer ++ rest) × AnswersEach between xs rest new
