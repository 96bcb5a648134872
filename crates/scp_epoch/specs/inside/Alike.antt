-- Tests of whether two statements are equal, part by part.
-- No public clause reaches these definitions: nothing here need be believed.
use Rattle.std.specs.Prelude.{ℕ, Bool, true, false, ◌&&◌, List, Option, Some, None, nat_eq}
use Rattle.std.specs.Cmp.Lexicographic.{pointwise}
use Rattle.scp_again.specs.scp_types.specs.declared.ballot.Ballot.{Ballot}
use Rattle.scp_again.specs.scp_types.specs.Same.{same_hash, same_node}
use Rattle.scp_again.specs.scp_envelope.specs.declared.statement.Prepare.{Prepare}
use Rattle.scp_again.specs.scp_envelope.specs.declared.statement.Confirm.{Confirm}
use Rattle.scp_again.specs.scp_envelope.specs.declared.statement.Externalize.{Externalize}
use Rattle.scp_again.specs.scp_envelope.specs.declared.statement.Nominate.{Nominate}
use Rattle.scp_again.specs.scp_envelope.specs.declared.statement.Pledges.{Pledges}
use Rattle.scp_again.specs.scp_envelope.specs.declared.statement.Pledges.TheVariants.{Prepare as Preparing, Confirm as Confirming, Externalize as Externalizing, Nominate as Nominating}
use Rattle.scp_again.specs.scp_envelope.specs.declared.statement.Statement.{Statement}
use Rattle.scp_again.specs.scp_envelope.specs.declared.statement.Envelope.{Envelope}
use Rattle.scp_again.specs.scp_slot.specs.declared.machine.SlotMachine.{SlotMachine}
use Rattle.scp_again.specs.scp_ledger.specs.declared.journal.Decision.{Decision}
use Rattle.scp_again.specs.scp_ledger.specs.declared.journal.Origin.{Origin}
use Rattle.scp_again.specs.scp_ledger.specs.declared.journal.Origin.TheVariants.{Machine, Named}
use Rattle.scp_again.specs.scp_ledger.specs.Seen.{LedgerView, machine_at}
use Rattle.scp_epoch.specs.Saying.{nominated_by, balloted_by, decision_at}

-- two ballots have the same counter and the same value
abbrev pub same_ballot : Ballot → Ballot → Bool
same_ballot a b = nat_eq a.counter b.counter && pointwise nat_eq a.value b.value

-- both are absent, or both are there and the same
abbrev pub same_ballots : Option Ballot → Option Ballot → Bool
same_ballots None None = true
same_ballots None (Some b) = false
same_ballots (Some a) None = false
same_ballots (Some a) (Some b) = same_ballot a b

-- the same values, in the same order
abbrev pub same_values : List (List ℕ) → List (List ℕ) → Bool
same_values a b = pointwise (pointwise nat_eq) a b

-- all parts of a PREPARE are the same
abbrev pub same_prepare : Prepare → Prepare → Bool
same_prepare p q = same_hash p.set_hash q.set_hash && same_ballot p.ballot q.ballot && same_ballots p.prepared q.prepared && same_ballots p.prepared_prime q.prepared_prime && nat_eq p.n_commit q.n_commit && nat_eq p.n_high q.n_high

-- all parts of a CONFIRM are the same
abbrev pub same_confirm : Confirm → Confirm → Bool
same_confirm p q = same_ballot p.ballot q.ballot && nat_eq p.n_prepared q.n_prepared && nat_eq p.n_commit q.n_commit && nat_eq p.n_high q.n_high && same_hash p.set_hash q.set_hash

-- all parts of an EXTERNALIZE are the same
abbrev pub same_externalize : Externalize → Externalize → Bool
same_externalize p q = same_ballot p.commit q.commit && nat_eq p.n_high q.n_high && same_hash p.set_hash q.set_hash

-- all parts of a NOMINATE are the same
abbrev pub same_nominate : Nominate → Nominate → Bool
same_nominate p q = same_hash p.set_hash q.set_hash && same_values p.votes q.votes && same_values p.accepted q.accepted

-- they are of one kind, and say the same
abbrev pub same_pledges : Pledges → Pledges → Bool
same_pledges (Preparing p) (Preparing q) = same_prepare p q
same_pledges (Confirming p) (Confirming q) = same_confirm p q
same_pledges (Externalizing p) (Externalizing q) = same_externalize p q
same_pledges (Nominating p) (Nominating q) = same_nominate p q
same_pledges p q = false

-- one node says the same of one slot
abbrev pub same_statement : Statement → Statement → Bool
same_statement s t = same_node s.node t.node && nat_eq s.slot.0 t.slot.0 && same_pledges s.pledges t.pledges

-- one node says the same of one slot, with the same signature
abbrev pub same_envelope : Envelope → Envelope → Bool
same_envelope e f = same_statement e.statement f.statement && pointwise nat_eq e.signature f.signature

-- both decisions have the same own EXTERNALIZE, or neither has one
abbrev pub same_own : Origin → Origin → Bool
same_own (Named c s) (Named d t) = true
same_own (Machine n quorum own) (Machine m other theirs) = same_envelope own theirs
same_own (Named c s) (Machine m other theirs) = false
same_own (Machine n quorum own) (Named d t) = false

-- what both say is equal, or neither says anything
abbrev pub same_said : Option Pledges → Option Pledges → Bool
same_said None None = true
same_said (Some p) (Some q) = same_pledges p q
same_said None (Some q) = false
same_said (Some p) None = false

-- two decisions have the same value, and the same own EXTERNALIZE
abbrev pub same_decision : Decision → Decision → Bool
same_decision d e = pointwise nat_eq d.value e.value && same_own d.origin e.origin

-- the same of decisions that may be there
abbrev pub same_decisions : Option Decision → Option Decision → Bool
same_decisions None None = true
same_decisions (Some d) (Some e) = same_decision d e
same_decisions None (Some e) = false
same_decisions (Some d) None = false

-- the machines of a slot, if there are any, emitted the same last
abbrev pub same_machine : {D : Type 0} → Option (SlotMachine D) → Option (SlotMachine D) → Bool
same_machine one other = same_said (nominated_by one) (nominated_by other) && same_said (balloted_by one) (balloted_by other)

-- two ledgers say the same of a slot
abbrev pub same_at : {D : Type 0} → LedgerView D → LedgerView D → ℕ → Bool
same_at old new slot = same_decisions (decision_at old.decisions slot) (decision_at new.decisions slot) && same_machine (machine_at old.machines slot) (machine_at new.machines slot)
