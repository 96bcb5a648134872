-- The status of a slot's machine, in lines (this project's profile).
use Rattle.std.specs.Prelude.{◌≡◌, ◌↔◌, ℕ, Bool, true, false, not, ◌&&◌, ◌||◌, List, [], ◌∷◌, ◌++◌, filter, flat_map, Contains, Option, Some, None, is_some, if◌then◌else◌, nat_eq, nat_lt, codes}
use Rattle.std.specs.Fmt.{decimal}
use Rattle.std.specs.List.{list_any}
use Rattle.std.specs.Cmp.Lexicographic.{pointwise}
use Rattle.std.specs.List.Sorted.{IsStrictlySortedBy}
use Rattle.scp_slot.specs.scp_types.specs.declared.names.NodeId.{NodeId}
use Rattle.scp_slot.specs.scp_quorum.specs.NodeSet.{node_cmp}
use Rattle.scp_slot.specs.scp_envelope.specs.declared.statement.Envelope.{Envelope}
use Rattle.scp_slot.specs.scp_envelope.specs.declared.statement.Pledges.{Pledges}
use Rattle.scp_slot.specs.scp_envelope.specs.declared.statement.Pledges.TheVariants.{Prepare, Confirm, Externalize, Nominate}
use Rattle.scp_slot.specs.scp_vote.specs.declared.board.Board.{Board}
use Rattle.scp_slot.specs.scp_vote.specs.declared.claim.StatementKind.TheVariants.{Nomination as Nominating, Balloting}
use Rattle.scp_slot.specs.scp_vote.specs.declared.claim.Claim.{Claim}
use Rattle.scp_slot.specs.scp_vote.specs.declared.claim.Claim.TheVariants.{Prepared, Committed, Nominated}
use Rattle.scp_slot.specs.scp_vote.specs.Board.{Seen}
use Rattle.scp_slot.specs.scp_vote.specs.Seen.{seen, envelope_at}
use Rattle.scp_script.specs.scp_wire.specs.Connections.{same_node}
use Rattle.scp_slot.specs.scp_driver.specs.declared.kv_driver.KvDriver.{KvDriver}
use Rattle.scp_slot.specs.scp_driver.specs.Kv.{greatest, leader_place}
use Rattle.scp_slot.specs.scp_nominate.specs.Heard.{heard}
use Rattle.scp_slot.specs.scp_nominate.specs.Turns.{Leads}
use Rattle.scp_slot.specs.scp_nominate.specs.Nomination.{Nomination}
use Rattle.scp_slot.specs.declared.machine.SlotMachine.{SlotMachine}
use Rattle.scp_slot.specs.scp_nominate.specs.Nomination.{board_of}
use Rattle.scp_slot.specs.Slot.{slot_view, nominator_of, balloter_of}
use Rattle.scp_text.specs.Values.{value_text}
use Rattle.scp_text.specs.Messages.{ballot_text}
use Rattle.scp_stand_needs.specs.Needs.{AreNominationNeeds, AreBallotNeeds}
use Rattle.scp_stand_needs.specs.declared.steps.Step.{Step}
use Rattle.scp_stand_needs.specs.declared.steps.Step.TheVariants.{AcceptNominated, ConfirmNominated, AcceptPrepared, ConfirmPrepared, AcceptCommit, ConfirmCommit}
use Rattle.scp_stand_needs.specs.declared.steps.Need.{Need}
use Rattle.scp_stand_slot.specs.declared.names.Names.{Names}
use Rattle.scp_stand_slot.specs.Names.{nodes_text, slot_words, said_as, statement_text}

-- ---- the rounds

-- Exactly the nodes that lead a round so far, ascending. The members lead in turn.
pub record AreLeaders (slot : ℕ) (members : List NodeId) (rounds : ℕ) (leaders : List NodeId) : Type 0 where
  pub ascending : IsStrictlySortedBy node_cmp leaders
  pub these : (v : NodeId) → Contains leaders v ↔ Leads (leader_place slot) members rounds v

-- The word for whether this node leads with its proposal or waits.
abbrev pub leads_word : Bool → List ℕ
leads_word true = codes "leads "
leads_word false = codes "waits "

-- The value is one of these.
abbrev pub has_value : List (List ℕ) → List ℕ → Bool
has_value values value = list_any (λ v. pointwise nat_eq v value) values

-- The nomination votes for the value or has accepted it.
abbrev pub names_value : Option Pledges → List ℕ → Bool
names_value (Some (Nominate p)) value = has_value p.votes value || has_value p.accepted value
names_value (Some (Prepare p)) value = false
names_value (Some (Confirm p)) value = false
names_value (Some (Externalize p)) value = false
names_value None value = false

-- The proposal of this node, if it has one. The word is `leads` if this node leads and its own nomination votes for the value or has
-- accepted it, and `waits` otherwise.
abbrev pub proposal_text : NodeId → List NodeId → Option Pledges → Option (List ℕ) → List ℕ
proposal_text me leaders own None = codes "none"
proposal_text me leaders own (Some value) = leads_word (list_any (λ v. same_node v me) leaders && names_value own value) ++ value_text value

-- The line of the rounds: how many there were, their leaders, and this node's proposal.
abbrev pub rounds_line : Names → NodeId → ℕ → List NodeId → Option Pledges → ℕ → Option (List ℕ) → List ℕ
rounds_line names me slot leaders own rounds proposal =
    slot_words names me slot ++ codes " nominates round " ++ decimal rounds ++ codes " leaders " ++ nodes_text names leaders
    ++ codes " proposal " ++ proposal_text me leaders own proposal ++ codes "\n"

-- ---- the phase

-- The node's own statement is sent, unless it is a PREPARE of counter 0, which is that of a node without a ballot.
abbrev pub is_sent : Pledges → Bool
is_sent (Prepare p) = nat_lt 0 p.ballot.counter
is_sent (Confirm p) = true
is_sent (Externalize p) = true
is_sent (Nominate p) = true

-- The phase of the node, from its own ballot statement, if that is sent. Without one, it is `nominate`.
abbrev pub phase_word : Option Pledges → List ℕ
phase_word None = codes "nominate"
phase_word (Some (Prepare p)) = if nat_lt 0 p.ballot.counter then codes "prepare" else codes "nominate"
phase_word (Some (Confirm p)) = codes "confirm"
phase_word (Some (Externalize p)) = codes "externalize"
phase_word (Some (Nominate p)) = codes "nominate"

-- The value to which the driver combines all candidates, or a dash if there are none.
abbrev pub candidate_text : List (List ℕ) → List ℕ
candidate_text [] = codes "-"
candidate_text (v ∷ vs) = value_text (greatest (v ∷ vs))

-- The line of the phase, and of the value to which the candidates are combined.
abbrev pub phase_line : Names → NodeId → ℕ → Option Pledges → List (List ℕ) → List ℕ
phase_line names me slot own candidates =
    slot_words names me slot ++ codes " phase " ++ phase_word own ++ codes " candidate " ++ candidate_text candidates ++ codes "\n"

-- ---- statements

-- The line of a node's statement in the slot, if there is one.
abbrev pub statement_line : Names → NodeId → ℕ → List ℕ → NodeId → Option Envelope → List ℕ
statement_line names me slot word v None = []
statement_line names me slot word v (Some e) =
    slot_words names me slot ++ codes " " ++ word ++ codes " " ++ statement_text names (said_as v slot e) ++ codes "\n"

-- The node's own statement, if it is sent.
abbrev pub sent : Option Envelope → Option Envelope
sent None = None
sent (Some e) = if is_sent e.statement.pledges then Some e else None

-- The lines of a node's newest statements: its nomination statement, then its ballot statement.
abbrev pub lines_of : Names → NodeId → ℕ → List ℕ → Board → Board → NodeId → List ℕ
lines_of names me slot word nominations ballots v =
    statement_line names me slot word v (envelope_at Nominating nominations v) ++ statement_line names me slot word v (envelope_at Balloting ballots v)

-- A statement of the node is on one of the boards.
abbrev pub is_heard : Seen → Seen → NodeId → Bool
is_heard nominations ballots v = is_some (nominations.statement v) || is_some (ballots.statement v)

-- Exactly the other nodes with a statement on one of the boards, ascending.
pub record AreHeard (me : NodeId) (nominations ballots : Seen) (nodes : List NodeId) : Type 0 where
  pub ascending : IsStrictlySortedBy node_cmp nodes
  pub these : (v : NodeId) → Contains nodes v ↔ ((not (same_node v me) && is_heard nominations ballots v) ≡ true)

-- Another node that has no statement on either board.
abbrev pub is_silent : NodeId → Seen → Seen → NodeId → Bool
is_silent me nominations ballots v = not (same_node v me) && not (is_heard nominations ballots v)

-- The line of the nodes that said nothing, if there are any.
abbrev pub silent_line : Names → NodeId → ℕ → List NodeId → List ℕ
silent_line names me slot [] = []
silent_line names me slot (v ∷ vs) = slot_words names me slot ++ codes " silent " ++ nodes_text names (v ∷ vs) ++ codes "\n"

-- ---- what is needed

-- No vote can come from this leader so far. It is this node and has no proposal, or it is another node with no nomination on the board.
abbrev pub lacks_vote : NodeId → Bool → Seen → NodeId → Bool
lacks_vote me proposes nominations v = if same_node v me then not proposes else not (is_some (nominations.statement v))

-- The line of the leaders from which no vote can come, if this node votes for nothing yet.
abbrev pub votes_line : Names → NodeId → ℕ → Option Pledges → List NodeId → List ℕ
votes_line names me slot (Some own) nodes = []
votes_line names me slot None nodes = slot_words names me slot ++ codes " needs vote from " ++ nodes_text names nodes ++ codes "\n"

-- The word of a step.
abbrev pub step_word : Step → List ℕ
step_word AcceptNominated = codes "accept-nominated"
step_word ConfirmNominated = codes "confirm-nominated"
step_word AcceptPrepared = codes "accept-prepared"
step_word ConfirmPrepared = codes "confirm-prepared"
step_word AcceptCommit = codes "accept-commit"
step_word ConfirmCommit = codes "confirm-commit"

-- The text of a claim. A commit is shown by its low end.
abbrev pub claim_text : Claim → List ℕ
claim_text (Nominated value) = value_text value
claim_text (Prepared ballot) = ballot_text (codes "ballot(") ballot
claim_text (Committed low high value) = ballot_text (codes "commit(") (record { counter = low; value = value })

-- The nodes that vote for the claim, and those that accept it.
abbrev pub who_text : Names → Need → List ℕ
who_text names need = codes " votes " ++ nodes_text names need.votes.items ++ codes " accepts " ++ nodes_text names need.accepts.items

-- The nodes that are lacking, those that are against the claim, and those that are short.
abbrev pub missing_text : Names → Need → List ℕ
missing_text names need = codes " lacks " ++ nodes_text names need.lacks.items ++ codes " against " ++ nodes_text names need.against.items ++ codes " short " ++ nodes_text names need.short.items

-- The line of what a step of a claim needs.
abbrev pub need_text : Names → NodeId → ℕ → Need → List ℕ
need_text names me slot need =
    slot_words names me slot ++ codes " needs " ++ step_word need.step ++ codes " " ++ claim_text need.claim ++ who_text names need ++ missing_text names need ++ codes "\n"

-- What values need to be nominated, if there is no candidate. With a candidate, nothing is needed.
abbrev pub AreToNominate : List (List ℕ) → Board → List NodeId → List Need → Type 0
AreToNominate [] nominations members needs = AreNominationNeeds nominations members needs
AreToNominate (v ∷ vs) nominations members needs = needs ≡ []

-- ---- all lines

-- The boards of nomination and of ballots, the leaders, the other nodes with statements, and what the next steps need.
pub record Facts : Type 0 where
  pub nominations : Board
  pub ballots : Board
  pub leaders : List NodeId
  pub others : List NodeId
  pub to_nominate : List Need
  pub to_ballot : List Need

-- The lines of the rounds, the phase, and the statements.
abbrev pub said_lines : Names → NodeId → ℕ → Nomination → Facts → List ℕ
said_lines names me slot n f =
    rounds_line names me slot f.leaders ((heard f.nominations).statement (heard f.nominations).me) n.rounds n.proposal
    ++ phase_line names me slot ((seen Balloting f.ballots).statement (seen Balloting f.ballots).me) n.lists.candidates
    ++ statement_line names me slot (codes "own") me (envelope_at Nominating f.nominations (heard f.nominations).me)
    ++ statement_line names me slot (codes "own") me (sent (envelope_at Balloting f.ballots (seen Balloting f.ballots).me))
    ++ flat_map (lines_of names me slot (codes "heard") f.nominations f.ballots) f.others

-- The lines of the nodes that said nothing, and of what the next steps need.
abbrev pub needs_lines : Names → NodeId → List NodeId → ℕ → Bool → Facts → List ℕ
needs_lines names me members slot proposes f =
    silent_line names me slot (filter (is_silent me (heard f.nominations) (seen Balloting f.ballots)) members)
    ++ votes_line names me slot ((heard f.nominations).statement (heard f.nominations).me) (filter (lacks_vote me proposes (heard f.nominations)) f.leaders)
    ++ flat_map (need_text names me slot) f.to_nominate
    ++ flat_map (need_text names me slot) f.to_ballot

-- All lines of a slot's machine.
abbrev pub machine_lines : Names → NodeId → List NodeId → ℕ → Nomination → Facts → List ℕ
machine_lines names me members slot n f = said_lines names me slot n f ++ needs_lines names me members slot (is_some n.proposal) f

-- The facts are those of the machine, for a node with these members.
pub record AreFacts (me : NodeId) (members : List NodeId) (slot : ℕ) (m : SlotMachine KvDriver) (f : Facts) : Type 0 where
  pub nominations : f.nominations ≡ board_of (nominator_of m)
  pub ballots : f.ballots ≡ (balloter_of m).board
  pub leaders : AreLeaders slot members (slot_view m).nomination.rounds f.leaders
  pub others : AreHeard me (heard f.nominations) (seen Balloting f.ballots) f.others
  pub to_nominate : AreToNominate (slot_view m).nomination.lists.candidates f.nominations members f.to_nominate
  pub to_ballot : AreBallotNeeds f.ballots members f.to_ballot

-- The lines of the machine in this slot, with these names, at the node with this id.
abbrev pub IsMachineText : Names → NodeId → List NodeId → ℕ → SlotMachine KvDriver → List ℕ → Type 0
IsMachineText names me members slot m text =
    (f : Facts) × AreFacts me members slot m f × (text ≡ machine_lines names me members slot (slot_view m).nomination f)

-- ---- a machine that nothing changed

-- Nothing was heard or said, nothing is proposed, and there was exactly one round.
pub record IsBlankMachine (m : SlotMachine KvDriver) : Type 0 where
  pub rounds : (slot_view m).nomination.rounds ≡ 1
  pub proposal : (slot_view m).nomination.proposal ≡ None
  pub nominations : (v : NodeId) → (slot_view m).nomination.board.statement v ≡ None
  pub ballots : (v : NodeId) → (slot_view m).ballots.board.statement v ≡ None
