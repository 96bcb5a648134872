-- What is reported of a script that was played in threads.
use Rattle.std.proofs.Common.{◌≡◌, ◌≢◌, ◌≤◌, ℕ, List, [], ◌⊎◌, inl, inr, ⊎_elim, ◌∙◌, sym, subst, arith}
use Rattle.scp_turn.specs.scp_types.specs.declared.limits.TheConstants.{NODE_LIMIT}
use Rattle.scp_turn.specs.scp_types.specs.declared.fault.Fault.{Fault}
use Rattle.scp_turn.specs.scp_types.specs.declared.fault.Fault.TheVariants.{NoMemory, Malformed, TooLong, Insane, Full, NotOpen, AlreadyOpen, LivesSpent, BadConfig, Failed, JournalFull, BadScript, Refused, Device}
use Rattle.scp_threaded_script.specs.scp_gather.specs.Kv.{NodeReport}
use Rattle.scp_turn.specs.scp_types.specs.declared.fault.Stage.{Stage}
use Rattle.scp_turn.specs.scp_types.specs.declared.fault.Stage.TheVariants.{Reader, Pend, Slot, Apply}
use Rattle.scp_threaded_script.specs.declared.running.NodeFault.{NodeFault}
use Rattle.scp_threaded_script.specs.Reported.{AreNodesReported, IsGivenUp, IsLineFault}
use Rattle.scp_threaded_script.proofs.Ending.{IsOfNodes, given_up_by_nodes}
use Rattle.scp_report.specs.scp_script.specs.declared.command.Command.{Command}
use Rattle.scp_report.specs.scp_script.specs.Script.{IsScript, commands_in, node_count}
use Rattle.scp_line.specs.Left.{reports_left}
use Rattle.scp_report.specs.Reports.{settled_text}
use Rattle.scp_line.specs.Play.{IsNamed}
use Rattle.scp_line.specs.Threads.{AreGatheredReports, AreGivenUp, IsThreadsFault}

pub are_gathered_reports : (script text : List ℕ) (commands : List Command) (nodes : List NodeReport) → commands ≡ commands_in script → AreNodesReported commands nodes
    → text ≡ settled_text (reports_left commands nodes []) commands → AreGatheredReports script text
are_gathered_reports script text commands nodes same reported reports = record {
  nodes = nodes;
  reported = subst (λ (c : List Command). AreNodesReported c nodes) same reported;
  reports = subst (λ (c : List Command). text ≡ settled_text (reports_left c nodes []) c) same reports;
}

-- ---- why nodes weren't reported

-- it is a stage's fault of a node, or names none
abbrev IsToldBy : ℕ → Fault → Type 0
IsToldBy node fault = ((s : Stage) × (fault ≡ Refused s) × (1 ≤ node) × (node ≤ NODE_LIMIT)) ⊎ IsLineFault NODE_LIMIT node fault

line_within : (count node : ℕ) (fault : Fault) → count ≤ NODE_LIMIT → IsLineFault count node fault → IsLineFault NODE_LIMIT node fault
line_within count node (Refused Reader) few h = (h.0, omega (arith, h.1, few))
line_within count node (Refused Pend) few h = (h.0, omega (arith, h.1, few))
line_within count node (Refused Slot) few h = absurd h
line_within count node (Refused Apply) few h = absurd h
line_within count node Full few h = h
line_within count node NotOpen few h = h
line_within count node NoMemory few h = h
line_within count node (Malformed place) few h = absurd h
line_within count node TooLong few h = absurd h
line_within count node Insane few h = absurd h
line_within count node AlreadyOpen few h = absurd h
line_within count node LivesSpent few h = absurd h
line_within count node BadConfig few h = absurd h
line_within count node Failed few h = absurd h
line_within count node JournalFull few h = absurd h
line_within count node (BadScript line) few h = absurd h
line_within count node Device few h = absurd h

told_by : (commands : List Command) (e : NodeFault) → IsGivenUp commands e → IsToldBy e.node e.fault
told_by commands e g = by (given_up_by_nodes commands e g)
  where
    by : IsOfNodes (node_count commands) e → IsToldBy e.node e.fault
    by (inl h) = inl (h.0, h.1, h.2.0, omega (arith, h.2.1, g.most))
    by (inr h) = inr (line_within (node_count commands) e.node e.fault g.most h)

line_cause : (node : ℕ) (fault : Fault) → IsLineFault NODE_LIMIT node fault → IsThreadsFault fault
line_cause node NoMemory h = tt
line_cause node Full h = tt
line_cause node NotOpen h = tt
line_cause node (Refused stage) h = tt
line_cause node (Malformed place) h = absurd h
line_cause node TooLong h = absurd h
line_cause node Insane h = absurd h
line_cause node AlreadyOpen h = absurd h
line_cause node LivesSpent h = absurd h
line_cause node BadConfig h = absurd h
line_cause node Failed h = absurd h
line_cause node JournalFull h = absurd h
line_cause node (BadScript line) h = absurd h
line_cause node Device h = absurd h

line_named : (node : ℕ) (fault : Fault) → IsLineFault NODE_LIMIT node fault → IsNamed node fault
line_named node NoMemory h = h
line_named node Full h = h
line_named node NotOpen h = h
line_named node (Refused Reader) h = h
line_named node (Refused Pend) h = h
line_named node (Refused Slot) h = absurd h
line_named node (Refused Apply) h = absurd h
line_named node (Malformed place) h = absurd h
line_named node TooLong h = absurd h
line_named node Insane h = absurd h
line_named node AlreadyOpen h = absurd h
line_named node LivesSpent h = absurd h
line_named node BadConfig h = absurd h
line_named node Failed h = absurd h
line_named node JournalFull h = absurd h
line_named node (BadScript line) h = absurd h
line_named node Device h = absurd h

pub given_up_cause : (commands : List Command) (e : NodeFault) → IsGivenUp commands e → IsThreadsFault e.fault
given_up_cause commands e g = ⊎_elim (λ h. subst IsThreadsFault (sym h.1) tt) (λ h. line_cause e.node e.fault h) (told_by commands e g)

pub given_up_named : (commands : List Command) (e : NodeFault) → IsGivenUp commands e → IsNamed e.node e.fault
given_up_named commands e g = ⊎_elim (λ h. subst (IsNamed e.node) (sym h.1) (h.2, h.3)) (λ h. line_named e.node e.fault h) (told_by commands e g)

pub given_up_not_device : (commands : List Command) (e : NodeFault) → IsGivenUp commands e → e.fault ≢ Device
given_up_not_device commands e g is = ⊎_elim (λ h. let k : Refused h.0 ≡ Device = sym h.1 ∙ is in cc) (λ h. subst (IsLineFault NODE_LIMIT e.node) is h) (told_by commands e g)

pub given_up_not_long : (commands : List Command) (e : NodeFault) → IsGivenUp commands e → e.fault ≢ TooLong
given_up_not_long commands e g is = ⊎_elim (λ h. let k : Refused h.0 ≡ TooLong = sym h.1 ∙ is in cc) (λ h. subst (IsLineFault NODE_LIMIT e.node) is h) (told_by commands e g)

pub given_up_not_bad : (commands : List Command) (e : NodeFault) → IsGivenUp commands e → (line : ℕ) → e.fault ≢ BadScript line
given_up_not_bad commands e g line is = ⊎_elim (λ h. let k : Refused h.0 ≡ BadScript line = sym h.1 ∙ is in cc) (λ h. subst (IsLineFault NODE_LIMIT e.node) is h) (told_by commands e g)

pub given_up_script : (script : List ℕ) (commands : List Command) (e : NodeFault) → IsScript script → commands ≡ commands_in script → IsGivenUp commands e → AreGivenUp script e.node e.fault
given_up_script script commands e is same g = (is, subst (λ (c : List Command). IsGivenUp c e) same g)
