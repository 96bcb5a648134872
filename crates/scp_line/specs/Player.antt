-- A script that is played line by line, while a watch sees its lines and the steps of its nodes (this project's profile).
use Rattle.std.specs.Prelude.{ℕ, ◌≤◌, ◌≡◌, ◌≢◌, ◌⊎◌, Bool, List, [], ◌∷◌, ◌++◌, length}
use Rattle.scp_turn.specs.scp_types.specs.declared.limits.TheConstants.{NODE_LIMIT}
use Rattle.scp_turn.specs.scp_types.specs.declared.fault.Fault.TheVariants.{NoMemory as no_memory}
use Rattle.scp_turn.specs.scp_core.specs.declared.event.Event.{Event}
use Rattle.scp_turn.specs.scp_core.specs.declared.event.Reply.{Reply}
use Rattle.scp_turn.specs.scp_core.specs.Kv.{NodeView}
use Rattle.scp_turn.specs.Watch.{notes}
use Rattle.scp_turn.specs.Kv.{Noting}
use Rattle.scp_turn.specs.Heard.{Nodes, Heard, HaveHeard, Noted}
use Rattle.scp_turn.specs.Rounds.{AllRun}
use Rattle.scp_turn.specs.Network.{NetworkView}
use Rattle.scp_report.specs.scp_script.specs.declared.command.Command.{Command}
use Rattle.scp_report.specs.scp_script.specs.Script.{node_count}
use Rattle.scp_line.specs.declared.player.Stopped.{Stopped}
use Rattle.scp_line.specs.Play.{AreNew, HearsAs, driven_in}
use Rattle.scp_line.specs.Nodes.{HasPlayed, IsWant, IsStoppedAt}

-- ---- what a watch notes

-- What a watch notes of a line. Before the line it notes its number, its command and the nodes. Then it notes each step that the nodes do.
-- After a line that was done it notes its number, its command, whether the nodes came to rest, and the nodes.
pub record Lining (W : Type 0) : Type 1 where
  pub begins : W → ℕ → Command → Nodes → W → Type 0
  pub steps : Noting W
  pub ends : W → ℕ → Command → Bool → Nodes → W → Type 0

-- these notes as one: those before and after a line, and those before and after a step
abbrev pub lining : {W : Type 0} → (W → ℕ → Command → Nodes → W → Type 0) → (W → ℕ → Command → Bool → Nodes → W → Type 0) → (W → ℕ → Event → NodeView → W → Type 0) → (W → ℕ → Reply → NodeView → W → Type 0) → Lining W
lining {W} Begins Ends Before After = record { begins = Begins; steps = notes Before After; ends = Ends }

-- The nodes of a script, after some of its lines. There are at most eight, none failed, and the ledger theorem holds of each for what it
-- heard.
pub record ArePlaying (nodes : Nodes) : Type 0 where
  pub few : length nodes ≤ NODE_LIMIT
  pub run : AllRun nodes
  pub heard : List Heard
  pub have : HaveHeard heard nodes

-- ---- lines

-- A line was done. The watch noted its beginning, each step that the nodes did for it, and its end. `calm` says whether the nodes came to
-- rest where the line brought them to it. No node failed, and the ledger theorem still holds of each.
pub record IsLine {W : Type 0} (L : Lining W) (all : List Command) (line : ℕ) (command : Command) (old : W) (first : Nodes) (heard : List Heard) (last : Nodes) (new : W) : Type 0 where
  pub begun : W
  pub done : W
  pub calm : Bool
  pub begins : L.begins old line command first begun
  pub hears : HearsAs (driven_in all) (node_count all) calm command first heard last
  pub noted : Noted L.steps begun done first heard last
  pub ends : L.ends done line command calm last new
  pub run : AllRun last
  pub have : (past : List Heard) → HaveHeard past first → HaveHeard (past ++ heard) last

-- Each of these commands was done so, in the lines of these numbers, one after the other, in one run. There are as many numbers as commands.
abbrev pub AreLines : {W : Type 0} → Lining W → List Command → List ℕ → List Command → W → Nodes → List Heard → Nodes → W → Type 0
AreLines {W} L all [] [] old first heard last new = (heard ≡ []) × (last ≡ first) × (new ≡ old)
AreLines {W} L all [] (command ∷ commands) old first heard last new = ⊥
AreLines {W} L all (line ∷ lines) [] old first heard last new = ⊥
AreLines {W} L all (line ∷ lines) (command ∷ commands) old first heard last new =
    (noted : W) × (mid : Nodes) × (here : List Heard) × (rest : List Heard) × (heard ≡ here ++ rest) × IsLine L all line command old first here mid noted × AreLines L all lines commands noted mid rest last new

-- The nodes of a script played all its commands, from the moment when they were made. What the watch noted of the lines leads from its old
-- state to its new one.
pub record IsRun {W : Type 0} (L : Lining W) (commands : List Command) (lines : List ℕ) (network : NetworkView) (old new : W) : Type 0 where
  pub played : HasPlayed commands commands network
  pub first : Nodes
  pub made : AreNew commands first
  pub noted : AreLines L commands lines commands old first played.heard network.nodes new

-- A line wasn't done. The script's nodes did the lines before it, from the moment when they were made. Then the watch noted the beginning of
-- this line, and each step that the nodes still did. `why` says why the line wasn't done; memory isn't the reason.
pub record IsCutOff {W : Type 0} (L : Lining W) (commands : List Command) (lines : List ℕ) (network : NetworkView) (old new : W) (stopped : Stopped) : Type 0 where
  pub before : List Command
  pub command : Command
  pub after' : List Command
  pub split : commands ≡ before ++ command ∷ after'
  pub lines_before : List ℕ
  pub lines_after : List ℕ
  pub lines_split : lines ≡ lines_before ++ stopped.line ∷ lines_after
  pub first : Nodes
  pub made : AreNew commands first
  pub heard : List Heard
  pub mid : Nodes
  pub so_far : W
  pub noted : AreLines L commands lines_before before old first heard mid so_far
  pub begun : W
  pub begins : L.begins so_far stopped.line command mid begun
  pub more : List Heard
  pub here : Noted L.steps begun new mid more network.nodes
  pub named : stopped.fault.fault ≢ no_memory
  pub why : IsStoppedAt commands before stopped.fault

-- why not all lines were done: out of memory, or one was cut off
abbrev pub IsStoppedBy : {W : Type 0} → Lining W → List Command → List ℕ → NetworkView → W → W → Stopped → Type 0
IsStoppedBy {W} L commands lines network old new stopped = IsWant stopped.fault ⊎ IsCutOff L commands lines network old new stopped
