-- One watch of a script's lines, compared with another.
-- No public clause reaches this definition: nothing here need be believed.
use Rattle.std.specs.Prelude.{ℕ, ◌≡◌, Bool, false}
use Rattle.scp_turn.specs.scp_core.specs.declared.event.Event.{Event}
use Rattle.scp_turn.specs.scp_core.specs.declared.event.Reply.{Reply}
use Rattle.scp_turn.specs.scp_core.specs.Kv.{NodeView}
use Rattle.scp_turn.specs.Heard.{Nodes}
use Rattle.scp_report.specs.scp_script.specs.declared.command.Command.{Command}
use Rattle.scp_line.specs.Player.{Lining}

-- If a watch isn't out of memory after something, another watch notes the same of what the first one holds. And the first one wasn't out of
-- memory before it either.
pub record NotesAs {W V : Type 0} (Note : Lining W) (lacks : W → Bool) (Settled : Lining V) (held : W → V) : Type 0 where
  pub begins : (old new : W) (line : ℕ) (command : Command) (nodes : Nodes) → lacks new ≡ false → Note.begins old line command nodes new → (lacks old ≡ false) × Settled.begins (held old) line command nodes (held new)
  pub steps : (old new : W) (number : ℕ) (event : Event) (reply : Reply) (before after' : NodeView) → lacks new ≡ false → Note.steps old number event reply before after' new → (lacks old ≡ false) × Settled.steps (held old) number event reply before after' (held new)
  pub ends : (old new : W) (line : ℕ) (command : Command) (calm : Bool) (nodes : Nodes) → lacks new ≡ false → Note.ends old line command calm nodes new → (lacks old ≡ false) × Settled.ends (held old) line command calm nodes (held new)
