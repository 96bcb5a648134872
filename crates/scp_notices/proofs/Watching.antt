-- What a watch noted is what the slot stages told.
use Rattle.std.proofs.Common.{◌≡◌, ◌∙◌, ℕ, true, false, Bool, List, [], ◌∷◌, ◌++◌, refl, sym, ap, inl, inr}
use Rattle.scp_line.specs.scp_core.specs.declared.event.Event.{Event}
use Rattle.scp_line.specs.scp_core.specs.declared.event.Event.TheVariants as event
use Rattle.scp_line.specs.scp_core.specs.declared.event.Reply.{Reply}
use Rattle.scp_line.specs.scp_core.specs.declared.event.Reply.TheVariants as reply
use Rattle.scp_line.specs.scp_core.specs.Kv.{NodeView}
use Rattle.scp_line.specs.scp_turn.specs.Heard.{Nodes}
use Rattle.scp_line.specs.scp_script.specs.declared.command.Command.{Command}
use Rattle.scp_line.specs.Player.{Lining, lining}
use Rattle.scp_line.specs.inside.Player.{NotesAs}
use Rattle.scp_notices.specs.declared.commands.Told.{Told}
use Rattle.scp_notices.specs.Ignoring.{told_at, Tells}
use Rattle.scp_notices.specs.Run.{Notes, noticing}
use Rattle.scp_notices.specs.inside.Watching.{WatchView, is_slot_take, told_behind, notes_step, notes_line}

-- what the watch notes before a step
abbrev pub notes_event : WatchView → ℕ → Event → NodeView → WatchView → Type 0
notes_event old number event node new = new ≡ record old { is_slot_take = is_slot_take event }

-- what is noted is what the step tells
told_so : (number : ℕ) (e : Event) (r : Reply) (node : NodeView) → told_behind (is_slot_take e) number r node ≡ told_at number e r node
told_so number (event.Open l) r node = refl
told_so number (event.Send l bytes) r node = refl
told_so number (event.Close l) r node = refl
told_so number (event.Local command) r node = refl
told_so number (event.ReaderTake l) r node = refl
told_so number (event.ReaderPut l) r node = refl
told_so number event.PendTake r node = refl
told_so number event.PendPut r node = refl
told_so number event.SlotPut r node = refl
told_so number event.ApplyTake r node = refl
told_so number (event.Drain l) r node = refl
told_so number event.SlotTake reply.Moved node = refl
told_so number event.SlotTake reply.Accepted node = refl
told_so number event.SlotTake (reply.Sent bytes) node = refl
told_so number event.SlotTake reply.Idle node = refl
told_so number event.SlotTake reply.Blocked node = refl
told_so number event.SlotTake reply.Full node = refl
told_so number event.SlotTake reply.NotOpen node = refl
told_so number event.SlotTake reply.AlreadyOpen node = refl
told_so number event.SlotTake reply.LivesSpent node = refl
told_so number event.SlotTake reply.NoLink node = refl
told_so number event.SlotTake reply.Failed node = refl
told_so number event.SlotTake reply.JournalFull node = refl
told_so number event.SlotTake reply.NoMemory node = refl

-- one step
step_noted : (w m v : WatchView) (number : ℕ) (e : Event) (r : Reply) (before after' : NodeView) → notes_event w number e before m → notes_step m number r after' v → v.lacks_memory ≡ false → (w.lacks_memory ≡ false) × Tells w.told number e r before after' v.told
step_noted w m v number e r before after' noted (inl lacks) calm = absurd (let no : true ≡ false = sym lacks ∙ calm in cc)
step_noted w m v number e r before after' noted (inr added) calm = (
  sym (ap (λ (x : WatchView). x.lacks_memory) noted) ∙ sym (ap (λ (x : WatchView). x.lacks_memory) added) ∙ calm,
  ap (λ (x : WatchView). x.told) added
      ∙ ap (λ (l : List Told). l ++ told_behind m.is_slot_take number r after') (ap (λ (x : WatchView). x.told) noted)
      ∙ ap (λ (b : Bool). w.told ++ told_behind b number r after') (ap (λ (x : WatchView). x.is_slot_take) noted)
      ∙ ap (λ (l : List Told). w.told ++ l) (told_so number e r after'),
)

step_cut : (w m v : WatchView) (number : ℕ) (e : Event) (r : Reply) (before after' : NodeView) → notes_event w number e before m → notes_step m number r after' v → v.lacks_memory ≡ false → v.cut ≡ w.cut
step_cut w m v number e r before after' noted (inl lacks) calm = absurd (let no : true ≡ false = sym lacks ∙ calm in cc)
step_cut w m v number e r before after' noted (inr added) calm = ap (λ (x : WatchView). x.cut) added ∙ ap (λ (x : WatchView). x.cut) noted

-- what the watch notes of lines
abbrev pub watching : Lining WatchView
watching = lining (λ old line command nodes new. new ≡ old) notes_line notes_event notes_step

-- what it holds
abbrev pub held : WatchView → Notes
held w = record { told = w.told; cut = w.cut }

line_noted : (w v : WatchView) (line : ℕ) (command : Command) (calm : Bool) (nodes : Nodes) → notes_line w line command calm nodes v → v.lacks_memory ≡ false → (w.lacks_memory ≡ false) × noticing.ends (held w) line command calm nodes (held v)
line_noted w v line command calm nodes (inl lacks) has = absurd (let no : true ≡ false = sym lacks ∙ has in cc)
line_noted w v line command calm nodes (inr is) has = (sym (ap (λ (x : WatchView). x.lacks_memory) is) ∙ has, ap held is)

-- where there was memory it is what is noted of the lines
pub notes_as : NotesAs watching (λ (w : WatchView). w.lacks_memory) noticing held
notes_as = record {
  begins = λ old new line command nodes calm is. (sym (ap (λ (x : WatchView). x.lacks_memory) is) ∙ calm, ap held is);
  steps = λ old new number event reply before after' calm is.
      let here = step_noted old is.0 new number event reply before after' is.1 is.2 calm in
      (here.0, (here.1, step_cut old is.0 new number event reply before after' is.1 is.2 calm));
  ends = λ old new line command rests nodes calm is. line_noted old new line command rests nodes is calm;
}
