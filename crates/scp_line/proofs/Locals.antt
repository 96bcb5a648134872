-- The event of a line that is a command for a node.
use Rattle.std.proofs.Common.{◌≡◌, ◌∙◌, ℕ, ap, sym, subst, Option, Some, None}
use Rattle.std.specs.Prelude.{option_map}
use Rattle.std.proofs.lemmas.Option.{same_Some}
use Rattle.scp_turn.specs.scp_wire.specs.declared.link.Command.{Command as LocalCommand}
use Rattle.scp_turn.specs.scp_core.specs.declared.event.Event.{Event}
use Rattle.scp_turn.specs.scp_core.specs.declared.event.Event.TheVariants as event
use Rattle.scp_report.specs.scp_script.specs.declared.command.Command.{Command}
use Rattle.scp_report.specs.scp_script.specs.declared.command.Command.TheVariants as script
use Rattle.scp_report.specs.scp_script.specs.Nodes.{NamesNodes, IsSmall}
use Rattle.scp_threaded_script.specs.Lines.{local_by}
use Rattle.scp_line.specs.Play.{event_by}

abbrev told : ℕ × LocalCommand → ℕ × Event
told given = (given.0, event.Local given.1)

event_is : (command : Command) (given : ℕ × LocalCommand) → local_by command ≡ Some given → event_by command ≡ Some (told given)
event_is (script.Caps capacities) given e = let k : None ≡ Some given = e in cc
event_is (script.Nodes count quorum) given e = let k : None ≡ Some given = e in cc
event_is (script.Set node set) given e = let k : None ≡ Some given = e in cc
event_is (script.Open from to) given e = let k : None ≡ Some given = e in cc
event_is (script.Close from to) given e = let k : None ≡ Some given = e in cc
event_is (script.Send from to bytes) given e = let k : None ≡ Some given = e in cc
event_is (script.Propose node slot value) given e = ap (option_map told) e
event_is (script.Round node slot) given e = ap (option_map told) e
event_is (script.Timer node slot) given e = ap (option_map told) e
event_is (script.Tick node) given e = ap (option_map told) e
event_is (script.Ask from to slot) given e = ap (option_map told) e
event_is script.Settle given e = let k : None ≡ Some given = e in cc
event_is (script.Wait node things) given e = let k : None ≡ Some given = e in cc
event_is (script.Report node) given e = let k : None ≡ Some given = e in cc

-- what is found for it, and the event
pub event_some : (command : Command) (found : Option (ℕ × LocalCommand)) (given : ℕ × LocalCommand) → found ≡ local_by command → found ≡ Some given → Some (given.0, event.Local given.1) ≡ event_by command
event_some command found given exact is = sym (event_is command given (sym exact ∙ is))

small_is : (command : Command) (given : ℕ × LocalCommand) → NamesNodes command → local_by command ≡ Some given → IsSmall given.0
small_is (script.Caps capacities) given names e = let k : None ≡ Some given = e in cc
small_is (script.Nodes count quorum) given names e = let k : None ≡ Some given = e in cc
small_is (script.Set node set) given names e = let k : None ≡ Some given = e in cc
small_is (script.Open from to) given names e = let k : None ≡ Some given = e in cc
small_is (script.Close from to) given names e = let k : None ≡ Some given = e in cc
small_is (script.Send from to bytes) given names e = let k : None ≡ Some given = e in cc
small_is (script.Propose node slot value) given names e = subst (λ (g : ℕ × LocalCommand). IsSmall g.0) (same_Some _ given e) names
small_is (script.Round node slot) given names e = subst (λ (g : ℕ × LocalCommand). IsSmall g.0) (same_Some _ given e) names
small_is (script.Timer node slot) given names e = subst (λ (g : ℕ × LocalCommand). IsSmall g.0) (same_Some _ given e) names
small_is (script.Tick node) given names e = subst (λ (g : ℕ × LocalCommand). IsSmall g.0) (same_Some _ given e) names
small_is (script.Ask from to slot) given names e = subst (λ (g : ℕ × LocalCommand). IsSmall g.0) (same_Some _ given e) names.0
small_is script.Settle given names e = let k : None ≡ Some given = e in cc
small_is (script.Wait node things) given names e = let k : None ≡ Some given = e in cc
small_is (script.Report node) given names e = let k : None ≡ Some given = e in cc

-- and its node's number
pub small_some : (command : Command) (found : Option (ℕ × LocalCommand)) (given : ℕ × LocalCommand) → NamesNodes command → found ≡ local_by command → found ≡ Some given → IsSmall given.0
small_some command found given names exact is = small_is command given names (sym exact ∙ is)
