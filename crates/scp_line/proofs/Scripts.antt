-- A script's lines, from the first on.
use Rattle.std.proofs.Common.{◌≡◌, ◌<◌, ◌+◌, ℕ, suc, Bool, List, [], ◌∷◌, ◌++◌, take, drop, length, get_or, Option, None, Some, refl, sym, ◌∙◌, ap, subst, drop-cons}
use Rattle.std.specs.Prelude.{All, IfSome, ◌≤◌}
use Rattle.std.proofs.lemmas.List.{take-append-drop}
use Rattle.scp_turn.specs.scp_types.specs.declared.limits.TheConstants.{SCRIPT_LIMIT}
use Rattle.scp_turn.specs.scp_core.specs.Kv.{TheoremGivesLedger}
use Rattle.scp_turn.specs.Kv.{Noting}
use Rattle.scp_turn.specs.Heard.{Heard, past_at}
use Rattle.scp_turn.specs.Network.{NetworkView}
use Rattle.scp_report.specs.scp_script.specs.declared.command.Command.{Command}
use Rattle.scp_report.specs.scp_script.specs.Script.{AreAdmitted, IsScript, commands_in}
use Rattle.scp_report.specs.scp_script.specs.Nodes.{NamesNodes}
use Rattle.scp_report.specs.Node.{reports_of}
use Rattle.scp_report.specs.Reports.{settled_text}
use Rattle.scp_line.specs.Play.{ArePlayed, AreReports, Overflows, driven_in}
use Rattle.scp_line.specs.Nodes.{AreMade, HasPlayed, Watching}
use Rattle.scp_line.specs.inside.Nodes.{IsPlayed}
use Rattle.scp_line.proofs.Standing.{StandsAt}
use Rattle.scp_line.proofs.Lines.{Moment, IsDone, played_more}
use Rattle.scp_line.proofs.Making.{first_moment, nothing_played}

-- so many of a script's lines were played
pub record Plays (commands done : List Command) (network : NetworkView) : Type 0 where
  pub heard : List Heard
  pub played : ArePlayed commands done heard network.nodes
  pub moment : Moment commands done network

pub split_at : (commands : List Command) (i : ℕ) (command : Command) → i < length commands → command ≡ get_or commands i command → commands ≡ take i commands ++ command ∷ drop (suc i) commands
split_at commands i command lt is = sym (take-append-drop i commands) ∙ ap (λ (l : List Command). take i commands ++ l) (drop-cons commands i command lt ∙ ap (λ (c : Command). c ∷ drop (suc i) commands) (sym is))

pub stands : (commands : List Command) (i : ℕ) (command : Command) → i < length commands → command ≡ get_or commands i command → All NamesNodes commands → AreAdmitted [] commands → StandsAt commands (take i commands) command
stands commands i command lt is names admitted = record { after' = drop (suc i) commands; split = split_at commands i command lt is; names = names; admitted = admitted }

abbrev pub none_played : (commands : List Command) (network : NetworkView) → AreMade commands network → Plays commands [] network
none_played commands network are = record { heard = []; played = nothing_played commands network are; moment = first_moment commands network are }

abbrev pub one_more : {W : Type 0} (Note : Noting W) (commands done : List Command) (command : Command) (calm : Bool) (old new : Watching W) → Plays commands done old.network → IsDone Note commands done command calm old new → Plays commands (done ++ command ∷ []) new.network
one_more Note commands done command calm old new p d = record {
  heard = p.heard ++ d.hear.heard;
  played = record {
    first = p.played.first;
    new = p.played.new;
    played = played_more (driven_in commands) _ done command p.played.first old.network.nodes new.network.nodes p.heard d.hear.heard p.played.played (calm, d.hear.is.0);
    have = d.hear.have p.heard p.played.have;
    run = d.moment.run;
  };
  moment = d.moment;
}

-- ---- the same, in the words of the definitions

abbrev pub has_played : (commands done : List Command) (network : NetworkView) → Plays commands done network → HasPlayed commands done network
has_played commands done network p = record {
  heard = p.heard;
  played = p.played;
  count = p.moment.count;
  driven = p.moment.driven;
  who = p.moment.who;
  linked = p.moment.linked;
}

-- ---- what is told of it

pub are_reports : TheoremGivesLedger → (text printed : List ℕ) (commands : List Command) (network : NetworkView) → commands ≡ commands_in text → IsPlayed commands network → printed ≡ settled_text (reports_of network.nodes) commands → AreReports text printed
are_reports law text printed commands network same played is = record {
  heard = played.heard;
  nodes = network.nodes;
  played = subst (λ (l : List Command). ArePlayed l l played.heard network.nodes) same played.played;
  ledgers = λ i d here. law (past_at (i + 1) played.heard) (get_or network.nodes i d) (played.played.have i d here);
  reports = is ∙ ap (λ (l : List Command). settled_text (reports_of network.nodes) l) same;
}

-- what was read is all there was to read
pub told_of_all : (left : Option (List ℕ)) (text shown : List ℕ) → IfSome left (λ all. text ≡ all) → shown ≡ text → length text ≤ SCRIPT_LIMIT → IsScript shown × Overflows (commands_in shown) → IfSome left (λ all. (length all ≤ SCRIPT_LIMIT) × IsScript all × Overflows (commands_in all))
told_of_all None text shown whole same few told = tt
told_of_all (Some all) text shown whole same few told =
    let there : IsScript all × Overflows (commands_in all) = subst (λ (l : List ℕ). IsScript l × Overflows (commands_in l)) (same ∙ whole) told in
    (subst (λ (l : List ℕ). length l ≤ SCRIPT_LIMIT) whole few, there.0, there.1)
