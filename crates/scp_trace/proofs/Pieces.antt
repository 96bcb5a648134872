-- What is told of lines, one after the other.
use Rattle.std.proofs.Common.{false, ◌≡◌, ◌<◌, ◌≤◌, ◌+◌, ◌-◌, ◌++◌, ◌∷◌, [], ℕ, suc, Bool, List, None, inl, inr, length, get_or, map, take, refl, sym, ◌∙◌, ap, subst, append_assoc, append-nil, arith}
use Rattle.std.specs.Prelude.{Option, Some, slice_get, option_to_list}
use Rattle.std.proofs.lemmas.List.{length-append, take_at}
use Rattle.std.proofs.lemmas.Option.{slice_get_cases}
use Rattle.scp_line.specs.scp_core.specs.Kv.{NodeView, TheoremGivesLedger}
use Rattle.scp_line.specs.scp_turn.specs.Heard.{Nodes as NodeList, Heard, Noted, past_at}
use Rattle.scp_line.specs.scp_turn.specs.Network.{NetworkView}
use Rattle.scp_line.specs.scp_script.specs.declared.command.Command.{Command}
use Rattle.scp_line.specs.scp_script.specs.declared.command.Command.TheVariants as script
use Rattle.scp_line.specs.scp_script.specs.Words.{words_of}
use Rattle.scp_line.specs.scp_script.specs.Script.{Admits, AreAdmitted, command_in, commands_of, node_count}
use Rattle.scp_line.specs.scp_script.proofs.Admitted.{admitted_rest, count_stays}
use Rattle.scp_line.specs.declared.player.Stopped.{Stopped as StoppedAt}
use Rattle.scp_line.specs.Play.{AreNew, ArePlayed, HearsAs, driven_in}
use Rattle.scp_line.specs.Player.{IsLine, AreLines, IsRun as IsRunOf, IsCutOff as IsCutOffOf}
use Rattle.scp_line.proofs.Making.{nothing_played}
use Rattle.scp_line.proofs.Runs.{played_next, noted_count, cut_at}
use Rattle.scp_script_check.specs.declared.warning.Warning.{Warning}
use Rattle.scp_script_check.specs.Warnings.{AreWarnings}
use Rattle.scp_script_check.specs.Texts.{warnings_text}
use Rattle.scp_script_check.specs.Lines.{IsSaid, MayWant, numbers_of}
use Rattle.scp_stand_node.specs.scp_stand_slot.specs.declared.names.Names.{Names}
use Rattle.scp_trace_text.specs.scp_facts.specs.declared.fact.Telling.{Telling}
use Rattle.scp_trace_text.specs.scp_facts.specs.Telling.{Tells}
use Rattle.scp_trace.specs.declared.depth.Depth.{Depth}
use Rattle.scp_trace.specs.declared.depth.Depth.TheVariants.{Stands, Whole}
use Rattle.scp_trace.specs.Standing.{Moment, beginning, HavePlayed, TellsNode, IsEnd}
use Rattle.scp_trace.specs.Traced.{line_part, facts_part, AreFacts, IsStandBehind, IsPiece, AreTold, IsWhole, IsCutOff}
use Rattle.scp_trace.specs.inside.Tracing.{Told, tracing, TellsBy, StandsIf, StandsBy, Ends}
use Rattle.scp_trace.proofs.Noting.{have_facts}

-- what was told of these lines, and none of the next
abbrev pub so_far : Depth → Names → List Command → List Command → List ℕ → Told
so_far depth names all before text = record { depth = depth; names = names; all = all; done = length before; text = text; tellings = [] }

-- a moment
abbrev pub at_moment : List Heard → NodeList → Moment
at_moment heard nodes = record { heard = heard; nodes = nodes }

-- ---- where the node of a report stands

-- the node that a report asks for is there
asked_within : (all before after' : List Command) (number : ℕ) → all ≡ before ++ script.Report number ∷ after' → AreAdmitted [] all → (1 ≤ number) × (number ≤ node_count all)
asked_within all before after' number split admitted =
    let rest : AreAdmitted before (script.Report number ∷ after') = admitted_rest [] before (script.Report number ∷ after') (subst (λ (l : List Command). AreAdmitted [] l) split admitted) in
    let here : Admits before (script.Report number) = rest.0 in
    let same : node_count all ≡ node_count before = ap (λ (l : List Command). node_count l) split ∙ count_stays before (script.Report number ∷ after') rest (omega (arith, here.0, here.1)) in
    (here.0, omega (arith, here.1, same))

not_both : {X : Type 0} (found : Option X) (x : X) → found ≡ None → found ≡ Some x → ⊥
not_both found x none some = cc (none, some)

told_if : (names : Names) (all before : List Command) (nodes : NodeList) (number : ℕ) (text : List ℕ) (found : Option NodeView) → 1 ≤ number → number ≤ length nodes → slice_get nodes (number - 1) ≡ found → StandsIf names all before found text → TellsNode names all before nodes number text
told_if names all before nodes number text None from within is stands =
    elim (slice_get_cases nodes (number - 1)).1 [
      | inl there ↦ absurd (not_both (slice_get nodes (number - 1)) there.0 is there.2)
      | inr past ↦ absurd (omega (arith, past.0, from, within))
    ]
told_if names all before nodes number text (Some node) from within is stands = (node, is, stands)

-- nodes that hold their ledgers
have_played : TheoremGivesLedger → (all before : List Command) (heard : List Heard) (nodes : NodeList) → ArePlayed all before heard nodes → HavePlayed all before (at_moment heard nodes)
have_played law all before heard nodes far = record { played = far; ledgers = λ i d here. law (past_at (i + 1) heard) (get_or nodes i d) (far.have i d here) }

stands_behind : TheoremGivesLedger → (names : Names) (all before after' : List Command) (command : Command) (calm : Bool) (first last : NodeList) (past heard : List Heard) (text : List ℕ) → all ≡ before ++ command ∷ after' → AreAdmitted [] all → length last ≡ node_count all → ArePlayed all before past first → HearsAs (driven_in all) (node_count all) calm command first heard last
    → StandsBy names all before last command text → IsStandBehind names all before (at_moment past first) command text
stands_behind law names all before after' (script.Report number) calm first last past heard text split admitted count far hears stands =
    let within = asked_within all before after' number split admitted in
    let same : last ≡ first = hears.1.1 in (
      have_played law all before past first far,
      subst (λ (nodes : NodeList). TellsNode names all before nodes number text) same (told_if names all before last number text (slice_get last (number - 1)) within.0 (omega (arith, within.1, count)) refl stands),
    )
stands_behind law names all before after' (script.Caps capacities) calm first last past heard text split admitted count far hears stands = stands
stands_behind law names all before after' (script.Nodes many quorum) calm first last past heard text split admitted count far hears stands = stands
stands_behind law names all before after' (script.Set at set) calm first last past heard text split admitted count far hears stands = stands
stands_behind law names all before after' (script.Open from to) calm first last past heard text split admitted count far hears stands = stands
stands_behind law names all before after' (script.Close from to) calm first last past heard text split admitted count far hears stands = stands
stands_behind law names all before after' (script.Send from to bytes) calm first last past heard text split admitted count far hears stands = stands
stands_behind law names all before after' (script.Propose at slot value) calm first last past heard text split admitted count far hears stands = stands
stands_behind law names all before after' (script.Round at slot) calm first last past heard text split admitted count far hears stands = stands
stands_behind law names all before after' (script.Timer at slot) calm first last past heard text split admitted count far hears stands = stands
stands_behind law names all before after' (script.Tick at) calm first last past heard text split admitted count far hears stands = stands
stands_behind law names all before after' (script.Ask from to slot) calm first last past heard text split admitted count far hears stands = stands
stands_behind law names all before after' script.Settle calm first last past heard text split admitted count far hears stands = stands
stands_behind law names all before after' (script.Wait at things) calm first last past heard text split admitted count far hears stands = stands

-- ---- the facts of a line

-- where they are told
abbrev NotedBy : Depth → List Telling → List Telling → NodeList → List Heard → NodeList → Type 0
NotedBy Whole old new first heard last = Noted Tells old new first heard last
NotedBy Stands old new first heard last = Unit {0}

nothing_noted : (depth : Depth) (old new : List Telling) (first last : NodeList) → last ≡ first → new ≡ old → NotedBy depth old new first [] last
nothing_noted Whole old new first last same is = (same, is)
nothing_noted Stands old new first last same is = tt

one_noted : (w v z : Told) (old new : NodeList) (h : Heard) (heard : List Heard) (depth : Depth) → w.depth ≡ depth → (noted : Noted tracing.steps w z old (h ∷ heard) new) → NotedBy depth noted.1.tellings z.tellings noted.0 heard new → NotedBy depth w.tellings z.tellings old (h ∷ heard) new
one_noted w v z old new h heard Whole is noted rest =
    let here = subst (λ (d : Depth). TellsBy d w.tellings h.node h.event h.reply noted.2.before noted.2.after' noted.1.tellings) is noted.3.1 in
    (noted.0, noted.1.tellings, noted.2, here, rest)
one_noted w v z old new h heard Stands is noted rest = tt

-- the steps of a line add to what was told of it alone
steps_told : (w z : Told) (old new : NodeList) (heard : List Heard) → Noted tracing.steps w z old heard new → (z ≡ record w { tellings = z.tellings }) × NotedBy w.depth w.tellings z.tellings old heard new
steps_told w z old new [] noted = (
  noted.1 ∙ ap (λ (l : List Telling). let t : Told = record w { tellings = l } in t) (sym (ap (λ (t : Told). t.tellings) noted.1)),
  nothing_noted w.depth w.tellings z.tellings old new noted.0 (ap (λ (t : Told). t.tellings) noted.1),
)
steps_told w z old new (h ∷ heard) noted =
    let rest = steps_told noted.1 z noted.0 new heard noted.4 in
    let same : noted.1.depth ≡ w.depth = ap (λ (t : Told). t.depth) noted.3.0 in (
      rest.0 ∙ ap (λ (t : Told). let u : Told = record t { tellings = z.tellings } in u) noted.3.0,
      one_noted w w z old new h heard w.depth refl noted (subst (λ (d : Depth). NotedBy d noted.1.tellings z.tellings noted.0 heard new) same rest.1),
    )

-- the facts of a line, and their lines
facts_told : (depth : Depth) (names : Names) (line : ℕ) (w z : Told) (first last nodes : NodeList) (heard : List Heard) → w.depth ≡ depth → w.tellings ≡ [] → Noted tracing.steps w z first heard last → (tellings : List Telling) × AreFacts tellings first heard last × (facts_part depth names line nodes tellings ≡ facts_part depth names line nodes z.tellings)
facts_told Whole names line w z first last nodes heard is none noted =
    let told = subst (λ (d : Depth). NotedBy d w.tellings z.tellings first heard last) is (steps_told w z first last heard noted).1 in
    (z.tellings, subst (λ (l : List Telling). Noted Tells l z.tellings first heard last) none told, refl)
facts_told Stands names line w z first last nodes heard is none noted =
    let facts = have_facts tracing.steps w z [] first last heard noted in
    (facts.0, facts.1, refl)

-- ---- a line

-- what is told of it
record IsPieceOf (depth : Depth) (names : Names) (all before : List Command) (line : ℕ) (command : Command) (old : List ℕ) (new : Told) (first last : NodeList) (past heard : List Heard) : Type 0 where
  pub piece : List ℕ
  pub text : new ≡ so_far depth names all (before ++ command ∷ []) (old ++ piece)
  pub is : IsPiece depth names all before (at_moment past first) (at_moment (past ++ heard) last) line command piece
  pub count : length last ≡ node_count all

piece_of : TheoremGivesLedger → (depth : Depth) (names : Names) (all before after' : List Command) (line : ℕ) (command : Command) (text : List ℕ) (new : Told) (first last : NodeList) (past heard : List Heard) → all ≡ before ++ command ∷ after' → AreAdmitted [] all → length first ≡ node_count all → ArePlayed all before past first
    → IsLine tracing all line command (so_far depth names all before text) first heard last new → IsPieceOf depth names all before line command text new first last past heard
piece_of law depth names all before after' line command text new first last past heard split admitted count far is =
    let old = so_far depth names all before text in
    let begun : Told = record old { text = text ++ line_part depth names line command } in
    let noted : Noted tracing.steps begun is.done first heard last = subst (λ (w : Told). Noted tracing.steps w is.done first heard last) is.begins is.noted in
    let steps = steps_told begun is.done first last heard noted in
    let facts = facts_told depth names line begun is.done first last last heard refl refl noted in
    let ended : Ends (record begun { tellings = is.done.tellings }) line command last new = subst (λ (w : Told). Ends w line command last new) steps.0 is.ends in
    let many : length last ≡ node_count all = noted_count tracing.steps is.begun is.done first last heard is.noted ∙ count in
    let front : take (length before) all ≡ before = ap (λ (l : List Command). take (length before) l) split ∙ take_at before (command ∷ after') (length before) refl in
    let within : length before < length all = omega (arith, ap (λ (l : List Command). length l) split, length-append before (command ∷ after')) in
    let longer : length before + 1 ≡ length (before ++ command ∷ []) = sym (length-append before (command ∷ [])) in
    let stand = ended.0 in
    let stands = subst (λ (l : List Command). StandsBy names all l last command stand) front ended.1 in
    let part = line_part depth names line command in
    let told = facts_part depth names line last is.done.tellings in
    let piece = part ++ (facts_part depth names line last facts.0 ++ stand) in
    let whole : (text ++ part) ++ (told ++ stand) ≡ text ++ piece = append_assoc text part (told ++ stand) ∙ ap (λ (l : List ℕ). text ++ (part ++ (l ++ stand))) (sym facts.2) in
    record {
      piece = piece;
      text = ended.2 within ∙ ap (λ (n : ℕ). let t : Told = record (so_far depth names all before ((text ++ part) ++ (told ++ stand))) { done = n } in t) longer ∙ ap (λ (l : List ℕ). so_far depth names all (before ++ command ∷ []) l) whole;
      is = record {
        follows = record { more = heard; heard = refl; hears = (is.calm, is.hears) };
        tellings = facts.0;
        told = facts.1;
        stand = stand;
        stands = stands_behind law names all before after' command is.calm first last past heard stand split admitted many far is.hears stands;
        is = refl;
      };
      count = many;
    }

-- ---- lines

-- what is told of these, behind those before them
pub record AreToldOf (depth : Depth) (names : Names) (all before cs : List Command) (lines : List ℕ) (old : List ℕ) (new : Told) (first last : NodeList) (past heard : List Heard) : Type 0 where
  pub pieces : List ℕ
  pub text : new ≡ so_far depth names all (before ++ cs) (old ++ pieces)
  pub told : AreTold depth names all before (at_moment past first) lines cs pieces (at_moment (past ++ heard) last)
  pub played : ArePlayed all (before ++ cs) (past ++ heard) last
  pub count : length last ≡ node_count all

pub told_of : TheoremGivesLedger → (depth : Depth) (names : Names) (all before cs after' : List Command) (lines more : List ℕ) (text : List ℕ) (old new : Told) (first last : NodeList) (past heard : List Heard) → all ≡ before ++ (cs ++ after') → AreAdmitted [] all → length first ≡ node_count all → ArePlayed all before past first → old ≡ so_far depth names all before text
    → AreLines tracing all lines cs old first heard last new → AreToldOf depth names all before cs (lines ++ more) text new first last past heard
told_of law depth names all before [] after' [] more text old new first last past heard split admitted count far is so =
    let none : past ++ heard ≡ past = ap (λ (l : List Heard). past ++ l) so.0 ∙ append-nil past in
    record {
      pieces = [];
      text = so.2 ∙ is ∙ ap (λ (l : List Command). so_far depth names all l text) (sym (append-nil before)) ∙ ap (λ (l : List ℕ). so_far depth names all (before ++ []) l) (sym (append-nil text));
      told = (refl, ap (λ (l : List Heard). at_moment l last) none ∙ ap (λ (ns : NodeList). at_moment past ns) so.1);
      played = subst (λ (l : List Command). ArePlayed all l (past ++ heard) last) (sym (append-nil before))
          (subst (λ (l : List Heard). ArePlayed all before l last) (sym none) (subst (λ (ns : NodeList). ArePlayed all before past ns) (sym so.1) far));
      count = ap (λ (ns : NodeList). length ns) so.1 ∙ count;
    }
told_of law depth names all before [] after' (l ∷ lines) more text old new first last past heard split admitted count far is so = absurd so
told_of law depth names all before (c ∷ cs) after' [] more text old new first last past heard split admitted count far is so = absurd so
told_of law depth names all before (c ∷ cs) after' (l ∷ lines) more text old new first last past heard split admitted count far is so =
    let line : IsLine tracing all l c (so_far depth names all before text) first so.2 so.1 so.0 = subst (λ (t : Told). IsLine tracing all l c t first so.2 so.1 so.0) is so.5 in
    let piece = piece_of law depth names all before (cs ++ after') l c text so.0 first so.1 past so.2 split admitted count far line in
    let next : all ≡ (before ++ c ∷ []) ++ (cs ++ after') = split ∙ sym (append_assoc before (c ∷ []) (cs ++ after')) in
    let played = played_next tracing all before l c (so_far depth names all before text) so.0 first so.1 past so.2 far line in
    let rest = told_of law depth names all (before ++ c ∷ []) cs after' lines more (text ++ piece.piece) so.0 new so.1 last (past ++ so.2) so.3 next admitted piece.count played piece.text so.6 in
    let commands : (before ++ c ∷ []) ++ cs ≡ before ++ c ∷ cs = append_assoc before (c ∷ []) cs in
    let past_all : (past ++ so.2) ++ so.3 ≡ past ++ heard = append_assoc past so.2 so.3 ∙ ap (λ (h : List Heard). past ++ h) (sym so.4) in
    record {
      pieces = piece.piece ++ rest.pieces;
      text = rest.text ∙ ap (λ (cs' : List Command). so_far depth names all cs' ((text ++ piece.piece) ++ rest.pieces)) commands ∙ ap (λ (t : List ℕ). so_far depth names all (before ++ c ∷ cs) t) (append_assoc text piece.piece rest.pieces);
      told = (
        piece.piece,
        rest.pieces,
        at_moment (past ++ so.2) so.1,
        refl,
        piece.is,
        subst (λ (h : List Heard). AreTold depth names all (before ++ c ∷ []) (at_moment (past ++ so.2) so.1) (lines ++ more) cs rest.pieces (at_moment h last)) past_all rest.told,
      );
      played = subst (λ (cs' : List Command). ArePlayed all cs' (past ++ heard) last) commands (subst (λ (h : List Heard). ArePlayed all ((before ++ c ∷ []) ++ cs) h last) past_all rest.played);
      count = rest.count;
    }

-- no line was played yet
none_played : (all : List Command) (first : NodeList) → AreNew all first → ArePlayed all [] [] first
none_played all first made = nothing_played all (record { nodes = first; driven = driven_in all }) (record { nodes = made; driven = refl })

-- ---- all that is told

-- all lines were played: then come the end, and the warnings
pub all_whole : TheoremGivesLedger → (depth : Depth) (names : Names) (commands : List Command) (lines text ending : List ℕ) (network : NetworkView) (old new : Told) (warnings : List Warning) → AreAdmitted [] commands → old ≡ so_far depth names commands [] [] → (run : IsRunOf tracing commands lines network old new) → IsEnd false names commands (at_moment run.played.heard network.nodes) ending
    → AreWarnings commands lines warnings → text ≡ new.text ++ ending ++ warnings_text warnings → IsWhole depth names commands lines text
all_whole law depth names commands lines text ending network old new warnings admitted begun run ended warned is =
    let told = told_of law depth names commands [] commands [] lines [] [] old new run.first network.nodes [] run.played.heard (sym (append-nil commands)) admitted run.made.count (none_played commands run.first run.made) begun run.noted in
    let pieces : new.text ≡ told.pieces = ap (λ (t : Told). t.text) told.text in
    record {
      last = at_moment run.played.heard network.nodes;
      pieces = told.pieces;
      run = record { first = run.first; new = run.made; told = subst (λ (ls : List ℕ). AreTold depth names commands [] (beginning run.first) ls commands told.pieces (at_moment run.played.heard network.nodes)) (append-nil lines) told.told };
      ending = ending;
      ended = ended;
      warnings = warnings;
      warned = warned;
      is = is ∙ ap (λ (l : List ℕ). l ++ ending ++ warnings_text warnings) pieces;
    }

-- a line wasn't done
pub cut_off : TheoremGivesLedger → (depth : Depth) (names : Names) (commands : List Command) (lines text : List ℕ) (network : NetworkView) (old new : Told) (stopped : StoppedAt) → AreAdmitted [] commands → old ≡ so_far depth names commands [] [] → IsCutOffOf tracing commands lines network old new stopped → text ≡ new.text ++ facts_part new.depth new.names stopped.line network.nodes new.tellings → IsCutOff depth names commands lines text stopped.fault
cut_off law depth names commands lines text network old new stopped admitted begun cut is =
    let told = told_of law depth names commands [] cut.before (cut.command ∷ cut.after') cut.lines_before (stopped.line ∷ cut.lines_after) [] old cut.so_far cut.first cut.mid [] cut.heard cut.split admitted cut.made.count (none_played commands cut.first cut.made) begun cut.noted in
    let part = line_part depth names stopped.line cut.command in
    let reached = so_far depth names commands cut.before told.pieces in
    let started : Told = record reached { text = told.pieces ++ part } in
    let begins : cut.begun ≡ started = subst (λ (t : Told). tracing.begins t stopped.line cut.command cut.mid cut.begun) told.text cut.begins in
    let here : Noted tracing.steps started new cut.mid cut.more network.nodes = subst (λ (t : Told). Noted tracing.steps t new cut.mid cut.more network.nodes) begins cut.here in
    let steps = steps_told started new cut.mid network.nodes cut.more here in
    let facts = facts_told depth names stopped.line started new cut.mid network.nodes network.nodes cut.more refl refl here in
    let whole = λ (t : Told). t.text ++ facts_part t.depth t.names stopped.line network.nodes new.tellings in
    record {
      before = cut.before;
      command = cut.command;
      after' = cut.after';
      split = cut.split;
      line = stopped.line;
      at = cut_at tracing commands lines network old new stopped cut;
      last = at_moment cut.heard cut.mid;
      pieces = told.pieces;
      run = record { first = cut.first; new = cut.made; told = subst (λ (ls : List ℕ). AreTold depth names commands [] (beginning cut.first) ls cut.before told.pieces (at_moment cut.heard cut.mid)) (sym cut.lines_split) told.told };
      more = cut.more;
      nodes = network.nodes;
      tellings = facts.0;
      told = facts.1;
      is = is ∙ ap whole steps.0 ∙ append_assoc told.pieces part (facts_part depth names stopped.line network.nodes new.tellings) ∙ ap (λ (l : List ℕ). told.pieces ++ (part ++ l)) (sym facts.2);
      named = cut.named;
      stopped = cut.why;
    }

-- ---- the lines of a script

one_each : (o : Option Command) (number : ℕ) (rest : List ℕ) (others : List Command) → length rest ≡ length others → length (map (λ (command : Command). number) (option_to_list o) ++ rest) ≡ length (option_to_list o ++ others)
one_each None number rest others e = e
one_each (Some command) number rest others e = ap (λ (n : ℕ). suc n) e

numbers_fit : (number : ℕ) (digits : List (List ℕ)) → length (numbers_of number digits) ≡ length (commands_of digits)
numbers_fit number [] = refl
numbers_fit number (line ∷ digits) = one_each (command_in (words_of line)) number (numbers_of (number + 1) digits) (commands_of digits) (numbers_fit (number + 1) digits)

-- each command has the number of its line
pub lines_fit : (text : List ℕ) (commands : List Command) (lines : List ℕ) → IsSaid text commands lines → length lines ≡ length commands
lines_fit text commands lines said =
    ap (λ (l : List ℕ). length l) said.lines_are ∙ numbers_fit 1 said.digits ∙ sym (ap (λ (l : List Command). length l) said.commands_are)

-- ---- nothing is told

pub said_wants : (text : List ℕ) (commands : List Command) (lines : List ℕ) → IsSaid text commands lines → MayWant text
said_wants text commands lines said = inl (commands, lines, said)
