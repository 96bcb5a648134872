-- A script is played line by line, with a watch of its lines.
use Rattle.std.proofs.Common.{◌≡◌, ◌≢◌, ◌<◌, ◌+◌, ◌∙◌, ℕ, suc, Bool, true, false, List, [], ◌∷◌, ◌++◌, length, get_or, take, drop, refl, sym, ap, subst, arith, append_assoc, append-nil, drop-cons, inl, inr}
use Rattle.std.specs.Prelude.{◌⊎◌, Some, Ok, Err, All, slice_get}
use Rattle.std.proofs.Math.Seq.{take-length}
use Rattle.std.proofs.lemmas.List.{take_more, take-append-drop, length-set}
use Rattle.scp_turn.specs.scp_types.specs.declared.fault.Fault.{Fault}
use Rattle.scp_turn.specs.scp_types.specs.declared.fault.Fault.TheVariants.{NoMemory, Failed as failing, Full as full_fault}
use Rattle.scp_turn.specs.scp_core.specs.declared.event.Event.{Event}
use Rattle.scp_turn.specs.scp_core.specs.declared.event.Reply.{Reply}
use Rattle.scp_turn.specs.scp_core.specs.Kv.{NodeView}
use Rattle.scp_turn.specs.Kv.{Noting}
use Rattle.scp_turn.specs.Heard.{Nodes, Heard, Noted}
use Rattle.scp_turn.specs.Network.{NetworkView}
use Rattle.scp_turn.proofs.Hearing.{noted_on}
use Rattle.scp_report.specs.scp_script.specs.declared.command.Command.{Command}
use Rattle.scp_report.specs.scp_script.specs.Script.{AreAdmitted, node_count}
use Rattle.scp_report.specs.scp_script.specs.Nodes.{NamesNodes}
use Rattle.scp_line.specs.declared.player.Stopped.{Stopped}
use Rattle.scp_line.specs.declared.playing.PlayFault.{PlayFault}
use Rattle.scp_line.specs.declared.watch.Both.{Both}
use Rattle.scp_line.specs.Play.{ArePlayed, driven_in}
use Rattle.scp_line.specs.Nodes.{AreMade, Watching, moment, Acts, Tries, ActsAgain, GivesUp, IsStoppedAt}
use Rattle.scp_line.specs.Player.{Lining, lining, ArePlaying, IsLine, AreLines, IsRun, IsCutOff, IsStoppedBy}
use Rattle.scp_line.specs.inside.Nodes.{IsPlayed, IsStopped}
use Rattle.scp_line.specs.inside.Player.{NotesAs}
use Rattle.scp_line.proofs.Standing.{few_nodes}
use Rattle.scp_line.proofs.Lines.{IsDone, line_done, line_stops, stopped_somewhere, played_more}
use Rattle.scp_line.proofs.Scripts.{Plays, stands, split_at, none_played, one_more, has_played}

-- ---- a line that isn't done

-- what was noted of its steps
pub stopped_noted : {W : Type 0} (Note : Noting W) (old new : Watching W) (command : Command) (e : PlayFault) → e.fault ≢ NoMemory → Acts Note old command new (Err e) → (more : List Heard) × Noted Note old.watch new.watch old.network.nodes more new.network.nodes
stopped_noted {W} Note old new command e other (inl rests) = (rests.1.1.0.heard, rests.1.1.0.is.1)
stopped_noted {W} Note old new command e other (inr tries) = first_try tries.1
  where
    last_try : (mid : Watching W) (calm : Bool) → Tries Note calm GivesUp mid command new (Err e) → (more : List Heard) × Noted Note mid.watch new.watch mid.network.nodes more new.network.nodes
    last_try mid calm (inl want) = absurd (other want.0)
    last_try mid calm (inr (inl refused)) = (refused.3.2.0.heard, refused.3.2.0.is.1)
    last_try mid calm (inr (inr was_full)) =
        let gave : new ≡ was_full.1 = was_full.3.0 in (
          was_full.2.2.0.heard,
          subst (λ (x : Watching W). Noted Note mid.watch x.watch mid.network.nodes was_full.2.2.0.heard x.network.nodes) (sym gave) was_full.2.2.0.is.1,
        )

    again : (mid : Watching W) → ActsAgain Note mid command new (Err e) → (more : List Heard) × Noted Note mid.watch new.watch mid.network.nodes more new.network.nodes
    again mid (inl broke) = (broke.2.1.0.heard, broke.2.1.0.is.1)
    again mid (inr rested) =
        let last = last_try rested.0 rested.1 rested.3 in
        (rested.2.0.0.heard ++ last.0, noted_on Note mid.watch rested.0.watch new.watch mid.network.nodes rested.0.network.nodes new.network.nodes rested.2.0.0.heard last.0 rested.2.0.0.is.1 last.1)

    first_try : Tries Note true (λ mid last done. ActsAgain Note mid command last done) old command new (Err e) → (more : List Heard) × Noted Note old.watch new.watch old.network.nodes more new.network.nodes
    first_try (inl want) = absurd (other want.0)
    first_try (inr (inl refused)) = (refused.3.2.0.heard, refused.3.2.0.is.1)
    first_try (inr (inr was_full)) =
        let more = again was_full.1 was_full.3 in
        (was_full.2.2.0.heard ++ more.0, noted_on Note old.watch was_full.1.watch new.watch old.network.nodes was_full.1.network.nodes new.network.nodes was_full.2.2.0.heard more.0 was_full.2.2.0.is.1 more.1)

-- ---- lines, and then one

pub lines_next : {W : Type 0} (L : Lining W) (all : List Command) (lines : List ℕ) (commands : List Command) (line : ℕ) (command : Command) (a w z : W) (first mid last : Nodes) (heard more : List Heard) → AreLines L all lines commands a first heard mid w → IsLine L all line command w mid more last z → AreLines L all (lines ++ line ∷ []) (commands ++ command ∷ []) a first (heard ++ more) last z
lines_next {W} L all [] [] line command a w z first mid last heard more so is = (
  z,
  last,
  more,
  [],
  ap (λ (l : List Heard). l ++ more) so.0 ∙ sym (append-nil more),
  subst (λ (ns : Nodes). IsLine L all line command a ns more last z) so.1 (subst (λ (u : W). IsLine L all line command u mid more last z) so.2 is),
  (refl, refl, refl),
)
lines_next {W} L all [] (c ∷ commands) line command a w z first mid last heard more so is = absurd so
lines_next {W} L all (l ∷ lines) [] line command a w z first mid last heard more so is = absurd so
lines_next {W} L all (l ∷ lines) (c ∷ commands) line command a w z first mid last heard more so is = (
  so.0,
  so.1,
  so.2,
  so.3 ++ more,
  ap (λ (x : List Heard). x ++ more) so.4 ∙ append_assoc so.2 so.3 more,
  so.5,
  lines_next L all lines commands line command so.0 w z so.1 mid last so.3 more so.6 is,
)

-- these lines were played so far, and the watch noted each
pub record PlaysSo {W : Type 0} (L : Lining W) (all done : List Command) (lines : List ℕ) (network : NetworkView) (begun watch : W) : Type 0 where
  pub plays : Plays all done network
  pub noted : AreLines L all lines done begun plays.played.first plays.heard network.nodes watch

-- none yet
pub none_yet : {W : Type 0} (L : Lining W) (all : List Command) (network : NetworkView) (begun : W) → AreMade all network → PlaysSo L all [] [] network begun begun
none_yet L all network begun made = record { plays = none_played all network made; noted = (refl, refl, refl) }

longer : {X : Type 0} (xs : List X) (i : ℕ) (x : X) → i < length xs → x ≡ get_or xs i x → take i xs ++ x ∷ [] ≡ take (i + 1) xs
longer {X} xs i x within is = sym (take_more xs i x within ∙ ap (λ (y : X). take i xs ++ y ∷ []) (sym is))

parts : {X : Type 0} (xs : List X) (i : ℕ) (x : X) → i < length xs → x ≡ get_or xs i x → xs ≡ take i xs ++ x ∷ drop (suc i) xs
parts {X} xs i x lt is = sym (take-append-drop i xs) ∙ ap (λ (l : List X). take i xs ++ l) (drop-cons xs i x lt ∙ ap (λ (y : X). y ∷ drop (suc i) xs) (sym is))

-- the command behind the first i was done
abbrev done_next : {W : Type 0} (L : Lining W) (all : List Command) (lines : List ℕ) (i : ℕ) (command : Command) (calm : Bool) (old new : NetworkView) (begun w u v : W) → i < length all → command ≡ get_or all i command → All NamesNodes all → AreAdmitted [] all → PlaysSo L all (take i all) (take i lines) old begun w → Acts L.steps (moment old u) command (moment new v) (Ok calm)
    → IsDone L.steps all (take i all) command calm (moment old u) (moment new v)
done_next L all lines i command calm old new begun w u v within is names admitted so acts = line_done L.steps all (take i all) command calm (moment old u) (moment new v) (stands all i command within is names admitted) so.plays.moment acts

-- so its nodes are those of a script
pub are_playing : {W : Type 0} (L : Lining W) (all : List Command) (lines : List ℕ) (i : ℕ) (command : Command) (calm : Bool) (old new : NetworkView) (begun w u v : W) → i < length all → command ≡ get_or all i command → All NamesNodes all → AreAdmitted [] all → PlaysSo L all (take i all) (take i lines) old begun w → Acts L.steps (moment old u) command (moment new v) (Ok calm)
    → ArePlaying new.nodes
are_playing L all lines i command calm old new begun w u v within is names admitted so acts =
    let d = done_next L all lines i command calm old new begun w u v within is names admitted so acts in
    let count = d.moment.count in
    record { few = omega (arith, count, few_nodes all names); run = d.moment.run; heard = so.plays.heard ++ d.hear.heard; have = d.hear.have so.plays.heard so.plays.played.have }

-- and so many were played
pub line_more : {W : Type 0} (L : Lining W) (all : List Command) (lines : List ℕ) (i : ℕ) (command : Command) (line : ℕ) (calm : Bool) (old new : NetworkView) (begun w u v z : W) → i < length all → length lines ≡ length all → command ≡ get_or all i command → line ≡ get_or lines i line → All NamesNodes all → AreAdmitted [] all → PlaysSo L all (take i all) (take i lines) old begun w
    → L.begins w line command old.nodes u → Acts L.steps (moment old u) command (moment new v) (Ok calm) → L.ends v line command calm new.nodes z → PlaysSo L all (take (i + 1) all) (take (i + 1) lines) new begun z
line_more L all lines i command line calm old new begun w u v z within count is at names admitted so begins acts ends =
    let d = done_next L all lines i command calm old new begun w u v within is names admitted so acts in
    let here : IsLine L all line command w old.nodes d.hear.heard new.nodes z = record {
      begun = u;
      done = v;
      calm = calm;
      begins = begins;
      hears = d.hear.is.0;
      noted = d.hear.is.1;
      ends = ends;
      run = d.moment.run;
      have = d.hear.have;
    }
    in
    let more : PlaysSo L all (take i all ++ command ∷ []) (take i lines ++ line ∷ []) new begun z = record {
      plays = one_more L.steps all (take i all) command calm (moment old u) (moment new v) so.plays d;
      noted = lines_next L all (take i lines) (take i all) line command begun w z so.plays.played.first old.nodes new.nodes so.plays.heard d.hear.heard so.noted here;
    }
    in
    subst (λ (done : List Command). PlaysSo L all done (take (i + 1) lines) new begun z) (longer all i command within is)
    (subst (λ (ns : List ℕ). PlaysSo L all (take i all ++ command ∷ []) ns new begun z) (longer lines i line (omega (arith, within, count)) at) more)

-- it wasn't for want of memory
not_for_memory : (e : PlayFault) (f : Fault) → e.fault ≡ f → f ≢ NoMemory → e.fault ≢ NoMemory
not_for_memory e f is other want = other (sym is ∙ want)

-- or it wasn't done
pub line_cut : {W : Type 0} (L : Lining W) (all : List Command) (lines : List ℕ) (i : ℕ) (command : Command) (line : ℕ) (old new : NetworkView) (begun w u v : W) (e : PlayFault) → i < length all → length lines ≡ length all → command ≡ get_or all i command → line ≡ get_or lines i line → All NamesNodes all → AreAdmitted [] all → PlaysSo L all (take i all) (take i lines) old begun w
    → L.begins w line command old.nodes u → Acts L.steps (moment old u) command (moment new v) (Err e) → IsStoppedBy L all lines new begun v (record { line = line; fault = e })
line_cut {W} L all lines i command line old new begun w u v e within count is at names admitted so begins acts = by_why (line_stops L.steps all (take i all) command so.plays.heard (moment old u) (moment new v) e (stands all i command within is names admitted) so.plays.played so.plays.moment acts)
  where
    cut : e.fault ≢ NoMemory → IsStoppedAt all (take i all) e → IsCutOff L all lines new begun v (record { line = line; fault = e })
    cut other why =
        let more = stopped_noted L.steps (moment old u) (moment new v) command e other acts in
        record {
          before = take i all;
          command = command;
          after' = drop (suc i) all;
          split = split_at all i command within is;
          lines_before = take i lines;
          lines_after = drop (suc i) lines;
          lines_split = parts lines i line (omega (arith, within, count)) at;
          first = so.plays.played.first;
          made = so.plays.played.new;
          heard = so.plays.heard;
          mid = old.nodes;
          so_far = w;
          noted = so.noted;
          begun = u;
          begins = begins;
          more = more.0;
          here = more.1;
          named = other;
          why = why;
        }

    by_why : IsStoppedAt all (take i all) e → IsStoppedBy L all lines new begun v (record { line = line; fault = e })
    by_why (inl want) = inl want
    by_why (inr (inl failed)) = inr (cut (not_for_memory e failing failed.0 (λ no. absurd cc)) (inr (inl failed)))
    by_why (inr (inr filled)) = inr (cut (not_for_memory e full_fault filled.0 (λ no. absurd cc)) (inr (inr filled)))

-- all were played
pub all_lines : {W : Type 0} (L : Lining W) (all : List Command) (lines : List ℕ) (i : ℕ) (network : NetworkView) (begun watch : W) → i ≡ length all → length lines ≡ length all → PlaysSo L all (take i all) (take i lines) network begun watch → IsRun L all lines network begun watch
all_lines L all lines i network begun watch end count so =
    let whole : take i all ≡ all = ap (λ (n : ℕ). take n all) end ∙ take-length all in
    let each : take i lines ≡ lines = ap (λ (n : ℕ). take n lines) (end ∙ sym count) ∙ take-length lines in
    let done : PlaysSo L all all lines network begun watch = subst (λ (ns : List ℕ). PlaysSo L all all ns network begun watch) each (subst (λ (cs : List Command). PlaysSo L all cs (take i lines) network begun watch) whole so) in
    record { played = has_played all all network done.plays; first = done.plays.played.first; made = done.plays.played.new; noted = done.noted }

-- ---- with nobody told

pub run_is_played : {W : Type 0} (L : Lining W) (commands : List Command) (lines : List ℕ) (network : NetworkView) (old new : W) → All NamesNodes commands → IsRun L commands lines network old new → IsPlayed commands network
run_is_played L commands lines network old new names run =
    let count = run.played.count in
    record { heard = run.played.heard; played = run.played.played; few = omega (arith, count, few_nodes commands names) }

pub stop_is_stopped : {W : Type 0} (L : Lining W) (commands : List Command) (lines : List ℕ) (network : NetworkView) (old new : W) (stopped : Stopped) → IsStoppedBy L commands lines network old new stopped → IsStopped commands stopped.fault
stop_is_stopped L commands lines network old new stopped (inl want) = inl want
stop_is_stopped L commands lines network old new stopped (inr cut) = stopped_somewhere commands cut.before stopped.fault cut.why

-- ---- one watch by another

-- steps
pub steps_as : {W V : Type 0} (Note : Lining W) (lacks : W → Bool) (Settled : Lining V) (held : W → V) → NotesAs Note lacks Settled held → (w z : W) (old new : Nodes) (heard : List Heard) → Noted Note.steps w z old heard new → lacks z ≡ false → (lacks w ≡ false) × Noted Settled.steps (held w) (held z) old heard new
steps_as Note lacks Settled held law w z old new [] noted calm = (sym (ap lacks noted.1) ∙ calm, (noted.0, ap held noted.1))
steps_as Note lacks Settled held law w z old new (h ∷ heard) noted calm =
    let rest = steps_as Note lacks Settled held law noted.1 z noted.0 new heard noted.4 calm in
    let here = law.steps w noted.1 h.node h.event h.reply noted.2.before noted.2.after' rest.0 noted.3 in
    (here.0, (noted.0, held noted.1, noted.2, here.1, rest.1))

-- a line
pub line_as : {W V : Type 0} (Note : Lining W) (lacks : W → Bool) (Settled : Lining V) (held : W → V) → NotesAs Note lacks Settled held → (all : List Command) (line : ℕ) (command : Command) (old new : W) (first last : Nodes) (heard : List Heard) → IsLine Note all line command old first heard last new → lacks new ≡ false → (lacks old ≡ false) × IsLine Settled all line command (held old) first heard last (held new)
line_as Note lacks Settled held law all line command old new first last heard is calm =
    let ends = law.ends is.done new line command is.calm last calm is.ends in
    let steps = steps_as Note lacks Settled held law is.begun is.done first last heard is.noted ends.0 in
    let begins = law.begins old is.begun line command first steps.0 is.begins in (
      begins.0,
      record { begun = held is.begun; done = held is.done; calm = is.calm; begins = begins.1; hears = is.hears; noted = steps.1; ends = ends.1; run = is.run; have = is.have },
    )

-- lines
pub lines_as : {W V : Type 0} (Note : Lining W) (lacks : W → Bool) (Settled : Lining V) (held : W → V) → NotesAs Note lacks Settled held → (all : List Command) (lines : List ℕ) (commands : List Command) (old new : W) (first last : Nodes) (heard : List Heard) → AreLines Note all lines commands old first heard last new → lacks new ≡ false → (lacks old ≡ false) × AreLines Settled all lines commands (held old) first heard last (held new)
lines_as Note lacks Settled held law all [] [] old new first last heard so calm = (sym (ap lacks so.2) ∙ calm, (so.0, so.1, ap held so.2))
lines_as Note lacks Settled held law all [] (c ∷ commands) old new first last heard so calm = absurd so
lines_as Note lacks Settled held law all (l ∷ lines) [] old new first last heard so calm = absurd so
lines_as Note lacks Settled held law all (l ∷ lines) (c ∷ commands) old new first last heard so calm =
    let rest = lines_as Note lacks Settled held law all lines commands so.0 new so.1 last so.3 so.6 calm in
    let here = line_as Note lacks Settled held law all l c old so.0 first so.1 so.2 so.5 rest.0 in
    (here.0, (held so.0, so.1, so.2, so.3, so.4, here.1, rest.1))

-- a run
abbrev pub run_as : {W V : Type 0} (Note : Lining W) (lacks : W → Bool) (Settled : Lining V) (held : W → V) → NotesAs Note lacks Settled held → (commands : List Command) (lines : List ℕ) (network : NetworkView) (old new : W) → IsRun Note commands lines network old new → lacks new ≡ false → IsRun Settled commands lines network (held old) (held new)
run_as Note lacks Settled held law commands lines network old new run calm = record {
  played = run.played;
  first = run.first;
  made = run.made;
  noted = (lines_as Note lacks Settled held law commands lines commands old new run.first network.nodes run.played.heard run.noted calm).1;
}

-- a line that wasn't done, and those before it
pub cut_as : {W V : Type 0} (Note : Lining W) (lacks : W → Bool) (Settled : Lining V) (held : W → V) → NotesAs Note lacks Settled held → (commands : List Command) (lines : List ℕ) (network : NetworkView) (old new : W) (stopped : Stopped) → IsCutOff Note commands lines network old new stopped → lacks new ≡ false → IsCutOff Settled commands lines network (held old) (held new) stopped
cut_as Note lacks Settled held law commands lines network old new stopped cut calm =
    let here = steps_as Note lacks Settled held law cut.begun new cut.mid network.nodes cut.more cut.here calm in
    let begins = law.begins cut.so_far cut.begun stopped.line cut.command cut.mid here.0 cut.begins in
    record {
      before = cut.before;
      command = cut.command;
      after' = cut.after';
      split = cut.split;
      lines_before = cut.lines_before;
      lines_after = cut.lines_after;
      lines_split = cut.lines_split;
      first = cut.first;
      made = cut.made;
      heard = cut.heard;
      mid = cut.mid;
      so_far = held cut.so_far;
      noted = (lines_as Note lacks Settled held law commands cut.lines_before cut.before old cut.so_far cut.first cut.mid cut.heard cut.noted begins.0).1;
      begun = held cut.begun;
      begins = begins.1;
      more = cut.more;
      here = here.1;
      named = cut.named;
      why = cut.why;
    }

-- a run from the same state
abbrev pub run_from : {W : Type 0} (L : Lining W) (commands : List Command) (lines : List ℕ) (network : NetworkView) (old same new : W) → old ≡ same → IsRun L commands lines network old new → IsRun L commands lines network same new
run_from {W} L commands lines network old same new e run = record {
  played = run.played;
  first = run.first;
  made = run.made;
  noted = subst (λ (w : W). AreLines L commands lines commands w run.first run.played.heard network.nodes new) e run.noted;
}

-- what was played, and then a line
pub played_next : {W : Type 0} (L : Lining W) (all before : List Command) (line : ℕ) (command : Command) (old new : W) (first last : Nodes) (past heard : List Heard) → ArePlayed all before past first → IsLine L all line command old first heard last new → ArePlayed all (before ++ command ∷ []) (past ++ heard) last
played_next L all before line command old new first last past heard far is = record {
  first = far.first;
  new = far.new;
  played = played_more (driven_in all) (node_count all) before command far.first first last past heard far.played (is.calm, is.hears);
  have = is.have past far.have;
  run = is.run;
}

-- as many nodes as before
pub noted_count : {W : Type 0} (Note : Noting W) (w z : W) (old new : Nodes) (heard : List Heard) → Noted Note w z old heard new → length new ≡ length old
noted_count Note w z old new [] noted = ap (λ (ns : Nodes). length ns) noted.0
noted_count Note w z old new (h ∷ heard) noted =
    noted_count Note noted.1 z noted.0 new heard noted.4 ∙ ap (λ (ns : Nodes). length ns) noted.2.is ∙ length-set old noted.2.place noted.2.after'

-- ---- numbers of lines

-- there are as many as commands
lines_fit : {W : Type 0} (L : Lining W) (all : List Command) (lines : List ℕ) (commands : List Command) (old new : W) (first last : Nodes) (heard : List Heard) → AreLines L all lines commands old first heard last new → length lines ≡ length commands
lines_fit L all [] [] old new first last heard so = refl
lines_fit L all [] (c ∷ commands) old new first last heard so = absurd so
lines_fit L all (l ∷ lines) [] old new first last heard so = absurd so
lines_fit L all (l ∷ lines) (c ∷ commands) old new first last heard so = ap (λ (n : ℕ). suc n) (lines_fit L all lines commands so.0 new so.1 last so.3 so.6)

behind : {X : Type 0} (xs ys : List X) (x : X) → slice_get (xs ++ x ∷ ys) (length xs) ≡ Some x
behind [] ys x = refl
behind (y ∷ xs) ys x = behind xs ys x

-- that of the line that wasn't done stands at its command's place
pub cut_at : {W : Type 0} (L : Lining W) (commands : List Command) (lines : List ℕ) (network : NetworkView) (old new : W) (stopped : Stopped) → (cut : IsCutOff L commands lines network old new stopped) → slice_get lines (length cut.before) ≡ Some stopped.line
cut_at L commands lines network old new stopped cut =
    subst (λ (n : ℕ). slice_get lines n ≡ Some stopped.line) (lines_fit L commands cut.lines_before cut.before old cut.so_far cut.first cut.mid cut.heard cut.noted)
    (subst (λ (ls : List ℕ). slice_get ls (length cut.lines_before) ≡ Some stopped.line) (sym cut.lines_split) (behind cut.lines_before cut.lines_after stopped.line))

-- ---- a watch of steps alone

-- what was noted of lines is what was noted of all their steps
pub quiet_lines : {W : Type 0} (L : Lining W) → ((old new : W) (line : ℕ) (command : Command) (nodes : Nodes) → L.begins old line command nodes new → new ≡ old) → ((old new : W) (line : ℕ) (command : Command) (calm : Bool) (nodes : Nodes) → L.ends old line command calm nodes new → new ≡ old)
    → (all : List Command) (lines : List ℕ) (commands : List Command) (old new : W) (first last : Nodes) (heard : List Heard) → AreLines L all lines commands old first heard last new → Noted L.steps old new first heard last
quiet_lines {W} L begins ends all [] [] old new first last heard so = subst (λ (h : List Heard). Noted L.steps old new first h last) (sym so.0) (so.1, so.2)
quiet_lines {W} L begins ends all [] (c ∷ commands) old new first last heard so = absurd so
quiet_lines {W} L begins ends all (l ∷ lines) [] old new first last heard so = absurd so
quiet_lines {W} L begins ends all (l ∷ lines) (c ∷ commands) old new first last heard so =
    let is = so.5 in
    let begun : is.begun ≡ old = begins old is.begun l c first is.begins in
    let done : so.0 ≡ is.done = ends is.done so.0 l c is.calm so.1 is.ends in
    let here : Noted L.steps old so.0 first so.2 so.1 = subst (λ (u : W). Noted L.steps u so.0 first so.2 so.1) begun (subst (λ (z : W). Noted L.steps is.begun z first so.2 so.1) (sym done) is.noted) in
    subst (λ (h : List Heard). Noted L.steps old new first h last) (sym so.4) (noted_on L.steps old so.0 new first so.1 last so.2 so.3 here (quiet_lines L begins ends all lines commands so.0 new so.1 last so.3 so.6))

-- ---- two watches at once

-- the first of two notes what it notes alone
pub first_notes : {A B : Type 0} (BeginsA : A → ℕ → Command → Nodes → A → Type 0) (EndsA : A → ℕ → Command → Bool → Nodes → A → Type 0) (BeforeA : A → ℕ → Event → NodeView → A → Type 0) (AfterA : A → ℕ → Reply → NodeView → A → Type 0) (BeginsB : B → ℕ → Command → Nodes → B → Type 0) (EndsB : B → ℕ → Command → Bool → Nodes → B → Type 0) (BeforeB : B → ℕ → Event → NodeView → B → Type 0) (AfterB : B → ℕ → Reply → NodeView → B → Type 0)
    → NotesAs (lining {W = Both A B}
    (λ old line command nodes new. BeginsA old.first line command nodes new.first × BeginsB old.second line command nodes new.second)
    (λ old line command calm nodes new. EndsA old.first line command calm nodes new.first × EndsB old.second line command calm nodes new.second)
    (λ old number event node new. BeforeA old.first number event node new.first × BeforeB old.second number event node new.second)
    (λ old number reply node new. AfterA old.first number reply node new.first × AfterB old.second number reply node new.second))
    (λ (w : Both A B). false) (lining BeginsA EndsA BeforeA AfterA) (λ (w : Both A B). w.first)
first_notes {A} {B} BeginsA EndsA BeforeA AfterA BeginsB EndsB BeforeB AfterB = record {
  begins = λ old new line command nodes calm notes. (refl, notes.0);
  steps = λ old new number event reply before after' calm notes. (refl, (notes.0.first, notes.1.0, notes.2.0));
  ends = λ old new line command calm nodes quiet notes. (refl, notes.0);
}

-- and so the second
pub second_notes : {A B : Type 0} (BeginsA : A → ℕ → Command → Nodes → A → Type 0) (EndsA : A → ℕ → Command → Bool → Nodes → A → Type 0) (BeforeA : A → ℕ → Event → NodeView → A → Type 0) (AfterA : A → ℕ → Reply → NodeView → A → Type 0) (BeginsB : B → ℕ → Command → Nodes → B → Type 0) (EndsB : B → ℕ → Command → Bool → Nodes → B → Type 0) (BeforeB : B → ℕ → Event → NodeView → B → Type 0) (AfterB : B → ℕ → Reply → NodeView → B → Type 0)
    → NotesAs (lining {W = Both A B}
    (λ old line command nodes new. BeginsA old.first line command nodes new.first × BeginsB old.second line command nodes new.second)
    (λ old line command calm nodes new. EndsA old.first line command calm nodes new.first × EndsB old.second line command calm nodes new.second)
    (λ old number event node new. BeforeA old.first number event node new.first × BeforeB old.second number event node new.second)
    (λ old number reply node new. AfterA old.first number reply node new.first × AfterB old.second number reply node new.second))
    (λ (w : Both A B). false) (lining BeginsB EndsB BeforeB AfterB) (λ (w : Both A B). w.second)
second_notes {A} {B} BeginsA EndsA BeforeA AfterA BeginsB EndsB BeforeB AfterB = record {
  begins = λ old new line command nodes calm notes. (refl, notes.1);
  steps = λ old new number event reply before after' calm notes. (refl, (notes.0.second, notes.1.1, notes.2.1));
  ends = λ old new line command calm nodes quiet notes. (refl, notes.1);
}
