-- The nodes that a line names are there.
use Rattle.std.proofs.Common.{◌≡◌, ◌<◌, ◌≤◌, ◌+◌, ℕ, suc, List, [], ◌∷◌, ◌++◌, length, take, drop, get_or, sym, ◌∙◌, ap, subst, drop-cons, arith}
use Rattle.std.specs.Prelude.{All}
use Rattle.std.proofs.lemmas.List.{take_more, take-append-drop}
use Rattle.scp_script.specs.declared.command.Command.{Command}
use Rattle.scp_script.specs.declared.command.Command.TheVariants as script
use Rattle.scp_script.specs.Nodes.{NamesNodes}
use Rattle.scp_script.specs.Script.{node_count, IsNode, IsLink, Admits, AreAdmitted}
use Rattle.scp_script.proofs.Admitted.{admitted_front, admitted_rest, count_stays, names_at, open_is_link}
use Rattle.scp_threaded_script.specs.inside.Played.{AreTwoOf, IsThere}
use Rattle.scp_threaded_script.specs.Reported.{IsOneOf}

one_of : (count node : ℕ) (done : List Command) → (1 ≤ node_count done → count ≡ node_count done) → IsNode node done → IsOneOf count node
one_of count node done same is = let e = same (omega (arith, is.0, is.1)) in (is.0, omega (arith, is.1, e))

two_of : (count from to : ℕ) (done : List Command) → (1 ≤ node_count done → count ≡ node_count done) → IsLink from to done → AreTwoOf count from to
two_of count from to done same l = (one_of count from done same l.0, one_of count to done same l.1, l.2)

there_by : (count : ℕ) (done : List Command) (command : Command) → (1 ≤ node_count done → count ≡ node_count done) → AreAdmitted [] done → Admits done command → IsThere count command
there_by count done (script.Caps capacities) same all a = tt
there_by count done (script.Nodes nodes quorum) same all a = tt
there_by count done (script.Set at set) same all a = tt
there_by count done (script.Open from to) same all a = two_of count from to done same a.0
there_by count done (script.Close from to) same all a = two_of count from to done same (open_is_link from to done all a)
there_by count done (script.Send from to bytes) same all a = two_of count from to done same (open_is_link from to done all a)
there_by count done (script.Propose at slot value) same all a = one_of count at done same a
there_by count done (script.Round at slot) same all a = one_of count at done same a
there_by count done (script.Timer at slot) same all a = one_of count at done same a
there_by count done (script.Tick at) same all a = one_of count at done same a
there_by count done (script.Ask from to slot) same all a = one_of count from done same a.0
there_by count done script.Settle same all a = tt
there_by count done (script.Wait at things) same all a = tt
there_by count done (script.Report at) same all a = tt

split_at : (commands : List Command) (i : ℕ) (command : Command) → i < length commands → command ≡ get_or commands i command → commands ≡ take i commands ++ command ∷ drop (suc i) commands
split_at commands i command lt is = sym (take-append-drop i commands) ∙ ap (λ (l : List Command). take i commands ++ l) (drop-cons commands i command lt ∙ ap (λ (c : Command). c ∷ drop (suc i) commands) (sym is))

-- its numbers are from 1 to 8
pub line_names : (commands : List Command) (i : ℕ) (command : Command) → i < length commands → command ≡ get_or commands i command → All NamesNodes commands → NamesNodes command
line_names commands i command lt is names = names_at (take i commands) command (drop (suc i) commands) (subst (λ (l : List Command). All NamesNodes l) (split_at commands i command lt is) names)

-- and its nodes are there
pub line_there : (commands : List Command) (count i : ℕ) (command : Command) → count ≡ node_count commands → i < length commands → command ≡ get_or commands i command → AreAdmitted [] commands → IsThere count command
line_there commands count i command same lt is admitted =
    let done = take i commands in
    let after = drop (suc i) commands in
    let split = split_at commands i command lt is in
    let all : AreAdmitted [] (done ++ command ∷ after) = subst (λ (l : List Command). AreAdmitted [] l) split admitted in
    let rest : AreAdmitted done (command ∷ after) = admitted_rest [] done (command ∷ after) all in
    there_by count done command (λ one. same ∙ ap (λ (l : List Command). node_count l) split ∙ count_stays done (command ∷ after) rest one) (admitted_front [] done (command ∷ after) all) rest.0

-- the lines up to this one
pub line_next : (commands : List Command) (i : ℕ) (command : Command) → i < length commands → command ≡ get_or commands i command → take (i + 1) commands ≡ take i commands ++ command ∷ []
line_next commands i command lt is = take_more commands i command lt ∙ ap (λ (x : Command). take i commands ++ x ∷ []) (sym is)
