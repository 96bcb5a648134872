-- A command of a script may stand where it stands, and the link that it names is there.
use Rattle.std.proofs.Common.{◌≡◌, ◌≢◌, ◌<◌, ◌≤◌, ◌+◌, ◌-◌, ℕ, Bool, true, false, cond, List, [], ◌∷◌, ◌++◌, nat_lt, refl, ◌∙◌, ap, subst, arith}
use Rattle.std.specs.Prelude.{All, fold}
use Rattle.std.proofs.lemmas.Bool.Decides.{nat_tests}
use Rattle.std.proofs.lemmas.List.Elements.{All-head, All-tail}
use Rattle.scp_turn.specs.scp_types.specs.declared.limits.TheConstants.{NODE_LIMIT}
use Rattle.scp_report.specs.scp_script.specs.declared.command.Command.{Command}
use Rattle.scp_report.specs.scp_script.specs.declared.command.Command.TheVariants as script
use Rattle.scp_report.specs.scp_script.specs.Script.{counted, node_count, Admits, AreAdmitted}
use Rattle.scp_report.specs.scp_script.specs.Nodes.{NamesNodes}
use Rattle.scp_report.specs.scp_script.proofs.Admitted.{admitted_front, admitted_rest, count_stays, names_at}
use Rattle.scp_turn.specs.Rounds.{link_of}

-- where a command stands in a script
pub record StandsAt (commands done : List Command) (command : Command) : Type 0 where
  pub after' : List Command
  pub split : commands ≡ done ++ command ∷ after'
  pub names : All NamesNodes commands
  pub admitted : AreAdmitted [] commands

few_more : (before : ℕ) (command : Command) → before ≤ NODE_LIMIT → NamesNodes command → counted before command ≤ NODE_LIMIT
few_more before (script.Caps capacities) le ok = le
few_more before (script.Nodes count quorum) le ok = ok.0.1
few_more before (script.Set at set) le ok = le
few_more before (script.Open from to) le ok = le
few_more before (script.Close from to) le ok = le
few_more before (script.Send from to bytes) le ok = le
few_more before (script.Propose at slot value) le ok = le
few_more before (script.Round at slot) le ok = le
few_more before (script.Timer at slot) le ok = le
few_more before (script.Tick at) le ok = le
few_more before (script.Ask from to slot) le ok = le
few_more before script.Settle le ok = le
few_more before (script.Wait at things) le ok = le
few_more before (script.Report at) le ok = le

few_after : (before : ℕ) (commands : List Command) → before ≤ NODE_LIMIT → All NamesNodes commands → fold counted before commands ≤ NODE_LIMIT
few_after before [] le all = le
few_after before (command ∷ commands) le all = few_after (counted before command) commands (few_more before command le (All-head NamesNodes command commands all)) (All-tail NamesNodes command commands all)

-- there are at most eight
pub few_nodes : (commands : List Command) → All NamesNodes commands → node_count commands ≤ NODE_LIMIT
few_nodes commands all = few_after 0 commands (omega arith) all

pub stands_admitted : (commands done : List Command) (command : Command) → StandsAt commands done command → Admits done command
stands_admitted commands done command s = (admitted_rest [] done (command ∷ s.after') (subst (λ (l : List Command). AreAdmitted [] l) s.split s.admitted)).0

pub stands_named : (commands done : List Command) (command : Command) → StandsAt commands done command → NamesNodes command
stands_named commands done command s = names_at done command s.after' (subst (λ (l : List Command). All NamesNodes l) s.split s.names)

pub stands_before : (commands done : List Command) (command : Command) → StandsAt commands done command → AreAdmitted [] done
stands_before commands done command s = admitted_front [] done (command ∷ s.after') (subst (λ (l : List Command). AreAdmitted [] l) s.split s.admitted)

pub stands_count : (commands done : List Command) (command : Command) → StandsAt commands done command → 1 ≤ node_count done → node_count commands ≡ node_count done
stands_count commands done command s one =
    ap (λ (l : List Command). node_count l) s.split
    ∙ count_stays done (command ∷ s.after') (admitted_rest [] done (command ∷ s.after') (subst (λ (l : List Command). AreAdmitted [] l) s.split s.admitted)) one

-- a link between two of so many nodes is one of the links of the second
pub link_within : (from to n m : ℕ) → 1 ≤ from → from ≤ n → 1 ≤ to → to ≤ n → from ≢ to → m + 1 ≡ n → link_of from to < m
link_within from to n m f fn t tn apart is = by_test (nat_lt from to) refl
  where
    by_test : (b : Bool) → nat_lt from to ≡ b → cond b (from - 1) (from - 2) < m
    by_test true e =
        let lt : from < to = grind (arith, nat_tests, e) in
        omega (arith, lt, f, fn, t, tn, is)
    by_test false e =
        let le : to ≤ from = grind (arith, nat_tests, e) in
        let ne : to < from = grind (arith, le, apart) in
        omega (arith, ne, f, fn, t, tn, is)
