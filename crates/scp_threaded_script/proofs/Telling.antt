-- What one line does to what the nodes were told.
use Rattle.std.proofs.Common.{◌≡◌, ◌∙◌, ℕ, ◌+◌, ◌-◌, ◌≤◌, Bool, true, false, ap, sym, refl, subst, List, [], ◌∷◌, ◌++◌, length, Some, None, nat_eq, append-nil, arith}
use Rattle.std.specs.Prelude.{if◌then◌else◌}
use Rattle.std.proofs.lemmas.Bool.Decides.{nat_tests}
use Rattle.std.proofs.lemmas.Grind.{flat_map-append}
use Rattle.scp_threaded_node.specs.scp_wire.specs.declared.link.Command.{Command as LocalCommand}
use Rattle.scp_threaded_node.specs.scp_wire.specs.declared.link.Inbound.{Inbound}
use Rattle.scp_threaded_node.specs.scp_wire.specs.declared.link.Inbound.TheVariants as inbound
use Rattle.scp_threaded_node.specs.scp_wire.specs.declared.link.LinkItem.{LinkItem}
use Rattle.scp_script.specs.declared.command.Command.{Command}
use Rattle.scp_script.specs.declared.command.Command.TheVariants as script
use Rattle.scp_script.specs.Nodes.{id_of, peers_of, set_at, capacities_in}
use Rattle.scp_script.specs.Script.{node_count}
use Rattle.scp_threaded_node.specs.Kv.{Node}
use Rattle.scp_threaded_node.specs.Acting.{with_command}
use Rattle.scp_threaded_node.specs.Seats.{Each, Runs, IsDriven, AreDriven}
use Rattle.scp_threaded_script.specs.Lines.{peer_at, item_by, items_on, command_by, commands_for, driven_to, items_to}
use Rattle.scp_threaded_script.specs.inside.Played.{AllRun, AreTold, AreItemsSent, HaveDone, IsNoLink, TellsAt, IsCommandOf}
use Rattle.scp_threaded_script.specs.Reported.{AllRunSoFar}
use Rattle.scp_threaded_node.proofs.Staying.{told_runs}
use Rattle.scp_threaded_node.specs.scp_shared_outbox.proofs.ListsOfAll.{set_length}
use Rattle.scp_threaded_node.proofs.Changing.{each_set}
use Rattle.scp_threaded_script.proofs.Sending.{items_more}

commands_more : (node : ℕ) (done : List Command) (command : Command) → commands_for node (done ++ command ∷ []) ≡ commands_for node done ++ command_by node command
commands_more node done command = flat_map-append (command_by node) done (command ∷ []) ∙ ap (λ (xs : List Inbound). commands_for node done ++ xs) (append-nil (command_by node command))

pub none_more : (node : ℕ) (done : List Command) (command : Command) → command_by node command ≡ [] → commands_for node (done ++ command ∷ []) ≡ commands_for node done
none_more node done command none = commands_more node done command ∙ ap (λ (xs : List Inbound). commands_for node done ++ xs) none ∙ append-nil (commands_for node done)

-- ---- a line that says nothing of a link puts nothing on any

no_item : (from to : ℕ) (done : List Command) (command : Command) → IsNoLink command → item_by from to done command ≡ []
no_item from to done (script.Caps capacities) silent = refl
no_item from to done (script.Nodes count quorum) silent = refl
no_item from to done (script.Set at set) silent = refl
no_item from to done (script.Open from2 to2) silent = absurd silent
no_item from to done (script.Close from2 to2) silent = absurd silent
no_item from to done (script.Send from2 to2 bytes) silent = absurd silent
no_item from to done (script.Propose at slot value) silent = refl
no_item from to done (script.Round at slot) silent = refl
no_item from to done (script.Timer at slot) silent = refl
no_item from to done (script.Tick at) silent = refl
no_item from to done (script.Ask from2 to2 slot) silent = refl
no_item from to done script.Settle silent = refl
no_item from to done (script.Wait at things) silent = refl
no_item from to done (script.Report at) silent = refl

still_sent : (commands done : List Command) (command : Command) (nodes : List Node) → IsNoLink command → AreItemsSent commands done nodes → AreItemsSent commands (done ++ command ∷ []) nodes
still_sent commands done command nodes silent all i node at l x there =
    let same : items_to (i + 1) (done ++ command ∷ []) l ≡ items_to (i + 1) done l =
    items_more (peer_at l (i + 1)) (i + 1) done command
    ∙ ap (λ (xs : List LinkItem). items_on (peer_at l (i + 1)) (i + 1) done ++ xs) (no_item (peer_at l (i + 1)) (i + 1) done command silent)
    ∙ append-nil (items_on (peer_at l (i + 1)) (i + 1) done) in
    subst (λ (items : List LinkItem). IsDriven (driven_to commands (i + 1) l) items x.tail) (sym same) (all i node at l x there)

-- ---- a command

tells_runs : (commands : List Command) (old new : List Node) (number : ℕ) (x : Inbound) → TellsAt old number x new → AllRunSoFar commands old → AllRunSoFar commands new
tells_runs commands old new number x t all =
    let P = λ (i : ℕ) (node : Node). Runs (id_of (i + 1)) (set_at (i + 1) commands) (peers_of (node_count commands) (i + 1)) (capacities_in commands) node in
    let i = number - 1 in
    subst (Each P) (sym t.is) (each_set P P old i t.node (with_command t.node x) t.was (told_runs (id_of (i + 1)) (set_at (i + 1) commands) (peers_of (node_count commands) (i + 1)) (capacities_in commands) t.node x) (λ j z apart p. p) all)

tells_count : (old new : List Node) (number : ℕ) (x : Inbound) → TellsAt old number x new → length new ≡ length old
tells_count old new number x t = ap (λ (xs : List Node). length xs) t.is ∙ set_length old (number - 1) (with_command t.node x)

-- all run on
pub tells_run : (commands : List Command) (old new : List Node) (number : ℕ) (x : Inbound) → TellsAt old number x new → AllRun commands old → AllRun commands new
tells_run commands old new number x t all = (tells_count old new number x t ∙ all.0, tells_runs commands old new number x t all.1)

by_number : (number node : ℕ) (x : Inbound) (b : Bool) → nat_eq number node ≡ b → (if nat_eq number node then x ∷ [] else []) ≡ (if b then x ∷ [] else [])
by_number number node x b e = ap (λ (c : Bool). if c then x ∷ [] else []) e

tells_told : (done : List Command) (command : Command) (given : ℕ × LocalCommand) (old new : List Node) → 1 ≤ given.0 → IsCommandOf command (Some given) → TellsAt old given.0 (inbound.Local given.1) new → AreTold done old → AreTold (done ++ command ∷ []) new
tells_told done command given old new one is t all =
    let place = given.0 - 1 in
    let x = inbound.Local given.1 in
    let P = λ (i : ℕ) (node : Node). node.local.sent ≡ commands_for (i + 1) done in
    let Q = λ (i : ℕ) (node : Node). node.local.sent ≡ commands_for (i + 1) (done ++ command ∷ []) in
    let mine : nat_eq given.0 (place + 1) ≡ true = grind (arith, nat_tests, one) in
    subst (Each Q) (sym t.is) (each_set P Q old place t.node (with_command t.node x) t.was
    (λ p. ap (λ (xs : List Inbound). xs ++ x ∷ []) p ∙ ap (λ (xs : List Inbound). commands_for (place + 1) done ++ xs) (sym (is.1 (place + 1) ∙ by_number given.0 (place + 1) x true mine)) ∙ sym (commands_more (place + 1) done command))
    (λ i z apart p. let other : nat_eq given.0 (i + 1) ≡ false = grind (arith, nat_tests, one, apart) in p ∙ sym (none_more (i + 1) done command (is.1 (i + 1) ∙ by_number given.0 (i + 1) x false other)))
    all)

tells_sent : (f : ℕ → ℕ → Bool) (s : ℕ → ℕ → List LinkItem) (old new : List Node) (number : ℕ) (x : Inbound) → TellsAt old number x new → Each (λ i node. AreDriven (f i) (s i) node.lanes.items) old → Each (λ i node. AreDriven (f i) (s i) node.lanes.items) new
tells_sent f s old new number x t all =
    let P = λ (i : ℕ) (node : Node). AreDriven (f i) (s i) node.lanes.items in
    subst (Each P) (sym t.is) (each_set P P old (number - 1) t.node (with_command t.node x) t.was (λ p. p) (λ i z apart p. p) all)

-- the line that told a node its command was done
pub tells_done : (commands done : List Command) (command : Command) (given : ℕ × LocalCommand) (old new : List Node) → 1 ≤ given.0 → IsNoLink command → IsCommandOf command (Some given) → TellsAt old given.0 (inbound.Local given.1) new → HaveDone commands done old → HaveDone commands (done ++ command ∷ []) new
tells_done commands done command given old new one silent is t all = (
  tells_count old new given.0 (inbound.Local given.1) t ∙ all.0,
  record {
    run = tells_runs commands old new given.0 (inbound.Local given.1) t all.1.run;
    told = tells_told done command given old new one is t all.1.told;
    sent = still_sent commands done command new silent (tells_sent (λ i. driven_to commands (i + 1)) (λ i. items_to (i + 1) done) old new given.0 (inbound.Local given.1) t all.1.sent);
  },
)

-- ---- what is none

pub silent_done : (commands done : List Command) (command : Command) (nodes : List Node) → IsNoLink command → IsCommandOf command None → HaveDone commands done nodes → HaveDone commands (done ++ command ∷ []) nodes
silent_done commands done command nodes silent none all = (
  all.0,
  record {
    run = all.1.run;
    told = λ i node at. all.1.told i node at ∙ sym (none_more (i + 1) done command (none (i + 1)));
    sent = still_sent commands done command nodes silent all.1.sent;
  },
)
