-- What each kind of line does to nodes that have done the lines before it, whether it went well or not.
use Rattle.std.proofs.Common.{◌≡◌, ◌∙◌, ℕ, ◌+◌, ◌-◌, ◌≤◌, ◌<◌, ap, sym, refl, subst, List, [], ◌∷◌, ◌++◌, length, Result, Ok, Err, Option, Some, arith}
use Rattle.std.specs.Prelude.{OnOk, OnErr, slice_get, slice_set}
use Rattle.std.proofs.lemmas.Option.{slice_get_within}
use Rattle.scp_threaded_node.specs.scp_wire.specs.declared.link.Command.{Command as LocalCommand}
use Rattle.scp_threaded_node.specs.scp_wire.specs.declared.link.Command.TheVariants as local
use Rattle.scp_threaded_node.specs.scp_wire.specs.declared.link.Inbound.TheVariants as inbound
use Rattle.scp_script.specs.declared.command.Command.{Command}
use Rattle.scp_script.specs.declared.command.Command.TheVariants as script
use Rattle.scp_script.specs.Script.{node_count}
use Rattle.scp_threaded_node.specs.declared.acting.Act.{Act}
use Rattle.scp_threaded_node.specs.scp_wire.specs.declared.link.Inbound.{Inbound}
use Rattle.scp_threaded_node.specs.Kv.{Node}
use Rattle.scp_threaded_node.specs.Acting.{with_command, ActsAt, IsUnchanged}
use Rattle.scp_threaded_script.specs.Lines.{link_of, local_by}
use Rattle.scp_threaded_script.specs.inside.Played.{AllRun, HaveDone, HaveLanes, AreTwoOf, ActsOn, AreUnchanged, IsNoLink, IsCommandOf, TellsAt}
use Rattle.scp_threaded_script.proofs.Acting.{IsLineOn, acts_run, acts_done, unchanged_run}
use Rattle.scp_threaded_node.specs.scp_shared_outbox.proofs.ListsOfAll.{set_length}
use Rattle.scp_threaded_node.proofs.Changing.{set_same, each_set}
use Rattle.scp_threaded_node.specs.scp_shared_outbox.proofs.Peers.{link_within}
use Rattle.scp_threaded_script.proofs.Peers.{peer_count}
use Rattle.scp_threaded_script.proofs.Telling.{tells_run, tells_done, silent_done}

-- ---- nodes that have done lines

pub done_run : (commands done : List Command) (nodes : List Node) → HaveDone commands done nodes → AllRun commands nodes
done_run commands done nodes all = (all.0, all.1.run)

-- each has a link from each other
pub have_lanes : (commands : List Command) (nodes : List Node) → AllRun commands nodes → HaveLanes nodes
have_lanes commands nodes all i node at =
    let within = slice_get_within nodes i node at in
    omega (arith, (all.1 i node at).count, peer_count (node_count commands) (i + 1) (omega arith) (omega (arith, within, all.0)), all.0)

-- ---- what is done on a link

module _ {E : Type 0} where
  pub acts_all_run : (old new : List Node) (from to : ℕ) (a : Act) (r : Result (Unit {0}) E)
      → OnOk r (ActsOn old from to a new) → OnErr r (AreUnchanged old new) → (commands done : List Command) → HaveDone commands done old → AllRun commands new
  acts_all_run old new from to a (Ok x) acts same commands done all = acts_run commands old new from to a acts (done_run commands done old all)
  acts_all_run old new from to a (Err e) acts same commands done all = unchanged_run commands old new same (done_run commands done old all)

  pub acts_all_done : (old new : List Node) (command : Command) (from to : ℕ) (a : Act) (r : Result (Unit {0}) E) → AreTwoOf (length old) from to → ((done : List Command) → IsLineOn a from to done command)
      → OnOk r (ActsOn old from to a new)
      → OnOk r ((commands done : List Command) → HaveDone commands done old → HaveDone commands (done ++ command ∷ []) new)
  acts_all_done old new command from to a (Ok x) two line acts = λ commands done all. acts_done commands done command old new from to a two (line done) acts all
  acts_all_done old new command from to a (Err e) two line acts = tt

  -- ---- what a node is told

  pub tells_all_run : (old new : List Node) (number : ℕ) (x : Inbound) (r : Result (Unit {0}) E) → OnOk r (TellsAt old number x new) → OnErr r (new ≡ old) → (commands done : List Command) → HaveDone commands done old → AllRun commands new
  tells_all_run old new number x (Ok y) told same commands done all = tells_run commands old new number x told (done_run commands done old all)
  tells_all_run old new number x (Err e) told same commands done all = subst (λ (nodes : List Node). AllRun commands nodes) (sym same) (done_run commands done old all)

  pub tells_all_done : (old new : List Node) (command : Command) (given : ℕ × LocalCommand) (r : Result (Unit {0}) E) → 1 ≤ given.0 → IsNoLink command → IsCommandOf command (Some given) → OnOk r (TellsAt old given.0 (inbound.Local given.1) new)
      → OnOk r ((commands done : List Command) → HaveDone commands done old → HaveDone commands (done ++ command ∷ []) new)
  tells_all_done old new command given (Ok y) one silent is told = λ commands done all. tells_done commands done command given old new one silent is told all
  tells_all_done old new command given (Err e) one silent is told = tt

-- ---- which command a line is

is_propose : (node slot : ℕ) (value : List ℕ) → IsCommandOf (script.Propose node slot value) (Some (node, local.Propose (record { 0 = slot }) value))
is_propose node slot value = (λ count there. there, λ n. refl)

is_round : (node slot : ℕ) → IsCommandOf (script.Round node slot) (Some (node, local.Round (record { 0 = slot })))
is_round node slot = (λ count there. there, λ n. refl)

is_timer : (node slot : ℕ) → IsCommandOf (script.Timer node slot) (Some (node, local.Timer (record { 0 = slot })))
is_timer node slot = (λ count there. there, λ n. refl)

is_tick : (node : ℕ) → IsCommandOf (script.Tick node) (Some (node, local.Tick))
is_tick node = (λ count there. there, λ n. refl)

is_ask : (from to slot : ℕ) → IsCommandOf (script.Ask from to slot) (Some (from, local.Ask (link_of to from) (record { 0 = slot })))
is_ask from to slot = (λ count there. there, λ n. refl)

is_command : (command : Command) → IsCommandOf command (local_by command)
is_command (script.Caps capacities) = λ n. refl
is_command (script.Nodes count quorum) = λ n. refl
is_command (script.Set node set) = λ n. refl
is_command (script.Open from to) = λ n. refl
is_command (script.Close from to) = λ n. refl
is_command (script.Send from to bytes) = λ n. refl
is_command (script.Propose node slot value) = is_propose node slot value
is_command (script.Round node slot) = is_round node slot
is_command (script.Timer node slot) = is_timer node slot
is_command (script.Tick node) = is_tick node
is_command (script.Ask from to slot) = is_ask from to slot
is_command script.Settle = λ n. refl
is_command (script.Wait node things) = λ n. refl
is_command (script.Report node) = λ n. refl

-- what is found is that
pub found_is : (command : Command) (found given : Option (ℕ × LocalCommand)) → found ≡ local_by command → found ≡ given → IsCommandOf command given
found_is command found given exact is = subst (IsCommandOf command) (sym exact ∙ is) (is_command command)

-- ---- where a link stands among those of a node

pub place_within : (count lanes from to : ℕ) → AreTwoOf count from to → lanes + 1 ≡ count → link_of from to < lanes
place_within count lanes from to two is = omega (arith, link_within count from to two, is)

-- ---- one node of all

pub one_acted : (nodes : List Node) (from to i place : ℕ) (a : Act) (node after : Node) → slice_get nodes i ≡ Some node → i ≡ to - 1 → place ≡ link_of from to → ActsAt a place node after → ActsOn nodes from to a (slice_set nodes i after)
one_acted nodes from to i place a node after was at is acts = record {
  node = node;
  after = after;
  was = subst (λ (n : ℕ). slice_get nodes n ≡ Some node) at was;
  acts = subst (λ (n : ℕ). ActsAt a n node after) is acts;
  is = ap (λ (n : ℕ). slice_set nodes n after) at;
}

pub one_unchanged : (nodes : List Node) (i : ℕ) (x y : Node) → slice_get nodes i ≡ Some x → IsUnchanged x y → AreUnchanged nodes (slice_set nodes i y)
one_unchanged nodes i x y was u =
    let P = λ (j : ℕ) (z : Node). slice_get nodes j ≡ Some z in
    let Q = λ (j : ℕ) (w : Node). (z : Node) × (slice_get nodes j ≡ Some z) × IsUnchanged z w in
    record { count = set_length nodes i y; each = each_set P Q nodes i x y was (λ p. (x, was, u)) (λ j z apart p. (z, p, record { same = refl; lanes = refl })) (λ j z at. at) }

pub one_told : (nodes : List Node) (number i : ℕ) (x : Inbound) (node after : Node) → slice_get nodes i ≡ Some node → i ≡ number - 1 → after ≡ with_command node x → TellsAt nodes number x (slice_set nodes i after)
one_told nodes number i x node after was at is = record {
  node = node;
  was = subst (λ (n : ℕ). slice_get nodes n ≡ Some node) at was;
  is = ap (λ (n : ℕ). slice_set nodes n after) at ∙ ap (λ (n : Node). slice_set nodes (number - 1) n) is;
}

pub one_same : (nodes : List Node) (i : ℕ) (x y : Node) → slice_get nodes i ≡ Some x → y ≡ x → slice_set nodes i y ≡ nodes
one_same nodes i x y was same = ap (λ (n : Node). slice_set nodes i n) same ∙ set_same nodes i x was

-- ---- one line

pub on_any_err : {T E P : Type 0} (r : Result T E) → P → OnErr r P
on_any_err (Ok x) p = tt
on_any_err (Err e) p = p

module _ {E : Type 0} where
  pub is_done : (command line : Command) (old new : List Node) (r : Result (Unit {0}) E) → command ≡ line
      → OnOk r ((commands done : List Command) → HaveDone commands done old → HaveDone commands (done ++ line ∷ []) new)
      → OnOk r ((commands done : List Command) → HaveDone commands done old → HaveDone commands (done ++ command ∷ []) new)
  is_done command line old new r is all = subst (λ (x : Command). OnOk r ((commands done : List Command) → HaveDone commands done old → HaveDone commands (done ++ x ∷ []) new)) (sym is) all

pub wait_done : (command : Command) (node things : ℕ) (nodes : List Node) → command ≡ script.Wait node things → (commands done : List Command) → HaveDone commands done nodes → HaveDone commands (done ++ command ∷ []) nodes
wait_done command node things nodes is commands done all = subst (λ (x : Command). HaveDone commands (done ++ x ∷ []) nodes) (sym is) (silent_done commands done (script.Wait node things) nodes tt (λ n. refl) all)
