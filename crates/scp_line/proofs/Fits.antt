-- The configurations that a script gives its nodes are fit.
use Rattle.std.proofs.Common.{◌≡◌, ◌≤◌, ◌⊎◌, ℕ, zero, suc, Bool, true, false, not, ◌&&◌, List, [], ◌∷◌, length, Option, Some, None, IfSome, All, flat_map, ◌↔◌, inl, inr, refl, sym, ap, subst, arith, ⊎_elim}
use Rattle.std.specs.Prelude.{Result, Ok, Err, IfErr, IsOkUnless, nat_le, option_map, option_to_list, if◌then◌else◌, codes}
use Rattle.std.specs.Option.{unwrap_or}
use Rattle.std.specs.List.{last_or}
use Rattle.std.proofs.lemmas.Bool.{cases_eq}
use Rattle.std.proofs.lemmas.Bool.Decides.{nat_tests}
use Rattle.std.proofs.lemmas.List.Elements.{All-append, All-nil, All-cons, All-head, All-tail}
use Rattle.scp_turn.specs.scp_types.specs.declared.limits.TheConstants.{NODE_LIMIT, PEER_LIMIT}
use Rattle.scp_turn.specs.scp_types.specs.declared.fault.Fault.{Fault}
use Rattle.scp_turn.specs.scp_types.specs.declared.fault.Fault.TheVariants.{NoMemory, BadConfig}
use Rattle.scp_turn.specs.scp_quorum.specs.QuorumTree.{QuorumTree}
use Rattle.scp_turn.specs.scp_quorum.specs.Sane.{IsSane}
use Rattle.scp_turn.specs.scp_core.specs.declared.config.Config.{Config}
use Rattle.scp_turn.specs.scp_theorem.specs.Fates.{is_among}
use Rattle.scp_turn.specs.scp_types.specs.Range.{IsInRange, AreInRange}
use Rattle.scp_turn.specs.scp_core.specs.Config.{IsFitWithin, IsConfig, are_apart}
use Rattle.scp_turn.specs.scp_core.specs.Kv.{NodeView}
use Rattle.scp_report.specs.scp_script.specs.declared.command.Command.{Command}
use Rattle.scp_report.specs.scp_script.specs.declared.command.Command.TheVariants.{Caps, Nodes, Set, Open, Close, Send, Propose, Round, Timer, Tick, Ask, Settle, Wait, Report}
use Rattle.scp_turn.specs.scp_types.specs.declared.capacities.Capacities.{Capacities}
use Rattle.scp_report.specs.scp_script.specs.Words.{words_of, lines_of, same, node_in, link_in, number_in, capacity_in, capacity_by, hex_bytes, set_in}
use Rattle.scp_report.specs.scp_script.specs.Script.{node_count, command_in, commands_of, commands_in, caps_by, nodes_by, set_by, open_by, close_by, send_by, ask_by, propose_by, round_by, timer_by, wait_by}
use Rattle.scp_report.specs.scp_script.specs.Nodes.{id_of, peers_of, set_at, capacities_given, capacities_of_none, capacities_in}
use Rattle.scp_line.specs.Play.{config_of}
use Rattle.scp_line.specs.Nodes.{HaveRoom}

-- ---- the peers, for each number of nodes

and_first : (a b : Bool) → (a && b) ≡ true → a ≡ true
and_first true b e = refl
and_first false b e = e

and_second : (a b : Bool) → (a && b) ≡ true → b ≡ true
and_second true b e = e
and_second false true e = refl
and_second false false e = e

not_true : (b : Bool) → not b ≡ true → b ≡ false
not_true false e = refl
not_true true e = sym e

-- it passes each number from 1 to this one
unfoldable pub up_to : (ℕ → Bool) → ℕ → Bool
up_to p zero = true
up_to p (suc n) = p (suc n) && up_to p n

pub passes : (p : ℕ → Bool) (n i : ℕ) → up_to p n ≡ true → 1 ≤ i → i ≤ n → p i ≡ true
unfolding up_to
passes p zero i e one le = absurd (omega (arith, one, le))
passes p (suc n) i e one le = ⊎_elim
    (λ is. subst (λ (j : ℕ). p j ≡ true) (sym is) (and_first (p (suc n)) (up_to p n) e))
    (λ apart. passes p n i (and_second (p (suc n)) (up_to p n) e) one (omega (arith, le, apart)))
    (cases_eq i (suc n))

are_peers : ℕ → ℕ → Bool
are_peers count number = nat_le (length (peers_of count number)) PEER_LIMIT && (are_apart (peers_of count number) && not (is_among (id_of number) (peers_of count number)))

each_is_fit : up_to (λ count. up_to (are_peers count) count) NODE_LIMIT ≡ true
unfolding up_to are_peers
each_is_fit = refl

peers_are_fit : (count number : ℕ) → count ≤ NODE_LIMIT → 1 ≤ number → number ≤ count → are_peers count number ≡ true
peers_are_fit count number few one within = passes (are_peers count) count number (passes (λ n. up_to (are_peers n) n) NODE_LIMIT count each_is_fit (omega (arith, one, within)) few) one within

config_is_fit : (count number : ℕ) (c : Config) → count ≤ NODE_LIMIT → 1 ≤ number → number ≤ count → c.me ≡ id_of number → c.peers ≡ peers_of count number → AreInRange c.capacities → IsFitWithin PEER_LIMIT c.me c.peers c.capacities
unfolding are_peers
config_is_fit count number c few one within me peers room =
    let e = peers_are_fit count number few one within in
    let short : nat_le (length (peers_of count number)) PEER_LIMIT ≡ true = and_first _ _ e in
    let rest = and_second (nat_le (length (peers_of count number)) PEER_LIMIT) _ e in
    let len : length (peers_of count number) ≤ PEER_LIMIT = grind (arith, nat_tests, short) in
    record {
      few = rw peers len;
      apart = rw peers (and_first (are_apart (peers_of count number)) _ rest);
      others = rw (me, peers) (not_true _ (and_second (are_apart (peers_of count number)) _ rest));
      in_range = room;
    }

pub config_fits : (c : Config) (commands : List Command) (count number : ℕ) → c ≡ config_of commands number → count ≡ node_count commands → count ≤ NODE_LIMIT → (1 ≤ number) × (number ≤ count) → HaveRoom commands → IsSane (set_at number commands) → IsConfig c
config_fits c commands count number is counts few within room sane =
    rw is (record {
      sane = sane;
      fit = config_is_fit (node_count commands) number (config_of commands number) (omega (arith, counts, few)) within.0 (omega (arith, counts, within.1)) refl refl room;
    })

-- a node of such a configuration is refused for want of memory alone
pub made : (r : Result NodeView Fault) (c : Config) → IsConfig c → (r ≡ Err BadConfig) ↔ (¬ (IsConfig c)) → IfErr r (λ f. (f ≡ BadConfig) ⊎ (f ≡ NoMemory)) → IsOkUnless r NoMemory
made (Ok node) c fits refused only = tt
made (Err f) c fits refused (inl bad) = absurd (refused.0 (ap (λ (g : Fault). Err g) bad) fits)
made (Err f) c fits refused (inr short) = short

-- ---- the capacities

abbrev CapsFit : Command → Type 0
CapsFit (Caps c) = AreInRange c
CapsFit (Nodes count quorum) = Unit {0}
CapsFit (Set node set) = Unit {0}
CapsFit (Open from to) = Unit {0}
CapsFit (Close from to) = Unit {0}
CapsFit (Send from to bytes) = Unit {0}
CapsFit (Propose node slot value) = Unit {0}
CapsFit (Round node slot) = Unit {0}
CapsFit (Timer node slot) = Unit {0}
CapsFit (Tick node) = Unit {0}
CapsFit (Ask from to slot) = Unit {0}
CapsFit Settle = Unit {0}
CapsFit (Wait node things) = Unit {0}
CapsFit (Report node) = Unit {0}

if_in_range : (a b : Bool) (n : ℕ) → (a ≡ true → 1 ≤ n) → (b ≡ true → n ≤ 1024) → IfSome (if a && b then Some n else None) IsInRange
if_in_range true true n f g = (f refl, g refl)
if_in_range true false n f g = tt
if_in_range false b n f g = tt

is_in_range : (o : Option ℕ) → IfSome (capacity_by o) IsInRange
is_in_range None = tt
is_in_range (Some n) = if_in_range (nat_le 1 n) (nat_le n 1024) n (λ e. grind (arith, nat_tests, e)) (λ e. grind (arith, nat_tests, e))

caps_fit : (a b c d : Option ℕ) → IfSome a IsInRange → IfSome b IsInRange → IfSome c IsInRange → IfSome d IsInRange → IfSome (caps_by a b c d) CapsFit
caps_fit (Some a) (Some b) (Some c) (Some d) p q r s = (p, q, r, s)
caps_fit (Some a) (Some b) (Some c) None p q r s = tt
caps_fit (Some a) (Some b) None d p q r s = tt
caps_fit (Some a) None c d p q r s = tt
caps_fit None b c d p q r s = tt

chosen : (b : Bool) (x y : Option Command) → IfSome x CapsFit → IfSome y CapsFit → IfSome (if b then x else y) CapsFit
chosen true x y f g = f
chosen false x y f g = g

tick_fits : (o : Option ℕ) → IfSome (option_map Tick o) CapsFit
tick_fits (Some node) = tt
tick_fits None = tt

report_fits : (o : Option ℕ) → IfSome (option_map Report o) CapsFit
report_fits (Some node) = tt
report_fits None = tt

nodes_fit : (a b : Option ℕ) → IfSome (nodes_by a b) CapsFit
nodes_fit (Some count) (Some quorum) = chosen (nat_le quorum count) (Some (Nodes count quorum)) None tt tt
nodes_fit (Some count) None = tt
nodes_fit None b = tt

set_fits : (a : Option ℕ) (b : Option QuorumTree) → IfSome (set_by a b) CapsFit
set_fits (Some node) (Some set) = tt
set_fits (Some node) None = tt
set_fits None b = tt

open_fits : (o : Option (ℕ × ℕ)) → IfSome (open_by o) CapsFit
open_fits (Some link) = tt
open_fits None = tt

close_fits : (o : Option (ℕ × ℕ)) → IfSome (close_by o) CapsFit
close_fits (Some link) = tt
close_fits None = tt

send_fits : (a : Option (ℕ × ℕ)) (b : Option (List ℕ)) → IfSome (send_by a b) CapsFit
send_fits (Some link) (Some bytes) = tt
send_fits (Some link) None = tt
send_fits None b = tt

ask_fits : (a : Option (ℕ × ℕ)) (b : Option ℕ) → IfSome (ask_by a b) CapsFit
ask_fits (Some link) (Some slot) = tt
ask_fits (Some link) None = tt
ask_fits None b = tt

propose_fits : (a b : Option ℕ) (c : Option (List ℕ)) → IfSome (propose_by a b c) CapsFit
propose_fits (Some node) (Some slot) (Some value) = tt
propose_fits (Some node) (Some slot) None = tt
propose_fits (Some node) None c = tt
propose_fits None b c = tt

round_fits : (a b : Option ℕ) → IfSome (round_by a b) CapsFit
round_fits (Some node) (Some slot) = tt
round_fits (Some node) None = tt
round_fits None b = tt

timer_fits : (a b : Option ℕ) → IfSome (timer_by a b) CapsFit
timer_fits (Some node) (Some slot) = tt
timer_fits (Some node) None = tt
timer_fits None b = tt

wait_fits : (a b : Option ℕ) → IfSome (wait_by a b) CapsFit
wait_fits (Some node) (Some things) = tt
wait_fits (Some node) None = tt
wait_fits None b = tt

line_fits : (words : List (List ℕ)) → IfSome (command_in words) CapsFit
line_fits [] = tt
line_fits (verb ∷ []) = chosen (same verb (codes "settle")) (Some Settle) None tt tt
line_fits (verb ∷ node ∷ []) =
    chosen (same verb (codes "tick")) _ _ (tick_fits (node_in node))
    (chosen (same verb (codes "report")) _ None (report_fits (node_in node)) tt)
line_fits (verb ∷ first ∷ second ∷ []) =
    chosen (same verb (codes "nodes")) _ _ (nodes_fit (node_in first) (node_in second))
    (chosen (same verb (codes "set")) _ _ (set_fits (node_in first) (set_in (hex_bytes second)))
    (chosen (same verb (codes "open")) _ _ (open_fits (link_in first second))
    (chosen (same verb (codes "close")) _ _ (close_fits (link_in first second))
    (chosen (same verb (codes "round")) _ _ (round_fits (node_in first) (number_in second))
    (chosen (same verb (codes "timer")) _ _ (timer_fits (node_in first) (number_in second))
    (chosen (same verb (codes "wait")) _ None (wait_fits (node_in first) (number_in second)) tt))))))
line_fits (verb ∷ first ∷ second ∷ third ∷ []) =
    chosen (same verb (codes "ask")) _ _ (ask_fits (link_in first second) (number_in third))
    (chosen (same verb (codes "send")) _ _ (send_fits (link_in first second) (hex_bytes third))
    (chosen (same verb (codes "propose")) _ None (propose_fits (node_in first) (number_in second) (hex_bytes third)) tt))
line_fits (verb ∷ link ∷ inbox ∷ ready ∷ decided ∷ []) =
    chosen (same verb (codes "caps")) _ None
    (caps_fit (capacity_in link) (capacity_in inbox) (capacity_in ready) (capacity_in decided) (is_in_range (number_in link)) (is_in_range (number_in inbox)) (is_in_range (number_in ready)) (is_in_range (number_in decided))) tt
line_fits (verb ∷ a ∷ b ∷ c ∷ d ∷ more ∷ words) = tt

given_fits : (command : Command) → CapsFit command → All AreInRange (capacities_given command)
given_fits (Caps c) fits = All-cons AreInRange c [] fits (All-nil AreInRange)
given_fits (Nodes count quorum) fits = All-nil AreInRange
given_fits (Set node set) fits = All-nil AreInRange
given_fits (Open from to) fits = All-nil AreInRange
given_fits (Close from to) fits = All-nil AreInRange
given_fits (Send from to bytes) fits = All-nil AreInRange
given_fits (Propose node slot value) fits = All-nil AreInRange
given_fits (Round node slot) fits = All-nil AreInRange
given_fits (Timer node slot) fits = All-nil AreInRange
given_fits (Tick node) fits = All-nil AreInRange
given_fits (Ask from to slot) fits = All-nil AreInRange
given_fits Settle fits = All-nil AreInRange
given_fits (Wait node things) fits = All-nil AreInRange
given_fits (Report node) fits = All-nil AreInRange

read_fits : (o : Option Command) → IfSome o CapsFit → All CapsFit (option_to_list o)
read_fits None fits = All-nil CapsFit
read_fits (Some command) fits = All-cons CapsFit command [] fits (All-nil CapsFit)

lines_fit : (lines : List (List ℕ)) → All CapsFit (commands_of lines)
lines_fit [] = All-nil CapsFit
lines_fit (line ∷ lines) = All-append CapsFit (option_to_list (command_in (words_of line))) (commands_of lines) (read_fits (command_in (words_of line)) (line_fits (words_of line))) (lines_fit lines)

all_given_fit : (commands : List Command) → All CapsFit commands → All AreInRange (flat_map capacities_given commands)
all_given_fit [] fits = All-nil AreInRange
all_given_fit (command ∷ commands) fits =
    All-append AreInRange (capacities_given command) (flat_map capacities_given commands) (given_fits command (All-head CapsFit command commands fits)) (all_given_fit commands (All-tail CapsFit command commands fits))

last_fits : (o : Option Capacities) (given : List Capacities) → IfSome o AreInRange → All AreInRange given → IfSome (last_or o given) AreInRange
last_fits o [] fits all = fits
last_fits o (c ∷ given) fits all = last_fits (Some c) given (All-head AreInRange c given all) (All-tail AreInRange c given all)

or_fits : (o : Option Capacities) → IfSome o AreInRange → AreInRange (unwrap_or o capacities_of_none)
or_fits None fits = ((omega arith, omega arith), (omega arith, omega arith), (omega arith, omega arith), (omega arith, omega arith))
or_fits (Some c) fits = fits

-- what lines say of their queues is in range
room_fits : (lines : List (List ℕ)) → AreInRange (capacities_in (commands_of lines))
room_fits lines =
    let given = flat_map capacities_given (commands_of lines) in
    or_fits (last_or None given) (last_fits None given tt (all_given_fit (commands_of lines) (lines_fit lines)))

pub lines_have_room : (lines : List (List ℕ)) → HaveRoom (commands_of lines)
lines_have_room lines = room_fits lines

pub script_fits : (script : List ℕ) (commands : List Command) → commands ≡ commands_in script → AreInRange (capacities_in commands)
script_fits script commands same = rw same (room_fits (lines_of script))

pub script_has_room : (script : List ℕ) (commands : List Command) → commands ≡ commands_in script → HaveRoom commands
script_has_room script commands same = script_fits script commands same
