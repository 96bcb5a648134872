-- No part of an account is a float.
use Rattle.std.proofs.Common.{◌≡◌, ◌+◌, ℕ, Bool, true, false, List, [], ◌∷◌, ◌++◌, ◌∙◌, ap, codes, length, map, Option, Some, None, refl}
use Rattle.std.specs.Prelude.{◌||◌, flat_map, nat_eq, slice_get, if◌then◌else◌}
use Rattle.std.specs.Global.{Vec}
use Rattle.serde_json.specs.Data.{Data}
use Rattle.serde_json.specs.View.{items_of}
use Rattle.serde_json.specs.Written.{compact_text, has_float, items_have_float}
use Rattle.scp_line.specs.scp_types.specs.declared.names.NodeId.{NodeId}
use Rattle.scp_line.specs.scp_types.specs.declared.names.Hash.{Hash}
use Rattle.scp_line.specs.scp_types.specs.declared.names.Seq.{Seq}
use Rattle.scp_line.specs.scp_types.specs.Same.{same_node}
use Rattle.scp_line.specs.scp_quorum.specs.SharedSet.{SharedSet}
use Rattle.scp_line.specs.scp_wire.specs.declared.link.Command.{Command}
use Rattle.scp_line.specs.scp_wire.specs.declared.link.Command.TheVariants.{Tick, Propose, Round, Timer, Ask}
use Rattle.scp_line.specs.scp_wire.specs.declared.link.LinkItem.{LinkItem}
use Rattle.scp_line.specs.scp_wire.specs.declared.link.LinkItem.TheVariants as item
use Rattle.scp_line.specs.scp_ledger.specs.declared.journal.Decision.{Decision}
use Rattle.scp_line.specs.scp_ledger.specs.declared.journal.Fate.{Fate}
use Rattle.scp_line.specs.scp_ledger.specs.declared.journal.Fate.TheVariants.{Taken, Dropped, Closed}
use Rattle.scp_line.specs.scp_ledger.specs.declared.journal.Origin.{Origin}
use Rattle.scp_line.specs.scp_ledger.specs.declared.journal.Origin.TheVariants.{Machine, Named}
use Rattle.scp_line.specs.scp_ledger.specs.declared.took.CommandFate.{CommandFate}
use Rattle.scp_line.specs.scp_report.specs.declared.report.LinkReport.{LinkReport}
use Rattle.scp_line.specs.scp_report.specs.declared.report.Parked.{Parked}
use Rattle.scp_line.specs.scp_report.specs.Report.{ReportView}
use Rattle.scp_facts.specs.declared.happening.Happening.{Happening}
use Rattle.scp_facts.specs.declared.happening.Happening.TheVariants as happening
use Rattle.scp_facts.specs.declared.happening.Kept.{Kept}
use Rattle.scp_facts.specs.Taken.{happenings_at, in_order}
use Rattle.scp_account.specs.declared.node.Mode.{Mode}
use Rattle.scp_account.specs.declared.node.Mode.TheVariants.{Serial, Threads}
use Rattle.scp_account.specs.Account.{account_json, account_of, account_text}
use Rattle.scp_account.specs.Arrived.{arrival_json, arrivals_json, arrived_json, item_json}
use Rattle.scp_account.specs.Commands.{command_json, fate_json}
use Rattle.scp_account.specs.Decisions.{decision_json, entry_ground, ground, ground_of, origin_json}
use Rattle.scp_account.specs.Entries.{entry_json}
use Rattle.scp_account.specs.Links.{came, sent, link_json, links_json}
use Rattle.scp_account.specs.Node.{applied_json, key_json, node_json, serial_json, threads_json}
use Rattle.scp_account.specs.Parked.{hash_json, number_json, parked_json, waiting_json}
use Rattle.scp_account.specs.Pieces.{id_json, beside_json}
use Rattle.scp_account.specs.Spoken.{counting}
use Rattle.scp_account.specs.Taken.{taken_json}

-- none of these is or has a float
abbrev pub NoFloats : List Data → Type 0
NoFloats ds = items_have_float (items_of ds) ≡ false

none_more : (d : Data) (ds : List Data) → has_float d ≡ false → NoFloats ds → NoFloats (d ∷ ds)
none_more d ds one more = rw (one) more

both_none : (a b : Bool) → (a || b) ≡ false → (a ≡ false) × (b ≡ false)
both_none true b e = absurd cc
both_none false b e = (refl, e)

none_both : (ds es : List Data) → NoFloats ds → NoFloats es → NoFloats (ds ++ es)
none_both [] es one more = more
none_both (d ∷ ds) es one more = let parts = both_none (has_float d) (items_have_float (items_of ds)) one in none_more d (ds ++ es) parts.0 (none_both ds es parts.1 more)

none_each : {X : Type 0} (f : X → Data) (xs : List X) → ((x : X) → has_float (f x) ≡ false) → NoFloats (map f xs)
none_each {X} f [] each = refl
none_each {X} f (x ∷ xs) each = none_more (f x) (map f xs) (each x) (none_each f xs each)

none_flat : {X : Type 0} (f : X → List Data) (xs : List X) → ((x : X) → NoFloats (f x)) → NoFloats (flat_map f xs)
none_flat {X} f [] each = refl
none_flat {X} f (x ∷ xs) each = none_both (f x) (flat_map f xs) (each x) (none_flat f xs each)

-- ---- what was taken

beside_none : (set : Option SharedSet) → has_float (beside_json set) ≡ false
beside_none None = refl
beside_none (Some set) = refl

entry_none : (fate : Fate) → has_float (entry_json fate) ≡ false
entry_none (Taken conn seq message set verdict) = rw (beside_none set) refl
entry_none (Dropped conn seq cause) = refl
entry_none (Closed conn cause) = refl

command_none : (command : Command) (fate : CommandFate) → has_float (command_json command fate) ≡ false
command_none Tick fate = refl
command_none (Propose slot value) fate = refl
command_none (Round slot) fate = refl
command_none (Timer slot) fate = refl
command_none (Ask link slot) fate = refl

order_none : (happenings : List Happening) (entries : List Fate) → NoFloats (in_order entry_json command_json happenings entries)
order_none [] entries = none_each entry_json entries entry_none
order_none (happening.Entered ∷ more) [] = order_none more []
order_none (happening.Entered ∷ more) (entry ∷ entries) = none_more (entry_json entry) (in_order entry_json command_json more entries) (entry_none entry) (order_none more entries)
order_none (happening.Obeyed command fate ∷ more) entries = none_more (command_json command fate) (in_order entry_json command_json more entries) (command_none command fate) (order_none more entries)
order_none (happening.Opened link ∷ more) entries = order_none more entries
order_none (happening.Came link bytes ∷ more) entries = order_none more entries
order_none (happening.Closed link ∷ more) entries = order_none more entries
order_none (happening.Given command ∷ more) entries = order_none more entries
order_none (happening.Sent link bytes ∷ more) entries = order_none more entries

-- ---- links

none_if : (b : Bool) (d : Data) → has_float d ≡ false → NoFloats (if b then d ∷ [] else [])
none_if true d one = none_more d [] one refl
none_if false d one = refl

came_none : (link : ℕ) (h : Happening) → NoFloats (came link h)
came_none link (happening.Opened at) = none_if (nat_eq at link) _ refl
came_none link (happening.Came at bytes) = none_if (nat_eq at link) _ refl
came_none link (happening.Closed at) = none_if (nat_eq at link) _ refl
came_none link (happening.Given command) = refl
came_none link happening.Entered = refl
came_none link (happening.Obeyed command fate) = refl
came_none link (happening.Sent at bytes) = refl

sent_none : (link : ℕ) (h : Happening) → NoFloats (sent link h)
sent_none link (happening.Opened at) = refl
sent_none link (happening.Came at bytes) = refl
sent_none link (happening.Closed at) = refl
sent_none link (happening.Given command) = refl
sent_none link happening.Entered = refl
sent_none link (happening.Obeyed command fate) = refl
sent_none link (happening.Sent at bytes) = none_if (nat_eq at link) _ refl

link_none : (happenings : List Happening) (link : ℕ) (k : LinkReport) → has_float (link_json happenings link k) ≡ false
link_none happenings link k = rw (none_flat (came link) happenings (came_none link), none_flat (sent link) happenings (sent_none link)) refl

links_none : (happenings : List Happening) (link : ℕ) (ks : List LinkReport) → NoFloats (links_json happenings link ks)
links_none happenings link [] = refl
links_none happenings link (k ∷ ks) = none_more (link_json happenings link k) (links_json happenings (link + 1) ks) (link_none happenings link k) (links_none happenings (link + 1) ks)

-- ---- what waits, and what was decided

number_none : (first : Option (Seq × Hash)) → has_float (number_json first) ≡ false
number_none None = refl
number_none (Some first) = refl

hash_none : (first : Option (Seq × Hash)) → has_float (hash_json first) ≡ false
hash_none None = refl
hash_none (Some first) = refl

parked_none : (held : Parked) → has_float (parked_json held) ≡ false
parked_none held = rw (number_none held.first, hash_none held.first) refl

entry_ground_none : (node : NodeId) (fate : Fate) → NoFloats (entry_ground node fate)
entry_ground_none node (Taken conn seq message None verdict) = refl
entry_ground_none node (Taken conn seq message (Some set) verdict) = refl
entry_ground_none node (Dropped conn seq cause) = refl
entry_ground_none node (Closed conn cause) = refl

ground_none : (node : NodeId) (found : Option Fate) → NoFloats (ground node found)
ground_none node None = refl
ground_none node (Some fate) = entry_ground_none node fate

ground_of_none : (me : NodeId) (journal : List Fate) (slot : ℕ) (node : NodeId) → NoFloats (ground_of me journal slot node)
ground_of_none me journal slot node = by (same_node node me)
  where
    by : (b : Bool) → NoFloats (if b then [] else ground node (counting journal slot node))
    by true = refl
    by false = ground_none node (counting journal slot node)

origin_none : (me : NodeId) (journal : List Fate) (slot : ℕ) (origin : Origin) → has_float (origin_json me journal slot origin) ≡ false
origin_none me journal slot (Machine n quorum own) = rw (none_each id_json quorum (λ node. refl), none_flat (ground_of me journal slot) quorum (ground_of_none me journal slot)) refl
origin_none me journal slot (Named conn seq) = refl

decision_none : (me : NodeId) (journal : List Fate) (d : Decision) → has_float (decision_json me journal d) ≡ false
decision_none me journal d = rw (origin_none me journal d.slot.0 d.origin) refl

-- ---- what came in threads

item_none : (i : LinkItem) → has_float (item_json i) ≡ false
item_none (item.Opened conn) = refl
item_none (item.Bytes conn bytes) = refl
item_none (item.Closed conn) = refl

arrived_none : (kept : Option (Option (Vec LinkItem))) → has_float (arrived_json kept) ≡ false
arrived_none None = refl
arrived_none (Some None) = refl
arrived_none (Some (Some items)) = rw (none_each item_json items.items item_none) refl

arrival_none : (came : List (Option (Vec LinkItem))) (link : ℕ) (peer : NodeId) → has_float (arrival_json came link peer) ≡ false
arrival_none came link peer = rw (arrived_none (slice_get came link)) refl

arrivals_none : (came : List (Option (Vec LinkItem))) (link : ℕ) (ks : List LinkReport) → NoFloats (arrivals_json came link ks)
arrivals_none came link [] = refl
arrivals_none came link (k ∷ ks) = none_more (arrival_json came link k.peer) (arrivals_json came (link + 1) ks) (arrival_none came link k.peer) (arrivals_none came (link + 1) ks)

-- ---- nodes

serial_none : (r : ReportView) (happenings : List Happening) → has_float (serial_json r happenings) ≡ false
serial_none r happenings =
    rw (
      none_each applied_json r.applied (λ d. refl),
      none_each (decision_json r.me r.journal) r.decisions (decision_none r.me r.journal),
      links_none happenings 0 r.links,
      none_each parked_json r.parked parked_none,
      none_each key_json r.state (λ entry. refl),
      order_none happenings r.journal,
    ) refl

threads_none : (r : ReportView) → has_float (threads_json r) ≡ false
threads_none r =
    rw (
      none_each (decision_json r.me r.journal) r.decisions (decision_none r.me r.journal),
      none_each fate_json r.commands (λ fate. refl),
      arrivals_none r.came 0 r.links,
      none_each waiting_json r.messages (λ carried. refl),
      none_each key_json r.state (λ entry. refl),
      none_each entry_json r.journal entry_none,
    ) refl

node_none : (mode : Mode) (r : ReportView) (happenings : List Happening) → has_float (node_json mode r happenings) ≡ false
node_none Serial r happenings = serial_none r happenings
node_none Threads r happenings = threads_none r

-- the document of any nodes has none
pub account_none : (mode : Mode) (reports : List ReportView) (kept : List Kept) → has_float (account_of mode reports kept) ≡ false
account_none mode reports kept = rw (none_each (account_json mode kept) reports (λ r. node_none mode r (happenings_at r.node kept))) refl

-- ---- the text

pub text_is : (mode : Mode) (reports : List ReportView) (kept : List Kept) (d : Data) (bytes : List ℕ) → d ≡ account_of mode reports kept → (has_float d ≡ false → bytes ≡ compact_text d ++ codes "\n") → bytes ≡ account_text mode reports kept
text_is mode reports kept d bytes e told = told (ap has_float e ∙ account_none mode reports kept) ∙ ap (λ (x : Data). compact_text x ++ codes "\n") e
