-- The document of reports, and its text: no part of it is a float.
use Rattle.std.proofs.Common.{◌≡◌, false, ℕ, List, [], ◌∷◌, ◌++◌, map, codes, refl, ◌∙◌, ap}
use Rattle.serde_json.specs.Data.{Data, array, object, member, no_members}
use Rattle.serde_json.specs.View.{view, items_of}
use Rattle.serde_json.specs.Written.{has_float, items_have_float, compact_text}
use Rattle.serde_json.specs.declared.value.Value.{Value}
use Rattle.scp_core.specs.scp_types.specs.declared.names.ConnId.{ConnId}
use Rattle.scp_core.specs.scp_ledger.specs.declared.journal.Fate.{Fate}
use Rattle.scp_core.specs.scp_ledger.specs.declared.journal.Fate.TheVariants.{Taken, Dropped, Closed}
use Rattle.scp_core.specs.scp_ledger.specs.declared.journal.Origin.{Origin}
use Rattle.scp_core.specs.scp_ledger.specs.declared.journal.Origin.TheVariants.{Machine, Named}
use Rattle.scp_core.specs.scp_ledger.specs.declared.journal.Decision.{Decision}
use Rattle.scp_report.specs.declared.report.Parked.{Parked}
use Rattle.scp_report.specs.Report.{ReportView}
use Rattle.scp_report.specs.Settled.{node_number, conns_of}
use Rattle.scp_report.specs.Json.{count, fate_json, fates_on, parked_on, connection_json, origin_json, applied_json, state_json, json_of, document_of, document_text}

all_none : {X : Type 0} (f : X → Data) (xs : List X) → ((x : X) → has_float (f x) ≡ false) → items_have_float (items_of (map f xs)) ≡ false
all_none f [] each = refl
all_none f (x ∷ xs) each = rw (each x) (all_none f xs each)

fate_none : (fate : Fate) → has_float (fate_json fate) ≡ false
fate_none (Taken conn seq message set verdict) = refl
fate_none (Dropped conn seq cause) = refl
fate_none (Closed conn cause) = refl

connection_none : (journal : List Fate) (parked : List Parked) (conn : ConnId) → has_float (connection_json journal parked conn) ≡ false
connection_none journal parked conn = rw (all_none fate_json (fates_on journal conn) fate_none) refl

origin_none : (origin : Origin) → has_float (origin_json origin) ≡ false
origin_none (Machine n quorum own) = refl
origin_none (Named conn seq) = refl

applied_none : (d : Decision) → has_float (applied_json d) ≡ false
applied_none d = rw (origin_none d.origin) refl

json_none : (v : ReportView) → has_float (json_of v) ≡ false
json_none v = rw (all_none applied_json v.applied applied_none, all_none (connection_json v.journal v.parked) (conns_of v.journal v.parked) (connection_none v.journal v.parked), all_none state_json v.state (λ entry. refl)) refl

-- the document of any reports has none
no_float : (views : List ReportView) → has_float (document_of views) ≡ false
no_float views = rw (all_none json_of views json_none) refl

-- the object of these is the document
pub document_is : (vs : List Value) (d : Data) (views : List ReportView) → d ≡ object (member (codes "nodes") (array (items_of (map view vs))) no_members) → map view vs ≡ map json_of views → d ≡ document_of views
document_is vs d views h e = h ∙ ap (λ (l : List Data). object (member (codes "nodes") (array (items_of l)) no_members)) e

-- its text, with the end of its line
pub text_is : (views : List ReportView) (d : Data) (bytes text : List ℕ) → d ≡ document_of views → (has_float d ≡ false → bytes ≡ compact_text d) → text ≡ bytes ++ codes "\n" → text ≡ document_text views
text_is views d bytes text e told h = h ∙ ap (λ (b : List ℕ). b ++ codes "\n") (told (ap has_float e ∙ no_float views) ∙ ap compact_text e)

-- the object of a connection's entries is that of the connection
pub connection_is : (journal : List Fate) (parked : List Parked) (conn : ConnId) (fs : List Fate) (d v : Data) → fs ≡ fates_on journal conn → d ≡ array (items_of (map fate_json fs))
    → v ≡ object (member (codes "fates") d (member (codes "from") (count (node_number conn.from)) (member (codes "life") (count conn.life) (member (codes "parked") (count (parked_on parked conn)) no_members))))
    → v ≡ connection_json journal parked conn
connection_is journal parked conn fs d v same is h =
    h ∙ ap (λ (x : Data). object (member (codes "fates") x (member (codes "from") (count (node_number conn.from)) (member (codes "life") (count conn.life) (member (codes "parked") (count (parked_on parked conn)) no_members))))) (is ∙ ap (λ (l : List Fate). array (items_of (map fate_json l))) same)
