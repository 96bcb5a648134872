-- The text of a line's object: no part of it is a float.
use Rattle.std.proofs.Common.{◌≡◌, false, ℕ, Bool, List, [], ◌∷◌, map, refl, ◌∙◌, ap}
use Rattle.serde_json.specs.Data.{Data}
use Rattle.serde_json.specs.View.{items_of}
use Rattle.serde_json.specs.Written.{has_float, items_have_float, compact_text}
use Rattle.scp_shown.specs.scp_types.specs.declared.names.NodeId.{NodeId}
use Rattle.scp_shown.specs.scp_history.specs.declared.line.Line.{Line}
use Rattle.scp_shown.specs.scp_history.specs.declared.line.Line.TheVariants.{Unread, Cut, Value, Uncertified, Unbacked, Split, Against, Message, Silent, Contradicts, End}
use Rattle.scp_shown.specs.scp_history.specs.declared.side.Side.{Side}
use Rattle.scp_history_json.specs.Json.{node_json, side_json, line_json}

all_none : {X : Type 0} (f : X → Data) (xs : List X) → ((x : X) → has_float (f x) ≡ false) → items_have_float (items_of (map f xs)) ≡ false
all_none f [] each = refl
all_none f (x ∷ xs) each = rw (each x) (all_none f xs each)

nodes_none : (by_number : Bool) (nodes : List NodeId) → items_have_float (items_of (map (node_json by_number) nodes)) ≡ false
nodes_none by_number nodes = all_none (node_json by_number) nodes (λ v. refl)

side_none : (by_number : Bool) (side : Side) → has_float (side_json by_number side) ≡ false
side_none by_number side = rw (nodes_none by_number side.nodes) refl

no_float : (by_number : Bool) (line : Line) → has_float (line_json by_number line) ≡ false
no_float by_number (Unread file number why) = refl
no_float by_number (Cut file number) = refl
no_float by_number (Value ledger value counts) = refl
no_float by_number (Uncertified ledger nodes) = rw (nodes_none by_number nodes) refl
no_float by_number (Unbacked ledger nodes) = rw (nodes_none by_number nodes) refl
no_float by_number (Split ledger sides) = rw (all_none (side_json by_number) sides (side_none by_number)) refl
no_float by_number (Against ledger node statement value) = refl
no_float by_number (Message ledger place verdict hash node) = refl
no_float by_number (Silent ledger nodes) = rw (nodes_none by_number nodes) refl
no_float by_number (Contradicts ledger node first last) = refl
no_float by_number (End sums) = refl

pub text_is : (by_number : Bool) (line : Line) (d : Data) (bytes : List ℕ) → d ≡ line_json by_number line → (has_float d ≡ false → bytes ≡ compact_text d) → bytes ≡ compact_text (line_json by_number line)
text_is by_number line d bytes h told = told (ap has_float h ∙ no_float by_number line) ∙ ap compact_text h
