-- Entries of a set, read one after another.
-- No public clause reaches this: nothing here need be believed.
use Rattle.std.specs.Prelude.{◌≡◌, ℕ, List, ◌≤◌, ◌++◌, map, filter, flat_map, Some}
use Rattle.serde_json.specs.Data.{Data}
use Rattle.scp_quorum_search.specs.scp_types.specs.declared.names.NodeId.{NodeId}
use Rattle.scp_quorum_search.specs.scp_xdr.specs.Tree.{Trees, in_a_row}
use Rattle.scp_quorum_search.specs.scp_quorum.specs.QuorumTree.{Level, QuorumTree}
use Rattle.scp_quorum_search.specs.scp_quorum.specs.Sane.{levels}
use Rattle.scp_quorum_files.specs.declared.form.Form.{Form}
use Rattle.scp_quorum_files.specs.Documents.{text_in, object_in, is_entry}
use Rattle.scp_quorum_files.specs.Networks.{id_of, SayInner}

-- the entries are texts, which are the nodes that were added, and objects, which are the inner sets that were added
pub record SayEntries (form : Form) (names : List (List ℕ)) (entries : List Data) (nodes more : List NodeId) (sets others : List QuorumTree) : Type 0 where
  pub only : filter is_entry entries ≡ entries
  pub added : List NodeId
  pub nodes_are : more ≡ nodes ++ added
  pub validators : map (id_of names) (flat_map text_in entries) ≡ map Some added
  pub inner : List QuorumTree
  pub sets_are : others ≡ sets ++ inner
  pub says : SayInner form names (flat_map object_in entries) (in_a_row inner)

-- among whichever others, the entries say no nodes and inner sets with at most so many levels
abbrev pub NoneSays : Form → List (List ℕ) → ℕ → List Data → Type 0
NoneSays form names left entries =
    (before after : List Data) (nodes : List NodeId) (row : Trees Level) → filter is_entry (before ++ (entries ++ after)) ≡ before ++ (entries ++ after)
    → map (id_of names) (flat_map text_in (before ++ (entries ++ after))) ≡ map Some nodes
    → SayInner form names (flat_map object_in (before ++ (entries ++ after))) row → levels row ≤ left → ⊥
