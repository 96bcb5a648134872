use Rattle.std.proofs.Common.{◌*◌, ◌+◌, ◌≤◌, map, take, string_bytes}
use Rattle.serde_json.specs.View.{view}
use Rattle.scp_quorum_search.specs.scp_xdr.specs.Tree.{in_a_row}
use Rattle.scp_quorum_search.specs.scp_quorum.specs.Sane.{levels}
use Rattle.scp_quorum_files.specs.inside.Reading.{SayEntries}
use Rattle.scp_quorum_files.proofs.sets.+reading.Given as goal

abbrev pub decreases-read_entry : goal.decreases-read_entry
decreases-read_entry l = 3 * l.left

abbrev pub decreases-read_entries : goal.decreases-read_entries
decreases-read_entries l = 3 * l.left + 1

abbrev pub decreases-read_set : goal.decreases-read_set
decreases-read_set l = 3 * l.left + 2

-- the entries so far are those that were added
abbrev pub invariant-read_entries-loop-entry : goal.invariant-read_entries-loop-entry
invariant-read_entries-loop-entry l =
    record {
      said : SayEntries l.form (map string_bytes l.names) (map view (take l.entry-index l.entries)) l.initial.validators.items l.validators.items l.initial.inner_sets.items l.inner_sets.items;
      shallow : levels (in_a_row l.initial.inner_sets.items) ≤ l.left → levels (in_a_row l.inner_sets.items) ≤ l.left;
    }
