-- Who says what, by the last ballot statements.
use Rattle.std.specs.Prelude.{◌≡◌, ℕ, List, map, Option, Some, None, option_and_then}
use Rattle.std.specs.Option.{option_map}
use Rattle.std.specs.List.{filter_map}
use Rattle.scp_history.specs.scp_types.specs.declared.names.NodeId.{NodeId}
use Rattle.scp_history.specs.scp_envelope.specs.declared.statement.Pledges.{Pledges}
use Rattle.scp_history.specs.scp_envelope.specs.declared.statement.Pledges.TheVariants.{Prepare, Confirm, Externalize, Nominate}
use Rattle.scp_history.specs.scp_ledger.specs.Journal.{Heard}
use Rattle.scp_history.specs.scp_judged.specs.Verdicts.{heard_by}
use Rattle.scp_history.specs.declared.line.StatementWord.{StatementWord}
use Rattle.scp_history.specs.declared.line.StatementWord.TheVariants as word
use Rattle.scp_shown.specs.Listed.{Picks, ascending, ascending_values}

-- a statement's word and its value
abbrev pub Spoken : Type 0
Spoken = StatementWord × List ℕ

-- which ballot statement says which value; a nomination is none
abbrev pub spoken_in : Pledges → Option Spoken
spoken_in (Prepare p) = Some (word.Prepare, p.ballot.value)
spoken_in (Confirm p) = Some (word.Confirm, p.ballot.value)
spoken_in (Externalize p) = Some (word.Externalize, p.commit.value)
spoken_in (Nominate p) = None

-- what a node says last
abbrev pub spoken_last : List Heard → NodeId → Option Spoken
spoken_last hs v = option_and_then (λ (h : Heard). spoken_in h.statement.pledges) (heard_by hs v)

-- those of the nodes who say the value last by this statement
abbrev pub AreSayers : List Heard → StatementWord → List ℕ → List NodeId → List NodeId → Type 0
AreSayers hs w x nodes those = Picks (λ (v : NodeId). spoken_last hs v ≡ Some (w, x)) nodes those

-- the nodes of what is heard, ascending, each once
abbrev pub nodes_heard : List Heard → List NodeId
nodes_heard hs = ascending (map (λ h. h.statement.node) hs)

-- the value that a node says last
abbrev pub value_last : List Heard → NodeId → Option (List ℕ)
value_last hs v = option_map (λ (s : Spoken). s.1) (spoken_last hs v)

-- the values that the nodes say last, ascending by their bytes, each once
abbrev pub values_heard : List Heard → List NodeId → List (List ℕ)
values_heard hs nodes = ascending_values (filter_map (value_last hs) nodes)
