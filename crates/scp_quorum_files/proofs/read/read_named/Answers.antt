use Rattle.std.proofs.Common.{◌≡◌, ◌++◌, None, Some, map, string_bytes, sym, ◌∙◌, ap}
use Rattle.std.proofs.lemmas.List.{append-nil}
use Rattle.serde_json.specs.Find.{as_str}
use Rattle.serde_json.specs.View.{view}
use Rattle.scp_quorum_files.specs.Networks.{id_of}
use Rattle.scp_quorum_files.proofs.Said.{no_text, one_text}
use Rattle.scp_quorum_files.proofs.read.read_named.Goals as goal

pub returns-in_default-clause-said : goal.returns-in_default-clause-said
returns-in_default-clause-said c texts given =
    let d = view c.args.value.now in
    let none : as_str d ≡ None = sym (rw c.in_default.is at c.as_str.ensures) in
    ap (map (id_of (map string_bytes c.args.names.now))) (ap (λ l. texts ++ l) (no_text d none) ∙ append-nil texts) ∙ given

pub returns-in-None-clause-wrong : goal.returns-in-None-clause-wrong
returns-in-None-clause-wrong c e =
    let said : as_str (view c.args.value.now) ≡ Some c.in-Some.name.now = sym (rw c.in-Some.is at c.as_str.ensures) in
    (c.in-Some.name.now, one_text (view c.args.value.now) c.in-Some.name.now said, sym c.id_of.ensures ∙ c.in-None.is)
