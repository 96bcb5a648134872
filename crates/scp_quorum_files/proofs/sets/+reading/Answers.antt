use Rattle.std.proofs.Common.{◌≡◌, ◌+◌, ◌-◌, ◌≤◌, List, true, false, [], ◌∷◌, ◌++◌, suc, None, Some, map, take, drop, string_bytes, arith, refl, sym, ◌∙◌, ap, subst}
use Rattle.std.proofs.lemmas.Result.{err_from_is_err_and}
use Rattle.serde_json.specs.Data.{Data}
use Rattle.serde_json.specs.Find.{get_member, as_str}
use Rattle.serde_json.specs.View.{view}
use Rattle.scp_quorum_search.specs.scp_xdr.specs.Tree.{in_a_row}
use Rattle.scp_quorum_search.specs.scp_quorum.specs.QuorumTree.{QuorumTree}
use Rattle.scp_quorum_search.specs.scp_quorum.specs.Sane.{levels}
use Rattle.scp_quorum_files.specs.Documents.{threshold_key, entries_in}
use Rattle.scp_quorum_files.specs.Networks.{threshold_said, members_in}
use Rattle.scp_quorum_files.specs.inside.Reading.{SayEntries}
use Rattle.scp_quorum_files.proofs.Looked.{values_more}
use Rattle.scp_quorum_files.proofs.Entries.{entries_none, entries_join, entries_object, no_entry, no_name, no_set, none_among, value_seam, set_made, front_refuted, back_refuted, levels_push, text_is, object_is, no_kind}
use Rattle.scp_quorum_files.proofs.sets.+reading.Goals as goal

-- ---- entries

pub read_entries-loop-entry-init : goal.read_entries-loop-entry-init
read_entries-loop-entry-init t c = record {
  said = entries_none c.args.form (map string_bytes c.args.names.now) c.args.validators.now.items c.args.inner_sets.now.items;
  shallow = λ few. few;
}

pub read_entries-loop-entry-preserved : goal.read_entries-loop-entry-preserved
read_entries-loop-entry-preserved t c =
    let form = c.args.form in
    let names = map string_bytes c.args.names.now in
    let vs = c.args.entries.now in
    let i = c.loop-entry.entry-index in
    let v = c.entry-item.result in
    let old = c.loop-entry in
    let P : List Data → Type 0 = λ l. SayEntries form names l c.args.validators.now.items c.read_entry.new.validators.items c.args.inner_sets.now.items c.read_entry.new.inner_sets.items in
    record {
      said = subst P (sym (values_more vs i v c.loop-entry-test.true c.entry-item.is))
          (entries_join form names (map view (take i vs)) (view v ∷ []) c.args.validators.now.items old.validators.items c.read_entry.new.validators.items c.args.inner_sets.now.items old.inner_sets.items c.read_entry.new.inner_sets.items old.invariant.said c.in_ok-read_entry.ensures.said);
      shallow = λ few. c.in_ok-read_entry.ensures.shallow (old.invariant.shallow few);
    }

pub read_entries-returns-in_err-read_entry-clause-wrong : goal.read_entries-returns-in_err-read_entry-clause-wrong
read_entries-returns-in_err-read_entry-clause-wrong t c =
    let vs = c.args.entries.now in
    let i = c.loop-entry.entry-index in
    let v = c.entry-item.result in
    let p = err_from_is_err_and c.from_residual.result c.from_residual.ensures.1 in
    rw (p.1, p.2)
    (λ e. none_among c.args.form (map string_bytes c.args.names.now) c.args.left (map view vs) (map view (take i vs)) (map view (drop (suc i) vs)) (view v) (value_seam vs i v c.loop-entry-test.true c.entry-item.is) (c.in_err-read_entry.ensures.wrong e))

-- ---- an entry

pub read_entry-returns-in-None-clause-wrong : goal.read_entry-returns-in-None-clause-wrong
read_entry-returns-in-None-clause-wrong t c =
    let names = map string_bytes c.args.names.now in
    let d = view c.args.entry.now in
    let text = c.in-Some.name.now in
    let said : as_str d ≡ Some text = sym (rw c.in-Some.is at c.as_str.ensures) in
    λ e. no_name c.args.form names c.args.left (d ∷ []) [] [] d refl text (text_is d text said) (sym c.id_of.ensures ∙ c.in-None.is)

pub read_entry-returns-then-not-is_object-clause-wrong : goal.read_entry-returns-then-not-is_object-clause-wrong
read_entry-returns-then-not-is_object-clause-wrong t c =
    let d = view c.args.entry.now in
    let none : as_str d ≡ None = sym (rw c.in_default.is at c.as_str.ensures) in
    λ e. no_entry c.args.form (map string_bytes c.args.names.now) c.args.left (d ∷ []) [] [] d refl (no_kind d none (sym c.is_object.ensures ∙ c.if-not-is_object.true))

pub read_entry-returns-then-left-eq0-clause-wrong : goal.read_entry-returns-then-left-eq0-clause-wrong
read_entry-returns-then-left-eq0-clause-wrong t c =
    let d = view c.args.entry.now in
    λ e. no_set c.args.form (map string_bytes c.args.names.now) c.args.left (d ∷ []) [] [] d refl (members_in d) (object_is d (sym c.is_object.ensures ∙ c.if-not-is_object.false))
    (λ set says few. omega (arith, few, c.if-left-eq0.true))

pub read_entry-returns-in_err-inner-clause-wrong : goal.read_entry-returns-in_err-inner-clause-wrong
read_entry-returns-in_err-inner-clause-wrong t c =
    let d = view c.args.entry.now in
    let p = err_from_is_err_and c.from_residual-in_err-inner.result c.from_residual-in_err-inner.ensures.1 in
    rw (p.1, p.2)
    (λ e. no_set c.args.form (map string_bytes c.args.names.now) c.args.left (d ∷ []) [] [] d refl (members_in d) (object_is d (sym c.is_object.ensures ∙ c.if-not-is_object.false))
    (λ set says few. c.in_err-inner.ensures.wrong e set says (omega (arith, few))))

pub read_entry-returns-clause-said : goal.read_entry-returns-clause-said
read_entry-returns-clause-said t c =
    let names = map string_bytes c.args.names.now in
    let d = view c.args.entry.now in
    let nodes = c.args.validators.now.items in
    let sets = c.args.inner_sets.now.items in
    entries_object c.args.form names [] d nodes nodes sets sets (entries_none c.args.form names nodes sets) (members_in d) c.in_ok-inner.inner c.push-2.new.self.items
    (object_is d (sym c.is_object.ensures ∙ c.if-not-is_object.false)) c.in_ok-inner.ensures.said c.in_ok-push.ensures.items

pub read_entry-returns-clause-shallow : goal.read_entry-returns-clause-shallow
read_entry-returns-clause-shallow t c = λ few.
    let P : List QuorumTree → Type 0 = λ l. levels (in_a_row l) ≤ c.args.left in
    let below : levels c.in_ok-inner.inner.inner + 1 ≤ c.args.left = omega (arith, c.in_ok-inner.ensures.shallow, c.if-left-eq0.false) in
    subst P (sym c.in_ok-push.ensures.items) (levels_push c.args.inner_sets.now.items c.in_ok-inner.inner c.args.left few below)

-- ---- a set

pub read_set-returns-in_err-read_entries-clause-wrong : goal.read_set-returns-in_err-read_entries-clause-wrong
read_set-returns-in_err-read_entries-clause-wrong t c =
    let names = map string_bytes c.args.names.now in
    let ms = members_in (view c.args.value.now) in
    let front = map view c.in-Some-entries_in.front.now in
    let back = map view c.in-Some-entries_in.back.now in
    let are : entries_in c.args.form ms ≡ Some (front ++ back) = sym (rw c.in-Some-entries_in.is at c.entries_in.ensures) in
    let p = err_from_is_err_and c.from_residual.result c.from_residual.ensures.1 in
    rw (p.1, p.2)
    (λ e set says few. front_refuted c.args.form names ms front back are c.args.left (c.in_err-read_entries.ensures.wrong e) set says few)

pub read_set-returns-in_err-read_entries-2-clause-wrong : goal.read_set-returns-in_err-read_entries-2-clause-wrong
read_set-returns-in_err-read_entries-2-clause-wrong t c =
    let names = map string_bytes c.args.names.now in
    let ms = members_in (view c.args.value.now) in
    let front = map view c.in-Some-entries_in.front.now in
    let back = map view c.in-Some-entries_in.back.now in
    let are : entries_in c.args.form ms ≡ Some (front ++ back) = sym (rw c.in-Some-entries_in.is at c.entries_in.ensures) in
    let p = err_from_is_err_and c.from_residual-in_err-read_entries-2.result c.from_residual-in_err-read_entries-2.ensures.1 in
    rw (p.1, p.2)
    (λ e set says few. back_refuted c.args.form names ms front back are c.args.left (c.in_err-read_entries-2.ensures.wrong e) set says few)

pub read_set-returns-in-Ok-clause-said : goal.read_set-returns-in-Ok-clause-said
read_set-returns-in-Ok-clause-said t c =
    let form = c.args.form in
    let names = map string_bytes c.args.names.now in
    let ms = members_in (view c.args.value.now) in
    let front = map view c.in-Some-entries_in.front.now in
    let back = map view c.in-Some-entries_in.back.now in
    let are : entries_in form ms ≡ Some (front ++ back) = sym (rw c.in-Some-entries_in.is at c.entries_in.ensures) in
    let counts : threshold_said (get_member (threshold_key form) ms) ≡ Some c.in-Some.threshold =
    ap (λ k. threshold_said (get_member k ms)) (sym c.threshold_key.ensures) ∙ ap threshold_said (sym c.at.ensures) ∙ sym c.threshold_said.ensures ∙ c.in-Some.is in
    set_made form names ms front back are c.new-validators.result.items c.read_entries.new.validators.items c.read_entries-2.new.validators.items
    c.new-inner_sets.result.items c.read_entries.new.inner_sets.items c.read_entries-2.new.inner_sets.items c.in-Some.threshold c.in-Ok.set
    c.new-validators.ensures.items c.new-inner_sets.ensures.items c.in_ok-read_entries.ensures.said c.in_ok-read_entries-2.ensures.said counts c.in-Ok.ensures.made
