use Rattle.std.proofs.Common.{◌≡◌, ◌∷◌, ◌++◌, [], List, true, false, map, string_bytes, sym, ap, subst, inr}
use Rattle.std.specs.List.{AllZip, filter}
use Rattle.serde_json.specs.View.{view}
use Rattle.scp_quorum_search.specs.declared.member.Member.{Member}
use Rattle.scp_quorum_files.specs.declared.fault.FileFault.TheVariants as fault
use Rattle.scp_quorum_files.specs.Networks.{has_set, is_one, SaysMember}
use Rattle.scp_quorum_files.proofs.Said.{members_more, members_skip}
use Rattle.scp_quorum_files.proofs.read.read_node.Goals as goal

pub returns-in_default-clause-said : goal.returns-in_default-clause-said
returns-in_default-clause-said c nodes so_far =
    let form = c.args.form in
    let d = view c.args.node.now in
    let lacks : has_set form d ≡ false = ap is_one (sym (rw c.in_default.is at c.set_of.ensures)) in
    members_skip (SaysMember form (map string_bytes c.args.names.now)) (has_set form) nodes d c.args.members.now.items so_far lacks

pub returns-in-Err-Wrong-clause-wrong : goal.returns-in-Err-Wrong-clause-wrong
returns-in-Err-Wrong-clause-wrong c =
    let form = c.args.form in
    let d = view c.args.node.now in
    let has : has_set form d ≡ true = ap is_one (sym (rw c.in-Some.is at c.set_of.ensures)) in
    (λ e. let f : fault.Node c.args.place ≡ fault.Text = e in cc, inr (has, λ m says. c.in-Err-Wrong.ensures.wrong c.in-Err-Wrong.field-0-is m says))

pub returns-in_ok-push-in-Ok-clause-said : goal.returns-in_ok-push-in-Ok-clause-said
returns-in_ok-push-in-Ok-clause-said c nodes so_far =
    let form = c.args.form in
    let d = view c.args.node.now in
    let has : has_set form d ≡ true = ap is_one (sym (rw c.in-Some.is at c.set_of.ensures)) in
    let P : List Member → Type 0 = λ l. AllZip (SaysMember form (map string_bytes c.args.names.now)) (filter (has_set form) (nodes ++ d ∷ [])) l in
    subst P (sym c.in_ok-push-in-Ok.ensures.items) (members_more (SaysMember form (map string_bytes c.args.names.now)) (has_set form) nodes d c.args.members.now.items c.in-Ok.member so_far has c.in-Ok.ensures.said)
