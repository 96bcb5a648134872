use Rattle.std.proofs.Common.{◌≡◌, ◌∙◌, ℕ, List, false, ap, subst, string_bytes}
use Rattle.std.specs.Prelude.{OnOk, map}
use Rattle.scp_again.specs.scp_wire.specs.declared.message.Message.{Message}
use Rattle.scp_again.specs.scp_ledger.specs.Kv.{KvLedger}
use Rattle.scp_live_lines.specs.Names.{name_at}
use Rattle.scp_live.specs.Live.{LiveView}
use Rattle.scp_again.specs.Again.{again_of}
use Rattle.scp_live.specs.Again.{SaysAgain}
use Rattle.scp_live.proofs.live.Live.again.Goals as goal

pub returns-clause-said : goal.returns-clause-said
returns-clause-said c =
    λ (run : c.args.self.now.node.failed ≡ false).
    let v = c.args.self.now in
    let link = c.args.link in
    let a = string_bytes c.args.text.now in
    let d = string_bytes c.say_all.new.text in
    let names : map string_bytes c.as_slice.result.now ≡ v.names = ap (λ ns. map string_bytes ns) c.as_slice.ensures.value ∙ ap (λ (u : LiveView). u.names) c.self.view_is in
    let ledger : c.ledger.result.now ≡ v.node.ledger = c.ledger.ensures (ap (λ (u : LiveView). u.node.failed) c.self.view_is ∙ run) ∙ ap (λ (u : LiveView). u.node.ledger) c.self.view_is in
    let messages : c.as_slice-2.result.now ≡ again_of v.node.ledger link = c.as_slice-2.ensures.value ∙ c.in_ok-messages.ensures.exact ∙ ap (λ (l : KvLedger). again_of l link) ledger in
    subst (λ (n : List ℕ). OnOk c.say_all.result (SaysAgain n (again_of v.node.ledger link) a d)) (c.name_of-name.ensures ∙ ap (λ ns. name_at ns link) names)
    (subst (λ (ms : List Message). OnOk c.say_all.result (SaysAgain c.name_of-name.result.now ms a d)) messages c.say_all.ensures.said)
