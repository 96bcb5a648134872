use Rattle.std.proofs.Common.{[], ◌∷◌, ◌++◌, ◌∙◌, ℕ, subst}
use Rattle.std.specs.Prelude.{option_to_list}
use Rattle.scp_theorem.specs.scp_ledger.specs.By.{JournalsBy}
use Rattle.scp_theorem.specs.scp_ledger.specs.Onwards.{KeepsWindow}
use Rattle.scp_theorem.specs.Handed.{Serves}
use Rattle.scp_workers.proofs.Fates.{fates_more}
use Rattle.scp_workers.proofs.slot.SlotStageStageReadyAnyOnwardInWindow.take.Goals as goal

pub returns-in-Ok-keep-clause-runs : goal.returns-in-Ok-keep-clause-runs
returns-in-Ok-keep-clause-runs g c = λ first took gave out h.
    let says = g.D.Driver.says in
    let me = first.ledger.me in
    let local = first.ledger.local in
    let peers = first.ledger.peers in
    let x = c.args.ready in
    let t = c.in-Ok.took in
    let old = c.args.self.now.ledger in
    let new = c.take.new.self in
    let journals : JournalsBy says me local peers (took ++ x ∷ []) (gave ++ option_to_list t.onward) new = c.what_holds_of_a_ledger_holds_with_one_thing_more.ensures.journals.passes me local peers old x t new c.in-Ok.ensures.takes c.take.ensures.known c.take.ensures.running took gave h.journals in
    let serves : Serves says old (record { thing = x; gave = t }) new = record { takes = c.in-Ok.ensures.takes; tells = c.in-Ok.ensures.tells; known = journals.known; running = journals.running } in (
      record {
        journals = journals;
        told = fates_more says me local peers took gave out c.args.self.now.fates.items c.keep.new.fates.items old new x t serves c.take.ensures.first c.in-Ok-keep.ensures h.told;
        from_one = c.take.ensures.first ∙ h.from_one;
      },
      subst (λ (n : ℕ). KeepsWindow n (gave ++ option_to_list t.onward)) (c.take.ensures.first ∙ h.from_one) (c.what_is_given_on_keeps_the_window.ensures.given me local peers took gave old x t new c.in-Ok.ensures.takes c.take.ensures.known h.journals).0,
    )
