use Rattle.std.proofs.Common.{◌≡◌, ◌<◌, ◌≤◌, [], ◌∷◌, ◌++◌, ◌∙◌, length, get_or, refl, sym, ap, subst, arith}
use Rattle.std.specs.Prelude.{List}
use Rattle.std.proofs.lemmas.List.{set-get_or}
use Rattle.std.proofs.lemmas.Option.{slice_get-get_or}
use Rattle.scp_theorem.specs.scp_envelope.specs.declared.statement.Envelope.{Envelope as Enveloped}
use Rattle.scp_theorem.specs.scp_wire.specs.declared.message.Message.{Message}
use Rattle.scp_theorem.specs.scp_wire.specs.declared.message.Message.TheVariants.{Envelope}
use Rattle.scp_shared_outbox.specs.Ends.{PutterView}
use Rattle.scp_theorem.specs.scp_ledger.specs.declared.took.Outgoing.TheVariants.{ToAll}
use Rattle.scp_workers.specs.Working.{AreSameOutlets}
use Rattle.scp_workers.specs.inside.Handing.{PutsOut}
use Rattle.scp_workers.proofs.Outlets.{put_back, one_put, below_same, all_put}
use Rattle.scp_workers.proofs.handing.hand_to_all.Goals as goal

pub returns-in_err-share-clause-same : goal.returns-in_err-share-clause-same
returns-in_err-share-clause-same g c =
    let xs : List PutterView = c.loop-outlet.outlet-items in
    let old : List PutterView = c.args.outlets.now.items in
    let i = c.loop-outlet.outlet-index in
    let many : length xs ≡ length old = c.loop-outlet.invariant.many in
    let full : c.args.outlets.now.len ≡ length old = omega (arith, c.deref_mut-outlet-items.ensures.len, ap length c.deref_mut-outlet-items.ensures.value) in
    subst (AreSameOutlets old) (sym (put_back old xs _ c.args.outlets.now.len many full (set-get_or xs i c.outlet-item.result))) (below_same old (Envelope (record { value = c.args.envelope.now })) i xs c.loop-outlet.invariant)

pub loop-outlet-preserved : goal.loop-outlet-preserved
loop-outlet-preserved g c =
    let xs : List PutterView = c.loop-outlet.outlet-items in
    let i = c.loop-outlet.outlet-index in
    let d : PutterView = c.outlet-item.result in
    let inside : i < length xs = omega arith in
    let shared = c.from_shared-boxed.ensures.same ∙ c.in_ok-share.ensures.same in
    let box : c.of.result ≡ Envelope (record { value = c.args.envelope.now }) = c.of.ensures.same ∙ ap (λ (e : Enveloped). Envelope (record { value = e })) shared in
    one_put c.args.outlets.now.items (Envelope (record { value = c.args.envelope.now })) i xs (get_or xs i d) c.put.new.self (slice_get-get_or xs i d inside)
    (subst (λ (m : Message). c.put.new.self ≡ record (get_or xs i d) { put = (get_or xs i d).put ++ m ∷ [] }) box c.put.ensures)
    c.loop-outlet.invariant

pub returns-clause-same : goal.returns-clause-same
returns-clause-same g c =
    let xs : List PutterView = c.loop-outlet.outlet-items in
    let old : List PutterView = c.args.outlets.now.items in
    let many : length xs ≡ length old = c.loop-outlet.invariant.many in
    let full : c.args.outlets.now.len ≡ length old = omega (arith, c.deref_mut-outlet-items.ensures.len, ap length c.deref_mut-outlet-items.ensures.value) in
    subst (AreSameOutlets old) (sym (put_back old xs xs c.args.outlets.now.len many full refl)) (below_same old (Envelope (record { value = c.args.envelope.now })) c.loop-outlet.outlet-index xs c.loop-outlet.invariant)

pub returns-clause-puts : goal.returns-clause-puts
returns-clause-puts g c =
    let xs : List PutterView = c.loop-outlet.outlet-items in
    let old : List PutterView = c.args.outlets.now.items in
    let many : length xs ≡ length old = c.loop-outlet.invariant.many in
    let ended : length old ≤ c.loop-outlet.outlet-index = omega (arith, c.loop-outlet.auto.outlet-items) in
    let full : c.args.outlets.now.len ≡ length old = omega (arith, c.deref_mut-outlet-items.ensures.len, ap length c.deref_mut-outlet-items.ensures.value) in
    subst (PutsOut (ToAll c.args.envelope.now ∷ []) old) (sym (put_back old xs xs c.args.outlets.now.len many full refl)) (all_put old (Envelope (record { value = c.args.envelope.now })) c.loop-outlet.outlet-index xs ended c.loop-outlet.invariant)
