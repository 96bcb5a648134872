use Rattle.std.proofs.Common.{◌≡◌, ◌∙◌, ◌+◌, ◌++◌, [], ◌∷◌, List, drop, map, ap, arith}
use Rattle.scp_history.specs.scp_envelope.specs.declared.statement.Envelope.{Envelope}
use Rattle.scp_history.specs.Records.{place_at}
use Rattle.scp_shown.specs.Contradictions.{Placed, placed_from}
use Rattle.scp_shown.specs.declared.contradictions.Placed.{Placed as There}
use Rattle.scp_shown.specs.inside.Placing.{placed}
use Rattle.scp_shown.proofs.Listing.{map_push}
use Rattle.scp_shown.proofs.Pairing.{placed_more, placed_all}
use Rattle.scp_shown.proofs.contradictions.add_messages.Goals as goal

pub loop-at-preserved : goal.loop-at-preserved
loop-at-preserved c =
    let ms = c.args.messages.now in
    let i = c.loop-at.at in
    let f = c.args.file in
    let m = c.index-messages-at.result in
    let old = c.loop-at.all.items in
    let here : Envelope → Placed = λ e. (place_at f (i + 1), e.statement) in
    let added : map placed c.push.new.self.items ≡ map placed old ++ (place_at f (i + 1), m.envelope.statement) ∷ [] =
    ap (λ (l : List There). map placed l) c.in_ok-push.ensures.items ∙ map_push placed old _ ∙ ap (λ (e : Envelope). map placed old ++ here e ∷ []) c.get.ensures
    in
    placed_more f (i + 1) ms i m (map placed old) (map placed c.push.new.self.items) (map placed c.args.all.now.items ++ placed_from f 1 ms) (omega arith) c.index-messages-at.is added c.loop-at.invariant

pub returns : goal.returns
returns c =
    let ms = c.args.messages.now in
    let i = c.loop-at.at in
    placed_all c.args.file (i + 1) ms i (map placed c.loop-at.all.items) (map placed c.args.all.now.items ++ placed_from c.args.file 1 ms) (omega arith) c.loop-at.invariant
