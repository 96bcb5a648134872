use Rattle.std.proofs.Common.{◌≡◌, ◌∙◌, refl, sym, ap, subst}
use Rattle.scp_vote.specs.declared.claim.StatementKind.{StatementKind}
use Rattle.scp_vote.specs.declared.claim.StatementKind.TheVariants.{Nomination, Balloting}
use Rattle.scp_vote.specs.Board.{Seen, IsCounted, kind_of_pledges}
use Rattle.scp_vote.specs.Seen.{seen}
use Rattle.scp_vote.specs.inside.Side.{side}
use Rattle.scp_vote.specs.Statements.{seen_in}
use Rattle.scp_vote.proofs.Putting.{own_set_put, put_counted, same_seen, on_err}
use Rattle.scp_vote.proofs.Kept.{by_kind, kind_puts}
use Rattle.scp_vote.proofs.board.Board.put.Goals as goal

pub invariant_of-self : goal.invariant_of-self
invariant_of-self c =
    let b = c.args.self.now in
    let p = c.args.envelope.statement.pledges in
    let i = c.in-Nomination.is in
    let k : c.kind_of_pledges-kind.result ≡ Nomination = cc in
    let same : side c.of.result ≡ seen_in b.me b.local.value b.nominations.entries = c.of.ensures.same ∙ ap (λ (x : StatementKind). seen x b) k in
    let counted : IsCounted (seen_in b.me b.local.value b.nominations.entries) c.args.envelope.statement.node p c.args.delivered.value c.in_ok-counted.counted.value =
    subst (λ (s : Seen). IsCounted s c.args.envelope.statement.node p c.args.delivered.value c.in_ok-counted.counted.value) same (rw c.get-2.ensures at c.in_ok-counted.ensures.set)
    in
    record { own_nomination = own_set_put b.me b.local.value b.nominations.entries c.put.new.self.entries c.args.envelope c.in_ok-counted.counted c.args.delivered.value counted c.put.result c.put.ensures.entered c.put.ensures.refused b.own_nomination; own_ballot = b.own_ballot }

pub returns-in_err-put-in-Nomination-clause-refused : goal.returns-in_err-put-in-Nomination-clause-refused
returns-in_err-put-in-Nomination-clause-refused c =
    let b = c.args.self.now in
    on_err c.from_residual-in_err-put-in-Nomination.result (by_kind _ (same_seen b.me b.local.value b.nominations.entries c.put.new.self.entries c.in_err-put-in-Nomination.ensures.refused) refl)

pub returns-in_ok-put-in-Nomination-clause-put : goal.returns-in_ok-put-in-Nomination-clause-put
returns-in_ok-put-in-Nomination-clause-put c =
    let b = c.args.self.now in
    let p = c.args.envelope.statement.pledges in
    let i = c.in-Nomination.is in
    let k : c.kind_of_pledges-kind.result ≡ Nomination = cc in
    let same : side c.of.result ≡ seen_in b.me b.local.value b.nominations.entries = c.of.ensures.same ∙ ap (λ (x : StatementKind). seen x b) k in
    let counted : IsCounted (seen_in b.me b.local.value b.nominations.entries) c.args.envelope.statement.node p c.args.delivered.value c.in_ok-counted.counted.value =
    subst (λ (s : Seen). IsCounted s c.args.envelope.statement.node p c.args.delivered.value c.in_ok-counted.counted.value) same (rw c.get-2.ensures at c.in_ok-counted.ensures.set)
    in
    let j = rw c.get.ensures at c.kind_of_pledges-kind.ensures in
    let at : Nomination ≡ kind_of_pledges p = sym k ∙ j in
    kind_puts (kind_of_pledges p) Nomination b _ c.args.envelope.statement.node p c.args.delivered.value at
    (put_counted b.me b.local.value b.nominations.entries c.put.new.self.entries c.args.envelope c.in_ok-counted.counted c.args.delivered.value counted c.in_ok-put-in-Nomination.ensures.entered)

pub invariant_of-self-in-Balloting : goal.invariant_of-self-in-Balloting
invariant_of-self-in-Balloting c =
    let b = c.args.self.now in
    let p = c.args.envelope.statement.pledges in
    let i = c.in-Balloting.is in
    let k : c.kind_of_pledges-kind.result ≡ Balloting = cc in
    let same : side c.of.result ≡ seen_in b.me b.local.value b.ballots.entries = c.of.ensures.same ∙ ap (λ (x : StatementKind). seen x b) k in
    let counted : IsCounted (seen_in b.me b.local.value b.ballots.entries) c.args.envelope.statement.node p c.args.delivered.value c.in_ok-counted.counted.value =
    subst (λ (s : Seen). IsCounted s c.args.envelope.statement.node p c.args.delivered.value c.in_ok-counted.counted.value) same (rw c.get-2.ensures at c.in_ok-counted.ensures.set)
    in
    record { own_nomination = b.own_nomination; own_ballot = own_set_put b.me b.local.value b.ballots.entries c.put-in-Balloting.new.self.entries c.args.envelope c.in_ok-counted.counted c.args.delivered.value counted c.put-in-Balloting.result c.put-in-Balloting.ensures.entered c.put-in-Balloting.ensures.refused b.own_ballot }

pub returns-in_err-put-in-Balloting-clause-refused : goal.returns-in_err-put-in-Balloting-clause-refused
returns-in_err-put-in-Balloting-clause-refused c =
    let b = c.args.self.now in
    on_err c.from_residual-in_err-put-in-Balloting.result (by_kind _ refl (same_seen b.me b.local.value b.ballots.entries c.put-in-Balloting.new.self.entries c.in_err-put-in-Balloting.ensures.refused))

pub returns-in_ok-put-in-Balloting-clause-put : goal.returns-in_ok-put-in-Balloting-clause-put
returns-in_ok-put-in-Balloting-clause-put c =
    let b = c.args.self.now in
    let p = c.args.envelope.statement.pledges in
    let i = c.in-Balloting.is in
    let k : c.kind_of_pledges-kind.result ≡ Balloting = cc in
    let same : side c.of.result ≡ seen_in b.me b.local.value b.ballots.entries = c.of.ensures.same ∙ ap (λ (x : StatementKind). seen x b) k in
    let counted : IsCounted (seen_in b.me b.local.value b.ballots.entries) c.args.envelope.statement.node p c.args.delivered.value c.in_ok-counted.counted.value =
    subst (λ (s : Seen). IsCounted s c.args.envelope.statement.node p c.args.delivered.value c.in_ok-counted.counted.value) same (rw c.get-2.ensures at c.in_ok-counted.ensures.set)
    in
    let j = rw c.get.ensures at c.kind_of_pledges-kind.ensures in
    let at : Balloting ≡ kind_of_pledges p = sym k ∙ j in
    kind_puts (kind_of_pledges p) Balloting b _ c.args.envelope.statement.node p c.args.delivered.value at
    (put_counted b.me b.local.value b.ballots.entries c.put-in-Balloting.new.self.entries c.args.envelope c.in_ok-counted.counted c.args.delivered.value counted c.in_ok-put-in-Balloting.ensures.entered)
