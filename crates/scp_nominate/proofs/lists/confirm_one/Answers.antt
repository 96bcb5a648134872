use Rattle.std.proofs.Common.{ℕ, List, subst, rules}
use Rattle.scp_vote.specs.declared.claim.Claim.TheVariants.{Nominated}
use Rattle.scp_vote.specs.Board.{Confirmed}
use Rattle.scp_nominate.specs.Heard.{heard}
use Rattle.scp_nominate.specs.inside.Values.{Adds}
use Rattle.scp_nominate.proofs.Growing.{confirms_one, added_has}
use Rattle.scp_nominate.proofs.lists.confirm_one.Goals as goal

pub returns-clause-confirms : goal.returns-clause-confirms
returns-clause-confirms c =
    let x = c.args.candidates.now in
    let v = c.args.value.now in
    let con : Confirmed (heard c.args.board.now) (Nominated v) = c.in_ok-is_confirmed.ensures.exact.0 (search rules) in
    let adds : Adds x c.insert.new.self v = subst (λ (w : List ℕ). Adds x c.insert.new.self w) c.in_ok-copy.ensures.same c.in_ok-insert.ensures.added in
    (confirms_one (heard c.args.board.now) x c.insert.new.self v con adds).0

pub returns-clause-done : goal.returns-clause-done
returns-clause-done c con =
    let x = c.args.candidates.now in
    let v = c.args.value.now in
    let adds : Adds x c.insert.new.self v = subst (λ (w : List ℕ). Adds x c.insert.new.self w) c.in_ok-copy.ensures.same c.in_ok-insert.ensures.added in
    added_has x c.insert.new.self v adds
