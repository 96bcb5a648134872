use Rattle.std.proofs.Common.{ℕ, List, subst, rules}
use Rattle.scp_vote.specs.declared.claim.Claim.TheVariants.{Nominated}
use Rattle.scp_vote.specs.Board.{Accepted}
use Rattle.scp_nominate.specs.Heard.{heard}
use Rattle.scp_nominate.specs.inside.Values.{Adds}
use Rattle.scp_nominate.specs.inside.Steps.{HasRoom}
use Rattle.scp_nominate.proofs.Growing.{accepts_one}
use Rattle.scp_nominate.specs.Values.{Has}
use Rattle.scp_nominate.proofs.Turns.{takes_new}
use Rattle.scp_nominate.proofs.lists.accept_one.Goals as goal

pub returns-clause-accepts : goal.returns-clause-accepts
returns-clause-accepts c =
    let x = c.args.lists.now in
    let v = c.args.value.now in
    let room : HasRoom x.votes v = c.has_room.ensures.0 (search rules) in
    let acc : Accepted (heard c.args.board.now) (Nominated v) = c.in_ok-is_accepted.ensures.exact.0 (search rules) in
    let adds : Adds x.accepted c.insert.new.self v = subst (λ (w : List ℕ). Adds x.accepted c.insert.new.self w) c.in_ok-copy.ensures.same c.in_ok-insert.ensures.added in
    (accepts_one (heard c.args.board.now) x (record { votes = c.vote.new.votes; accepted = c.insert.new.self; candidates = x.candidates }) v acc c.in_ok-vote.ensures.more (c.in_ok-vote.ensures.room room) c.in_ok-vote.ensures.only adds (λ _. x.candidates)).0

pub returns-clause-taken : goal.returns-clause-taken
returns-clause-taken c acc =
    let x = c.args.lists.now in
    let v = c.args.value.now in
    let room : HasRoom x.votes v = c.has_room.ensures.0 (search rules) in
    let adds : Adds x.accepted c.insert.new.self v = subst (λ (w : List ℕ). Adds x.accepted c.insert.new.self w) c.in_ok-copy.ensures.same c.in_ok-insert.ensures.added in
    (accepts_one (heard c.args.board.now) x (record { votes = c.vote.new.votes; accepted = c.insert.new.self; candidates = x.candidates }) v acc c.in_ok-vote.ensures.more (c.in_ok-vote.ensures.room room) c.in_ok-vote.ensures.only adds (λ _. x.candidates)).1

pub returns-clause-exact : goal.returns-clause-exact
returns-clause-exact c =
    let x = c.args.lists.now in
    let v = c.args.value.now in
    let fresh : Has x.accepted v → ⊥ = λ had. (search rules) in
    let room : HasRoom x.votes v = c.has_room.ensures.0 (search rules) in
    let acc : Accepted (heard c.args.board.now) (Nominated v) = c.in_ok-is_accepted.ensures.exact.0 (search rules) in
    let adds : Adds x.accepted c.insert.new.self v = subst (λ (w : List ℕ). Adds x.accepted c.insert.new.self w) c.in_ok-copy.ensures.same c.in_ok-insert.ensures.added in
    takes_new (heard c.args.board.now) x c.vote.new.votes c.insert.new.self v fresh room acc c.in_ok-vote.ensures.exact adds
