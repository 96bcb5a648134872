use Rattle.std.proofs.Common.{ℕ, ◌++◌, map, subst}
use Rattle.std.proofs.lemmas.Result.{err_from_is_err_and}
use Rattle.scp_turn.specs.Turn.{links_of}
use Rattle.scp_epoch.specs.Played.{event_of, openings, closings, carrying}
use Rattle.scp_epoch.specs.inside.Playing.{Plays}
use Rattle.scp_epoch.proofs.Playing.{done, plays_then, plays_stop, plays_ends}
use Rattle.scp_epoch.proofs.carrying.carry.Goals as goal

pub returns-in_err-open_all-clause-played : goal.returns-in_err-open_all-clause-played
returns-in_err-open_all-clause-played g c =
    let p = err_from_is_err_and c.from_residual.result c.from_residual.ensures.1 in
    let n = c.count_links-links.result in
    rw (p.1, p.2) (plays_ends g.A.Driver.says c.in_err-open_all.field-0.0 (openings n) (carrying (links_of c.args.node.now) c.args.carried.items) c.args.node.now c.open_all.new.node c.in_err-open_all.ensures.played)

pub returns-in_err-give_all-clause-played : goal.returns-in_err-give_all-clause-played
returns-in_err-give_all-clause-played g c =
    let p = err_from_is_err_and c.from_residual-in_err-give_all.result c.from_residual-in_err-give_all.ensures.1 in
    let n = c.count_links-links.result in
    rw (p.1, p.2) (plays_stop g.A.Driver.says c.in_err-give_all.field-0.0 (openings n) (map event_of c.args.carried.items) (carrying (links_of c.args.node.now) c.args.carried.items) c.args.node.now c.open_all.new.node c.give_all.new.node c.in_ok-open_all.ensures.played c.in_err-give_all.ensures.played)

pub returns-clause-played : goal.returns-clause-played
returns-clause-played g c =
    let says = g.A.Driver.says in
    let n = c.count_links-links.result in
    let inputs = c.args.carried.items in
    let a = c.args.node.now in
    let m = c.open_all.new.node in
    let b = c.give_all.new.node in
    let z = c.close_all.new.node in
    subst (λ (k : ℕ). Plays says (carrying k inputs) c.close_all.result a z) c.count_links-links.ensures
    (plays_then says c.close_all.result (openings n) (map event_of inputs ++ closings n) a m z c.in_ok-open_all.ensures.played
    (plays_then says c.close_all.result (map event_of inputs) (closings n) m b z c.in_ok-give_all.ensures.played c.close_all.ensures.played))
