use Rattle.std.proofs.Common.{◌≡◌, sym, ◌∙◌}
use Rattle.scp_again.proofs.Current.{true_false}
use Rattle.scp_epoch.proofs.Beginning.{nothing_applied_yet}
use Rattle.scp_epoch.proofs.epoch.next.Goals as goal

pub begin_with-requires : goal.begin_with-requires
begin_with-requires g c = record { next = c.in_ok-before.ensures.exact; runs = sym c.has_failed.ensures ∙ c.if-has_failed.false }

pub stands_like-requires : goal.stands_like-requires
stands_like-requires g c = record { runs = sym c.has_failed.ensures ∙ c.if-has_failed.false; runs_too = c.in_ok-new.ensures.begins.1.runs_too; next = c.in_ok-before.ensures.exact }

pub returns-then-not-stands_like-clause-differs : goal.returns-then-not-stands_like-clause-differs
returns-then-not-stands_like-clause-differs g c = λ e. record {
  new = c.in_ok-new.new;
  heard = c.in_ok-new.ensures.begins.0;
  begins = c.in_ok-new.ensures.begins.1;
  differs = λ s. true_false c.stands_like.result (c.stands_like.ensures.1 s) c.if-not-stands_like.true;
}

pub returns-clause-takes_up : goal.returns-clause-takes_up
returns-clause-takes_up g c =
    let b = c.in_ok-new.ensures.begins in
    let v = c.in_ok-new.new in
    let like = c.stands_like.ensures.0 c.if-not-stands_like.false in (
      b.0,
      record {
        begins = b.1;
        like = like;
        nothing_yet = nothing_applied_yet g.A.Driver.says v.applier.first v.applier.base (c.each_node_holds_its_ledger.ensures.from v.applier.first v.applier.base) b.0 v b.1.theorem b.1.runs_too (like.same.lowest_too ∙ sym b.1.first);
      },
    )
