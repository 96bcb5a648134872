use Rattle.std.proofs.Common.{◌∙◌, None, map, sym, subst}
use Rattle.std.proofs.lemmas.List.Elements.{All-filter}
use Rattle.std.specs.Prelude.{filter, option_map}
use Rattle.serde_json.specs.View.{view}
use Rattle.scp_line.specs.scp_ledger.specs.Journal.{fresh_heard}
use Rattle.scp_account.specs.Fits.{FitsEntry}
use Rattle.scp_account.specs.inside.Spoken.{is_its, FitsIf}
use Rattle.scp_account.proofs.Grounds.{on_ok, fits_last, member_added}
use Rattle.scp_account.proofs.decisions.add_member.Goals as goal

pub returns-clause-added : goal.returns-clause-added
returns-clause-added c =
    on_ok c.add_ground.result
    (λ added. member_added c.args.me.now c.args.member.now (map (λ fate. fate.now) c.args.entries.now) (option_map (λ fate. fate.now) c.last_of.result) (map view c.add_ground.new.values.items) (map view c.args.values.now.items) (sym c.eq.ensures ∙ c.if-eq.false) c.last_of.ensures added)
    c.add_ground.ensures.added

pub returns-clause-only_memory : goal.returns-clause-only_memory
returns-clause-only_memory c = λ all.
    c.add_ground.ensures.only_memory
    (subst FitsIf (sym c.last_of.ensures)
    (fits_last (filter (λ fate. is_its c.args.member.now (fresh_heard fate)) (map (λ fate. fate.now) c.args.entries.now)) None (All-filter (λ fate. is_its c.args.member.now (fresh_heard fate)) FitsEntry (map (λ fate. fate.now) c.args.entries.now) all) _))
