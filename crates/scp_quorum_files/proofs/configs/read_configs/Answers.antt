use Rattle.std.proofs.Common.{◌<◌, length, arith}
use Rattle.std.proofs.lemmas.Result.{err_from_is_err_and}
use Rattle.scp_quorum_files.proofs.Gathered.{configs_none, configs_step, refused_by, now_at}
use Rattle.scp_quorum_files.proofs.configs.read_configs.Goals as goal

pub loop-place-init : goal.loop-place-init
loop-place-init c = configs_none _ c.new.ensures.items c.new-2.ensures.items c.new-3.ensures.items c.new-4.ensures.items

pub loop-place-preserved : goal.loop-place-preserved
loop-place-preserved c =
    let within : c.loop-place.place < length c.args.texts.now = omega arith in
    configs_step c.args.texts.now c.loop-place.place _ within c.loop-place.network c.loop-place.invariant c.in-Ok.settings c.in-Ok.ensures.read c.add_settings.new.network c.in_ok-add_settings-in-Ok.ensures.added

pub returns-in_err-add_settings-in-Ok-clause-refused : goal.returns-in_err-add_settings-in-Ok-clause-refused
returns-in_err-add_settings-in-Ok-clause-refused c =
    let within : c.loop-place.place < length c.args.texts.now = omega arith in
    let p = err_from_is_err_and c.from_residual.result c.from_residual.ensures.1 in
    rw (p.1, p.2)
    (refused_by c.args.texts.now c.loop-place.place _ within c.loop-place.network c.loop-place.invariant c.in-Ok.settings c.in-Ok.ensures.read c.in_err-add_settings-in-Ok.field-0.0 c.in_err-add_settings-in-Ok.ensures.refused)

pub returns-in-Err-clause-refused : goal.returns-in-Err-clause-refused
returns-in-Err-clause-refused c =
    let within : c.loop-place.place < length c.args.texts.now = omega arith in
    (_, now_at c.args.texts.now c.loop-place.place _ within, c.in-Err.ensures.refused)
