use Rattle.std.proofs.Common.{◌++◌, codes, string_bytes, sym, ◌∙◌, ap}
use Rattle.std.specs.Fmt.{decimal}
use Rattle.std.specs.Str.{bytes_eq}
use Rattle.std.proofs.lemmas.Result.{on_ok_weaker}
use Rattle.scp_quorum_files.proofs.Once.{count_map}
use Rattle.scp_quorum_files.proofs.Lines.{left_of_five}
use Rattle.scp_quorum_files.proofs.report.write_stray.Goals as goal

pub returns : goal.returns
returns c =
    let key = c.args.key.now in
    on_ok_weaker c.write.result
    (λ e. e ∙ ap (λ t. string_bytes c.args.out.now ++ t) (left_of_five (codes "unknown key ") key (codes ", ") (decimal c.times-count.result) (codes " times\n")) ∙ ap (λ n. string_bytes c.args.out.now ++ (codes "unknown key " ++ key ++ codes ", " ++ decimal n ++ codes " times\n")) (c.times-count.ensures ∙ sym (count_map (bytes_eq key) string_bytes c.args.strays.now)))
    c.write.ensures.bytes
