use Rattle.std.proofs.Common.{◌≡◌, ◌++◌, ◌∙◌, ap, string_bytes}
use Rattle.std.proofs.lemmas.Result.{on_ok_weaker}
use Rattle.scp_live_lines.specs.Replies.{refused_line}
use Rattle.scp_live.proofs.Refusals.{refusal_of}
use Rattle.scp_live.proofs.telling.tell_outcome.Goals as goal

pub returns-in_default : goal.returns-in_default
returns-in_default c =
    let text = string_bytes c.args.text.now in
    on_ok_weaker c.write_refused.result (λ (is : string_bytes c.write_refused.new.text ≡ text ++ refused_line c.args.reply.now). is ∙ ap (λ l. text ++ l) (refusal_of c.args.reply.now c.args.fate c.in_default.not-Accepted)) c.write_refused.ensures
