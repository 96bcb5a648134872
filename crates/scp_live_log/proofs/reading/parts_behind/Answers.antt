use Rattle.std.proofs.Common.{ℕ, List, ◌∷◌, length, take, drop, refl, ◌∙◌, ap, arith}
use Rattle.hex.specs.Hex.{encode_lower}
use Rattle.scp_live_log.specs.Log.{chained}
use Rattle.scp_live_log.proofs.Entries.{entry_parts, long_enough, length-digits, sent_at, mark_told}
use Rattle.scp_live_log.proofs.reading.parts_behind.Goals as goal

pub returns-in_err-digits-clause-found : goal.returns-in_err-digits-clause-found
returns-in_err-digits-clause-found c before begins e tail ie is =
    let parts = entry_parts (c.args.mark ∷ c.args.rest.now) c.args.rest.now c.args.mark c.in_ok-end.end before begins e tail refl c.in_ok-end.ensures.found ie is in
    let long = long_enough (encode_lower e.sent) (encode_lower (chained before e)) tail (length-digits e.sent ie.sent.size) in
    absurd (omega (arith, c.in_err-digits.ensures.none, ap length (c.split_at.ensures.back ∙ parts.2), long))

pub returns-in_err-sent-clause-found : goal.returns-in_err-sent-clause-found
returns-in_err-sent-clause-found c before begins e tail ie is =
    let parts = entry_parts (c.args.mark ∷ c.args.rest.now) c.args.rest.now c.args.mark c.in_ok-end.end before begins e tail refl c.in_ok-end.ensures.found ie is in
    let there = c.in_ok-digits.ensures.some ∙ ap (λ (l : List ℕ). take 64 (drop 3 l)) (c.split_at.ensures.back ∙ parts.2) ∙ sent_at (encode_lower e.sent) (encode_lower (chained before e)) tail (length-digits e.sent ie.sent.size) in
    absurd (c.in_err-sent.ensures.found e.sent ie.sent there)

pub returns-clause-found : goal.returns-clause-found
returns-clause-found c before begins e tail ie is =
    let parts = entry_parts (c.args.mark ∷ c.args.rest.now) c.args.rest.now c.args.mark c.in_ok-end.end before begins e tail refl c.in_ok-end.ensures.found ie is in
    let there = c.in_ok-digits.ensures.some ∙ ap (λ (l : List ℕ). take 64 (drop 3 l)) (c.split_at.ensures.back ∙ parts.2) ∙ sent_at (encode_lower e.sent) (encode_lower (chained before e)) tail (length-digits e.sent ie.sent.size) in
    (mark_told c.args.mark begins parts.0, c.split_at.ensures.front ∙ parts.1, c.in_ok-sent.ensures.found e.sent ie.sent there)
