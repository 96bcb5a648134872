use Rattle.std.proofs.Common.{◌∙◌}
use Rattle.scp_live_head.specs.Head.{FirstView}
use Rattle.scp_live_head.proofs.Heads.{same_first}
use Rattle.scp_live_head.proofs.reading.first_in.Goals as goal

pub returns-in_err-words-clause-found : goal.returns-in_err-words-clause-found
returns-in_err-words-clause-found c f fits is = absurd (c.in_err-words.ensures f fits is)

pub returns-in_err-digest-clause-found : goal.returns-in_err-digest-clause-found
returns-in_err-digest-clause-found c f fits is = absurd (c.in_err-digest.ensures.found f.digest fits.digest (c.in_ok-words.ensures f fits is).digest)

pub returns-in_err-epoch-clause-found : goal.returns-in_err-epoch-clause-found
returns-in_err-epoch-clause-found c f fits is = absurd (c.in_err-epoch.ensures f.epoch fits.epoch (c.in_ok-words.ensures f fits is).epoch)

pub returns-in_err-first-clause-found : goal.returns-in_err-first-clause-found
returns-in_err-first-clause-found c f fits is = absurd (c.in_err-first.ensures f.first fits.first (c.in_ok-words.ensures f fits is).first)

pub returns-in_err-before-clause-found : goal.returns-in_err-before-clause-found
returns-in_err-before-clause-found c f fits is = absurd (c.in_err-before.ensures.found f.before fits.before (c.in_ok-words.ensures f fits is).before)

pub returns-clause-found : goal.returns-clause-found
returns-clause-found c f fits is =
    let words = c.in_ok-words.ensures f fits is in
    let read : FirstView = record { digest = c.in_ok-digest.digest.0; epoch = c.in_ok-epoch.epoch; first = c.in_ok-first.first; before = c.in_ok-before.before.0 } in
    c.new.ensures ∙ same_first read f (c.in_ok-digest.ensures.found f.digest fits.digest words.digest) (c.in_ok-epoch.ensures f.epoch fits.epoch words.epoch)
    (c.in_ok-first.ensures f.first fits.first words.first) (c.in_ok-before.ensures.found f.before fits.before words.before)
