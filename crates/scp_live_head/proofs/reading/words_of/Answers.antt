use Rattle.std.specs.Fmt.{decimal}
use Rattle.hex.specs.Hex.{encode_lower}
use Rattle.scp_live_head.proofs.Heads.{behind_name, behind_digest, behind_epoch, name_cut, word_cut, word_there, digest_word, epoch_word, first_word}
use Rattle.scp_live_head.proofs.reading.words_of.Goals as goal

pub returns-in_err-rest : goal.returns-in_err-rest
returns-in_err-rest c f fits is = absurd (c.in_err-rest.ensures.none (behind_name f) is)

pub returns-in_err-digest : goal.returns-in_err-digest
returns-in_err-digest c f fits is =
    let rest = name_cut f c.args.line.now c.in_ok-rest.rest.now is c.in_ok-rest.ensures.some in
    absurd (word_there (encode_lower f.digest) (behind_digest f) c.in_ok-rest.rest.now rest c.in_err-digest.ensures.none)

pub returns-in_err-epoch : goal.returns-in_err-epoch
returns-in_err-epoch c f fits is =
    let rest = name_cut f c.args.line.now c.in_ok-rest.rest.now is c.in_ok-rest.ensures.some in
    let digest = word_cut (encode_lower f.digest) (behind_digest f) c.in_ok-rest.rest.now c.in_ok-digest.digest.0.now c.in_ok-digest.digest.1.now (digest_word f fits) rest c.in_ok-digest.ensures.some in
    absurd (word_there (decimal f.epoch) (behind_epoch f) c.in_ok-digest.digest.1.now digest.1 c.in_err-epoch.ensures.none)

pub returns-in_err-first : goal.returns-in_err-first
returns-in_err-first c f fits is =
    let rest = name_cut f c.args.line.now c.in_ok-rest.rest.now is c.in_ok-rest.ensures.some in
    let digest = word_cut (encode_lower f.digest) (behind_digest f) c.in_ok-rest.rest.now c.in_ok-digest.digest.0.now c.in_ok-digest.digest.1.now (digest_word f fits) rest c.in_ok-digest.ensures.some in
    let epoch = word_cut (decimal f.epoch) (behind_epoch f) c.in_ok-digest.digest.1.now c.in_ok-epoch.epoch.0.now c.in_ok-epoch.epoch.1.now (epoch_word f fits) digest.1 c.in_ok-epoch.ensures.some in
    absurd (word_there (decimal f.first) (encode_lower f.before) c.in_ok-epoch.epoch.1.now epoch.1 c.in_err-first.ensures.none)

pub returns : goal.returns
returns c f fits is =
    let rest = name_cut f c.args.line.now c.in_ok-rest.rest.now is c.in_ok-rest.ensures.some in
    let digest = word_cut (encode_lower f.digest) (behind_digest f) c.in_ok-rest.rest.now c.in_ok-digest.digest.0.now c.in_ok-digest.digest.1.now (digest_word f fits) rest c.in_ok-digest.ensures.some in
    let epoch = word_cut (decimal f.epoch) (behind_epoch f) c.in_ok-digest.digest.1.now c.in_ok-epoch.epoch.0.now c.in_ok-epoch.epoch.1.now (epoch_word f fits) digest.1 c.in_ok-epoch.ensures.some in
    let first = word_cut (decimal f.first) (encode_lower f.before) c.in_ok-epoch.epoch.1.now c.in_ok-first.first.0.now c.in_ok-first.first.1.now (first_word f fits) epoch.1 c.in_ok-first.ensures.some in
    record { digest = digest.0; epoch = epoch.0; first = first.0; before = first.1 }
