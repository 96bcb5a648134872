use Rattle.std.proofs.Common.{◌∷◌, ◌++◌, ◌∙◌}
use Rattle.std.specs.Fmt.{decimal}
use Rattle.hex.specs.Hex.{encode_lower}
use Rattle.scp_live_head.proofs.Heads.{word_there, word_cut, slot_word, slot_front}
use Rattle.scp_live_head.proofs.applied.slot_at.Goals as goal

pub returns-in_err-word : goal.returns-in_err-word
returns-in_err-word c slot value rest small is =
    absurd (word_there (decimal slot) (encode_lower value ++ 10 ∷ rest) c.args.bytes.now (is ∙ slot_front slot value rest) c.in_err-word.ensures.none)

pub returns : goal.returns
returns c slot value rest small is =
    c.number_of.ensures slot small (word_cut (decimal slot) (encode_lower value ++ 10 ∷ rest) c.args.bytes.now c.in_ok-word.word.0.now c.in_ok-word.word.1.now (slot_word slot small) (is ∙ slot_front slot value rest) c.in_ok-word.ensures.some).0
