-- The words of a first line.
use Rattle.std.specs.Prelude.{◌≡◌}
use Rattle.std.specs.Fmt.{decimal}
use Rattle.hex.specs.Hex.{encode_lower}
use Rattle.scp_live_head.specs.declared.reading.Words.{Words}
use Rattle.scp_live_head.specs.Head.{FirstView}

-- They are those of the line that says this.
pub record AreWordsOf (f : FirstView) (words : Words) : Type 0 where
  pub digest : words.digest.now ≡ encode_lower f.digest
  pub epoch : words.epoch.now ≡ decimal f.epoch
  pub first : words.first.now ≡ decimal f.first
  pub before : words.before.now ≡ encode_lower f.before
