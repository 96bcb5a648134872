-- The lines of messages for a peer (this project's profile).
use Rattle.std.specs.Prelude.{ℕ, List, ◌++◌, codes}
use Rattle.scp_words.specs.Words.{hex_word}

-- A line of a word, a peer's name, and bytes in hexadecimal digits.
abbrev pub worded : List ℕ → List ℕ → List ℕ → List ℕ
worded word name bytes = word ++ codes " " ++ name ++ codes " " ++ hex_word bytes ++ codes "\n"

-- The line of a message that is sent to the peer with this name.
abbrev pub send_line : List ℕ → List ℕ → List ℕ
send_line name bytes = worded (codes "send") name bytes

-- The line of a message that may already have been sent to this peer.
abbrev pub again_line : List ℕ → List ℕ → List ℕ
again_line name bytes = worded (codes "again") name bytes
