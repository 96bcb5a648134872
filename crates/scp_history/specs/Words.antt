-- The words of a report's lines.
use Rattle.std.specs.Prelude.{ℕ, Bool, true, false, ◌&&◌, ◌==◌, List, [], ◌++◌, codes, take, slice_index, if◌then◌else◌}
use Rattle.std.specs.List.{list_all}
use Rattle.std.specs.Fmt.{decimal}
use Rattle.hex.specs.Hex.{encode_lower}
use Rattle.sha2.specs.Sha256.{sha256}
use Rattle.scp_strkey.specs.scp_types.specs.declared.names.NodeId.{NodeId}
use Rattle.scp_strkey.specs.Address.{address}
use Rattle.scp_audit.specs.scp_archive.specs.declared.entries.Unread.{Unread}
use Rattle.scp_audit.specs.scp_archive.specs.declared.entries.Unread.TheVariants.{Fragment, TooLong, Malformed}
use Rattle.scp_audit.specs.scp_judged.specs.declared.verdict.Verdict.{Verdict}
use Rattle.scp_audit.specs.scp_judged.specs.declared.verdict.Verdict.TheVariants.{Counts, OtherSlot, Insane, MissingSet, BadSet, NotNewer}
use Rattle.scp_history.specs.declared.line.StatementWord.{StatementWord}
use Rattle.scp_history.specs.declared.line.StatementWord.TheVariants.{Externalize, Confirm, Prepare}

-- a value: the first 16 digits of its SHA-256
abbrev pub value_digits : List ℕ → List ℕ
value_digits value = encode_lower (take 8 (sha256 value))

-- the id is a number below 256: its first 31 bytes are 0
abbrev pub is_number : List ℕ → Bool
is_number id = list_all (λ byte. byte == 0) (take 31 id)

-- a node: its address or, where numbers are asked for and its id is one, that
abbrev pub node_text : Bool → NodeId → List ℕ
node_text by_number node = if by_number && is_number node.0 then decimal (slice_index node.0 31) else address node.0

-- a node after a space
abbrev pub behind_space : Bool → NodeId → List ℕ
behind_space by_number node = codes " " ++ node_text by_number node

-- why a record isn't read
abbrev pub unread_word : Unread → List ℕ
unread_word Fragment = codes "fragment"
unread_word TooLong = codes "too-long"
unread_word (Malformed place) = codes "malformed at " ++ decimal place

-- the word of a verdict
abbrev pub verdict_word : Verdict → List ℕ
verdict_word Counts = codes "counts"
verdict_word OtherSlot = codes "other-slot"
verdict_word Insane = codes "insane"
verdict_word MissingSet = codes "missing-set"
verdict_word BadSet = codes "bad-set"
verdict_word NotNewer = codes "not-newer"

-- the hash of the quorum set that a message names is shown: that is missing, or it isn't sane
abbrev pub shows_hash : Verdict → Bool
shows_hash Counts = false
shows_hash OtherSlot = false
shows_hash Insane = false
shows_hash MissingSet = true
shows_hash BadSet = true
shows_hash NotNewer = false

-- a verdict on a message that names the set with this hash
abbrev pub verdict_words : Verdict → List ℕ → List ℕ
verdict_words verdict hash = verdict_word verdict ++ (if shows_hash verdict then codes " " ++ encode_lower hash else [])

-- the word of a ballot statement
abbrev pub statement_word : StatementWord → List ℕ
statement_word Externalize = codes "externalize"
statement_word Confirm = codes "confirm"
statement_word Prepare = codes "prepare"

-- a value after a space
abbrev pub spaced_value : List ℕ → List ℕ
spaced_value value = codes " " ++ value_digits value

-- a statement's word after a space
abbrev pub spaced_statement : StatementWord → List ℕ
spaced_statement statement = codes " " ++ statement_word statement

-- a verdict after a space
abbrev pub spaced_verdict : Verdict → List ℕ → List ℕ
spaced_verdict verdict hash = codes " " ++ verdict_words verdict hash
