-- What bytes come to.
use Rattle.std.proofs.Common.{◌≡◌, ◌≢◌, ℕ, List, Some, subst, sym}
use Rattle.scp_script_text.specs.scp_types.specs.declared.fault.Fault.{Fault}
use Rattle.scp_script_text.specs.scp_types.specs.declared.fault.Fault.TheVariants.{NoMemory, Malformed, TooLong, Insane, Full, NotOpen, AlreadyOpen, LivesSpent, BadConfig, Failed, JournalFull, BadScript, Refused, Device}
use Rattle.scp_prompt.specs.declared.asked.Kind.{Kind}
use Rattle.scp_prompt.specs.declared.asked.Coding.{Coding}
use Rattle.scp_convert.specs.declared.refusal.Refusal.{Refusal}
use Rattle.scp_convert.specs.declared.refusal.Refusal.TheVariants as refusals
use Rattle.scp_convert.specs.declared.line.Outcome.{Outcome}
use Rattle.scp_convert.specs.declared.line.Outcome.TheVariants as outcomes
use Rattle.scp_convert.specs.Kinds.{IsShown, IsFaulty}
use Rattle.scp_convert.specs.Words.{bytes_of_word, IsDecodedAs}
use Rattle.scp_convert.specs.Refusals.{IsNotDecodedAs}
use Rattle.scp_convert.specs.inside.Made.{IsMade, IsRefusalOf, IsNotShown}

-- the refusal that reports a fault of bytes is theirs
pub not_shown : (kind : Kind) (bytes : List ℕ) (fault : Fault) (refusal : Refusal) → (fault ≢ NoMemory → IsFaulty kind bytes fault) → IsRefusalOf fault refusal → IsNotShown kind bytes refusal
not_shown kind bytes TooLong refusal h r = subst (λ (x : Refusal). IsNotShown kind bytes x) (sym r) (h (λ e. absurd cc))
not_shown kind bytes (Malformed place) refusal h r = subst (λ (x : Refusal). IsNotShown kind bytes x) (sym r) (h (λ e. absurd cc))
not_shown kind bytes NoMemory refusal h r = absurd r
not_shown kind bytes Insane refusal h r = absurd r
not_shown kind bytes Full refusal h r = absurd r
not_shown kind bytes NotOpen refusal h r = absurd r
not_shown kind bytes AlreadyOpen refusal h r = absurd r
not_shown kind bytes LivesSpent refusal h r = absurd r
not_shown kind bytes BadConfig refusal h r = absurd r
not_shown kind bytes Failed refusal h r = absurd r
not_shown kind bytes JournalFull refusal h r = absurd r
not_shown kind bytes (BadScript line) refusal h r = absurd r
not_shown kind bytes (Refused stage) refusal h r = absurd r
not_shown kind bytes Device refusal h r = absurd r

-- a word's bytes are refused, and so is the word
not_decoded : (kind : Kind) (coding : Coding) (word bytes : List ℕ) (refusal : Refusal) → bytes_of_word kind coding word ≡ Some bytes → IsNotShown kind bytes refusal → IsNotDecodedAs kind coding word refusal
not_decoded kind coding word bytes refusals.TooLong said h = (bytes, said, h)
not_decoded kind coding word bytes (refusals.Malformed place) said h = (bytes, said, h)
not_decoded kind coding word bytes (refusals.Word bad) said h = absurd h
not_decoded kind coding word bytes refusals.NoBytes said h = absurd h
not_decoded kind coding word bytes refusals.NoEnvelope said h = absurd h
not_decoded kind coding word bytes (refusals.Signed place) said h = absurd h

-- what a word's bytes come to is what the word comes to
pub of_word : (kind : Kind) (coding : Coding) (word bytes : List ℕ) (outcome : Outcome) → bytes_of_word kind coding word ≡ Some bytes
    → IsMade (IsShown kind bytes) (IsNotShown kind bytes) outcome → IsMade (IsDecodedAs kind coding word) (IsNotDecodedAs kind coding word) outcome
of_word kind coding word bytes (outcomes.Text text) said h = (bytes, said, h)
of_word kind coding word bytes (outcomes.Refused refusal) said h = not_decoded kind coding word bytes refusal said h
