-- Which word of a line is bad, and what was expected there (this project's profile).
use Rattle.std.specs.Prelude.{◌≡◌, ◌⊎◌, ◌<◌, ◌^◌, ◌+◌, ℕ, true, List, [], ◌∷◌, Option, Some, None, is_some}
use Rattle.std.specs.Fmt.{decimal}
use Rattle.scp_script.specs.Words.{hex_bytes}
use Rattle.scp_script.specs.Reasons.{parts_of, byte_fault}
use Rattle.scp_script.specs.scp_device.specs.declared.bad.Expected.{Expected}
use Rattle.scp_script.specs.scp_device.specs.declared.bad.Expected.TheVariants.{AHostVerb, APeer, ASlot, Digits, NoMore}
use Rattle.scp_script.specs.scp_device.specs.declared.bad.BadWord.{BadWord}
use Rattle.scp_live_lines.specs.declared.verb.Verb.{Verb}
use Rattle.scp_live_lines.specs.Says.{IsNamed}
use Rattle.scp_live_lines.specs.Verbs.{verb_in, form_of}

-- The word is the name of some link.
abbrev pub IsPeer : List (List ℕ) → List ℕ → Type 0
IsPeer names word = (link : ℕ) × IsNamed names link word

-- The word is the number of some slot, in decimal digits without sign or leading zero.
abbrev pub IsSlotWord : List ℕ → Type 0
IsSlotWord word = (slot : ℕ) × (slot < 2 ^ 64) × (word ≡ decimal slot)

-- The word is some bytes in hexadecimal digits, or a dash for no bytes.
abbrev pub IsDigits : List ℕ → Type 0
IsDigits word = is_some (hex_bytes word) ≡ true

-- The word is what was expected.
abbrev pub Fits : List (List ℕ) → Expected → List ℕ → Type 0
Fits names AHostVerb word = is_some (verb_in word) ≡ true
Fits names APeer word = IsPeer names word
Fits names ASlot word = IsSlotWord word
Fits names Digits word = IsDigits word
Fits names expected word = ⊥

-- The refusal of the word with this number.
abbrev pub at_word : ℕ → Expected → BadWord
at_word word expected = record { word = word; expected = expected }

-- The first of these words that isn't what was expected, is missing or is one too many. Words are numbered from `place` on.
abbrev pub IsWrongBehind : List (List ℕ) → List Expected → List (List ℕ) → ℕ → BadWord → Type 0
IsWrongBehind names [] [] place refusal = ⊥
IsWrongBehind names [] (word ∷ words) place refusal = refusal ≡ at_word place NoMore
IsWrongBehind names (expected ∷ form) [] place refusal = refusal ≡ at_word place expected
IsWrongBehind names (expected ∷ form) (word ∷ words) place refusal =
    ((¬ (Fits names expected word)) × (refusal ≡ at_word place expected)) ⊎ (Fits names expected word × IsWrongBehind names form words (place + 1) refusal)

-- The first bad word of a line whose first word means this verb. If the first word means none, it is itself the bad word.
abbrev pub IsWrongBy : List (List ℕ) → Option Verb → List (List ℕ) → BadWord → Type 0
IsWrongBy names None words refusal = refusal ≡ at_word 1 AHostVerb
IsWrongBy names (Some verb) words refusal = IsWrongBehind names (form_of verb) words 2 refusal

-- The first word for which the words of a line aren't a line of a host.
abbrev pub IsWrongIn : List (List ℕ) → List (List ℕ) → BadWord → Type 0
IsWrongIn names [] refusal = refusal ≡ at_word 1 AHostVerb
IsWrongIn names (word ∷ words) refusal = IsWrongBy names (verb_in word) words refusal

-- The refusal for the line's bytes, if there is one. Otherwise the refusal for its words.
abbrev pub IsBadBy : Option BadWord → List (List ℕ) → List ℕ → BadWord → Type 0
IsBadBy (Some bytes) names line refusal = refusal ≡ bytes
IsBadBy None names line refusal = IsWrongIn names (parts_of line) refusal

-- The first bad word of a line. It is the first word with bytes that no line may have, as in scripts. If there is none, it is the first
-- word for which the line isn't a line of a host.
abbrev pub IsFirstBad : List (List ℕ) → List ℕ → BadWord → Type 0
IsFirstBad names line refusal = IsBadBy (byte_fault line) names line refusal
