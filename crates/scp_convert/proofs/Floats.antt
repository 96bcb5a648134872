-- The text of a line's object: no part of it is a float.
use Rattle.std.proofs.Common.{◌≡◌, false, ℕ, List, refl, ◌∙◌, ap}
use Rattle.serde_json.specs.Data.{Data}
use Rattle.serde_json.specs.Written.{has_float, compact_text}
use Rattle.scp_prompt.specs.declared.asked.Kind.{Kind}
use Rattle.scp_prompt.specs.declared.asked.Way.{Way}
use Rattle.scp_prompt.specs.declared.asked.Way.TheVariants.{Decode, Encode}
use Rattle.scp_convert.specs.Words.{made_json}

no_float : (way : Way) (kind : Kind) (line : ℕ) (made : List ℕ) → has_float (made_json way kind line made) ≡ false
no_float Decode kind line made = refl
no_float Encode kind line made = refl

pub text_is : (way : Way) (kind : Kind) (line : ℕ) (made : List ℕ) (d : Data) (bytes : List ℕ) → d ≡ made_json way kind line made → (has_float d ≡ false → bytes ≡ compact_text d) → bytes ≡ compact_text (made_json way kind line made)
text_is way kind line made d bytes h told = told (ap has_float h ∙ no_float way kind line made) ∙ ap compact_text h
