use Rattle.std.proofs.Common.{◌≡◌, ◌⊎◌, sym, ap, subst, map, take, List, ℕ, Bor}
use Rattle.std.specs.Prelude.{string_bytes}
use Rattle.scp_script.specs.Reasons.{parts_of}
use Rattle.scp_live_lines.proofs.Saying.{either_says, either_part}
use Rattle.scp_live_lines.proofs.Wrong.{either_wrong}
use Rattle.scp_live_lines.proofs.reading.read_text.Goals as goal

pub returns-clause-read : goal.returns-clause-read
returns-clause-read c =
    let words : List (List ℕ) = map (λ (word : Bor (List ℕ)). word.now) c.as_slice.result.now in
    let parts : List (List ℕ) = parts_of c.args.text.now in
    let told : (words ≡ parts) ⊎ (words ≡ take 4 parts) = subst (λ (ws : List (List ℕ)). (ws ≡ parts) ⊎ (ws ≡ take 4 parts)) (sym (ap (map (λ (word : Bor (List ℕ)). word.now)) c.as_slice.ensures.value)) c.first_words-words.ensures in
    either_says (map string_bytes c.args.names.now) words parts c.read_words.result told c.read_words.ensures.read

pub returns-clause-bad : goal.returns-clause-bad
returns-clause-bad c =
    let words : List (List ℕ) = map (λ (word : Bor (List ℕ)). word.now) c.as_slice.result.now in
    let parts : List (List ℕ) = parts_of c.args.text.now in
    let told : (words ≡ parts) ⊎ (words ≡ take 4 parts) = subst (λ (ws : List (List ℕ)). (ws ≡ parts) ⊎ (ws ≡ take 4 parts)) (sym (ap (map (λ (word : Bor (List ℕ)). word.now)) c.as_slice.ensures.value)) c.first_words-words.ensures in
    either_wrong (map string_bytes c.args.names.now) words parts c.read_words.result told c.read_words.ensures.bad

pub returns-clause-memory : goal.returns-clause-memory
returns-clause-memory c = λ none asked says.
    let words : List (List ℕ) = map (λ (word : Bor (List ℕ)). word.now) c.as_slice.result.now in
    let parts : List (List ℕ) = parts_of c.args.text.now in
    let told : (words ≡ parts) ⊎ (words ≡ take 4 parts) = subst (λ (ws : List (List ℕ)). (ws ≡ parts) ⊎ (ws ≡ take 4 parts)) (sym (ap (map (λ (word : Bor (List ℕ)). word.now)) c.as_slice.ensures.value)) c.first_words-words.ensures in
    c.read_words.ensures.memory none asked (either_part (map string_bytes c.args.names.now) words parts asked told says)
