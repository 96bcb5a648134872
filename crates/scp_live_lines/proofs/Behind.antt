-- The words of a line by the first and those behind it.
use Rattle.std.proofs.Common.{◌≡◌, ◌≤◌, ◌-◌, ℕ, true, List, [], ◌∷◌, length, take, drop, map, get_or, Option, Some, sym, ◌∙◌, ap, subst, arith, Bor}
use Rattle.std.specs.Prelude.{Result, IfOk}
use Rattle.std.proofs.lemmas.List.{take_all}
use Rattle.scp_live_lines.specs.declared.asked.Asked.{Asked}
use Rattle.scp_script.specs.scp_device.specs.declared.bad.WordFault.{WordFault}
use Rattle.scp_live_lines.specs.declared.verb.Verb.{Verb}
use Rattle.scp_live_lines.specs.Verbs.{verb_in, form_of}
use Rattle.scp_live_lines.specs.Says.{SaysInWords, has_bytes}
use Rattle.scp_live_lines.specs.Bad.{IsWrongBehind, IsWrongBy, IsWrongIn}
use Rattle.scp_live_lines.specs.Results.{IfBad}
use Rattle.scp_live_lines.specs.inside.Forms.{word_of, takes_bytes}
use Rattle.scp_live_lines.proofs.FirstWord.{verb_is}
use Rattle.scp_live_lines.proofs.Saying.{has_them}

-- the words, and those behind the first
abbrev pub texts : List (Bor (List ℕ)) → List (List ℕ)
texts words = map (λ word. word.now) words

abbrev pub behind : List (Bor (List ℕ)) → List (Bor (List ℕ))
behind words = take (length words - 1) (drop 1 words)

parted : (words : List (Bor (List ℕ))) (d : Bor (List ℕ)) → 1 ≤ length words → texts words ≡ (get_or words 0 d).now ∷ texts (behind words)
parted [] d some = absurd (omega arith)
parted (w ∷ ws) d some =
    let rest : take (length (w ∷ ws) - 1) ws ≡ ws = take_all (length (w ∷ ws) - 1) ws (omega arith) in
    ap (λ (l : List (Bor (List ℕ))). w.now ∷ texts l) (sym rest)

module _ (names : List (List ℕ)) (words : List (Bor (List ℕ))) (d : Bor (List ℕ)) (verb : Verb) (some : 1 ≤ length words) (first : verb_in (get_or words 0 d).now ≡ Some verb) where
  whole : word_of verb ∷ texts (behind words) ≡ texts words
  whole = ap (λ (w : List ℕ). w ∷ texts (behind words)) (sym (verb_is (get_or words 0 d).now verb first)) ∙ sym (parted words d some)

  pub says_first : {E : Type 0} (r : Result Asked E) → IfOk r (SaysInWords names (word_of verb ∷ texts (behind words))) → IfOk r (SaysInWords names (texts words))
  says_first r h = subst (λ (ws : List (List ℕ)). IfOk r (SaysInWords names ws)) whole h

  pub wrong_first : {A : Type 0} (r : Result A WordFault) → IfBad r (IsWrongBehind names (form_of verb) (texts (behind words)) 2) → IfBad r (IsWrongIn names (texts words))
  wrong_first r h =
      subst (λ (ws : List (List ℕ)). IfBad r (IsWrongIn names ws)) (sym (parted words d some))
      (subst (λ (v : Option Verb). IfBad r (IsWrongBy names v (texts (behind words)))) (sym first) h)

  pub bytes_first : takes_bytes verb ≡ true → (a : Asked) → SaysInWords names (texts words) a → has_bytes a ≡ true
  bytes_first takes a says = has_them names (get_or words 0 d).now (texts (behind words)) verb (sym first) takes a (subst (λ (ws : List (List ℕ)). SaysInWords names ws a) (parted words d some) says)
