-- A script that is being written, line by line.
use Rattle.std.proofs.Common.{◌≡◌, ℕ, zero, suc, ◌+◌, ◌<◌, ◌≤◌, Bool, true, false, List, [], ◌∷◌, ◌++◌, Bor, length, map, take, drop, get_or, refl, sym, ◌∙◌, ap, subst, arith, append_assoc, append-nil}
use Rattle.std.specs.Prelude.{if◌then◌else◌}
use Rattle.std.specs.List.{join_with_byte}
use Rattle.std.proofs.lemmas.List.{length-take-le}
use Rattle.scp_text.specs.scp_device.specs.declared.bad.ReadFault.{ReadFault}
use Rattle.scp_text.specs.scp_device.specs.declared.bad.ReadFault.TheVariants.{NoMemory, Bad, BadAt}
use Rattle.scp_script_text.specs.declared.script.Kind.{Kind}
use Rattle.scp_script_text.specs.declared.script.Form.{Form}
use Rattle.scp_script_text.specs.Scripts.{lines_of, IsLineIn, AreLines, IsScriptOf, IsRefusedLine, IsRefusedScript}
use Rattle.scp_script_text.specs.inside.Scripts.{IsPlaced}

abbrev pub is_nil : {X : Type 0} → List X → Bool
is_nil [] = true
is_nil (x ∷ xs) = false

-- these lines were written
pub record HasWritten (kind : Kind) (form : Form) (lines : List (List ℕ)) (out : List ℕ) (first : Bool) : Type 0 where
  pub outs : List (List ℕ)
  pub written : AreLines (IsLineIn kind form) lines outs
  pub out_is : out ≡ join_with_byte 10 outs
  pub first_is : first ≡ is_nil lines

pub none_written : (kind : Kind) (form : Form) → HasWritten kind form [] [] true
none_written kind form = record { outs = []; written = tt; out_is = refl; first_is = refl }

more_lines : (kind : Kind) (form : Form) (lines outs : List (List ℕ)) (line out : List ℕ) → AreLines (IsLineIn kind form) lines outs → IsLineIn kind form line out → AreLines (IsLineIn kind form) (lines ++ line ∷ []) (outs ++ out ∷ [])
more_lines kind form [] [] line out w l = (l, tt)
more_lines kind form [] (o ∷ os) line out w l = absurd w
more_lines kind form (x ∷ xs) [] line out w l = absurd w
more_lines kind form (x ∷ xs) (o ∷ os) line out w l = (w.0, more_lines kind form xs os line out w.1 l)

both_nil : (kind : Kind) (form : Form) (lines outs : List (List ℕ)) → AreLines (IsLineIn kind form) lines outs → is_nil lines ≡ is_nil outs
both_nil kind form [] [] w = refl
both_nil kind form [] (o ∷ os) w = absurd w
both_nil kind form (x ∷ xs) [] w = absurd w
both_nil kind form (x ∷ xs) (o ∷ os) w = refl

joined_more : (outs : List (List ℕ)) (out : List ℕ) → join_with_byte 10 (outs ++ out ∷ []) ≡ join_with_byte 10 outs ++ (if is_nil outs then out else 10 ∷ out)
joined_more [] out = refl
joined_more (o ∷ []) out = refl
joined_more (o ∷ p ∷ ps) out = ap (λ l. o ++ 10 ∷ l) (joined_more (p ∷ ps) out) ∙ sym (append_assoc o (10 ∷ join_with_byte 10 (p ∷ ps)) (10 ∷ out))

some_more : (lines : List (List ℕ)) (line : List ℕ) → false ≡ is_nil (lines ++ line ∷ [])
some_more [] line = refl
some_more (x ∷ xs) line = refl

pub more_written : (kind : Kind) (form : Form) (lines : List (List ℕ)) (line out old new : List ℕ) (first : Bool) → HasWritten kind form lines old first → IsLineIn kind form line out → new ≡ old ++ (if first then out else 10 ∷ out) → HasWritten kind form (lines ++ line ∷ []) new false
more_written kind form lines line out old new first h l e =
    let nil : first ≡ is_nil h.outs = h.first_is ∙ both_nil kind form lines h.outs h.written in
    record {
      outs = h.outs ++ out ∷ [];
      written = more_lines kind form lines h.outs line out h.written l;
      out_is = e ∙ ap (λ o. o ++ (if first then out else 10 ∷ out)) h.out_is ∙ ap (λ (b : Bool). join_with_byte 10 h.outs ++ (if b then out else 10 ∷ out)) nil ∙ sym (joined_more h.outs out);
      first_is = some_more lines line;
    }

pub all_written : (kind : Kind) (form : Form) (script out : List ℕ) (first : Bool) → HasWritten kind form (lines_of script) out first → IsScriptOf kind form script out
all_written kind form script out first h = (h.outs, h.written, h.out_is)

pub refused_there : (kind : Kind) (form : Form) (script : List ℕ) (i : ℕ) (line out : List ℕ) (first : Bool) (e : ReadFault) → lines_of script ≡ take i (lines_of script) ++ line ∷ drop (i + 1) (lines_of script) → i ≤ length (lines_of script) → HasWritten kind form (take i (lines_of script)) out first → IsPlaced kind form line (i + 1) e → IsRefusedScript kind form script e
refused_there kind form script i line out first NoMemory parts within h p = tt
refused_there kind form script i line out first (Bad bad) parts within h p =
    record {
      front = take i (lines_of script);
      line = line;
      back = drop (i + 1) (lines_of script);
      outs = h.outs;
      lines = parts;
      place = p.1 ∙ ap (λ n. n + 1) (sym (length-take-le i (lines_of script) within));
      written = h.written;
      refused = p.0;
    }
refused_there kind form script i line out first (BadAt at) parts within h p = absurd p
