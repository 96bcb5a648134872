-- Lines of an expanded script that are being written in digits.
use Rattle.std.proofs.Common.{◌≡◌, ℕ, zero, suc, ◌+◌, ◌<◌, List, [], ◌∷◌, ◌++◌, length, take, drop, get_or, refl, sym, ◌∙◌, ap, arith, drop-cons}
use Rattle.scp_script_text.specs.scp_device.specs.declared.bad.ReadFault.{ReadFault}
use Rattle.scp_script_text.specs.scp_device.specs.declared.bad.ReadFault.TheVariants.{NoMemory, Bad, BadAt}
use Rattle.scp_script_short.specs.declared.placed.PlacedLine.{PlacedLine}
use Rattle.scp_script_short.specs.Hexing.{AreDigits}
use Rattle.scp_script_short.specs.inside.Hexing.{IsPlaced, IsTold, IsRefusedAmong}

pub digits_more : (lines outs : List PlacedLine) (line out : PlacedLine) → AreDigits lines outs → IsPlaced line out → AreDigits (lines ++ line ∷ []) (outs ++ out ∷ [])
digits_more [] [] line out w l = (l.0, l.1, tt)
digits_more [] (o ∷ os) line out w l = absurd w
digits_more (x ∷ xs) [] line out w l = absurd w
digits_more (x ∷ xs) (o ∷ os) line out w l = (w.0, w.1, digits_more xs os line out w.2 l)

parted : (i : ℕ) (lines : List PlacedLine) → take i lines ++ drop i lines ≡ lines
parted zero lines = refl
parted (suc i) [] = refl
parted (suc i) (l ∷ ls) = ap (λ t. l ∷ t) (parted i ls)

line_at : (lines : List PlacedLine) (i : ℕ) (line : PlacedLine) → i < length lines → line ≡ get_or lines i line → lines ≡ take i lines ++ line ∷ drop (i + 1) lines
line_at lines i line h is =
    let next : suc i ≡ i + 1 = omega arith in
    sym (parted i lines) ∙ ap (λ l. take i lines ++ l) (drop-cons lines i line h ∙ ap (λ k. get_or lines i line ∷ drop k lines) next)
    ∙ ap (λ x. take i lines ++ x ∷ drop (i + 1) lines) (sym is)

pub refused_there : (lines outs : List PlacedLine) (i : ℕ) (line : PlacedLine) (e : ReadFault) → i < length lines → line ≡ get_or lines i line → AreDigits (take i lines) outs → IsTold line e → IsRefusedAmong lines e
refused_there lines outs i line NoMemory h is w t = tt
refused_there lines outs i line (Bad told) h is w t =
    record {
      front = take i lines;
      line = line;
      back = drop (i + 1) lines;
      outs = outs;
      parts = line_at lines i line h is;
      written = w;
      refused = t.0;
      place = t.1;
    }
refused_there lines outs i line (BadAt at) h is w t = absurd t
