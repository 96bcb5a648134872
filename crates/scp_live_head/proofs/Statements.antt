-- Going over lines, statements are read.
use Rattle.std.proofs.Common.{◌≡◌, ◌≤◌, ◌+◌, ◌-◌, ℕ, List, [], ◌∷◌, ◌++◌, length, drop, sym, ◌∙◌, ap, refl, arith, append_assoc, length-append}
use Rattle.std.specs.List.{AllByRecursion}
use Rattle.std.proofs.lemmas.List.{append-nil, drop_at}
use Rattle.hex.specs.Hex.{IsBytes}
use Rattle.scp_live_head.specs.Head.{said_line, said_lines, ended}

-- these statements were read; these bytes are left
pub record IsReading (bytes : List ℕ) (said : List (List ℕ)) (rest : List ℕ) : Type 0 where
  pub splits : bytes ≡ said_lines said ++ rest
  pub are : AllByRecursion IsBytes said

pub reading_start : (bytes : List ℕ) → IsReading bytes [] bytes
reading_start bytes = record { splits = refl; are = tt }

both : (a b : List (List ℕ)) → AllByRecursion IsBytes a → AllByRecursion IsBytes b → AllByRecursion IsBytes (a ++ b)
both [] b h k = k
both (x ∷ a) b h k = (h.0, both a b h.1 k)

lines_more : (a b : List (List ℕ)) → said_lines (a ++ b) ≡ said_lines a ++ said_lines b
lines_more [] b = refl
lines_more (x ∷ a) b = ap (λ (l : List ℕ). ended (said_line x) ++ l) (lines_more a b) ∙ sym (append_assoc (ended (said_line x)) (said_lines a) (said_lines b))

pub reading_more : (bytes : List ℕ) (said : List (List ℕ)) (rest one more behind : List ℕ) → IsBytes one → rest ≡ ended (said_line one) ++ behind → more ≡ behind → IsReading bytes said rest → IsReading bytes (said ++ one ∷ []) more
reading_more bytes said rest one more behind is there same r = record {
  splits =
      r.splits ∙ ap (λ (l : List ℕ). said_lines said ++ l) (there ∙ ap (λ (l : List ℕ). ended (said_line one) ++ l) (sym same))
      ∙ sym (append_assoc (said_lines said) (ended (said_line one)) more)
      ∙ ap (λ (l : List ℕ). l ++ more) (ap (λ (l : List ℕ). said_lines said ++ l) (sym (append-nil (ended (said_line one)))) ∙ sym (lines_more said (one ∷ [])));
  are = both said (one ∷ []) r.are (is, tt);
}

-- how many bytes were read
pub read_so_far : (bytes : List ℕ) (said : List (List ℕ)) (rest : List ℕ) (n : ℕ) → n ≡ length bytes - length rest → IsReading bytes said rest → (n ≤ length bytes) × (drop n bytes ≡ rest)
read_so_far bytes said rest n is r =
    let long : length bytes ≡ length (said_lines said) + length rest = ap length r.splits ∙ length-append (said_lines said) rest in
    let front : n ≡ length (said_lines said) = omega (arith, is, long) in
    (omega (arith, is, long), ap (drop n) r.splits ∙ drop_at (said_lines said) rest n (sym front))
