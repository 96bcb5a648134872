-- Which statuses there are.
use Rattle.std.proofs.Common.{◌≡◌, ◌≢◌, ◌⊎◌, ◌≤◌, inl, inr, ℕ, Bool, true, false, List, refl, nat_eq, arith}
use Rattle.std.specs.Prelude.{if◌then◌else◌}
use Rattle.std.specs.List.{list_any}
use Rattle.std.proofs.lemmas.Bool.{eqb-true, eqb-false}
use Rattle.scp_ledgers.specs.scp_history.specs.Status.{is_cut_line, is_notice, status}
use Rattle.scp_ledgers.specs.scp_history.specs.declared.line.Line.{Line}

-- the status, by whether an archive is cut and whether a line is a notice
abbrev code_by : Bool → Bool → ℕ
code_by cut notice = if cut then 1 else (if notice then 4 else 0)

-- a report's status is never that of a failure
pub not_three : (lines : List Line) → status lines ≢ 3
not_three lines = by (list_any is_cut_line lines) (list_any is_notice lines)
  where
    by : (cut notice : Bool) → code_by cut notice ≢ 3
    by true notice = λ e. omega (arith, e)
    by false true = λ e. omega (arith, e)
    by false false = λ e. omega (arith, e)

pub few : (lines : List Line) → status lines ≤ 4
few lines = by (list_any is_cut_line lines) (list_any is_notice lines)
  where
    by : (cut notice : Bool) → code_by cut notice ≤ 4
    by true notice = omega arith
    by false true = omega arith
    by false false = omega arith

-- a status is 3 or it isn't
pub three_or_not : (code : ℕ) → (code ≡ 3) ⊎ (code ≢ 3)
three_or_not code = by_test (nat_eq code 3) refl
  where
    by_test : (b : Bool) → nat_eq code 3 ≡ b → (code ≡ 3) ⊎ (code ≢ 3)
    by_test true e = inl (eqb-true code 3 e)
    by_test false e = inr (eqb-false code 3 e)
