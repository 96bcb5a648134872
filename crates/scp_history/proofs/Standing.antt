-- Which status there is.
use Rattle.std.proofs.Common.{◌≡◌, Bool, true, false, cond, List, sym, ap, ◌∙◌}
use Rattle.std.specs.List.{list_any}
use Rattle.scp_history.specs.declared.line.Line.{Line}
use Rattle.scp_history.specs.Status.{is_cut_line, is_notice, status}

pub status_cut : (lines : List Line) (cut : Bool) → cut ≡ list_any is_cut_line lines → cut ≡ true → 1 ≡ status lines
status_cut lines cut is holds = sym (ap (λ (t : Bool). cond t 1 (cond (list_any is_notice lines) 4 0)) (sym is ∙ holds))

pub status_more : (lines : List Line) (cut notice : Bool) → cut ≡ list_any is_cut_line lines → cut ≡ false → notice ≡ list_any is_notice lines → notice ≡ true → 4 ≡ status lines
status_more lines cut notice is isnt told holds =
    sym (ap (λ (t : Bool). cond t 1 (cond (list_any is_notice lines) 4 0)) (sym is ∙ isnt) ∙ ap (λ (t : Bool). cond t 4 0) (sym told ∙ holds))

pub status_none : (lines : List Line) (cut notice : Bool) → cut ≡ list_any is_cut_line lines → cut ≡ false → notice ≡ list_any is_notice lines → notice ≡ false → 0 ≡ status lines
status_none lines cut notice is isnt told fails =
    sym (ap (λ (t : Bool). cond t 1 (cond (list_any is_notice lines) 4 0)) (sym is ∙ isnt) ∙ ap (λ (t : Bool). cond t 4 0) (sym told ∙ fails))
