-- The applier: one thing more.
use Rattle.std.proofs.Common.{◌≡◌, ℕ, false, List, [], ◌∷◌, ◌++◌, sym, ◌∙◌, ap, subst, append_assoc}
use Rattle.std.specs.Prelude.{Option}
use Rattle.std.specs.List.Sorted.{IsPermutation}
use Rattle.std.proofs.lemmas.List.{append-nil}
use Rattle.std.proofs.lemmas.Grind.{flat_map-append}
use Rattle.std.proofs.lemmas.List.Sorted.{IsPermutation-append, IsPermutation-refl, IsPermutation-trans}
use Rattle.scp_ledger.specs.scp_wire.specs.declared.message.Message.{Message}
use Rattle.scp_ledger.specs.declared.journal.Decision.{Decision}
use Rattle.scp_ledger.specs.declared.took.Onward.{Onward}
use Rattle.scp_ledger.specs.declared.took.Onward.TheVariants.{Decided, Asked}
use Rattle.scp_ledger.specs.Onwards.{decision_on, decisions_on, MaySend, WindowIsKept}
use Rattle.scp_apply.specs.Applier.{ApplierView, IsApplier, IsRunning, CanTake}
use Rattle.scp_apply.specs.Applier.{Takes as ApplierTakes}
use Rattle.scp_apply.specs.Applies.{Applies, AppliesPass, ApplierKeepsUp}
use Rattle.scp_apply.proofs.Next.{next_can_be_taken}

one_more : (taken applied buffer rest : List Decision) (d : Decision) → IsPermutation taken (applied ++ buffer) → IsPermutation (applied ++ (buffer ++ d ∷ [])) rest → IsPermutation (taken ++ d ∷ []) rest
one_more taken applied buffer rest d p q =
    IsPermutation-trans (taken ++ d ∷ []) (applied ++ (buffer ++ d ∷ [])) rest
    (subst (λ (xs : List Decision). IsPermutation (taken ++ d ∷ []) xs) (append_assoc applied buffer (d ∷ [])) (IsPermutation-append taken (applied ++ buffer) (d ∷ []) (d ∷ []) p (IsPermutation-refl (d ∷ []))))
    q

applies_step : (took : List Onward) (old : ApplierView) (x : Onward) (answer : Option (ℕ × Message)) (new : ApplierView) → ApplierTakes old x answer new → IsApplier new → IsRunning new → Applies took old → Applies (took ++ x ∷ []) new
applies_step took old (Decided d) answer new takes known running a = record {
  runs = takes.1.runs;
  known = known;
  running = running;
  shared_out = subst (λ (ds : List Decision). IsPermutation ds (new.applied ++ new.buffer)) (sym (flat_map-append decision_on took (Decided d ∷ []))) (one_more (decisions_on took) old.applied old.buffer (new.applied ++ new.buffer) d a.shared_out takes.1.shared_out);
}
applies_step took old (Asked link slot) answer new takes known running a = record {
  runs = ap (λ (v : ApplierView). v.failed) takes.1 ∙ a.runs;
  known = known;
  running = running;
  shared_out = subst (λ (ds : List Decision). IsPermutation ds (new.applied ++ new.buffer)) (sym (append-nil (decisions_on took)) ∙ sym (flat_map-append decision_on took (Asked link slot ∷ []))) (subst (λ (v : ApplierView). IsPermutation (decisions_on took) (v.applied ++ v.buffer)) (sym takes.1) a.shared_out);
}

applies_runs : (old : ApplierView) (x : Onward) (answer : Option (ℕ × Message)) (new : ApplierView) → old.failed ≡ false → ApplierTakes old x answer new → new.failed ≡ false
applies_runs old (Decided d) answer new runs takes = takes.1.runs
applies_runs old (Asked link slot) answer new runs takes = ap (λ (v : ApplierView). v.failed) takes.1 ∙ runs

begins : (v : ApplierView) → v.failed ≡ false → v.applied ≡ [] → v.buffer ≡ [] → IsApplier v → IsRunning v → Applies [] v
begins v runs applied buffer known running = record { runs = runs; known = known; running = running; shared_out = rw (applied, buffer) (IsPermutation-refl []) }

pub applies_pass : AppliesPass
applies_pass = record {
  begins = begins;
  passes = λ took old x answer new takes known running a. applies_step took old x answer new takes known (running (applies_runs old x answer new a.runs takes)) a;
}

pub applier_keeps_up : WindowIsKept → ApplierKeepsUp
applier_keeps_up window = λ took v x a k. by_thing took v x a (window.last v.first took x k)
  where
    by_thing : (took : List Onward) (v : ApplierView) (x : Onward) → Applies took v → MaySend v.first took x → CanTake v x
    by_thing took v (Decided d) a may = next_can_be_taken v (decisions_on took) d a.known a.running a.shared_out may
    by_thing took v (Asked link slot) a may = tt
