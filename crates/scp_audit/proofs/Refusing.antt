-- Which refusals come of a call, and what holds then.
use Rattle.std.proofs.Common.{◌≡◌, ◌⊎◌, Bool, true, false, sym, ap, ◌∙◌, inl, inr}
use Rattle.std.specs.Prelude.{◌↔◌, Result, Ok, Err, OnOk, IfErr, IsErrOf}
use Rattle.scp_archive.specs.scp_types.specs.declared.fault.Fault.{Fault}
use Rattle.scp_archive.specs.scp_types.specs.declared.fault.Fault.TheVariants.{NoMemory, TooLong, Device, Failed}

pub on_ok_any : {X : Type 0} (r : Result X Fault) (P : Type 0) → P → OnOk r P
on_ok_any (Ok x) P p = p
on_ok_any (Err f) P p = tt

pub if_err_any : {X : Type 0} (r : Result X Fault) (P : Fault → Type 0) → ((f : Fault) → P f) → IfErr r P
if_err_any (Ok x) P p = tt
if_err_any (Err f) P p = p f

-- what is refused otherwise isn't refused by the device
pub no_device : {X : Type 0} (r : Result X Fault) (P : Type 0) → IfErr r (λ f. (f ≡ NoMemory) ⊎ (f ≡ TooLong)) → IsErrOf r Device → P
no_device (Ok x) P h e = absurd cc
no_device (Err f) P h e =
    let same : f ≡ Device = cc in
    elim h as (λ _. P) [
      | inl memory ↦ (let bad : NoMemory ≡ Device = sym memory ∙ same in absurd cc)
      | inr long ↦ (let bad : TooLong ≡ Device = sym long ∙ same in absurd cc)
    ]

-- what hasn't failed before isn't refused for that
pub not_failed : {X : Type 0} (r : Result X Fault) (has_failed : Bool) → has_failed ≡ false → IsErrOf r Failed ↔ (has_failed ≡ true) → IfErr r (λ f. (f ≡ Failed) ⊎ ((f ≡ Device) ⊎ (f ≡ NoMemory))) → IfErr r (λ f. (f ≡ Device) ⊎ (f ≡ NoMemory))
not_failed (Ok x) b fresh tells h = tt
not_failed (Err f) b fresh tells h = elim h as (λ _. (f ≡ Device) ⊎ (f ≡ NoMemory)) [
  | inl failed ↦ (let bad : true ≡ false = sym (tells.0 (ap Err failed)) ∙ fresh in absurd cc)
  | inr other ↦ other
]
