-- A live node that was made of a node.
use Rattle.std.proofs.Common.{◌≡◌, sym, ◌∙◌, subst, inl, inr}
use Rattle.std.specs.Prelude.{◌⊎◌, Result, Ok, Err, IfOk, IfErr, IsOkUnless}
use Rattle.scp_again.specs.scp_types.specs.declared.fault.Fault.{Fault}
use Rattle.scp_again.specs.scp_types.specs.declared.fault.Fault.TheVariants.{BadConfig, NoMemory}
use Rattle.scp_again.specs.scp_xdr.specs.Words.{IsReadingFault}
use Rattle.scp_again.specs.scp_core.specs.Kv.{NodeView}
use Rattle.scp_live.specs.Live.{LiveView}

-- what holds of the node holds of the live node's
pub of_its_node : (r : Result LiveView Fault) (node : NodeView) (P : NodeView → Type 0) → P node → IfOk r (λ live. live.node ≡ node) → IfOk r (λ live. P live.node)
of_its_node (Ok live) node P holds is = subst P (sym is) holds
of_its_node (Err f) node P holds is = tt

-- no configuration is refused for memory
pub never_bad : (r : Result LiveView Fault) → IsOkUnless r NoMemory → r ≡ Err BadConfig → ⊥
never_bad (Ok live) only bad = cc
never_bad (Err f) only bad =
    let memory : f ≡ NoMemory = only in
    let config : f ≡ BadConfig = cc in
    let no : NoMemory ≡ BadConfig = sym memory ∙ config in
    cc

-- nor is one refused of which a node was made
pub never_refused : {T : Type 0} (r : Result T Fault) (x : T) → r ≡ Ok x → r ≡ Err BadConfig → ⊥
never_refused {T} r x made bad = let no : ◌≡◌ {A = Result T Fault} (Ok x) (Err BadConfig) = sym made ∙ bad in cc

pub bad_or_memory : (r : Result LiveView Fault) → IsOkUnless r NoMemory → IfErr r (λ f. (f ≡ BadConfig) ⊎ (f ≡ NoMemory))
bad_or_memory (Ok live) only = tt
bad_or_memory (Err f) only = inr only

-- the same of one that begins with a state
pub bad_memory_or_unread : (r : Result LiveView Fault) → IsOkUnless r NoMemory → IfErr r (λ f. (f ≡ BadConfig) ⊎ ((f ≡ NoMemory) ⊎ IsReadingFault f))
bad_memory_or_unread (Ok live) only = tt
bad_memory_or_unread (Err f) only = inr (inl only)

pub read_anyway : (r : Result LiveView Fault) (B : Type 0) → IsOkUnless r NoMemory → IfErr r (λ f. IsReadingFault f → ¬ B)
read_anyway (Ok live) B only = tt
read_anyway (Err f) B only = λ unread b. subst IsReadingFault only unread
