-- Nodes that a table has.
use Rattle.std.proofs.Common.{◌≡◌, ℕ, ◌<◌, true, List, length, get_or, Option, Some, None, IfSome, is_some, sym, ◌∙◌, ap}
use Rattle.std.specs.List.{Contains}
use Rattle.scp_xdr.specs.scp_types.specs.declared.names.NodeId.{NodeId}

pub contains_found : (nodes : List NodeId) (i : ℕ) (found node : NodeId) → i < length nodes → found ≡ get_or nodes i node → found.0 ≡ node.0 → Contains nodes node
contains_found nodes i found node here stands bytes =
    let same : found ≡ node = ap (λ (b : List ℕ). let n : NodeId = record { 0 = b } in n) bytes in
    (i, here, sym stands ∙ same)

pub from_some : {A : Type 0} (o : Option A) (P : Type 0) → is_some o ≡ true → IfSome o (λ _. P) → P
from_some None P e h = cc
from_some (Some x) P e h = h
