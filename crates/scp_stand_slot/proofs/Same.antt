-- Nodes and hashes are told apart by their bytes.
use Rattle.std.proofs.Common.{◌≡◌, Bool, true, false, refl, ap, ◌⊎◌, inl, inr}
use Rattle.std.specs.Ordering.{is_eq}
use Rattle.std.specs.BTreeMap.{is_at}
use Rattle.std.proofs.lemmas.Cmp.{nat_list_cmp_total, tied_itself, on_total}
use Rattle.std.specs.Cmp.{IsTotalOrder}
use Rattle.std.proofs.lemmas.Map.Lookups.{exact_bytes, CmpEqualImpliesEq}
use Rattle.scp_slot.specs.scp_types.specs.declared.names.NodeId.{NodeId}
use Rattle.scp_slot.specs.scp_types.specs.declared.names.Hash.{Hash}
use Rattle.scp_slot.specs.scp_quorum.specs.NodeSet.{node_cmp}
use Rattle.scp_stand_slot.specs.Names.{hash_cmp}
use Rattle.std.specs.declared.cmp.Ordering.{Ordering}
use Rattle.std.specs.declared.cmp.Ordering.TheVariants.{Less, Equal, Greater}

pub decided : (b : Bool) → (b ≡ true) ⊎ (b ≡ false)
decided true = inl refl
decided false = inr refl

tied : (o : Ordering) → is_eq o ≡ true → o ≡ Equal
tied Less e = absurd cc
tied Equal e = refl
tied Greater e = absurd cc

pub same_at : (v w : NodeId) → is_at (node_cmp v) w ≡ true → v ≡ w
same_at v w e = ap (λ bytes. let n : NodeId = record { 0 = bytes } in n) (exact_bytes v.0 w.0 (tied (node_cmp v w) e))

pub at_itself : (v : NodeId) → is_at (node_cmp v) v ≡ true
at_itself v = ap is_eq (tied_itself nat_list_cmp_total v.0)

pub same_hash : (a b : Hash) → is_at (hash_cmp a) b ≡ true → a ≡ b
same_hash a b e = ap (λ bytes. let h : Hash = record { 0 = bytes } in h) (exact_bytes a.0 b.0 (tied (hash_cmp a b) e))

pub hash_itself : (a : Hash) → is_at (hash_cmp a) a ≡ true
hash_itself a = ap is_eq (tied_itself nat_list_cmp_total a.0)

pub node_total : IsTotalOrder node_cmp
node_total = on_total (λ (v : NodeId). v.0) nat_list_cmp_total

pub node_exact : CmpEqualImpliesEq node_cmp
node_exact = λ v w e. ap (λ bytes. let n : NodeId = record { 0 = bytes } in n) (exact_bytes v.0 w.0 e)
