-- A carried message under its number.
use Rattle.std.proofs.Common.{◌≡◌, ℕ, Bool, false, refl, ap, nat_eq}
use Rattle.std.specs.Prelude.{if◌then◌else◌}
use Rattle.scp_quorum.specs.scp_types.specs.declared.names.ConnId.{ConnId}
use Rattle.scp_wire.specs.declared.message.Message.{Message}
use Rattle.scp_wire.specs.declared.message.Message.TheVariants.{Envelope, GetSet, Set, NoSet, GetRecord, Record, Records}
use Rattle.scp_wire.specs.declared.link.Inbound.{Inbound}
use Rattle.scp_wire.specs.declared.link.Inbound.TheVariants as inbound
use Rattle.scp_wire.specs.declared.link.Cause.TheVariants.{Spent}
use Rattle.scp_wire.specs.inside.Carried.{IsCarried, IsCarried-prop}
use Rattle.scp_wire.specs.LinkReading.{brought_one, numbered}

abbrev as_carried : (conn : ConnId) (n : ℕ) (m : Message) → IsCarried m → Inbound
as_carried conn n m c = inbound.Carried (record { conn = conn; seq = record { 0 = n }; message = m; carried = c })

not_spent : (conn : ConnId) (n : ℕ) (m : Message) (c : IsCarried m) (b : Bool) → b ≡ false → as_carried conn n m c ≡ numbered conn n m → as_carried conn n m c ≡ (if b then inbound.Closed conn Spent else numbered conn n m)
not_spent conn n m c b e h = rw e h

pub brought_one_carried : (conn : ConnId) (n : ℕ) (m : Message) (c : IsCarried m) → nat_eq n 1000000 ≡ false → as_carried conn n m c ≡ brought_one conn n m
brought_one_carried conn n (Envelope x) c e = not_spent conn n (Envelope x) c (nat_eq n 1000000) e (ap (as_carried conn n (Envelope x)) (IsCarried-prop (Envelope x) c refl))
brought_one_carried conn n (GetSet x) c e = absurd cc
brought_one_carried conn n (Set x) c e = absurd cc
brought_one_carried conn n (NoSet x) c e = absurd cc
brought_one_carried conn n (GetRecord x) c e = not_spent conn n (GetRecord x) c (nat_eq n 1000000) e (ap (as_carried conn n (GetRecord x)) (IsCarried-prop (GetRecord x) c refl))
brought_one_carried conn n (Record x y) c e = not_spent conn n (Record x y) c (nat_eq n 1000000) e (ap (as_carried conn n (Record x y)) (IsCarried-prop (Record x y) c refl))
brought_one_carried conn n (Records x y) c e = absurd cc
