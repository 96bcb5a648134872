-- How much of one item a reader has in hand.
use Rattle.std.proofs.Common.{◌≡◌, ℕ, ◌+◌, ◌≤◌, Bool, true, false, cond, refl, List, [], ◌∷◌, length, Option, Some, None, arith}
use Rattle.scp_workers.specs.scp_types.specs.declared.names.ConnId.{ConnId}
use Rattle.scp_workers.specs.scp_wire.specs.declared.link.LinkItem.{LinkItem}
use Rattle.scp_workers.specs.scp_wire.specs.declared.link.LinkItem.TheVariants as item
use Rattle.scp_workers.specs.scp_wire.specs.declared.link.Inbound.TheVariants as inbound
use Rattle.scp_workers.specs.scp_wire.specs.declared.link.Cause.TheVariants.{Link}
use Rattle.scp_workers.specs.scp_wire.specs.declared.message.Message.{Message}
use Rattle.scp_workers.specs.scp_wire.specs.declared.message.Message.TheVariants.{Envelope, GetSet, Set, NoSet, GetRecord, Record, Records}
use Rattle.scp_workers.specs.scp_wire.specs.LinkReading.{ReaderView, records_from, singles, is_spent, next_of, brought_one, brought_each, brought, reading}
use Rattle.scp_workers.specs.scp_wire.specs.Reading.{reading_of, ReadingIsSpelt}
use Rattle.scp_gather.specs.Count.{HasBytes}

records_few : (slot : ℕ) (values : List (List ℕ)) → length (records_from slot values) ≡ length values
records_few slot [] = refl
records_few slot (value ∷ values) = omega (arith, records_few (slot + 1) values)

each_few : (conn : ConnId) (n : ℕ) (ms : List Message) → length (brought_each conn n ms) ≤ length ms
each_few conn n [] = omega arith
each_few conn n (m ∷ ms) = by_test (is_spent n m) (each_few conn (next_of n m) ms)
  where
    by_test : (b : Bool) → length (brought_each conn (next_of n m) ms) ≤ length ms → length (brought_one conn n m ∷ cond b [] (brought_each conn (next_of n m) ms)) ≤ length (m ∷ ms)
    by_test true rest = omega arith
    by_test false rest = omega (arith, rest)

module _ (spelt : ReadingIsSpelt) where
  singles_few : (bytes : List ℕ) (m : Message) → HasBytes (item.Bytes (record { from = record { 0 = [] }; to = record { 0 = [] }; life = 0 }) bytes) → reading_of bytes ≡ Some m → length (singles m) ≤ 32
  singles_few bytes (Envelope envelope) are is = omega arith
  singles_few bytes (GetSet hash) are is = omega arith
  singles_few bytes (Set set) are is = omega arith
  singles_few bytes (NoSet hash) are is = omega arith
  singles_few bytes (GetRecord slot) are is = omega arith
  singles_few bytes (Record slot value) are is = omega arith
  singles_few bytes (Records first values) are is =
      let fits = ((spelt bytes (Records first values) are).0 is).spells.fits in
      omega (arith, records_few first.0 values, fits.1.1.1.1.1.1.1.2)

  brought_few : (conn : ConnId) (n : ℕ) (bytes : List ℕ) (o : Option Message) → reading_of bytes ≡ o → HasBytes (item.Bytes conn bytes) → length (brought conn n o) ≤ 32
  brought_few conn n bytes None is are = omega arith
  brought_few conn n bytes (Some m) is are = omega (arith, each_few conn n (singles m), singles_few bytes m are is)

  pub few_in_hand : (at : ReaderView) (x : LinkItem) → HasBytes x → length (reading at x) ≤ 32
  few_in_hand at (item.Opened conn) are = omega arith
  few_in_hand at (item.Bytes conn bytes) are = by_test at.ended
    where
      by_test : (b : Bool) → length (cond b [] (brought conn at.next (reading_of bytes))) ≤ 32
      by_test true = omega arith
      by_test false = brought_few conn at.next bytes (reading_of bytes) refl are
  few_in_hand at (item.Closed conn) are = by_test at.ended
    where
      by_test : (b : Bool) → length (cond b [] (inbound.Closed conn Link ∷ [])) ≤ 32
      by_test true = omega arith
      by_test false = omega arith
