-- What is written of records, of batches of them and of requests for them is read as them.
use Rattle.std.proofs.Common.{◌≡◌, ℕ, ◌<◌, ◌≤◌, ◌^◌, true, List, [], ◌∷◌, length, Some, Ok, refl, ◌∙◌, ap, arith}
use Rattle.std.specs.Prelude.{codes}
use Rattle.std.specs.Fmt.{decimal}
use Rattle.std.specs.List.{AllByRecursion, list_all}
use Rattle.scp_kv.specs.scp_types.specs.declared.names.Slot.{Slot}
use Rattle.scp_wire.specs.declared.message.Message.TheVariants.{GetRecord, Record, Records}
use Rattle.scp_text.specs.Values.{value_text, value_in}
use Rattle.scp_text.specs.Messages.{at, ended, slot_in, record_in, records_in, get_record_in, message_in, message_words}
use Rattle.scp_text.proofs.Leaves.{AreBytes}
use Rattle.scp_text.proofs.Items.{is_visible}
use Rattle.scp_text.proofs.Numbers.{number_again}
use Rattle.scp_text.proofs.ValueTexts.{value_again, value_item}
use Rattle.scp_text.proofs.Envelopes.{GoodValue, values_again}

pub get_record_again : (slot : Slot) → slot.0 < 2 ^ 64 → message_in (message_words (GetRecord slot)) ≡ Ok (GetRecord slot)
unfolding message_in get_record_in at ended
get_record_again slot small = rw (number_again slot.0 small) refl

pub record_again : (slot : Slot) (value : List ℕ) → slot.0 < 2 ^ 64 → AreBytes value → length value ≤ 4096 → message_in (message_words (Record slot value)) ≡ Ok (Record slot value)
unfolding message_in record_in at ended
record_again slot value small are short = rw (number_again slot.0 small, value_again value are short) refl

pub records_again : (first : Slot) (values : List (List ℕ)) → first.0 < 2 ^ 64 → AllByRecursion GoodValue values → message_in (message_words (Records first values)) ≡ Ok (Records first values)
unfolding message_in records_in at ended
records_again first values small good = rw (number_again first.0 small, values_again (codes "values(") values good) refl
