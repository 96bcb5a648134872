-- What is written of messages is read as them.
use Rattle.std.proofs.Common.{◌≡◌, ℕ, zero, suc, ◌+◌, ◌-◌, ◌<◌, ◌≤◌, ◌^◌, Bool, true, false, ◌&&◌, List, [], ◌∷◌, ◌++◌, length, map, Option, Some, None, Result, Ok, Err, inl, inr, refl, sym, ◌∙◌, ap, subst, arith, append-nil}
use Rattle.std.specs.Prelude.{codes, option_map, nat_lt}
use Rattle.std.specs.List.{AllByRecursion, list_all}
use Rattle.std.specs.Fmt.{decimal}
use Rattle.hex.specs.Hex.{encode_lower}
use Rattle.scp_kv.specs.scp_types.specs.declared.ballot.Ballot.{Ballot}
use Rattle.scp_kv.specs.scp_types.specs.declared.names.NodeId.{NodeId}
use Rattle.scp_kv.specs.scp_types.specs.declared.names.Hash.{Hash}
use Rattle.scp_kv.specs.scp_types.specs.declared.names.Slot.{Slot}
use Rattle.scp_kv.specs.scp_xdr.specs.Kind.{Values, Fits, optional}
use Rattle.scp_kv.specs.scp_xdr.specs.Shared.{value_kind, ballot_kind, ballot_value}
use Rattle.scp_wire.specs.scp_envelope.specs.Kinds.{list_kind}
use Rattle.scp_text.specs.Pieces.{same, listed, bracketed, inside, items_in, all_of}
use Rattle.scp_text.specs.Values.{value_text, value_in}
use Rattle.scp_text.specs.Sets.{counter_in}
use Rattle.scp_text.specs.Messages.{ballot_text, optional_text, values_text, signature_words, ballot_from, ballot_in, optional_in, values_in, signature_in}
use Rattle.scp_text.proofs.Items.{IsItem, IsInner, IsOpen, plain_item, plain_inner, bracketed_item, listed_inner, item_inner, items_again, inside_again, all_again}
use Rattle.scp_text.proofs.Numbers.{digits_again, digits_plain}
use Rattle.scp_text.proofs.Leaves.{AreBytes, Leaves, bytes_from}
use Rattle.scp_text.proofs.ValueTexts.{value_again, value_item, two_items, two_inner}
use Rattle.scp_text.proofs.SetTexts.{decimal_item}
use Rattle.scp_text.proofs.SetRows.{counter_again}

pub record GoodValue (v : List ℕ) : Type 0 where
  pub bytes : AreBytes v
  pub short : length v ≤ 4096

pub record GoodBallot (b : Ballot) : Type 0 where
  pub counter : b.counter < 2 ^ 32
  pub value : GoodValue b.value

pub good_ballot : (b : Ballot) → Fits ballot_kind (ballot_value b) → Leaves ballot_kind (ballot_value b) → GoodBallot b
good_ballot b f l = record { counter = f.0; value = record { bytes = l.1; short = f.1.0 } }

pub ballot_item : (name : List ℕ) (b : Ballot) → IsOpen name → GoodBallot b → IsItem (ballot_text name b)
ballot_item name b o g =
    let low = g.counter in
    bracketed_item name (decimal b.counter ++ 44 ∷ value_text b.value) o (two_inner (decimal b.counter) (value_text b.value) (decimal_item b.counter (omega arith)) (value_item b.value g.value.bytes))

from_again : (b : Ballot) → GoodBallot b → ballot_from (decimal b.counter ∷ value_text b.value ∷ []) ≡ Some b
from_again b g = rw (counter_again b.counter g.counter, value_again b.value g.value.bytes g.value.short) refl

pub ballot_again : (name : List ℕ) (b : Ballot) → GoodBallot b → ballot_in name (ballot_text name b) ≡ Some b
unfolding ballot_in
ballot_again name b g =
    let low = g.counter in
    rw (inside_again name (decimal b.counter ++ 44 ∷ value_text b.value), two_items (decimal b.counter) (value_text b.value) (decimal_item b.counter (omega arith)) (value_item b.value g.value.bytes)) (from_again b g)

abbrev pub GoodOption : Option Ballot → Type 0
GoodOption (Some b) = GoodBallot b
GoodOption None = Unit {0}

pub good_option : (o : Option Ballot) → Fits (optional ballot_kind) (option_map ballot_value o) → Leaves (optional ballot_kind) (option_map ballot_value o) → GoodOption o
good_option (Some b) f l = good_ballot b f l
good_option None f l = tt

pub optional_item : (name : List ℕ) (o : Option Ballot) → IsOpen name → GoodOption o → IsItem (optional_text name o)
optional_item name (Some b) op g = ballot_item name b op g
optional_item name None op g = plain_item (codes "-") refl refl

pub optional_again : (name : List ℕ) (o : Option Ballot) → ((text : List ℕ) → same (name ++ text) (codes "-") ≡ false) → GoodOption o → optional_in name (optional_text name o) ≡ Some o
unfolding optional_in
optional_again name (Some b) apart g = rw (apart ((decimal b.counter ++ 44 ∷ value_text b.value) ++ 41 ∷ []), ballot_again name b g) refl
optional_again name None apart g = refl

pub good_values : (vs : List (List ℕ)) → AllByRecursion (λ v. Fits value_kind v) vs → AllByRecursion (λ v. Leaves value_kind v) vs → AllByRecursion GoodValue vs
good_values [] f l = tt
good_values (v ∷ vs) f l = (record { bytes = l.0; short = f.0.0 }, good_values vs f.1 l.1)

texts_items : (vs : List (List ℕ)) → AllByRecursion GoodValue vs → AllByRecursion IsItem (map value_text vs)
texts_items [] g = tt
texts_items (v ∷ vs) g = (value_item v g.0.bytes, texts_items vs g.1)

texts_again : (vs : List (List ℕ)) → AllByRecursion GoodValue vs → AllByRecursion (λ v. value_in (value_text v) ≡ Some v) vs
texts_again [] g = tt
texts_again (v ∷ vs) g = (value_again v g.0.bytes g.0.short, texts_again vs g.1)

pub values_item : (name : List ℕ) (vs : List (List ℕ)) → IsOpen name → AllByRecursion GoodValue vs → IsItem (values_text name vs)
values_item name vs o g = bracketed_item name (listed 44 true (map value_text vs)) o (listed_inner true (map value_text vs) (texts_items vs g))

pub values_again : (name : List ℕ) (vs : List (List ℕ)) → AllByRecursion GoodValue vs → values_in name (values_text name vs) ≡ Some vs
unfolding values_in
values_again name vs g =
    rw (inside_again name (listed 44 true (map value_text vs)), items_again (map value_text vs) (texts_items vs g)) (all_again value_in value_text vs (texts_again vs g))

pub signature_again : (bytes : List ℕ) → AreBytes bytes → signature_in (bracketed (codes "sig(") (encode_lower bytes)) ≡ Some bytes
unfolding signature_in
signature_again bytes are = rw (inside_again (codes "sig(") (encode_lower bytes)) (digits_again bytes (bytes_from bytes are))
