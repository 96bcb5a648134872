-- What surely fits a link.
use Rattle.std.proofs.Common.{ℕ, ◌+◌, ◌*◌, ◌≤◌, List, [], ◌∷◌, length, subst, arith, inl, inr}
use Rattle.std.specs.Prelude.{Option, Some, None, option_map, Result, Ok, Err, IfOk, ◌++◌}
use Rattle.std.specs.List.{AllByRecursion, sum_by}
use Rattle.std.proofs.lemmas.List.Sums.{sum_by-cons}
use Rattle.scp_quorum.specs.scp_types.specs.declared.ballot.Ballot.{Ballot}
use Rattle.scp_quorum.specs.scp_types.specs.declared.fault.Fault.{Fault}
use Rattle.scp_quorum.specs.scp_types.specs.declared.names.Slot.{Slot}
use Rattle.scp_quorum.specs.scp_xdr.specs.Kind.{Values, Fits, Spells, optional}
use Rattle.scp_quorum.specs.scp_xdr.specs.Length.{padded_len, spelled_len}
use Rattle.scp_quorum.specs.scp_xdr.specs.Shared.{value_kind, ballot_kind, ballot_value}
use Rattle.scp_quorum.specs.scp_xdr.proofs.Lengths.{length_is}
use Rattle.scp_envelope.specs.Kinds.{envelope_kind, envelope_value, pledges_kind, pledges_value, list_kind}
use Rattle.scp_envelope.specs.declared.statement.Pledges.{Pledges}
use Rattle.scp_envelope.specs.declared.statement.Pledges.TheVariants.{Prepare, Confirm, Externalize, Nominate}
use Rattle.scp_wire.specs.declared.message.Message.{Message}
use Rattle.scp_wire.specs.declared.message.Message.TheVariants.{Envelope, GetSet, Set, NoSet, GetRecord, Record, Records}
use Rattle.scp_wire.specs.Message.{message_kind, message_value, SpellsMessage, FitsMessage, HasRanges}
use Rattle.scp_envelope.specs.Short.{HasShortLists}
use Rattle.scp_wire.specs.Fitting.{IsFitting, NamesFit, SaneSetsFit, ShortRecordsFit, ShortEnvelopesFit, WhatIsSpeltFits}
use Rattle.scp_wire.proofs.Limits.{limits_are}

pub names : NamesFit
names = λ hash slot. (λ b. b, λ b. b, λ b. b)

pub set : SaneSetsFit
set = λ q sane. λ b. elim b [
  | inl unfit ↦ unfit sane.fits
  | inr longer ↦ omega (arith, longer, sane.short)
]

pub short_record : ShortRecordsFit
short_record = λ slot value le. λ longer. omega (arith, longer, le)

padding_few : (n : ℕ) → padded_len n ≤ n + 3
unfolding padded_len
padding_few n = omega arith

ballot_size : (b : Ballot) → Fits ballot_kind (ballot_value b) → spelled_len ballot_kind (ballot_value b) ≤ 4107
ballot_size b fits = omega (arith, padding_few (length b.value), fits.1.0)

optional_size : (o : Option Ballot) → Fits (optional ballot_kind) (option_map ballot_value o) → spelled_len (optional ballot_kind) (option_map ballot_value o) ≤ 4111
optional_size None fits = omega arith
optional_size (Some b) fits = omega (arith, ballot_size b fits)

values_size : (vs : List (List ℕ)) → AllByRecursion (λ v. Fits value_kind v) vs → sum_by (λ v. spelled_len value_kind v) vs ≤ 4103 * length vs
values_size [] fits = omega arith
values_size (v ∷ vs) fits = omega (arith, padding_few (length v), fits.0.0, values_size vs fits.1, sum_by-cons (λ v. spelled_len value_kind v) v vs)

list_size : (vs : List (List ℕ)) → Fits list_kind vs → length vs ≤ 7 → spelled_len list_kind vs ≤ 28725
list_size vs fits few = omega (arith, values_size vs fits.2, few)

pledges_size : (p : Pledges) → Fits pledges_kind (pledges_value p) → HasShortLists p → spelled_len pledges_kind (pledges_value p) ≤ 57489
pledges_size (Prepare p) fits few =
    let f = fits.1 in
    omega (arith, padding_few (length p.set_hash.0), f.0, ballot_size p.ballot f.1.0, optional_size p.prepared f.1.1.0, optional_size p.prepared_prime f.1.1.1.0)
pledges_size (Confirm p) fits few =
    let f = fits.1.1 in
    omega (arith, padding_few (length p.set_hash.0), f.1.1.1.1, ballot_size p.ballot f.0)
pledges_size (Externalize p) fits few =
    let f = fits.1.1.1 in
    omega (arith, padding_few (length p.set_hash.0), f.1.1, ballot_size p.commit f.0)
pledges_size (Nominate p) fits few =
    let f = fits.1.1.1.1 in
    omega (arith, padding_few (length p.set_hash.0), f.0, list_size p.votes f.1.0 few.0, list_size p.accepted f.1.1 few.1)

pub short_envelope : ShortEnvelopesFit
short_envelope = λ e fits few. λ b. elim b [
  | inl unfit ↦ unfit fits
  | inr longer ↦ (
      let s = e.value.statement in
      let pledges = pledges_size s.pledges fits.0.1.1 few in
      omega (arith, longer, length_is envelope_kind (envelope_value e.value), pledges, padding_few (length s.node.0), fits.0.0.1, padding_few (length e.value.signature), fits.1.0))
]

fits_message : (bytes : List ℕ) (v : Values message_kind) → SpellsMessage bytes v → FitsMessage v
fits_message bytes v s = record { fits = s.spells.fits; within = subst (λ (text : List ℕ). length text ≤ 65536) s.spells.spelt s.within }

spelt_by : (bytes : List ℕ) (m : Message) → HasRanges m → SpellsMessage bytes (message_value m) → IsFitting m
spelt_by bytes m range s = λ b. (limits_are m range).1 b (fits_message bytes (message_value m) s)

spelt_fits : (bytes : List ℕ) (m : Message) → SpellsMessage bytes (message_value m) → IsFitting m
spelt_fits bytes (Envelope e) s = spelt_by bytes (Envelope e) tt s
spelt_fits bytes (GetSet hash) s = λ b. b
spelt_fits bytes (Set q) s = spelt_by bytes (Set q) tt s
spelt_fits bytes (NoSet hash) s = λ b. b
spelt_fits bytes (GetRecord slot) s = λ b. b
spelt_fits bytes (Record slot value) s = λ longer. omega (arith, longer, s.spells.fits.1.1.1.1.1.1.1.0)
spelt_fits bytes (Records first values) s = spelt_by bytes (Records first values) s.spells.fits.1.1.1.1.1.1.1.0 s

pub spelt : WhatIsSpeltFits
spelt = spelt_fits

-- what was decoded
pub decoded_fits : (bytes : List ℕ) (r : Result Message Fault) → length bytes ≤ 65536 → IfOk r (λ m. Spells message_kind bytes (message_value m)) → IfOk r IsFitting
decoded_fits bytes (Ok m) within s = spelt_fits bytes m (record { within = within; spells = s })
decoded_fits bytes (Err f) within s = tt

-- ---- the records of a batch that fits

short_at : (before : List (List ℕ)) (v : List ℕ) (later : List (List ℕ)) → AllByRecursion (λ x. Fits value_kind x) (before ++ v ∷ later) → length v ≤ 4096
short_at [] v later fits = fits.0.0
short_at (w ∷ ws) v later fits = short_at ws v later fits.1

pub one_of_batch : (first slot : Slot) (before : List (List ℕ)) (v : List ℕ) (later : List (List ℕ)) → IsFitting (Records first (before ++ v ∷ later)) → IsFitting (Record slot v)
one_of_batch first slot before v later fits = λ longer. fits (inl (λ f. omega (arith, longer, short_at before v later f.5)))
