-- An envelope and its value say the same.
use Rattle.std.proofs.Common.{◌≡◌, Option, Some, None, inl, inr, refl, ap}
use Rattle.std.specs.Prelude.{option_map}
use Rattle.scp_xdr.specs.scp_types.specs.declared.ballot.Ballot.{Ballot}
use Rattle.scp_xdr.specs.Kind.{Values}
use Rattle.scp_xdr.specs.Shared.{ballot_kind, ballot_value}
use Rattle.scp_xdr.proofs.Again.{node_value_again}
use Rattle.scp_envelope.specs.declared.statement.Prepare.{Prepare}
use Rattle.scp_envelope.specs.declared.statement.Pledges.{Pledges}
use Rattle.scp_envelope.specs.declared.statement.Pledges.TheVariants.{Prepare as Preparing, Confirm as Confirming, Externalize as Externalizing, Nominate as Nominating}
use Rattle.scp_envelope.specs.Kinds.{prepare_kind, prepare_value, pledges_kind, pledges_value}
use Rattle.scp_envelope.specs.Envelopes.{ballot_of, prepare_of, pledges_of, EnvelopeIsItsValue, ValueIsAnEnvelopes}

optional_again : (b : Option Ballot) → option_map ballot_of (option_map ballot_value b) ≡ b
optional_again None = refl
optional_again (Some b) = refl

optional_value : (v : Option (Values ballot_kind)) → option_map ballot_value (option_map ballot_of v) ≡ v
optional_value None = refl
optional_value (Some v) = refl

prepare_again : (p : Prepare) → prepare_of (prepare_value p) ≡ p
prepare_again p = λ i. record p { prepared = optional_again p.prepared i; prepared_prime = optional_again p.prepared_prime i }

prepare_value_again : (v : Values prepare_kind) → prepare_value (prepare_of v) ≡ v
prepare_value_again v = λ i. (v.0, (v.1.0, (optional_value v.1.1.0 i, (optional_value v.1.1.1.0 i, v.1.1.1.1))))

pledges_again : (p : Pledges) → pledges_of (pledges_value p) ≡ p
pledges_again (Preparing p) = ap Preparing (prepare_again p)
pledges_again (Confirming p) = refl
pledges_again (Externalizing p) = refl
pledges_again (Nominating p) = refl

pledges_value_again : (v : Values pledges_kind) → pledges_value (pledges_of v) ≡ v
pledges_value_again (inl v) = λ i. inl (prepare_value_again v i)
pledges_value_again (inr (inl v)) = refl
pledges_value_again (inr (inr (inl v))) = refl
pledges_value_again (inr (inr (inr (inl v)))) = refl
pledges_value_again (inr (inr (inr (inr v)))) = elim v [ ]

pub envelope_again : EnvelopeIsItsValue
envelope_again e = λ i. record e { statement = record e.statement { pledges = pledges_again e.statement.pledges i } }

pub envelope_value_again : ValueIsAnEnvelopes
envelope_value_again v = λ i. ((node_value_again v.0.0 i, (v.0.1.0, pledges_value_again v.0.1.1 i)), v.1)
