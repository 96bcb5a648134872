-- Back from the values of the kinds to statements and envelopes.
use Rattle.std.specs.Prelude.{◌≡◌, option_map}
use Rattle.std.proofs.Common.{inl, inr}
use Rattle.scp_xdr.specs.scp_types.specs.declared.ballot.Ballot.{Ballot}
use Rattle.scp_xdr.specs.Kind.{Values}
use Rattle.scp_xdr.specs.Shared.{ballot_kind, node_of}
use Rattle.scp_envelope.specs.declared.statement.Prepare.{Prepare}
use Rattle.scp_envelope.specs.declared.statement.Confirm.{Confirm}
use Rattle.scp_envelope.specs.declared.statement.Externalize.{Externalize}
use Rattle.scp_envelope.specs.declared.statement.Nominate.{Nominate}
use Rattle.scp_envelope.specs.declared.statement.Statement.{Statement}
use Rattle.scp_envelope.specs.declared.statement.Envelope.{Envelope}
use Rattle.scp_envelope.specs.declared.statement.Pledges.{Pledges}
use Rattle.scp_envelope.specs.declared.statement.Pledges.TheVariants.{Prepare as Preparing, Confirm as Confirming, Externalize as Externalizing, Nominate as Nominating}
use Rattle.scp_envelope.specs.Kinds.{prepare_kind, confirm_kind, externalize_kind, nominate_kind, pledges_kind, statement_kind, envelope_kind, envelope_value}

-- back from a value of the kind to its ballot
abbrev pub ballot_of : Values ballot_kind → Ballot
ballot_of v = record { counter = v.0; value = v.1 }

-- back from a value of the kind to its PREPARE
abbrev pub prepare_of : Values prepare_kind → Prepare
prepare_of v = record {
  set_hash = record { 0 = v.0 };
  ballot = ballot_of v.1.0;
  prepared = option_map ballot_of v.1.1.0;
  prepared_prime = option_map ballot_of v.1.1.1.0;
  n_commit = v.1.1.1.1.0;
  n_high = v.1.1.1.1.1;
}

-- back from a value of the kind to its CONFIRM
abbrev pub confirm_of : Values confirm_kind → Confirm
confirm_of v = record {
  ballot = ballot_of v.0;
  n_prepared = v.1.0;
  n_commit = v.1.1.0;
  n_high = v.1.1.1.0;
  set_hash = record { 0 = v.1.1.1.1 };
}

-- back from a value of the kind to its EXTERNALIZE
abbrev pub externalize_of : Values externalize_kind → Externalize
externalize_of v = record { commit = ballot_of v.0; n_high = v.1.0; set_hash = record { 0 = v.1.1 } }

-- back from a value of the kind to its NOMINATE
abbrev pub nominate_of : Values nominate_kind → Nominate
nominate_of v = record { set_hash = record { 0 = v.0 }; votes = v.1.0; accepted = v.1.1 }

-- back from a value of the kind to its pledges, by the arm
abbrev pub pledges_of : Values pledges_kind → Pledges
pledges_of (inl v) = Preparing (prepare_of v)
pledges_of (inr (inl v)) = Confirming (confirm_of v)
pledges_of (inr (inr (inl v))) = Externalizing (externalize_of v)
pledges_of (inr (inr (inr (inl v)))) = Nominating (nominate_of v)
pledges_of (inr (inr (inr (inr v)))) = elim v [ ]

-- back from a value of the kind to its statement
abbrev pub statement_of : Values statement_kind → Statement
statement_of v = record { node = node_of v.0; slot = record { 0 = v.1.0 }; pledges = pledges_of v.1.1 }

-- back from a value of the kind to its envelope
abbrev pub envelope_of : Values envelope_kind → Envelope
envelope_of v = record { statement = statement_of v.0; signature = v.1 }

-- each envelope is the one that its value is read back as
abbrev pub EnvelopeIsItsValue : Type 0
EnvelopeIsItsValue = (e : Envelope) → envelope_of (envelope_value e) ≡ e

-- each value of the kind is that of the envelope that it is read back as
abbrev pub ValueIsAnEnvelopes : Type 0
ValueIsAnEnvelopes = (v : Values envelope_kind) → envelope_value (envelope_of v) ≡ v
