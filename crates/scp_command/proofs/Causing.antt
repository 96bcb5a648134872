-- Why an input is no script.
use Rattle.std.proofs.Common.{◌≡◌, inl, inr, List, ℕ}
use Rattle.scp_convert.specs.scp_prompt.specs.declared.failure.Failure.{Failure}
use Rattle.scp_script_short.specs.scp_device.specs.declared.bad.ReadFault.{ReadFault}
use Rattle.scp_script_short.specs.scp_device.specs.declared.bad.ReadFault.TheVariants as reads
use Rattle.scp_notices.specs.scp_script_check.specs.Lines.{IsNotRead}
use Rattle.scp_command.specs.declared.given.Given.{Given}
use Rattle.scp_command.specs.Given.{IsGiven}
use Rattle.scp_command.specs.Causes.{IsNoScript}
use Rattle.scp_command.specs.Serving.{IsNotPlainScript}
use Rattle.scp_command.specs.inside.Given.{read_failure, unread_script}

pub read_cause : (input : List ℕ) (given : Given) (fault : ReadFault) (failure : Failure) → IsGiven input given → IsNotRead given.text.items fault → failure ≡ unread_script given.expanded fault → IsNoScript input failure
read_cause input given reads.NoMemory failure g h e = inl e
read_cause input given (reads.Bad bad) failure g h e = inr (inr (inl (record { given = given; is_given = g; bad = bad; is_bad = h; of_bad = e })))
read_cause input given (reads.BadAt number) failure g h e = inr (inr (inr (record { given = given; is_given = g; number = number; is_bad = h; line = e })))

-- the same, of a text that is read as it is
pub plain_cause : (text : List ℕ) (fault : ReadFault) (failure : Failure) → IsNotRead text fault → failure ≡ read_failure fault → IsNotPlainScript text failure
plain_cause text reads.NoMemory failure h e = inl (e, h)
plain_cause text (reads.Bad bad) failure h e = inr (inl (bad, h, e))
plain_cause text (reads.BadAt number) failure h e = inr (inr (number, h, e))
