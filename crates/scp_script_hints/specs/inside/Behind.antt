-- What is known while the lines of a script are read.
-- No public clause reaches this: nothing here need be believed.
use Rattle.std.specs.Prelude.{◌≡◌, ℕ, Bool, List}
use Rattle.std.specs.List.{list_any}
use Rattle.std.specs.Ordering.{nat_cmp}
use Rattle.std.specs.BTreeSet.{contains}
use Rattle.scp_script.specs.declared.command.Command.{Command}
use Rattle.scp_script.specs.Script.{is_link}
use Rattle.scp_script_hints.specs.Hints.{sends_on, may_decide}
use Rattle.scp_script_hints.specs.declared.before.SentLink.{SentLink}
use Rattle.scp_script_hints.specs.declared.before.Before.{Before}

-- the link is one of these
abbrev pub has_sent : List SentLink → ℕ → ℕ → Bool
has_sent links from to = list_any (λ (link : SentLink). is_link from to link.from link.to) links

-- what is known is right: which links these lines sent on, and which nodes may have decided something by them
pub record KnowsBefore (b : Before) (done : List Command) : Type 0 where
  pub sent : (from to : ℕ) → has_sent b.sent.items from to ≡ list_any (sends_on from to) done
  pub deciding : (node : ℕ) → contains nat_cmp b.deciding node ≡ list_any (may_decide node) done
