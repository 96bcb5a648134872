-- The links that lines sent on.
-- No public clause reaches this: nothing here need be believed.
use Rattle.std.specs.Prelude.{ℕ, Bool, List}
use Rattle.std.specs.List.{list_any}
use Rattle.scp_script.specs.Script.{is_link}
use Rattle.scp_script_check.specs.declared.warned.SentLink.{SentLink}

-- the link is one of these
abbrev pub has_sent : List SentLink → ℕ → ℕ → Bool
has_sent links from to = list_any (λ (link : SentLink). is_link from to link.from link.to) links
