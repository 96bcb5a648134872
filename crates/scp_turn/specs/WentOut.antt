-- What was sent over a link is exactly what the ledger theorem speaks of.
use Rattle.std.specs.Prelude.{ℕ, ◌≡◌, List, [], ◌∷◌, flat_map, nat_eq, if◌then◌else◌}
use Rattle.scp_core.specs.History.{Exchange}
use Rattle.scp_core.specs.Sent.{sent_to}
use Rattle.scp_turn.specs.declared.sending.Sending.{Sending}
use Rattle.scp_turn.specs.Episode.{sent_in}

-- the part of it that went over this link
abbrev pub bytes_over : ℕ → List Sending → List (List ℕ)
bytes_over link sent = flat_map (λ (s : Sending). if nat_eq s.link link then s.bytes ∷ [] else []) sent

-- what was sent over each link, in order, is what was sent to its peer
abbrev pub SendingsAreSent : Type 0
SendingsAreSent = (heard : List Exchange) (link : ℕ) → bytes_over link (sent_in heard) ≡ sent_to link heard
