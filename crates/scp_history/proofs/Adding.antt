-- Lines that are added one after another.
use Rattle.std.proofs.Common.{◌≡◌, ◌+◌, ◌<◌, ◌≤◌, ℕ, List, [], ◌++◌, length, drop, get_or, sym, ap, ◌∙◌, append_assoc, append-nil}
use Rattle.std.specs.Prelude.{Result, Ok, Err, OnOk}
use Rattle.std.proofs.lemmas.List.{at_drop_more, at_drop_all}
use Rattle.scp_audit.specs.scp_judged.specs.declared.messages.Message.{Message}
use Rattle.scp_audit.specs.declared.archive.Record.{Record}
use Rattle.scp_history.specs.declared.line.Line.{Line}
use Rattle.scp_history.specs.Records.{unread_line, unread_lines, place_at, message_line, message_lines}

-- one thing's lines are added, and those of the rest are left
pub add_more : (old new line rest here all : List Line) → new ≡ old ++ line → here ≡ line ++ rest → old ++ here ≡ all → new ++ rest ≡ all
add_more old new line rest here all added splits so_far = ap (λ (l : List Line). l ++ rest) added ∙ append_assoc old line rest ∙ ap (λ (l : List Line). old ++ l) (sym splits) ∙ so_far

-- two parts are added, one after the other
pub add_both : {X E : Type 0} (r : Result X E) (old mid new us cs : List Line) → mid ≡ old ++ us → OnOk r (new ≡ mid ++ cs) → OnOk r (new ≡ old ++ (us ++ cs))
add_both (Ok x) old mid new us cs p q = q ∙ ap (λ (l : List Line). l ++ cs) p ∙ append_assoc old us cs
add_both (Err e) old mid new us cs p q = tt

-- nothing is left
pub add_all : (old rest all : List Line) → rest ≡ [] → old ++ rest ≡ all → old ≡ all
add_all old rest all none so_far = sym (append-nil old) ∙ ap (λ (l : List Line). old ++ l) (sym none) ∙ so_far

pub unread_more : (file k : ℕ) (xs : List Record) (i : ℕ) (x : Record) → i < length xs → x ≡ get_or xs i x → unread_lines file k (drop i xs) ≡ unread_line file k x ++ unread_lines file (k + 1) (drop (i + 1) xs)
unread_more file k xs i x lt e = at_drop_more (unread_lines file k) xs i x lt ∙ ap (λ (y : Record). unread_line file k y ++ unread_lines file (k + 1) (drop (i + 1) xs)) (sym e)

pub unread_none : (file k : ℕ) (xs : List Record) (i : ℕ) → length xs ≤ i → unread_lines file k (drop i xs) ≡ []
unread_none file k xs i long = at_drop_all (unread_lines file k) xs i long

pub message_more : (ledger file k : ℕ) (xs : List Message) (i : ℕ) (x : Message) → i < length xs → x ≡ get_or xs i x → message_lines ledger file k (drop i xs) ≡ message_line ledger (place_at file k) x ++ message_lines ledger file (k + 1) (drop (i + 1) xs)
message_more ledger file k xs i x lt e = at_drop_more (message_lines ledger file k) xs i x lt ∙ ap (λ (y : Message). message_line ledger (place_at file k) y ++ message_lines ledger file (k + 1) (drop (i + 1) xs)) (sym e)

pub message_none : (ledger file k : ℕ) (xs : List Message) (i : ℕ) → length xs ≤ i → message_lines ledger file k (drop i xs) ≡ []
message_none ledger file k xs i long = at_drop_all (message_lines ledger file k) xs i long
