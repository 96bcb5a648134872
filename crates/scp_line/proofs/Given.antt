-- The commands that the nodes of a script are given are those of its lines.
use Rattle.std.proofs.Common.{◌≡◌, ◌-◌, ℕ, zero, suc, Bool, true, false, List, [], ◌∷◌, ◌++◌, nat_eq, refl, sym, ◌∙◌, ap, append-nil, inl, inr, ⊎_elim}
use Rattle.std.specs.Prelude.{if◌then◌else◌}
use Rattle.std.specs.List.{AllByRecursion}
use Rattle.std.proofs.lemmas.Grind.{flat_map-append}
use Rattle.scp_turn.specs.scp_types.specs.declared.limits.TheConstants.{ROUND_LIMIT}
use Rattle.scp_turn.specs.scp_wire.specs.declared.link.Command.{Command as LocalCommand}
use Rattle.scp_turn.specs.scp_wire.specs.declared.link.Command.TheVariants as local
use Rattle.scp_turn.specs.scp_wire.specs.declared.link.Inbound.TheVariants.{Local}
use Rattle.scp_turn.specs.scp_pending.specs.Endings.{passing, passing_command, commands_in}
use Rattle.scp_turn.specs.scp_core.specs.declared.event.Event.{Event}
use Rattle.scp_turn.specs.scp_core.specs.declared.event.Event.TheVariants as event
use Rattle.scp_turn.specs.scp_core.specs.declared.event.Reply.{Reply}
use Rattle.scp_turn.specs.scp_core.specs.declared.event.Reply.TheVariants.{Full, Accepted, Sent}
use Rattle.scp_turn.specs.Commands.{command_given, given_by, given_in}
use Rattle.scp_turn.specs.scp_core.specs.History.{Exchange}
use Rattle.scp_turn.specs.Turn.{reader_events, stage_events}
use Rattle.scp_turn.specs.Heard.{Nodes, Heard, exchange_at, past_at, IsOne, InOrder}
use Rattle.scp_turn.specs.Rounds.{link_of, drain_of, send_of, HearsAll, Carries, IsTurn, IsRound, IsMovingRound, AreRounds, RestsAs}
use Rattle.scp_threaded_script.specs.Lines.{command_by, commands_for}
use Rattle.scp_report.specs.scp_script.specs.declared.command.Command.{Command}
use Rattle.scp_report.specs.scp_script.specs.declared.command.Command.TheVariants as script
use Rattle.scp_report.specs.scp_script.specs.Script.{node_count}
use Rattle.scp_line.specs.Commands.{LinesAreGiven}
use Rattle.scp_line.specs.Play.{IsOffered, HearsAs, Played, driven_in}

-- ---- what the node of a number is given

abbrev given_at : ℕ → List Heard → List LocalCommand
given_at n heard = given_in (past_at n heard)

given_on : (n : ℕ) (x y : List Heard) → given_at n (x ++ y) ≡ given_at n x ++ given_at n y
given_on n x y = ap (λ (p : List Exchange). given_in p) (flat_map-append (exchange_at n) x y) ∙ flat_map-append (λ (e : Exchange). given_by e.0 e.1) (past_at n x) (past_at n y)

split_given : (n : ℕ) (x first rest : List Heard) → x ≡ first ++ rest → given_at n x ≡ given_at n first ++ given_at n rest
split_given n x first rest e = ap (λ (l : List Heard). given_at n l) e ∙ given_on n first rest

-- by one exchange
one_given : (n : ℕ) (h : Heard) → given_at n (h ∷ []) ≡ (if nat_eq h.node n then given_by h.event h.reply else [])
one_given n h = by_test (nat_eq h.node n)
  where
    by_test : (b : Bool) → given_in ((if b then (h.event, h.reply) ∷ [] else []) ++ []) ≡ (if b then given_by h.event h.reply else [])
    by_test true = append-nil (given_by h.event h.reply)
    by_test false = refl

-- ---- nothing is given

no_choice : (b : Bool) → ◌≡◌ {A = List LocalCommand} (if b then [] else []) []
no_choice true = refl
no_choice false = refl

nothing_none : (n : ℕ) (x : List Heard) → x ≡ [] → given_at n x ≡ []
nothing_none n x e = ap (λ (l : List Heard). given_at n l) e

both_none : (n : ℕ) (x first rest : List Heard) → x ≡ first ++ rest → given_at n first ≡ [] → given_at n rest ≡ [] → given_at n x ≡ []
both_none n x first rest e p q = split_given n x first rest e ∙ ap (λ (l : List LocalCommand). l ++ given_at n rest) p ∙ q

one_none : (n : ℕ) (h : Heard) (a : Nodes) (x : List Heard) (b : Nodes) → given_by h.event h.reply ≡ [] → IsOne h a x b → given_at n x ≡ []
one_none n h a x b none p =
    ap (λ (l : List Heard). given_at n l) p.0
    ∙ one_given n h
    ∙ ap (λ (l : List LocalCommand). if nat_eq h.node n then l else []) none
    ∙ no_choice (nat_eq h.node n)

-- ---- while nodes come to rest

-- the event gives no command
abbrev IsQuiet : Event → Type 0
IsQuiet e = command_given e ≡ []

quiet_reply : (e : Event) (r : Reply) → IsQuiet e → given_by e r ≡ []
quiet_reply e Accepted q = q
quiet_reply e r q = refl

all_on : {X : Type 0} (P : X → Type 0) (xs ys : List X) → AllByRecursion P xs → AllByRecursion P ys → AllByRecursion P (xs ++ ys)
all_on P [] ys p q = q
all_on P (x ∷ xs) ys p q = (p.0, all_on P xs ys p.1 q)

readers_are_quiet : (links : ℕ) → AllByRecursion IsQuiet (reader_events links)
readers_are_quiet zero = tt
readers_are_quiet (suc link) = all_on IsQuiet (reader_events link) (event.ReaderTake link ∷ event.ReaderPut link ∷ []) (readers_are_quiet link) (refl, (refl, tt))

stages_are_quiet : (links : ℕ) → AllByRecursion IsQuiet (stage_events links)
stages_are_quiet links = all_on IsQuiet (reader_events links) (event.PendTake ∷ event.PendPut ∷ event.SlotTake ∷ event.SlotPut ∷ event.ApplyTake ∷ []) (readers_are_quiet links) (refl, (refl, (refl, (refl, (refl, tt)))))

all_hear_none : (n number : ℕ) (events : List Event) → AllByRecursion IsQuiet events → (a : Nodes) (x : List Heard) (b : Nodes) → HearsAll number events a x b → given_at n x ≡ []
all_hear_none n number [] quiet a x b p = nothing_none n x p.0
all_hear_none n number (e ∷ events) quiet a x b p =
    both_none n x p.first p.rest p.split
    (one_none n (record { node = number; event = e; reply = p.one.0 }) a p.first p.mid (quiet_reply e p.one.0 quiet.0) p.one.1)
    (all_hear_none n number events quiet.1 p.mid p.rest b p.two)

in_order_none : (n : ℕ) (Is : ℕ → Nodes → List Heard → Nodes → Type 0) → ((k : ℕ) (a : Nodes) (x : List Heard) (b : Nodes) → Is k a x b → given_at n x ≡ []) → (k : ℕ) (a : Nodes) (x : List Heard) (b : Nodes) → InOrder Is k a x b → given_at n x ≡ []
in_order_none n Is f zero a x b p = nothing_none n x p.0
in_order_none n Is f (suc k) a x b p = both_none n x p.first p.rest p.split (in_order_none n Is f k a p.first p.mid p.one) (f (suc k) p.mid p.rest b p.two)

carries_none : (n : ℕ) (driven : List Bool) (from to : ℕ) (a : Nodes) (x : List Heard) (b : Nodes) → Carries driven from to a x b → given_at n x ≡ []
carries_none n driven from to a x b (inl p) = nothing_none n x p.1.0
carries_none n driven from to a x b (inr p) = ⊎_elim
    (λ dry. one_none n (drain_of from to dry.0) a x b (quiet_reply (event.Drain (link_of to from)) dry.0 refl) dry.2)
    (λ sent. both_none n x sent.1.first sent.1.rest sent.1.split
    (one_none n (drain_of from to (Sent sent.0)) a sent.1.first sent.1.mid refl sent.1.one)
    (one_none n (send_of from to sent.0) sent.1.mid sent.1.rest b refl sent.1.two))
    p.2

turn_none : (n : ℕ) (driven : List Bool) (count number : ℕ) (a : Nodes) (x : List Heard) (b : Nodes) → IsTurn driven count number a x b → given_at n x ≡ []
turn_none n driven count number a x b p =
    both_none n x p.first p.rest p.split
    (all_hear_none n number (stage_events (count - 1)) (stages_are_quiet (count - 1)) a p.first p.mid p.one)
    (in_order_none n (Carries driven number) (λ to. carries_none n driven number to) count p.mid p.rest b p.two)

round_none : (n : ℕ) (driven : List Bool) (count : ℕ) (a : Nodes) (x : List Heard) (b : Nodes) → IsRound driven count a x b → given_at n x ≡ []
round_none n driven count a x b p = in_order_none n (IsTurn driven count) (turn_none n driven count) count a x b p

rounds_none : (n : ℕ) (driven : List Bool) (count rounds : ℕ) (a : Nodes) (x : List Heard) (b : Nodes) → AreRounds driven count rounds a x b → given_at n x ≡ []
rounds_none n driven count rounds a x b p = in_order_none n (λ round. IsMovingRound driven count) (λ round o heard m q. round_none n driven count o heard m q.0) rounds a x b p

rests_none : (n : ℕ) (driven : List Bool) (count : ℕ) (calm : Bool) (a : Nodes) (x : List Heard) (b : Nodes) → RestsAs driven count calm a x b → given_at n x ≡ []
rests_none n driven count true a x b p = both_none n x p.2.first p.2.rest p.2.split (rounds_none n driven count p.0 a p.2.first p.2.mid p.2.one) (round_none n driven count p.2.mid p.2.rest b p.2.two.0)
rests_none n driven count false a x b p = rounds_none n driven count ROUND_LIMIT a x b p

-- ---- lines

-- a line's event
offered_given : (n : ℕ) (driven : List Bool) (count : ℕ) (calm : Bool) (offered : ℕ × Event) (a : Nodes) (x : List Heard) (b : Nodes) → IsOffered driven count calm offered a x b → given_at n x ≡ (if nat_eq offered.0 n then command_given offered.1 else [])
offered_given n driven count calm offered a x b (inl p) = ap (λ (l : List Heard). given_at n l) p.1.0 ∙ one_given n (record { node = offered.0; event = offered.1; reply = Accepted })
offered_given n driven count calm offered a x b (inr t) =
    split_given n x t.first t.rest t.split
    ∙ ap (λ (l : List LocalCommand). l ++ given_at n t.rest) (one_none n (record { node = offered.0; event = offered.1; reply = Full }) a t.first t.mid refl t.one)
    ∙ split_given n t.rest t.two.first t.two.rest t.two.split
    ∙ ap (λ (l : List LocalCommand). l ++ given_at n t.two.rest) (rests_none n driven count calm t.mid t.two.first t.two.mid t.two.one)
    ∙ ap (λ (l : List Heard). given_at n l) t.two.two.0
    ∙ one_given n (record { node = offered.0; event = offered.1; reply = Accepted })

told_given : (b : Bool) (c : LocalCommand) → (if b then passing_command c else []) ≡ commands_in (if b then Local c ∷ [] else [])
told_given true c = sym (append-nil (passing_command c))
told_given false c = refl

line_given : (n : ℕ) (driven : List Bool) (count : ℕ) (calm : Bool) (command : Command) (a : Nodes) (x : List Heard) (b : Nodes) → HearsAs driven count calm command a x b → given_at n x ≡ commands_in (command_by n command)
line_given n driven count calm (script.Caps capacities) a x b p = nothing_none n x p.1.0
line_given n driven count calm (script.Nodes nodes quorum) a x b p = nothing_none n x p.1.0
line_given n driven count calm (script.Set at set) a x b p = nothing_none n x p.1.0
line_given n driven count calm (script.Open from to) a x b p = offered_given n driven count calm (to, event.Open (link_of from to)) a x b p ∙ no_choice (nat_eq to n)
line_given n driven count calm (script.Close from to) a x b p = offered_given n driven count calm (to, event.Close (link_of from to)) a x b p ∙ no_choice (nat_eq to n)
line_given n driven count calm (script.Send from to bytes) a x b p = offered_given n driven count calm (to, event.Send (link_of from to) bytes) a x b p ∙ no_choice (nat_eq to n)
line_given n driven count calm (script.Propose at slot value) a x b p = offered_given n driven count calm (at, event.Local (local.Propose (record { 0 = slot }) value)) a x b p ∙ told_given (nat_eq at n) (local.Propose (record { 0 = slot }) value)
line_given n driven count calm (script.Round at slot) a x b p = offered_given n driven count calm (at, event.Local (local.Round (record { 0 = slot }))) a x b p ∙ told_given (nat_eq at n) (local.Round (record { 0 = slot }))
line_given n driven count calm (script.Timer at slot) a x b p = offered_given n driven count calm (at, event.Local (local.Timer (record { 0 = slot }))) a x b p ∙ told_given (nat_eq at n) (local.Timer (record { 0 = slot }))
line_given n driven count calm (script.Tick at) a x b p = offered_given n driven count calm (at, event.Local local.Tick) a x b p ∙ told_given (nat_eq at n) local.Tick
line_given n driven count calm (script.Ask from to slot) a x b p = offered_given n driven count calm (from, event.Local (local.Ask (link_of to from) (record { 0 = slot }))) a x b p ∙ told_given (nat_eq from n) (local.Ask (link_of to from) (record { 0 = slot }))
line_given n driven count calm script.Settle a x b p = rests_none n driven count calm a x b p
line_given n driven count calm (script.Wait at things) a x b p = rests_none n driven count calm a x b p
line_given n driven count calm (script.Report at) a x b p = nothing_none n x p.1.0

played_given : (n : ℕ) (driven : List Bool) (count : ℕ) (done : List Command) (a : Nodes) (x : List Heard) (b : Nodes) → Played driven count done a x b → given_at n x ≡ commands_in (commands_for n done)
played_given n driven count [] a x b p = nothing_none n x p.0
played_given n driven count (command ∷ commands) a x b p =
    split_given n x p.first p.rest p.split
    ∙ ap (λ (l : List LocalCommand). l ++ given_at n p.rest) (line_given n driven count p.one.0 command a p.first p.mid p.one.1)
    ∙ ap (λ (l : List LocalCommand). commands_in (command_by n command) ++ l) (played_given n driven count commands p.mid p.rest b p.two)
    ∙ sym (flat_map-append passing (command_by n command) (commands_for n commands))

pub lines_are_given : LinesAreGiven
lines_are_given commands done heard nodes played number = played_given number (driven_in commands) (node_count commands) done played.first heard nodes played.played
