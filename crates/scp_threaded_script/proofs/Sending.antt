-- What lines put on a link, one line more.
use Rattle.std.proofs.Common.{◌≡◌, ◌∙◌, ℕ, ◌+◌, Bool, true, false, cond, ap, sym, refl, List, [], ◌∷◌, ◌++◌, append-nil, append_assoc, arith}
use Rattle.std.specs.Prelude.{fold, if◌then◌else◌}
use Rattle.std.proofs.lemmas.Grind.{fold-append}
use Rattle.scp_threaded_node.specs.scp_wire.specs.declared.link.LinkItem.{LinkItem}
use Rattle.scp_threaded_node.specs.scp_wire.specs.declared.link.LinkItem.TheVariants as item
use Rattle.scp_threaded_node.specs.scp_wire.specs.Connections.{conn_at}
use Rattle.scp_threaded_node.specs.scp_wire.specs.Shape.{Tail, never_open, goes}
use Rattle.scp_script.specs.declared.command.Command.{Command}
use Rattle.scp_script.specs.declared.command.Command.TheVariants.{Caps, Nodes, Set, Open, Close, Send, Propose, Round, Timer, Tick, Ask, Settle, Wait, Report}
use Rattle.scp_script.specs.Nodes.{id_of}
use Rattle.scp_script.specs.Script.{is_link, opens, lives}
use Rattle.scp_threaded_script.specs.Lines.{item_by, items_behind, items_on}

behind_more : (from to : ℕ) (before commands : List Command) (command : Command) → items_behind from to before (commands ++ command ∷ []) ≡ items_behind from to before commands ++ item_by from to (before ++ commands) command
behind_more from to before [] command = append-nil (item_by from to before command) ∙ ap (λ (b : List Command). item_by from to b command) (sym (append-nil before))
behind_more from to before (c ∷ commands) command =
    ap (λ xs. item_by from to before c ++ xs) (behind_more from to (before ++ c ∷ []) commands command)
    ∙ sym (append_assoc (item_by from to before c) (items_behind from to (before ++ c ∷ []) commands) (item_by from to ((before ++ c ∷ []) ++ commands) command))
    ∙ ap (λ (b : List Command). (item_by from to before c ++ items_behind from to (before ++ c ∷ []) commands) ++ item_by from to b command) (append_assoc before (c ∷ []) commands)

pub items_more : (from to : ℕ) (done : List Command) (command : Command) → items_on from to (done ++ command ∷ []) ≡ items_on from to done ++ item_by from to done command
items_more from to done command = behind_more from to [] done command

-- ---- how often the link was opened

abbrev pub counted : ℕ → ℕ → ℕ → Command → ℕ
counted from to n command = n + cond (opens from to command) 1 0

lives_more : (from to : ℕ) (done : List Command) (command : Command) → lives from to (done ++ command ∷ []) ≡ counted from to (lives from to done) command
lives_more from to done command = fold-append (counted from to) 0 done (command ∷ [])

life_if : (t : Tail) (x : LinkItem) (b : Bool) → (goes t x).life ≡ t.life → (fold goes t (if b then x ∷ [] else [])).life ≡ t.life + 0
life_if t x true e = omega (arith, e)
life_if t x false e = omega arith

opened_if : (t : Tail) (x : LinkItem) (b : Bool) → (goes t x).life ≡ t.life + 1 → (fold goes t (if b then x ∷ [] else [])).life ≡ t.life + cond b 1 0
opened_if t x true e = e
opened_if t x false e = omega arith

one_life : (from to : ℕ) (before : List Command) (t : Tail) (command : Command) → (fold goes t (item_by from to before command)).life ≡ counted from to t.life command
one_life from to before t (Caps capacities) = omega arith
one_life from to before t (Nodes count quorum) = omega arith
one_life from to before t (Set node set) = omega arith
one_life from to before t (Open from2 to2) = opened_if t (item.Opened (conn_at (id_of from) (id_of to) (lives from to before + 1))) (is_link from to from2 to2) refl
one_life from to before t (Close from2 to2) = life_if t (item.Closed (conn_at (id_of from) (id_of to) (lives from to before))) (is_link from to from2 to2) refl
one_life from to before t (Send from2 to2 bytes) = life_if t (item.Bytes (conn_at (id_of from) (id_of to) (lives from to before)) bytes) (is_link from to from2 to2) refl
one_life from to before t (Propose node slot value) = omega arith
one_life from to before t (Round node slot) = omega arith
one_life from to before t (Timer node slot) = omega arith
one_life from to before t (Tick node) = omega arith
one_life from to before t (Ask from2 to2 slot) = omega arith
one_life from to before t Settle = omega arith
one_life from to before t (Wait node things) = omega arith
one_life from to before t (Report node) = omega arith

life_behind : (from to : ℕ) (before commands : List Command) (t : Tail) → t.life ≡ lives from to before → (fold goes t (items_behind from to before commands)).life ≡ lives from to (before ++ commands)
life_behind from to before [] t e = e ∙ ap (lives from to) (sym (append-nil before))
life_behind from to before (c ∷ commands) t e =
    let u = fold goes t (item_by from to before c) in
    ap (λ (s : Tail). s.life) (fold-append goes t (item_by from to before c) (items_behind from to (before ++ c ∷ []) commands))
    ∙ life_behind from to (before ++ c ∷ []) commands u (one_life from to before t c ∙ ap (λ n. counted from to n c) e ∙ sym (lives_more from to before c))
    ∙ ap (lives from to) (append_assoc before (c ∷ []) commands)

pub life_after : (from to : ℕ) (done : List Command) → (fold goes never_open (items_on from to done)).life ≡ lives from to done
life_after from to done = life_behind from to [] done never_open refl
