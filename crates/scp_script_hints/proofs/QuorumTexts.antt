-- Lines on the quorum sets of a script.
use Rattle.std.proofs.Common.{◌≡◌, ℕ, ◌+◌, ◌<◌, ◌≤◌, Bool, true, false, List, [], ◌∷◌, ◌++◌, take, map, length, get_or, Option, Some, None, inl, inr, codes, arith, refl, sym, ◌∙◌, ap, subst, append_assoc, add-one}
use Rattle.std.specs.Prelude.{IfSome, IfNone}
use Rattle.std.specs.List.{flat_map}
use Rattle.std.specs.BTreeSet.{BTreeSet}
use Rattle.std.proofs.lemmas.Grind.{common_steps, flat_map-append}
use Rattle.std.proofs.lemmas.List.{append-nil, map-append, take_more}
use Rattle.scp_script.specs.scp_types.specs.declared.names.NodeId.{NodeId}
use Rattle.scp_script.specs.scp_quorum.specs.NodeSet.{is_in}
use Rattle.scp_script.specs.scp_quorum.specs.Satisfies.{AreDisjoint}
use Rattle.scp_script.specs.declared.command.Command.{Command}
use Rattle.scp_script.specs.Nodes.{id_of, numbers, set_at}
use Rattle.scp_text.specs.Sets.{node_text}
use Rattle.scp_quorum_search.specs.declared.member.Member.{Member}
use Rattle.scp_quorum_search.specs.Quorums.{IsQuorumOf, Intersect}
use Rattle.scp_script_hints.specs.Told.{nodes_text, TellsApart, TellsDisjoint, TellsHalting, TellAllHalting}
use Rattle.scp_script_hints.specs.inside.Told.{next_text, none_text, found_text, apart_text}

-- the member of a number
abbrev pub member_of : List Command → ℕ → Member
member_of commands number = record { node = id_of number; set = set_at number commands }

pub members_more : (commands : List Command) (n : ℕ) → map (member_of commands) (numbers n) ++ member_of commands (n + 1) ∷ [] ≡ map (member_of commands) (numbers (n + 1))
members_more commands n =
    let one : numbers (n + 1) ≡ numbers n ++ (n + 1) ∷ [] = ap numbers (add-one n) ∙ ap (λ k. numbers n ++ k ∷ []) (sym (add-one n)) in
    sym (map-append (member_of commands) (numbers n) ((n + 1) ∷ [])) ∙ ap (map (member_of commands)) (sym one)

-- a text behind a comma
abbrev pub behind : NodeId → List ℕ
behind v = codes "," ++ node_text v

-- what is still to be written of the nodes that are left
abbrev pub remaining : Bool → List NodeId → List ℕ
remaining true left = nodes_text left
remaining false left = flat_map behind left

next_is : (first : Bool) (v : NodeId) (rest : List NodeId) → remaining first (v ∷ rest) ≡ next_text first v ++ remaining false rest
next_is true v rest = refl
next_is false v rest = refl

none_is : (first : Bool) → remaining first [] ≡ none_text first
none_is true = refl
none_is false = refl

pub writing_more : (all old new : List ℕ) (first : Bool) (v : NodeId) (left rest : List NodeId) → left ≡ v ∷ rest → new ≡ old ++ next_text first v → old ++ remaining first left ≡ all → new ++ remaining false rest ≡ all
writing_more all old new first v left rest e added so_far =
    ap (λ t. t ++ remaining false rest) added ∙ append_assoc old (next_text first v) (remaining false rest)
    ∙ ap (λ t. old ++ t) (sym (next_is first v rest)) ∙ ap (λ l. old ++ remaining first l) (sym e) ∙ so_far

pub writing_end : (all old new : List ℕ) (first : Bool) (left : List NodeId) → left ≡ [] → new ≡ old ++ none_text first → old ++ remaining first left ≡ all → new ≡ all
writing_end all old new first left e added so_far =
    added ∙ ap (λ t. old ++ t) (sym (none_is first)) ∙ ap (λ l. old ++ remaining first l) (sym e) ∙ so_far

pub all_halting_more : (members done : List Member) (m : Member) (front back : List ℕ) → TellAllHalting members done front → TellsHalting members m.node back → TellAllHalting members (done ++ m ∷ []) (front ++ back)
all_halting_more members [] m front back empty tells = (back, [], tells, refl, ap (λ t. t ++ back) empty ∙ sym (append-nil back))
all_halting_more members (n ∷ done) m front back (one, rest, first, others, is) tells =
    (one, rest ++ back, first, all_halting_more members done m rest back others tells, ap (λ t. t ++ back) is ∙ append_assoc one rest back)

pub lines_more : {X : Type 0} (f : X → List ℕ) (xs : List X) (i : ℕ) (x : X) (old new : List ℕ) → i < length xs → x ≡ get_or xs i x → new ≡ old ++ f x → old ≡ flat_map f (take i xs) → new ≡ flat_map f (take (i + 1) xs)
lines_more f xs i x old new lt is added so_far =
    added ∙ ap (λ t. t ++ f x) so_far ∙ ap (λ y. flat_map f (take i xs) ++ f y) is
    ∙ ap (λ t. flat_map f (take i xs) ++ t) (sym (append-nil (f (get_or xs i x))))
    ∙ sym (flat_map-append f (take i xs) (get_or xs i x ∷ []))
    ∙ ap (λ ys. flat_map f ys) (sym (take_more xs i x lt))

pub lines_all : {X : Type 0} (f : X → List ℕ) (xs : List X) (i : ℕ) (text : List ℕ) → length xs ≤ i → text ≡ flat_map f (take i xs) → text ≡ flat_map f xs
lines_all f xs i text end is =
    let whole : take i xs ≡ xs = grind (arith, common_steps) in
    is ∙ ap (λ ys. flat_map f ys) whole

pub all_halting_step : (members : List Member) (i : ℕ) (m : Member) (old new text : List ℕ) → i < length members → m ≡ get_or members i m → new ≡ old ++ text → TellsHalting members m.node text → TellAllHalting members (take i members) old → TellAllHalting members (take (i + 1) members) new
all_halting_step members i m old new text lt is added tells so_far =
    let P : List ℕ → Type 0 = λ t. TellAllHalting members (take (i + 1) members) t in
    let Q : List Member → Type 0 = λ ms. TellAllHalting members ms (old ++ text) in
    let one : take i members ++ m ∷ [] ≡ take (i + 1) members = ap (λ n. take i members ++ n ∷ []) is ∙ sym (take_more members i m lt) in
    subst P (sym added) (subst Q one (all_halting_more members (take i members) m old text so_far tells))

pub all_halting_end : (members : List Member) (i : ℕ) (text : List ℕ) → length members ≤ i → TellAllHalting members (take i members) text → TellAllHalting members members text
all_halting_end members i text end tells =
    let whole : take i members ≡ members = grind (arith, common_steps) in
    let Q : List Member → Type 0 = λ ms. TellAllHalting members ms text in
    subst Q whole tells

pub tells_found : (members : List Member) (found : Option (BTreeSet NodeId × BTreeSet NodeId)) (text : List ℕ)
    → IfSome found (λ two. IsQuorumOf members (is_in two.0)) → IfSome found (λ two. IsQuorumOf members (is_in two.1)) → IfSome found (λ two. AreDisjoint (is_in two.0) (is_in two.1)) → IfNone found (Intersect members)
    → text ≡ found_text found → TellsDisjoint members text
tells_found members None text one other apart none is = inl (none, is)
tells_found members (Some two) text one other apart none is = inr (two.0, two.1, one, other, apart, is)

pub tells_apart : (members : List Member) (found : Option (BTreeSet NodeId × BTreeSet NodeId)) (text : List ℕ)
    → IfSome found (λ two. IsQuorumOf members (is_in two.0)) → IfSome found (λ two. IsQuorumOf members (is_in two.1)) → IfSome found (λ two. AreDisjoint (is_in two.0) (is_in two.1)) → IfNone found (Intersect members)
    → text ≡ apart_text found → TellsApart members text
tells_apart members None text one other apart none is = inl (none, is)
tells_apart members (Some two) text one other apart none is = inr (two.0, two.1, one, other, apart, is)
