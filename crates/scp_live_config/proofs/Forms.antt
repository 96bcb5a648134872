-- Forms that are alike are of the same.
use Rattle.std.proofs.Common.{◌≡◌, ℕ, ◌<◌, ◌^◌, List, [], ◌∷◌, ◌++◌, length, drop, flat_map, refl, sym, ap, ◌∙◌, arith, append_assoc}
use Rattle.std.specs.List.{AllByRecursion}
use Rattle.scp_quorum.specs.scp_types.specs.declared.names.NodeId.{NodeId}
use Rattle.scp_quorum.specs.scp_xdr.specs.Kind.{Kind, uint64, Values, Fits, spelling, long_word}
use Rattle.scp_quorum.specs.QuorumTree.{QuorumTree}
use Rattle.scp_quorum.specs.QuorumKind.{set_kind, set_value, set_spelling, quorum_set_of, SetIsItsValue}
use Rattle.scp_live_config.specs.Names.{Identity}
use Rattle.scp_live_config.specs.Form.{identity_form, identities_form, capacities_form, form, IsFormed, OneFormOneMeaning}
use Rattle.scp_live_config.specs.declared.settings.Settings.{Settings}
use Rattle.scp_quorum.specs.scp_types.specs.declared.capacities.Capacities.{Capacities}

-- no spelling begins another
abbrev pub NoneBegins : Type 0
NoneBegins = (k : Kind) (v w : Values k) (x y : List ℕ) → Fits k v → Fits k w → spelling k v ++ x ≡ spelling k w ++ y → (v ≡ w) × (x ≡ y)

-- two fronts of one length
fronts : (a b x y : List ℕ) → length a ≡ length b → a ++ x ≡ b ++ y → (a ≡ b) × (x ≡ y)
fronts [] [] x y e h = (refl, h)
fronts [] (c ∷ b) x y e h = absurd (omega arith)
fronts (c ∷ a) [] x y e h = absurd (omega arith)
fronts (c ∷ a) (d ∷ b) x y e h =
    let head : c ≡ d = cc in
    let rest : a ++ x ≡ b ++ y = ap (drop 1) h in
    let same = fronts a b x y (omega arith) rest in
    let front : a ≡ b = same.0 in
    (cc, same.1)

abbrev of_parts : List ℕ → NodeId → Identity
of_parts name id = record { name = name; id = id }

abbrev of_bytes : List ℕ → NodeId
of_bytes bytes = record { 0 = bytes }

identity_parts : (a b : Identity) → a.name ≡ b.name → a.id.0 ≡ b.id.0 → a ≡ b
identity_parts a b e f =
    let named : a ≡ of_parts b.name a.id = ap (λ n. of_parts n a.id) e in
    let id : a.id ≡ b.id = ap of_bytes f in
    let other : of_parts b.name a.id ≡ b = ap (λ i. of_parts b.name i) id in
    named ∙ other

identity_apart : NoneBegins → (a b : Identity) (x y : List ℕ) → IsFormed a → IsFormed b → identity_form a ++ x ≡ identity_form b ++ y → (a ≡ b) × (x ≡ y)
identity_apart law a b x y fa fb h =
    let spread : (i : Identity) (z : List ℕ) → identity_form i ++ z ≡ long_word (length i.name) ++ (i.name ++ (i.id.0 ++ z)) = λ i z. simp append_assoc in
    let whole : long_word (length a.name) ++ (a.name ++ (a.id.0 ++ x)) ≡ long_word (length b.name) ++ (b.name ++ (b.id.0 ++ y)) = sym (spread a x) ∙ h ∙ spread b y in
    let first = law uint64 (length a.name) (length b.name) (a.name ++ (a.id.0 ++ x)) (b.name ++ (b.id.0 ++ y)) fa.0 fb.0 whole in
    let second = fronts a.name b.name (a.id.0 ++ x) (b.id.0 ++ y) first.0 first.1 in
    let third = fronts a.id.0 b.id.0 x y (fa.1 ∙ sym fb.1) second.1 in
    (identity_parts a b second.0 third.0, third.1)

row_apart : NoneBegins → (us vs : List Identity) (x y : List ℕ) → length us ≡ length vs → AllByRecursion IsFormed us → AllByRecursion IsFormed vs
    → flat_map identity_form us ++ x ≡ flat_map identity_form vs ++ y → (us ≡ vs) × (x ≡ y)
row_apart law [] [] x y e fa fb h = (refl, h)
row_apart law [] (b ∷ vs) x y e fa fb h = absurd (omega arith)
row_apart law (a ∷ us) [] x y e fa fb h = absurd (omega arith)
row_apart law (a ∷ us) (b ∷ vs) x y e fa fb h =
    let whole : identity_form a ++ (flat_map identity_form us ++ x) ≡ identity_form b ++ (flat_map identity_form vs ++ y) =
    sym (append_assoc (identity_form a) (flat_map identity_form us) x) ∙ h ∙ append_assoc (identity_form b) (flat_map identity_form vs) y in
    let first = identity_apart law a b _ _ fa.0 fb.0 whole in
    let rest = row_apart law us vs x y (omega arith) fa.1 fb.1 first.1 in
    let one : a ≡ b = first.0 in
    let others : us ≡ vs = rest.0 in
    (cc, rest.1)

identities_apart : NoneBegins → (us vs : List Identity) (x y : List ℕ) → length us < 2 ^ 64 → length vs < 2 ^ 64 → AllByRecursion IsFormed us → AllByRecursion IsFormed vs
    → identities_form us ++ x ≡ identities_form vs ++ y → (us ≡ vs) × (x ≡ y)
identities_apart law us vs x y la lb fa fb h =
    let whole : long_word (length us) ++ (flat_map identity_form us ++ x) ≡ long_word (length vs) ++ (flat_map identity_form vs ++ y) =
    sym (append_assoc (long_word (length us)) (flat_map identity_form us) x) ∙ h ∙ append_assoc (long_word (length vs)) (flat_map identity_form vs) y in
    let first = law uint64 (length us) (length vs) _ _ la lb whole in
    row_apart law us vs x y first.0 fa fb first.1

abbrev four : ℕ → ℕ → ℕ → ℕ → Capacities
four link inbox ready decided = record { link = link; inbox = inbox; ready = ready; decided = decided }

capacity_parts : (a b : Capacities) → a.link ≡ b.link → a.inbox ≡ b.inbox → a.ready ≡ b.ready → a.decided ≡ b.decided → a ≡ b
capacity_parts a b e f g h =
    let first : a ≡ four b.link a.inbox a.ready a.decided = ap (λ n. four n a.inbox a.ready a.decided) e in
    let second : four b.link a.inbox a.ready a.decided ≡ four b.link b.inbox a.ready a.decided = ap (λ n. four b.link n a.ready a.decided) f in
    let third : four b.link b.inbox a.ready a.decided ≡ four b.link b.inbox b.ready a.decided = ap (λ n. four b.link b.inbox n a.decided) g in
    let fourth : four b.link b.inbox b.ready a.decided ≡ b = ap (λ n. four b.link b.inbox b.ready n) h in
    first ∙ second ∙ third ∙ fourth

capacities_apart : NoneBegins → (a b : Capacities) (x y : List ℕ)
    → a.link < 2 ^ 64 → a.inbox < 2 ^ 64 → a.ready < 2 ^ 64 → a.decided < 2 ^ 64 → b.link < 2 ^ 64 → b.inbox < 2 ^ 64 → b.ready < 2 ^ 64 → b.decided < 2 ^ 64
    → capacities_form a ++ x ≡ capacities_form b ++ y → (a ≡ b) × (x ≡ y)
capacities_apart law a b x y al ai ar ad bl bi br bd h =
    let spread : (c : Capacities) (z : List ℕ) → capacities_form c ++ z ≡ long_word c.link ++ (long_word c.inbox ++ (long_word c.ready ++ (long_word c.decided ++ z))) = λ c z. simp append_assoc in
    let whole : long_word a.link ++ (long_word a.inbox ++ (long_word a.ready ++ (long_word a.decided ++ x))) ≡ long_word b.link ++ (long_word b.inbox ++ (long_word b.ready ++ (long_word b.decided ++ y))) =
    sym (spread a x) ∙ h ∙ spread b y in
    let first = law uint64 a.link b.link _ _ al bl whole in
    let second = law uint64 a.inbox b.inbox _ _ ai bi first.1 in
    let third = law uint64 a.ready b.ready _ _ ar br second.1 in
    let fourth = law uint64 a.decided b.decided x y ad bd third.1 in
    (capacity_parts a b first.0 second.0 third.0 fourth.0, fourth.1)

set_apart : NoneBegins → SetIsItsValue → (q r : QuorumTree) → Fits set_kind (set_value q) → Fits set_kind (set_value r) → set_spelling q ≡ set_spelling r → q ≡ r
set_apart law back q r fq fr h =
    let whole : spelling set_kind (set_value q) ++ [] ≡ spelling set_kind (set_value r) ++ [] = ap (λ l. l ++ []) h in
    let values = law set_kind (set_value q) (set_value r) [] [] fq fr whole in
    sym (back q) ∙ ap quorum_set_of values.0 ∙ back r

pub one_form : NoneBegins → SetIsItsValue → OneFormOneMeaning
one_form law back s t fs ft h =
    let spread : (u : Settings) → form u ≡ identity_form u.node ++ (identities_form u.names.items ++ (identities_form u.peers.items ++ (capacities_form u.capacities ++ set_spelling u.set))) = λ u. simp append_assoc in
    let whole : identity_form s.node ++ (identities_form s.names.items ++ (identities_form s.peers.items ++ (capacities_form s.capacities ++ set_spelling s.set)))
    ≡ identity_form t.node ++ (identities_form t.names.items ++ (identities_form t.peers.items ++ (capacities_form t.capacities ++ set_spelling t.set))) = sym (spread s) ∙ h ∙ spread t in
    let node = identity_apart law s.node t.node _ _ fs.node ft.node whole in
    let names = identities_apart law s.names.items t.names.items _ _ fs.names_len ft.names_len fs.names ft.names node.1 in
    let peers = identities_apart law s.peers.items t.peers.items _ _ fs.peers_len ft.peers_len fs.peers ft.peers names.1 in
    let capacities = capacities_apart law s.capacities t.capacities _ _ fs.link fs.inbox fs.ready fs.decided ft.link ft.inbox ft.ready ft.decided peers.1 in
    record {
      node = node.0;
      names = names.0;
      peers = peers.0;
      capacities = capacities.0;
      set = set_apart law back s.set t.set fs.set ft.set capacities.1;
    }
