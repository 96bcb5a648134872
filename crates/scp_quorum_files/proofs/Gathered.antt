-- Networks of configurations, one configuration after another.
use Rattle.std.proofs.Common.{◌≡◌, ℕ, zero, suc, ◌+◌, ◌<◌, List, [], ◌∷◌, ◌++◌, map, take, drop, length, get_or, Option, Some, None, option_map, Bor, string_bytes, refl, sym, ap, ◌∙◌, subst, inl, inr}
use Rattle.std.specs.Prelude.{IsSomeAnd}
use Rattle.std.specs.List.{All, Any, AllZip, slice_get}
use Rattle.std.proofs.lemmas.List.{take_more, map_push, map-append}
use Rattle.std.proofs.lemmas.List.Elements.{All-push, All-nil, All-weaker}
use Rattle.std.proofs.lemmas.List.Quantifiers.{Any-push}
use Rattle.std.proofs.lemmas.Option.{same_Some, none-some, slice_get_within, slice_get-get_or, slice_get-map, get_or_from_slice_get}
use Rattle.toml.specs.Data.{Members}
use Rattle.toml.specs.Parse.{parse_document}
use Rattle.scp_live_config.specs.Names.{Identity, NoTwo}
use Rattle.scp_live_config.specs.Config.{IsConfigOf, node_in}
use Rattle.scp_live_config.specs.declared.settings.Settings.{Settings}
use Rattle.scp_live_config.proofs.Lists.{at_seam, at_left, no_two_push, no_two_nil}
use Rattle.scp_live_config.proofs.Sames.{one_said, same_names}
use Rattle.scp_quorum_search.specs.declared.member.Member.{Member}
use Rattle.scp_quorum_files.specs.declared.network.Named.{Named}
use Rattle.scp_quorum_files.specs.declared.network.Network.{Network}
use Rattle.scp_quorum_files.specs.declared.configs.ConfigsFault.{ConfigsFault}
use Rattle.scp_quorum_files.specs.declared.configs.ConfigsFault.TheVariants as fault
use Rattle.scp_quorum_files.specs.Configs.{IsNamed, IsMemberOf, SaysSettings, AreConfigsOf, IsConfigsFault}
use Rattle.scp_quorum_files.specs.inside.Agreeing.{NoneHave, AddsSettings, DontAgree}
use Rattle.scp_quorum_files.proofs.Parts.{seam, zip_push}
use Rattle.scp_quorum_files.proofs.Agreed.{place_of, any_at}
use Rattle.scp_quorum_files.proofs.Reached.{any_kept}

-- ---- pairs by their places

zip_at : {A B : Type 0} (R : A → B → Type 0) (xs : List A) (ys : List B) (i : ℕ) (x : A) → AllZip R xs ys → slice_get xs i ≡ Some x → (y : B) × (slice_get ys i ≡ Some y) × R x y
zip_at R [] ys i x zip at = absurd (none-some x at)
zip_at R (a ∷ xs) [] i x zip at = absurd zip
zip_at R (a ∷ xs) (b ∷ ys) zero x zip at = let P : _ → Type 0 = λ z. R z b in (b, refl, subst P (same_Some a x at) zip.0)
zip_at R (a ∷ xs) (b ∷ ys) (suc i) x zip at = zip_at R xs ys i x zip.1 at

zip_back : {A B : Type 0} (R : A → B → Type 0) (xs : List A) (ys : List B) (i : ℕ) (y : B) → AllZip R xs ys → slice_get ys i ≡ Some y → (x : A) × (slice_get xs i ≡ Some x) × R x y
zip_back R [] [] i y zip at = absurd (none-some y at)
zip_back R [] (b ∷ ys) i y zip at = absurd zip
zip_back R (a ∷ xs) [] i y zip at = absurd zip
zip_back R (a ∷ xs) (b ∷ ys) zero y zip at = let P : _ → Type 0 = λ z. R a z in (a, refl, subst P (same_Some b y at) zip.0)
zip_back R (a ∷ xs) (b ∷ ys) (suc i) y zip at = zip_back R xs ys i y zip.1 at

all_place : {X : Type 0} (P : X → Type 0) (xs : List X) (i : ℕ) (x : X) → All P xs → slice_get xs i ≡ Some x → P x
all_place P xs i x all at = subst P (get_or_from_slice_get xs i x x at) (all i x (slice_get_within xs i x at))

-- ---- what a text says is one thing

same_said : (o : Option Members) (a b : Settings) → IsSomeAnd o (λ doc. IsConfigOf doc a) → IsSomeAnd o (λ doc. IsConfigOf doc b) → (a.names.items ≡ b.names.items) × (a.node.id ≡ b.node.id)
same_said None a b h k = absurd h
same_said (Some doc) a b h k =
    let names : a.names.items ≡ b.names.items = same_names doc a.names.items b.names.items h.names k.names in
    let P : List Identity → Type 0 = λ ns. node_in ns doc ≡ Some a.node in
    (names, ap (λ (i : Identity). i.id) (one_said a.node b.node (subst P names h.node) k.node))

-- ---- one configuration more

pub configs_none : (network : Network) → network.nodes.items ≡ [] → network.members.items ≡ [] → network.strays.items ≡ [] → network.organisations.items ≡ [] → AreConfigsOf [] network
configs_none network nodes members strays organisations =
    let M : List Member → Type 0 = λ ms. AllZip IsMemberOf [] ms in
    let O : List Member → Type 0 = λ ms. NoTwo (λ (m : Member). m.node) ms in
    let N : List Named → Type 0 = λ ns. All (λ node. Any (λ (s : Settings). Any (λ i. IsNamed i node) s.names.items) []) ns in
    let T : List Named → Type 0 = λ ns. NoTwo (λ (node : Named). string_bytes node.name) ns in
    let I : List Named → Type 0 = λ ns. NoTwo (λ (node : Named). node.id) ns in
    record {
      settings = [];
      said = tt;
      members = subst M (sym members) tt;
      once = subst O (sym members) (no_two_nil (λ (m : Member). m.node));
      named = All-nil (λ (s : Settings). All (λ i. Any (IsNamed i) network.nodes.items) s.names.items);
      no_more = subst N (sym nodes) (All-nil (λ node. Any (λ (s : Settings). Any (λ i. IsNamed i node) s.names.items) []));
      names = subst T (sym nodes) (no_two_nil (λ (node : Named). string_bytes node.name));
      ids = subst I (sym nodes) (no_two_nil (λ (node : Named). node.id));
      no_strays = strays;
      no_organisations = organisations;
    }

module _ (texts : List (List ℕ)) (text : List ℕ) (old : Network) (so_far : AreConfigsOf texts old) (s : Settings) (says : SaysSettings text s) where
  pub configs_more : (new : Network) → AddsSettings old s new → AreConfigsOf (texts ++ text ∷ []) new
  configs_more new adds =
      let M : List Member → Type 0 = λ ms. AllZip IsMemberOf (so_far.settings ++ s ∷ []) ms in
      let O : List Member → Type 0 = λ ms. NoTwo (λ (m : Member). m.node) ms in
      let apart = adds.names.apart (so_far.names, so_far.ids) in
      record {
        settings = so_far.settings ++ s ∷ [];
        said = zip_push SaysSettings texts so_far.settings text s so_far.said says;
        members = subst M (sym adds.members) (zip_push IsMemberOf so_far.settings old.members.items s adds.member so_far.members adds.member_is);
        once = subst O (sym adds.members) (no_two_push (λ (m : Member). m.node) old.members.items adds.member so_far.once (λ k m at same. adds.other (any_at (λ x. x.node ≡ s.node.id) old.members.items k m at (same ∙ adds.member_is.0))));
        named = All-push (λ (t : Settings). All (λ i. Any (IsNamed i) new.nodes.items) t.names.items) so_far.settings s
            (All-weaker (λ (t : Settings). All (λ i. Any (IsNamed i) old.nodes.items) t.names.items) (λ (t : Settings). All (λ i. Any (IsNamed i) new.nodes.items) t.names.items)
            (λ t all. All-weaker (λ i. Any (IsNamed i) old.nodes.items) (λ i. Any (IsNamed i) new.nodes.items) (λ i any. adds.names.kept i any) t.names.items all) so_far.settings so_far.named)
            adds.names.there;
        no_more = λ k d lt. of_some (get_or new.nodes.items k d) (k, get_or new.nodes.items k d, lt, get_or_from_slice_get new.nodes.items k (get_or new.nodes.items k d) (get_or new.nodes.items k d) (slice_get-get_or new.nodes.items k d lt), (refl, refl));
        names = apart.0;
        ids = apart.1;
        no_strays = ap (λ v. v.items) adds.strays ∙ so_far.no_strays;
        no_organisations = ap (λ v. v.items) adds.organisations ∙ so_far.no_organisations;
      }
    where
      of_some : (node : Named) → Any (λ (n : Named). (string_bytes n.name ≡ string_bytes node.name) × (n.id ≡ node.id)) new.nodes.items → Any (λ (t : Settings). Any (λ i. IsNamed i node) t.names.items) (so_far.settings ++ s ∷ [])
      of_some node any =
          elim (adds.names.from (record { name = string_bytes node.name; id = node.id }) any) [
            | inl before ↦ any_kept (λ (t : Settings). Any (λ i. IsNamed i node) t.names.items) so_far.settings s (of_old before)
            | inr listed ↦ Any-push (λ (t : Settings). Any (λ i. IsNamed i node) t.names.items) so_far.settings s (of_new listed)
          ]
        where
          of_old : Any (λ (n : Named). (string_bytes n.name ≡ string_bytes node.name) × (n.id ≡ node.id)) old.nodes.items → Any (λ (t : Settings). Any (λ i. IsNamed i node) t.names.items) so_far.settings
          of_old (k, n, lt, at, is) =
              let P : Named → Type 0 = λ x. Any (λ (t : Settings). Any (λ i. IsNamed i x) t.names.items) so_far.settings in
              turned n is (subst P at (so_far.no_more k n lt))
            where
              turned : (n : Named) → (string_bytes n.name ≡ string_bytes node.name) × (n.id ≡ node.id) → Any (λ (t : Settings). Any (λ i. IsNamed i n) t.names.items) so_far.settings → Any (λ (t : Settings). Any (λ i. IsNamed i node) t.names.items) so_far.settings
              turned n is (j, t, lt, at, (l, i, low, there, named)) = (j, t, lt, at, (l, i, low, there, (sym is.0 ∙ named.0, sym is.1 ∙ named.1)))

          of_new : Any (λ (j : Identity). j ≡ record { name = string_bytes node.name; id = node.id }) s.names.items → Any (λ i. IsNamed i node) s.names.items
          of_new (k, i, lt, at, is) = (k, i, lt, at, (ap (λ (j : Identity). j.name) (sym is), ap (λ (j : Identity). j.id) (sym is)))

  module _ (back : List (List ℕ)) (net : Network) (all : AreConfigsOf (texts ++ text ∷ back) net) where
    -- the settings there are those that were found
    here : (t : Settings) × (slice_get all.settings (length texts) ≡ Some t) × SaysSettings text t
    here = zip_at SaysSettings (texts ++ text ∷ back) all.settings (length texts) text all.said (at_seam texts text back)

    before : (j : ℕ) (a : Settings) → slice_get so_far.settings j ≡ Some a → (b : Settings) × (slice_get all.settings j ≡ Some b) × (a.names.items ≡ b.names.items) × (a.node.id ≡ b.node.id) × (j < length texts)
    before j a at =
        let said = zip_back SaysSettings texts so_far.settings j a so_far.said at in
        let found = zip_at SaysSettings (texts ++ text ∷ back) all.settings j said.0 all.said (at_left texts (text ∷ back) j said.0 said.1) in
        let same = same_said (parse_document said.0) a found.0 said.2 found.2 in
        (found.0, found.1, same.0, same.1, slice_get_within texts j said.0 said.1)

    pub not_twice : Any (λ m. m.node ≡ s.node.id) old.members.items → ⊥
    not_twice any =
        let m = place_of (λ (x : Member). x.node ≡ s.node.id) old.members.items any in
        let a = zip_back IsMemberOf so_far.settings old.members.items m.0 m.1 so_far.members m.2 in
        let b = before m.0 a.0 a.1 in
        let first = zip_at IsMemberOf all.settings net.members.items m.0 b.0 all.members b.1 in
        let second = zip_at IsMemberOf all.settings net.members.items (length texts) here.0 all.members here.1 in
        let same = same_said (parse_document text) s here.0 says here.2 in
        all.once m.0 (length texts) first.0 second.0 b.4 first.1 second.1 (first.2.0 ∙ sym b.3 ∙ sym a.2.0 ∙ m.3 ∙ same.1 ∙ sym second.2.0)

    pub not_none : NoneHave old.nodes.items s.names.items → ⊥
    not_none never =
        never net.nodes.items kept there (all.names, all.ids)
      where
        same : (s.names.items ≡ here.0.names.items) × (s.node.id ≡ here.0.node.id)
        same = same_said (parse_document text) s here.0 says here.2

        there : All (λ i. Any (IsNamed i) net.nodes.items) s.names.items
        there =
            let P : List Identity → Type 0 = λ is. All (λ i. Any (IsNamed i) net.nodes.items) is in
            subst P (sym same.0) (all_place (λ (t : Settings). All (λ i. Any (IsNamed i) net.nodes.items) t.names.items) all.settings (length texts) here.0 all.named here.1)

        with_same : (i j : Identity) (n : Named) → IsNamed i n → IsNamed j n → Any (IsNamed j) net.nodes.items → Any (IsNamed i) net.nodes.items
        with_same i j n is also (k, m, lt, at, named) = (k, m, lt, at, (named.0 ∙ sym also.0 ∙ is.0, named.1 ∙ sym also.1 ∙ is.1))

        kept : (i : Identity) → Any (IsNamed i) old.nodes.items → Any (IsNamed i) net.nodes.items
        kept i any =
            let n = place_of (IsNamed i) old.nodes.items any in
            let source = all_place (λ node. Any (λ (t : Settings). Any (λ j. IsNamed j node) t.names.items) so_far.settings) old.nodes.items n.0 n.1 so_far.no_more n.2 in
            let a = place_of (λ (t : Settings). Any (λ j. IsNamed j n.1) t.names.items) so_far.settings source in
            let j = place_of (λ j. IsNamed j n.1) a.1.names.items a.3 in
            let b = before a.0 a.1 a.2 in
            let P : List Identity → Type 0 = λ is. All (λ x. Any (IsNamed x) net.nodes.items) is in
            let listed : All (λ x. Any (IsNamed x) net.nodes.items) a.1.names.items = subst P (sym b.2) (all_place (λ (t : Settings). All (λ x. Any (IsNamed x) net.nodes.items) t.names.items) all.settings a.0 b.0 all.named b.1) in
            with_same i j.1 n.1 n.3 j.3 (all_place (λ x. Any (IsNamed x) net.nodes.items) a.1.names.items j.0 j.1 listed j.2)

-- ---- the texts by their places

module _ (ts : List (Bor (List ℕ))) (i : ℕ) (d : Bor (List ℕ)) (lt : i < length ts) where
  now_more : map (λ text. text.now) (take (i + 1) ts) ≡ map (λ text. text.now) (take i ts) ++ (get_or ts i d).now ∷ []
  now_more = ap (map (λ (text : Bor (List ℕ)). text.now)) (take_more ts i d lt) ∙ map_push (λ (text : Bor (List ℕ)). text.now) (take i ts) (get_or ts i d)

  now_seam : map (λ text. text.now) ts ≡ map (λ text. text.now) (take i ts) ++ (get_or ts i d).now ∷ map (λ text. text.now) (drop (suc i) ts)
  now_seam =
      let here : get_or ts i d ≡ get_or ts i (get_or ts i d) = sym (get_or_from_slice_get ts i (get_or ts i d) (get_or ts i d) (slice_get-get_or ts i d lt)) in
      ap (map (λ (text : Bor (List ℕ)). text.now)) (seam ts i (get_or ts i d) lt here) ∙ map-append (λ (text : Bor (List ℕ)). text.now) (take i ts) (get_or ts i d ∷ drop (suc i) ts)

  pub now_at : slice_get (map (λ text. text.now) ts) i ≡ Some (get_or ts i d).now
  now_at = slice_get-map (λ (text : Bor (List ℕ)). text.now) ts i ∙ ap (option_map (λ (text : Bor (List ℕ)). text.now)) (slice_get-get_or ts i d lt)

  module _ (old : Network) (so_far : AreConfigsOf (map (λ text. text.now) (take i ts)) old) (s : Settings) (says : SaysSettings (get_or ts i d).now s) where
    pub configs_step : (new : Network) → AddsSettings old s new → AreConfigsOf (map (λ text. text.now) (take (i + 1) ts)) new
    configs_step new adds =
        let P : List (List ℕ) → Type 0 = λ l. AreConfigsOf l new in
        subst P (sym now_more) (configs_more (map (λ text. text.now) (take i ts)) (get_or ts i d).now old so_far s says new adds)

    pub refused_by : (f : ConfigsFault) → DontAgree old s f → IsConfigsFault (map (λ text. text.now) ts) f
    refused_by fault.NoMemory told = tt
    refused_by (fault.Config place wrong) told = absurd told
    refused_by (fault.Twice place) told = λ net are.
        let P : List (List ℕ) → Type 0 = λ l. AreConfigsOf l net in
        not_twice (map (λ text. text.now) (take i ts)) (get_or ts i d).now old so_far s says (map (λ text. text.now) (drop (suc i) ts)) net (subst P now_seam are) told
    refused_by (fault.Names place) told = λ net are.
        let P : List (List ℕ) → Type 0 = λ l. AreConfigsOf l net in
        not_none (map (λ text. text.now) (take i ts)) (get_or ts i d).now old so_far s says (map (λ text. text.now) (drop (suc i) ts)) net (subst P now_seam are) told
