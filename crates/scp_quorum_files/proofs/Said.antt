-- What a document says of a network, from its parts.
use Rattle.std.proofs.Common.{◌≡◌, ℕ, suc, ◌+◌, ◌<◌, Bool, true, false, cond, List, [], ◌∷◌, ◌++◌, map, filter, take, drop, length, get_or, Some, None, option_map, String, Global, string_bytes, arith, refl, sym, ap, ◌∙◌, subst, inl, inr}
use Rattle.std.specs.List.{AllZip, flat_map, list_any, position, slice_get}
use Rattle.std.specs.Str.{bytes_eq}
use Rattle.std.proofs.lemmas.Grind.{common_steps, flat_map-append}
use Rattle.std.proofs.lemmas.List.{append-nil, length-map, map-append, map_push, take_more}
use Rattle.std.proofs.lemmas.List.Elements.{filter-append}
use Rattle.std.proofs.lemmas.Option.{same_Some, none-some, slice_get-get_or, slice_get-map, get_or_from_slice_get}
use Rattle.serde_json.specs.Data.{Data, null, boolean, number, string, array, object}
use Rattle.serde_json.specs.Find.{as_str}
use Rattle.serde_json.specs.View.{view}
use Rattle.serde_json.specs.declared.value.Value.{Value}
use Rattle.scp_live_config.proofs.Lists.{at_push}
use Rattle.scp_quorum_search.specs.scp_types.specs.declared.names.NodeId.{NodeId}
use Rattle.scp_quorum_files.specs.declared.form.Form.{Form}
use Rattle.scp_quorum_files.specs.declared.network.Named.{Named}
use Rattle.scp_quorum_files.specs.declared.network.Network.{Network}
use Rattle.scp_quorum_files.specs.declared.network.Organisation.{Organisation}
use Rattle.scp_quorum_files.specs.declared.fault.FileFault.{FileFault}
use Rattle.scp_quorum_files.specs.declared.fault.FileFault.TheVariants as fault
use Rattle.scp_quorum_files.specs.Documents.{form_of, nodes_in, organisations_in, text_in}
use Rattle.scp_quorum_files.specs.Networks.{node_name, node_set, has_set, names_in, each_once, id_at, id_of, names_of, top_strays, node_strays, organisation_strays, SaysMember, SaysOrganisation, IsNetworkOf}
use Rattle.scp_quorum_files.specs.inside.Failing.{AreAllNames, AreNumbered, NamesFail, MemberFails, MembersFail, OrganisationsFail, DocumentFails}
use Rattle.scp_quorum_files.proofs.Parts.{not_given, given_first, same_given, zip_push, zip_lacks}
use Rattle.scp_quorum_files.proofs.Looked.{values_more}
use Rattle.scp_quorum_files.proofs.Entries.{value_seam}
use Rattle.scp_quorum_files.proofs.Once.{once_twice, once_is_once, placed}

-- ---- ids by places

-- each element by its place
maps_agree : {A B : Type 0} (f g : A → B) (xs : List A) → ((i : ℕ) (d : A) → i < length xs → f (get_or xs i d) ≡ g (get_or xs i d)) → map f xs ≡ map g xs
maps_agree f g [] agree = refl
maps_agree f g (x ∷ xs) agree =
    let here : f x ≡ g x = agree 0 x (omega arith) in
    let rest : map f xs ≡ map g xs = maps_agree f g xs (λ i d lt. agree (suc i) d (omega (arith, lt))) in
    cc

pub numbered_ids : (texts : List (List ℕ)) (nodes : List Named) → AreNumbered (each_once texts) nodes → map (λ node. id_of (names_of nodes) (string_bytes node.name)) nodes ≡ map (λ node. Some node.id) nodes
numbered_ids texts nodes (names, ids) = maps_agree (λ node. id_of (names_of nodes) (string_bytes node.name)) (λ node. Some node.id) nodes at_place
  where
    at_place : (i : ℕ) (d : Named) → i < length nodes → id_of (names_of nodes) (string_bytes (get_or nodes i d).name) ≡ Some (get_or nodes i d).id
    at_place i d lt =
        let node : Named = get_or nodes i d in
        let here : slice_get (names_of nodes) i ≡ Some (string_bytes node.name) = slice_get-map (λ (n : Named). string_bytes n.name) nodes i ∙ ap (option_map (λ (n : Named). string_bytes n.name)) (slice_get-get_or nodes i d lt) in
        let text : get_or (each_once texts) i (string_bytes node.name) ≡ string_bytes node.name = get_or_from_slice_get (each_once texts) i (string_bytes node.name) (string_bytes node.name) (ap (λ l. slice_get l i) (sym names) ∙ here) in
        let lens : length nodes ≡ length (each_once texts) = sym (length-map nodes (λ (n : Named). string_bytes n.name)) ∙ ap length names in
        let place : position (bytes_eq (get_or (each_once texts) i (string_bytes node.name))) (each_once texts) ≡ Some i = placed (each_once texts) i (string_bytes node.name) (once_is_once texts) (omega (arith, lt, lens)) in
        ap (λ l. option_map id_at (position (bytes_eq (string_bytes node.name)) l)) names
        ∙ ap (λ t. option_map id_at (position (bytes_eq t) (each_once texts))) (sym text)
        ∙ ap (option_map id_at) place
        ∙ ap Some (sym (ids i node (slice_get-get_or nodes i d lt)))

-- ---- names that nodes have

-- a node without a name
pub nameless : (form : Form) (nodes front back : List Data) (d : Data) (place : ℕ) → nodes ≡ front ++ d ∷ back → node_name form d ≡ None → NamesFail form nodes (fault.Node place)
nameless form nodes front back d place is none = (λ e. let f : fault.Node place ≡ fault.Text = e in cc, inr (λ own given once. not_given (node_name form) nodes front back d own is none given))

-- two nodes with one name
pub named_twice : (form : Form) (nodes front back : List Data) (d : Data) (so_far : List (List ℕ)) (name : List ℕ) (place : ℕ) → nodes ≡ front ++ d ∷ back → map (node_name form) front ≡ map Some so_far → node_name form d ≡ Some name
    → list_any (bytes_eq name) so_far ≡ true → NamesFail form nodes (fault.Twice place)
named_twice form nodes front back d so_far name place is before here there = (λ e. let f : fault.Twice place ≡ fault.Text = e in cc, inr never)
  where
    never : (own : List (List ℕ)) → map (node_name form) nodes ≡ map Some own → each_once own ≡ own → ⊥
    never own given once =
        let spread : map Some own ≡ map Some so_far ++ Some name ∷ map (node_name form) back =
        sym given ∙ ap (map (node_name form)) is ∙ map-append (node_name form) front (d ∷ back)
        ∙ ap (λ l. l ++ node_name form d ∷ map (node_name form) back) before ∙ ap (λ o. map Some so_far ++ o ∷ map (node_name form) back) here in
        let found = given_first own so_far name (map (node_name form) back) spread in
        let P : List (List ℕ) → Type 0 = λ l. each_once l ≡ l in
        once_twice so_far found.0 name there (subst P found.1 once)

-- ---- members and organisations

pub members_more : {A B : Type 0} (R : A → B → Type 0) (has : A → Bool) (xs : List A) (x : A) (ys : List B) (y : B) → AllZip R (filter has xs) ys → has x ≡ true → R x y → AllZip R (filter has (xs ++ x ∷ [])) (ys ++ y ∷ [])
members_more R has xs x ys y zip is_so here =
    let P : List _ → Type 0 = λ l. AllZip R l (ys ++ y ∷ []) in
    let kept : filter has (xs ++ x ∷ []) ≡ filter has xs ++ x ∷ [] = filter-append has xs (x ∷ []) ∙ ap (λ b. filter has xs ++ cond b (x ∷ []) []) is_so in
    subst P (sym kept) (zip_push R (filter has xs) ys x y zip here)

pub members_skip : {A B : Type 0} (R : A → B → Type 0) (has : A → Bool) (xs : List A) (x : A) (ys : List B) → AllZip R (filter has xs) ys → has x ≡ false → AllZip R (filter has (xs ++ x ∷ [])) ys
members_skip R has xs x ys zip not_so =
    let P : List _ → Type 0 = λ l. AllZip R l ys in
    let kept : filter has (xs ++ x ∷ []) ≡ filter has xs = filter-append has xs (x ∷ []) ∙ ap (λ b. filter has xs ++ cond b (x ∷ []) []) not_so ∙ append-nil (filter has xs) in
    subst P (sym kept) zip

pub member_lacks : (form : Form) (names : List (List ℕ)) (nodes front back : List Data) (d : Data) (f : FileFault) → nodes ≡ front ++ d ∷ back → MemberFails form names d f → MembersFail form names nodes f
member_lacks form names nodes front back d f is (not_text, inl memory) = (not_text, inl memory)
member_lacks form names nodes front back d f is (not_text, inr (has, never)) = (
  not_text,
  inr (λ members zip.
      let kept : filter (has_set form) nodes ≡ filter (has_set form) front ++ d ∷ filter (has_set form) back =
      ap (filter (has_set form)) is ∙ filter-append (has_set form) front (d ∷ back) ∙ ap (λ b. filter (has_set form) front ++ cond b (d ∷ filter (has_set form) back) (filter (has_set form) back)) has in
      let P : List Data → Type 0 = λ l. AllZip (SaysMember form names) l members in
      zip_lacks (SaysMember form names) (filter (has_set form) front) (filter (has_set form) back) d members never (subst P kept zip)),
)

pub organisation_lacks : (names : List (List ℕ)) (values front back : List Data) (d : Data) (place : ℕ) → values ≡ front ++ d ∷ back → ((o : Organisation) → SaysOrganisation names d o → ⊥) → OrganisationsFail names values (fault.Organisation place)
organisation_lacks names values front back d place is never = (
  λ e. let f : fault.Organisation place ≡ fault.Text = e in cc,
  inr (λ found zip.
      let P : List Data → Type 0 = λ l. AllZip (SaysOrganisation names) l found in
      zip_lacks (SaysOrganisation names) front back d found never (subst P is zip)),
)

-- ---- the whole document

module _ (doc : Data) where
  pub no_nodes : nodes_in (form_of doc) doc ≡ None → DocumentFails doc fault.Nodes
  no_nodes none = (λ e. let f : fault.Nodes ≡ fault.Text = e in cc, inr (λ network is. none-some is.nodes (sym none ∙ is.nodes_are)))

  pub no_organisations : organisations_in (form_of doc) doc ≡ None → (place : ℕ) → DocumentFails doc (fault.Organisation place)
  no_organisations none place = (λ e. let f : fault.Organisation place ≡ fault.Text = e in cc, inr (λ network is. none-some is.organisations.0 (sym none ∙ is.organisations.1)))

  module _ (nodes : List Data) (nodes_are : nodes_in (form_of doc) doc ≡ Some nodes) where
    same_nodes : (network : Network) (is : IsNetworkOf doc network) → is.nodes ≡ nodes
    same_nodes network is = same_Some is.nodes nodes (sym is.nodes_are ∙ nodes_are)

    pub names_fail : (f : FileFault) → NamesFail (form_of doc) nodes f → DocumentFails doc f
    names_fail f (not_text, inl memory) = (not_text, inl memory)
    names_fail f (not_text, inr never) = (
      not_text,
      inr (λ network is.
          let P : List Data → Type 0 = λ l. map (node_name (form_of doc)) l ≡ map Some is.own in
          never is.own (subst P (same_nodes network is) is.own_are) is.once),
    )

    module _ (names : List (List ℕ)) (all : AreAllNames (form_of doc) nodes names) where
      same_names : (network : Network) → IsNetworkOf doc network → names_of network.nodes.items ≡ names
      same_names network is =
          let form : Form = form_of doc in
          let P : List Data → Type 0 = λ l. map (node_name form) l ≡ map Some is.own in
          let own : is.own ≡ all.own = same_given is.own all.own (sym (subst P (same_nodes network is) is.own_are) ∙ all.own_are) in
          is.names ∙ ap (λ l. each_once (l ++ flat_map (λ d. flat_map (names_in form) (node_set form d)) is.nodes)) own
          ∙ ap (λ l. each_once (all.own ++ flat_map (λ d. flat_map (names_in form) (node_set form d)) l)) (same_nodes network is)
          ∙ sym all.names_are

      pub members_fail : (f : FileFault) → MembersFail (form_of doc) names nodes f → DocumentFails doc f
      members_fail f (not_text, inl memory) = (not_text, inl memory)
      members_fail f (not_text, inr never) = (
        not_text,
        inr (λ network is.
            let P : List Data → Type 0 = λ l. AllZip (SaysMember (form_of doc) (names_of network.nodes.items)) (filter (has_set (form_of doc)) l) network.members.items in
            let Q : List (List ℕ) → Type 0 = λ l. AllZip (SaysMember (form_of doc) l) (filter (has_set (form_of doc)) nodes) network.members.items in
            never network.members.items (subst Q (same_names network is) (subst P (same_nodes network is) is.members))),
      )

      module _ (values : List Data) (values_are : organisations_in (form_of doc) doc ≡ Some values) where
        pub organisations_fail : (f : FileFault) → OrganisationsFail names values f → DocumentFails doc f
        organisations_fail f (not_text, inl memory) = (not_text, inl memory)
        organisations_fail f (not_text, inr never) = (
          not_text,
          inr (λ network is.
              let same : is.organisations.0 ≡ values = same_Some is.organisations.0 values (sym is.organisations.1 ∙ values_are) in
              let P : List Data → Type 0 = λ l. AllZip (SaysOrganisation (names_of network.nodes.items)) l network.organisations.items in
              let Q : List (List ℕ) → Type 0 = λ l. AllZip (SaysOrganisation l) values network.organisations.items in
              never network.organisations.items (subst Q (same_names network is) (subst P same is.organisations.2))),
        )

        pub network_said : (network : Network) → AreNumbered names network.nodes.items → AllZip (SaysMember (form_of doc) names) (filter (has_set (form_of doc)) nodes) network.members.items
            → AllZip (SaysOrganisation names) values network.organisations.items
            → map string_bytes network.strays.items ≡ (top_strays (form_of doc) doc ++ flat_map (node_strays (form_of doc)) nodes) ++ flat_map (organisation_strays (form_of doc)) values
            → IsNetworkOf doc network
        network_said network numbered members organisations strays =
            let form : Form = form_of doc in
            let texts : List (List ℕ) = all.own ++ flat_map (λ d. flat_map (names_in form) (node_set form d)) nodes in
            let N : List (List ℕ) → Type 0 = λ l. AreNumbered l network.nodes.items in
            let M : List (List ℕ) → Type 0 = λ l. AllZip (SaysMember form l) (filter (has_set form) nodes) network.members.items in
            let O : List (List ℕ) → Type 0 = λ l. AllZip (SaysOrganisation l) values network.organisations.items in
            record {
              nodes = nodes;
              nodes_are = nodes_are;
              own = all.own;
              own_are = all.own_are;
              once = all.once;
              ids = numbered_ids texts network.nodes.items (subst N all.names_are numbered);
              names = numbered.0 ∙ all.names_are;
              members = subst M (sym numbered.0) members;
              organisations = (values, values_are, subst O (sym numbered.0) organisations);
              strays = (values, values_are, strays);
            }

-- ---- nodes that values name

pub no_text : (d : Data) → as_str d ≡ None → text_in d ≡ []
no_text null e = refl
no_text (boolean b) e = refl
no_text (number n) e = refl
no_text (string s) e = absurd (none-some s (sym e))
no_text (array ds) e = refl
no_text (object ms) e = refl

pub one_text : (d : Data) (text : List ℕ) → as_str d ≡ Some text → text_in d ≡ text ∷ []
one_text null text e = absurd (none-some text e)
one_text (boolean b) text e = absurd (none-some text e)
one_text (number n) text e = absurd (none-some text e)
one_text (string s) text e = ap (λ t. t ∷ []) (same_Some s text e)
one_text (array ds) text e = absurd (none-some text e)
one_text (object ms) text e = absurd (none-some text e)

pub texts_more : (vs : List Value) (i : ℕ) (v : Value) → i < length vs → v ≡ get_or vs i v → flat_map text_in (map view (take (i + 1) vs)) ≡ flat_map text_in (map view (take i vs)) ++ text_in (view v)
texts_more vs i v lt is =
    ap (flat_map text_in) (values_more vs i v lt is) ∙ flat_map-append text_in (map view (take i vs)) (view v ∷ []) ∙ ap (λ l. flat_map text_in (map view (take i vs)) ++ l) (append-nil (text_in (view v)))

pub text_missing : (names : List (List ℕ)) (vs : List Value) (i : ℕ) (v : Value) (text : List ℕ) → i < length vs → v ≡ get_or vs i v → text_in (view v) ≡ text ∷ [] → id_of names text ≡ None
    → (nodes : List NodeId) → map (id_of names) (flat_map text_in (map view vs)) ≡ map Some nodes → ⊥
text_missing names vs i v text lt is one none nodes given =
    let front : List Data = map view (take i vs) in
    let back : List Data = map view (drop (suc i) vs) in
    let spread : flat_map text_in (map view vs) ≡ flat_map text_in front ++ text ∷ flat_map text_in back =
    ap (flat_map text_in) (value_seam vs i v lt is) ∙ flat_map-append text_in front (view v ∷ back) ∙ ap (λ l. flat_map text_in front ++ (l ++ flat_map text_in back)) one in
    not_given (id_of names) (flat_map text_in (map view vs)) (flat_map text_in front) (flat_map text_in back) text nodes spread none given

-- ---- nodes by their places

pub numbered_more : (names : List (String Global)) (i : ℕ) (x : String Global) (nodes : List Named) (node : Named) → i < length names → x ≡ get_or names i x → string_bytes node.name ≡ string_bytes x → node.id ≡ id_at i
    → AreNumbered (map string_bytes (take i names)) nodes → AreNumbered (map string_bytes (take (i + 1) names)) (nodes ++ node ∷ [])
numbered_more names i x nodes node lt is name id (so_far, ids) =
    let more : map string_bytes (take (i + 1) names) ≡ map string_bytes (take i names) ++ string_bytes x ∷ [] =
    ap (map string_bytes) (take_more names i x lt ∙ ap (λ y. take i names ++ y ∷ []) (sym is)) ∙ map_push string_bytes (take i names) x in
    let taken : length (take i names) ≡ i = grind (arith, common_steps) in
    let counts : length nodes ≡ i = sym (length-map nodes (λ (n : Named). string_bytes n.name)) ∙ ap length so_far ∙ length-map (take i names) string_bytes ∙ taken in (
      map_push (λ (n : Named). string_bytes n.name) nodes node ∙ ap (λ l. l ++ string_bytes node.name ∷ []) so_far ∙ ap (λ t. map string_bytes (take i names) ++ t ∷ []) name ∙ sym more,
      λ place other at. elim (at_push nodes node place other at) [
        | inl old ↦ ids place other old
        | inr last ↦ ap (λ (n : Named). n.id) (sym last.1) ∙ id ∙ ap id_at (sym (last.0 ∙ counts))
      ],
    )
