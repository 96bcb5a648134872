-- Words behind others.
use Rattle.std.proofs.Common.{◌≡◌, ℕ, Bool, true, false, List, [], ◌∷◌, ◌++◌, Result, Ok, Err, refl, sym, ◌∙◌, ap, append_assoc}
use Rattle.std.specs.Prelude.{OnOk, if◌then◌else◌}
use Rattle.scp_slot.specs.scp_types.specs.declared.fault.Fault.{Fault}
use Rattle.std.specs.Prelude.{codes}
use Rattle.std.specs.Fmt.{decimal}
use Rattle.scp_slot.specs.scp_types.specs.declared.names.NodeId.{NodeId}
use Rattle.scp_slot.specs.scp_types.specs.declared.names.Slot.{Slot}
use Rattle.scp_slot.specs.scp_envelope.specs.Kinds.{set_hash_of}
use Rattle.scp_slot.specs.scp_envelope.specs.declared.statement.Pledges.{Pledges}
use Rattle.scp_slot.specs.scp_envelope.specs.declared.statement.Pledges.TheVariants.{Prepare, Confirm, Externalize, Nominate}
use Rattle.scp_text.specs.Pieces.{listed}
use Rattle.scp_text.specs.Messages.{pledges_words, signature_words, nominate_words, prepare_words, confirm_words, externalize_words}
use Rattle.scp_stand_slot.specs.declared.names.Names.{Names}
use Rattle.scp_stand_slot.specs.Names.{node_name, name_of, with_names}

pub listed_both : (mark : ℕ) (first : Bool) (x : List ℕ) (xs ys : List (List ℕ)) → listed mark first ((x ∷ xs) ++ ys) ≡ listed mark first (x ∷ xs) ++ listed mark false ys
listed_both mark first x [] ys = sym (append_assoc (if first then x else mark ∷ x) [] (listed mark false ys))
listed_both mark first x (y ∷ xs) ys =
    ap (λ l. (if first then x else mark ∷ x) ++ l) (listed_both mark false y xs ys) ∙ sym (append_assoc (if first then x else mark ∷ x) (listed mark false (y ∷ xs)) (listed mark false ys))

pub after_words : {A : Type 0} (r : Result A Fault) (old mid new x : List ℕ) (xs ys : List (List ℕ)) → mid ≡ old ++ listed 32 true (x ∷ xs) → OnOk r (new ≡ mid ++ listed 32 false ys) → OnOk r (new ≡ old ++ listed 32 true ((x ∷ xs) ++ ys))
after_words (Ok v) old mid new x xs ys e h =
    h ∙ ap (λ l. l ++ listed 32 false ys) e ∙ append_assoc old (listed 32 true (x ∷ xs)) (listed 32 false ys) ∙ sym (ap (λ l. old ++ l) (listed_both 32 true x xs ys))
after_words (Err f) old mid new x xs ys e h = tt

-- the signature behind a statement
pub signed : {A : Type 0} (r : Result A Fault) (old mid new : List ℕ) (names : Names) (node : NodeId) (slot : Slot) (p : Pledges) (s : List ℕ)
    → mid ≡ old ++ listed 32 true (with_names (node_name names node) (name_of names (set_hash_of p)) (pledges_words node slot p)) → OnOk r (new ≡ mid ++ listed 32 false (signature_words s))
    → OnOk r (new ≡ old ++ listed 32 true (with_names (node_name names node) (name_of names (set_hash_of p)) (pledges_words node slot p ++ signature_words s)))
signed r old mid new names node slot (Nominate p) s e h = after_words r old mid new (codes "nominate") (node_name names node ∷ decimal slot.0 ∷ name_of names p.set_hash ∷ nominate_words p) (signature_words s) e h
signed r old mid new names node slot (Prepare p) s e h = after_words r old mid new (codes "prepare") (node_name names node ∷ decimal slot.0 ∷ name_of names p.set_hash ∷ prepare_words p) (signature_words s) e h
signed r old mid new names node slot (Confirm p) s e h = after_words r old mid new (codes "confirm") (node_name names node ∷ decimal slot.0 ∷ name_of names p.set_hash ∷ confirm_words p) (signature_words s) e h
signed r old mid new names node slot (Externalize p) s e h = after_words r old mid new (codes "externalize") (node_name names node ∷ decimal slot.0 ∷ name_of names p.set_hash ∷ externalize_words p) (signature_words s) e h
