-- What is written of a message, a value or a quorum set stands in one line, and says just that.
use Rattle.std.proofs.Common.{◌≡◌, ℕ, ◌<◌, ◌≤◌, Bool, true, false, List, [], ◌∷◌, ◌++◌, length, refl, subst, arith}
use Rattle.std.specs.Prelude.{◌==◌}
use Rattle.std.specs.List.{AllByRecursion}
use Rattle.hex.specs.Hex.{IsBytes}
use Rattle.scp_kv.specs.scp_xdr.specs.Kind.{Spells, spelling}
use Rattle.scp_wire.specs.scp_quorum.specs.QuorumTree.{QuorumTree}
use Rattle.scp_wire.specs.scp_quorum.specs.QuorumKind.{set_kind, set_value}
use Rattle.scp_wire.specs.declared.message.Message.{Message}
use Rattle.scp_wire.specs.Message.{message_kind, message_value, SpellsMessage}
use Rattle.scp_text.specs.Pieces.{listed}
use Rattle.scp_text.specs.Values.{value_text}
use Rattle.scp_text.specs.Sets.{set_text}
use Rattle.scp_text.specs.Messages.{message_text, message_words}
use Rattle.scp_text.specs.Laws.{MessagesComeBack, ValuesComeBack, SetsComeBack}
use Rattle.scp_text.proofs.Items.{IsItem}
use Rattle.scp_text.proofs.Splits.{IsClear, clear_visible}
use Rattle.scp_text.proofs.Leaves.{AreBytes, Leaves, leaves, bytes_to}
use Rattle.scp_text.proofs.ValueTexts.{value_again, value_item}
use Rattle.scp_text.proofs.MessageTexts.{set_good_again, set_item}
use Rattle.scp_text.proofs.MessageItems.{message_items, text_again}

clear_both : (mark : ℕ) (xs ys : List ℕ) → IsClear mark xs → IsClear mark ys → IsClear mark (xs ++ ys)
clear_both mark [] ys p q = q
clear_both mark (x ∷ xs) ys p q = (p.0, clear_both mark xs ys p.1 q)

clear_words : (first : Bool) (ws : List (List ℕ)) → AllByRecursion IsItem ws → IsClear 10 (listed 32 first ws)
clear_words first [] h = tt
clear_words true (w ∷ ws) h = clear_both 10 w (listed 32 false ws) (clear_visible 10 w (omega arith) h.0.visible) (clear_words false ws h.1)
clear_words false (w ∷ ws) h = (refl, clear_both 10 w (listed 32 false ws) (clear_visible 10 w (omega arith) h.0.visible) (clear_words false ws h.1))

message_clear : (m : Message) (bytes : List ℕ) → AreBytes bytes → SpellsMessage bytes (message_value m) → IsClear 10 (message_text m)
unfolding message_text
message_clear m bytes are s =
    let all : Leaves message_kind (message_value m) = leaves message_kind (message_value m) (subst AreBytes s.spells.spelt are) in
    clear_words true (message_words m) (message_items m s.spells.fits all)

pub messages_come_back : MessagesComeBack
messages_come_back bytes m are s = (text_again m bytes (bytes_to bytes are) s, message_clear m bytes (bytes_to bytes are) s)

pub values_come_back : ValuesComeBack
values_come_back bytes are short =
    let item : IsItem (value_text bytes) = value_item bytes (bytes_to bytes are) in
    (value_again bytes (bytes_to bytes are) short, clear_visible 32 (value_text bytes) (omega arith) item.visible, clear_visible 10 (value_text bytes) (omega arith) item.visible)

pub sets_come_back : SetsComeBack
sets_come_back bytes s are h =
    let spelt : AreBytes (spelling set_kind (set_value s)) = subst AreBytes h.spelt (bytes_to bytes are) in
    let all : Leaves set_kind (set_value s) = leaves set_kind (set_value s) spelt in
    let item : IsItem (set_text s) = set_item s h.fits all in
    (set_good_again s h.fits all, clear_visible 32 (set_text s) (omega arith) item.visible, clear_visible 10 (set_text s) (omega arith) item.visible)
