-- What comes of a line, by the answers to its event.
use Rattle.std.proofs.Common.{◌≡◌, ◌≢◌, ℕ, Bool, true, false, Option, None, Some, refl, ap, subst, inl, inr}
use Rattle.std.specs.Prelude.{Result, Ok, Err}
use Rattle.scp_turn.specs.scp_types.specs.declared.fault.Fault.TheVariants.{Full as full}
use Rattle.scp_turn.specs.scp_core.specs.declared.event.Reply.{Reply}
use Rattle.scp_turn.specs.scp_core.specs.declared.event.Reply.TheVariants.{Accepted, Full}
use Rattle.scp_turn.specs.Kv.{Noting}
use Rattle.scp_report.specs.scp_script.specs.declared.command.Command.{Command}
use Rattle.scp_line.specs.declared.playing.PlayFault.{PlayFault}
use Rattle.scp_line.specs.Nodes.{Watching, IsWant, Offers, Settles, Acts, ActsAgain, brings_to_rest}

pub again_settle_fails : {W : Type 0} (Note : Noting W) (old new : Watching W) (command : Command) (e : PlayFault) → Settles Note old new (Err e) → ActsAgain Note old command new (Err e)
again_settle_fails Note old new command e s = inl (e, refl, s)

offers_as : {W : Type 0} (Note : Noting W) (old new : Watching W) (command : Command) (a b : Option (ℕ × Reply)) → a ≡ b → Offers Note old command a new → Offers Note old command b new
offers_as Note old new command a b e o = subst (λ (x : Option (ℕ × Reply)). Offers Note old command x new) e o

pub again_full : {W : Type 0} (Note : Noting W) (old mid new : Watching W) (command : Command) (calm : Bool) (found : Option (ℕ × Reply)) (number : ℕ) (e : PlayFault) → found ≡ Some (number, Full) → e ≡ record { fault = full; node = 0 } → Settles Note old mid (Ok calm) → Offers Note mid command found new → ActsAgain Note old command new (Err e)
again_full Note old mid new command calm found number e is told s o =
    inr (mid, calm, s, inr (inr (number, new, offers_as Note mid new command found (Some (number, Full)) is o, (refl, ap (λ (x : PlayFault). x.fault) told, ap (λ (x : PlayFault). x.node) told))))

pub again_missed : {W : Type 0} (Note : Noting W) (old mid new : Watching W) (command : Command) (calm : Bool) (found : Option (ℕ × Reply)) → found ≡ None → Settles Note old mid (Ok calm) → Offers Note mid command found new → ActsAgain Note old command new (Ok calm)
again_missed Note old mid new command calm found is s o = inr (mid, calm, s, inl (refl, offers_as Note mid new command found None is o))

pub again_accepted : {W : Type 0} (Note : Noting W) (old mid new : Watching W) (command : Command) (calm : Bool) (found : Option (ℕ × Reply)) (number : ℕ) → found ≡ Some (number, Accepted) → Settles Note old mid (Ok calm) → Offers Note mid command found new → ActsAgain Note old command new (Ok calm)
again_accepted Note old mid new command calm found number is s o = inr (mid, calm, s, inr (inl (number, refl, offers_as Note mid new command found (Some (number, Accepted)) is o)))

pub again_wants : {W : Type 0} (Note : Noting W) (old mid new : Watching W) (command : Command) (calm : Bool) (e : PlayFault) → IsWant e → Settles Note old mid (Ok calm) → ActsAgain Note old command new (Err e)
again_wants Note old mid new command calm e want s = inr (mid, calm, s, inl want)

pub again_refused : {W : Type 0} (Note : Noting W) (old mid new : Watching W) (command : Command) (calm : Bool) (found : Option (ℕ × Reply)) (e : PlayFault) (reply : Reply) → found ≡ Some (e.node, reply) → reply ≢ Accepted → reply ≢ Full → Settles Note old mid (Ok calm) → Offers Note mid command found new → ActsAgain Note old command new (Err e)
again_refused Note old mid new command calm found e reply is a f s o = inr (mid, calm, s, inr (inl (reply, a, f, offers_as Note mid new command found (Some (e.node, reply)) is o)))

pub acts_accepted : {W : Type 0} (Note : Noting W) (old new : Watching W) (command : Command) (found : Option (ℕ × Reply)) (number : ℕ) → brings_to_rest command ≡ false → found ≡ Some (number, Accepted) → Offers Note old command found new → Acts Note old command new (Ok true)
acts_accepted Note old new command found number rest is o = inr (rest, inr (inl (number, refl, offers_as Note old new command found (Some (number, Accepted)) is o)))

pub acts_full : {W : Type 0} (Note : Noting W) (old mid new : Watching W) (command : Command) (found : Option (ℕ × Reply)) (number : ℕ) (result : Result Bool PlayFault) → brings_to_rest command ≡ false → found ≡ Some (number, Full) → Offers Note old command found mid → ActsAgain Note mid command new result → Acts Note old command new result
acts_full Note old mid new command found number (Ok calm) rest is o again = inr (rest, inr (inr (number, mid, offers_as Note old mid command found (Some (number, Full)) is o, again)))
acts_full Note old mid new command found number (Err e) rest is o again = inr (rest, inr (inr (number, mid, offers_as Note old mid command found (Some (number, Full)) is o, again)))
