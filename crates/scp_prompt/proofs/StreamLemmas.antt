-- What std's readers and writers say, in the words of devices.
use Rattle.std.proofs.Common.{◌≡◌, ℕ, List, [], ◌++◌, Option, Some, None, append-nil, refl, ◌∙◌, ap}
use Rattle.std.specs.Io.KnownBytes.{Consumes, Appends, Keeps, IsAtEnd}
use Rattle.scp_device.specs.Device.{Gains, Loses, HasEnded, Stays}

pub loses_consumed : (a b : Option (List ℕ)) (bytes : List ℕ) → Consumes a b bytes → Loses a bytes b
loses_consumed None b bytes h = tt
loses_consumed (Some xs) None bytes h = absurd h
loses_consumed (Some xs) (Some ys) bytes h = (ys, h, refl)

pub has_ended : (a b : Option (List ℕ)) → Consumes a b [] → IsAtEnd b → HasEnded a
has_ended None b h e = tt
has_ended (Some xs) None h e = absurd h
has_ended (Some xs) (Some ys) h e = h ∙ e

pub gains_appended : (a b : Option (List ℕ)) (bytes : List ℕ) → Appends a b bytes → Gains a bytes b
gains_appended None b bytes h = tt
gains_appended (Some xs) None bytes h = absurd h
gains_appended (Some xs) (Some ys) bytes h = ap Some h

pub stays_kept : (a b : Option (List ℕ)) → Keeps a b → Stays a b
stays_kept None b h = tt
stays_kept (Some xs) None h = absurd h
stays_kept (Some xs) (Some ys) h = ap Some h

pub stays_unwritten : (a b : Option (List ℕ)) → Appends a b [] → Stays a b
stays_unwritten None b h = tt
stays_unwritten (Some xs) None h = absurd h
stays_unwritten (Some xs) (Some ys) h = ap Some (h ∙ append-nil xs)
