use Rattle.std.proofs.Common.{◌≡◌, ◌++◌, drop, flat_map, string_bytes}
use Rattle.scp_live_config.specs.Texts.{inner_path}
use Rattle.scp_live_config.proofs.text.write_places.Given as goal

-- with what is left it is all
abbrev pub invariant-loop-place : goal.invariant-loop-place
invariant-loop-place l = string_bytes l.out ++ flat_map inner_path (drop l.place-index l.inner) ≡ string_bytes l.fn.out ++ flat_map inner_path l.inner
