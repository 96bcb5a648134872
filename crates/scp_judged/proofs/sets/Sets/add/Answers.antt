use Rattle.std.proofs.Common.{◌≡◌, ◌∙◌, ℕ, List, None, true, sym, ap}
use Rattle.std.specs.Prelude.{Option, is_some}
use Rattle.std.specs.Option.{option_map}
use Rattle.std.specs.BTreeMap as hash_map
use Rattle.std.specs.BTreeMap.{is_at}
use Rattle.scp_ledger.specs.scp_types.specs.declared.names.Hash.{Hash}
use Rattle.scp_judged.specs.declared.sets.Known.{Known}
use Rattle.scp_judged.specs.Named.{hash_cmp, hash_of, set_in, set_known}
use Rattle.scp_judged.proofs.Naming.{names_old, names_new, is_some_known, none_known, known_put, none_of}
use Rattle.scp_judged.proofs.sets.Sets.add.Goals as goal

pub returns-then-contains_key-clause-named : goal.returns-then-contains_key-clause-named
returns-then-contains_key-clause-named c =
    let key = c.in_ok-hash.hash in
    let old = set_in c.args.self.now in
    let same : key ≡ hash_of c.args.set = ap (λ (bytes : List ℕ). let h : Hash = record { 0 = bytes } in h) c.in_ok-hash.ensures.digest in
    let there : is_some (old key) ≡ true = is_some_known (hash_map.get hash_cmp c.args.self.now.known key) ∙ sym c.contains_key.ensures ∙ c.if-contains_key.true in
    names_old old key c.args.set same there

pub returns-clause-named : goal.returns-clause-named
returns-clause-named c =
    let key = c.in_ok-hash.hash in
    let known = hash_map.get hash_cmp c.args.self.now.known in
    let now = hash_map.get hash_cmp c.insert.new.self in
    let same : key ≡ hash_of c.args.set = ap (λ (bytes : List ℕ). let h : Hash = record { 0 = bytes } in h) c.in_ok-hash.ensures.digest in
    let absent : set_in c.args.self.now key ≡ None = none_known (known key) (none_of (known key) (sym c.contains_key.ensures ∙ c.if-contains_key.false)) in
    names_new (set_in c.args.self.now) (λ h. option_map set_known (now h)) key c.args.set same absent
    (λ h. ap (λ (o : Option Known). option_map set_known o) (c.in_ok-insert.ensures.updates.0 h) ∙ known_put (is_at (hash_cmp key) h) c.in_ok-known.known c.args.set (known h) c.in_ok-known.ensures.same)
