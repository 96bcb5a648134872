use Rattle.std.proofs.Common.{List, ℕ, ◌++◌, ◌∙◌, ap, string_bytes}
use Rattle.scp_draw.specs.Page.{slot_heading, split_text}
use Rattle.scp_draw.proofs.Adding.{two_added}
use Rattle.scp_draw.proofs.section.write_slot_heading.Goals as goal

pub returns-clause-added : goal.returns-clause-added
returns-clause-added c =
    two_added (string_bytes c.args.out.now) (string_bytes c.write_slot.new.out) (string_bytes c.push_str.new.self) (slot_heading c.args.slot c.args.decided c.args.count) (split_text c.args.split)
    c.in_ok-write_slot.ensures.added
    (c.in_ok-push_str.ensures.bytes ∙ ap (λ (l : List ℕ). string_bytes c.write_slot.new.out ++ l) c.word_of_split.ensures)
