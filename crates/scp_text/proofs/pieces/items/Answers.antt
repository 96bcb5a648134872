use Rattle.std.proofs.Common.{◌≡◌, ◌≤◌, ◌<◌, ◌∙◌, ◌∷◌, [], ◌++◌, ◌+◌, map, sym, ap, arith, List, ℕ, Bor, length, drop, get_or, true, false}
use Rattle.std.specs.List.{slice_range}
use Rattle.std.proofs.lemmas.List.{map_push}
use Rattle.scp_text.specs.Pieces.{cuts, depth_after, parts, items_in}
use Rattle.scp_text.proofs.Items.{cut_step, go_step, last_step, deeper, prepend, items_some}
use Rattle.scp_text.proofs.Rows.{now_of}
use Rattle.scp_text.proofs.pieces.items.Goals as goal
use Rattle.scp_text.proofs.pieces.items.Goals.{then-cuts+in_ok-push, else-cuts}

pub loop-index-preserved : goal.loop-index-preserved
loop-index-preserved c =
    let text = c.args.text.now in
    let i = c.loop-index.index in
    let old = c.loop-index.items.items in
    let within : i < length text = omega arith in
    elim c.if-cuts.branch [
      | then-cuts+in_ok-push w ↦
          let yes_cut : cuts (get_or text i 0) c.loop-index.depth ≡ true = sym c.cuts.ensures ∙ w.if-cuts.true in
          let item = slice_range text c.loop-index.start i in
          let pushed : map now_of w.push.new.self.items ≡ map now_of old ++ item ∷ [] = rw w.in_ok-push.ensures.items (map_push now_of old _) in
          let same : map now_of c.if-cuts.items.items ≡ map now_of old ++ item ∷ [] = ap (λ v. map now_of v.items) w.items-is ∙ pushed in
          record {
            begun = omega (arith, w.start-is);
            deep = omega (arith, w.depth-is, c.loop-index.invariant.deep);
            all = rw (same, w.depth-is, w.start-is) (cut_step (map now_of old) text c.loop-index.start i c.loop-index.depth (parts 0 text) c.loop-index.invariant.begun within yes_cut c.loop-index.invariant.all);
          }
      | else-cuts w ↦
          let no_cut : cuts (get_or text i 0) c.loop-index.depth ≡ false = sym c.cuts.ensures ∙ w.if-cuts.false in
          let depth : c.if-cuts.depth ≡ depth_after (get_or text i 0) c.loop-index.depth = w.depth-is ∙ w.depth_after-depth.ensures in
          record {
            begun = omega (arith, w.start-is, c.loop-index.invariant.begun);
            deep = rw depth (deeper (get_or text i 0) c.loop-index.depth i c.loop-index.invariant.deep);
            all = rw (w.items-is, depth, w.start-is) (go_step (map now_of old) text c.loop-index.start i c.loop-index.depth (parts 0 text) c.loop-index.invariant.begun within no_cut c.loop-index.invariant.all);
          }
    ]

pub returns : goal.returns
returns c =
    let text = c.args.text.now in
    let i = c.loop-index.index in
    let old = c.loop-index.items.items in
    let end : i ≡ length text = omega arith in
    let item = slice_range text c.loop-index.start (length text) in
    let pushed : map now_of c.push-2.new.self.items ≡ map now_of old ++ item ∷ [] = rw c.in_ok-push-2.ensures.items (map_push now_of old _) in
    pushed ∙ last_step (map now_of old) text c.loop-index.start i c.loop-index.depth (parts 0 text) end c.loop-index.invariant.all ∙ items_some text (sym c.is_empty.ensures ∙ c.if-is_empty.false)
