use Rattle.std.proofs.Common.{◌≡◌, ◌+◌, [], ◌∷◌, ◌++◌, take, Ok, ◌∙◌, refl, sym, ap, subst, rules}
use Rattle.std.specs.Prelude.{IfSome}
use Rattle.std.specs.Fmt.{HasWritten}
use Rattle.std.proofs.lemmas.List.{take_more}
use Rattle.listing.specs.Listed.{each_after_a_space}
use Rattle.listing.proofs.Written.{one_more, then_written}
use Rattle.listing.proofs.ListingDisplay.fmt.Goals as goal

-- one item more is written
pub loop-item-preserved : goal.loop-item-preserved
loop-item-preserved g c = λ plain.
    let items = c.args.self.now.items.now in
    let more : take (c.loop-item.item-index + 1) items ≡ take c.loop-item.item-index items ++ c.item-item.result ∷ [] = search (rules, take_more) in
    subst (λ o. IfSome o (λ bs. HasWritten g.W.Write.write_str_gives c.write_str.new.self bs c.write.new.self))
    (sym (ap (each_after_a_space g.T.Display.output) more ∙ one_more g.T.Display.output _ c.item-item.result))
    (then_written g.W.Write.write_str_gives c.write_str.new.self c.loop-item.f c.write.new.self (Ok tt) _ _ refl (c.loop-item.invariant plain) c.in_ok-write.ensures.writes)
