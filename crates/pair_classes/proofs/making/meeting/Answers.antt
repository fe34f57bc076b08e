use Rattle.std.proofs.Common.{◌≡◌, refl, sym, ◌∙◌, true, false}
use Rattle.pair_classes.proofs.ListedLemmas.{found_priced}
use Rattle.pair_classes.proofs.making.meeting.Goals as goal

pub returns : goal.returns
returns c = (
  refl,
  refl,
  found_priced c.args.case.now c.args.first c.args.second c.in_ok-classes.classes c.requires.order c.requires.second
      c.in_ok-classes.ensures
      (λ all. let free = c.are_free.ensures.1 all in
      let bad : true ≡ false = sym free ∙ c.if-are_free.false in
      cc),
)
