use Rattle.std.proofs.Common.{List, subst}
use Rattle.transport.specs.declared.entries.Entry.{Entry}
use Rattle.transport.specs.Core.{KeepsRows}
use Rattle.transport.proofs.Plans.{placement}
use Rattle.transport.proofs.plan.complete.Goals as goal

pub returns : goal.returns
returns g c =
    let p = c.in_ok-place_all.ensures in
    let P : List Entry → Type 0 = λ l. KeepsRows l c.args.supply.now c.place_all.new.entries.items c.place_all.new.supply in
    placement c.args.supply.now p.plan (subst P c.requires.empty p.keeps) p.none c.place_all.auto.supply
