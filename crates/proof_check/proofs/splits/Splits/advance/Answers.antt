use Rattle.std.proofs.Common.{◌<◌, ◌++◌, ◌∷◌, [], length, ℕ}
use Rattle.proof_check.specs.declared.splits.Subtree.TheVariants.{Rest}
use Rattle.patterns.specs.Allowed.{list_of}
use Rattle.std.proofs.Common.{arith, refl, sym, ap, subst, ◌∙◌}
use Rattle.std.specs.Prelude.{reverse}
use Rattle.proof_check.specs.Due.{later}
use Rattle.proof_check.proofs.DueLemmas.{front_there, last_there, nothing_left, passed, shorter, there_still, there_turned, turned}
use Rattle.proof_check.proofs.splits.Splits.advance.Goals as goal

-- src/splits.rt:107:9
pub loop-split-init : goal.loop-split-init
loop-split-init c =
    (refl, c.requires)

-- src/splits.rt:110:21
pub turn-requires : goal.turn-requires
turn-requires c =
    last_there (length c.loop-split.self.lists.lists) c.loop-split.self.above.items c.pop.new.self.items c.in-Some.split c.in-Some.ensures.items c.loop-split.invariant.1

-- src/splits.rt:111:21
pub returns-in-Below-clause-due : goal.returns-in-Below-clause-due
returns-in-Below-clause-due c =
    c.loop-split.invariant.0
    ∙ turned c.loop-split.self.lists.lists c.turn.new.self.lists.lists c.pop.new.self.items c.loop-split.self.above.items c.turn.new.self.above.items
    c.in-Some.split (last_there (length c.loop-split.self.lists.lists) c.loop-split.self.above.items c.pop.new.self.items c.in-Some.split c.in-Some.ensures.items c.loop-split.invariant.1) c.in-Below.is c.in-Some.ensures.items c.in_ok-turn-in-Below.ensures.lists c.in_ok-turn-in-Below.ensures.open

-- src/splits.rt:111:21
pub returns-in-Below-clause-open : goal.returns-in-Below-clause-open
returns-in-Below-clause-open c =
    there_still c.loop-split.self.lists.lists c.turn.new.self.lists.lists c.in-Some.split.train c.in-Some.split.other
    (c.pop.new.self.items ++ record { train = c.in-Some.split.train; reads = Rest; other = list_of c.loop-split.self.lists.lists c.in-Some.split.train } ∷ [])
    c.turn.new.self.above.items c.in_ok-turn-in-Below.ensures.lists c.in_ok-turn-in-Below.ensures.open
    (there_turned (length c.loop-split.self.lists.lists) c.pop.new.self.items _ (front_there (length c.loop-split.self.lists.lists) c.loop-split.self.above.items c.pop.new.self.items c.in-Some.split c.in-Some.ensures.items c.loop-split.invariant.1) (last_there (length c.loop-split.self.lists.lists) c.loop-split.self.above.items c.pop.new.self.items c.in-Some.split c.in-Some.ensures.items c.loop-split.invariant.1))

-- src/splits.rt:113:34
pub rejoin-requires : goal.rejoin-requires
rejoin-requires c =
    last_there (length c.loop-split.self.lists.lists) c.loop-split.self.above.items c.pop.new.self.items c.in-Some.split c.in-Some.ensures.items c.loop-split.invariant.1

-- src/splits.rt:107:9
pub loop-split-smaller : goal.loop-split-smaller
loop-split-smaller c =
    subst (λ (n : ℕ). n < length c.loop-split.self.above.items) (sym (ap (λ v. length v.items) c.in_ok-rejoin-in-Rest.ensures.open))
    (shorter c.loop-split.self.above.items c.pop.new.self.items c.in-Some.split c.in-Some.ensures.items)

-- src/splits.rt:107:9
pub loop-split-preserved : goal.loop-split-preserved
loop-split-preserved c = (
  c.loop-split.invariant.0
      ∙ passed c.loop-split.self.lists.lists c.rejoin.new.self.lists.lists c.pop.new.self.items c.loop-split.self.above.items c.in-Some.split c.in-Rest.is
      c.in-Some.ensures.items c.in_ok-rejoin-in-Rest.ensures.lists
      ∙ ap (λ v. later c.rejoin.new.self.lists.lists (reverse v.items)) (sym c.in_ok-rejoin-in-Rest.ensures.open),
  there_still c.loop-split.self.lists.lists c.rejoin.new.self.lists.lists c.in-Some.split.train
      (c.in-Some.split.other ++ list_of c.loop-split.self.lists.lists c.in-Some.split.train) c.pop.new.self.items c.rejoin.new.self.above.items
      c.in_ok-rejoin-in-Rest.ensures.lists (ap (λ v. v.items) c.in_ok-rejoin-in-Rest.ensures.open) (front_there (length c.loop-split.self.lists.lists) c.loop-split.self.above.items c.pop.new.self.items c.in-Some.split c.in-Some.ensures.items c.loop-split.invariant.1),
)

-- src/splits.rt:102:5
pub returns-clause-due : goal.returns-clause-due
returns-clause-due c =
    c.loop-split.invariant.0 ∙ nothing_left c.loop-split.self.lists.lists c.loop-split.self.above.items (omega (arith, c.loop-split.self.above.ok.0, c.in_default.ensures.cases.0))
