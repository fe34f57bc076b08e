use Rattle.std.proofs.Common.{get_or, subst, ◌∙◌, rules, FitsSigned, pos, neg_ℤ, ◌≤ℤ◌}
use Rattle.std.specs.Int.{w32}
use Rattle.std.proofs.lemmas.Int.{to_z-of_z}
use Rattle.patterns.specs.Book.{pattern_at}
use Rattle.dual_leaves.specs.Latest.{IsListed}
use Rattle.dual_leaves.proofs.Arrivals.{arrival_within}
use Rattle.dual_leaves.proofs.latest.arrival_or.Goals as goal
use Rattle.dual_leaves.proofs.latest.arrival_or.Goals.{After-get}

within : (c : After-get) → (neg_ℤ (pos 30) ≤ℤ c.get.result.arrive) × (c.get.result.arrive ≤ℤ pos 2909)
within c =
    let there = subst (IsListed c.args.allowed.now.lists) c.in-Weight.is c.requires.there in
    arrival_within c.args.case.now c.station-limits.ensures.limits c.args.allowed.now.lists c.requires.lists c.in-Weight.at.train c.in-Weight.at.place there.0 there.1
    c.get.result (c.get.ensures ∙ (λ i. pattern_at (c.book.ensures i) c.in-Weight.at.train (get_or (c.numbers_in.ensures i) c.in-Weight.at.place 0)))

pub returns-in-Weight-clause-first : goal.returns-in-Weight-clause-first
returns-in-Weight-clause-first c =
    let fits : FitsSigned w32 c.get.result.arrive = search rules in
    simp to_z-of_z (within (goal.at.returns-in-Weight-clause-first c).After-get).0

pub returns-in-Weight-clause-last : goal.returns-in-Weight-clause-last
returns-in-Weight-clause-last c =
    let fits : FitsSigned w32 c.get.result.arrive = search rules in
    simp to_z-of_z (within (goal.at.returns-in-Weight-clause-last c).After-get).1
