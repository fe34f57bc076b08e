use Rattle.std.proofs.Common.{sym, subst}
use Rattle.branching.specs.RootLine.{root_of, shown_bound, IsRoot}
use Rattle.branching.proofs.AnswerLemmas.{least_answer}
use Rattle.branching.proofs.RootLemmas.{above_root, none_at_top, optimal_at_greedy, rounded_root}
use Rattle.branching.proofs.solving.solve.Goals as goal

pub returns-clause-root : goal.returns-clause-root
returns-clause-root c = subst (IsRoot c.args.case.now) (sym c.in_ok-found.ensures.root) c.in_ok-search.ensures.root

pub returns-clause-above : goal.returns-clause-above
returns-clause-above c =
    let case = c.args.case.now in
    let found = c.in_ok-found.found in
    let root = subst (IsRoot case) (sym c.in_ok-found.ensures.root) c.in_ok-search.ensures.root in
    rounded_root case (root_of found).value (shown_bound found)
    (above_root case c.args.splits found c.station-station.ensures.limits c.in_ok-found.ensures.answer root c.in_ok-found.ensures.above)

pub returns-clause-none : goal.returns-clause-none
returns-clause-none c =
    let case = c.args.case.now in
    let found = c.in_ok-found.found in
    let root = subst (IsRoot case) (sym c.in_ok-found.ensures.root) c.in_ok-search.ensures.root in
    none_at_top case found (above_root case c.args.splits found c.station-station.ensures.limits c.in_ok-found.ensures.answer root c.in_ok-found.ensures.above)

pub returns-clause-reached : goal.returns-clause-reached
returns-clause-reached c =
    let case = c.args.case.now in
    let found = c.in_ok-found.found in
    let answer = c.in_ok-found.ensures.answer in
    let limits = c.station-station.ensures.limits in
    let root = subst (IsRoot case) (sym c.in_ok-found.ensures.root) c.in_ok-search.ensures.root in
    optimal_at_greedy case c.args.splits found answer (least_answer case c.args.splits found limits c.bound_of_tree.ensures answer)
    (rounded_root case (root_of found).value (shown_bound found) (above_root case c.args.splits found limits answer root c.in_ok-found.ensures.above))
