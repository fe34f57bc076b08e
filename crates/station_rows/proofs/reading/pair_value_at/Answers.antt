use Rattle.std.proofs.Common.{FitsSigned, ap, rules, sym, ◌∙◌}
use Rattle.std.specs.Int.{w128}
use Rattle.std.proofs.lemmas.Int.{to_z-of_z}
use Rattle.station_rows.specs.Points.{weight_at}
use Rattle.station_rows.proofs.reading.pair_value_at.Goals as goal

pub returns : goal.returns
returns c = λ number e.
    let fits : FitsSigned w128 c.weight_among.result = search rules in
    to_z-of_z w128 c.weight_among.result fits ∙ c.weight_among.ensures ∙ ap (λ weights. weight_at weights c.number-number.result) c.as_slice.ensures
    ∙ ap (weight_at c.args.point.now.weights) (sym (c.number-number.ensures.alone number e))
