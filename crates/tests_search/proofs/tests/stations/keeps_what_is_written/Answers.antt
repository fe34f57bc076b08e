use Rattle.std.proofs.Common.{refl}
use Rattle.station.specs.Named.{is_name, is_name_byte}
use Rattle.tests_search.proofs.tests.stations.keeps_what_is_written.Goals as goal

pub new-requires : goal.new-requires
unfolding is_name is_name_byte
new-requires g c = refl
