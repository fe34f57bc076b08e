-- Members that go into an object together. For private clauses.
use Rattle.std.specs.Prelude.{codes, map}
use Rattle.serde_json.specs.Data.{Members, string, put}
use Rattle.station.specs.declared.part.Train.{Train}
use Rattle.station.specs.Allowed.{StationRecord}
use Rattle.station_gen.specs.Json.{whole_json, minute_json, named_if_json, platforms_json, list_json, charge_json, version_number, train_json, platform_json, path_json, pair_json}
use Rattle.station_gen.specs.declared.version.Version.{Version}

abbrev pub with_times : Train → Members → Members
with_times t ms = put (codes "dwell") (whole_json t.dwell) (put (codes "depart") (minute_json t.depart) (put (codes "arrive") (minute_json t.arrive) ms))

abbrev pub with_shifts : Train → Members → Members
with_shifts t ms =
    put (codes "depart_late") (whole_json t.depart_late) (put (codes "depart_early") (whole_json t.depart_early)
    (put (codes "arrive_late") (whole_json t.arrive_late) (put (codes "arrive_early") (whole_json t.arrive_early) ms)))

abbrev pub with_prices : Train → Members → Members
with_prices t ms = put (codes "shift_price") (whole_json t.shift_price) (put (codes "off_price") (whole_json t.off_price) ms)

abbrev pub with_names : StationRecord → Train → Members → Members
with_names r t ms =
    put (codes "to") (named_if_json r.directions t.to) (put (codes "from") (named_if_json r.directions t.from) (put (codes "name") (string t.name) ms))

abbrev pub with_lists : StationRecord → Train → Members → Members
with_lists r t ms =
    put (codes "surcharges") (list_json (map (charge_json r) t.surcharges)) (put (codes "prefer") (platforms_json r t.prefer) (put (codes "platforms") (platforms_json r t.platforms) ms))

abbrev pub with_limits : Version → StationRecord → Members → Members
with_limits v r ms =
    put (codes "version") (whole_json (version_number v)) (put (codes "threshold") (whole_json r.threshold)
    (put (codes "format") (string (codes "tpp-station")) (put (codes "conflict_price") (whole_json r.conflict_price) ms)))

abbrev pub with_lists_of : Version → StationRecord → Members → Members
with_lists_of v r ms =
    put (codes "trains") (list_json (map (train_json r) r.trains)) (put (codes "platforms") (list_json (map (platform_json v) r.platforms))
    (put (codes "paths") (list_json (map (path_json r) r.paths)) (put (codes "incompatible") (list_json (map (pair_json r) r.incompatible))
    (put (codes "directions") (list_json (map string r.directions)) ms))))
