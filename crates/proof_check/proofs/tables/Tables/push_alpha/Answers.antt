use Rattle.std.proofs.Common.{length, refl}
use Rattle.std.specs.Vec.{vec_len}
use Rattle.proof_check.specs.Tables.{alpha_added}
use Rattle.proof_check.proofs.TableLemmas.{vec_last_found, vec_last_there}
use Rattle.proof_check.proofs.tables.Tables.push_alpha.Goals as goal

pub push_alpha-requires : goal.push_alpha-requires
push_alpha-requires c =
    let ts = c.args.self.now.tables in
    vec_last_there (vec_len ts) ts.items c.in-Some.table.now ts.ok.0 (c.in-Some.ensures.variant.0 refl) c.in-Some.ensures.value (length c.args.book.now) c.requires

pub returns-in-Some : goal.returns-in-Some
returns-in-Some c =
    let ts = c.args.self.now.tables in
    vec_last_found (vec_len ts) ts.items c.in-Some.table.now ts.ok.0 (c.in-Some.ensures.variant.0 refl) c.in-Some.ensures.value
    (alpha_added c.args.book.now c.args.x.now) c.push_alpha.new.self c.push_alpha.result c.push_alpha.ensures
