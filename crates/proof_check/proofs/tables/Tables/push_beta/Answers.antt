use Rattle.std.proofs.Common.{length, refl}
use Rattle.std.specs.Vec.{vec_len}
use Rattle.proof_check.specs.Tables.{beta_added}
use Rattle.proof_check.proofs.TableLemmas.{vec_last_found, vec_last_there}
use Rattle.proof_check.proofs.tables.Tables.push_beta.Goals as goal

pub push_beta-requires : goal.push_beta-requires
push_beta-requires c =
    let ts = c.args.self.now.tables in
    vec_last_there (vec_len ts) ts.items c.in-Some.table.now ts.ok.0 (c.in-Some.ensures.variant.0 refl) c.in-Some.ensures.value (length c.args.book.now) c.requires

pub returns-in-Some : goal.returns-in-Some
returns-in-Some c =
    let ts = c.args.self.now.tables in
    vec_last_found (vec_len ts) ts.items c.in-Some.table.now ts.ok.0 (c.in-Some.ensures.variant.0 refl) c.in-Some.ensures.value
    (beta_added c.args.book.now c.args.x.now) c.push_beta.new.self c.push_beta.result c.push_beta.ensures
