-- The files that a run reads.
use Rattle.std.specs.Prelude.{◌≡◌, ℕ, Bool, List, take, IfSome, IsSome, IsTrue, Result}
use Rattle.std.specs.declared.option.Option.{Option}
use Rattle.station_reader.specs.Reading.{Reading, reading}
use Rattle.pair_prices.specs.Case.{CaseRecord}
use Rattle.plan_cost.specs.PlanReading.{PlanReading, plan_reading}
use Rattle.leaf_bounds.specs.declared.tree.Bound.{Bound}
use Rattle.proof_rules.specs.declared.refused.ProofRefused.{ProofRefused}
use Rattle.proof_rules.specs.Verdict.{proof_reading}

-- what each name holds, where the shelf tells
abbrev pub Held : Type 0
Held = List ℕ → Option (List ℕ)

-- these bytes are the front of what the shelf holds under a name, where it tells
pub record IsInput (tells : Bool) (held : Held) (name : List ℕ) (most : ℕ) (bytes : List ℕ) : Type 0 where
  pub front : IfSome (held name) (λ whole. bytes ≡ take most whole)
  pub told : IsTrue tells → IsSome (held name)

-- What the shelf holds under the name, where it tells, is read as this: a station, or the first refusal with its
-- place. The bytes that were taken are read so too.
pub record IsInstance (tells : Bool) (held : Held) (name : List ℕ) (is : Reading) : Type 0 where
  pub whole : IfSome (held name) (λ whole. reading whole ≡ is)
  pub told : IsTrue tells → IsSome (held name)
  pub bytes : List ℕ
  pub read : reading bytes ≡ is

-- What the shelf holds under the name, where it tells, is read as this: a plan of the case, or the first refusal with its
-- record. The bytes that were taken are read so too.
pub record IsPlan (tells : Bool) (held : Held) (name : List ℕ) (c : CaseRecord) (is : PlanReading) : Type 0 where
  pub whole : IfSome (held name) (λ whole. plan_reading c whole ≡ is)
  pub told : IsTrue tells → IsSome (held name)
  pub bytes : List ℕ
  pub read : plan_reading c bytes ≡ is

-- What the shelf holds under the name, where it tells, is read as this: the bound of a proof of the case, or the first refusal
-- with its record. The bytes that were taken are read so too.
pub record IsProof (tells : Bool) (held : Held) (name : List ℕ) (c : CaseRecord) (is : Result Bound ProofRefused) : Type 0 where
  pub whole : IfSome (held name) (λ whole. proof_reading c whole ≡ is)
  pub told : IsTrue tells → IsSome (held name)
  pub bytes : List ℕ
  pub read : proof_reading c bytes ≡ is
