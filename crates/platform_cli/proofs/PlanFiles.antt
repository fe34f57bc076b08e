-- The files that are written are the plan's and the proof's, of `solve`.
use Rattle.std.proofs.Common.{◌≡◌, ◌⊎◌, inl, inr, pos, ℕ, zero, suc, ◌&&◌, not, Bool, true, false, List, [], ◌∷◌, ◌++◌, length, None, Some, refl, sym, ◌∙◌, ap, subst, arith}
use Rattle.std.specs.declared.option.Option.{Option}
use Rattle.std.specs.Prelude.{Contains}
use Rattle.std.proofs.lemmas.Option.{same_Some}
use Rattle.std.proofs.lemmas.Slice.Eq.{bytes_eq-Decides}
use Rattle.command_words.specs.Command.{CommandView, SolveView, solve, are_apart, are_one, is_file}
use Rattle.pair_prices.specs.Case.{CaseRecord, rule_case}
use Rattle.pair_prices.specs.Plan.{IsFeasible, cost}
use Rattle.plan_cost.specs.PlanText.{plan_text}
use Rattle.leaf_bounds.specs.declared.leaf.Leaf.{Leaf}
use Rattle.leaf_bounds.specs.declared.tree.Bound.{Bound}
use Rattle.leaf_bounds.specs.declared.tree.Bound.TheVariants.{AtLeast, Nothing}
use Rattle.leaf_bounds.specs.Tree.{SplitTree}
use Rattle.proof_file.specs.Accepted.{IsAccepted}
use Rattle.station.specs.Allowed.{StationRecord}
use Rattle.station_reader.specs.Reading.{taken}
use Rattle.platform_cli.specs.Asked.{Writes, plan_file_of, proof_file_of}
use Rattle.platform_cli.specs.Answers.{IsBoundTold}
use Rattle.platform_cli.specs.Given.{NewFile, Outcome}
use Rattle.platform_cli.specs.Instance.{Held, IsInstance}
use Rattle.platform_cli.specs.Outcome.{IsOutcome, usage, optimal, no_plan, stopped, tried_optimal, tried_none, tried_open, checked}
use Rattle.platform_cli.specs.Run.{Faults, HoldsPlan, HoldsProof, IsNamed, IsPlanFile, IsProofKept, Now}
use Rattle.platform_cli.specs.Solve.{IsKnownAbove, IsProofFile, known_files}
use Rattle.platform_cli.proofs.Files.{IsOldOrWhole, contained_name}

both_true : (a b : Bool) → (a && b) ≡ true → (a ≡ true) × (b ≡ true)
both_true true b is = (refl, is)
both_true false b is = absurd (cc is)

-- what `solve` writes: the plan that is known, and a proof
record Wrote (tells : Bool) (held : Held) (command : Option CommandView) (files : List NewFile) : Type 0 where
  pub words : SolveView
  pub asked : command ≡ Some (solve words)
  pub station : StationRecord
  pub read : IsInstance tells held words.instance (taken station)
  pub known : Option (List ℕ)
  pub feasible : (plan : List ℕ) → known ≡ Some plan → IsFeasible (rule_case station) plan
  pub bound : Bound
  pub tree : SplitTree Leaf
  pub proofs : List NewFile
  pub proof : IsProofFile (rule_case station) bound tree words.proof proofs
  pub are : files ≡ known_files words.plan known ++ proofs

told_none : (tells : Bool) (held : Held) (plan : Option (List ℕ)) (c : CaseRecord) (bound : Bound) (outcome : Outcome) → IsBoundTold tells held plan c bound outcome → outcome.files ≡ []
told_none tells held None c bound outcome told = ap (λ (o : Outcome). o.files) told
told_none tells held (Some name) c bound outcome (plan, there, feasible, is) = ap (λ (o : Outcome). o.files) is

-- every other answer has no file
files_of : (tells : Bool) (held : Held) (command : Option CommandView) (outcome : Outcome) → IsOutcome tells held command outcome → (outcome.files ≡ []) ⊎ Wrote tells held command outcome.files
files_of tells held command outcome (usage, is) = inl (ap (λ (o : Outcome). o.files) is.is)
files_of tells held command outcome (optimal, is) = inr (record {
  words = is.words;
  asked = is.asked;
  station = is.station;
  read = is.read;
  known = Some is.found.plan;
  feasible = λ plan same. subst (IsFeasible (rule_case is.station)) (same_Some is.found.plan plan same) is.found.least.feasible;
  bound = AtLeast (pos (cost (rule_case is.station) is.found.plan));
  tree = is.found.tree;
  proofs = is.found.proofs;
  proof = is.found.proof;
  are = ap (λ (o : Outcome). o.files) is.found.is;
})
files_of tells held command outcome (no_plan, is) = inr (record {
  words = is.words;
  asked = is.asked;
  station = is.station;
  read = is.read;
  known = None;
  feasible = λ plan same. absurd (cc same);
  bound = Nothing;
  tree = is.found.tree;
  proofs = is.found.proofs;
  proof = is.found.proof;
  are = ap (λ (o : Outcome). o.files) is.found.is;
})
files_of tells held command outcome (stopped, is) = inr (record {
  words = is.words;
  asked = is.asked;
  station = is.station;
  read = is.read;
  known = is.found.known;
  feasible = λ plan same. (subst (IsKnownAbove (rule_case is.station) is.found.bound) same is.found.stopped.plan).0;
  bound = AtLeast is.found.bound;
  tree = is.found.tree;
  proofs = is.found.proofs;
  proof = is.found.proof;
  are = ap (λ (o : Outcome). o.files) is.found.is;
})
files_of tells held command outcome (tried_optimal, is) = inl (ap (λ (o : Outcome). o.files) is.found.is)
files_of tells held command outcome (tried_none, is) = inl (ap (λ (o : Outcome). o.files) is.found.is)
files_of tells held command outcome (tried_open, is) = inl (ap (λ (o : Outcome). o.files) is.found.is)
files_of tells held command outcome (checked, is) = inl (told_none tells held is.words.plan (rule_case is.station) is.bound outcome is.told)
files_of tells held command outcome (answer, is) = inl (ap (λ (o : Outcome). o.files) is.is)

-- a file that stands in two lists
in_either : {A : Type 0} (xs ys : List A) (x : A) → Contains (xs ++ ys) x → Contains xs x ⊎ Contains ys x
in_either [] ys x there = inr there
in_either (a ∷ xs) ys x (zero, le, is) = inl (zero, omega arith, is)
in_either (a ∷ xs) ys x (suc k, le, is) = later (in_either xs ys x (k, omega (arith, le), is))
  where
    later : Contains xs x ⊎ Contains ys x → Contains (a ∷ xs) x ⊎ Contains ys x
    later (inl (j, less, at)) = inl (suc j, omega (arith, less), at)
    later (inr at) = inr at

plan_contained : (file : Option (List ℕ)) (known : Option (List ℕ)) (name bytes : List ℕ) → Contains (known_files file known) (record { name = name; bytes = bytes })
    → (file ≡ Some name) × ((plan : List ℕ) × (known ≡ Some plan) × (bytes ≡ plan_text plan))
plan_contained file None name bytes (k, le, is) = absurd (omega (arith, le))
plan_contained None (Some plan) name bytes (k, le, is) = absurd (omega (arith, le))
plan_contained (Some file) (Some plan) name bytes (zero, le, is) =
    (ap (λ (f : NewFile). Some f.name) is, (plan, refl, sym (ap (λ (f : NewFile). f.bytes) is)))
plan_contained (Some file) (Some plan) name bytes (suc k, le, is) = absurd (omega (arith, le))

proof_contained : (c : CaseRecord) (bound : Bound) (tree : SplitTree Leaf) (file : Option (List ℕ)) (proofs : List NewFile) (name bytes : List ℕ) → IsProofFile c bound tree file proofs
    → Contains proofs (record { name = name; bytes = bytes }) → (file ≡ Some name) × IsAccepted c bound bytes
proof_contained c bound tree None proofs name bytes none (k, le, is) = absurd (omega (arith, le, ap length none))
proof_contained c bound tree (Some file) proofs name bytes (text, written, made) there =
    by_place (subst (λ (fs : List NewFile). Contains {X = NewFile} fs (record { name = name; bytes = bytes })) made there)
  where
    by_place : Contains {X = NewFile} (record { name = file; bytes = text } ∷ []) (record { name = name; bytes = bytes }) → (◌≡◌ {A = Option (List ℕ)} (Some file) (Some name)) × IsAccepted c bound bytes
    by_place (zero, le, is) = (ap (λ (f : NewFile). Some f.name) is, subst (λ (b : List ℕ). IsAccepted c bound b) (ap (λ (f : NewFile). f.bytes) is) written.accepted)
    by_place (suc k, le, is) = absurd (omega (arith, le))

-- a named file with its bytes
named_bytes : (files : List NewFile) (name : List ℕ) → IsNamed files name → (bytes : List ℕ) × Contains files (record { name = name; bytes = bytes })
named_bytes [] name (k, le, is) = absurd (omega (arith, le))
named_bytes (f ∷ files) name (zero, le, is) = (f.bytes, (zero, omega arith, λ i. record { name = is i; bytes = f.bytes }))
named_bytes (f ∷ files) name (suc k, le, is) = later (named_bytes files name (k, omega (arith, le), is))
  where
    later : ((bytes : List ℕ) × Contains files (record { name = name; bytes = bytes })) → (bytes : List ℕ) × Contains (f ∷ files) (record { name = name; bytes = bytes })
    later (bytes, (j, less, at)) = (bytes, (suc j, omega (arith, less), at))

module _ (tells : Bool) (held : Held) (command : Option CommandView) (files : List NewFile) (wrote : Wrote tells held command files) where
  -- each file is the plan's or the proof's
  each_file : (name bytes : List ℕ) → Contains files (record { name = name; bytes = bytes })
      → ((wrote.words.plan ≡ Some name) × ((plan : List ℕ) × (wrote.known ≡ Some plan) × (bytes ≡ plan_text plan)))
      ⊎ ((wrote.words.proof ≡ Some name) × IsAccepted (rule_case wrote.station) wrote.bound bytes)
  each_file name bytes there = elim (in_either (known_files wrote.words.plan wrote.known) wrote.proofs _ (subst (λ (fs : List NewFile). Contains {X = NewFile} fs (record { name = name; bytes = bytes })) wrote.are there)) [
    | inl at ↦ inl (plan_contained wrote.words.plan wrote.known name bytes at)
    | inr at ↦ inr (proof_contained (rule_case wrote.station) wrote.bound wrote.tree wrote.words.proof wrote.proofs name bytes wrote.proof at)
  ]

  wrote_named : (name : List ℕ) → IsNamed files name → Writes command name
  wrote_named name named =
      let at = named_bytes files name named in
      elim (each_file name at.0 at.1) [
        | inl plan ↦ inl (ap plan_file_of wrote.asked ∙ plan.0)
        | inr proof ↦ inr (ap proof_file_of wrote.asked ∙ proof.0)
      ]

none_named : (files : List NewFile) (name : List ℕ) → files ≡ [] → IsNamed files name → ⊥
none_named files name none named = let at = named_bytes files name named in omega (arith, ap length none, at.1.1)

none_contained : (files : List NewFile) (file : NewFile) → files ≡ [] → Contains files file → ⊥
none_contained files file none (k, le, is) = omega (arith, ap length none, le)

-- a file that is written is one that the words name
pub named_written : (tells : Bool) (held : Held) (command : Option CommandView) (outcome : Outcome) (name : List ℕ) → IsOutcome tells held command outcome → IsNamed outcome.files name → Writes command name
named_written tells held command outcome name is named = elim (files_of tells held command outcome is) [
  | inl none ↦ absurd (none_named outcome.files name none named)
  | inr wrote ↦ wrote_named tells held command outcome.files wrote name named
]

-- a name that isn't written keeps what it held
pub unwritten_kept : (tells : Bool) (command : Option CommandView) (outcome : Outcome) (old new : Held) (before now : Faults) (name : List ℕ) → IsOutcome tells old command outcome → (Writes command name → ⊥)
    → IsOldOrWhole tells outcome.files old new before now name → new name ≡ old name
unwritten_kept tells command outcome old new before now name is unwritten (inl same) = same
unwritten_kept tells command outcome old new before now name is unwritten (inr (inl (bytes, there, holds))) =
    absurd (unwritten (named_written tells old command outcome name is (contained_name outcome.files (record { name = name; bytes = bytes }) there)))
unwritten_kept tells command outcome old new before now name is unwritten (inr (inr (named, rose))) =
    absurd (unwritten (named_written tells old command outcome name is named))

-- the plan's file isn't the proof's
apart_files : (words : SolveView) (name : List ℕ) → are_apart words.instance words.plan words.proof ≡ true → words.plan ≡ Some name → words.proof ≡ Some name → ⊥
apart_files words name apart plan proof =
    let parts = both_true (not (is_file words.plan words.instance) && not (is_file words.proof words.instance)) (not (are_one words.plan words.proof)) apart in
    let one : are_one words.plan words.proof ≡ true = ap (λ (o : Option (List ℕ)). are_one o words.proof) plan ∙ ap (λ (o : Option (List ℕ)). are_one (Some name) o) proof ∙ (bytes_eq-Decides name name).1 refl in
    cc (parts.1, one)

module _ (tells : Bool) (command : Option CommandView) (outcome : Outcome) (old new : Held) (before now : Faults) (words : SolveView) (name : List ℕ) (is : IsOutcome tells old command outcome)
    (asked : command ≡ Some (solve words)) (apart : are_apart words.instance words.plan words.proof ≡ true) where
  same_words : (wrote : Wrote tells old command outcome.files) → wrote.words ≡ words
  same_words wrote = cc (asked, wrote.asked)

  holds_plan : (wrote : Wrote tells old command outcome.files) (bytes : List ℕ) → words.plan ≡ Some name → Contains outcome.files (record { name = name; bytes = bytes }) → Now tells (new name) bytes
      → HoldsPlan tells old (new name) words.instance
  holds_plan wrote bytes named there holds =
      let same : wrote.words ≡ words = same_words wrote in
      elim (each_file tells old command outcome.files wrote name bytes there) [
        | inl at ↦ record {
          station = wrote.station;
          read = subst (λ (w : SolveView). IsInstance tells old w.instance (taken wrote.station)) same wrote.read;
          plan = at.1.0;
          feasible = wrote.feasible at.1.0 at.1.1;
          holds = subst (λ (b : List ℕ). Now tells (new name) b) at.1.2 holds;
        }
        | inr at ↦ absurd (apart_files words name apart named (sym (ap (λ (w : SolveView). w.proof) same) ∙ at.0))
      ]

  holds_proof : (wrote : Wrote tells old command outcome.files) (bytes : List ℕ) → words.proof ≡ Some name → Contains outcome.files (record { name = name; bytes = bytes }) → Now tells (new name) bytes
      → HoldsProof tells old (new name) words.instance
  holds_proof wrote bytes named there holds =
      let same : wrote.words ≡ words = same_words wrote in
      elim (each_file tells old command outcome.files wrote name bytes there) [
        | inl at ↦ absurd (apart_files words name apart (sym (ap (λ (w : SolveView). w.plan) same) ∙ at.0) named)
        | inr at ↦ record {
          station = wrote.station;
          read = subst (λ (w : SolveView). IsInstance tells old w.instance (taken wrote.station)) same wrote.read;
          bound = wrote.bound;
          text = bytes;
          accepted = at.1;
          holds = holds;
        }
      ]

  -- what the plan's file holds after an outcome
  pub plan_kept : words.plan ≡ Some name → IsOldOrWhole tells outcome.files old new before now name → IsPlanFile tells old new before now words.instance name
  plan_kept named (inl same) = inl same
  plan_kept named (inr (inr (at, rose))) = inr (inr rose)
  plan_kept named (inr (inl (bytes, there, holds))) = elim (files_of tells old command outcome is) [
    | inl none ↦ absurd (none_contained outcome.files (record { name = name; bytes = bytes }) none there)
    | inr wrote ↦ inr (inl (holds_plan wrote bytes named there holds))
  ]

  -- and the proof's file
  pub proof_kept : words.proof ≡ Some name → IsOldOrWhole tells outcome.files old new before now name → IsProofKept tells old new before now words.instance name
  proof_kept named (inl same) = inl same
  proof_kept named (inr (inr (at, rose))) = inr (inr rose)
  proof_kept named (inr (inl (bytes, there, holds))) = elim (files_of tells old command outcome is) [
    | inl none ↦ absurd (none_contained outcome.files (record { name = name; bytes = bytes }) none there)
    | inr wrote ↦ inr (inl (holds_proof wrote bytes named there holds))
  ]
