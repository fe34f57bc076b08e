-- From what a search found to what a trial gives.
use Rattle.std.proofs.Common.{◌≡◌, inl, inr, Bool, List, ℕ, ◌≤◌, IfOk, None, Some, Result, Ok, Err, refl, ◌∙◌, ap, subst, ℤ, pos, codes}
use Rattle.std.specs.declared.option.Option.{Option}
use Rattle.command_words.specs.Command.{GeneratedView, trial}
use Rattle.pair_prices.specs.Case.{CaseRecord, IsCase}
use Rattle.pair_prices.specs.Plan.{IsFeasible, cost}
use Rattle.branching.specs.declared.found.Best.{Best}
use Rattle.branching.specs.declared.found.Shown.{Shown}
use Rattle.branching.specs.declared.found.Stopped.{Stopped}
use Rattle.branching.specs.Answer.{IsOpen, IsOptimal}
use Rattle.branching.specs.RootLine.{IsTopOrMore, ReachesGreedy}
use Rattle.leaf_bounds.specs.declared.tree.Bound.TheVariants.{AtLeast, Nothing}
use Rattle.leaf_bounds.specs.Laws.{KeepsTo, TreeBounds}
use Rattle.leaf_bounds.specs.declared.tree.Bound.{Bound}
use Rattle.proof_file.specs.Accepted.{IsAccepted}
use Rattle.proof_rules.specs.Laws.{AcceptedExactly}
use Rattle.proof_rules.specs.Verdict.{verdict}
use Rattle.platform_cli.specs.Given.{Outcome, text_outcome}
use Rattle.platform_cli.specs.Instance.{Held}
use Rattle.platform_cli.specs.Outcome.{IsOutcome, tried_optimal, tried_none, tried_open}
use Rattle.platform_cli.specs.Report.{trial_text}
use Rattle.platform_cli.specs.Solve.{HasNoPlan, IsRootLine, IsUndecided}
use Rattle.platform_cli.specs.Trial.{IsNoPlanTrial, IsOpenTrial, IsOptimalTrial, IsProvable, IsTrial, known_price, trial_case, trial_splits}
use Rattle.platform_cli.specs.View.{known_plan, outcome_of, proof_reading_of}
use Rattle.platform_cli.specs.declared.given_proof.GivenProof.{GivenProof}
use Rattle.platform_cli.specs.declared.output.Output.{Output}
use Rattle.platform_cli.specs.declared.output.Stop.{Stop}
use Rattle.platform_cli.proofs.SolveSteps.{stopped_of}

pub trial_answer : (tells : Bool) (held : Held) (words : GeneratedView) (outcome : Outcome) → IsTrial (trial_case words) words.trains outcome → IsOutcome tells held (Some (trial words)) outcome
trial_answer tells held words outcome (inl found) = (tried_optimal, record { words = words; asked = refl; found = found })
trial_answer tells held words outcome (inr (inl found)) = (tried_none, record { words = words; asked = refl; found = found })
trial_answer tells held words outcome (inr (inr found)) = (tried_open, record { words = words; asked = refl; found = found })

pub trial_told : (tells : Bool) (held : Held) (words : GeneratedView) (result : Result Output Stop) → IfOk result (λ output. IsTrial (trial_case words) words.trains (outcome_of output))
    → IfOk result (λ output. IsOutcome tells held (Some (trial words)) (outcome_of output))
trial_told tells held words (Err e) found = tt
trial_told tells held words (Ok output) found = trial_answer tells held words (outcome_of output) found

-- the ways in which a trial ends
module _ (c : CaseRecord) (trains : ℕ) where
  pub trial_optimal : (result : Result Output Stop) → IfOk result (λ output. IsOptimalTrial c trains (outcome_of output)) → IfOk result (λ output. IsTrial c trains (outcome_of output))
  trial_optimal (Err e) found = tt
  trial_optimal (Ok output) found = inl found

  pub trial_none : (result : Result Output Stop) → IfOk result (λ output. IsNoPlanTrial c trains (outcome_of output)) → IfOk result (λ output. IsTrial c trains (outcome_of output))
  trial_none (Err e) found = tt
  trial_none (Ok output) found = inr (inl found)

  pub trial_open : (result : Result Output Stop) → IfOk result (λ output. IsOpenTrial c trains (outcome_of output)) → IfOk result (λ output. IsTrial c trains (outcome_of output))
  trial_open (Err e) found = tt
  trial_open (Ok output) found = inr (inr found)

-- what is told at each end of a search
module _ (c : CaseRecord) (trains : ℕ) (outcome : Outcome) where
  pub optimal_summed : (b : Best) (bound : Bound) (price : Option ℤ) → IsOptimal c trial_splits b → ((plan : List ℕ) → IsFeasible c plan → cost c b.plan.choice ≤ cost c plan)
      → IsRootLine c (AtLeast (pos (cost c b.plan.choice))) b.root → (IsTopOrMore c b.root.value → ⊥) → bound ≡ AtLeast b.cost → IsProvable c bound
      → price ≡ Some b.cost → outcome ≡ text_outcome 0 (trial_text trains (codes "Optimal") price bound b.root) → IsOptimalTrial c trains outcome
  optimal_summed b bound price answer least root below is provable priced told =
      let same : bound ≡ AtLeast (pos (cost c b.plan.choice)) = is ∙ ap (λ (z : ℤ). AtLeast z) answer.value in
      record {
        plan = b.plan.choice;
        least = record { feasible = answer.feasible; least = least };
        root = b.root;
        root_line = root;
        below_top = below;
        provable = subst (λ (k : Bound). IsProvable c k) same provable;
        is = told
            ∙ ap (λ (k : Bound). text_outcome 0 (trial_text trains (codes "Optimal") price k b.root)) same
            ∙ ap (λ (o : Option ℤ). text_outcome 0 (trial_text trains (codes "Optimal") o (AtLeast (pos (cost c b.plan.choice))) b.root)) (priced ∙ ap (λ (z : ℤ). Some z) answer.value);
      }

  pub none_summed : (s : Shown) → HasNoPlan c → IsRootLine c Nothing s.root → (ReachesGreedy c s.root.value → ⊥) → IsProvable c Nothing
      → outcome ≡ text_outcome 10 (trial_text trains (codes "NoPlan") None Nothing s.root) → IsNoPlanTrial c trains outcome
  none_summed s none root unreached provable told = record {
    none = none;
    root = s.root;
    root_line = root;
    unreached = unreached;
    provable = provable;
    is = told;
  }

  pub open_summed : (s : Stopped) (bound : Bound) (price : Option ℤ) → IsOpen c trial_splits s → TreeBounds → IsCase c → IsRootLine c (AtLeast s.bound) s.root → IsUndecided c s.root → bound ≡ AtLeast s.bound → IsProvable c bound
      → price ≡ known_price c (known_plan s.plan) → outcome ≡ text_outcome 11 (trial_text trains (codes "Open") price bound s.root) → IsOpenTrial c trains outcome
  open_summed s bound price answer bounds case root undecided same provable priced told = record {
    known = known_plan s.plan;
    bound = s.bound;
    tree = answer.proof;
    stopped = stopped_of c trial_splits s answer;
    bounds = λ plan feasible. subst (λ (b : Bound). KeepsTo c plan b) answer.value (bounds c case answer.proof answer.shown.stands plan feasible);
    root = s.root;
    root_line = root;
    undecided = undecided;
    provable = subst (λ (k : Bound). IsProvable c k) same provable;
    is = told
        ∙ ap (λ (k : Bound). text_outcome 11 (trial_text trains (codes "Open") price k s.root)) same
        ∙ ap (λ (o : Option ℤ). text_outcome 11 (trial_text trains (codes "Open") o (AtLeast s.bound) s.root)) priced;
  }

-- a text that is accepted is read as its bound
module _ (exact : AcceptedExactly) (c : CaseRecord) (case : IsCase c) (bound : Bound) (text : List ℕ) (accepted : IsAccepted c bound text) (given : GivenProof)
    (read : proof_reading_of given ≡ verdict c text) where
  pub told_so : proof_reading_of given ≡ Ok bound
  told_so = read ∙ (exact c case bound text).1 accepted
