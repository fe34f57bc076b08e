-- From what a search found to what `solve` gives.
use Rattle.std.proofs.Common.{◌≡◌, List, [], ◌∷◌, ◌++◌, ℕ, ◌≤◌, map, string_bytes, None, Some, Result, Ok, Err, IfOk, inl, inr, refl, sym, ◌∙◌, ap, subst, ℤ, ◌<ℤ◌, pos, true}
use Rattle.std.specs.declared.alloc.AllocError.{AllocError}
use Rattle.std.specs.declared.option.Option.{Option}
use Rattle.std.proofs.lemmas.List.{map-append}
use Rattle.command_words.specs.Command.{SolveView}
use Rattle.branching.specs.declared.found.Best.{Best}
use Rattle.branching.specs.declared.found.Found.{Found}
use Rattle.branching.specs.declared.found.Found.TheVariants.{Optimal, NoPlan, Open}
use Rattle.branching.specs.declared.found.Root.{Root}
use Rattle.branching.specs.declared.found.Shown.{Shown}
use Rattle.branching.specs.declared.found.Stopped.{Stopped}
use Rattle.branching.specs.declared.found.Priced.{Priced}
use Rattle.branching.specs.Answer.{AnswerIs, IsBelowPlan, IsNoPlan, IsOpen, IsOptimal}
use Rattle.branching.specs.Known.{IsKnown}
use Rattle.branching.specs.Bounds.{IsAtLeast}
use Rattle.branching.specs.RootLine.{is_no_plan, is_optimal, root_of, rounded_up, shown_bound, IsRoot, IsTopOrMore, ReachesGreedy}
use Rattle.leaf_bounds.specs.declared.tree.Bound.TheVariants.{AtLeast, Nothing}
use Rattle.pair_prices.specs.Case.{CaseRecord, IsCase}
use Rattle.pair_prices.specs.Plan.{IsFeasible, cost}
use Rattle.leaf_bounds.specs.Laws.{KeepsTo, TreeBounds}
use Rattle.leaf_bounds.specs.declared.leaf.Leaf.{Leaf}
use Rattle.leaf_bounds.specs.declared.tree.Bound.{Bound}
use Rattle.leaf_bounds.specs.declared.tree.Node.{Node}
use Rattle.leaf_bounds.specs.Shown.{IsTreeOf}
use Rattle.leaf_bounds.specs.Tree.{SplitTree}
use Rattle.proof_file.specs.Accepted.{IsAccepted}
use Rattle.shared_trees.specs.Written.{IsWrittenOf}
use Rattle.platform_cli.specs.Given.{NewFile, Outcome, text_outcome}
use Rattle.platform_cli.specs.Report.{bound_text, no_plan_text, open_text, optimal_text}
use Rattle.platform_cli.specs.Solve.{HasNoPlan, IsKnownAbove, IsNoPlanFor, IsOpenFor, IsOptimalFor, IsProofFile, IsRootLine, IsSolved, IsStopped, IsUndecided, known_files, plan_files}
use Rattle.platform_cli.specs.View.{file_of, known_plan, outcome_of}
use Rattle.platform_cli.specs.declared.output.Output.{Output}
use Rattle.platform_cli.specs.declared.output.OutputFile.{OutputFile}

abbrev written_file : OutputFile → List ℕ → List ℕ → Type 0
written_file file name text = (string_bytes file.name ≡ name) × (file.bytes.items ≡ text)

same_file : (file : OutputFile) (name text : List ℕ) → written_file file name text → file_of file ≡ record { name = name; bytes = text }
same_file file name text (named, held) = λ i. record { name = named i; bytes = held i }

-- a proof that is added under the name that is asked for
pub proof_pushed : (c : CaseRecord) (bound : Bound) (tree : SplitTree Leaf) (nodes : List Node) (asked : Option (List ℕ)) (name text : List ℕ) (old new : List OutputFile) (file : OutputFile)
    → asked ≡ Some name → IsTreeOf nodes tree → IsAccepted c bound text → IsWrittenOf c nodes bound text → new ≡ old ++ file ∷ [] → string_bytes file.name ≡ name → file.bytes.items ≡ text
    → (proofs : List NewFile) × IsProofFile c bound tree asked proofs × (map file_of new ≡ map file_of old ++ proofs)
proof_pushed c bound tree nodes asked name text old new file is order accepted written added named held =
    let one : NewFile = record { name = name; bytes = text } in (
      one ∷ [],
      subst (λ (o : Option (List ℕ)). IsProofFile c bound tree o (one ∷ [])) (sym is) (text, record { accepted = accepted; nodes = nodes; order = order; written = written }, refl),
      ap (map file_of) added ∙ map-append file_of old (file ∷ []) ∙ ap (λ (f : NewFile). map file_of old ++ f ∷ []) (same_file file name text (named, held)),
    )

-- the ways in which a search ends
module _ (c rules : CaseRecord) (words : SolveView) (case : c ≡ rules) where
  pub solved_optimal : (result : Result Output AllocError) → IfOk result (λ output. IsOptimalFor c words (outcome_of output)) → IfOk result (λ output. IsSolved rules words (outcome_of output))
  solved_optimal (Err e) found = tt
  solved_optimal (Ok output) found = inl (subst (λ (k : CaseRecord). IsOptimalFor k words (outcome_of output)) case found)

  pub solved_none : (result : Result Output AllocError) → IfOk result (λ output. IsNoPlanFor c words (outcome_of output)) → IfOk result (λ output. IsSolved rules words (outcome_of output))
  solved_none (Err e) found = tt
  solved_none (Ok output) found = inr (inl (subst (λ (k : CaseRecord). IsNoPlanFor k words (outcome_of output)) case found))

  pub solved_open : (result : Result Output AllocError) → IfOk result (λ output. IsOpenFor c words (outcome_of output)) → IfOk result (λ output. IsSolved rules words (outcome_of output))
  solved_open (Err e) found = tt
  solved_open (Ok output) found = inr (inr (subst (λ (k : CaseRecord). IsOpenFor k words (outcome_of output)) case found))

abbrev Pushed : CaseRecord → SolveView → Bound → SplitTree Leaf → List NewFile → List NewFile → Type 0
Pushed c words bound tree before new = (proofs : List NewFile) × IsProofFile c bound tree words.proof proofs × (new ≡ before ++ proofs)

known_above : (c : CaseRecord) (bound : ℤ) (plan : Option Priced) → IsBelowPlan bound plan → IsKnown c plan → IsKnownAbove c bound (known_plan plan)
known_above c bound None below known = known
known_above c bound (Some p) below known = (
  known.priced.feasible,
  subst (λ (z : ℤ). bound <ℤ z) known.priced.value below,
  known.greedy,
)

pub stopped_of : (c : CaseRecord) (splits : ℕ) (s : Stopped) (answer : IsOpen c splits s) → IsStopped c splits (known_plan s.plan) s.bound answer.proof
stopped_of c splits s answer = record {
  stands = answer.shown.stands;
  value = answer.value;
  spent = answer.spent;
  cheap = answer.cheap;
  more = answer.more;
  plan = known_above c s.bound s.plan answer.below answer.known;
}

-- what is given at each end of a search, with the files before the proof and behind it
module _ (c : CaseRecord) (words : SolveView) (text : List ℕ) (before new : List NewFile) where
  pub optimal_told : (b : Best) (bound : Bound) (answer : IsOptimal c words.splits b) → ((plan : List ℕ) → IsFeasible c plan → cost c b.plan.choice ≤ cost c plan)
      → IsRootLine c (AtLeast (pos (cost c b.plan.choice))) b.root → (IsTopOrMore c b.root.value → ⊥) → bound ≡ AtLeast b.cost → text ≡ optimal_text c b.plan.choice b.root
      → before ≡ plan_files words.plan b.plan.choice → Pushed c words bound answer.proof before new → IsOptimalFor c words (record { code = 0; text = text; files = new })
  optimal_told b bound answer least root below is told planned pushed = record {
    plan = b.plan.choice;
    least = record { feasible = answer.feasible; least = least };
    root = b.root;
    root_line = root;
    below_top = below;
    tree = answer.proof;
    proofs = pushed.0;
    proof = subst (λ (k : Bound). IsProofFile c k answer.proof words.proof pushed.0) (is ∙ ap (λ (z : ℤ). AtLeast z) answer.value) pushed.1;
    is = λ i. record { code = 0; text = told i; files = (pushed.2 ∙ ap (λ (l : List NewFile). l ++ pushed.0) planned) i };
  }

  pub none_told : (s : Shown) (answer : IsNoPlan c words.splits s) → HasNoPlan c → IsRootLine c Nothing s.root → (ReachesGreedy c s.root.value → ⊥) → text ≡ no_plan_text s.root
      → before ≡ [] → Pushed c words Nothing answer.proof before new → IsNoPlanFor c words (record { code = 10; text = text; files = new })
  none_told s answer none root unreached told empty pushed = record {
    none = none;
    root = s.root;
    root_line = root;
    unreached = unreached;
    tree = answer.proof;
    proofs = pushed.0;
    proof = pushed.1;
    is = λ i. record { code = 10; text = told i; files = (pushed.2 ∙ ap (λ (l : List NewFile). l ++ pushed.0) empty) i };
  }

  pub open_told : (s : Stopped) (bound : Bound) (answer : IsOpen c words.splits s) → TreeBounds → IsCase c → IsRootLine c (AtLeast s.bound) s.root → IsUndecided c s.root → bound ≡ AtLeast s.bound
      → text ≡ open_text c (known_plan s.plan) s.bound words.splits s.root → before ≡ known_files words.plan (known_plan s.plan) → Pushed c words bound answer.proof before new
      → IsOpenFor c words (record { code = 11; text = text; files = new })
  open_told s bound answer bounds case root undecided same told planned pushed = record {
    known = known_plan s.plan;
    bound = s.bound;
    tree = answer.proof;
    stopped = stopped_of c words.splits s answer;
    bounds = λ plan feasible. subst (λ (b : Bound). KeepsTo c plan b) answer.value (bounds c case answer.proof answer.shown.stands plan feasible);
    root = s.root;
    root_line = root;
    undecided = undecided;
    proofs = pushed.0;
    proof = subst (λ (k : Bound). IsProofFile c k answer.proof words.proof pushed.0) same pushed.1;
    is = λ i. record { code = 11; text = told i; files = (pushed.2 ∙ ap (λ (l : List NewFile). l ++ pushed.0) planned) i };
  }

-- what `bound` gives for a station
pub bounded_found : (c rules : CaseRecord) (root : Root) (text : List ℕ) (outcome : Outcome) → c ≡ rules → IsRoot c root → text ≡ bound_text c root → outcome ≡ text_outcome 0 text
    → (found : Root) × IsRoot rules found × (outcome ≡ text_outcome 0 (bound_text rules found))
bounded_found c rules root text outcome case line told given = (
  root,
  subst (λ (k : CaseRecord). IsRoot k root) case line,
  given ∙ ap (text_outcome 0) (told ∙ ap (λ (k : CaseRecord). bound_text k root) case),
)

-- what the root line of an answer says
module _ (c : CaseRecord) (f : Found) (splits : ℕ) (answer : AnswerIs c splits f) (line : IsRoot c (root_of f)) (above : IsAtLeast (rounded_up (root_of f).value) (shown_bound f))
    (none : IsTopOrMore c (root_of f).value → is_no_plan f ≡ true) (reached : ReachesGreedy c (root_of f).value → is_optimal f ≡ true) where
  abbrev Above : Found → Type 0
  Above g = IsAtLeast (rounded_up (root_of g).value) (shown_bound g)

  pub optimal_root : (b : Best) → f ≡ Optimal b → IsRootLine c (AtLeast (pos (cost c b.plan.choice))) b.root
  optimal_root b is =
      let own : IsOptimal c splits b = subst (AnswerIs c splits) is answer in
      record {
        line = subst (λ (g : Found). IsRoot c (root_of g)) is line;
        above = subst (λ (z : ℤ). IsAtLeast (rounded_up b.root.value) (AtLeast z)) own.value (subst Above is above);
      }

  pub optimal_below : (b : Best) → f ≡ Optimal b → IsTopOrMore c b.root.value → ⊥
  optimal_below b is top = cc (subst (λ (g : Found). IsTopOrMore c (root_of g).value → is_no_plan g ≡ true) is none top)

  pub none_root : (s : Shown) → f ≡ NoPlan s → IsRootLine c Nothing s.root
  none_root s is = record { line = subst (λ (g : Found). IsRoot c (root_of g)) is line; above = tt }

  pub none_unreached : (s : Shown) → f ≡ NoPlan s → ReachesGreedy c s.root.value → ⊥
  none_unreached s is at = cc (subst (λ (g : Found). ReachesGreedy c (root_of g).value → is_optimal g ≡ true) is reached at)

  pub open_root : (o : Stopped) → f ≡ Open o → IsRootLine c (AtLeast o.bound) o.root
  open_root o is = record { line = subst (λ (g : Found). IsRoot c (root_of g)) is line; above = subst Above is above }

  pub open_undecided : (o : Stopped) → f ≡ Open o → IsUndecided c o.root
  open_undecided o is = record {
    below_top = λ top. cc (subst (λ (g : Found). IsTopOrMore c (root_of g).value → is_no_plan g ≡ true) is none top);
    unreached = λ at. cc (subst (λ (g : Found). ReachesGreedy c (root_of g).value → is_optimal g ≡ true) is reached at);
  }
